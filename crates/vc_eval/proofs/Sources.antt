-- Row steps source by source.
use Rattle.std.proofs.Common.{◌≡◌, ℕ, ◌<◌, ◌≤◌, ◌+◌, ◌-◌, ◌==◌, max, List, [], ◌∷◌, ◌++◌, All, Option, Ok, Err, length, filter, get_or, drop, map, refl, sym, ap, ◌∙◌, inl, inr, subst, zero, suc, arith, append_assoc}
use Rattle.std.specs.List.{flat_map}
use Rattle.std.proofs.lemmas.Bool.{eqb-true, eq-eqb}
use Rattle.std.proofs.lemmas.List.Elements.{All-head, All-tail}
use Rattle.vc_model.specs.WeightSet.{WeightSet}
use Rattle.vc_model.specs.Automata.{Transition, Automaton}
use Rattle.vc_model.specs.Lists.{In, up_from, below}
use Rattle.vc_model.specs.Members.{In-filter, In-filter_from, In-flat_map, In-flat_map_from, In-up_from, up_from-In}
use Rattle.vc_model.specs.OutcomeLaws.{outcome-append_ok, outcome-append_err}
use Rattle.vc_model.specs.Words.{Word, size}
use Rattle.vc_ring.specs.Steps.{outcome, fits}
use Rattle.vc_ring.specs.declared.faults.Overflow.{Overflow}
use Rattle.vc_eval.specs.Cells.{longest}
use Rattle.vc_eval.specs.Forward.{by_source, from_states}
use Rattle.vc_eval.specs.Moves.{moved, move_steps, moved_once, once_steps}
use Rattle.vc_eval.proofs.Sweeps.{next_number}
use Rattle.vc_eval.proofs.Pushes.{next_item}

pub next_source : {V : Type 0} (ts : List (Transition V)) (s n : ℕ) → s < n → from_states ts s n ≡ filter (λ u. u.from == s) ts ++ from_states ts (s + 1) n
next_source ts s n h = ap (flat_map (λ p. filter (λ u. u.from == p) ts)) (next_number s n h)

-- a list whose members all have a property
pub All_of : {X : Type 0} (P : X → Type 0) (xs : List X) → ((x : X) → In x xs → P x) → All P xs
All_of P [] h k d l = absurd (omega arith)
All_of P (x ∷ xs) h zero d l = h x (inl refl)
All_of P (x ∷ xs) h (suc k) d l = All_of P xs (λ y i. h y (inr i)) k d (omega arith)

-- and each of its members has it
pub In_all : {X : Type 0} (P : X → Type 0) (xs : List X) → All P xs → (x : X) → In x xs → P x
In_all P [] a x i = absurd i
In_all P (y ∷ ys) a x (inl e) = subst P (sym e) (All-head P y ys a)
In_all P (y ∷ ys) a x (inr i) = In_all P ys (All-tail P y ys a) x i

-- what is true of all transitions is true of those from a state
pub All_from : {V : Type 0} (P : Transition V → Type 0) (ts : List (Transition V)) (s : ℕ) → ((u : Transition V) → In u ts → P u) → All P (filter (λ u. u.from == s) ts)
All_from P ts s h = All_of P (filter (λ u. u.from == s) ts) (λ u i. h u (In-filter_from (λ u. u.from == s) u ts i).0)

-- the transitions by source are those of the automaton
pub by_source-In : {V : Type 0} (A : Automaton V) (u : Transition V) → In u (by_source A) → In u A.transitions × (u.from < A.states)
by_source-In A u i =
    let r = In-flat_map_from (λ s. filter (λ t. t.from == s) A.transitions) u (below A.states) i in
    let f = In-filter_from (λ t. t.from == r.0) u A.transitions r.2 in
    let e : u.from ≡ r.0 = eqb-true u.from r.0 f.1 in
    let b = In-up_from r.0 0 A.states r.1 in
    (f.0, omega (arith, b.1))

pub In-by_source : {V : Type 0} (A : Automaton V) (u : Transition V) → In u A.transitions → u.from < A.states → In u (by_source A)
In-by_source A u i l =
    In-flat_map (λ s. filter (λ t. t.from == s) A.transitions) u u.from (below A.states) (up_from-In u.from 0 A.states (omega arith) (omega arith))
    (In-filter (λ t. t.from == u.from) u A.transitions i (eq-eqb u.from u.from refl))

module _ {V : Type 0} (R : WeightSet V) (h : List V → Transition V → Option V) (at : ℕ) where
  pub move_steps-append : (us vs : List (Transition V)) (rows : List V) → move_steps R h at (us ++ vs) rows ≡ move_steps R h at us rows ++ move_steps R h at vs (moved R h at us rows)
  move_steps-append [] vs rows = refl
  move_steps-append (u ∷ us) vs rows =
      let next = moved_once R at (h rows u) u rows in
      ap (λ ss. once_steps R at (h rows u) u rows ++ ss) (move_steps-append us vs next)
      ∙ sym (append_assoc (once_steps R at (h rows u) u rows) (move_steps R h at us next) (move_steps R h at vs (moved R h at us next)))

  pub moved-append : (us vs : List (Transition V)) (rows : List V) → moved R h at (us ++ vs) rows ≡ moved R h at vs (moved R h at us rows)
  moved-append [] vs rows = refl
  moved-append (u ∷ us) vs rows = moved-append us vs (moved_once R at (h rows u) u rows)

  module _ (ts : List (Transition V)) (s n : ℕ) (below : s < n) (rows : List V) where
    abbrev here : List (Transition V)
    here = filter (λ u. u.from == s) ts

    pub push_rows : moved R h at (from_states ts s n) rows ≡ moved R h at (from_states ts (s + 1) n) (moved R h at (filter (λ u. u.from == s) ts) rows)
    push_rows = ap (λ us. moved R h at us rows) (next_source ts s n below) ∙ moved-append here (from_states ts (s + 1) n) rows

    split : outcome R (move_steps R h at (from_states ts s n) rows) (tt {0}) ≡ outcome R (move_steps R h at here rows ++ move_steps R h at (from_states ts (s + 1) n) (moved R h at here rows)) (tt {0})
    split =
        ap (λ us. outcome R (move_steps R h at us rows) (tt {0})) (next_source ts s n below)
        ∙ ap (λ ss. outcome R ss (tt {0})) (move_steps-append here (from_states ts (s + 1) n) rows)

    pub push_ok : outcome R (move_steps R h at (filter (λ u. u.from == s) ts) rows) (tt {0}) ≡ Ok (tt {0})
        → outcome R (move_steps R h at (from_states ts s n) rows) (tt {0}) ≡ outcome R (move_steps R h at (from_states ts (s + 1) n) (moved R h at (filter (λ u. u.from == s) ts) rows)) (tt {0})
    push_ok o = split ∙ outcome-append_ok (fits R) (move_steps R h at here rows) (move_steps R h at (from_states ts (s + 1) n) (moved R h at here rows)) (tt {0}) (tt {0}) o

    pub push_err : (e : Overflow V) → outcome R (move_steps R h at (filter (λ u. u.from == s) ts) rows) (tt {0}) ≡ Err e
        → outcome R (move_steps R h at (from_states ts s n) rows) (tt {0}) ≡ Err e
    push_err e o = split ∙ outcome-append_err (fits R) (move_steps R h at here rows) (move_steps R h at (from_states ts (s + 1) n) (moved R h at here rows)) (tt {0}) (tt {0}) e o

-- the longest label of two lists together
longest-append : {V : Type 0} (m : ℕ) (us vs : List (Transition V)) → longest m (us ++ vs) ≡ longest (longest m us) vs
longest-append m [] vs = refl
longest-append m (u ∷ us) vs = longest-append (max m (size u.label)) us vs

pub longest-states : {V : Type 0} (m : ℕ) (ts : List (Transition V)) (s n : ℕ) → s < n → longest m (from_states ts s n) ≡ longest (longest m (filter (λ u. u.from == s) ts)) (from_states ts (s + 1) n)
longest-states m ts s n l = ap (longest m) (next_source ts s n l) ∙ longest-append m (filter (λ u. u.from == s) ts) (from_states ts (s + 1) n)

same_size : {V : Type 0} {t u : Transition V} → u ≡ t → size u.label ≡ size t.label
same_size e = ap (λ z. size z.label) e

-- the longest label is at least as long as each
pub longest-least : {V : Type 0} (m : ℕ) (ts : List (Transition V)) → m ≤ longest m ts
longest-least m [] = omega arith
longest-least m (t ∷ ts) = let h = longest-least (max m (size t.label)) ts in omega (arith, h)

pub longest-In : {V : Type 0} (m : ℕ) (ts : List (Transition V)) (u : Transition V) → In u ts → size u.label ≤ longest m ts
longest-In m [] u i = absurd i
longest-In m (t ∷ ts) u (inl e) = let h = longest-least (max m (size t.label)) ts in let f = same_size e in omega (arith, h, f)
longest-In m (t ∷ ts) u (inr i) = longest-In (max m (size t.label)) ts u i

-- and no longer than a number that is so
longest-most : {V : Type 0} (m k : ℕ) (ts : List (Transition V)) → m ≤ k → ((u : Transition V) → In u ts → size u.label ≤ k) → longest m ts ≤ k
longest-most m k [] l h = l
longest-most m k (t ∷ ts) l h = let f = h t (inl refl) in longest-most (max m (size t.label)) k ts (omega (arith, f)) (λ u i. h u (inr i))

pub longest-by_source : {V : Type 0} (m : ℕ) (A : Automaton V) → ((u : Transition V) → In u A.transitions → u.from < A.states) → longest m (by_source A) ≡ longest m A.transitions
longest-by_source m A from =
    let a = longest-most m (longest m A.transitions) (by_source A) (longest-least m A.transitions) (λ u i. longest-In m A.transitions u (by_source-In A u i).0) in
    let b = longest-most m (longest m (by_source A)) A.transitions (longest-least m (by_source A)) (λ u i. longest-In m (by_source A) u (In-by_source A u i (from u i))) in
    omega (arith, a, b)

-- a word of one tape has the size of that tape
pub size_single : (w : Word) → length w ≡ 1 → size w ≡ length (get_or w 0 [])
size_single [] e = absurd (omega arith)
size_single (a ∷ []) e = omega arith
size_single (a ∷ b ∷ w) e = absurd (omega arith)

-- the longest label with an item more
pub longest-item : {T V : Type 0} (f : T → Transition V) (ts : List T) (i : ℕ) (t : T) (m k : ℕ) → i < length ts → t ≡ get_or ts i t → k ≡ max m (size (f t).label) → longest m (drop i (map f ts)) ≡ longest k (drop (i + 1) (map f ts))
longest-item f ts i t m k l e d = ap (longest m) (next_item f ts i t l e) ∙ ap (λ n. longest n (drop (i + 1) (map f ts))) (sym d)

-- no state is left
pub no_states : {V : Type 0} (ts : List (Transition V)) (s n : ℕ) → n ≤ s → from_states ts s n ≡ []
no_states ts s n l = let e : n - s ≡ 0 = omega arith in ap (λ k. flat_map (λ p. filter (λ u. u.from == p) ts) (up_from s k)) e

-- behind the last item nothing is left
pub no_items : {X : Type 0} (xs : List X) (i : ℕ) → length xs ≤ i → drop i xs ≡ []
no_items [] zero l = refl
no_items [] (suc i) l = refl
no_items (x ∷ xs) zero l = absurd (omega arith)
no_items (x ∷ xs) (suc i) l = no_items xs i (omega arith)
