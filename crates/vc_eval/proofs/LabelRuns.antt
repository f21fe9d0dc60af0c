-- Runs that are put behind others.
use Rattle.std.proofs.Common.{◌≡◌, ℕ, Bool, true, false, ◌<◌, ◌≤◌, ◌-◌, ◌==◌, List, [], ◌∷◌, ◌++◌, All, get_or, filter, length, map, take, drop, refl, sym, ap, ap₂, ◌∙◌, inl, inr, subst, zero, suc, arith, append_assoc}
use Rattle.std.specs.Prelude.{◌⊎◌}
use Rattle.std.specs.List.{flat_map}
use Rattle.std.proofs.lemmas.Bool.{eqb-true}
use Rattle.std.proofs.lemmas.List.{get_or_append_left, length-append, take-map, take_rest, take-append-drop, map-append, length-drop, append-nil}
use Rattle.std.proofs.lemmas.List.Concat.{flat_map-append}
use Rattle.std.proofs.lemmas.Bool.Decides.{nat_tests}
use Rattle.std.proofs.lemmas.List.Elements.{All-cons, All-nil, All-drop, All-push, All-take, All-weaker}
use Rattle.vc_model.specs.Automata.{Transition, Automaton}
use Rattle.vc_model.specs.Lists.{In, up_from}
use Rattle.vc_model.specs.Members.{In-filter_from, In-flat_map_from}
use Rattle.vc_model.specs.Words.{Word}
use Rattle.vc_eval.specs.Forward.{by_source, from_states}
use Rattle.vc_eval.specs.Runs.{LabelRun, IsLabelRun, IsLabelOf, AreRunsOver, run_moves}
use Rattle.vc_eval.proofs.Pushes.{All-item}
use Rattle.vc_eval.proofs.Sources.{All_of, In_all, In-by_source}

-- a run of labels with more behind them
wider : {V : Type 0} (words more : List Word) (r : LabelRun V) → IsLabelRun words r → IsLabelRun (words ++ more) r
wider words more r k = record {
  number = let n = k.number in let m = length-append words more in omega (arith, n, m);
  from = k.from;
  label = subst (λ l. All (λ u. u.label ≡ l) r.transitions) (sym (get_or_append_left words more [] r.number k.number)) k.label;
}

-- a label more, or the labels as they are
pub more_labels : {V : Type 0} (A : Automaton V) (old new : List Word) (l : Word) (rs : List (LabelRun V)) → AreRunsOver A old rs → IsLabelOf A l → (new ≡ old) ⊎ (new ≡ old ++ l ∷ []) → AreRunsOver A new rs
more_labels A old new l rs k h (inl e) = subst (λ ws. AreRunsOver A ws rs) (sym e) k
more_labels A old new l rs k h (inr e) = subst (λ ws. AreRunsOver A ws rs) (sym e) (record {
  runs = All-weaker (IsLabelRun old) (IsLabelRun (old ++ l ∷ [])) (λ r i. wider old (l ∷ []) r i) rs k.runs;
  states = k.states;
  labels = All-push (IsLabelOf A) old l k.labels h;
})

-- a run more
pub more_runs : {V : Type 0} (A : Automaton V) (words : List Word) (rs : List (LabelRun V)) (r : LabelRun V) → AreRunsOver A words rs → IsLabelRun words r → r.from < A.states → AreRunsOver A words (rs ++ r ∷ [])
more_runs {V} A words rs r k i s = record {
  runs = All-push (IsLabelRun words) rs r k.runs i;
  states = All-push (λ (r : LabelRun V). r.from < A.states) rs r k.states s;
  labels = k.labels;
}

-- each label has as many parts as those of the automaton
pub label_lengths : {V : Type 0} (A : Automaton V) (n : ℕ) (words : List Word) (rs : List (LabelRun V)) → AreRunsOver A words rs → ((u : Transition V) → In u A.transitions → length u.label ≡ n) → All (λ w. length w ≡ n) words
label_lengths A n words rs k h = λ i d l. let o = k.labels i d l in sym (ap length o.2) ∙ h o.0 o.1

-- the label of a transition is among them
pub label_among : {V : Type 0} (A : Automaton V) (words : List Word) (rs : List (LabelRun V)) → AreRunsOver A words rs → run_moves rs ≡ by_source A → (u : Transition V) → In u A.transitions → u.from < A.states
    → (k : ℕ) × (k < length words) × (u.label ≡ get_or words k [])
label_among {V} A words rs over all u i s =
    let p = In-flat_map_from (λ (r : LabelRun V). r.transitions) u rs (subst (In u) (sym all) (In-by_source A u i s)) in
    let r = p.0 in
    let k = In_all (IsLabelRun words) rs over.runs r p.1 in
    (r.number, k.number, In_all (λ u. u.label ≡ get_or words r.number []) r.transitions k.label u p.2)

-- a transition of the automaton from a state
abbrev pub IsFrom : {V : Type 0} → Automaton V → ℕ → Transition V → Type 0
IsFrom A s u = In u A.transitions × (u.from ≡ s)

pub all_from : {V : Type 0} (A : Automaton V) (s : ℕ) → All (IsFrom A s) (filter (λ u. u.from == s) A.transitions)
all_from A s = All_of (IsFrom A s) (filter (λ u. u.from == s) A.transitions) (λ u i. let k = In-filter_from (λ u. u.from == s) u A.transitions i in (k.0, eqb-true u.from s k.1))

drop_map : {X Y : Type 0} (f : X → Y) (n : ℕ) (xs : List X) → drop n (map f xs) ≡ map f (drop n xs)
drop_map f zero xs = refl
drop_map f (suc n) [] = refl
drop_map f (suc n) (x ∷ xs) = drop_map f n xs

-- a list is empty, or not
pub not_none : (n : ℕ) (b : Bool) → b ≡ (n == 0) → b ≡ false → 0 < n
not_none zero b e f = absurd (cc)
not_none (suc n) b e f = omega arith

pub is_none : (n : ℕ) (b : Bool) → b ≡ (n == 0) → b ≡ true → n ≡ 0
is_none zero b e f = refl
is_none (suc n) b e f = let g : (suc n == 0) ≡ false = grind (arith, nat_tests) in absurd (cc)

-- before the first state all transitions are left
pub first_moves : {V : Type 0} (A : Automaton V) → from_states A.transitions 0 A.states ≡ by_source A
first_moves A = let e : A.states - 0 ≡ A.states = omega arith in ap (λ (k : ℕ). flat_map (λ p. filter (λ u. u.from == p) A.transitions) (up_from 0 k)) e

-- no labels and no runs
pub no_runs : {V : Type 0} (A : Automaton V) → AreRunsOver A [] []
no_runs A = record { runs = λ k d l. absurd (omega (arith, l)); states = λ k d l. absurd (omega (arith, l)); labels = λ k d l. absurd (omega (arith, l)) }

-- what is left is shorter
pub shorter_rest : {X : Type 0} (rest : List X) (n : ℕ) → 0 < length rest → 1 ≤ n → length (take (length rest - n) (drop n rest)) < length rest
shorter_rest rest n some one = let e = ap length (take_rest rest n) ∙ length-drop n rest in omega (arith, some, one, e)

module _ {T V : Type 0} (f : T → Transition V) where
  -- the first has its own label
  pub first_label : (rest : List T) (x : T) → 0 < length rest → x ≡ get_or rest 0 x → All (λ u. u.label ≡ (f x).label) (take 1 (map f rest))
  first_label [] x some e = absurd (omega arith)
  first_label (y ∷ ys) x some e = All-cons (λ u. u.label ≡ (f x).label) (f y) [] (subst (λ z. (f z).label ≡ (f x).label) e refl) (All-nil (λ u. u.label ≡ (f x).label))

  pub front_all : (P : Transition V → Type 0) (rest : List T) (n : ℕ) → All P (map f rest) → All P (map f (take n rest))
  front_all P rest n a = subst (All P) (take-map f n rest) (All-take P n (map f rest) a)

  pub rest_all : (P : Transition V → Type 0) (rest : List T) (n : ℕ) → All P (map f rest) → All P (map f (take (length rest - n) (drop n rest)))
  rest_all P rest n a = subst (λ ts. All P (map f ts)) (sym (take_rest rest n)) (subst (All P) (drop_map f n rest) (All-drop P n (map f rest) a))

  pub first_is : (P : Transition V → Type 0) (rest : List T) (x : T) → 0 < length rest → x ≡ get_or rest 0 x → All P (map f rest) → P (f x)
  first_is P rest x l e a = All-item P f rest 0 x a l e

  -- a run behind others, and the rest of the transitions
  pub run_behind : (rs new : List (LabelRun V)) (r : LabelRun V) (rest : List T) (n : ℕ) (all : List (Transition V)) → new ≡ rs ++ r ∷ [] → r.transitions ≡ map f (take n rest)
      → run_moves rs ++ map f rest ≡ all → run_moves new ++ map f (take (length rest - n) (drop n rest)) ≡ all
  run_behind rs new r rest n all e t a =
      ap₂ (λ qs ts. run_moves qs ++ map f ts) e (take_rest rest n)
      ∙ ap (λ us. us ++ map f (drop n rest)) (flat_map-append (λ r. r.transitions) rs (r ∷ []))
      ∙ ap (λ us. (run_moves rs ++ us) ++ map f (drop n rest)) (append-nil r.transitions ∙ t)
      ∙ append_assoc (run_moves rs) (map f (take n rest)) (map f (drop n rest))
      ∙ ap (λ us. run_moves rs ++ us) (sym (map-append f (take n rest) (drop n rest)) ∙ ap (map f) (take-append-drop n rest))
      ∙ a

  -- where nothing is left, the runs have all
  pub nothing_left : (rest : List T) (us all : List (Transition V)) → length rest ≡ 0 → us ++ map f rest ≡ all → us ≡ all
  nothing_left [] us all e h = sym (append-nil us) ∙ h
  nothing_left (x ∷ xs) us all e h = absurd (omega arith)
