-- Which lines the canonical text of an automaton has.
use Rattle.std.proofs.Common.{◌≡◌, ◌≢◌, ◌<◌, ℕ, Bool, true, false, not, ◌||◌, List, [], ◌∷◌, ◌++◌, filter, refl, ap, sym, ◌∙◌, arith, inl, inr, ◌⊎◌}
use Rattle.std.specs.Prelude.{◌==◌, if◌then◌else◌}
use Rattle.std.specs.Fmt.{decimal}
use Rattle.std.specs.List.{flat_map, list_any}
use Rattle.std.proofs.lemmas.Bool.{eqb-true, eq-eqb}
use Rattle.vc_model.specs.Automata.{Automaton, Transition, initial_weight, final_weight}
use Rattle.vc_model.specs.Lists.{In, below}
use Rattle.vc_model.specs.WeightSet.{WeightSet}
use Rattle.vc_model.specs.Members.{In-append_left, In-append_right, In-append_cases, In-filter, In-flat_map, In-flat_map_from, In-up_from, up_from-In}
use Rattle.vc_daut.specs.Canonical.{TextLine, begins_line, moves_line, ends_line, state_line, line_to, to_state, lines_by_target, initial_line, final_line, transition_lines, is_in_lines, lone_line, state_lines, automaton_lines}
use Rattle.vc_daut.proofs.ReadBack.{text_names}

-- ---- members of small lists

none_or : {X : Type 0} (b : Bool) (x y : X) → In y (if b then [] else x ∷ []) → y ≡ x
none_or true x y i = absurd i
none_or false x y (inl e) = e
none_or false x y (inr i) = absurd i

shown : {X : Type 0} (b : Bool) (x : X) → b ≡ false → In x (if b then [] else x ∷ [])
shown true x e = absurd (cc)
shown false x e = inl refl

any_at : {X : Type 0} (test : X → Bool) (xs : List X) → list_any test xs ≡ true → (x : X) × In x xs × (test x ≡ true)
any_at {X} test [] h = absurd (cc)
any_at {X} test (x ∷ xs) h = go (test x) refl h (any_at test xs)
  where
    go : (b : Bool) → test x ≡ b → b || list_any test xs ≡ true → (list_any test xs ≡ true → (y : X) × In y xs × (test y ≡ true)) → (y : X) × In y (x ∷ xs) × (test y ≡ true)
    go true e k r = (x, inl refl, e)
    go false e k r = let q = r k in (q.0, inr q.1, q.2)

either : (b c : Bool) → b || c ≡ true → (b ≡ true) ⊎ (c ≡ true)
either true c h = inl refl
either false c h = inr h

-- a line for some transitions from p to q
pub record IsMovesLine {V : Type 0} (n p : ℕ) (from : List (Transition V)) (l : TextLine V) : Type 0 where
  pub target : ℕ
  pub few : target < n
  pub some : to_state target from ≢ []
  pub is : l ≡ moves_line p target (to_state target from)

moves_of : {V : Type 0} (n p q : ℕ) (from ts : List (Transition V)) (l : TextLine V) → q < n → to_state q from ≡ ts → In l (line_to p q ts) → IsMovesLine n p from l
moves_of n p q from [] l h e i = absurd i
moves_of n p q from (t ∷ ts) l h e (inr i) = absurd i
moves_of n p q from (t ∷ ts) l h e (inl f) = record { target = q; few = h; some = λ z. absurd (cc); is = f ∙ ap (moves_line p q) (sym e) }

moves_in : {V : Type 0} (p q : ℕ) (t : Transition V) (ts : List (Transition V)) → In t ts → In (moves_line p q ts) (line_to p q ts)
moves_in p q t [] i = absurd i
moves_in p q t (u ∷ ts) i = inl refl

pub moves_only : {V : Type 0} (n p : ℕ) (from : List (Transition V)) (l : TextLine V) → In l (lines_by_target n p from) → IsMovesLine n p from l
moves_only n p from l i =
    let r = In-flat_map_from (λ q. line_to p q (to_state q from)) l (below n) i in
    moves_of n p r.0 from (to_state r.0 from) l (let b = In-up_from r.0 0 n r.1 in omega (arith, b.1)) refl r.2

-- the transitions from a state
abbrev pub from_state : {V : Type 0} → Automaton V → ℕ → List (Transition V)
from_state a p = filter (λ t. t.from == p) a.transitions

module _ {V : Type 0} (R : WeightSet V) (same : V → V → Bool) (a : Automaton V) where
  pub initial_only : (p : ℕ) (l : TextLine V) → In l (initial_line R same a p) → l ≡ begins_line p (initial_weight R a p)
  initial_only p l i = none_or (same (initial_weight R a p) R.zero) (begins_line p (initial_weight R a p)) l i

  pub final_only : (p : ℕ) (l : TextLine V) → In l (final_line R same a p) → l ≡ ends_line p (final_weight R a p)
  final_only p l i = none_or (same (final_weight R a p) R.zero) (ends_line p (final_weight R a p)) l i

  pub lone_only : (p : ℕ) (l : TextLine V) → In l (lone_line R same a p) → l ≡ state_line p
  lone_only p l i = none_or (is_in_lines R same a p) (state_line p) l i

  -- a line of the text
  abbrev pub IsLineOf : TextLine V → Type 0
  IsLineOf l =
      (p : ℕ) × (p < a.states)
      × ((l ≡ begins_line p (initial_weight R a p)) ⊎ (IsMovesLine a.states p (from_state a p) l ⊎ ((l ≡ ends_line p (final_weight R a p)) ⊎ (l ≡ state_line p))))

  pub line_of_text : (l : TextLine V) → In l (automaton_lines R same a) → IsLineOf l
  line_of_text l i = elim (In-append_cases l (flat_map (initial_line R same a) (below a.states)) (flat_map (state_lines R same a) (below a.states)) i) [
    | inl j ↦
        let r = In-flat_map_from (initial_line R same a) l (below a.states) j in
        (r.0, (let b = In-up_from r.0 0 a.states r.1 in omega (arith, b.1)), inl (initial_only r.0 l r.2))
    | inr j ↦
        let r = In-flat_map_from (state_lines R same a) l (below a.states) j in
        (r.0, (let b = In-up_from r.0 0 a.states r.1 in omega (arith, b.1)), inr (after r.0 r.2))
  ]
    where
      after : (p : ℕ) → In l (state_lines R same a p) → IsMovesLine a.states p (from_state a p) l ⊎ ((l ≡ ends_line p (final_weight R a p)) ⊎ (l ≡ state_line p))
      after p i = elim (In-append_cases l (transition_lines R same a p) (final_line R same a p ++ lone_line R same a p) i) [
        | inl j ↦ inl (moves_only a.states p (from_state a p) l j)
        | inr j ↦ elim (In-append_cases l (final_line R same a p) (lone_line R same a p) j) [
          | inl k ↦ inr (inl (final_only p l k))
          | inr k ↦ inr (inr (lone_only p l k))
        ]
      ]

  -- ---- each state is in a line

  at_state : (p : ℕ) (l : TextLine V) → p < a.states → In l (state_lines R same a p) → In l (automaton_lines R same a)
  at_state p l h i =
      In-append_right l (flat_map (initial_line R same a) (below a.states)) (flat_map (state_lines R same a) (below a.states))
      (In-flat_map (state_lines R same a) l p (below a.states) (up_from-In p 0 a.states (omega arith) (omega arith)) i)

  begins_in : (p : ℕ) → p < a.states → same (initial_weight R a p) R.zero ≡ false → In (begins_line p (initial_weight R a p)) (automaton_lines R same a)
  begins_in p h e =
      In-append_left (begins_line p (initial_weight R a p)) (flat_map (initial_line R same a) (below a.states)) (flat_map (state_lines R same a) (below a.states))
      (In-flat_map (initial_line R same a) (begins_line p (initial_weight R a p)) p (below a.states) (up_from-In p 0 a.states (omega arith) (omega arith))
      (shown (same (initial_weight R a p) R.zero) (begins_line p (initial_weight R a p)) e))

  ends_in : (p : ℕ) → p < a.states → same (final_weight R a p) R.zero ≡ false → In (ends_line p (final_weight R a p)) (automaton_lines R same a)
  ends_in p h e =
      let l = ends_line p (final_weight R a p) in
      at_state p l h (In-append_right l (transition_lines R same a p) (final_line R same a p ++ lone_line R same a p)
      (In-append_left l (final_line R same a p) (lone_line R same a p) (shown (same (final_weight R a p) R.zero) l e)))

  alone_in : (p : ℕ) → p < a.states → is_in_lines R same a p ≡ false → In (state_line p) (automaton_lines R same a)
  alone_in p h e =
      let l : TextLine V = state_line p in
      at_state p l h (In-append_right l (transition_lines R same a p) (final_line R same a p ++ lone_line R same a p)
      (In-append_right l (final_line R same a p) (lone_line R same a p) (shown (is_in_lines R same a p) l e)))

  moves_line_in : (t : Transition V) → In t a.transitions → t.from < a.states → t.to < a.states → In (moves_line t.from t.to (to_state t.to (from_state a t.from))) (automaton_lines R same a)
  moves_line_in t i h k =
      let l = moves_line t.from t.to (to_state t.to (from_state a t.from)) in
      let j = In-filter (λ u. u.to == t.to) t (from_state a t.from) (In-filter (λ u. u.from == t.from) t a.transitions i (eq-eqb t.from t.from refl)) (eq-eqb t.to t.to refl) in
      at_state t.from l h (In-append_left l (transition_lines R same a t.from) (final_line R same a t.from ++ lone_line R same a t.from)
      (In-flat_map (λ q. line_to t.from q (to_state q (from_state a t.from))) l t.to (below a.states) (up_from-In t.to 0 a.states (omega arith) (omega arith))
      (moves_in t.from t.to t (to_state t.to (from_state a t.from)) j)))

  named_by : (l : TextLine V) (name : List ℕ) → In l (automaton_lines R same a) → In name (text_names l) → In name (flat_map text_names (automaton_lines R same a))
  named_by l name i j = In-flat_map text_names name l (automaton_lines R same a) i j

  pub state_in_lines : ((t : Transition V) → In t a.transitions → (t.from < a.states) × (t.to < a.states)) → (p : ℕ) → p < a.states → In (decimal p) (flat_map text_names (automaton_lines R same a))
  state_in_lines moves p h =
      go (same (initial_weight R a p) R.zero) refl (same (final_weight R a p) R.zero) refl (list_any (λ t. t.from == p || t.to == p) a.transitions) refl
    where
      go : (b : Bool) → same (initial_weight R a p) R.zero ≡ b → (c : Bool) → same (final_weight R a p) R.zero ≡ c → (d : Bool) → list_any (λ t. t.from == p || t.to == p) a.transitions ≡ d
          → In (decimal p) (flat_map text_names (automaton_lines R same a))
      go false e c f d g = named_by (begins_line p (initial_weight R a p)) (decimal p) (begins_in p h e) (inl refl)
      go true e false f d g = named_by (ends_line p (final_weight R a p)) (decimal p) (ends_in p h f) (inl refl)
      go true e true f true g =
          let r = any_at (λ (t : Transition V). t.from == p || t.to == p) a.transitions g in
          let m = moves r.0 r.1 in
          let i = moves_line_in r.0 r.1 m.0 m.1 in
          let l = moves_line r.0.from r.0.to (to_state r.0.to (from_state a r.0.from)) in
          elim (either (r.0.from == p) (r.0.to == p) r.2) [
            | inl q ↦ named_by l (decimal p) i (inl (ap decimal (sym (eqb-true r.0.from p q))))
            | inr q ↦ named_by l (decimal p) i (inr (inl (ap decimal (sym (eqb-true r.0.to p q)))))
          ]
      go true e true f false g =
          named_by (state_line p) (decimal p)
          (alone_in p h
          (ap (λ b. not b || (not (same (final_weight R a p) R.zero) || list_any (λ t. t.from == p || t.to == p) a.transitions)) e
          ∙ ap (λ c. not true || (not c || list_any (λ t. t.from == p || t.to == p) a.transitions)) f
          ∙ ap (λ d. not true || (not true || d)) g))
          (inl refl)
