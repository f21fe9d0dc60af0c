-- The lines of the canonical text may be written, and the names in them are the decimals of the states.
use Rattle.std.proofs.Common.{◌≡◌, ◌<◌, ◌↔◌, ℕ, Bool, true, List, [], ◌∷◌, map, All, refl, sym, subst, arith, inl, inr}
use Rattle.std.specs.Prelude.{◌==◌}
use Rattle.std.specs.Fmt.{decimal}
use Rattle.std.specs.List.{flat_map}
use Rattle.std.proofs.lemmas.List.Elements.{All-head, All-tail}
use Rattle.vc_label.specs.declared.tape_set.TapeSet.{TapeSet}
use Rattle.vc_aut.specs.Labelled.{Labelled}
use Rattle.vc_aut.specs.Validity.{IsLabelled, IsMove}
use Rattle.vc_model.specs.Automata.{Transition}
use Rattle.vc_model.specs.Lists.{In, below}
use Rattle.vc_model.specs.WeightSet.{WeightSet}
use Rattle.vc_model.specs.Members.{In-filter_from, In-flat_map_from, In-map, In-map_from, In-up_from, up_from-In}
use Rattle.vc_daut.specs.Canonical.{TextLine, to_state, automaton_lines}
use Rattle.vc_lines.specs.Names.{AreInOrder}
use Rattle.vc_daut.proofs.Decimals.{decimals_in_order, decimals_once}
use Rattle.vc_daut.proofs.CanonicalLines.{IsLineOf, from_state, line_of_text, state_in_lines}
use Rattle.vc_daut.proofs.ReadBack.{text_names, IsEntryOf, AreEntriesOf, IsTextLine, AreTextLines}

all_lines : {V : Type 0} (R : WeightSet V) (sets : List TapeSet) (ls : List (TextLine V)) → ((l : TextLine V) → In l ls → IsTextLine R sets l) → AreTextLines R sets ls
all_lines R sets [] h = tt
all_lines R sets (l ∷ ls) h = (h l (inl refl), all_lines R sets ls (λ m i. h m (inr i)))

all_entries : {V : Type 0} (R : WeightSet V) (sets : List TapeSet) (ts : List (Transition V)) → ((t : Transition V) → In t ts → IsEntryOf R sets t) → AreEntriesOf R sets ts
all_entries R sets [] h = tt
all_entries R sets (t ∷ ts) h = (h t (inl refl), all_entries R sets ts (λ u i. h u (inr i)))

-- the decimal of a number below n
abbrev IsStateName : ℕ → List ℕ → Type 0
IsStateName n name = (p : ℕ) × (p < n) × (name ≡ decimal p)

one_name : (n p : ℕ) (name : List ℕ) → p < n → In name (decimal p ∷ []) → IsStateName n name
one_name n p name h (inl e) = (p, h, e)
one_name n p name h (inr i) = absurd i

two_names : (n p q : ℕ) (name : List ℕ) → p < n → q < n → In name (decimal p ∷ decimal q ∷ []) → IsStateName n name
two_names n p q name h k (inl e) = (p, h, e)
two_names n p q name h k (inr i) = one_name n q name k i

-- what holds of each member
of_member : {X : Type 0} (P : X → Type 0) (x : X) (xs : List X) → All P xs → In x xs → P x
of_member P x [] h i = absurd i
of_member P x (y ∷ ys) h (inl e) = subst P (sym e) (All-head P y ys h)
of_member P x (y ∷ ys) h (inr i) = of_member P x ys (All-tail P y ys h) i

module _ {V : Type 0} (R : WeightSet V) (same : V → V → Bool) (a : Labelled V) (valid : IsLabelled R a) where
  abbrev states : ℕ
  states = a.automaton.states

  pub each_move : (t : Transition V) → In t a.automaton.transitions → IsMove R a.sets states t
  each_move t i = of_member (IsMove R a.sets states) t a.automaton.transitions valid.drawn.moves i

  pub between_moves : (p q : ℕ) (t : Transition V) → In t (to_state q (from_state a.automaton p)) → In t a.automaton.transitions × (t.from == p ≡ true) × (t.to == q ≡ true)
  between_moves p q t i =
      let r = In-filter_from (λ (u : Transition V). u.to == q) t (from_state a.automaton p) i in
      let s = In-filter_from (λ (u : Transition V). u.from == p) t a.automaton.transitions r.0 in
      (s.0, s.1, r.1)

  valid_line : (l : TextLine V) → IsLineOf R same a.automaton l → IsTextLine R a.sets l
  valid_line l (p, h, inl e) = subst (IsTextLine R a.sets) (sym e) (valid.drawn.initial_in p R.zero (omega (arith, h, valid.drawn.initial)))
  valid_line l (p, h, inr (inl m)) =
      subst (IsTextLine R a.sets) (sym m.is)
      (m.some, all_entries R a.sets (to_state m.target (from_state a.automaton p)) (λ t i. let v = each_move t (between_moves p m.target t i).0 in record { label = v.label; weight = v.weight }))
  valid_line l (p, h, inr (inr (inl e))) = subst (IsTextLine R a.sets) (sym e) (valid.drawn.final_in p R.zero (omega (arith, h, valid.drawn.final)))
  valid_line l (p, h, inr (inr (inr e))) = subst (IsTextLine R a.sets) (sym e) tt

  -- the lines may be written
  pub lines_are_valid : AreTextLines R a.sets (automaton_lines R same a.automaton)
  lines_are_valid = all_lines R a.sets (automaton_lines R same a.automaton) (λ l i. valid_line l (line_of_text R same a.automaton l i))

  names_of_line : (l : TextLine V) → IsLineOf R same a.automaton l → (name : List ℕ) → In name (text_names l) → IsStateName states name
  names_of_line l (p, h, inl e) name i = one_name states p name h (subst (λ z. In name (text_names z)) e i)
  names_of_line l (p, h, inr (inl m)) name i = two_names states p m.target name h m.few (subst (λ z. In name (text_names z)) m.is i)
  names_of_line l (p, h, inr (inr (inl e))) name i = one_name states p name h (subst (λ z. In name (text_names z)) e i)
  names_of_line l (p, h, inr (inr (inr e))) name i = one_name states p name h (subst (λ z. In name (text_names z)) e i)

  -- a name stands in the lines exactly where it is the decimal of a state
  named_states : (name : List ℕ) → In name (map decimal (below states)) ↔ In name (flat_map text_names (automaton_lines R same a.automaton))
  named_states name = (there, back)
    where
      there : In name (map decimal (below states)) → In name (flat_map text_names (automaton_lines R same a.automaton))
      there i =
          let r = In-map_from decimal name (below states) i in
          let b = In-up_from r.0 0 states r.1 in
          subst (λ z. In z (flat_map text_names (automaton_lines R same a.automaton))) (sym r.2)
          (state_in_lines R same a.automaton (λ t j. let m = each_move t j in (m.from, m.to)) r.0 (omega (arith, b.1)))

      back : In name (flat_map text_names (automaton_lines R same a.automaton)) → In name (map decimal (below states))
      back i =
          let r = In-flat_map_from text_names name (automaton_lines R same a.automaton) i in
          let q = names_of_line r.0 (line_of_text R same a.automaton r.0 r.1) name r.2 in
          subst (λ z. In z (map decimal (below states))) (sym q.2) (In-map decimal q.0 (below states) (up_from-In q.0 0 states (omega arith) (omega (arith, q.1))))

  -- the names in the lines are the decimals of the states
  pub names_are_decimals : AreInOrder (flat_map text_names (automaton_lines R same a.automaton)) (map decimal (below states))
  names_are_decimals = record {
    once = decimals_once states (omega (arith, valid.states));
    order = decimals_in_order 0 states (omega (arith, valid.states));
    named = named_states;
  }
