-- An automaton has one without empty labels, and one of its useful states.
use Rattle.std.proofs.Common.{◌≡◌, ◌<◌, ℕ, List, [], ◌∷◌, length, map, filter, refl, sym, ap, ap₂, ◌∙◌, inl, inr, arith}
use Rattle.std.specs.Prelude.{slice_index_or}
use Rattle.std.specs.Cmp.{IsTotalOrder}
use Rattle.vc_aut.specs.Labelled.{Labelled}
use Rattle.vc_closure.specs.Closing.{all_brought, closure}
use Rattle.vc_label.specs.Order.{word_order}
use Rattle.vc_model.specs.Automata.{final_weight, initial_weight}
use Rattle.vc_model.specs.GatheredLaws.{gathered_alike}
use Rattle.vc_model.specs.Lists.{In, IsIncreasing}
use Rattle.vc_model.specs.Trims.{is_between, placed}
use Rattle.vc_model.specs.WeightSet.{SemiringLaws}
use Rattle.vc_ring.specs.Texts.{WeightTexts}
use Rattle.vc_top.specs.Operations.{IsProperOf, IsTrimOf}
use Rattle.vc_top.proofs.OneStandard.{ascending, before, labelled, one_way, same_automaton, same_list}

module _ {V : Type 0} (T : WeightTexts V) (L : SemiringLaws T.set) (total : IsTotalOrder word_order) (a x y : Labelled V) (p : IsProperOf T a x) (q : IsProperOf T a y) where
  proper_states : x.automaton.states ≡ y.automaton.states
  proper_states = p.closing.states ∙ sym q.closing.states

  proper_final : (n : ℕ) → n < x.automaton.states → final_weight T.set x.automaton n ≡ final_weight T.set y.automaton n
  proper_final n l = let m : n < a.automaton.states = omega (arith, l, p.closing.states) in p.closing.final n m ∙ sym (q.closing.final n m)

  proper_moves : x.automaton.transitions ≡ y.automaton.transitions
  proper_moves =
      let raw = all_brought T.set a.automaton (closure T.set a.automaton) in
      gathered_alike L (before T.set total) (one_way T.set total) raw raw x.automaton.transitions y.automaton.transitions p.closing.transitions q.closing.transitions (λ d. refl)
      (ascending T.set total x.automaton.transitions p.order) (ascending T.set total y.automaton.transitions q.order)

  pub proper_once : x ≡ y
  proper_once =
      let A = x.automaton in
      let B = y.automaton in
      let final = same_list T.set.zero A.final B.final (p.automaton.final ∙ proper_states ∙ sym q.automaton.final) (λ n l. proper_final n (omega (arith, l, p.automaton.final))) in
      ap (λ s. labelled s A) (p.labels ∙ sym q.labels) ∙ ap (λ C. labelled y.sets C) (same_automaton A B proper_states (p.closing.initial ∙ sym q.closing.initial) final proper_moves)

-- increasing lists of the same numbers
increasing_same : (xs ys : List ℕ) → IsIncreasing xs → IsIncreasing ys → ((n : ℕ) → In n xs → In n ys) → ((n : ℕ) → In n ys → In n xs) → xs ≡ ys
increasing_same [] [] i j f g = refl
increasing_same [] (y ∷ ys) i j f g = absurd (g y (inl refl))
increasing_same (x ∷ xs) [] i j f g = absurd (f x (inl refl))
increasing_same (x ∷ xs) (y ∷ ys) i j f g =
    let e = head (f x (inl refl)) (g y (inl refl)) in
    ap₂ (λ z zs. z ∷ zs) e (increasing_same xs ys i.1 j.1 (λ n k. later x y xs ys i n k (f n (inr k)) e) (λ n k. later y x ys xs j n k (g n (inr k)) (sym e)))
  where
    head : In x (y ∷ ys) → In y (x ∷ xs) → x ≡ y
    head (inl e) k = e
    head (inr h) (inl e) = sym e
    head (inr h) (inr k) = let l : y < x = j.0 x h in let m : x < y = i.0 y k in absurd (omega arith)

    later : (b c : ℕ) (bs cs : List ℕ) → IsIncreasing (b ∷ bs) → (n : ℕ) → In n bs → In n (c ∷ cs) → b ≡ c → In n cs
    later b c bs cs h n k (inr m) e = m
    later b c bs cs h n k (inl q) e = let l : b < n = h.0 n k in absurd (omega (arith, q, e))

module _ {V : Type 0} (T : WeightTexts V) (a x y : Labelled V) (p : IsTrimOf T a x) (q : IsTrimOf T a y) where
  same_kept : p.kept ≡ q.kept
  same_kept = increasing_same p.kept q.kept p.trim.order q.trim.order (λ n i. (q.trim.useful n).1 ((p.trim.useful n).0 i)) (λ n i. (p.trim.useful n).1 ((q.trim.useful n).0 i))

  trim_states : x.automaton.states ≡ y.automaton.states
  trim_states = p.trim.states ∙ ap length same_kept ∙ sym q.trim.states

  there : (n : ℕ) → n < x.automaton.states → (n < length p.kept) × (n < length q.kept)
  there n l = (omega (arith, l, p.trim.states), omega (arith, l, trim_states, q.trim.states))

  trim_initial : (n : ℕ) → n < x.automaton.states → initial_weight T.set x.automaton n ≡ initial_weight T.set y.automaton n
  trim_initial n l = let m = there n l in p.trim.initial n m.0 ∙ ap (λ ns. initial_weight T.set a.automaton (slice_index_or ns n 0)) same_kept ∙ sym (q.trim.initial n m.1)

  trim_final : (n : ℕ) → n < x.automaton.states → final_weight T.set x.automaton n ≡ final_weight T.set y.automaton n
  trim_final n l = let m = there n l in p.trim.final n m.0 ∙ ap (λ ns. final_weight T.set a.automaton (slice_index_or ns n 0)) same_kept ∙ sym (q.trim.final n m.1)

  pub trim_once : x ≡ y
  trim_once =
      let A = x.automaton in
      let B = y.automaton in
      let initial = same_list T.set.zero A.initial B.initial (p.automaton.initial ∙ trim_states ∙ sym q.automaton.initial) (λ n l. trim_initial n (omega (arith, l, p.automaton.initial))) in
      let final = same_list T.set.zero A.final B.final (p.automaton.final ∙ trim_states ∙ sym q.automaton.final) (λ n l. trim_final n (omega (arith, l, p.automaton.final))) in
      let moves = p.trim.transitions ∙ ap (λ ns. map (placed ns) (filter (is_between ns) a.automaton.transitions)) same_kept ∙ sym q.trim.transitions in
      ap (λ s. labelled s A) (p.labels ∙ sym q.labels) ∙ ap (λ C. labelled y.sets C) (same_automaton A B trim_states initial final moves)
