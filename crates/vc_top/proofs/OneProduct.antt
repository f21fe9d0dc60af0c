-- Two automata have one product.
use Rattle.std.proofs.Common.{◌≡◌, ℕ, Bool, List, length, map, sym, ap, ◌∙◌}
use Rattle.std.specs.Cmp.{IsTotalOrder}
use Rattle.std.specs.List.{flat_map}
use Rattle.vc_aut.specs.Labelled.{Labelled}
use Rattle.vc_join.specs.Pairs.{Pair, no_pair, pair_final, pair_initial, pairs_tell, same_states}
use Rattle.vc_label.specs.Order.{word_order}
use Rattle.vc_label.specs.declared.tape_set.TapeSet.{TapeSet}
use Rattle.vc_model.specs.Automata.{Automaton, Transition}
use Rattle.vc_model.specs.Gathered.{weight_at}
use Rattle.vc_model.specs.GatheredLaws.{gathered_alike}
use Rattle.vc_model.specs.Lists.{IsEqualityTest, below}
use Rattle.vc_model.specs.Machines.{steps_of}
use Rattle.vc_model.specs.Numbering.{IsNumbering}
use Rattle.vc_model.specs.Series.{Series}
use Rattle.vc_model.specs.WeightSet.{SemiringLaws}
use Rattle.vc_ring.specs.Texts.{WeightTexts}
use Rattle.vc_search.specs.Explored.{next_by}
use Rattle.vc_top.specs.Products.{IsProductOf, first_of, items}
use Rattle.vc_top.specs.declared.product.Product.{Product}
use Rattle.vc_top.proofs.OneStandard.{ascending, before, labelled, one_way, same_automaton}

-- pairs have one numbering
abbrev pub OneNumbering : Type 0
OneNumbering = (same : Pair → Pair → Bool) → IsEqualityTest same → (next : Pair → List Pair) (first members others : List Pair) → IsNumbering same next first members → IsNumbering same next first others → members ≡ others

module _ {V : Type 0} (T : WeightTexts V) (L : SemiringLaws T.set) (total : IsTotalOrder word_order) (one : OneNumbering) (product : Product) (most : ℕ) (sets : List TapeSet) (f g : Series V) (a b : Automaton V) (x y : Labelled V)
    (p : IsProductOf T product most sets f g a b x) (q : IsProductOf T product most sets f g a b y) where
  same_members : p.pairs.members ≡ q.pairs.members
  same_members = one same_states pairs_tell (next_by (items T product most a b)) (first_of T product most a b) p.pairs.members q.pairs.members p.pairs.numbering q.pairs.numbering

  -- what the pairs lead to
  abbrev raw : List Pair → List (Transition V)
  raw ks = flat_map (λ i. steps_of same_states (items T product most a b) no_pair ks i) (below (length ks))

  pub product_once : x ≡ y
  product_once =
      let A = x.automaton in
      let B = y.automaton in
      let states : A.states ≡ B.states = p.pairs.holds.states ∙ ap length same_members ∙ sym q.pairs.holds.states in
      let initial : A.initial ≡ B.initial = p.pairs.holds.begins ∙ ap (map (pair_initial T.set a b)) same_members ∙ sym q.pairs.holds.begins in
      let final : A.final ≡ B.final = p.pairs.holds.ends ∙ ap (map (pair_final T.set a b)) same_members ∙ sym q.pairs.holds.ends in
      let moves : A.transitions ≡ B.transitions =
      gathered_alike L (before T.set total) (one_way T.set total) (raw p.pairs.members) (raw q.pairs.members) A.transitions B.transitions p.pairs.holds.transitions q.pairs.holds.transitions
      (λ d. ap (λ ks. weight_at T.set (raw ks) d) same_members) (ascending T.set total A.transitions p.order) (ascending T.set total B.transitions q.order)
      in
      ap (λ s. labelled s A) (p.labels ∙ sym q.labels) ∙ ap (λ C. labelled y.sets C) (same_automaton A B states initial final moves)
