-- What the facts that the code keeps of an automaton say in the words of the definition.
use Rattle.std.proofs.Common.{◌≡◌, ◌≢◌, sym, ap, refl, suc, List, [], ◌∷◌, length, All, inl, inr, subst}
use Rattle.std.specs.Prelude.{◌↔◌}
use Rattle.std.specs.Cmp.{IsTotalOrder}
use Rattle.std.specs.declared.cmp.Ordering.TheVariants.{Equal}
use Rattle.std.proofs.lemmas.List.Elements.{All-head, All-tail}
use Rattle.vc_label.specs.Order.{word_order}
use Rattle.vc_label.specs.Sets.{IsOverSets}
use Rattle.vc_label.specs.declared.tape_set.TapeSet.{TapeSet}
use Rattle.vc_model.specs.Automata.{Transition, IsAutomaton}
use Rattle.vc_model.specs.Lists.{In}
use Rattle.vc_model.specs.WeightSet.{WeightSet}
use Rattle.vc_model.specs.Words.{Word}
use Rattle.vc_aut.specs.Labelled.{Labelled}
use Rattle.vc_aut.specs.Validity.{IsLabelled, IsMove}
use Rattle.vc_aut.proofs.Order.{once_in_order}

pub length_over_sets : (sets : List TapeSet) (w : Word) → IsOverSets sets w → length w ≡ length sets
length_over_sets [] [] h = refl
length_over_sets [] (a ∷ w) h = absurd h
length_over_sets (s ∷ ss) [] h = absurd h
length_over_sets (s ∷ ss) (a ∷ w) h = ap (λ n. suc n) (length_over_sets ss w h.1)

-- what holds of each member
pub of_member : {X : Type 0} (P : X → Type 0) (x : X) (xs : List X) → All P xs → In x xs → P x
of_member P x [] h i = absurd i
of_member P x (y ∷ ys) h i =
    elim i [
      | inl e ↦ subst P (sym e) (All-head P y ys h)
      | inr j ↦ of_member P x ys (All-tail P y ys h) j
    ]

pub valid : (total : IsTotalOrder word_order) (equal : (v w : Word) → (word_order v w ≡ Equal) ↔ (v ≡ w))
    {V : Type 0} (R : WeightSet V) (a : Labelled V) → IsLabelled R a → IsAutomaton R (length a.sets) a.automaton
valid total equal {V} R a h =
    let move : (t : Transition V) → In t a.automaton.transitions → IsMove R a.sets a.automaton.states t =
    λ t i. of_member (IsMove R a.sets a.automaton.states) t a.automaton.transitions h.drawn.moves i in
    record {
      initial = h.drawn.initial;
      final = h.drawn.final;
      from = λ t i. (move t i).from;
      to = λ t i. (move t i).to;
      label = λ t i. length_over_sets a.sets t.label (move t i).label;
      triples = once_in_order total equal a.automaton.transitions h.drawn.order;
      weight = λ t i. of_member (λ (u : Transition V). u.weight ≢ R.zero) t a.automaton.transitions h.weight i;
    }
