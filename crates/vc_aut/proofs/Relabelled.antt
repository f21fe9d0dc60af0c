-- Transitions whose labels have the same parts as those of others.
use Rattle.std.proofs.Common.{◌≡◌, ◌∙◌, sym, ap, ap₂, subst, ◌+◌, ◌<◌, ℕ, List, [], ◌∷◌, ◌++◌, length, map, take, get_or, arith, All}
use Rattle.std.proofs.lemmas.List.{get_or-map, length-map, map-append, take_more}
use Rattle.vc_label.specs.Sets.{IsOverSets}
use Rattle.vc_label.specs.declared.tape_set.TapeSet.{TapeSet}
use Rattle.vc_model.specs.Automata.{Automaton}
use Rattle.vc_model.specs.WeightSet.{WeightSet}
use Rattle.vc_aut.specs.Validity.{IsLabelled, IsMove}

-- what holds of each holds of the one at a place
pub All-item : {X Y : Type 0} (P : Y → Type 0) (f : X → Y) (xs : List X) (i : ℕ) (x : X) → All P (map f xs) → i < length xs → x ≡ get_or xs i x → P (f x)
All-item P f xs i x h l e = subst P (get_or-map f xs i x (f x) l ∙ ap f (sym e)) (h i (f x) (omega (arith, length-map xs f)))

-- one more that stands for the same
pub same-push : {X Y Z : Type 0} (f : X → Z) (h : Y → Z) (xs : List X) (i : ℕ) (x : X) (y : Y) (old new : List Y) → i < length xs → x ≡ get_or xs i x → new ≡ old ++ y ∷ []
    → h y ≡ f x → map h old ≡ map f (take i xs) → map h new ≡ map f (take (i + 1) xs)
same-push f h xs i x y old new l reads is same front =
    ap (map h) is
    ∙ map-append h old (y ∷ [])
    ∙ ap₂ (λ us z. us ++ z ∷ []) front (same ∙ ap f reads)
    ∙ sym (ap (map f) (take_more xs i x l) ∙ map-append f (take i xs) (get_or xs i x ∷ []))

-- an automaton whose labels are over other sets too
pub labelled_over : {V : Type 0} (R : WeightSet V) (sets other : List TapeSet) (A : Automaton V) → IsLabelled R (record { sets = sets; automaton = A }) → All (λ t. IsOverSets other t.label) A.transitions
    → IsLabelled R (record { sets = other; automaton = A })
labelled_over R sets other A h over = record {
  drawn = record {
    initial = h.drawn.initial;
    final = h.drawn.final;
    initial_in = h.drawn.initial_in;
    final_in = h.drawn.final_in;
    moves = λ k d l. (let m : IsMove R sets A.states (get_or A.transitions k d) = h.drawn.moves k d l in record { from = m.from; to = m.to; label = over k d l; weight = m.weight });
    order = h.drawn.order;
  };
  states = h.states;
  few = h.few;
  few_transitions = h.few_transitions;
  weight = h.weight;
}
