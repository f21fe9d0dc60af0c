-- The sum of moves is an automaton.
use Rattle.std.proofs.Common.{◌≡◌, refl, ℕ, ◌≤◌, true, List, [], ◌∷◌, map, length, Some, Option, None, arith, IsTrue, All, subst}
use Rattle.std.specs.Prelude.{◌↔◌}
use Rattle.std.specs.Cmp.{IsTotalOrder}
use Rattle.std.specs.declared.cmp.Ordering.TheVariants.{Equal}
use Rattle.std.proofs.lemmas.List.Elements.{All-nil, All-cons, All-head, All-tail}
use Rattle.vc_label.specs.Order.{word_order}
use Rattle.vc_label.specs.declared.tape_set.TapeSet.{TapeSet}
use Rattle.vc_model.specs.Automata.{Transition}
use Rattle.vc_model.specs.OutcomeLaws.{AllFit-append_from}
use Rattle.vc_model.specs.WeightSet.{WeightSet, RangeLaws, InRange}
use Rattle.vc_model.specs.Words.{Word}
use Rattle.vc_ring.specs.Steps.{AllFit, fits}
use Rattle.vc_aut.specs.Additions.{addition_to, additions}
use Rattle.vc_aut.specs.Drafts.{IsDraft}
use Rattle.vc_aut.specs.Stored.{automaton_of, transition_of}
use Rattle.vc_aut.specs.declared.transition.Transition.{Transition as Stored}
use Rattle.vc_aut.specs.Sums.{insert_transition, insert_all, standing}
use Rattle.vc_aut.specs.Validity.{IsMove}
use Rattle.vc_aut.proofs.Added.{in_order-inserted_all}
use Rattle.vc_aut.proofs.Drafted.{moves-inserted}
use Rattle.vc_aut.proofs.Inserted.{in_order-none}

module _ {V : Type 0} (R : WeightSet V) where
  fits_by : (w v : V) (o : Option V) → AllFit R (addition_to o w) → o ≡ Some v → R.fits_plus v w ≡ true
  fits_by w v None h e = cc
  fits_by w v (Some u) h e = let same : u ≡ v = cc in subst (λ x. R.fits_plus x w ≡ true) same h.0

  -- where all additions fit, what moves come to is moves
  moves_summed : RangeLaws R → (sets : List TapeSet) (n : ℕ) (ts added : List (Transition V)) → All (IsMove R sets n) ts → All (IsMove R sets n) added
      → AllFit R (additions R ts added) → All (IsMove R sets n) (insert_all R ts added)
  moves_summed ranges sets n ts [] h k f = h
  moves_summed ranges sets n ts (t ∷ added) h k f =
      let parts = AllFit-append_from (fits R) (addition_to (standing ts t) t.weight) (additions R (insert_transition R ts t) added) f in
      moves_summed ranges sets n (insert_transition R ts t) added
      (moves-inserted R ranges sets n ts t h (All-head (IsMove R sets n) t added k) (λ v s. fits_by t.weight v (standing ts t) parts.0 s))
      (All-tail (IsMove R sets n) t added k) parts.1

  pub summed_is_draft : (total : IsTotalOrder word_order) (equal : (v w : Word) → (word_order v w ≡ Equal) ↔ (v ≡ w)) → RangeLaws R
      → (sets : List TapeSet) (initial final : List V) (added : List (Transition V)) → length initial ≤ 1000000 → length final ≡ length initial → InRange R initial → InRange R final
      → All (IsMove R sets (length initial)) added → AllFit R (additions R [] added) → length (insert_all R [] added) ≤ 4000000
      → IsDraft R (record { most = 1000000; sets = sets; automaton = automaton_of initial final (insert_all R [] added) })
  summed_is_draft total equal ranges sets initial final added states long initial_in final_in moves fit few = record {
    drawn = record {
      initial = refl;
      final = long;
      initial_in = initial_in;
      final_in = final_in;
      moves = moves_summed ranges sets (length initial) [] added (All-nil (IsMove R sets (length initial))) moves fit;
      order = in_order-inserted_all total equal R [] added (in_order-none [] refl);
    };
    most = omega arith;
    states = states;
    transitions = few;
  }

-- the weights of moves are in range
pub stored_in_range : {L S B V : Type 0} (R : WeightSet V) (parts : B → Word) (sets : List TapeSet) (n : ℕ) (ts : List (Stored L S B V)) → All (IsMove R sets n) (map (transition_of parts) ts) → All (λ t. IsTrue (R.in_range t.weight)) ts
stored_in_range {L} {S} {B} {V} R parts sets n [] h = All-nil (λ (t : Stored L S B V). IsTrue (R.in_range t.weight))
stored_in_range {L} {S} {B} {V} R parts sets n (t ∷ ts) h =
    All-cons (λ (t : Stored L S B V). IsTrue (R.in_range t.weight)) t ts
    (All-head (IsMove R sets n) (transition_of parts t) (map (transition_of parts) ts) h).weight
    (stored_in_range R parts sets n ts (All-tail (IsMove R sets n) (transition_of parts t) (map (transition_of parts) ts) h))
