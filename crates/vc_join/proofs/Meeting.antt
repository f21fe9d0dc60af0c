-- Where a loop over transitions that meet stops, a step of them all does not fit.
use Rattle.std.proofs.Common.{◌≡◌, ℕ, List, [], ◌∷◌, map, false, length, inr}
use Rattle.std.specs.Prelude.{IfErr, Result, Ok, Err}
use Rattle.vc_aut.specs.Order.{moves_from}
use Rattle.vc_model.specs.Automata.{Automaton, Transition}
use Rattle.vc_model.specs.Items.{Item}
use Rattle.vc_model.specs.Lists.{In}
use Rattle.vc_model.specs.WeightSet.{WeightSet}
use Rattle.vc_ring.specs.Steps.{fits}
use Rattle.vc_ring.specs.declared.faults.MakeFault.{MakeFault}
use Rattle.vc_ring.specs.declared.faults.MakeFault.TheVariants.{Overflow as Unfit, Limit as PastLimit, Memory}
use Rattle.vc_ring.specs.declared.faults.Overflow.{Overflow}
use Rattle.vc_ring.specs.declared.faults.Overflow.TheVariants.{Mul}
use Rattle.vc_search.specs.Courses.{Course, IsStopped, led_all, targets}
use Rattle.vc_search.specs.CourseLaws.{lead_stops}
use Rattle.vc_join.specs.Conjunctions.{IsConjunctionStep, IsMeeting, both_item, both_items, conjunction_items}
use Rattle.vc_join.specs.Pairs.{Pair, same_states}

module _ {V : Type 0} (R : WeightSet V) where
  -- the product of two weights does not fit
  abbrev pub Fails : Transition V → Transition V → Overflow V → Type 0
  Fails t u o = (o ≡ Mul t.weight u.weight) × (fits R o ≡ false)

  -- that of a weight and one of a run does not fit
  abbrev pub FailsIn : Transition V → List (Transition V) → Overflow V → Type 0
  FailsIn t us o = ((u : Transition V) × In u us × (o ≡ Mul t.weight u.weight)) × (fits R o ≡ false)

  -- that of two that meet does not fit
  abbrev pub FailsAmong : List (Transition V) → List (Transition V) → Overflow V → Type 0
  FailsAmong ts us o = IsMeeting ts us o × (fits R o ≡ false)

  -- a stop at one of a run
  pub run_step : (t u : Transition V) (us : List (Transition V)) → In u us → (from : ℕ) (c d : Course V Pair) (rest : List (Item V Pair)) → led_all same_states from c (both_item R t u ∷ rest) ≡ led_all same_states from d (map (both_item R t) us)
      → (f : MakeFault V) → IsStopped same_states (Fails t u) c ((t.to, u.to) ∷ []) 1 f → IsStopped same_states (FailsIn t us) d (targets (map (both_item R t) us)) (length (map (both_item R t) us)) f
  run_step t u us i from c d rest e f h =
      lead_stops same_states (Fails t u) (FailsIn t us) (λ o q. ((u, i, q.0), q.1)) from c d (both_item R t u ∷ []) rest (map (both_item R t) us) e f h

  -- a stop in the run of one
  pub runs_step : (t : Transition V) (ts us run : List (Transition V)) → In t ts → ((u : Transition V) → In u run → In u us) → ((u : Transition V) → In u run → t.label ≡ u.label) → (from : ℕ) (c d : Course V Pair) (more : List (Item V Pair))
      → led_all same_states from (led_all same_states from c (map (both_item R t) run)) more ≡ led_all same_states from d (both_items R ts us)
      → (f : MakeFault V) → IsStopped same_states (FailsIn t run) c (targets (map (both_item R t) run)) (length (map (both_item R t) run)) f → IsStopped same_states (FailsAmong ts us) d (targets (both_items R ts us)) (length (both_items R ts us)) f
  runs_step t ts us run i among alike from c d more e f h =
      lead_stops same_states (FailsIn t run) (FailsAmong ts us)
      (λ o q. (record { left = t; right = q.0.0; left_in = i; right_in = among q.0.0 q.0.1; label = alike q.0.0 q.0.1; is = q.0.2 }, q.1))
      from c d (map (both_item R t) run) more (both_items R ts us) e f h

  -- a stop at the moves of a pair, as one of the pair
  pub meets_stop : {T : Type 0} (A B : Automaton V) (k : Pair) (c : Course V Pair) (r : Result T (MakeFault V)) → IfErr r (IsStopped same_states (FailsAmong (moves_from A.transitions k.0) (moves_from B.transitions k.1)) c (targets (conjunction_items R A B k)) (length (conjunction_items R A B k)))
      → IfErr r (IsStopped same_states (λ o. IsConjunctionStep R A B k o × (fits R o ≡ false)) c (targets (conjunction_items R A B k)) (length (conjunction_items R A B k)))
  meets_stop A B k c (Ok v) h = h
  meets_stop A B k c (Err (Unfit o)) h = (inr h.0, h.1)
  meets_stop A B k c (Err (PastLimit l)) h = h
  meets_stop A B k c (Err (Memory e)) h = h
