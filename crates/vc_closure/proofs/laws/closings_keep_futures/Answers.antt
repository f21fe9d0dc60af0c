use Rattle.std.proofs.Common.{◌∙◌, ap, get_or, inl, inr, ◌⊎◌, ℕ}
use Rattle.vc_closure.specs.Closing.{all_brought, closure}
use Rattle.vc_closure.proofs.Closings.{brought_full, brought_moves, unfolds}
use Rattle.vc_closure.proofs.LastMatrix.{last_closed, last_least}
use Rattle.vc_closure.proofs.Unchanged.{unchanged}
use Rattle.vc_model.specs.Automata.{Automaton, IsAutomaton, IsSound, NoEmptyCircuit}
use Rattle.vc_model.specs.Closures.{IsLeast}
use Rattle.vc_model.specs.WeightSet.{Absorbs, SemiringLaws, WeightSet}
use Rattle.vc_model.specs.Words.{size}
use Rattle.vc_closure.proofs.laws.closings_keep_futures.Goals as goal

pub returns-clause-closed : goal.returns-clause-closed
returns-clause-closed g c R L tapes A G s = last_closed L tapes A G s

pub returns-clause-proper : goal.returns-clause-proper
returns-clause-proper g c R L A P K C t i z =
    let r = c.transitions_are_gathered.ensures.sources R L (all_brought R A K) P.transitions C.transitions t i in
    brought_full L A K r.0 r.1 (ap (λ d. size d.1) r.2 ∙ z)

pub returns-clause-closure : goal.returns-clause-closure
returns-clause-closure g c R L tapes A P G s C =
    let K = closure R A in
    record {
      proper = returns-clause-proper g c R L A P K C;
      states = C.states;
      unfolds = λ p f l. unfolds L A G.to K (last_closed L tapes A G s) p f l;
      initial = λ p l. ap (λ ws. get_or ws p R.zero) C.initial;
      final = C.final;
      steps = λ p h l. c.gathering_keeps_sums.ensures.moves R L (record A { transitions = all_brought R A K }) P C.transitions p h ∙ brought_moves L A K p h l;
    }

least_or_free : {V : Type 0} {R : WeightSet V} (L : SemiringLaws R) (tapes : ℕ) (A : Automaton V) → IsAutomaton R tapes A → IsSound R tapes A → (Absorbs R × IsLeast R A (closure R A)) ⊎ NoEmptyCircuit tapes A
least_or_free L tapes A G (inl b) = inl (b, last_least L tapes A G b)
least_or_free L tapes A G (inr n) = inr n

pub returns-clause-future : goal.returns-clause-future
returns-clause-future g c R L tapes A P G H s C = c.closures_keep_futures.ensures.future R L tapes A P G H (closure R A) (returns-clause-closure g c R L tapes A P G s C) (least_or_free L tapes A G s)

pub returns-clause-coefficient : goal.returns-clause-coefficient
returns-clause-coefficient g c R L tapes A P G H s C = c.closures_keep_futures.ensures.coefficient R L tapes A P G H (closure R A) (returns-clause-closure g c R L tapes A P G s C) (least_or_free L tapes A G s)

pub returns-clause-same : goal.returns-clause-same
returns-clause-same g c R L tapes A P G H N a p C = unchanged L tapes A G N P H a p C
