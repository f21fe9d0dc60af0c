use Rattle.std.proofs.Common.{Err, List, ap, length, subst, sym}
use Rattle.vc_label.specs.declared.tape_set.TapeSet.{TapeSet}
use Rattle.vc_model.specs.Automata.{IsAutomaton}
use Rattle.vc_ring.specs.Weighed.{weighed}
use Rattle.vc_top.specs.Operations.{IsProperOf, WithProper}
use Rattle.vc_top.specs.Outcomes.{Gives, OrMemory}
use Rattle.vc_top.proofs.Closed.{none_refused, proper_made, proper_not}
use Rattle.vc_top.proofs.operation.closed.Goals as goal

pub returns-in-Ok-clause-closed : goal.returns-in-Ok-clause-closed
returns-in-Ok-clause-closed g c =
    let T = weighed g.S.Semiring g.S.Value.PartialEq in
    let a = c.args.automaton.now in
    let p = c.in-Ok.proper in
    let s : IsProperOf T a p = record {
      labels = c.in-Ok.ensures.sets;
      closing = c.in-Ok.ensures.closing;
      futures = c.in-Ok.ensures.futures;
      series = c.in-Ok.ensures.series;
      same = c.in-Ok.ensures.same;
      automaton = subst (λ n. IsAutomaton T.set n p.automaton) (ap (λ (ss : List TapeSet). length ss) c.in-Ok.ensures.sets) c.proper_automata_are_proper.ensures.automaton;
      proper = c.proper_automata_are_proper.ensures.proper;
      order = c.proper_automata_are_proper.ensures.labelled.drawn.order;
    } in
    proper_made T g.S.Semiring.ABSORBS a p (none_refused T.set g.S.Semiring.ABSORBS a c.automata_are_valid.ensures.automaton c.in-Ok.ensures.allowed) s

pub returns-in-Err-clause-closed : goal.returns-in-Err-clause-closed
returns-in-Err-clause-closed g c =
    let T = weighed g.S.Semiring g.S.Value.PartialEq in
    let a = c.args.automaton.now in
    let f = c.in-Err.fault in
    subst (λ r. OrMemory (WithProper T g.S.Semiring.ABSORBS a Gives) (Err r)) (sym c.not_closed.ensures)
    (proper_not T g.S.Semiring.ABSORBS a g.L.LabelSet.parts c.automata_are_valid.ensures.automaton f c.in-Err.ensures.fault)
