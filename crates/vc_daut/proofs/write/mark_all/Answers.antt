use Rattle.std.proofs.Common.{◌∙◌, arith, length}
use Rattle.vc_aut.specs.Stored.{transition_of}
use Rattle.vc_daut.proofs.MarkedStates.{marks_first, marks_next, moves_to, marks_end}
use Rattle.vc_daut.proofs.write.mark_all.Goals as goal

pub loop-state-init : goal.loop-state-init
loop-state-init g c = record {
  length = c.requires.length;
  marks = marks_first c.args.marks.now c.args.aut.now.automaton.states c.args.aut.now.automaton.transitions c.requires.none;
}

pub mark_targets-requires : goal.mark_targets-requires
mark_targets-requires g c =
    let A = c.args.aut.now.automaton in
    moves_to g.S.Semiring.set c.args.aut.now.sets A.states (length c.loop-state.marks) c.loop-state.state A.transitions (transition_of g.L.LabelSet.parts) c.transitions_from.result.now c.automata_are_valid.ensures.labelled.drawn.moves c.transitions_from.ensures c.loop-state.invariant.length

pub loop-state-preserved : goal.loop-state-preserved
loop-state-preserved g c =
    let A = c.args.aut.now.automaton in
    record {
      length = c.mark_targets.ensures.length ∙ c.loop-state.invariant.length;
      marks = marks_next c.loop-state.marks c.mark_targets.new.marks A.states c.loop-state.state A.transitions _ c.transitions_from.ensures c.loop-state.invariant.length c.mark_targets.ensures.marks c.loop-state.invariant.marks;
    }

pub returns-clause-marks : goal.returns-clause-marks
returns-clause-marks g c =
    let A = c.args.aut.now.automaton in
    marks_end g.S.Semiring.set c.args.aut.now.sets A.states c.loop-state.state A.transitions c.loop-state.marks (omega arith) c.automata_are_valid.ensures.labelled.drawn.moves c.loop-state.invariant.marks
