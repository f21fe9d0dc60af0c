use Rattle.std.proofs.Common.{◌≡◌, ◌+◌, ◌/◌, false, length, sym, arith}
use Rattle.vc_eval.specs.Forward.{from_states}
use Rattle.vc_eval.specs.LetterMoves.{by_letter}
use Rattle.vc_eval.specs.Marks.{mark}
use Rattle.vc_eval.proofs.Blocks.{idle_part, part-In}
use Rattle.vc_eval.proofs.LetterSources.{idle_moved, idle_steps}
use Rattle.vc_eval.proofs.MarkedCells.{mark_read, mark_there}
use Rattle.vc_eval.proofs.letters.push_block.Goals as goal

pub returns-clause-steps : goal.returns-clause-steps
returns-clause-steps g c =
    let R = g.S.Semiring.set in
    let L = g.met.S.Semiring.laws in
    let K = g.met.S.Semiring.ranges in
    let A = c.args.aut.now.automaton in
    let rows = c.args.rows.now in
    let marks = c.args.marks.now in
    let before = c.args.before in
    let first = c.args.first in
    let end = c.args.end in
    let some = c.requires.some in
    let last = c.requires.end in
    let from = c.requires.apart.before_inside in
    let inside = c.requires.apart.inside in
    let there = mark_there (before + first) (length rows) (length marks) (omega (arith, some, last, from)) c.requires.room in
    let unmarked : mark marks ((before + first) / 64) ≡ false = mark_read marks ((before + first) / 64) there c.if-marks-before.false in
    sym (idle_steps L K c.args.at (by_letter R c.args.letter before) (from_states A.transitions first end) rows c.requires.rows_in
    (λ u i.
    let m = c.automata_are_valid.ensures.moves u (part-In A.transitions first end u i) in
    let to = m.to in
    (omega (arith, to, inside), m.weight))
    (idle_part A.transitions L K c.args.letter before first end rows marks c.requires.marked c.requires.block some unmarked))

pub returns-clause-rows : goal.returns-clause-rows
returns-clause-rows g c =
    let R = g.S.Semiring.set in
    let L = g.met.S.Semiring.laws in
    let K = g.met.S.Semiring.ranges in
    let A = c.args.aut.now.automaton in
    let rows = c.args.rows.now in
    let marks = c.args.marks.now in
    let before = c.args.before in
    let first = c.args.first in
    let end = c.args.end in
    let some = c.requires.some in
    let last = c.requires.end in
    let from = c.requires.apart.before_inside in
    let there = mark_there (before + first) (length rows) (length marks) (omega (arith, some, last, from)) c.requires.room in
    let unmarked : mark marks ((before + first) / 64) ≡ false = mark_read marks ((before + first) / 64) there c.if-marks-before.false in
    sym (idle_moved L K c.args.at (by_letter R c.args.letter before) (from_states A.transitions first end) rows
    (idle_part A.transitions L K c.args.letter before first end rows marks c.requires.marked c.requires.block some unmarked))
