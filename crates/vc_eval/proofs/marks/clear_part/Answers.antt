use Rattle.std.proofs.Common.{◌≡◌, ◌/◌, false, length, sym, subst, arith}
use Rattle.vc_eval.specs.Marks.{mark, AreMarked}
use Rattle.vc_eval.proofs.MarkedCells.{cleared_marked, cleared_whole, cleared_same, mark_read, mark_there, part_zero}
use Rattle.vc_eval.proofs.marks.clear_part.Goals as goal

pub returns-then-count-eq-BLOCK-clause-marked : goal.returns-then-count-eq-BLOCK-clause-marked
returns-then-count-eq-BLOCK-clause-marked g c = cleared_whole g.S.Semiring.set c.args.cell c.args.count c.args.rows.now c.clear.new.rows c.args.marks.now c.if-count-eq-BLOCK.true c.requires.block c.requires.room c.requires.marked c.clear.ensures.rows

pub returns-else-count-eq-BLOCK-clause-marked : goal.returns-else-count-eq-BLOCK-clause-marked
returns-else-count-eq-BLOCK-clause-marked g c =
    let R = g.S.Semiring.set in
    subst (λ r. AreMarked R r c.args.marks.now) (sym c.clear.ensures.rows) (cleared_marked R c.args.cell c.args.count c.args.rows.now c.args.marks.now c.requires.room c.requires.marked)

pub returns-else-marks-cell-clause-rows : goal.returns-else-marks-cell-clause-rows
returns-else-marks-cell-clause-rows g c =
    let R = g.S.Semiring.set in
    let marks = c.args.marks.now in
    let some = c.requires.some in
    let room = c.requires.room in
    let there = mark_there c.args.cell (length c.args.rows.now) (length marks) (omega (arith, some, room)) c.requires.marks in
    let unmarked : mark marks (c.args.cell / 64) ≡ false = mark_read marks (c.args.cell / 64) there c.if-marks-cell.false in
    sym (cleared_same R c.args.cell c.args.count c.args.rows.now (part_zero R c.args.rows.now c.args.marks.now c.args.cell c.args.count c.requires.marked c.requires.block unmarked))
