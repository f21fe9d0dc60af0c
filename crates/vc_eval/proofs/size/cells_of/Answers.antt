use Rattle.std.proofs.Common.{length, refl, ap, arith}
use Rattle.vc_label.specs.Borrowed.{word_of}
use Rattle.vc_eval.proofs.Sizes.{counted, past, more_some, ended}
use Rattle.vc_eval.proofs.size.cells_of.Goals as goal

pub loop-tape-init : goal.loop-tape-init
loop-tape-init c = record { cells = refl; some = c.requires; most = let b = c.ranges.states.fits in omega (arith, b) }

pub returns-then-more-clause-none : goal.returns-then-more-clause-none
returns-then-more-clause-none c = λ n. past (word_of c.args.word) c.loop-tape.tape c.loop-tape.cells c.args.states (length c.tape.result.now) (omega arith) (ap length c.tape.ensures.value) c.loop-tape.invariant.cells c.if-more.true

pub loop-tape-preserved : goal.loop-tape-preserved
loop-tape-preserved c =
    let m = c.if-more.false in
    record {
      cells = counted (word_of c.args.word) c.loop-tape.tape c.loop-tape.cells c.args.states (length c.tape.result.now) (omega arith) (ap length c.tape.ensures.value) c.loop-tape.invariant.cells;
      some = more_some c.loop-tape.cells (length c.tape.result.now) c.loop-tape.invariant.some;
      most = omega (arith, m);
    }

pub returns-then-cells-gt-MOST_CELLS-clause-none : goal.returns-then-cells-gt-MOST_CELLS-clause-none
returns-then-cells-gt-MOST_CELLS-clause-none c = λ n.
    let e = ended (word_of c.args.word) c.loop-tape.tape c.loop-tape.cells c.args.states (omega arith) c.loop-tape.invariant.cells in
    let m = c.if-cells-gt-MOST_CELLS.true in
    omega (arith, e, m)

pub returns-else-cells-gt-MOST_CELLS-clause-some : goal.returns-else-cells-gt-MOST_CELLS-clause-some
returns-else-cells-gt-MOST_CELLS-clause-some c =
    (ended (word_of c.args.word) c.loop-tape.tape c.loop-tape.cells c.args.states (omega arith) c.loop-tape.invariant.cells, c.if-cells-gt-MOST_CELLS.false)
