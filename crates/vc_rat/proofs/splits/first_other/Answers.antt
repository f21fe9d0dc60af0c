use Rattle.vc_rat.proofs.Splitting.{none-left}
use Rattle.vc_rat.proofs.splits.first_other.Goals as goal

pub unreachable-requires : goal.unreachable-requires
unreachable-requires c = none-left c.args.row.now c.loop-x.x-index c.loop-x-test.false c.loop-x.invariant c.requires.not_zero
