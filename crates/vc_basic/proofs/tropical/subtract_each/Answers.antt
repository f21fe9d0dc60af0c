use Rattle.vc_basic.specs.TropicalSplits.{without}
use Rattle.vc_basic.proofs.Rows.{written_over}
use Rattle.vc_basic.proofs.tropical.subtract_each.Goals as goal

pub loop-entry-preserved : goal.loop-entry-preserved
loop-entry-preserved c = written_over (λ a. without a c.args.least) c.args.row.now c.loop-entry.row c.loop-entry.entry-index _ c.remainder.result c.loop-entry-test.true c.loop-entry.auto.row c.loop-entry.invariant c.remainder.ensures
