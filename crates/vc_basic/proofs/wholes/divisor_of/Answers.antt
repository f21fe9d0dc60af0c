use Rattle.std.proofs.Common.{rules, get_or, pos, FitsSigned}
use mir.Syntax.{w128}
use Rattle.vc_num.specs.Divisibility.{gcd_of-zero_left}
use Rattle.vc_basic.specs.WholeSplits.{common_divisor}
use Rattle.vc_basic.proofs.Rows.{divisor_step}
use Rattle.vc_basic.proofs.wholes.divisor_of.Goals as goal

pub loop-entry-init : goal.loop-entry-init
loop-entry-init c = gcd_of-zero_left (common_divisor c.args.row.now)

pub loop-entry-preserved : goal.loop-entry-preserved
loop-entry-preserved c =
    let fits : FitsSigned w128 (get_or c.args.row.now c.loop-entry.entry-index (pos 0)) = search rules in
    divisor_step c.loop-entry.common c.gcd-common.result c.unsigned_abs.result (pos 0) c.args.row.now c.loop-entry.entry-index (common_divisor c.args.row.now) c.loop-entry-test.true fits c.gcd-common.ensures.value c.unsigned_abs.ensures.value c.loop-entry.invariant
