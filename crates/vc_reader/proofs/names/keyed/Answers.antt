use Rattle.vc_reader.proofs.NameOrder.{keyed_more}
use Rattle.vc_reader.proofs.names.keyed.Goals as goal

pub loop-name-preserved : goal.loop-name-preserved
loop-name-preserved c =
    keyed_more c.loop-name.keyed.items c.push.new.self.items c.args.found.now c.loop-name.name-index _ _ _ c.loop-name-test.true c.in_ok-push.ensures.items c.loop-name.invariant.0 c.loop-name.invariant.1 c.in_ok-rank.ensures
