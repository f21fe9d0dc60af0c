use Rattle.vc_reader.proofs.EntryLabels.{end_more, fit_at}
use Rattle.vc_reader.proofs.check.end_of.Goals as goal

pub loop-token-preserved : goal.loop-token-preserved
loop-token-preserved c =
    let i = c.loop-token.invariant in
    let f = fit_at c.args.rest.now c.loop-token.token-index _ c.loop-token-test.true i.2 in
    (end_more c.args.rest.now c.loop-token.token-index _ c.loop-token.last c.args.first c.loop-token-test.true i.0, f.0, f.1)
