use Rattle.std.proofs.Common.{◌∙◌}
use Rattle.vc_text.proofs.Cuts.{cut_point, front_taken}
use Rattle.vc_text.proofs.growing.cut_back.Goals as goal

pub truncate-requires : goal.truncate-requires
truncate-requires c within =
    let (old, utf, e, front) = c.requires in
    cut_point old c.args.into.now c.args.old utf e front

pub returns : goal.returns
returns c text e front = c.truncate.ensures.bytes ∙ front_taken text _ c.args.old e front
