use Rattle.std.proofs.Common.{inl, inr, refl, rules}
use Rattle.vc_files.specs.Files.{Added}
use Rattle.vc_top.specs.Seen.{seen}
use Rattle.vc_top.proofs.Failed.{has_failed}
use Rattle.vc_top.proofs.input.load.Goals as goal

pub returns-in-Err-Failed-clause-loaded : goal.returns-in-Err-Failed-clause-loaded
returns-in-Err-Failed-clause-loaded g c =
    let a : Added (g.F.Files.faults c.args.files.now) (g.F.Files.faults c.read_all.new.self) = search rules in
    inr (inl (refl, has_failed (seen (g.F.Files.held c.args.files.now) _ _) c.args.name.now c.in-Err-Failed.ensures.faults a))
