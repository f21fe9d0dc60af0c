use Rattle.std.proofs.Common.{rules, ◌≡◌, ◌∷◌, map}
use Rattle.vc_exprio.specs.Making.{more_parts}
use Rattle.vc_exprio.specs.Views.{step_seen}
use Rattle.vc_exprio.specs.WordParts.{tapes_of}
use Rattle.vc_lex.specs.Parts.{tape_of}
use Rattle.vc_lex.specs.Views.{seen}
use Rattle.vc_exprio.proofs.labels.is_label.Goals as goal

pub returns : goal.returns
returns g c =
    let further = more_parts (map step_seen c.args.after.now) in
    let parts : tapes_of c.deref.result.now ≡ map tape_of (seen c.args.first ∷ further) = search rules in
    c.is_over.ensures further parts
