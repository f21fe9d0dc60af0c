use Rattle.std.proofs.Common.{rules, ◌≡◌, ◌∷◌, map, subst}
use Rattle.std.specs.Prelude.{IfOk}
use Rattle.vc_exprio.specs.LabelAnswers.{IsLabelMade}
use Rattle.vc_exprio.specs.Making.{more_parts}
use Rattle.vc_exprio.specs.Views.{step_seen}
use Rattle.vc_exprio.specs.WordParts.{tapes_of}
use Rattle.vc_lex.specs.Parts.{tape_of}
use Rattle.vc_lex.specs.Views.{seen}
use Rattle.vc_exprio.proofs.ToldLabels.{lettered_over}
use Rattle.vc_exprio.proofs.labels.make_label.Goals as goal

pub label_if_any-requires : goal.label_if_any-requires
label_if_any-requires g c =
    let further = more_parts (map step_seen c.args.after.now) in
    let w = tapes_of c.deref.result.now in
    let parts : w ≡ map tape_of (seen c.args.first ∷ further) = search rules in
    λ some. lettered_over (g.L.LabelSet.sets c.args.labels.now) (seen c.args.first) further w parts some c.requires

pub returns : goal.returns
returns g c =
    let parts : tapes_of c.deref.result.now ≡ map tape_of (seen c.args.first ∷ more_parts (map step_seen c.args.after.now)) = search rules in
    subst (λ w. IfOk c.label_if_any.result (λ label. IsLabelMade g.L.LabelSet.parts w label)) parts c.label_if_any.ensures
