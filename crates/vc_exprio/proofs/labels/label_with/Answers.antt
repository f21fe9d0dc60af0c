use Rattle.std.proofs.Common.{None, subst}
use Rattle.vc_exprio.specs.WordAnswers.{IsWritten}
use Rattle.vc_exprio.specs.WordParts.{tapes_of}
use Rattle.vc_exprio.proofs.ToldLabels.{over_alphabets}
use Rattle.vc_exprio.proofs.labels.label_with.Goals as goal

pub unreachable-requires : goal.unreachable-requires
unreachable-requires g c =
    let sets = g.L.LabelSet.sets c.args.labels.now in
    let w = tapes_of c.args.parts.now in
    let none : IsWritten sets w None = subst (IsWritten sets w) c.in_default-2.is c.in_ok-word.ensures in
    none (over_alphabets sets w c.requires)
