use Rattle.std.proofs.Common.{ap, ◌∙◌}
use Rattle.std.proofs.lemmas.Bool.Decides.{Decides-eqb}
use Rattle.std.proofs.lemmas.Slice.Eq.{strip_prefix_is}
use Rattle.vc_context.specs.Reading.{strip}
use Rattle.vc_context.proofs.Fronts.{stripped}
use Rattle.vc_context.proofs.pieces.after.Goals as goal

pub returns : goal.returns
returns c =
    stripped c.args.piece.now c.after_blanks.result.now c.strip_prefix.result
    (strip_prefix_is Decides-eqb c.after_blanks.result.now c.args.piece.now c.strip_prefix.result c.strip_prefix.ensures.cases)
    ∙ ap (strip c.args.piece.now) c.after_blanks.ensures
