use Rattle.std.proofs.Common.{ap, ◌∙◌, length, false}
use Rattle.std.specs.Prelude.{◌==◌}
use Rattle.std.specs.List.{list_all}
use Rattle.std.specs.Option.{option_map_or}
use Rattle.vc_text.specs.Blanks.{is_blank}
use Rattle.vc_context.proofs.Fronts.{skipped_all}
use Rattle.vc_context.proofs.reader.is_last.Goals as goal

pub returns-in-Some : goal.returns-in-Some
returns-in-Some c =
    c.is_empty.ensures ∙ ap (λ t. length t == 0) c.after_blanks.ensures ∙ skipped_all c.in-Some.rest.now
    ∙ ap (λ o. option_map_or (list_all is_blank) o false) c.in-Some.ensures
