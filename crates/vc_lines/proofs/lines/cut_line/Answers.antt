use Rattle.std.proofs.Common.{◌∙◌, ◌∷◌, [], ap, ap₂, sym, arith}
use Rattle.vc_lines.specs.Lines.{more_lines}
use Rattle.vc_lines.proofs.TextLines.{line_cut, line_whole}
use Rattle.vc_lines.proofs.lines.cut_line.Goals as goal

pub returns-then-end-text-clause-lines : goal.returns-then-end-text-clause-lines
returns-then-end-text-clause-lines c =
    line_cut c.args.text.now c.line_length-end.result c.line_length-end.ensures.value (omega arith)
    ∙ ap₂ (λ l r. l ∷ more_lines r) (sym c.without_return.ensures) (sym c.without_end.ensures.value)

pub returns-else-end-text-clause-lines : goal.returns-else-end-text-clause-lines
returns-else-end-text-clause-lines c =
    line_whole c.args.text.now c.line_length-end.result c.line_length-end.ensures.value (omega arith)
    ∙ ap (λ l. l ∷ []) (sym c.without_return-else-end-text.ensures)
