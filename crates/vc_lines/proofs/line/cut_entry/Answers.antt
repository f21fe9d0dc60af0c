use Rattle.std.proofs.Common.{◌+◌, arith}
use Rattle.vc_lines.proofs.Entries.{entry_cut, entry_whole, fit_take, fit_drop}
use Rattle.vc_lines.proofs.line.cut_entry.Goals as goal

pub returns-then-end-tokens-clause-entries : goal.returns-then-end-tokens-clause-entries
returns-then-end-tokens-clause-entries c = entry_cut c.args.tokens.now c.entry_length-end.result c.entry_length-end.ensures.value (omega arith)

pub returns-else-end-tokens-clause-entries : goal.returns-else-end-tokens-clause-entries
returns-else-end-tokens-clause-entries c = entry_whole c.args.tokens.now c.entry_length-end.result c.entry_length-end.ensures.value (omega arith)

pub returns-then-end-tokens-clause-fit : goal.returns-then-end-tokens-clause-fit
returns-then-end-tokens-clause-fit c h = (fit_take c.entry_length-end.result c.args.tokens.now h, fit_take _ _ (fit_drop (c.entry_length-end.result + 1) c.args.tokens.now h))
