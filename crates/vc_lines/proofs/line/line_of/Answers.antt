use Rattle.vc_lines.proofs.Entries.{two_tokens}
use Rattle.vc_lines.proofs.line.line_of.Goals as goal

pub returns-in-len2-clause-line : goal.returns-in-len2-clause-line
returns-in-len2-clause-line g c = two_tokens g.S.Semiring.spelled c.args.tokens.now c.in-len2.len_at_least c.in-len2.len_below
