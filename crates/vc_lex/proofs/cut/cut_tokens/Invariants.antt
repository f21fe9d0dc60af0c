use Rattle.std.proofs.Common.{◌-◌, length, map}
use Rattle.vc_lex.specs.Views.{seen, AreFit}
use Rattle.vc_lex.proofs.NextToken.{IsAt}
use Rattle.vc_lex.proofs.cut.cut_tokens.Given as goal

-- the tokens so far, and what is left of the text
abbrev pub invariant-loop-next : goal.invariant-loop-next
invariant-loop-next l = IsAt l.fn.mode l.text (map seen l.tokens.items) l.lexer × AreFit l.tokens.items

abbrev pub decreases-loop-next : goal.decreases-loop-next
decreases-loop-next l = length l.text - l.lexer.place
