use Rattle.std.proofs.Common.{map, take}
use Rattle.vc_exprio.specs.Spelling.{is_weight_of}
use Rattle.vc_lex.specs.Views.{seen}
use Rattle.vc_exprio.specs.Flat.{parser_seen}
use Rattle.vc_exprio.proofs.ParserStates.{IsAt}
use Rattle.vc_exprio.proofs.parser.parse.Given as goal

-- the tokens so far have led to this state
abbrev pub invariant-loop-token : goal.invariant-loop-token
invariant-loop-token g l = IsAt (is_weight_of g.S.Semiring.spelled) (map seen (take l.token-index l.tokens)) (parser_seen l.parser)
