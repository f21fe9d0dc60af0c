use Rattle.std.proofs.Common.{◌≡◌, map}
use Rattle.std.specs.List.{list_all}
use Rattle.vc_lex.specs.Views.{seen}
use Rattle.vc_lines.specs.Grammar.{are_entries, is_entry}
use Rattle.vc_lines.specs.Views.{more_entries, tokens_left}
use Rattle.vc_lines.proofs.line.are_entries.Given as goal

abbrev pub invariant-loop-rest : goal.invariant-loop-rest
invariant-loop-rest g l = list_all (is_entry g.S.Semiring.spelled) (more_entries l.rest) ≡ are_entries g.S.Semiring.spelled (map seen l.tokens)

abbrev pub decreases-loop-rest : goal.decreases-loop-rest
decreases-loop-rest g l = tokens_left l.rest
