use Rattle.std.proofs.Common.{◌≡◌, map, drop}
use Rattle.vc_exprio.specs.Places.{first_place, is_unfit}
use Rattle.vc_lex.specs.Views.{seen}
use Rattle.vc_exprio.proofs.places.first_unfit.Given as goal

-- the first one is behind those so far
abbrev pub invariant-loop-token : goal.invariant-loop-token
invariant-loop-token g l =
    first_place (is_unfit g.S.Semiring.spelled g.S.Semiring.numbers_fit) (map seen (drop l.token-index l.tokens)) ≡ first_place (is_unfit g.S.Semiring.spelled g.S.Semiring.numbers_fit) (map seen l.tokens)
