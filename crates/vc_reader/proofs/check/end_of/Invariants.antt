use Rattle.std.proofs.Common.{◌≡◌, ◌+◌, ◌<◌, ◌^◌, drop, length, map}
use Rattle.vc_lex.specs.Marks.{end_of}
use Rattle.vc_lex.specs.Views.{seen, AreFit}
use Rattle.vc_reader.proofs.check.end_of.Given as goal

abbrev pub invariant-loop-token : goal.invariant-loop-token
invariant-loop-token l =
    (end_of (seen l.last) (map seen (drop l.token-index l.rest)) ≡ end_of (seen l.first) (map seen l.rest))
    × (l.last.at + length l.last.text.now < 2 ^ 64)
    × AreFit (drop l.token-index l.rest)
