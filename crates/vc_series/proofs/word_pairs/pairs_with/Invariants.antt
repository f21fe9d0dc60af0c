use Rattle.std.proofs.Common.{◌≡◌, ◌++◌, map, take}
use Rattle.vc_series.proofs.Pairs.{in_first, in_second}
use Rattle.vc_series.proofs.word_pairs.pairs_with.Given as goal

-- the pairs so far
abbrev pub invariant-loop-u : goal.invariant-loop-u
invariant-loop-u l = l.pairs.items ≡ map (in_first l.letter) (take l.u-index l.rest)

abbrev pub invariant-loop-u-2 : goal.invariant-loop-u-2
invariant-loop-u-2 l = l.pairs.items ≡ map (in_first l.letter) l.rest ++ map (in_second l.letter) (take l.u-index l.rest)
