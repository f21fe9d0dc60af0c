use Rattle.std.proofs.Common.{◌≡◌, ◌∷◌, ◌++◌, map, take}
use Rattle.vc_series.proofs.word_pairs.add_cuts.Given as goal

-- the pairs so far
abbrev pub invariant-loop-u : goal.invariant-loop-u
invariant-loop-u l = l.pairs.items ≡ l.initial.pairs.items ++ map (λ d. (l.first ∷ d.0, l.second ∷ d.1)) (take l.u-index l.rest)
