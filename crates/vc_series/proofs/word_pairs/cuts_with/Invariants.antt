use Rattle.std.proofs.Common.{◌≡◌, ◌∷◌, ◌++◌, map, drop}
use Rattle.std.specs.List.{flat_map}
use Rattle.vc_model.specs.Words.{tape_cuts}
use Rattle.vc_series.proofs.word_pairs.cuts_with.Given as goal

-- the cuts so far, and those from here on
abbrev pub invariant-loop-at : goal.invariant-loop-at
invariant-loop-at l =
    l.pairs.items ++ flat_map (λ c. map (λ d. (c.0 ∷ d.0, c.1 ∷ d.1)) l.rest) (drop l.at (tape_cuts l.letters))
    ≡ flat_map (λ c. map (λ d. (c.0 ∷ d.0, c.1 ∷ d.1)) l.rest) (tape_cuts l.letters)
