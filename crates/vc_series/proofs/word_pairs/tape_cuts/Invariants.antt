use Rattle.std.proofs.Common.{◌≡◌, ◌∷◌, [], ◌++◌, drop}
use Rattle.std.specs.List.{flat_map}
use Rattle.vc_model.specs.Words.{Tape, cuts, tape_cuts}
use Rattle.vc_series.proofs.word_pairs.tape_cuts.Given as goal

-- the cuts so far, and those from here on
abbrev pub invariant-loop-at : goal.invariant-loop-at
invariant-loop-at l = l.pairs.items ++ flat_map (λ (c : Tape × Tape). (c.0 ∷ [], c.1 ∷ []) ∷ []) (drop l.at (tape_cuts l.letters)) ≡ cuts (l.letters ∷ [])
