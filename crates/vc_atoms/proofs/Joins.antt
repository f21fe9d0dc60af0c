-- Joins of words of one tape.
use Rattle.std.proofs.Common.{◌≡◌, [], ◌∷◌, length, arith}
use Rattle.std.proofs.lemmas.Grind.{common_steps}
use Rattle.vc_model.specs.Words.{Word, join}

-- nothing is added
pub join_nothing : (w : Word) → 1 ≡ length w → w ≡ join w ([] ∷ [])
join_nothing [] h = absurd (omega arith)
join_nothing (a ∷ []) h = grind (arith, common_steps)
join_nothing (a ∷ b ∷ w) h = absurd (omega arith)
