-- Texts that grow.
use Rattle.std.specs.Prelude.{◌≡◌, ℕ, List, ◌++◌}

-- the new text is the old one with more after it
pub record IsFront (old new : List ℕ) : Type 0 where
  pub more : List ℕ
  pub text : new ≡ old ++ more
