-- The tapes of a borrowed word.
use Rattle.std.specs.Prelude.{[], ◌∷◌}
use Rattle.vc_label.specs.declared.word.Tapes.{Tapes}
use Rattle.vc_label.specs.declared.word.Tapes.TheVariants.{One, Two, Three, Four}
use Rattle.vc_model.specs.Words.{Word}

-- the letters of each tape
abbrev pub word_on : Tapes → Word
word_on (One a) = a.now ∷ []
word_on (Two a b) = a.now ∷ b.now ∷ []
word_on (Three a b c) = a.now ∷ b.now ∷ c.now ∷ []
word_on (Four a b c d) = a.now ∷ b.now ∷ c.now ∷ d.now ∷ []
