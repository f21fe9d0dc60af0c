-- Words that grow.
use Rattle.std.specs.Prelude.{[], ◌∷◌}
use Rattle.vc_label.specs.declared.word_buf.Lists.{Lists}
use Rattle.vc_label.specs.declared.word_buf.Lists.TheVariants.{One, Two, Three, Four}
use Rattle.vc_model.specs.Words.{Word}

-- the letters of each list
abbrev pub word_in : Lists → Word
word_in (One a) = a.items ∷ []
word_in (Two a b) = a.items ∷ b.items ∷ []
word_in (Three a b c) = a.items ∷ b.items ∷ c.items ∷ []
word_in (Four a b c d) = a.items ∷ b.items ∷ c.items ∷ d.items ∷ []
