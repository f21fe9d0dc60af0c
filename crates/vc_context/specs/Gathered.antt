-- The tapes that a reader has gathered.
use Rattle.std.specs.Prelude.{List, [], ◌∷◌}
use Rattle.vc_context.specs.declared.joined.Tapes.{Tapes}
use Rattle.vc_context.specs.declared.joined.Tapes.TheVariants.{One, Two, Three, Four}
use Rattle.vc_label.specs.declared.tape_set.TapeSet.{TapeSet}

-- the set of each tape
abbrev pub sets_in : Tapes → List TapeSet
sets_in (One a) = a ∷ []
sets_in (Two a b) = a ∷ b ∷ []
sets_in (Three a b c) = a ∷ b ∷ c ∷ []
sets_in (Four a b c d) = a ∷ b ∷ c ∷ d ∷ []
