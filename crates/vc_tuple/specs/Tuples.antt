-- The tape sets of a tuple.
use Rattle.std.proofs.Common.{List, [], ◌∷◌, length, ◌≤◌, arith}
use Rattle.vc_label.specs.declared.tape_set.TapeSet.{TapeSet}
use Rattle.vc_tuple.specs.declared.tuple.Sets.{Sets}
use Rattle.vc_tuple.specs.declared.tuple.Sets.TheVariants.{Two, Three, Four}

-- the set of each tape
abbrev pub sets_of : Sets → List TapeSet
sets_of (Two a b) = a ∷ b ∷ []
sets_of (Three a b c) = a ∷ b ∷ c ∷ []
sets_of (Four a b c d) = a ∷ b ∷ c ∷ d ∷ []

pub few_sets : (s : Sets) → (1 ≤ length (sets_of s)) × (length (sets_of s) ≤ 4)
few_sets (Two a b) = (omega arith, omega arith)
few_sets (Three a b c) = (omega arith, omega arith)
few_sets (Four a b c d) = (omega arith, omega arith)
