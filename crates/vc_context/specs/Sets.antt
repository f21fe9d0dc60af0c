-- The tapes of the label set of a context.
use Rattle.std.specs.Prelude.{List, [], ◌∷◌}
use Rattle.vc_context.specs.declared.context.AnyLabels.{AnyLabels}
use Rattle.vc_context.specs.declared.context.AnyLabels.TheVariants as labels
use Rattle.vc_label.specs.declared.tape_set.TapeKind.TheVariants.{Letters, Nullable, Words}
use Rattle.vc_label.specs.declared.tape_set.TapeSet.{TapeSet}
use Rattle.vc_tuple.specs.Tuples.{sets_of}

-- what a label may have on each tape
abbrev pub tapes_of : AnyLabels → List TapeSet
tapes_of (labels.Letters l) = record { kind = Letters; alphabet = l.alphabet } ∷ []
tapes_of (labels.Nullable l) = record { kind = Nullable; alphabet = l.alphabet } ∷ []
tapes_of (labels.Words l) = record { kind = Words; alphabet = l.alphabet } ∷ []
tapes_of (labels.Tuple l) = sets_of l.sets
