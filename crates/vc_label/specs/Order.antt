-- The order of labels.
use Rattle.std.specs.Ordering.{nat_cmp}
use Rattle.std.specs.Cmp.Lexicographic.{slice_cmp}
use Rattle.std.specs.declared.cmp.Ordering.{Ordering}
use Rattle.vc_model.specs.Words.{Word}

-- tape by tape, and each tape as a list of bytes, the empty one first
abbrev pub word_order : Word → Word → Ordering
word_order = slice_cmp (slice_cmp nat_cmp)
