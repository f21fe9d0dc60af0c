-- Words with more letters at the end of a tape.
use Rattle.std.specs.Prelude.{ℕ, [], ◌++◌, slice_set, slice_index_or}
use Rattle.vc_model.specs.Words.{Word, Tape}

-- the word with the letters of a at the end of tape i
abbrev pub grown : Word → ℕ → Tape → Word
grown w i a = slice_set w i (slice_index_or w i [] ++ a)
