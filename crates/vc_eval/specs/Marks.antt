-- Marks of the cells of rows: one for each 64 cells, which may be false where they are all zero.
use Rattle.std.specs.Prelude.{◌≡◌, ℕ, ◌<◌, ◌+◌, ◌*◌, ◌/◌, Bool, true, false, List, slice_index_or}
use Rattle.vc_model.specs.Automata.{Transition}
use Rattle.vc_model.specs.Lists.{In}
use Rattle.vc_model.specs.WeightSet.{WeightSet}
use Rattle.vc_eval.specs.Moves.{entry}

-- the mark of a block; there is none to be false past the last one
abbrev pub mark : List Bool → ℕ → Bool
mark marks b = slice_index_or marks b true

-- the cells of a block that is not marked are zero
abbrev pub AreMarked : {V : Type 0} → WeightSet V → List V → List Bool → Type 0
AreMarked R rows marks = (b j : ℕ) → j < 64 → mark marks b ≡ false → entry R rows (b * 64 + j) ≡ R.zero

-- what was marked is so still
abbrev pub AreKept : List Bool → List Bool → Type 0
AreKept old new = (b : ℕ) → mark new b ≡ false → mark old b ≡ false

-- the block of each target is marked, in the row that begins at a cell
abbrev pub AreTargetsMarked : {V : Type 0} → ℕ → List (Transition V) → List Bool → Type 0
AreTargetsMarked {V} at us marks = (u : Transition V) → In u us → mark marks ((at + u.to) / 64) ≡ true
