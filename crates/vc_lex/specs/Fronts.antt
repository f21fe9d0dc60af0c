-- How far the pieces go that stand one behind another at the front of a text.
use Rattle.std.specs.Prelude.{ℕ, zero, suc, ◌+◌, List, drop, length, Option}
use Rattle.std.specs.Option.{option_map_or}

-- at most this many pieces, as long as one begins
abbrev pub front_by : (List ℕ → Option ℕ) → ℕ → List ℕ → ℕ
front_by width zero s = 0
front_by width (suc n) s = option_map_or (λ w. w + front_by width n (drop w s)) (width s) 0

-- how many bytes the pieces at the front have, where `width` answers how many bytes the piece has that begins a text
abbrev pub front : (List ℕ → Option ℕ) → List ℕ → ℕ
front width s = front_by width (length s) s
