-- Keys by which names are ordered.
use Rattle.std.specs.Prelude.{◌≡◌, ◌⊎◌, ◌<◌, true, false, ℕ, List}
use Rattle.std.specs.Borrow.{Bor}
use Rattle.std.specs.Global.{Vec}
use Rattle.vc_lines.specs.Names.{is_number, value_of}
use Rattle.vc_text.specs.Escapes.{unescaped}

-- the key of a name: the value of a number; or a number that is above all of these, and the bytes of the name
abbrev pub IsKeyOf : ℕ → Vec ℕ → List ℕ → Type 0
IsKeyOf rank text name =
    ((is_number name ≡ true) × (rank ≡ value_of name) × (rank < 1000000000000000000))
    ⊎ ((is_number name ≡ false) × (rank ≡ 1000000000000000000) × (text.items ≡ unescaped name))

-- a name with its key
abbrev pub IsKeyed : ℕ × Vec ℕ × Bor (List ℕ) → Type 0
IsKeyed k = IsKeyOf k.0 k.1 k.2.now
