-- What a store of files tells, and how the list of its faults grows.
use Rattle.std.specs.Prelude.{◌≡◌, ◌≢◌, ◌<◌, ◌⊎◌, ℕ, List, [], ◌∷◌, ◌++◌, length, Option, None, Some, ⊤}
use Rattle.vc_model.specs.Lists.{In}

-- the bytes of a text, a name or a file
abbrev pub Bytes : Type 0
Bytes = List ℕ

-- the files of a store: each name with its bytes
abbrev pub Held : Type 0
Held = List (Bytes × Bytes)

-- the first file of this name has these bytes
abbrev pub Holds : Held → Bytes → Bytes → Type 0
Holds [] name bytes = ⊥
Holds (f ∷ fs) name bytes = ((f.0 ≡ name) × (f.1 ≡ bytes)) ⊎ ((f.0 ≢ name) × Holds fs name bytes)

-- no file has this name
abbrev pub Lacks : Held → Bytes → Type 0
Lacks fs name = (bytes : Bytes) → ¬ Holds fs name bytes

-- the file of this name has these bytes, as far as the store tells
abbrev pub Tells : Option Held → Bytes → Bytes → Type 0
Tells None name bytes = ⊤
Tells (Some fs) name bytes = Holds fs name bytes

-- the store tells what it holds, and the file of this name has these bytes
abbrev pub Shows : Option Held → Bytes → Bytes → Type 0
Shows None name bytes = ⊥
Shows (Some fs) name bytes = Holds fs name bytes

-- the list grew at its end, by names of these alone
pub record Grows (names old new : List Bytes) : Type 0 where
  pub added : List Bytes
  pub at_end : new ≡ old ++ added
  pub each : (name : Bytes) → In name added → In name names

-- some name was added
abbrev pub Added : List Bytes → List Bytes → Type 0
Added old new = length old < length new
