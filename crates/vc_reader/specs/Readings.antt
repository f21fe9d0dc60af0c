-- Answers of the reader that may be given to one text.
use Rattle.std.specs.Prelude.{◌≡◌, ◌⊎◌, ⊤, Result, Ok, Err}
use Rattle.vc_aut.specs.Labelled.{Labelled}
use Rattle.vc_reader.specs.declared.fault.DautFault.{DautFault}
use Rattle.vc_reader.specs.declared.fault.DautFault.TheVariants.{Syntax, NotALabel, Overflow, Limit, Memory}

module _ {V : Type 0} where
  -- there was no memory
  abbrev pub IsWantOfMemory : Result (Labelled V) (DautFault V) → Type 0
  IsWantOfMemory (Ok automaton) = ⊥
  IsWantOfMemory (Err (Syntax line)) = ⊥
  IsWantOfMemory (Err (NotALabel line from to)) = ⊥
  IsWantOfMemory (Err (Overflow line step)) = ⊥
  IsWantOfMemory (Err (Limit l)) = ⊥
  IsWantOfMemory (Err (Memory e)) = ⊤

  -- a number or a sum does not fit, or a limit is passed
  abbrev pub IsPastBounds : Result (Labelled V) (DautFault V) → Type 0
  IsPastBounds (Ok automaton) = ⊥
  IsPastBounds (Err (Syntax line)) = ⊥
  IsPastBounds (Err (NotALabel line from to)) = ⊥
  IsPastBounds (Err (Overflow line step)) = ⊤
  IsPastBounds (Err (Limit l)) = ⊤
  IsPastBounds (Err (Memory e)) = ⊥

  -- one of the answers is want of memory; or they are equal; or each of them says that something is past its bounds
  abbrev pub IsSameReading : Result (Labelled V) (DautFault V) → Result (Labelled V) (DautFault V) → Type 0
  IsSameReading x y = (IsWantOfMemory x ⊎ IsWantOfMemory y) ⊎ ((x ≡ y) ⊎ (IsPastBounds x × IsPastBounds y))
