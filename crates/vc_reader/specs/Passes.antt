-- What the passes of the reader answer.
use Rattle.std.specs.Prelude.{◌≡◌, ◌⊎◌, ℕ, zero, suc, ◌+◌, Bool, true, List, [], ◌∷◌, Result, Ok, Err, Option, None, Some, unwrap_or, ⊤}
use Rattle.std.specs.Option.{is_some}
use Rattle.vc_reader.specs.declared.check.Outside.{Outside}
use Rattle.vc_reader.specs.declared.check.Judged.{Judged}
use Rattle.vc_reader.specs.declared.check.Judged.TheVariants.{Bad, Good}
use Rattle.vc_lines.specs.Grammar.{Line, blank, line_at}
use Rattle.std.specs.List.{flat_map}
use Rattle.vc_label.specs.declared.tape_set.TapeSet.{TapeSet}
use Rattle.vc_reader.specs.declared.fault.DautFault.{DautFault}
use Rattle.vc_reader.specs.declared.fault.DautFault.TheVariants.{Syntax, NotALabel, Overflow, Limit, Memory}
use Rattle.vc_aut.specs.Drafts.{Draft, with_state}
use Rattle.vc_model.specs.WeightSet.{WeightSet}
use Rattle.vc_ring.specs.declared.faults.MakeFault.{MakeFault}
use Rattle.vc_ring.specs.declared.faults.MakeFault.TheVariants.{Overflow as Unfit, Limit as PastLimit, Memory as NoMemory}
use Rattle.vc_ring.specs.declared.faults.Overflow.TheVariants.{Numeral, Add, Mul, Star}
use Rattle.vc_reader.specs.Building.{line_weights, HasNumeral, HaveNumbers, IsRefused, AreTaken, with_all}
use Rattle.vc_reader.specs.Meaning.{Given}
use Rattle.vc_lines.specs.Names.{line_names, with_names}
use Rattle.vc_reader.specs.Spelling.{bad_line, lines_in, AreOver, IsFirstLabel, IsLineOver, IsFirstInLine}

-- the label that was met before, or else the one that is found in the line of this number
abbrev pub first_outside : Option Outside → ℕ → Option (ℕ × ℕ) → Option Outside
first_outside (Some o) line found = Some o
first_outside None line None = None
first_outside None line (Some span) = Some (record { line = line; span = span })

module _ {V : Type 0} (spelled : List ℕ → Option V) (sets : List TapeSet) where
  -- the text is no line; or it is one, the names of its states were added, and its first label that is not in the sets is this one, if there is one
  abbrev pub IsJudged : List ℕ → List (List ℕ) → List (List ℕ) → Judged → Type 0
  IsJudged text old new Bad = line_at spelled text ≡ None
  IsJudged text old new (Good None) = (is_some (line_at spelled text) ≡ true) × (new ≡ with_names old (line_names (unwrap_or (line_at spelled text) blank))) × IsLineOver sets (unwrap_or (line_at spelled text) blank)
  IsJudged text old new (Good (Some span)) = (is_some (line_at spelled text) ≡ true) × (new ≡ with_names old (line_names (unwrap_or (line_at spelled text) blank))) × IsFirstInLine sets (unwrap_or (line_at spelled text) blank) span

  -- the texts are lines with labels in the sets, and the names of their states were added; or the first text that is no line, or the first label that is not in the sets
  abbrev pub IsChecked : ℕ → List (List ℕ) → List (List ℕ) → List (List ℕ) → Result (Unit {0}) (DautFault V) → Type 0
  IsChecked first texts old new (Ok u) = (bad_line spelled first texts ≡ None) × AreOver sets (lines_in spelled texts) × (new ≡ with_names old (flat_map line_names (lines_in spelled texts)))
  IsChecked first texts old new (Err (Syntax line)) = bad_line spelled first texts ≡ Some line
  IsChecked first texts old new (Err (NotALabel line from to)) = (bad_line spelled first texts ≡ None) × IsFirstLabel sets first (lines_in spelled texts) line (from, to)
  IsChecked first texts old new (Err (Overflow line step)) = ⊥
  IsChecked first texts old new (Err (Limit l)) = ⊥
  IsChecked first texts old new (Err (Memory e)) = ⊤

-- the fault of a line, with its number
abbrev pub fault_at : {V : Type 0} → ℕ → MakeFault V → DautFault V
fault_at line (Unfit step) = Overflow line step
fault_at line (PastLimit l) = Limit l
fault_at line (NoMemory e) = Memory e

module _ {V : Type 0} (R : WeightSet V) (spelled : List ℕ → Option V) (numbers_fit : List ℕ → Bool) where
  -- one of the weights of the line of this number, at this place, has a number that is past its range, where the first line has the number n
  abbrev pub IsNumeralAt : ℕ → List Line → ℕ → ℕ → Type 0
  IsNumeralAt n [] line at = ⊥
  IsNumeralAt n (l ∷ ls) line at = ((line ≡ n) × HasNumeral R spelled numbers_fit (line_weights l) at) ⊎ IsNumeralAt (n + 1) ls line at

module _ {V : Type 0} (R : WeightSet V) (spelled : List ℕ → Option V) (numbers_fit : List ℕ → Bool) (given : Line → List (Given V)) where
  -- what the line of this number gives is refused, where what the lines before it give was added
  abbrev pub IsRefusedAt : ℕ → List Line → Draft V → ℕ → MakeFault V → Type 0
  IsRefusedAt n [] d line fault = ⊥
  IsRefusedAt n (l ∷ ls) d line fault = ((line ≡ n) × IsRefused R d (given l) fault) ⊎ (AreTaken R d (given l) × IsRefusedAt (n + 1) ls (with_all R d (given l)) line fault)

  -- what lines give was added, or something in them is refused
  abbrev pub AreAdded : ℕ → List Line → Draft V → Draft V → Result (Unit {0}) (DautFault V) → Type 0
  AreAdded n lines d new (Ok u) = (new ≡ with_all R d (flat_map given lines)) × AreTaken R d (flat_map given lines) × HaveNumbers R spelled numbers_fit (flat_map line_weights lines)
  AreAdded n lines d new (Err (Syntax line)) = ⊥
  AreAdded n lines d new (Err (NotALabel line from to)) = ⊥
  AreAdded n lines d new (Err (Overflow line (Numeral at))) = IsNumeralAt R spelled numbers_fit n lines line at
  AreAdded n lines d new (Err (Overflow line (Add v w))) = IsRefusedAt n lines d line (Unfit (Add v w))
  AreAdded n lines d new (Err (Overflow line (Mul v w))) = ⊥
  AreAdded n lines d new (Err (Overflow line (Star v))) = ⊥
  AreAdded n lines d new (Err (Limit l)) = IsRefused R d (flat_map given lines) (PastLimit l)
  AreAdded n lines d new (Err (Memory e)) = ⊤

-- so many states more
abbrev pub with_states : {V : Type 0} → WeightSet V → ℕ → Draft V → Draft V
with_states R zero d = d
with_states R (suc n) d = with_states R n (with_state R d)

-- there is no memory
abbrev pub IsWant : {V : Type 0} → MakeFault V → Type 0
IsWant (Unfit step) = ⊥
IsWant (PastLimit l) = ⊥
IsWant (NoMemory e) = ⊤
