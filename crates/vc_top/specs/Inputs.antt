-- What the text of a file is refused for, in the order of refusals, and the automaton that it spells.
use Rattle.std.specs.Prelude.{◌≡◌, ◌⊎◌, ◌<◌, ℕ, ◌+◌, Bool, false, List, [], length, Option, None, Some, Result, Err}
use Rattle.std.specs.List.{flat_map}
use Rattle.vc_aut.specs.Labelled.{Labelled}
use Rattle.vc_context.specs.Spelling.{SpellsContext}
use Rattle.vc_context.specs.declared.context.Weights.{Weights}
use Rattle.vc_reader.specs.Additions.{HasManyTriples, IsUnfitAddition}
use Rattle.vc_reader.specs.Answers.{IsReadAfter}
use Rattle.vc_lines.specs.ContextLines.{IsContextLine}
use Rattle.vc_lines.specs.Heads.{HeadLine, head_line}
use Rattle.vc_lines.specs.Lines.{lines_of}
use Rattle.vc_lines.specs.Names.{line_names, with_names}
use Rattle.vc_reader.specs.Passes.{IsNumeralAt}
use Rattle.vc_reader.specs.Spelling.{Spells, bad_line, lines_in, IsFirstLabel}
use Rattle.vc_reader.specs.declared.fault.DautFault.{DautFault}
use Rattle.vc_files.specs.Files.{Bytes}
use Rattle.vc_label.specs.declared.tape_set.TapeSet.{TapeSet}
use Rattle.vc_model.specs.Automata.{Automaton, IsEmptyCircuit, Transition}
use Rattle.vc_ring.specs.declared.faults.Measure.TheVariants.{States, Transitions, Bytes as BytesOf}
use Rattle.vc_ring.specs.Texts.{WeightTexts}
use Rattle.vc_top.specs.Outcomes.{ForSuch, Gives, Outcome, Then, Unless, UnlessAny, WithOne}
use Rattle.vc_top.specs.Reasons.{Reason, in_line, syntax, no_label, empty_circuit, overflow, limit, unread}
use Rattle.vc_top.specs.Seen.{HasFailed, Seen, Reads}
use Rattle.vc_top.specs.Sets.{absorbs, texts_of, value_of}
use Rattle.vc_top.specs.declared.refusal.Bound.TheVariants.{Of}

-- the first line of a file that is not blank, and the context that it spells
pub record Headed : Type 0 where
  pub head : HeadLine
  pub sets : List TapeSet
  pub weights : Weights

pub record HasContext (bytes : Bytes) (f : Headed) : Type 0 where
  pub text : Bytes
  pub is_head : head_line 1 (lines_of bytes) ≡ Some f.head
  pub is_context : IsContextLine f.head.line text
  pub spells : SpellsContext text f.sets f.weights

-- the number of the first line that is not blank, and of the last line where all are blank
abbrev pub head_number : ℕ → Option HeadLine → ℕ
head_number last None = last
head_number last (Some h) = h.number

-- the automaton of a file, over the weight set of this name
pub record Input : Type 0 where
  pub weights : Weights
  pub of : Labelled (value_of weights)

-- one does not absorb, and a path that is not the empty one leads from a state to itself with an empty label
abbrev pub HasRefusedCircuit : {V : Type 0} → Bool → Labelled V → Type 0
HasRefusedCircuit {V} is_absorbing a = (is_absorbing ≡ false) × (p : ℕ) × (ts : List (Transition V)) × IsEmptyCircuit (length a.sets) a.automaton p ts

-- no circuit of the input is refused
abbrev pub IsSoundInput : Input → Type 0
IsSoundInput x = ¬ HasRefusedCircuit (absorbs x.weights) x.of

-- the automaton, where no circuit of it is refused
abbrev pub SoundOnly : {V : Type 0} → Bool → Labelled V → Outcome (Labelled V)
SoundOnly is_absorbing a = Unless (HasRefusedCircuit is_absorbing a) empty_circuit (Gives a)

module _ {V : Type 0} (T : WeightTexts V) where
  -- the reader may answer this, where `h` is the context line
  abbrev pub IsReading : List TapeSet → HeadLine → Result (Labelled V) (DautFault V) → Type 0
  IsReading = IsReadAfter T

  -- the lines after the context line spell this automaton
  abbrev pub SpellsLines : List TapeSet → HeadLine → Automaton V → Type 0
  SpellsLines sets h = Spells T sets h.after

  -- the first text after the context line that is no line of the grammar has this number
  abbrev pub IsBadLine : HeadLine → ℕ → Type 0
  IsBadLine h line = bad_line T.spelled (h.number + 1) h.after ≡ Some line

  -- the first label that is not in the label sets stands in the line of this number, from the first of these bytes to the second
  abbrev pub IsForeignLabel : List TapeSet → HeadLine → ℕ × (ℕ × ℕ) → Type 0
  IsForeignLabel sets h p = IsFirstLabel sets (h.number + 1) (lines_in T.spelled h.after) p.0 p.1

  -- a numeral in a weight is past its range
  abbrev pub HasNumeral : HeadLine → Type 0
  HasNumeral h = (line at : ℕ) × IsNumeralAt T.set T.spelled T.numbers_fit (h.number + 1) (lines_in T.spelled h.after) line at

  -- a line adds a weight to the sum of those before it, of the same state, or of the same source, label and target, and this sum does not fit
  abbrev pub HasUnfitAddition : List TapeSet → HeadLine → Type 0
  HasUnfitAddition sets h = (line : ℕ) × (v w : V) × IsUnfitAddition T sets h line v w

  -- the lines name more than 1,000,000 states
  abbrev pub HasManyStates : HeadLine → Type 0
  HasManyStates h = 1000000 < length (with_names [] (flat_map line_names (lines_in T.spelled h.after)))

  -- the lines have transitions of more than 4,000,000 sources, labels and targets
  abbrev pub HasManyTransitions : List TapeSet → HeadLine → Type 0
  HasManyTransitions sets h = HasManyTriples T sets h

  -- a reason to refuse lines that are in the grammar and whose labels are in the label sets
  abbrev pub IsUnfit : List TapeSet → HeadLine → Reason → Type 0
  IsUnfit sets h reason =
      ((reason ≡ overflow) × (HasNumeral h ⊎ HasUnfitAddition sets h))
      ⊎ (((reason ≡ limit (Of States)) × HasManyStates h) ⊎ ((reason ≡ limit (Of Transitions)) × HasManyTransitions sets h))

  -- `Syntax` at the first line outside the grammar, `NotALabel` at the first label that is not in the label sets, then `Overflow` or `Limit`, and else the
  -- automaton that the lines spell
  abbrev pub ReadsLines : Bytes → List TapeSet → HeadLine → Outcome (Labelled V)
  ReadsLines file sets h =
      UnlessAny (IsBadLine h) (λ line. syntax (in_line file line)) (
      UnlessAny (IsForeignLabel sets h) (λ p. no_label (in_line file p.0)) (
      UnlessAny (IsUnfit sets h) (λ reason. reason) (
      ForSuch (SpellsLines sets h) (λ automaton. Gives (record { sets = sets; automaton = automaton })))))

  -- the same, and then `EmptyCircuit` where a circuit of that automaton is refused
  abbrev pub ReadsSound : Bool → Bytes → List TapeSet → HeadLine → Outcome (Labelled V)
  ReadsSound is_absorbing file sets h = Then (ReadsLines file sets h) (SoundOnly is_absorbing)

-- `Syntax` at the first line that is not blank where it is no context line, and else what the other lines give
abbrev pub ReadsText : Bytes → Bytes → Outcome Input
ReadsText file bytes =
    WithOne (HasContext bytes) (syntax (in_line file (head_number (length (lines_of bytes)) (head_line 1 (lines_of bytes))))) (λ f.
    Then (ReadsSound (texts_of f.weights) (absorbs f.weights) file f.sets f.head) (λ a. Gives (record { weights = f.weights; of = a })))

-- the greatest number of bytes of a file
abbrev pub most_bytes : ℕ
most_bytes = 16777216

-- the bytes of a file: reading it has failed, or its bytes are too many
abbrev pub ReadsBytes : Seen → Bytes → Outcome Bytes
ReadsBytes seen file result =
    ((result ≡ Err (unread file)) × HasFailed seen file)
    ⊎ Reads seen file (λ bytes. Unless (most_bytes < length bytes) (limit (Of BytesOf)) (Gives bytes) result)

-- the automaton of a file
abbrev pub ReadsFile : Seen → Bytes → Outcome Input
ReadsFile seen file = Then (ReadsBytes seen file) (ReadsText file)
