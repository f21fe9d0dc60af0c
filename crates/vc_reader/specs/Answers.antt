-- What the reader answers.
use Rattle.std.specs.Prelude.{◌≡◌, ◌⊎◌, ◌<◌, ◌≤◌, ℕ, ◌+◌, List, [], length, Some, None, Result, Ok, Err, ⊤}
use Rattle.std.specs.List.{flat_map}
use Rattle.vc_aut.specs.Drafts.{Draft, empty_draft, finished}
use Rattle.vc_aut.specs.Labelled.{Labelled}
use Rattle.vc_label.specs.declared.tape_set.TapeSet.{TapeSet}
use Rattle.vc_ring.specs.Texts.{WeightTexts}
use Rattle.vc_ring.specs.declared.faults.Limit.{Limit as Bound}
use Rattle.vc_ring.specs.declared.faults.Measure.TheVariants.{States}
use Rattle.vc_ring.specs.declared.faults.MakeFault.{MakeFault}
use Rattle.vc_ring.specs.declared.faults.MakeFault.TheVariants.{Overflow as Unfit, Limit as PastLimit}
use Rattle.vc_ring.specs.declared.faults.Overflow.TheVariants.{Numeral, Add, Mul, Star}
use Rattle.vc_reader.specs.declared.fault.DautFault.{DautFault}
use Rattle.vc_reader.specs.declared.fault.DautFault.TheVariants.{Syntax, NotALabel, Overflow, Limit, Memory}
use Rattle.vc_reader.specs.Building.{line_weights, HaveNumbers, IsRefused, AreTaken, with_all}
use Rattle.vc_lines.specs.Heads.{HeadLine}
use Rattle.vc_reader.specs.Meaning.{Given, given_by, number_of}
use Rattle.vc_lines.specs.Names.{AreNames, line_names, with_names}
use Rattle.vc_lines.specs.Grammar.{Line}
use Rattle.vc_reader.specs.Passes.{AreAdded, IsNumeralAt, IsRefusedAt, with_states}
use Rattle.vc_reader.specs.Spelling.{bad_line, lines_in, AreOver, IsFirstLabel}

module _ {V : Type 0} (T : WeightTexts V) (sets : List TapeSet) where
  -- what all lines after the head give, where these are the names of the states
  abbrev pub given_after : HeadLine → List (List ℕ) → List (Given V)
  given_after h names = flat_map (given_by T.set T.spelled sets (number_of names)) (lines_in T.spelled h.after)

  -- so many states, to which nothing was added
  abbrev pub states_alone : ℕ → Draft V
  states_alone n = with_states T.set n (empty_draft 1000000 sets)

  -- the automaton of what lines give, where these are the names of the states; or something in them is refused
  abbrev pub IsBuiltBy : ℕ → List Line → List (List ℕ) → Result (Labelled V) (DautFault V) → Type 0
  IsBuiltBy first lines names (Ok automaton) =
      (automaton ≡ finished T.set T.same (with_all T.set (states_alone (length names)) (flat_map (given_by T.set T.spelled sets (number_of names)) lines)))
      × AreTaken T.set (states_alone (length names)) (flat_map (given_by T.set T.spelled sets (number_of names)) lines)
      × HaveNumbers T.set T.spelled T.numbers_fit (flat_map line_weights lines)
  IsBuiltBy first lines names (Err fault) = (new : Draft V) × AreAdded T.set T.spelled T.numbers_fit (given_by T.set T.spelled sets (number_of names)) first lines (states_alone (length names)) new (Err fault)

  -- every text is a line, the labels are in the sets, no limit is passed, each number is in its range, and each sum fits; the automaton is that of what the lines give
  pub record IsBuilt (h : HeadLine) (automaton : Labelled V) : Type 0 where
    pub names : List (List ℕ)
    pub are_lines : bad_line T.spelled (h.number + 1) h.after ≡ None
    pub over : AreOver sets (lines_in T.spelled h.after)
    pub are_names : AreNames (lines_in T.spelled h.after) names
    pub few : length names ≤ 1000000
    pub numbers : HaveNumbers T.set T.spelled T.numbers_fit (flat_map line_weights (lines_in T.spelled h.after))
    pub taken : AreTaken T.set (states_alone (length names)) (given_after h names)
    pub built : automaton ≡ finished T.set T.same (with_all T.set (states_alone (length names)) (given_after h names))

  -- what a line gives is refused, or a number in it is past its range
  abbrev pub IsUnfit : HeadLine → ℕ → MakeFault V → Type 0
  IsUnfit h line fault = (names : List (List ℕ)) × AreNames (lines_in T.spelled h.after) names × IsRefusedAt T.set T.spelled T.numbers_fit (given_by T.set T.spelled sets (number_of names)) (h.number + 1) (lines_in T.spelled h.after) (states_alone (length names)) line fault

  -- the lines name more states than there may be, or more triples
  abbrev pub IsPastLimit : HeadLine → Bound → Type 0
  IsPastLimit h l =
      ((l ≡ record { what = States; most = 1000000 }) × (1000000 < length (with_names [] (flat_map line_names (lines_in T.spelled h.after)))))
      ⊎ ((names : List (List ℕ)) × AreNames (lines_in T.spelled h.after) names × IsRefused T.set (states_alone (length names)) (given_after h names) (PastLimit l))

  -- each text is a line, and all labels are in the sets
  abbrev pub AreInGrammar : HeadLine → Type 0
  AreInGrammar h = (bad_line T.spelled (h.number + 1) h.after ≡ None) × AreOver sets (lines_in T.spelled h.after)

  -- the answer of the reader, where this is the first line that is not blank
  abbrev pub IsReadAfter : HeadLine → Result (Labelled V) (DautFault V) → Type 0
  IsReadAfter h (Ok automaton) = IsBuilt h automaton
  IsReadAfter h (Err (Syntax line)) = bad_line T.spelled (h.number + 1) h.after ≡ Some line
  IsReadAfter h (Err (NotALabel line from to)) = (bad_line T.spelled (h.number + 1) h.after ≡ None) × IsFirstLabel sets (h.number + 1) (lines_in T.spelled h.after) line (from, to)
  IsReadAfter h (Err (Overflow line (Numeral at))) = AreInGrammar h × IsNumeralAt T.set T.spelled T.numbers_fit (h.number + 1) (lines_in T.spelled h.after) line at
  IsReadAfter h (Err (Overflow line (Add v w))) = AreInGrammar h × IsUnfit h line (Unfit (Add v w))
  IsReadAfter h (Err (Overflow line (Mul v w))) = ⊥
  IsReadAfter h (Err (Overflow line (Star v))) = ⊥
  IsReadAfter h (Err (Limit l)) = AreInGrammar h × IsPastLimit h l
  IsReadAfter h (Err (Memory e)) = ⊤
