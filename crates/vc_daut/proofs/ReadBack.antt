-- What is read where a line of the canonical text of an automaton stands.
use Rattle.std.proofs.Common.{◌≡◌, ◌≢◌, ℕ, List, [], ◌∷◌, map, Option}
use Rattle.std.specs.Prelude.{IsTrue, ⊤}
use Rattle.std.specs.Fmt.{decimal}
use Rattle.vc_label.specs.Sets.{IsOverSets}
use Rattle.vc_label.specs.declared.tape_set.TapeSet.{TapeSet}
use Rattle.vc_model.specs.Automata.{Transition}
use Rattle.vc_model.specs.WeightSet.{WeightSet}
use Rattle.vc_daut.specs.Canonical.{TextLine, begins_line, moves_line, ends_line, state_line}
use Rattle.vc_lines.specs.Grammar.{Line}
use Rattle.vc_reader.specs.Meaning.{Given, begins, ends, moves_by, given_by}
use Rattle.vc_lines.specs.Names.{line_names}
use Rattle.vc_reader.specs.Spelling.{IsLineOver}

-- the names that stand in a line of the text
abbrev pub text_names : {V : Type 0} → TextLine V → List (List ℕ)
text_names (begins_line p w) = decimal p ∷ []
text_names (moves_line p q ts) = decimal p ∷ decimal q ∷ []
text_names (ends_line p w) = decimal p ∷ []
text_names (state_line p) = decimal p ∷ []

-- what a line of the text gives, where number gives the number of a name
abbrev pub text_given : {V : Type 0} → (List ℕ → ℕ) → TextLine V → List (Given V)
text_given number (begins_line p w) = begins (number (decimal p)) w ∷ []
text_given number (moves_line p q ts) = map (λ t. moves_by (record t { from = number (decimal p); to = number (decimal q) })) ts
text_given number (ends_line p w) = ends (number (decimal p)) w ∷ []
text_given number (state_line p) = []

-- a transition of a line: its label is over the sets, and its weight is in range
pub record IsEntryOf {V : Type 0} (R : WeightSet V) (sets : List TapeSet) (t : Transition V) : Type 0 where
  pub label : IsOverSets sets t.label
  pub weight : IsTrue (R.in_range t.weight)

abbrev pub AreEntriesOf : {V : Type 0} → WeightSet V → List TapeSet → List (Transition V) → Type 0
AreEntriesOf R sets [] = ⊤
AreEntriesOf R sets (t ∷ ts) = IsEntryOf R sets t × AreEntriesOf R sets ts

-- a line that the writer may write
abbrev pub IsTextLine : {V : Type 0} → WeightSet V → List TapeSet → TextLine V → Type 0
IsTextLine R sets (begins_line p w) = IsTrue (R.in_range w)
IsTextLine R sets (moves_line p q ts) = (ts ≢ []) × AreEntriesOf R sets ts
IsTextLine R sets (ends_line p w) = IsTrue (R.in_range w)
IsTextLine R sets (state_line p) = ⊤

-- a line of the grammar that says what a line of the text says
pub record IsReread {V : Type 0} (R : WeightSet V) (spelled : List ℕ → Option V) (sets : List TapeSet) (t : TextLine V) (l : Line) : Type 0 where
  pub names : line_names l ≡ text_names t
  pub over : IsLineOver sets l
  pub given : (number : List ℕ → ℕ) → given_by R spelled sets number l ≡ text_given number t

-- line by line
abbrev pub AreReread : {V : Type 0} → WeightSet V → (List ℕ → Option V) → List TapeSet → List (TextLine V) → List Line → Type 0
AreReread R spelled sets [] [] = ⊤
AreReread R spelled sets [] (l ∷ ls) = ⊥
AreReread R spelled sets (t ∷ ts) [] = ⊥
AreReread R spelled sets (t ∷ ts) (l ∷ ls) = IsReread R spelled sets t l × AreReread R spelled sets ts ls

-- the lines that the writer may write
abbrev pub AreTextLines : {V : Type 0} → WeightSet V → List TapeSet → List (TextLine V) → Type 0
AreTextLines R sets [] = ⊤
AreTextLines R sets (t ∷ ts) = IsTextLine R sets t × AreTextLines R sets ts
