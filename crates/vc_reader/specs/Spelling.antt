-- The automaton that the lines of a file after its context line spell.
use Rattle.std.specs.Prelude.{◌≡◌, ◌⊎◌, ℕ, ◌+◌, List, [], ◌∷◌, map, length, Option, None, Some, unwrap_or, if◌then◌else◌, ⊤}
use Rattle.std.specs.Option.{is_some}
use Rattle.std.specs.List.{flat_map}
use Rattle.vc_aut.specs.Order.{AreInOrder}
use Rattle.vc_context.specs.Spelling.{SpellsContext}
use Rattle.vc_context.specs.declared.context.Weights.{Weights}
use Rattle.vc_label.specs.declared.tape_set.TapeSet.{TapeSet}
use Rattle.vc_model.specs.Automata.{Automaton}
use Rattle.vc_ring.specs.Texts.{WeightTexts}
use Rattle.vc_lines.specs.ContextLines.{IsContextLine}
use Rattle.vc_lines.specs.Heads.{HeadLine, head_line}
use Rattle.vc_lines.specs.Lines.{lines_of}
use Rattle.vc_lex.specs.Labels.{IsLabelOver}
use Rattle.vc_lex.specs.Marks.{Mark, span_of}
use Rattle.vc_lines.specs.Grammar.{Line, blank, initial_at, final_at, moves, state, line_at, entries_of, entry_label}
use Rattle.vc_lines.specs.Names.{AreNames}
use Rattle.vc_reader.specs.Meaning.{given_by, number_of, IsSumOf}

module _ {V : Type 0} (spelled : List ℕ → Option V) where
  -- each text is the line at its place
  abbrev pub AreLines : List (List ℕ) → List Line → Type 0
  AreLines [] [] = ⊤
  AreLines [] (l ∷ ls) = ⊥
  AreLines (t ∷ ts) [] = ⊥
  AreLines (t ∷ ts) (l ∷ ls) = (line_at spelled t ≡ Some l) × AreLines ts ls

  -- the number of the first text that is no line, where the first text has this number
  abbrev pub bad_line : ℕ → List (List ℕ) → Option ℕ
  bad_line n [] = None
  bad_line n (t ∷ ts) = if is_some (line_at spelled t) then bad_line (n + 1) ts else Some n

  -- the line that a text is; a text that is no line counts as blank
  abbrev pub line_in : List ℕ → Line
  line_in t = unwrap_or (line_at spelled t) blank

  -- the lines of texts
  abbrev pub lines_in : List (List ℕ) → List Line
  lines_in ts = map line_in ts

module _ (sets : List TapeSet) where
  -- the labels of the entries are in the sets
  abbrev pub AreEntriesOver : List (List Mark) → Type 0
  AreEntriesOver [] = ⊤
  AreEntriesOver (e ∷ es) = IsLabelOver sets (entry_label e) × AreEntriesOver es

  -- the labels of the line are in the sets
  abbrev pub IsLineOver : Line → Type 0
  IsLineOver blank = ⊤
  IsLineOver (initial_at s w) = ⊤
  IsLineOver (final_at s w) = ⊤
  IsLineOver (moves s t es) = AreEntriesOver (entries_of es)
  IsLineOver (state s) = ⊤

  -- the labels of the lines are in the sets
  abbrev pub AreOver : List Line → Type 0
  AreOver [] = ⊤
  AreOver (l ∷ ls) = IsLineOver l × AreOver ls

  -- the first label of the entries that is not in the sets stands here
  abbrev pub IsFirstEntry : List (List Mark) → ℕ × ℕ → Type 0
  IsFirstEntry [] p = ⊥
  IsFirstEntry (e ∷ es) p = ((IsLabelOver sets (entry_label e) → ⊥) × (p ≡ span_of (entry_label e))) ⊎ (IsLabelOver sets (entry_label e) × IsFirstEntry es p)

  -- the first label of the line that is not in the sets stands here
  abbrev pub IsFirstInLine : Line → ℕ × ℕ → Type 0
  IsFirstInLine blank p = ⊥
  IsFirstInLine (initial_at s w) p = ⊥
  IsFirstInLine (final_at s w) p = ⊥
  IsFirstInLine (moves s t es) p = IsFirstEntry (entries_of es) p
  IsFirstInLine (state s) p = ⊥

  -- the first label of the lines that is not in the sets stands in the line of this number, where the first line has the number n
  abbrev pub IsFirstLabel : ℕ → List Line → ℕ → ℕ × ℕ → Type 0
  IsFirstLabel n [] line p = ⊥
  IsFirstLabel n (l ∷ ls) line p = ((line ≡ n) × IsFirstInLine l p) ⊎ (IsLineOver l × IsFirstLabel (n + 1) ls line p)

-- the texts spell the automaton: each is a line, labels are in the sets, states are numbered by their names, what the lines give is added up, and the transitions are in the order of source, label and target
pub record Spells {V : Type 0} (T : WeightTexts V) (sets : List TapeSet) (texts : List (List ℕ)) (automaton : Automaton V) : Type 0 where
  pub lines : List Line
  pub names : List (List ℕ)
  pub are_lines : AreLines T.spelled texts lines
  pub over : AreOver sets lines
  pub are_names : AreNames lines names
  pub sum : IsSumOf T.set (length names) (flat_map (given_by T.set T.spelled sets (number_of names)) lines) automaton
  pub order : AreInOrder automaton.transitions

-- a text spells sets of labels, the name of a weight set and an automaton: its first line that is not blank is the context line, and the lines after it spell the automaton
pub record SpellsAutomaton {V : Type 0} (T : WeightTexts V) (text : List ℕ) (sets : List TapeSet) (weights : Weights) (automaton : Automaton V) : Type 0 where
  pub head : HeadLine
  pub context : List ℕ
  pub is_head : head_line 1 (lines_of text) ≡ Some head
  pub is_context : IsContextLine head.line context
  pub spells : SpellsContext context sets weights
  pub after : Spells T sets head.after automaton
