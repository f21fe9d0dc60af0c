-- The canonical text of an automaton is read: its head, its context and its lines.
use Rattle.std.proofs.Common.{◌≡◌, ℕ, ◌+◌, ◌≤◌, ◌↔◌, true, List, ◌++◌, length, map, codes, All, Some, Ok, ap, ◌∙◌}
use Rattle.std.specs.Prelude.{IsTrue, if◌then◌else◌}
use Rattle.vc_context.specs.Canonical.{context_text}
use Rattle.vc_context.specs.Spelling.{SpellsContext}
use Rattle.vc_context.specs.declared.context.Weights.{Weights}
use Rattle.vc_label.specs.Alphabets.{has_letter, letters_of}
use Rattle.vc_label.specs.Letters.{is_letter, is_of_letters}
use Rattle.vc_label.specs.Sets.{IsOverSets}
use Rattle.vc_label.specs.declared.alphabet.Alphabet.{Alphabet}
use Rattle.vc_label.specs.declared.tape_set.TapeSet.{TapeSet}
use Rattle.vc_model.specs.Automata.{Automaton}
use Rattle.vc_model.specs.Lists.{In, IsEqualityTest}
use Rattle.vc_model.specs.Words.{Word}
use Rattle.vc_ring.specs.Texts.{TextLaws, IsWeightByte, WeightTexts}
use Rattle.vc_daut.specs.Canonical.{automaton_lines, automaton_text}
use Rattle.vc_lines.specs.ContextLines.{IsContextLine}
use Rattle.vc_lines.specs.Contexts as contexts
use Rattle.vc_lines.specs.Heads.{head_line}
use Rattle.vc_lex.specs.Marks.{Mark, HasMarks, marks_of}
use Rattle.vc_lex.specs.declared.token.Mode.TheVariants as mode
use Rattle.vc_lines.specs.Grammar.{Line}
use Rattle.vc_lines.specs.Lines.{lines_of}
use Rattle.vc_reader.specs.Spelling.{AreLines, Spells, SpellsAutomaton}
use Rattle.vc_daut.proofs.LineCuts.{text_cut}
use Rattle.vc_daut.proofs.LineTokens.{body, are_reread}
use Rattle.vc_daut.proofs.ReadBack.{AreTextLines, AreReread}
use Rattle.vc_daut.proofs.ContextLine.{context_quotable, context_line_read, context_line_stands}

-- the context line
abbrev pub context_line : List TapeSet → Weights → List ℕ
context_line sets weights = codes "context = \"" ++ (context_text sets weights ++ codes "\"")

module _ (letter : (s : Alphabet) (x : ℕ) → has_letter s x ≡ true → IsTrue (is_letter x))
    (listed : (s : Alphabet) (x : ℕ) → In x (letters_of s) ↔ (has_letter s x ≡ true)) where
  pub context_reread : (sets : List TapeSet) (weights : Weights) → contexts.context_in_line (context_line sets weights) ≡ Some (context_text sets weights)
  context_reread sets weights = context_line_read (context_text sets weights) (context_quotable letter listed sets weights)

  module _ {V : Type 0} (T : WeightTexts V) (bytes : (w : V) → All IsWeightByte (T.canonical w))
      (letters : (ss : List TapeSet) (w : Word) → IsOverSets ss w → IsTrue (is_of_letters w)) where
    pub head_reread : (sets : List TapeSet) (weights : Weights) (a : Automaton V) → AreTextLines T.set sets (automaton_lines T.set T.same a)
        → head_line 1 (lines_of (automaton_text T sets weights a))
        ≡ Some (record { number = 1; line = context_line sets weights; after = map (body T.set T.same T.canonical) (automaton_lines T.set T.same a) })
    head_reread sets weights a h =
        let ls : List (List ℕ) = map (body T.set T.same T.canonical) (automaton_lines T.set T.same a) in
        ap (head_line 1) (text_cut T bytes sets letters weights a (context_quotable letter listed sets weights).shown h)
        ∙ ap (λ b. if b then head_line (1 + 1) ls else Some (record { number = 1; line = context_line sets weights; after = ls }))
        (context_line_stands (context_text sets weights ++ codes "\""))

  -- ---- the whole text

  module _ {V : Type 0} (T : WeightTexts V) (is_same : IsEqualityTest T.same) (laws : TextLaws T.set T.spelled T.numbers_fit T.canonical)
      (letters : (ss : List TapeSet) (w : Word) → IsOverSets ss w → IsTrue (is_of_letters w))
      (read : (line text : List ℕ) → contexts.context_in_line line ≡ Some text → IsContextLine line text)
      (complete : (line : List ℕ) (ms : List Mark) → HasMarks mode.Line line 0 ms → marks_of mode.Line line ≡ Ok ms) where
    -- where lines that say what those of the automaton say spell it, its canonical text spells it with its context
    pub text_reread : (sets : List TapeSet) (weights : Weights) (a : Automaton V) → 1 ≤ length sets → AreTextLines T.set sets (automaton_lines T.set T.same a)
        → SpellsContext (context_text sets weights) sets weights
        → ((texts : List (List ℕ)) (lines : List Line) → AreLines T.spelled texts lines → AreReread T.set T.spelled sets (automaton_lines T.set T.same a) lines → Spells T sets texts a)
        → SpellsAutomaton T (automaton_text T sets weights a) sets weights a
    text_reread sets weights a some h spells respelled =
        let lines = are_reread T.set T.same is_same T.spelled T.numbers_fit T.canonical laws sets some letters complete (automaton_lines T.set T.same a) h in
        let texts : List (List ℕ) = map (body T.set T.same T.canonical) (automaton_lines T.set T.same a) in
        record {
          head = record { number = 1; line = context_line sets weights; after = texts };
          context = context_text sets weights;
          is_head = head_reread T laws.bytes letters sets weights a h;
          is_context = read (context_line sets weights) (context_text sets weights) (context_reread sets weights);
          spells = spells;
          after = respelled texts lines.0 lines.1 lines.2;
        }
