-- The canonical text of an automaton spells it.
use Rattle.std.proofs.Common.{◌≡◌, ℕ, ◌≤◌, ◌↔◌, true, List, length, Some, Ok}
use Rattle.std.specs.Prelude.{IsTrue}
use Rattle.vc_aut.specs.Labelled.{Labelled}
use Rattle.vc_aut.specs.Validity.{IsLabelled}
use Rattle.vc_context.specs.Canonical.{context_text}
use Rattle.vc_context.specs.Spelling.{SpellsContext}
use Rattle.vc_context.specs.declared.context.Weights.{Weights}
use Rattle.vc_label.specs.Alphabets.{has_letter, letters_of}
use Rattle.vc_label.specs.Letters.{is_letter, is_of_letters}
use Rattle.vc_label.specs.Sets.{IsOverSets}
use Rattle.vc_label.specs.declared.alphabet.Alphabet.{Alphabet}
use Rattle.vc_label.specs.declared.tape_set.TapeSet.{TapeSet}
use Rattle.vc_model.specs.Automata.{IsAutomaton}
use Rattle.vc_model.specs.Lists.{In, IsEqualityTest}
use Rattle.vc_model.specs.WeightSet.{SemiringLaws}
use Rattle.vc_model.specs.Words.{Word}
use Rattle.vc_ring.specs.Texts.{TextLaws, WeightTexts}
use Rattle.vc_daut.specs.Canonical.{automaton_text}
use Rattle.vc_lines.specs.ContextLines.{IsContextLine}
use Rattle.vc_lines.specs.Contexts as contexts
use Rattle.vc_lex.specs.Marks.{Mark, HasMarks, marks_of}
use Rattle.vc_lex.specs.declared.token.Mode.TheVariants as mode
use Rattle.vc_reader.specs.Spelling.{SpellsAutomaton}
use Rattle.vc_daut.proofs.WholeText.{text_reread}
use Rattle.vc_daut.proofs.LineNames.{lines_are_valid}
use Rattle.vc_daut.proofs.SpelledLines.{respelled}

pub text_spells : ((s : Alphabet) (x : ℕ) → has_letter s x ≡ true → IsTrue (is_letter x)) → ((s : Alphabet) (x : ℕ) → In x (letters_of s) ↔ (has_letter s x ≡ true))
    → ((ss : List TapeSet) (w : Word) → IsOverSets ss w → IsTrue (is_of_letters w))
    → ((line text : List ℕ) → contexts.context_in_line line ≡ Some text → IsContextLine line text)
    → ((line : List ℕ) (ms : List Mark) → HasMarks mode.Line line 0 ms → marks_of mode.Line line ≡ Ok ms)
    → ((sets : List TapeSet) (weights : Weights) → 1 ≤ length sets → length sets ≤ 4 → SpellsContext (context_text sets weights) sets weights)
    → {V : Type 0} (T : WeightTexts V) → SemiringLaws T.set → IsEqualityTest T.same → TextLaws T.set T.spelled T.numbers_fit T.canonical
    → (a : Labelled V) (weights : Weights) → 1 ≤ length a.sets → length a.sets ≤ 4 → IsLabelled T.set a → IsAutomaton T.set (length a.sets) a.automaton
    → SpellsAutomaton T (automaton_text T a.sets weights a.automaton) a.sets weights a.automaton
text_spells letter listed letters read complete written T laws is_same texts a weights some few valid is =
    text_reread letter listed T is_same texts letters read complete a.sets weights a.automaton some
    (lines_are_valid T.set T.same a valid) (written a.sets weights some few)
    (λ lines said are reread. respelled T laws is_same a valid is lines said are reread)
