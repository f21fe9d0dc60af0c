-- The canonical text of an automaton spells it, where its lines are read back.
use Rattle.std.proofs.Common.{◌≡◌, ℕ, List, [], ◌∷◌, ◌++◌, map, length, Option, refl, ap₂, sym, subst}
use Rattle.std.specs.Fmt.{decimal}
use Rattle.std.specs.List.{flat_map}
use Rattle.vc_label.specs.declared.tape_set.TapeSet.{TapeSet}
use Rattle.vc_aut.specs.Labelled.{Labelled}
use Rattle.vc_aut.specs.Validity.{IsLabelled}
use Rattle.vc_model.specs.Automata.{IsAutomaton}
use Rattle.vc_model.specs.Lists.{below, IsEqualityTest}
use Rattle.vc_model.specs.WeightSet.{WeightSet, SemiringLaws}
use Rattle.vc_ring.specs.Texts.{WeightTexts}
use Rattle.vc_daut.specs.Canonical.{TextLine, automaton_lines}
use Rattle.vc_lines.specs.Grammar.{Line}
use Rattle.vc_reader.specs.Meaning.{given_by, number_of, IsSumOf}
use Rattle.vc_lines.specs.Names.{line_names, AreInOrder}
use Rattle.vc_reader.specs.Spelling.{AreLines, AreOver, Spells}
use Rattle.vc_daut.proofs.Decimals.{length-decimals}
use Rattle.vc_daut.proofs.GivenTransitions.{text_is_sum}
use Rattle.vc_daut.proofs.LineNames.{names_are_decimals}
use Rattle.vc_daut.proofs.ReadBack.{text_names, text_given, AreReread}

module _ {V : Type 0} (R : WeightSet V) (spelled : List ℕ → Option V) (sets : List TapeSet) where
  -- the names in the lines
  pub reread_names : (ts : List (TextLine V)) (ls : List Line) → AreReread R spelled sets ts ls → flat_map line_names ls ≡ flat_map text_names ts
  reread_names [] [] h = refl
  reread_names [] (l ∷ ls) h = absurd h
  reread_names (t ∷ ts) [] h = absurd h
  reread_names (t ∷ ts) (l ∷ ls) h = ap₂ ◌++◌ h.0.names (reread_names ts ls h.1)

  -- the labels in the lines are over the sets
  pub reread_over : (ts : List (TextLine V)) (ls : List Line) → AreReread R spelled sets ts ls → AreOver sets ls
  reread_over [] [] h = tt
  reread_over [] (l ∷ ls) h = absurd h
  reread_over (t ∷ ts) [] h = absurd h
  reread_over (t ∷ ts) (l ∷ ls) h = (h.0.over, reread_over ts ls h.1)

  -- what the lines give
  pub reread_given : (number : List ℕ → ℕ) (ts : List (TextLine V)) (ls : List Line) → AreReread R spelled sets ts ls → flat_map (given_by R spelled sets number) ls ≡ flat_map (text_given number) ts
  reread_given number [] [] h = refl
  reread_given number [] (l ∷ ls) h = absurd h
  reread_given number (t ∷ ts) [] h = absurd h
  reread_given number (t ∷ ts) (l ∷ ls) h = ap₂ ◌++◌ (h.0.given number) (reread_given number ts ls h.1)

-- lines that say what the lines of the canonical text say spell the automaton
pub respelled : {V : Type 0} (T : WeightTexts V) → SemiringLaws T.set → IsEqualityTest T.same → (a : Labelled V) → IsLabelled T.set a → IsAutomaton T.set (length a.sets) a.automaton
    → (texts : List (List ℕ)) (lines : List Line) → AreLines T.spelled texts lines → AreReread T.set T.spelled a.sets (automaton_lines T.set T.same a.automaton) lines → Spells T a.sets texts a.automaton
respelled T L is_same a valid is texts lines are reread =
    let R = T.set in
    let written = automaton_lines R T.same a.automaton in
    let names = map decimal (below a.automaton.states) in
    let sum : IsSumOf R (length names) (flat_map (text_given (number_of names)) written) a.automaton =
    subst (λ n. IsSumOf R n (flat_map (text_given (number_of names)) written) a.automaton) (sym (length-decimals a.automaton.states)) (text_is_sum L T.same is_same a valid is) in
    record {
      lines = lines;
      names = names;
      are_lines = are;
      over = reread_over R T.spelled a.sets written lines reread;
      are_names = subst (λ found. AreInOrder found names) (sym (reread_names R T.spelled a.sets written lines reread)) (names_are_decimals R T.same a valid);
      sum = subst (λ given. IsSumOf R (length names) given a.automaton) (sym (reread_given R T.spelled a.sets (number_of names) written lines reread)) sum;
      order = valid.drawn.order;
    }
