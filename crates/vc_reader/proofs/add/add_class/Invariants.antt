use Rattle.std.proofs.Common.{ℕ, ◌∷◌, [], map}
use Rattle.vc_label.specs.Sets.{IsOverSets}
use Rattle.vc_lex.specs.Labels.{class_words}
use Rattle.vc_model.specs.Lists.{In}
use Rattle.vc_reader.specs.Building.{KeepsShape}
use Rattle.vc_reader.specs.Meaning.{moves_with}
use Rattle.vc_reader.proofs.Additions.{LeadsTo}
use Rattle.vc_reader.proofs.ClassLetters.{given_letters}
use Rattle.vc_reader.proofs.add.add_class.Given as goal

-- what adds the letters that are left adds all, and each of them is a label
abbrev pub invariant-loop-letter : goal.invariant-loop-letter
invariant-loop-letter g l = record {
  leads : LeadsTo g.S.Semiring.set g.S.Semiring.spelled g.S.Semiring.numbers_fit
      [] l.builder (given_letters l.arrow.from l.arrow.to l.arrow.weight l.letter-iterator)
      [] l.initial.builder (map (moves_with l.arrow.from l.arrow.to l.arrow.weight) (class_words (g.L.LabelSet.sets l.labels) l.body));
  kept : KeepsShape l.initial.builder l.builder;
  over : (x : ℕ) → In x l.letter-iterator → IsOverSets (g.L.LabelSet.sets l.labels) ((x ∷ []) ∷ []);
}
