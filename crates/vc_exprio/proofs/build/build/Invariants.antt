use Rattle.std.proofs.Common.{◌≡◌, [], All, drop, map}
use Rattle.vc_expr.specs.Names.{Has, Grows, trees_of}
use Rattle.vc_exprio.specs.BuildAnswers.{AreBuildable}
use Rattle.vc_exprio.specs.Making.{made_by, occurrences_in}
use Rattle.vc_exprio.specs.Occurring.{AreOccurrencesOver, letters_over}
use Rattle.vc_exprio.specs.Spelling.{weight_of_mark}
use Rattle.vc_exprio.specs.Views.{step_seen}
use Rattle.vc_exprio.proofs.build.build.Given as goal

-- the steps that are left make of the names what all steps make
abbrev pub invariant-loop-at : goal.invariant-loop-at
invariant-loop-at g l = record {
  goes : made_by g.S.Semiring.set g.S.Value.PartialEq.eq (weight_of_mark g.S.Semiring.set g.S.Semiring.spelled) (letters_over (g.L.LabelSet.sets l.labels))
      (trees_of l.exprs l.names.items) (drop l.at (map step_seen l.steps))
      ≡ made_by g.S.Semiring.set g.S.Value.PartialEq.eq (weight_of_mark g.S.Semiring.set g.S.Semiring.spelled) (letters_over (g.L.LabelSet.sets l.labels)) [] (map step_seen l.steps);
  names : All (Has l.exprs) l.names.items;
  grows : Grows l.initial.exprs l.exprs;
  fit : AreBuildable g.S.Semiring.spelled g.S.Semiring.numbers_fit g.L.LabelSet.SINGLE (drop l.at (map step_seen l.steps));
  over : AreOccurrencesOver (g.L.LabelSet.sets l.labels) (occurrences_in (drop l.at (map step_seen l.steps)));
}
