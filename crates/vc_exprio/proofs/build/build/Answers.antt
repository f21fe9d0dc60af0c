use Rattle.std.proofs.Common.{rules, ◌≡◌, ◌≤◌, ◌+◌, ◌∙◌, ◌∷◌, [], arith, drop, length, map, sym, subst}
use Rattle.std.proofs.Math.ListN.{drop_of_length-le}
use Rattle.std.proofs.lemmas.List.{length-map}
use Rattle.vc_expr.specs.Names.{trees_of}
use Rattle.vc_exprio.specs.BuildAnswers.{AreBuildable}
use Rattle.vc_exprio.specs.Making.{made, made_by, occurrences_in}
use Rattle.vc_exprio.specs.Occurring.{AreOccurrencesOver, letters_over}
use Rattle.vc_exprio.specs.Spelling.{weight_of_mark}
use Rattle.vc_exprio.specs.Views.{step_seen}
use Rattle.vc_exprio.proofs.StackNames.{last_has}
use Rattle.vc_exprio.proofs.StepLists.{after_place}
use Rattle.vc_exprio.proofs.StepsMade.{over_after, goes_on, left_is}
use Rattle.vc_exprio.proofs.build.build.Goals as goal

pub loop-at-preserved : goal.loop-at-preserved
loop-at-preserved g c =
    let R = g.S.Semiring.set in
    let same = g.S.Value.PartialEq.eq in
    let value = weight_of_mark R g.S.Semiring.spelled in
    let sets = g.L.LabelSet.sets c.args.labels.now in
    let letters = letters_over sets in
    let ops = map step_seen c.args.steps.now in
    let step = step_seen c.step_at.result.0 in
    let rest = map step_seen c.step_at.result.1.now in
    let us = trees_of c.build_step.new.exprs c.build_step.new.names.items in
    let whole = made_by R same value letters [] ops in
    let here : drop c.loop-at.at ops ≡ step ∷ rest = c.step_at.ensures in
    let left : drop (c.loop-at.at + 1) ops ≡ rest = after_place ops rest c.loop-at.at step here in
    record {
      goes = subst (λ os. made_by R same value letters us os ≡ whole) (sym left)
          (goes_on R same value letters (trees_of c.loop-at.exprs c.loop-at.names.items) us step rest whole
          (subst (λ os. made_by R same value letters (trees_of c.loop-at.exprs c.loop-at.names.items) os ≡ whole) here c.loop-at.invariant.goes) c.in_default.ensures.answer.1);
      names = c.in_default.ensures.answer.0;
      grows = c.names_keep_their_trees.ensures.further _ _ _ c.loop-at.invariant.grows c.in_default.ensures.grows;
      fit = subst (AreBuildable g.S.Semiring.spelled g.S.Semiring.numbers_fit g.L.LabelSet.SINGLE) (sym left)
          (subst (AreBuildable g.S.Semiring.spelled g.S.Semiring.numbers_fit g.L.LabelSet.SINGLE) here c.loop-at.invariant.fit).1;
      over = subst (λ os. AreOccurrencesOver sets (occurrences_in os)) (sym left)
          (over_after sets step rest (subst (λ os. AreOccurrencesOver sets (occurrences_in os)) here c.loop-at.invariant.over));
    }

pub returns-clause-answer : goal.returns-clause-answer
returns-clause-answer g c =
    let R = g.S.Semiring.set in
    let same = g.S.Value.PartialEq.eq in
    let value = weight_of_mark R g.S.Semiring.spelled in
    let letters = letters_over (g.L.LabelSet.sets c.args.labels.now) in
    let ops = map step_seen c.args.steps.now in
    let s = c.loop-at.exprs in
    let names = c.loop-at.names.items in
    let end : length c.args.steps.now ≤ c.loop-at.at = search rules in
    let many : length ops ≡ length c.args.steps.now = length-map c.args.steps.now step_seen in
    let none : drop c.loop-at.at ops ≡ [] = drop_of_length-le ops (omega (arith, many, end)) in
    let all : made (trees_of s names) ≡ made_by R same value letters [] ops =
    subst (λ os. made_by R same value letters (trees_of s names) os ≡ made_by R same value letters [] ops) none c.loop-at.invariant.goes in (
      last_has s names c.pop.new.names.items c.pop.result c.pop.ensures c.loop-at.invariant.names,
      sym all ∙ left_is c.requires.whole.0 s names c.pop.new.names.items c.pop.result (all ∙ c.requires.whole.1) c.pop.ensures,
    )
