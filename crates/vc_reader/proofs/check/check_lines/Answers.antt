use Rattle.std.proofs.Common.{◌≡◌, ◌<◌, ◌+◌, ◌∷◌, ◌∙◌, length, sym, subst, rules, arith}
use Rattle.vc_reader.specs.declared.check.Judged.TheVariants.{Good}
use Rattle.vc_lines.specs.Lines.{more_lines}
use Rattle.vc_reader.specs.Passes.{IsJudged}
use Rattle.vc_reader.specs.NameSets.{names_seen}
use Rattle.vc_reader.proofs.CheckedLines.{IsCheckedTo, checked_more}
use Rattle.vc_reader.proofs.AddedLines.{some_lines}
use Rattle.vc_reader.proofs.check.check_lines.Goals as goal

pub loop-rest-preserved : goal.loop-rest-preserved
loop-rest-preserved g c =
    let spelled = g.S.Semiring.spelled in
    let sets = g.L.LabelSet.sets c.args.labels.now in
    let all = more_lines c.args.text.now in
    let names = names_seen c.loop-rest.found.names in
    let new = names_seen c.check_line.new.found.names in
    let i = c.loop-rest.invariant in
    let p : 0 < length c.loop-rest.rest.now = search rules in
    let w : more_lines c.loop-rest.rest.now ≡ c.cut_line.result.0.now ∷ more_lines c.cut_line.result.1.now = some_lines c.loop-rest.rest.now p ∙ c.cut_line.ensures.lines in
    let s = c.cut_line.ensures.shorter p in
    let b = i.0 in
    let j : IsJudged spelled sets c.cut_line.result.0.now names new (Good c.in-Ok-Good.label) =
    subst (IsJudged spelled sets c.cut_line.result.0.now names new) c.in-Ok-Good.field-0-is c.in-Ok-Good.ensures.judged in (
      omega (arith, s, b),
      subst (IsCheckedTo spelled sets c.args.first all (names_seen c.args.found.now.names) (c.loop-rest.number + 1) (more_lines c.cut_line.result.1.now) new) (sym c.first_outside-outside.ensures)
          (checked_more spelled sets c.args.first all (names_seen c.args.found.now.names) c.loop-rest.number c.cut_line.result.0.now (more_lines c.cut_line.result.1.now) (more_lines c.loop-rest.rest.now) names new c.loop-rest.outside c.in-Ok-Good.label w i.1 j),
      c.in-Ok-Good.ensures.marked,
    )
