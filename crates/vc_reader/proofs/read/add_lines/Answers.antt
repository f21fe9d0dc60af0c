use Rattle.std.proofs.Common.{◌≡◌, ◌<◌, ◌∷◌, ◌∙◌, length, Ok, Err, sym, subst, refl, rules, arith}
use Rattle.std.specs.List.{flat_map}
use Rattle.vc_model.specs.Lists.{In}
use Rattle.vc_lines.specs.Lines.{more_lines}
use Rattle.vc_reader.specs.Meaning.{given_by, number_of}
use Rattle.vc_lines.specs.Names.{line_names}
use Rattle.vc_reader.specs.Passes.{AreAdded, fault_at}
use Rattle.vc_reader.specs.Spelling.{AreOver, line_in, lines_in}
use Rattle.vc_reader.proofs.Additions.{in_front, in_back}
use Rattle.vc_reader.proofs.AddedLines.{line_more, line_refused, some_lines, no_lines}
use Rattle.vc_reader.proofs.read.add_lines.Goals as goal

pub add_text-requires-clause-named : goal.add_text-requires-clause-named
add_text-requires-clause-named g c a h =
    let spelled = g.S.Semiring.spelled in
    let p : 0 < length c.loop-rest.rest.now = search rules in
    let w : more_lines c.loop-rest.rest.now ≡ c.cut_line.result.0.now ∷ more_lines c.cut_line.result.1.now = some_lines c.loop-rest.rest.now p ∙ c.cut_line.ensures.lines in
    c.loop-rest.invariant.4 a (subst (λ ts. In a (flat_map line_names (lines_in spelled ts))) (sym w) (in_front a (line_names (line_in spelled c.cut_line.result.0.now)) (flat_map line_names (lines_in spelled (more_lines c.cut_line.result.1.now))) h))

pub returns-in-Err-clause-answer : goal.returns-in-Err-clause-answer
returns-in-Err-clause-answer g c =
    let R = g.S.Semiring.set in
    let spelled = g.S.Semiring.spelled in
    let fit = g.S.Semiring.numbers_fit in
    let given = given_by R spelled (g.L.LabelSet.sets c.args.labels.now) (number_of c.args.numbering.now) in
    let p : 0 < length c.loop-rest.rest.now = search rules in
    let w : more_lines c.loop-rest.rest.now ≡ c.cut_line.result.0.now ∷ more_lines c.cut_line.result.1.now = some_lines c.loop-rest.rest.now p ∙ c.cut_line.ensures.lines in
    c.loop-rest.invariant.1 c.add_text.new.builder (Err c.fault_at.result)
    (subst (λ f. AreAdded R spelled fit given c.loop-rest.number (lines_in spelled (more_lines c.loop-rest.rest.now)) c.loop-rest.builder c.add_text.new.builder (Err f)) (sym c.fault_at.ensures)
    (subst (λ ts. AreAdded R spelled fit given c.loop-rest.number (lines_in spelled ts) c.loop-rest.builder c.add_text.new.builder (Err (fault_at c.loop-rest.number c.in-Err.fault))) (sym w)
    (line_refused R spelled fit given c.loop-rest.number (line_in spelled c.cut_line.result.0.now) (lines_in spelled (more_lines c.cut_line.result.1.now)) c.loop-rest.builder c.add_text.new.builder c.add_text.new.builder c.in-Err.fault c.in-Err.ensures.answer)))

pub loop-rest-preserved : goal.loop-rest-preserved
loop-rest-preserved g c =
    let R = g.S.Semiring.set in
    let spelled = g.S.Semiring.spelled in
    let fit = g.S.Semiring.numbers_fit in
    let sets = g.L.LabelSet.sets c.args.labels.now in
    let given = given_by R spelled sets (number_of c.args.numbering.now) in
    let p : 0 < length c.loop-rest.rest.now = search rules in
    let w : more_lines c.loop-rest.rest.now ≡ c.cut_line.result.0.now ∷ more_lines c.cut_line.result.1.now = some_lines c.loop-rest.rest.now p ∙ c.cut_line.ensures.lines in
    let k = c.in_default.ensures.kept in
    let s = c.cut_line.ensures.shorter p in
    let i = c.loop-rest.invariant.0 in (
      omega (arith, s, i),
      (λ new r h. c.loop-rest.invariant.1 new r
          (subst (λ ts. AreAdded R spelled fit given c.loop-rest.number (lines_in spelled ts) c.loop-rest.builder new r) (sym w)
          (line_more R spelled fit given c.loop-rest.number (line_in spelled c.cut_line.result.0.now) (lines_in spelled (more_lines c.cut_line.result.1.now)) c.loop-rest.builder c.add_text.new.builder c.in_default.field-0 c.in_default.ensures.answer new r h))),
      record { sets = k.sets ∙ c.loop-rest.invariant.2.sets; states = k.states ∙ c.loop-rest.invariant.2.states },
      (subst (λ ts. AreOver sets (lines_in spelled ts)) w c.loop-rest.invariant.3).1,
      (λ a h. c.loop-rest.invariant.4 a (subst (λ ts. In a (flat_map line_names (lines_in spelled ts))) (sym w) (in_back a (line_names (line_in spelled c.cut_line.result.0.now)) (flat_map line_names (lines_in spelled (more_lines c.cut_line.result.1.now))) h))),
    )

pub returns-clause-answer : goal.returns-clause-answer
returns-clause-answer g c =
    let R = g.S.Semiring.set in
    let spelled = g.S.Semiring.spelled in
    let fit = g.S.Semiring.numbers_fit in
    let given = given_by R spelled (g.L.LabelSet.sets c.args.labels.now) (number_of c.args.numbering.now) in
    let z : length c.loop-rest.rest.now ≡ 0 = search rules in
    c.loop-rest.invariant.1 c.loop-rest.builder (Ok tt)
    (subst (λ ts. AreAdded R spelled fit given c.loop-rest.number (lines_in spelled ts) c.loop-rest.builder c.loop-rest.builder (Ok tt)) (sym (no_lines c.loop-rest.rest.now z)) (refl, tt, (λ m h. absurd h)))
