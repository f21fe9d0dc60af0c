use Rattle.std.proofs.Common.{rules, ◌≡◌, None, map}
use Rattle.vc_lex.specs.Views.{seen}
use Rattle.vc_ring.specs.Weighed.{weighed}
use Rattle.vc_exprio.specs.Making.{occurrences_in}
use Rattle.vc_exprio.specs.Occurring.{AreOccurrencesOver, letters_over}
use Rattle.vc_exprio.specs.Places.{first_place, is_unfit}
use Rattle.vc_exprio.specs.Spelling.{weight_of_mark}
use Rattle.vc_exprio.specs.TextAnswers.{IsOperatorOutside}
use Rattle.vc_exprio.specs.Views.{step_seen}
use Rattle.vc_exprio.proofs.TextsRead.{has_whole, are_buildable, built_answer, made_labels}
use Rattle.vc_exprio.proofs.reader.read_tree.Goals as goal

pub build-requires-clause-whole : goal.build-requires-clause-whole
build-requires-clause-whole g c =
    let T = weighed g.S.Semiring g.S.Value.PartialEq in
    let sets = g.L.LabelSet.sets c.args.labels.now in
    has_whole T g.L.LabelSet.SINGLE sets c.requires.0 c.args.tokens.now c.args.steps.now
    (λ t ts. c.steps_make_expressions.ensures.made T.set T.same (weight_of_mark T.set T.spelled) (letters_over sets) t ts) c.steps_make_expressions.ensures.labels c.requires.1

pub build-requires-clause-fit : goal.build-requires-clause-fit
build-requires-clause-fit g c =
    let T = weighed g.S.Semiring g.S.Value.PartialEq in
    let sets = g.L.LabelSet.sets c.args.labels.now in
    let operators : IsOperatorOutside g.L.LabelSet.SINGLE (map seen c.args.tokens.now) None = search rules in
    let numbers : first_place (is_unfit g.S.Semiring.spelled g.S.Semiring.numbers_fit) (map seen c.args.tokens.now) ≡ None = search rules in
    are_buildable T g.L.LabelSet.SINGLE sets c.requires.0 c.args.tokens.now c.args.steps.now
    (λ t ts. c.steps_make_expressions.ensures.made T.set T.same (weight_of_mark T.set T.spelled) (letters_over sets) t ts) c.steps_make_expressions.ensures.labels c.requires.1 operators numbers

pub returns-clause-answer : goal.returns-clause-answer
returns-clause-answer g c text short has =
    let T = weighed g.S.Semiring g.S.Value.PartialEq in
    let sets = g.L.LabelSet.sets c.args.labels.now in
    let over : AreOccurrencesOver sets (occurrences_in (map step_seen c.args.steps.now)) = search rules in
    let operators : IsOperatorOutside g.L.LabelSet.SINGLE (map seen c.args.tokens.now) None = search rules in
    let numbers : first_place (is_unfit g.S.Semiring.spelled g.S.Semiring.numbers_fit) (map seen c.args.tokens.now) ≡ None = search rules in
    built_answer T g.L.LabelSet.SINGLE sets text c.args.tokens.now c.args.steps.now
    (λ t ts. c.steps_make_expressions.ensures.made T.set T.same (weight_of_mark T.set T.spelled) (letters_over sets) t ts) c.steps_make_expressions.ensures.labels has short
    over operators numbers c.build.new.exprs c.build.result c.build.ensures.answer

pub returns-clause-labels : goal.returns-clause-labels
returns-clause-labels g c =
    let T = weighed g.S.Semiring g.S.Value.PartialEq in
    let sets = g.L.LabelSet.sets c.args.labels.now in
    let over : AreOccurrencesOver sets (occurrences_in (map step_seen c.args.steps.now)) = search rules in
    made_labels T g.L.LabelSet.SINGLE sets c.requires.0 c.args.tokens.now c.args.steps.now
    (λ t ts. c.steps_make_expressions.ensures.made T.set T.same (weight_of_mark T.set T.spelled) (letters_over sets) t ts) c.steps_make_expressions.ensures.labels c.requires.1
    (λ t u. c.steps_make_expressions.ensures.built T.set T.same (weight_of_mark T.set T.spelled) (letters_over sets) t u) c.alphabets_are_sets.ensures.listed
    over c.build.new.exprs c.build.result c.build.ensures.answer
