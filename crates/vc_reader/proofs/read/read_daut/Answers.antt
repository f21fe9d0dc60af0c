use Rattle.std.proofs.Common.{◌≡◌, ◌≤◌, ◌∙◌, [], length, ap, sym, subst, arith}
use Rattle.std.specs.List.{flat_map}
use Rattle.std.proofs.lemmas.List.{length-map}
use Rattle.vc_model.specs.Lists.{NoRepeat}
use Rattle.vc_reader.specs.Answers.{IsReadAfter}
use Rattle.vc_lines.specs.Heads.{HeadLine}
use Rattle.vc_lines.specs.Lines.{more_lines}
use Rattle.vc_lines.specs.Names.{line_names, with_names}
use Rattle.vc_reader.specs.Spelling.{lines_in}
use Rattle.vc_reader.specs.NameSets.{names_seen}
use Rattle.vc_reader.proofs.PassAnswers.{names_found, head_is, build_answer}
use Rattle.vc_reader.proofs.NameOrder.{with_names_once}
use Rattle.vc_ring.specs.Weighed.{weighed}
use Rattle.vc_reader.proofs.read.read_daut.Goals as goal

pub in_order-requires : goal.in_order-requires
in_order-requires g c =
    let raw = flat_map line_names (lines_in g.S.Semiring.spelled (more_lines c.in-Line.text.now)) in
    let z : names_seen c.in-Ok.found.names ≡ [] = c.in-Ok.ensures.names in
    subst NoRepeat (sym (c.in_default.ensures.2 ∙ ap (λ o. with_names o raw) z)) (with_names_once [] raw tt)

pub build-requires-clause-named : goal.build-requires-clause-named
build-requires-clause-named g c a i =
    let raw = flat_map line_names (lines_in g.S.Semiring.spelled (more_lines c.in-Line.text.now)) in
    let z : names_seen c.in-Ok.found.names ≡ [] = c.in-Ok.ensures.names in
    ((names_found raw (names_seen c.check_lines.new.found.names) c.in-Ok-in_order.numbering (c.in_default.ensures.2 ∙ ap (λ o. with_names o raw) z) c.in-Ok-in_order.ensures.order).named a).1 i

pub returns-clause-after : goal.returns-clause-after
returns-clause-after g c h k =
    let texts = weighed g.S.Semiring g.S.Value.PartialEq in
    let raw = flat_map line_names (lines_in g.S.Semiring.spelled (more_lines c.in-Line.text.now)) in
    let z : names_seen c.in-Ok.found.names ≡ [] = c.in-Ok.ensures.names in
    let head : HeadLine = record { number = c.in-Line.line; line = c.in-Line.field-1.now; after = more_lines c.in-Line.text.now } in
    let count = c.in-Ok-in_order.ensures.count in
    let l = c.len.ensures.len in
    let m = length-map c.check_lines.new.found.names.keys (λ b. b.now) in
    let small = c.if-len-gt-MOST_STATES.false in
    let few : length c.in-Ok-in_order.numbering ≤ 1000000 = omega (arith, count, l, m, small) in
    subst (λ x. IsReadAfter texts (g.L.LabelSet.sets c.args.labels) x c.build.result)
    (head_is head h _ c.in-Line.ensures.0 k)
    (build_answer texts (g.L.LabelSet.sets c.args.labels) head c.in-Ok-in_order.numbering c.build.result
    c.in_default.ensures.0 c.in_default.ensures.1 few
    (names_found raw (names_seen c.check_lines.new.found.names) c.in-Ok-in_order.numbering (c.in_default.ensures.2 ∙ ap (λ o. with_names o raw) z) c.in-Ok-in_order.ensures.order)
    c.build.ensures.answer)
