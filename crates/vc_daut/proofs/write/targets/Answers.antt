use Rattle.std.proofs.Common.{rules, ◌∙◌, ap, length, get_or}
use Rattle.std.specs.Prelude.{false}
use Rattle.std.proofs.lemmas.List.{with_items_is}
use Rattle.vc_daut.proofs.MarkedStates.{none_marked}
use Rattle.vc_daut.proofs.write.targets.Goals as goal

pub mark_all-requires-clause-none : goal.mark_all-requires-clause-none
mark_all-requires-clause-none g c q l =
    let items = c.in_ok-marks.ensures.items_if_clones_equal (λ y h. search rules) in
    ap (λ xs. get_or xs q false) (c.deref_mut.ensures.value ∙ items) ∙ none_marked _ q

pub returns-clause-length : goal.returns-clause-length
returns-clause-length g c =
    let held = with_items_is c.in_ok-marks.marks c.mark_all.new.marks (c.mark_all.auto.marks ∙ c.deref_mut.ensures.len) in
    ap length held ∙ c.mark_all.ensures.length

pub returns-clause-marks : goal.returns-clause-marks
returns-clause-marks g c q l =
    let held = with_items_is c.in_ok-marks.marks c.mark_all.new.marks (c.mark_all.auto.marks ∙ c.deref_mut.ensures.len) in
    ap (λ xs. get_or xs q false) held ∙ c.mark_all.ensures.marks q l
