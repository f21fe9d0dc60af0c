use Rattle.std.proofs.Common.{◌≡◌, ◌∷◌, ◌∙◌, ap, sym, subst, map, true}
use Rattle.vc_lex.specs.Parts.{is_label}
use Rattle.vc_lex.specs.Views.{seen}
use Rattle.vc_lines.specs.Views.{more_entries, AreFitAfter}
use Rattle.vc_reader.proofs.EntryLabels.{entry_labels, over_more, first_later, if_true}
use Rattle.vc_reader.proofs.check.outside_entries.Goals as goal

pub is_label_over-requires : goal.is_label_over-requires
is_label_over-requires g c =
    let w : more_entries c.loop-rest.rest ≡ map seen c.cut_entry.result.0.now ∷ more_entries c.cut_entry.result.1 = ap more_entries c.in-Some.is ∙ c.cut_entry.ensures.entries in
    subst (λ ms. is_label ms ≡ true) (sym c.entry_of.ensures.label) (entry_labels _ _ _ w c.loop-rest.invariant.0).0

pub loop-rest-preserved : goal.loop-rest-preserved
loop-rest-preserved g c =
    let i = c.loop-rest.invariant in
    let sets = g.L.LabelSet.sets c.args.labels.now in
    let w : more_entries c.loop-rest.rest ≡ map seen c.cut_entry.result.0.now ∷ more_entries c.cut_entry.result.1 = ap more_entries c.in-Some.is ∙ c.cut_entry.ensures.entries in
    let o = if_true _ _ c.in_ok-is_label_over.field-0 c.if-not-branch.false c.in_ok-is_label_over.ensures in (
      (entry_labels _ _ _ w i.0).1,
      (c.cut_entry.ensures.fit (subst AreFitAfter c.in-Some.is i.1)).1,
      (λ h. i.2 (over_more sets _ _ _ _ w c.entry_of.ensures.label o h)),
      (λ p h. i.3 p (first_later sets _ _ _ _ p w c.entry_of.ensures.label o h)),
    )
