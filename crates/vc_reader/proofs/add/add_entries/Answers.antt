use Rattle.std.proofs.Common.{◌≡◌, [], ◌∷◌, ◌∙◌, ap, sym, subst, Ok, Err, refl, map}
use Rattle.std.specs.Prelude.{option_to_list}
use Rattle.vc_reader.specs.Building.{IsAdded, entry_weights}
use Rattle.vc_lex.specs.Views.{seen}
use Rattle.vc_lines.specs.Grammar.{entry_weight}
use Rattle.vc_reader.specs.Meaning.{given_by_entry, given_by_entries}
use Rattle.vc_reader.specs.Spelling.{AreEntriesOver}
use Rattle.vc_lines.specs.Views.{more_entries}
use Rattle.vc_reader.proofs.Additions.{leads_more, refused_more}
use Rattle.vc_reader.proofs.EntryLabels.{entry_labels}
use Rattle.vc_reader.proofs.add.add_entries.Goals as goal

pub add_entry-requires-clause-label : goal.add_entry-requires-clause-label
add_entry-requires-clause-label g c =
    let w : more_entries c.loop-rest.rest ≡ map seen c.cut_entry.result.0.now ∷ more_entries c.cut_entry.result.1 = ap more_entries c.in-Some.is ∙ c.cut_entry.ensures.entries in
    (entry_labels _ _ _ w c.loop-rest.invariant.2).0

pub add_entry-requires-clause-over : goal.add_entry-requires-clause-over
add_entry-requires-clause-over g c =
    let w : more_entries c.loop-rest.rest ≡ map seen c.cut_entry.result.0.now ∷ more_entries c.cut_entry.result.1 = ap more_entries c.in-Some.is ∙ c.cut_entry.ensures.entries in
    (subst (AreEntriesOver (g.L.LabelSet.sets c.args.labels.now)) w c.loop-rest.invariant.3).0

pub returns-in-Err-clause-answer : goal.returns-in-Err-clause-answer
returns-in-Err-clause-answer g c =
    let R = g.S.Semiring.set in
    let spelled = g.S.Semiring.spelled in
    let fit = g.S.Semiring.numbers_fit in
    let sets = g.L.LabelSet.sets c.args.labels.now in
    let e = map seen c.cut_entry.result.0.now in
    let es = more_entries c.cut_entry.result.1 in
    let w : more_entries c.loop-rest.rest ≡ e ∷ es = ap more_entries c.in-Some.is ∙ c.cut_entry.ensures.entries in
    c.loop-rest.invariant.0 c.add_entry.new.builder (Err c.in-Err.fault)
    (subst (λ x. IsAdded R spelled fit (entry_weights x) c.loop-rest.builder (given_by_entries R spelled sets c.args.from c.args.to x) c.add_entry.new.builder (Err c.in-Err.fault)) (sym w)
    (refused_more R spelled fit (option_to_list (entry_weight e)) (entry_weights es) c.loop-rest.builder c.add_entry.new.builder c.add_entry.new.builder
    (given_by_entry R spelled sets c.args.from c.args.to e) (given_by_entries R spelled sets c.args.from c.args.to es) c.in-Err.fault c.in-Err.ensures.answer))

pub loop-rest-preserved : goal.loop-rest-preserved
loop-rest-preserved g c =
    let R = g.S.Semiring.set in
    let spelled = g.S.Semiring.spelled in
    let fit = g.S.Semiring.numbers_fit in
    let sets = g.L.LabelSet.sets c.args.labels.now in
    let e = map seen c.cut_entry.result.0.now in
    let es = more_entries c.cut_entry.result.1 in
    let w : more_entries c.loop-rest.rest ≡ e ∷ es = ap more_entries c.in-Some.is ∙ c.cut_entry.ensures.entries in
    let k = c.in_default-add_entry.ensures.kept in (
      (λ new r h. c.loop-rest.invariant.0 new r
          (subst (λ x. IsAdded R spelled fit (entry_weights x) c.loop-rest.builder (given_by_entries R spelled sets c.args.from c.args.to x) new r) (sym w)
          (leads_more R spelled fit (option_to_list (entry_weight e)) (entry_weights es) c.loop-rest.builder c.add_entry.new.builder
          (given_by_entry R spelled sets c.args.from c.args.to e) (given_by_entries R spelled sets c.args.from c.args.to es) c.in_default-add_entry.field-0 c.in_default-add_entry.ensures.answer new r h))),
      record { sets = k.sets ∙ c.loop-rest.invariant.1.sets; states = k.states ∙ c.loop-rest.invariant.1.states },
      (entry_labels _ _ _ w c.loop-rest.invariant.2).1,
      (subst (AreEntriesOver sets) w c.loop-rest.invariant.3).1,
    )

pub returns-clause-answer : goal.returns-clause-answer
returns-clause-answer g c =
    let e : more_entries c.loop-rest.rest ≡ [] = ap more_entries c.in_default.is in
    let R = g.S.Semiring.set in
    let spelled = g.S.Semiring.spelled in
    let sets = g.L.LabelSet.sets c.args.labels.now in
    c.loop-rest.invariant.0 c.loop-rest.builder (Ok tt)
    (subst (λ x. IsAdded R spelled g.S.Semiring.numbers_fit (entry_weights x) c.loop-rest.builder (given_by_entries R spelled sets c.args.from c.args.to x) c.loop-rest.builder (Ok tt)) (sym e) (refl, tt, (λ m h. absurd h)))
