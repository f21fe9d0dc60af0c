use Rattle.std.proofs.Common.{sym, ◌∙◌, ap, IsTrue}
use Rattle.std.specs.Option.{option_copied}
use Rattle.std.proofs.lemmas.List.{length-map}
use Rattle.vc_aut.specs.Stored.{entry_transition}
use Rattle.vc_aut.proofs.Entries.{insert_old, standing_by_key, found_in_range}
use Rattle.vc_aut.proofs.Refusals.{added_ok, fits_onto_old, too_large, too_many}
use Rattle.vc_aut.proofs.moves.add_to_most.Goals as goal

pub add-requires-clause-left_in : goal.add-requires-clause-left_in
add-requires-clause-left_in g c =
    found_in_range (λ v. IsTrue (g.S.Semiring.set.in_range v)) _ c.args.moves.now.entries _ c.requires.weights
    (sym c.get.ensures.value ∙ ap option_copied c.in-Some.is)

pub returns-in-Err-clause-answer : goal.returns-in-Err-clause-answer
returns-in-Err-clause-answer g c =
    too_large g.S.Semiring.set _ c.args.weight c.in-Some.old.now c.in-Err.overflow _
    (standing_by_key g.L.Label.Ord.cmp g.L.LabelSet.parts g.S.Semiring.set g.met.L.LabelSet.ordered c.args.moves.now.entries (c.args.from, c.args.label, c.args.to) c.args.weight
    ∙ sym c.get.ensures.value ∙ ap option_copied c.in-Some.is)
    c.in-Err.ensures

pub returns-in-None-clause-answer : goal.returns-in-None-clause-answer
returns-in-None-clause-answer g c =
    too_many g.S.Semiring.set _ _ c.args.weight _
    (standing_by_key g.L.Label.Ord.cmp g.L.LabelSet.parts g.S.Semiring.set g.met.L.LabelSet.ordered c.args.moves.now.entries (c.args.from, c.args.label, c.args.to) c.args.weight
    ∙ sym c.get.ensures.value ∙ ap option_copied c.in-None.is)
    (length-map c.args.moves.now.entries (entry_transition g.L.LabelSet.parts)) c.requires.most

pub returns-clause-ok : goal.returns-clause-ok
returns-clause-ok g c =
    rw c.in-Ok-insert.ensures.entries
    (insert_old g.L.Label.Ord.cmp g.L.LabelSet.parts g.S.Semiring.set g.met.L.LabelSet.ordered g.met.L.Label.Ord.total
    c.args.moves.now.entries (c.args.from, c.args.label, c.args.to) c.in-Ok.sum c.args.weight c.in-Some.old.now c.insert.ensures.was_ordered
    (sym c.get.ensures.value ∙ ap option_copied c.in-Some.is)
    (added_ok g.S.Semiring.set c.in-Some.old.now c.args.weight c.in-Ok.sum c.in-Ok.ensures).0)

pub returns-clause-answer : goal.returns-clause-answer
returns-clause-answer g c =
    fits_onto_old g.S.Semiring.set _ c.args.weight c.in-Some.old.now c.in-Ok.sum _
    (standing_by_key g.L.Label.Ord.cmp g.L.LabelSet.parts g.S.Semiring.set g.met.L.LabelSet.ordered c.args.moves.now.entries (c.args.from, c.args.label, c.args.to) c.args.weight
    ∙ sym c.get.ensures.value ∙ ap option_copied c.in-Some.is)
    c.in-Ok.ensures
