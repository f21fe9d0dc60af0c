use Rattle.std.proofs.Common.{rules, ◌≡◌, sym, ◌∙◌, ap, map, IsTrue, None, Some}
use Rattle.std.specs.BTreeMap.{insert_entry, is_at}
use Rattle.std.specs.Map.{lookup}
use Rattle.std.proofs.lemmas.List.{length-map}
use Rattle.vc_aut.specs.Stored.{entry_transition}
use Rattle.vc_aut.proofs.Entries.{key_order, insert_new, insert_old, standing_by_key, found_in_range}
use Rattle.vc_aut.proofs.Refusals.{added_ok, fits_onto_old, too_large, room_for_new}
use Rattle.vc_aut.proofs.moves.add.Goals as goal

pub add-requires-clause-left_in : goal.add-requires-clause-left_in
add-requires-clause-left_in g c =
    let stands : lookup (is_at (key_order g.L.Label.Ord.cmp (c.args.from, c.args.label, c.args.to))) c.args.moves.now.entries ≡ Some c.get.result.now = search rules in
    found_in_range (λ v. IsTrue (g.S.Semiring.set.in_range v)) _ c.args.moves.now.entries _ c.requires.weights stands

pub returns-in-Err-add-clause-answer : goal.returns-in-Err-add-clause-answer
returns-in-Err-add-clause-answer g c =
    let stands : lookup (is_at (key_order g.L.Label.Ord.cmp (c.args.from, c.args.label, c.args.to))) c.args.moves.now.entries ≡ Some c.get.result.now = search rules in
    too_large g.S.Semiring.set _ c.args.weight c.get.result.now c.in-Err-add.overflow _
    (standing_by_key g.L.Label.Ord.cmp g.L.LabelSet.parts g.S.Semiring.set g.met.L.LabelSet.ordered c.args.moves.now.entries (c.args.from, c.args.label, c.args.to) c.args.weight
    ∙ stands)
    c.in-Err-add.ensures

pub returns-in-Ok-Occupied-clause-ok : goal.returns-in-Ok-Occupied-clause-ok
returns-in-Ok-Occupied-clause-ok g c =
    let stands : lookup (is_at (key_order g.L.Label.Ord.cmp (c.args.from, c.args.label, c.args.to))) c.args.moves.now.entries ≡ Some c.get.result.now = search rules in
    let same : _ ≡ insert_entry (key_order g.L.Label.Ord.cmp) c.args.moves.now.entries (c.args.from, c.args.label, c.args.to) c.in-Ok.sum = search rules in
    ap (map (entry_transition g.L.LabelSet.parts)) same
    ∙ insert_old g.L.Label.Ord.cmp g.L.LabelSet.parts g.S.Semiring.set g.met.L.LabelSet.ordered g.met.L.Label.Ord.total
    c.args.moves.now.entries (c.args.from, c.args.label, c.args.to) c.in-Ok.sum c.args.weight c.get.result.now c.entry.ensures.ordered
    stands
    (added_ok g.S.Semiring.set c.get.result.now c.args.weight c.in-Ok.sum c.in-Ok.ensures).0

pub returns-in-Ok-Occupied-clause-answer : goal.returns-in-Ok-Occupied-clause-answer
returns-in-Ok-Occupied-clause-answer g c =
    let stands : lookup (is_at (key_order g.L.Label.Ord.cmp (c.args.from, c.args.label, c.args.to))) c.args.moves.now.entries ≡ Some c.get.result.now = search rules in
    fits_onto_old g.S.Semiring.set _ c.args.weight c.get.result.now c.in-Ok.sum _
    (standing_by_key g.L.Label.Ord.cmp g.L.LabelSet.parts g.S.Semiring.set g.met.L.LabelSet.ordered c.args.moves.now.entries (c.args.from, c.args.label, c.args.to) c.args.weight
    ∙ stands)
    c.in-Ok.ensures

pub returns-in-Ok-Vacant-clause-ok : goal.returns-in-Ok-Vacant-clause-ok
returns-in-Ok-Vacant-clause-ok g c =
    let none : lookup (is_at (key_order g.L.Label.Ord.cmp (c.args.from, c.args.label, c.args.to))) c.args.moves.now.entries ≡ None = search rules in
    let same : _ ≡ insert_entry (key_order g.L.Label.Ord.cmp) c.args.moves.now.entries (c.args.from, c.args.label, c.args.to) c.args.weight = search rules in
    ap (map (entry_transition g.L.LabelSet.parts)) same
    ∙ insert_new g.L.Label.Ord.cmp g.L.LabelSet.parts g.S.Semiring.set g.met.L.LabelSet.ordered
    c.args.moves.now.entries (c.args.from, c.args.label, c.args.to) c.args.weight none

pub returns-in-Ok-Vacant-clause-answer : goal.returns-in-Ok-Vacant-clause-answer
returns-in-Ok-Vacant-clause-answer g c =
    let none : lookup (is_at (key_order g.L.Label.Ord.cmp (c.args.from, c.args.label, c.args.to))) c.args.moves.now.entries ≡ None = search rules in
    room_for_new g.S.Semiring.set _ c.len.result c.args.weight _
    (standing_by_key g.L.Label.Ord.cmp g.L.LabelSet.parts g.S.Semiring.set g.met.L.LabelSet.ordered c.args.moves.now.entries (c.args.from, c.args.label, c.args.to) c.args.weight
    ∙ none)
    (length-map c.args.moves.now.entries (entry_transition g.L.LabelSet.parts) ∙ sym c.len.ensures.len) c.if-len-ge-MOST_TRANSITIONS.false
