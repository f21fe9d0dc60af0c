use Rattle.std.proofs.Common.{rules, ◌≡◌, ◌<◌, ◌≤◌, ◌+◌, ◌++◌, ◌∷◌, [], length, refl}
use Rattle.vc_standard.specs.Shapes.{positions_of}
use Rattle.vc_standard.specs.Stored.{item_of, position_of}
use Rattle.vc_standard.proofs.CountLaws.{counted, counted_front}
use Rattle.std.proofs.lemmas.List.{length-map}
use Rattle.std.proofs.Common.{sym, ◌∙◌}
use Rattle.vc_standard.proofs.joining.with_position.Goals as goal

pub returns-then-named-gt-MOST-clause-fault : goal.returns-then-named-gt-MOST-clause-fault
returns-then-named-gt-MOST-clause-fault g c =
    let parts = g.L.LabelSet.parts in
    let k : c.len.result ≡ length c.args.position.moves.items = search rules in
    let s : c.saturating_add-named.result ≤ c.args.positions.named + c.len.result = search rules in
    let l : 4000000 < c.saturating_add-named.result = search rules in
    (refl, counted_front (positions_of parts c.args.positions) (position_of parts c.args.position) 4000000 c.args.positions.named c.len.result c.saturating_add-named.result c.args.positions.named_le (k ∙ sym (length-map c.args.position.moves.items (item_of parts))) s l)

pub invariant_of-result : goal.invariant_of-result
invariant_of-result g c =
    let parts = g.L.LabelSet.parts in
    let k : c.len.result ≡ length c.args.position.moves.items = search rules in
    let s : c.saturating_add-named.result ≤ c.args.positions.named + c.len.result = search rules in
    let e : c.append.new.into.items ≡ c.args.positions.list.items ++ c.args.position ∷ [] = search rules in
    record { named_le = counted (position_of parts) c.args.positions.list.items c.args.position c.append.new.into.items c.args.positions.named c.len.result c.saturating_add-named.result c.args.positions.named_le (k ∙ sym (length-map c.args.position.moves.items (item_of parts))) s e }
