use Rattle.std.proofs.Common.{rules, ◌≡◌, ◌∙◌, ◌+◌, ◌*◌, ap, ap₂, inl, subst}
use Rattle.vc_model.specs.Lists.{In}
use Rattle.vc_standard.specs.Refusals.{IsFault}
use Rattle.vc_standard.specs.Steps.{IsMixStep, grouped_steps}
use Rattle.vc_standard.specs.Stored.{items_of, position_of}
use Rattle.vc_standard.specs.Structures.{Moves, moved, same_place}
use Rattle.vc_terms.specs.ItemLists.{mapped, grouped_items}
use Rattle.vc_standard.proofs.Faults.{passed_on, residual}
use Rattle.vc_standard.proofs.MixLaws.{mixed_moves, mixed_steps}
use Rattle.vc_standard.proofs.shuffled.mix_states.Goals as goal

pub returns-in_err-last-clause-fault : goal.returns-in_err-last-clause-fault
returns-in_err-last-clause-fault g c =
    let parts = g.L.LabelSet.parts in
    let set = g.S.Semiring.set in
    let P = IsMixStep set c.args.m c.args.i c.args.j (position_of parts c.args.first.now) (position_of parts c.args.second.now) in
    let fault : IsFault set P ⊥ c.in_err-last.field-0.0 = passed_on set _ P ⊥ ⊥ (λ o e. inl e) (λ x. x) c.in_err-last.field-0.0 c.in_err-last.ensures.fault in
    residual _ c.in_err-last.field-0.0 (λ f. IsFault set P ⊥ f) c.from_residual-in_err-last.ensures.1 fault

pub returns-in_err-put_behind-clause-fault : goal.returns-in_err-put_behind-clause-fault
returns-in_err-put_behind-clause-fault g c =
    let parts = g.L.LabelSet.parts in
    let set = g.S.Semiring.set in
    let p = position_of parts c.args.first.now in
    let q = position_of parts c.args.second.now in
    let P = IsMixStep set c.args.m c.args.i c.args.j p q in
    let one : c.as_slice.result.now ≡ c.args.first.now.moves.items = search rules in
    let two : c.as_slice-2.result.now ≡ c.args.second.now.moves.items = search rules in
    let ds : items_of parts c.in_ok-moves.moves.items ≡ mapped (λ k. k * c.in_ok-width.width + c.in_ok-column.column) p.moves = c.in_ok-moves.ensures ∙ ap (λ xs. mapped (λ k. k * c.in_ok-width.width + c.in_ok-column.column) (items_of parts xs)) one in
    let given = subst (λ xs. IsFault set (λ o. In o (grouped_steps set (items_of parts c.in_ok-moves.moves.items) (moved c.in_ok-row.row (items_of parts xs)))) ⊥ c.in_err-put_behind.field-0.0) two c.in_err-put_behind.ensures.fault in
    let fault : IsFault set P ⊥ c.in_err-put_behind.field-0.0 =
    passed_on set _ P ⊥ ⊥ (mixed_steps set c.args.m c.args.i c.args.j p q c.in_ok-width.width c.in_ok-column.column c.in_ok-row.row c.in_ok-width.ensures c.in_ok-column.ensures c.in_ok-row.ensures (items_of parts c.in_ok-moves.moves.items) ds) (λ x. x) c.in_err-put_behind.field-0.0 given in
    residual _ c.in_err-put_behind.field-0.0 (λ f. IsFault set P ⊥ f) c.from_residual-in_err-put_behind.ensures.1 fault

pub returns-clause-position : goal.returns-clause-position
returns-clause-position g c =
    let parts = g.L.LabelSet.parts in
    let set = g.S.Semiring.set in
    let p = position_of parts c.args.first.now in
    let q = position_of parts c.args.second.now in
    let one : c.as_slice.result.now ≡ c.args.first.now.moves.items = search rules in
    let two : c.as_slice-2.result.now ≡ c.args.second.now.moves.items = search rules in
    let ds : items_of parts c.in_ok-moves.moves.items ≡ mapped (λ k. k * c.in_ok-width.width + c.in_ok-column.column) p.moves = c.in_ok-moves.ensures ∙ ap (λ xs. mapped (λ k. k * c.in_ok-width.width + c.in_ok-column.column) (items_of parts xs)) one in
    let now : items_of parts c.put_behind.new.into.items ≡ grouped_items set same_place (items_of parts c.in_ok-moves.moves.items) (moved c.in_ok-row.row q.moves) = c.in_ok-put_behind.ensures.steps ∙ ap (λ xs. grouped_items set same_place (items_of parts c.in_ok-moves.moves.items) (moved c.in_ok-row.row (items_of parts xs))) two in
    ap₂ (λ (k : g.row.S-Value.Denot) (ms : Moves g.row.S-Value.Denot). record { final = k; moves = ms }) c.in_ok-last.ensures.value
    (mixed_moves set c.args.m c.args.i c.args.j p q c.in_ok-width.width c.in_ok-column.column c.in_ok-row.row c.in_ok-width.ensures c.in_ok-column.ensures c.in_ok-row.ensures (items_of parts c.in_ok-moves.moves.items) (items_of parts c.put_behind.new.into.items) ds now)
