use Rattle.std.proofs.Common.{rules, ◌≡◌, ◌<◌, ◌+◌, ◌++◌, ◌∙◌, ap, ap₂, sym, subst, map, length}
use Rattle.std.proofs.lemmas.List.{length-map}
use Rattle.vc_standard.specs.Automata.{states_of}
use Rattle.vc_standard.specs.Counts.{moves_in}
use Rattle.vc_standard.specs.Refusals.{IsFault}
use Rattle.vc_standard.specs.Shapes.{chain_of, positions_of, shape_of}
use Rattle.vc_standard.specs.Steps.{IsMultiple, IsAnyMultiple, IsProductStep}
use Rattle.vc_standard.specs.Stored.{items_of, position_of}
use Rattle.vc_standard.specs.Structures.{chained, followed, moved}
use Rattle.vc_standard.proofs.ChainLaws.{closed_told, chain_grown, followed_closed, ready_large, settled_large, joined_large, ready_step, start_step}
use Rattle.vc_standard.proofs.Faults.{passed_on, residual}
use Rattle.vc_standard.proofs.product.with_factor.Goals as goal

pub settle-requires : goal.settle-requires
settle-requires g c z =
    let parts = g.L.LabelSet.parts in
    let set = g.S.Semiring.set in
    let eq = g.S.Value.PartialEq.eq in
    let L = g.met.S.Semiring.laws in
    rw (c.in_ok-followed.ensures.positions) (followed_closed L eq g.met.S.Semiring.same _ c.args.next.start.last z (positions_of parts c.args.chain.ready))

pub returns-in_err-start-clause-fault : goal.returns-in_err-start-clause-fault
returns-in_err-start-clause-fault g c =
    let parts = g.L.LabelSet.parts in
    let set = g.S.Semiring.set in
    let eq = g.S.Value.PartialEq.eq in
    let L = g.met.S.Semiring.laws in
    let Q = g.met.S.Semiring.same in
    let A = chain_of parts c.args.chain in
    let B = shape_of parts c.args.next in
    let a = position_of parts c.args.chain.start in
    let closed = positions_of parts c.args.chain.closed in
    let ready = positions_of parts c.args.chain.ready in
    let n = c.in_ok-n.n in
    let count : n ≡ length c.args.chain.closed.list.items + length c.args.chain.ready.list.items = search rules in
    let few : n ≡ length closed + length ready = count ∙ ap₂ ◌+◌ (sym (length-map c.args.chain.closed.list.items (position_of parts))) (sym (length-map c.args.chain.ready.list.items (position_of parts))) in
    let H = closed_told L eq Q closed c.args.chain.closed_are in
    let steps : items_of parts c.in_ok-steps.steps.items ≡ moved n B.start.moves = c.in_ok-steps.ensures in
    let large = 4000000 < moves_in (states_of (chained set eq A B)) in
    let now : items_of parts c.deref.result.now ≡ moved n B.start.moves = search rules in
    let given : IsFault set (IsMultiple a.final (record { final = B.start.final; moves = moved n B.start.moves })) ⊥ c.in_err-start.field-0.0 = subst (λ ms. IsFault set (IsMultiple a.final (record { final = B.start.final; moves = ms })) ⊥ c.in_err-start.field-0.0) now c.in_err-start.ensures.fault in
    let fault : IsFault set (IsProductStep A B) large c.in_err-start.field-0.0 =
    passed_on set _ (IsProductStep A B) _ large (start_step L eq Q a closed ready B n few H) (λ x. absurd x) c.in_err-start.field-0.0 given in
    search rules

pub returns-in_err-followed-clause-fault : goal.returns-in_err-followed-clause-fault
returns-in_err-followed-clause-fault g c =
    let parts = g.L.LabelSet.parts in
    let set = g.S.Semiring.set in
    let eq = g.S.Value.PartialEq.eq in
    let L = g.met.S.Semiring.laws in
    let Q = g.met.S.Semiring.same in
    let A = chain_of parts c.args.chain in
    let B = shape_of parts c.args.next in
    let a = position_of parts c.args.chain.start in
    let closed = positions_of parts c.args.chain.closed in
    let ready = positions_of parts c.args.chain.ready in
    let n = c.in_ok-n.n in
    let count : n ≡ length c.args.chain.closed.list.items + length c.args.chain.ready.list.items = search rules in
    let few : n ≡ length closed + length ready = count ∙ ap₂ ◌+◌ (sym (length-map c.args.chain.closed.list.items (position_of parts))) (sym (length-map c.args.chain.ready.list.items (position_of parts))) in
    let H = closed_told L eq Q closed c.args.chain.closed_are in
    let steps : items_of parts c.in_ok-steps.steps.items ≡ moved n B.start.moves = c.in_ok-steps.ensures in
    let large = 4000000 < moves_in (states_of (chained set eq A B)) in
    let now : items_of parts c.deref-2.result.now ≡ moved n B.start.moves = search rules in
    let given : IsFault set (IsAnyMultiple ready (record { final = B.start.final; moves = moved n B.start.moves })) (4000000 < moves_in (map (followed set eq (moved n B.start.moves) B.start.final) ready)) c.in_err-followed.field-0.0 =
    subst (λ ms. IsFault set (IsAnyMultiple ready (record { final = B.start.final; moves = ms })) (4000000 < moves_in (map (followed set eq ms B.start.final) ready)) c.in_err-followed.field-0.0) now c.in_err-followed.ensures.fault in
    let fault : IsFault set (IsProductStep A B) large c.in_err-followed.field-0.0 =
    passed_on set _ (IsProductStep A B) _ large (ready_step L eq Q a closed ready B n few H) (ready_large L eq Q a closed ready B n few H 4000000) c.in_err-followed.field-0.0 given in
    search rules

pub returns-in_err-settled-clause-fault : goal.returns-in_err-settled-clause-fault
returns-in_err-settled-clause-fault g c =
    let parts = g.L.LabelSet.parts in
    let set = g.S.Semiring.set in
    let eq = g.S.Value.PartialEq.eq in
    let L = g.met.S.Semiring.laws in
    let Q = g.met.S.Semiring.same in
    let A = chain_of parts c.args.chain in
    let B = shape_of parts c.args.next in
    let a = position_of parts c.args.chain.start in
    let closed = positions_of parts c.args.chain.closed in
    let ready = positions_of parts c.args.chain.ready in
    let n = c.in_ok-n.n in
    let count : n ≡ length c.args.chain.closed.list.items + length c.args.chain.ready.list.items = search rules in
    let few : n ≡ length closed + length ready = count ∙ ap₂ ◌+◌ (sym (length-map c.args.chain.closed.list.items (position_of parts))) (sym (length-map c.args.chain.ready.list.items (position_of parts))) in
    let H = closed_told L eq Q closed c.args.chain.closed_are in
    let steps : items_of parts c.in_ok-steps.steps.items ≡ moved n B.start.moves = c.in_ok-steps.ensures in
    let large = 4000000 < moves_in (states_of (chained set eq A B)) in
    let now : items_of parts c.deref-2.result.now ≡ moved n B.start.moves = search rules in
    let some : positions_of parts c.in_ok-followed.followed ≡ map (followed set eq (moved n B.start.moves) B.start.final) ready = c.in_ok-followed.ensures.positions ∙ ap (λ ms. map (followed set eq ms B.start.final) ready) now in
    let fault : IsFault set (IsProductStep A B) large c.in_err-settled.field-0.0 =
    passed_on set _ (IsProductStep A B) _ large (λ o x. absurd x) (settled_large L eq Q a closed ready B n few H (positions_of parts c.in_ok-followed.followed) some 4000000) c.in_err-settled.field-0.0 c.in_err-settled.ensures.fault in
    search rules

pub returns-in_err-all-clause-fault : goal.returns-in_err-all-clause-fault
returns-in_err-all-clause-fault g c =
    let parts = g.L.LabelSet.parts in
    let set = g.S.Semiring.set in
    let eq = g.S.Value.PartialEq.eq in
    let L = g.met.S.Semiring.laws in
    let Q = g.met.S.Semiring.same in
    let A = chain_of parts c.args.chain in
    let B = shape_of parts c.args.next in
    let a = position_of parts c.args.chain.start in
    let closed = positions_of parts c.args.chain.closed in
    let ready = positions_of parts c.args.chain.ready in
    let n = c.in_ok-n.n in
    let count : n ≡ length c.args.chain.closed.list.items + length c.args.chain.ready.list.items = search rules in
    let few : n ≡ length closed + length ready = count ∙ ap₂ ◌+◌ (sym (length-map c.args.chain.closed.list.items (position_of parts))) (sym (length-map c.args.chain.ready.list.items (position_of parts))) in
    let H = closed_told L eq Q closed c.args.chain.closed_are in
    let steps : items_of parts c.in_ok-steps.steps.items ≡ moved n B.start.moves = c.in_ok-steps.ensures in
    let large = 4000000 < moves_in (states_of (chained set eq A B)) in
    let now : items_of parts c.deref-2.result.now ≡ moved n B.start.moves = search rules in
    let some : positions_of parts c.in_ok-followed.followed ≡ map (followed set eq (moved n B.start.moves) B.start.final) ready = c.in_ok-followed.ensures.positions ∙ ap (λ ms. map (followed set eq ms B.start.final) ready) now in
    let settled : positions_of parts c.in_ok-settled.settled.closed ++ positions_of parts c.in_ok-settled.settled.ready ≡ closed ++ positions_of parts c.in_ok-followed.followed = ap (λ k. k.positions) c.in_ok-settled.ensures.chain in
    let fault : IsFault set (IsProductStep A B) large c.in_err-all.field-0.0 =
    passed_on set _ (IsProductStep A B) _ large (λ o x. absurd x) (joined_large L eq Q a closed ready B n few H (positions_of parts c.in_ok-followed.followed) (positions_of parts c.in_ok-settled.settled.closed) (positions_of parts c.in_ok-settled.settled.ready) some settled 4000000) c.in_err-all.field-0.0 c.in_err-all.ensures.fault in
    residual _ c.in_err-all.field-0.0 (λ f. IsFault set (IsProductStep A B) large f) c.from_residual-in_err-all.ensures.1 fault

pub returns-clause-chain : goal.returns-clause-chain
returns-clause-chain g c =
    let parts = g.L.LabelSet.parts in
    let set = g.S.Semiring.set in
    let eq = g.S.Value.PartialEq.eq in
    let L = g.met.S.Semiring.laws in
    let Q = g.met.S.Semiring.same in
    let A = chain_of parts c.args.chain in
    let B = shape_of parts c.args.next in
    let a = position_of parts c.args.chain.start in
    let closed = positions_of parts c.args.chain.closed in
    let ready = positions_of parts c.args.chain.ready in
    let n = c.in_ok-n.n in
    let count : n ≡ length c.args.chain.closed.list.items + length c.args.chain.ready.list.items = search rules in
    let few : n ≡ length closed + length ready = count ∙ ap₂ ◌+◌ (sym (length-map c.args.chain.closed.list.items (position_of parts))) (sym (length-map c.args.chain.ready.list.items (position_of parts))) in
    let H = closed_told L eq Q closed c.args.chain.closed_are in
    let steps : items_of parts c.in_ok-steps.steps.items ≡ moved n B.start.moves = c.in_ok-steps.ensures in
    let large = 4000000 < moves_in (states_of (chained set eq A B)) in
    let start : position_of parts c.in_ok-start.start ≡ followed set eq (moved n B.start.moves) B.start.final a = search rules in
    let now : items_of parts c.deref-2.result.now ≡ moved n B.start.moves = search rules in
    let some : positions_of parts c.in_ok-followed.followed ≡ map (followed set eq (moved n B.start.moves) B.start.final) ready = c.in_ok-followed.ensures.positions ∙ ap (λ ms. map (followed set eq ms B.start.final) ready) now in
    let settled : positions_of parts c.in_ok-settled.settled.closed ++ positions_of parts c.in_ok-settled.settled.ready ≡ closed ++ positions_of parts c.in_ok-followed.followed = ap (λ k. k.positions) c.in_ok-settled.ensures.chain in
    chain_grown L eq Q a closed ready B n few H (position_of parts c.in_ok-settled.settled.start) (positions_of parts c.in_ok-followed.followed) (positions_of parts c.in_ok-settled.settled.closed) (positions_of parts c.in_ok-settled.settled.ready) (positions_of parts c.in_ok-all.all)
    (ap (λ k. k.start) c.in_ok-settled.ensures.chain ∙ start) some settled c.in_ok-all.ensures.positions
