use Rattle.std.proofs.Common.{rules, ◌≡◌, ◌≤◌, ◌<◌, ◌∙◌, ◌++◌, ◌∷◌, [], ℕ, ap, sym, subst, get_or, set, inl, arith}
use Rattle.std.proofs.lemmas.List.{map-append}
use Rattle.vc_model.specs.Items.{Item}
use Rattle.vc_model.specs.Lists.{In}
use Rattle.vc_ring.specs.declared.faults.Overflow.{Overflow}
use Rattle.vc_ring.specs.declared.faults.Overflow.TheVariants.{Add}
use Rattle.vc_terms.specs.ItemLists.{put_item}
use Rattle.vc_standard.specs.Refusals.{IsFault}
use Rattle.vc_standard.specs.Steps.{put_steps}
use Rattle.vc_standard.specs.Structures.{same_place}
use Rattle.vc_standard.specs.Within.{Are, IsUpTo}
use Rattle.vc_standard.proofs.Faults.{passed_on, residual}
use Rattle.vc_standard.specs.Found.{IsFound}
use Rattle.vc_standard.specs.Stored.{item_of, items_of}
use Rattle.vc_standard.proofs.PutLaws.{map_set, map_get, put_end, put_up_to}
use Rattle.vc_standard.proofs.put.put.Goals as goal

pub returns-clause-steps : goal.returns-clause-steps
returns-clause-steps g c =
    let parts = g.L.LabelSet.parts in
    let plus = g.S.Semiring.set.plus in
    let e = item_of parts c.args.step in
    let items = c.args.into.now.items in
    let found : IsFound g.S.Semiring.set (items_of parts items) e c.in-Some.i = search rules in
    let old : c.index.result.now ≡ get_or items c.in-Some.i c.index.result.now = search rules in
    let weight : c.in_ok-weight.weight ≡ plus (get_or (items_of parts items) c.in-Some.i e).weight e.weight =
    c.in_ok-weight.ensures.value ∙ ap (λ x. plus x.weight e.weight) (sym (map_get (item_of parts) items c.in-Some.i c.index.result.now e found.inside old)) in
    map_set (item_of parts) items c.in-Some.i _ ∙ ap (λ w. set (items_of parts items) c.in-Some.i (record { label = e.label; weight = w; to = e.to })) weight ∙ sym found.put

pub returns-clause-most : goal.returns-clause-most
returns-clause-most g c =
    let near : c.args.step.to ≤ c.args.most = search rules in
    subst (Are (IsUpTo c.args.most)) (sym (returns-clause-steps g c))
    (put_up_to g.S.Semiring.set c.args.most c.args.most (item_of g.L.LabelSet.parts c.args.step) (items_of g.L.LabelSet.parts c.args.into.now.items) c.requires (omega arith) near)

pub returns-then-most-place-clause-steps : goal.returns-then-most-place-clause-steps
returns-then-most-place-clause-steps g c =
    let parts = g.L.LabelSet.parts in
    let past : c.args.most < c.args.step.to = search rules in
    ap (items_of parts) c.in_ok-append.ensures ∙ map-append (item_of parts) c.args.into.now.items (c.args.step ∷ [])
    ∙ sym (put_end g.S.Semiring.set c.args.most (item_of parts c.args.step) (items_of parts c.args.into.now.items) c.requires past).0

pub returns-then-most-place-clause-most : goal.returns-then-most-place-clause-most
returns-then-most-place-clause-most g c =
    let parts = g.L.LabelSet.parts in
    let past : c.args.most < c.args.step.to = search rules in
    subst (Are (IsUpTo c.args.step.to)) (sym (returns-then-most-place-clause-steps g c))
    (put_up_to g.S.Semiring.set c.args.most c.args.step.to (item_of parts c.args.step) (items_of parts c.args.into.now.items) c.requires (omega (arith, past)) (omega arith))

pub returns-in_default-clause-most : goal.returns-in_default-clause-most
returns-in_default-clause-most g c =
    let parts = g.L.LabelSet.parts in
    let e = item_of parts c.args.step in
    let items = c.args.into.now.items in
    let near : c.args.step.to ≤ c.args.most = search rules in
    let put : put_item g.S.Semiring.set same_place e (items_of parts items) ≡ items_of parts items ++ e ∷ [] = search rules in
    subst (Are (IsUpTo c.args.most)) (put ∙ sym (ap (items_of parts) c.in_ok-append-2.ensures ∙ map-append (item_of parts) items (c.args.step ∷ [])))
    (put_up_to g.S.Semiring.set c.args.most c.args.most e (items_of parts items) c.requires (omega arith) near)

pub returns-in_err-weight-clause-fault : goal.returns-in_err-weight-clause-fault
returns-in_err-weight-clause-fault g c =
    let parts = g.L.LabelSet.parts in
    let set = g.S.Semiring.set in
    let e = item_of parts c.args.step in
    let items = c.args.into.now.items in
    let P : Overflow g.row.S-Value.Denot → Type 0 = λ o. In o (put_steps e (items_of parts items)) in
    let found : IsFound set (items_of parts items) e c.in-Some.i = search rules in
    let old : c.index.result.now ≡ get_or items c.in-Some.i c.index.result.now = search rules in
    let at = map_get (item_of parts) items c.in-Some.i c.index.result.now e found.inside old in
    let fault : IsFault set P ⊥ c.in_err-weight.field-0.0 =
    passed_on set (λ o. o ≡ Add c.index.result.now.weight e.weight) P ⊥ ⊥
    (λ o h. subst (In o) (sym found.steps) (inl (h ∙ ap (λ (x : Item g.row.S-Value.Denot ℕ). Add x.weight e.weight) (sym at)))) (λ x. x) c.in_err-weight.field-0.0 c.in_err-weight.ensures.fault in
    residual _ c.in_err-weight.field-0.0 (λ f. IsFault set P ⊥ f) c.from_residual-in_err-weight.ensures.1 fault
