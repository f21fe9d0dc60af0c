use Rattle.std.proofs.Common.{rules, ◌≡◌, ◌++◌, ◌∷◌, [], ◌+◌, ◌*◌, ◌∙◌, ap, map, ℕ}
use Rattle.std.proofs.lemmas.List.{map-append}
use Rattle.vc_model.specs.Items.{Item}
use Rattle.vc_standard.specs.Stored.{item_of, items_of}
use Rattle.vc_standard.proofs.MeetLaws.{makes_next}
use Rattle.vc_standard.proofs.shuffled.spread.Goals as goal

pub loop-step-preserved : goal.loop-step-preserved
loop-step-preserved g c =
    let parts = g.L.LabelSet.parts in
    let e = item_of parts c.step-item.result in
    let grown : c.append.new.into.items ≡ c.loop-step.all.items ++ c.in_ok-step.step ∷ [] = search rules in
    let now : items_of parts c.append.new.into.items ≡ items_of parts c.loop-step.all.items ++ item_of parts c.in_ok-step.step ∷ [] = ap (map (item_of parts)) grown ∙ map-append (item_of parts) c.loop-step.all.items (c.in_ok-step.step ∷ []) in
    let at : item_of parts c.in_ok-step.step ≡ record { label = e.label; weight = e.weight; to = e.to * c.args.width + c.args.second } = c.in_ok-step.ensures ∙ ap (λ k. record { label = e.label; weight = e.weight; to = k }) c.in_ok-to.ensures in
    makes_next (λ (e : Item g.row.S-Value.Denot ℕ). record { label = e.label; weight = e.weight; to = e.to * c.args.width + c.args.second }) (item_of parts) (items_of parts c.loop-step.all.items) (items_of parts c.append.new.into.items) c.args.steps.now c.loop-step.step-index c.step-item.result _ c.loop-step-test.true c.step-item.is c.loop-step.invariant (now ∙ ap (λ z. items_of parts c.loop-step.all.items ++ z ∷ []) at)
