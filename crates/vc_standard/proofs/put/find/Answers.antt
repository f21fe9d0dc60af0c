use Rattle.std.proofs.Common.{rules, ◌≡◌, true, false}
use Rattle.vc_terms.specs.ItemLists.{same_item}
use Rattle.vc_standard.specs.Stored.{item_of}
use Rattle.vc_standard.specs.Structures.{same_place}
use Rattle.vc_standard.proofs.PutLaws.{found, missed}
use Rattle.vc_standard.proofs.put.find.Goals as goal

pub returns-then-same_move : goal.returns-then-same_move
returns-then-same_move g c =
    let parts = g.L.LabelSet.parts in
    let same : same_item same_place (item_of parts c.index-steps-i.result) (item_of parts c.args.step.now) ≡ true = search rules in
    found g.S.Semiring.set (item_of parts) (item_of parts c.args.step.now) c.args.steps.now c.loop-i.i c.index-steps-i.result c.loop-i-test.true c.index-steps-i.is same c.loop-i.invariant.put c.loop-i.invariant.steps

pub loop-i-preserved : goal.loop-i-preserved
loop-i-preserved g c =
    let parts = g.L.LabelSet.parts in
    let apart : same_item same_place (item_of parts c.index-steps-i.result) (item_of parts c.args.step.now) ≡ false = search rules in
    let next = missed g.S.Semiring.set (item_of parts) (item_of parts c.args.step.now) c.args.steps.now c.loop-i.i c.index-steps-i.result c.loop-i-test.true c.index-steps-i.is apart c.loop-i.invariant.put c.loop-i.invariant.steps in
    record { put = next.0; steps = next.1 }
