use Rattle.std.proofs.Common.{◌≡◌, ◌++◌, take, drop}
use Rattle.vc_terms.specs.ItemLists.{put_item}
use Rattle.vc_standard.specs.Steps.{put_steps}
use Rattle.vc_standard.specs.Stored.{item_of, items_of}
use Rattle.vc_standard.specs.Structures.{same_place}
use Rattle.vc_standard.proofs.put.find.Given as goal

abbrev pub invariant-loop-i : goal.invariant-loop-i
invariant-loop-i g l =
    let parts = g.L.LabelSet.parts in
    let e = item_of parts l.step in
    record {
      put : put_item g.S.Semiring.set same_place e (items_of parts l.steps) ≡ items_of parts (take l.i l.steps) ++ put_item g.S.Semiring.set same_place e (items_of parts (drop l.i l.steps));
      steps : put_steps e (items_of parts l.steps) ≡ put_steps e (items_of parts (drop l.i l.steps));
    }
