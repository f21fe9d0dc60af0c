use Rattle.std.proofs.Common.{rules, ◌≡◌, ◌++◌, ◌∷◌}
use Rattle.vc_standard.specs.Stored.{item_of, items_of}
use Rattle.vc_standard.specs.Within.{IsFew}
use Rattle.vc_standard.proofs.Faults.{between}
use Rattle.vc_standard.proofs.MoveLaws.{are-in}
use Rattle.vc_standard.proofs.states.add_state.Goals as goal

pub add_move-requires-clause-to : goal.add_move-requires-clause-to
add_move-requires-clause-to g c =
    let parts = g.L.LabelSet.parts in
    let all : c.loop-step.yielded ++ c.in-Some.step ∷ c.next.new.self.rest.items ≡ c.args.position.moves.items = search rules in
    are-in IsFew (items_of parts c.args.position.moves.items) c.requires.few (item_of parts c.in-Some.step) (between (item_of parts) c.loop-step.yielded c.in-Some.step c.next.new.self.rest.items c.args.position.moves.items all)
