use Rattle.std.proofs.Common.{rules, ◌≡◌, ◌<◌, ◌++◌, ◌∷◌, map}
use Rattle.vc_standard.specs.Counts.{moves_in}
use Rattle.vc_standard.specs.Refusals.{IsFault}
use Rattle.vc_standard.specs.Shapes.{positions_of}
use Rattle.vc_standard.specs.Stored.{items_of, position_of}
use Rattle.vc_standard.specs.Structures.{moved, moved_position}
use Rattle.std.proofs.Common.{ap}
use Rattle.vc_standard.proofs.CountLaws.{front_in_two}
use Rattle.vc_standard.proofs.Faults.{passed_on}
use Rattle.vc_standard.proofs.joining.joined_behind.Goals as goal

pub returns-in_err-all-clause-fault : goal.returns-in_err-all-clause-fault
returns-in_err-all-clause-fault g c =
    let parts = g.L.LabelSet.parts in
    let set = g.S.Semiring.set in
    let whole = positions_of parts c.args.first ++ map (moved_position c.args.n) (positions_of parts c.args.second) in
    let all : c.loop-position.yielded ++ c.in-Some.position ∷ c.next.new.self.rest.items ≡ c.args.second.list.items = search rules in
    let steps : items_of parts c.in_ok-moves.moves.items ≡ moved c.args.n (items_of parts c.in-Some.position.moves.items) = search rules in
    let fault : IsFault set (λ _. ⊥) (4000000 < moves_in whole) c.in_err-all.field-0.0 =
    passed_on set (λ _. ⊥) (λ _. ⊥) _ (4000000 < moves_in whole) (λ o x. x)
    (front_in_two (moved_position c.args.n) (position_of parts) (positions_of parts c.args.first) (positions_of parts c.loop-position.all) c.loop-position.yielded c.in-Some.position c.next.new.self.rest.items c.args.second.list.items (record { final = c.in-Some.position.last; moves = items_of parts c.in_ok-moves.moves.items }) c.loop-position.invariant.made all (ap (λ ms. record { final = c.in-Some.position.last; moves = ms }) steps) 4000000)
    c.in_err-all.field-0.0 c.in_err-all.ensures.fault in
    search rules
