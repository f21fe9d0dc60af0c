use Rattle.std.proofs.Common.{rules, ◌≡◌, ◌<◌, ◌++◌, ◌∷◌, [], map}
use Rattle.vc_standard.specs.Counts.{moves_in}
use Rattle.vc_standard.specs.Refusals.{IsFault}
use Rattle.vc_standard.specs.Shapes.{positions_of}
use Rattle.vc_standard.specs.Steps.{IsAnyAgainStep}
use Rattle.vc_standard.specs.Stored.{items_of, position_of}
use Rattle.vc_standard.specs.Structures.{Position, again}
use Rattle.vc_standard.proofs.CountLaws.{front_in_two}
use Rattle.vc_standard.proofs.Faults.{passed_on, between}
use Rattle.vc_standard.proofs.looped.go_on_all.Goals as goal

pub returns-in_err-position-clause-fault : goal.returns-in_err-position-clause-fault
returns-in_err-position-clause-fault g c =
    let parts = g.L.LabelSet.parts in
    let set = g.S.Semiring.set in
    let q : Position g.row.S-Value.Denot = record { final = c.args.h; moves = items_of parts c.args.steps.now } in
    let whole = map (again set g.S.Value.PartialEq.eq (items_of parts c.args.steps.now) c.args.h) (positions_of parts c.args.from) in
    let all : c.loop-position.yielded ++ c.in-Some.position ∷ c.next.new.self.rest.items ≡ c.args.from.list.items = search rules in
    let fault : IsFault set (IsAnyAgainStep set g.S.Value.PartialEq.eq q (positions_of parts c.args.from)) (4000000 < moves_in whole) c.in_err-position.field-0.0 =
    passed_on set _ (IsAnyAgainStep set g.S.Value.PartialEq.eq q (positions_of parts c.args.from)) ⊥ (4000000 < moves_in whole)
    (λ o h. (position_of parts c.in-Some.position, between (position_of parts) c.loop-position.yielded c.in-Some.position c.next.new.self.rest.items c.args.from.list.items all, h)) (λ x. absurd x) c.in_err-position.field-0.0 c.in_err-position.ensures.fault in
    search rules

pub returns-in_err-all-clause-fault : goal.returns-in_err-all-clause-fault
returns-in_err-all-clause-fault g c =
    let parts = g.L.LabelSet.parts in
    let set = g.S.Semiring.set in
    let q : Position g.row.S-Value.Denot = record { final = c.args.h; moves = items_of parts c.args.steps.now } in
    let whole = map (again set g.S.Value.PartialEq.eq (items_of parts c.args.steps.now) c.args.h) (positions_of parts c.args.from) in
    let all : c.loop-position.yielded ++ c.in-Some.position ∷ c.next.new.self.rest.items ≡ c.args.from.list.items = search rules in
    let fault : IsFault set (IsAnyAgainStep set g.S.Value.PartialEq.eq q (positions_of parts c.args.from)) (4000000 < moves_in whole) c.in_err-all.field-0.0 =
    passed_on set (λ _. ⊥) (IsAnyAgainStep set g.S.Value.PartialEq.eq q (positions_of parts c.args.from)) _ (4000000 < moves_in whole) (λ o x. absurd x)
    (front_in_two (again set g.S.Value.PartialEq.eq (items_of parts c.args.steps.now) c.args.h) (position_of parts) [] (positions_of parts c.loop-position.all) c.loop-position.yielded c.in-Some.position c.next.new.self.rest.items c.args.from.list.items (position_of parts c.in_ok-position.position) c.loop-position.invariant.made all c.in_ok-position.ensures.position 4000000)
    c.in_err-all.field-0.0 c.in_err-all.ensures.fault in
    search rules
