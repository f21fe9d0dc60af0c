use Rattle.std.proofs.Common.{rules, ◌≡◌, ◌<◌, ◌++◌, ◌∷◌, [], refl}
use Rattle.vc_standard.specs.Counts.{moves_in}
use Rattle.vc_standard.specs.Refusals.{IsFault}
use Rattle.vc_standard.specs.Shapes.{positions_of}
use Rattle.vc_standard.specs.Stored.{position_of}
use Rattle.vc_standard.proofs.CountLaws.{front_in}
use Rattle.vc_standard.proofs.Faults.{passed_on}
use Rattle.vc_standard.proofs.joining.joined.Goals as goal

pub returns-in_err-all-clause-fault : goal.returns-in_err-all-clause-fault
returns-in_err-all-clause-fault g c =
    let parts = g.L.LabelSet.parts in
    let set = g.S.Semiring.set in
    let all : c.loop-position.yielded ++ c.in-Some.position ∷ c.next.new.self.rest.items ≡ c.args.second.list.items = search rules in
    let fault : IsFault set (λ _. ⊥) (4000000 < moves_in (positions_of parts c.args.first ++ positions_of parts c.args.second)) c.in_err-all.field-0.0 =
    passed_on set (λ _. ⊥) (λ _. ⊥) (4000000 < moves_in (positions_of parts c.loop-position.all ++ position_of parts c.in-Some.position ∷ [])) (4000000 < moves_in (positions_of parts c.args.first ++ positions_of parts c.args.second)) (λ o x. x)
    (front_in (position_of parts) (positions_of parts c.args.first) (positions_of parts c.loop-position.all) c.loop-position.yielded c.in-Some.position c.next.new.self.rest.items c.args.second.list.items (position_of parts c.in-Some.position) c.loop-position.invariant.made all refl 4000000)
    c.in_err-all.field-0.0 c.in_err-all.ensures.fault in
    search rules
