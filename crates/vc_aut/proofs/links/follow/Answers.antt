use Rattle.std.proofs.Common.{List, Bool, map, false, sym, subst, ◌<◌}
use Rattle.std.specs.Prelude.{OnOk}
use Rattle.vc_model.specs.Automata.{Transition}
use Rattle.vc_model.specs.Lists.{In}
use Rattle.vc_aut.specs.Links.{IsFollowed, far, linked}
use Rattle.vc_aut.proofs.Reached.{linked-In}
use Rattle.vc_aut.proofs.links.follow.Goals as goal

pub follow_back-requires-clause-links : goal.follow_back-requires-clause-links
follow_back-requires-clause-links g c = c.requires.links c.if-back.true

pub returns-then-back : goal.returns-then-back
returns-then-back g c =
    subst (λ (b : Bool). OnOk c.follow_back.result (IsFollowed (linked b c.args.aut.now.automaton.transitions c.args.state) c.args.marks.now c.args.waiting.now.items c.follow_back.new.marks c.follow_back.new.waiting.items))
    (sym c.if-back.true) c.follow_back.ensures

pub follow_on-requires : goal.follow_on-requires
follow_on-requires g c q i =
    let A = c.args.aut.now.automaton in
    let j : In q (linked false A.transitions c.args.state) = subst (λ (us : List (Transition g.row.S-Value.Denot)). In q (map (far false) us)) c.transitions_from.ensures i in
    let t = linked-In false A.transitions c.args.state q j in
    subst (λ n. q < n) (sym c.requires.count) (subst (λ k. k < A.states) (sym t.3) (c.automata_are_valid.ensures.automaton.to t.0 t.1))

pub returns : goal.returns
returns g c =
    subst (λ (b : Bool). OnOk c.follow_on.result (IsFollowed (linked b c.args.aut.now.automaton.transitions c.args.state) c.args.marks.now c.args.waiting.now.items c.follow_on.new.marks c.follow_on.new.waiting.items))
    (sym c.if-back.false)
    (subst (λ (us : List (Transition g.row.S-Value.Denot)). OnOk c.follow_on.result (IsFollowed (map (far false) us) c.args.marks.now c.args.waiting.now.items c.follow_on.new.marks c.follow_on.new.waiting.items)) c.transitions_from.ensures c.follow_on.ensures)
