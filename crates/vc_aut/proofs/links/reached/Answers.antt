use Rattle.std.proofs.Common.{◌≡◌, ◌∙◌, List, Bool, true, map, not, sym, subst}
use Rattle.std.specs.Prelude.{◌↔◌}
use Rattle.std.proofs.lemmas.List.{with_items_is}
use Rattle.vc_aut.specs.Links.{IsReached, linked}
use Rattle.vc_aut.specs.Marks.{is_marked}
use Rattle.vc_aut.proofs.links.reached.Goals as goal

pub returns-clause-reached : goal.returns-clause-reached
returns-clause-reached g c q =
    let next = linked c.args.back c.args.aut.now.automaton.transitions in
    let after = c.reach.new.marks in
    let same : g.row.S-Value.Denot → g.row.S-Value.Denot → Bool = g.S.Value.PartialEq.eq in
    let first : List Bool = map (λ w. not (same w g.S.Semiring.set.zero)) c.args.weights.now in
    let is : c.deref_mut.result.now ≡ first = c.deref_mut.ensures.value ∙ c.in_ok-marks.ensures in
    subst (λ (ms : List Bool). (is_marked ms q ≡ true) ↔ IsReached next first q) (sym (with_items_is c.in_ok-marks.marks after (c.reach.auto.marks ∙ c.deref_mut.ensures.len)))
    (subst (λ (ms : List Bool). (is_marked after q ≡ true) ↔ IsReached next ms q) is (c.in_ok-reach.ensures.reached q))
