use Rattle.std.proofs.Common.{◌≡◌, ◌<◌, ◌+◌, ◌∷◌, [], List, ℕ, length, true, sym, ap, ◌∙◌, inl, refl, subst, arith, rules, length-append}
use Rattle.vc_aut.specs.Links.{linked}
use Rattle.vc_aut.specs.Marks.{is_marked, marked_within, unmarked}
use Rattle.vc_model.specs.Lists.{In}
use Rattle.vc_model.specs.Members.{In-append_right}
use Rattle.vc_aut.proofs.Reached.{IsReaching, reaching_all, reaching_more}
use Rattle.vc_aut.proofs.links.reach.Goals as goal

pub follow-requires-clause-state : goal.follow-requires-clause-state
follow-requires-clause-state g c =
    let s = c.in-Some.state in
    let m : is_marked c.states.marks s ≡ true = c.states.invariant.waiting s (subst (λ (xs : List ℕ). In s xs) (sym c.in-Some.ensures.items) (In-append_right s c.pop.new.self.items (s ∷ []) (inl refl))) in
    subst (λ n. s < n) (c.states.invariant.same ∙ c.requires.count) (marked_within c.states.marks s m)

pub follow-requires-clause-count : goal.follow-requires-clause-count
follow-requires-clause-count g c = c.states.invariant.same ∙ c.requires.count

pub states-smaller : goal.states-smaller
states-smaller g c =
    let n : length c.states.waiting.items ≡ length c.pop.new.self.items + 1 = ap (λ (xs : List ℕ). length xs) c.in-Some.ensures.items ∙ length-append c.pop.new.self.items (c.in-Some.state ∷ []) in
    let k : unmarked c.follow.new.marks + length c.follow.new.waiting.items ≡ unmarked c.states.marks + length c.pop.new.self.items = c.in_ok-follow.ensures.count in
    let e : unmarked c.follow.new.marks + length c.follow.new.waiting.items < unmarked c.states.marks + length c.states.waiting.items = omega arith in
    e

pub states-preserved : goal.states-preserved
states-preserved g c =
    reaching_more (linked c.args.back c.args.aut.now.automaton.transitions) c.args.marks.now c.states.marks c.states.waiting.items c.pop.new.self.items c.in-Some.state c.follow.new.marks c.follow.new.waiting.items c.states.invariant c.in-Some.ensures.items
    c.in_ok-follow.ensures

pub returns-clause-reached : goal.returns-clause-reached
returns-clause-reached g c =
    let next = linked c.args.back c.args.aut.now.automaton.transitions in
    let e : c.states.waiting.items ≡ [] = search rules in
    reaching_all next c.args.marks.now c.states.marks (subst (λ (xs : List ℕ). IsReaching next c.args.marks.now c.states.marks xs) e c.states.invariant)
