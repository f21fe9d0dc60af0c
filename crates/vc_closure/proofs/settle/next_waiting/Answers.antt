use Rattle.std.proofs.Common.{rules, ◌≡◌, ◌<◌, ◌∷◌, List, ℕ, inl, length, refl, sym, subst, false}
use Rattle.vc_closure.proofs.Settling.{one_waits_less}
use Rattle.vc_model.specs.Lists.{In}
use Rattle.vc_closure.proofs.settle.next_waiting.Goals as goal

pub index_mut-requires : goal.index_mut-requires
index_mut-requires c =
    let s = c.in_ok-state.state in
    let is : c.args.waiting.now.queue.items ≡ s ∷ c.pop_front.new.self.items = c.in_ok-state.ensures.items in
    let l : s < length c.args.waiting.now.marks.items = c.requires.inside s (subst (λ (qs : List ℕ). In s qs) (sym is) (inl refl)) in
    search (rules, l)

pub returns-clause-state : goal.returns-clause-state
returns-clause-state c =
    let s = c.in_ok-state.state in
    let is : c.args.waiting.now.queue.items ≡ s ∷ c.pop_front.new.self.items = c.in_ok-state.ensures.items in
    c.requires.inside s (subst (λ (qs : List ℕ). In s qs) (sym is) (inl refl))

pub returns-clause-waiting : goal.returns-clause-waiting
returns-clause-waiting c =
    one_waits_less c.args.waiting.now.queue.items c.pop_front.new.self.items c.args.waiting.now.marks.items c.in_ok-state.state false c.in_ok-state.ensures.items c.requires
