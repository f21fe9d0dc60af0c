use Rattle.std.proofs.Common.{rules, ◌≡◌, ◌∙◌, ◌<◌, ◌+◌, ℕ, List, Bool, IsNone, true, sym, subst, below_more}
use Rattle.std.proofs.lemmas.List.{with_items_is}
use Rattle.std.specs.Vec.{with_items}
use Rattle.vc_closure.specs.Searches.{AreLeft, IsSearched, is_marked}
use Rattle.vc_closure.proofs.search.search_circuit.Goals as goal

pub loop-root-preserved : goal.loop-root-preserved
loop-root-preserved g c =
    let A = c.args.aut.now.automaton in
    let K = c.args.tapes.now in
    let seen = with_items_is c.loop-root.seen c.visit.new.seen (c.visit.auto.seen ∙ c.deref_mut.ensures.len) in
    let done = with_items_is c.loop-root.done c.visit.new.done (c.visit.auto.done ∙ c.deref_mut-in-loop-root.ensures.len) in
    let none : IsNone c.in_ok-found.found = search rules in
    let searched : IsSearched A K c.visit.new.seen c.visit.new.done c.visit.new.order.items = c.in_ok-found.ensures.searched none in
    let left : AreLeft c.visit.new.seen c.visit.new.done = c.in_ok-found.ensures.left none in
    let kept : (q : ℕ) → is_marked c.loop-root.seen.items q ≡ true → is_marked c.visit.new.seen q ≡ true = search rules in
    let root : is_marked c.visit.new.seen c.loop-root.root ≡ true = c.in_ok-found.ensures.root in
    let before : (q : ℕ) → q < c.loop-root.root + 1 → is_marked c.visit.new.seen q ≡ true = below_more (λ q. is_marked c.visit.new.seen q ≡ true) c.loop-root.root (λ q l. kept q (c.loop-root.invariant.before q l)) root in
    record {
      searched = subst (λ (xs : List Bool). IsSearched A K (with_items c.loop-root.seen c.visit.new.seen).items xs c.visit.new.order.items) (sym done) (subst (λ (xs : List Bool). IsSearched A K xs c.visit.new.done c.visit.new.order.items) (sym seen) searched);
      left = subst (λ (xs : List Bool). AreLeft (with_items c.loop-root.seen c.visit.new.seen).items xs) (sym done) (subst (λ (xs : List Bool). AreLeft xs c.visit.new.done) (sym seen) left);
      before = subst (λ (xs : List Bool). (q : ℕ) → q < c.loop-root.root + 1 → is_marked xs q ≡ true) (sym seen) before;
    }
