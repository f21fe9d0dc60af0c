use Rattle.std.proofs.Common.{◌≡◌, ◌∙◌, ◌<◌, ◌≤◌, ◌+◌, ◌++◌, ◌∷◌, [], List, ℕ, length, refl, replicate, set, take, sym, ap, subst, arith, rules}
use Rattle.std.proofs.lemmas.Bool.{false≢true}
use Rattle.std.proofs.lemmas.List.{get_or_read, length-map, length_push, take_all}
use Rattle.vc_model.specs.Automata.{Transition}
use Rattle.vc_aut.specs.Links.{AreLinks}
use Rattle.vc_aut.specs.Stored.{transition_of}
use Rattle.vc_aut.proofs.Chained.{links_more, links_none}
use Rattle.vc_aut.proofs.Reached.{read_member, read_more}
use Rattle.vc_aut.proofs.links.make_links.Goals as goal

pub returns-then-not-back : goal.returns-then-not-back
returns-then-not-back g c b = absurd (false≢true (sym c.if-not-back.true ∙ b))

pub loop-transition-init : goal.loop-transition-init
loop-transition-init g c =
    let e : c.in_ok-last.last.items ≡ replicate c.states.result 0 = search rules in
    let f : c.in_ok-before.before.items ≡ [] = search rules in
    let A = c.args.aut.now.automaton in
    links_none (take 0 A.transitions) A.states c.in_ok-last.last.items c.in_ok-before.before.items refl (e ∙ ap (λ n. replicate n 0) c.states.ensures) f

pub index-link-requires : goal.index-link-requires
index-link-requires g c =
    let of = transition_of {L = g.row.L.Denot} {S = g.row.S.Denot} {V = g.row.S-Value.Denot} g.L.LabelSet.parts in
    let A = c.args.aut.now.automaton in
    let t = c.transition-item.result in
    let m = read_member of c.transitions-transition-items.result.now A.transitions c.transitions-transition-items.ensures c.loop-transition.transition-index t c.loop-transition-test.true c.transition-item.is in
    let l : t.to < length c.loop-transition.last.items = subst (λ k. t.to < k) (sym c.loop-transition.invariant.states) (c.automata_are_valid.ensures.automaton.to (of t) m) in
    subst (λ n. t.to < n) (search rules) l

pub index_mut-requires : goal.index_mut-requires
index_mut-requires g c =
    let of = transition_of {L = g.row.L.Denot} {S = g.row.S.Denot} {V = g.row.S-Value.Denot} g.L.LabelSet.parts in
    let A = c.args.aut.now.automaton in
    let t = c.transition-item.result in
    let m = read_member of c.transitions-transition-items.result.now A.transitions c.transitions-transition-items.ensures c.loop-transition.transition-index t c.loop-transition-test.true c.transition-item.is in
    let l : t.to < length c.loop-transition.last.items = subst (λ k. t.to < k) (sym c.loop-transition.invariant.states) (c.automata_are_valid.ensures.automaton.to (of t) m) in
    subst (λ n. t.to < n) (search rules) l

pub loop-transition-preserved : goal.loop-transition-preserved
loop-transition-preserved g c =
    let of = transition_of {L = g.row.L.Denot} {S = g.row.S.Denot} {V = g.row.S-Value.Denot} g.L.LabelSet.parts in
    let A = c.args.aut.now.automaton in
    let t = c.transition-item.result in
    let i = c.loop-transition.transition-index in
    let old = c.loop-transition.last.items in
    let before = c.loop-transition.before.items in
    let x = c.index-link.result.now in
    let m = read_member of c.transitions-transition-items.result.now A.transitions c.transitions-transition-items.ensures i t c.loop-transition-test.true c.transition-item.is in
    let more = read_more of c.transitions-transition-items.result.now A.transitions c.transitions-transition-items.ensures i t c.loop-transition-test.true c.transition-item.is in
    let l : t.to < A.states = c.automata_are_valid.ensures.automaton.to (of t) m in
    let inside : t.to < length old = subst (λ k. t.to < k) (sym c.loop-transition.invariant.states) l in
    let n : c.len.result ≡ length c.push.new.self.items = search rules in
    let is : c.len.result ≡ length (take i A.transitions) + 1 = n ∙ ap (λ (xs : List ℕ). length xs) c.in_ok-push.ensures.items ∙ length_push before x ∙ ap (λ k. k + 1) c.loop-transition.invariant.count in
    subst (λ (us : List (Transition g.row.S-Value.Denot)). AreLinks us A.states (set old t.to c.len.result) c.push.new.self.items) (sym more)
    (subst (λ (bs : List ℕ). AreLinks (take i A.transitions ++ of t ∷ []) A.states (set old t.to c.len.result) bs) (sym c.in_ok-push.ensures.items)
    (links_more (take i A.transitions) (of t) A.states old before x c.len.result c.loop-transition.invariant l (get_or_read old t.to x inside c.index-link.ensures) is))

pub returns : goal.returns
returns g c b =
    let of = transition_of {L = g.row.L.Denot} {S = g.row.S.Denot} {V = g.row.S-Value.Denot} g.L.LabelSet.parts in
    let A = c.args.aut.now.automaton in
    let i = c.loop-transition.transition-index in
    let s = c.transitions-transition-items.result.now in
    let l : length s ≤ i = c.loop-transition-test.false in
    let e : length A.transitions ≤ i = subst (λ (us : List (Transition g.row.S-Value.Denot)). length us ≤ i) c.transitions-transition-items.ensures (omega (arith, length-map s of)) in
    subst (λ (us : List (Transition g.row.S-Value.Denot)). AreLinks us A.states c.loop-transition.last.items c.loop-transition.before.items) (take_all i A.transitions e) c.loop-transition.invariant
