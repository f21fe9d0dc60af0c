use Rattle.std.proofs.Common.{◌≡◌, ◌∙◌, ◌<◌, ◌≤◌, ◌-◌, ◌∷◌, [], List, ℕ, length, map, get_or, take, refl, sym, ap, subst, arith, rules}
use Rattle.std.proofs.lemmas.List.{length-map}
use Rattle.vc_model.specs.Automata.{Transition}
use Rattle.vc_aut.specs.Links.{IsFollowed, IsLink}
use Rattle.vc_aut.specs.Stored.{transition_of}
use Rattle.vc_aut.proofs.Chained.{going_all, going_first, going_less, going_more, read_at}
use Rattle.vc_aut.proofs.Reached.{followed_none, read_member}
use Rattle.vc_aut.proofs.links.follow_back.Goals as goal

pub index-link-requires : goal.index-link-requires
index-link-requires g c =
    let l : c.args.state < length c.args.links.now.last.items = subst (λ n. c.args.state < n) (sym c.requires.links.states) c.requires.state in
    search (rules, l)

pub chain-init : goal.chain-init
chain-init g c =
    let A = c.args.aut.now.automaton in
    let x = c.index-link.result.now in
    going_first A.transitions c.args.state x c.args.marks.now c.args.waiting.now.items
    (subst (λ k. IsLink A.transitions c.args.state k) (sym c.index-link.ensures) (c.requires.links.ends c.args.state x c.requires.state))
    (followed_none c.args.marks.now c.args.waiting.now.items)

pub index-next-requires : goal.index-next-requires
index-next-requires g c =
    let w : c.chain.link ≤ length c.args.aut.now.automaton.transitions = c.chain.invariant.within in
    let n : length c.args.links.now.before.items ≡ length c.args.aut.now.automaton.transitions = c.requires.links.count in
    let l : c.chain.link - 1 < length c.args.links.now.before.items = omega arith in
    search (rules, l)

pub bounds-transitions-at : goal.bounds-transitions-at
bounds-transitions-at g c =
    let of = transition_of {L = g.row.L.Denot} {S = g.row.S.Denot} {V = g.row.S-Value.Denot} g.L.LabelSet.parts in
    let s = c.transitions-transitions.result.now in
    let w : c.chain.link ≤ length c.args.aut.now.automaton.transitions = c.chain.invariant.within in
    let n : length (map of s) ≡ length c.args.aut.now.automaton.transitions = ap (λ (us : List (Transition g.row.S-Value.Denot)). length us) c.transitions-transitions.ensures in
    omega (arith, length-map s of)

pub visit-requires : goal.visit-requires
visit-requires g c =
    let of = transition_of {L = g.row.L.Denot} {S = g.row.S.Denot} {V = g.row.S-Value.Denot} g.L.LabelSet.parts in
    let A = c.args.aut.now.automaton in
    let s = c.transitions-transitions.result.now in
    let t = c.index-transitions-at.result in
    let w : c.chain.link ≤ length A.transitions = c.chain.invariant.within in
    let n : length (map of s) ≡ length A.transitions = ap (λ (us : List (Transition g.row.S-Value.Denot)). length us) c.transitions-transitions.ensures in
    let l : c.chain.link - 1 < length s = omega (arith, length-map s of) in
    let m = read_member of s A.transitions c.transitions-transitions.ensures (c.chain.link - 1) t l c.index-transitions-at.is in
    let inside : (of t).from < length c.chain.marks = subst (λ n. t.from < n) (sym (c.chain.invariant.done.same ∙ c.requires.count)) (c.automata_are_valid.ensures.automaton.from (of t) m) in
    subst (λ k. k < length c.chain.marks) (ap (λ y. (of y).from) c.index-transitions-at.is) inside

pub chain-smaller : goal.chain-smaller
chain-smaller g c =
    let A = c.args.aut.now.automaton in
    let at = c.chain.link - 1 in
    let x = c.index-next.result.now in
    let w : c.chain.link ≤ length A.transitions = c.chain.invariant.within in
    let of = transition_of {L = g.row.L.Denot} {S = g.row.S.Denot} {V = g.row.S-Value.Denot} g.L.LabelSet.parts in
    let t = of c.index-transitions-at.result in
    let k : IsLink (take at A.transitions) (get_or A.transitions at t).to (get_or c.args.links.now.before.items at x) = c.requires.links.steps at x t (omega arith) in
    going_less A.transitions c.args.state c.chain.link at x c.args.marks.now c.args.waiting.now.items c.chain.marks c.chain.waiting.items (get_or A.transitions at t).to c.chain.invariant c.chain-test.true refl
    (subst (λ j. IsLink (take at A.transitions) (get_or A.transitions at t).to j) (sym c.index-next.ensures) k)

pub chain-preserved : goal.chain-preserved
chain-preserved g c =
    let of = transition_of {L = g.row.L.Denot} {S = g.row.S.Denot} {V = g.row.S-Value.Denot} g.L.LabelSet.parts in
    let A = c.args.aut.now.automaton in
    let s = c.transitions-transitions.result.now in
    let at = c.chain.link - 1 in
    let x = c.index-next.result.now in
    let t = c.index-transitions-at.result in
    let w : c.chain.link ≤ length A.transitions = c.chain.invariant.within in
    let n : length (map of s) ≡ length A.transitions = ap (λ (us : List (Transition g.row.S-Value.Denot)). length us) c.transitions-transitions.ensures in
    let l : at < length s = omega (arith, length-map s of) in
    let read = read_at of s A.transitions c.transitions-transitions.ensures at t l c.index-transitions-at.is in
    let k : IsLink (take at A.transitions) (get_or A.transitions at (of t)).to (get_or c.args.links.now.before.items at x) = c.requires.links.steps at x (of t) (omega arith) in
    going_more A.transitions c.args.state c.chain.link at x (of t) c.args.marks.now c.args.waiting.now.items c.chain.marks c.chain.waiting.items c.visit.new.marks c.visit.new.waiting.items
    c.chain.invariant c.chain-test.true refl read
    (subst (λ (q : ℕ). IsFollowed (q ∷ []) c.chain.marks c.chain.waiting.items c.visit.new.marks c.visit.new.waiting.items) (sym (ap (λ y. (of y).from) c.index-transitions-at.is)) c.in_ok-visit.ensures)
    (subst (λ j. IsLink (take at A.transitions) (of t).to j) (sym c.index-next.ensures)
    (subst (λ (u : Transition g.row.S-Value.Denot). IsLink (take at A.transitions) u.to (get_or c.args.links.now.before.items at x)) (sym (read (of t))) k))

pub returns : goal.returns
returns g c =
    going_all c.args.aut.now.automaton.transitions c.args.state c.chain.link c.args.marks.now c.args.waiting.now.items c.chain.marks c.chain.waiting.items (omega arith) c.chain.invariant
