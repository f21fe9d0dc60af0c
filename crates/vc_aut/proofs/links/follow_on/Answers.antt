use Rattle.std.proofs.Common.{◌≡◌, ◌∙◌, ◌<◌, ◌+◌, ◌++◌, ◌∷◌, [], List, ℕ, map, false, take, refl, sym, ap, subst}
use Rattle.std.proofs.lemmas.List.{map-append, take-map, take_all}
use Rattle.vc_model.specs.Automata.{Transition}
use Rattle.vc_model.specs.Members.{In-map}
use Rattle.vc_aut.specs.Links.{IsFollowed, far}
use Rattle.vc_aut.specs.Stored.{transition_of}
use Rattle.vc_aut.proofs.Chained.{followed_push}
use Rattle.vc_aut.proofs.Reached.{followed_none, read_member, read_more}
use Rattle.vc_aut.proofs.links.follow_on.Goals as goal

pub loop-transition-init : goal.loop-transition-init
loop-transition-init g c = followed_none c.args.marks.now c.args.waiting.now.items

pub visit-requires : goal.visit-requires
visit-requires g c =
    let of = transition_of {L = g.row.L.Denot} {S = g.row.S.Denot} {V = g.row.S-Value.Denot} g.L.LabelSet.parts in
    let ts = c.args.transitions.now in
    let t = c.transition-item.result in
    let m = read_member of ts (map of ts) refl c.loop-transition.transition-index t c.loop-transition-test.true c.transition-item.is in
    subst (λ n. t.to < n) (sym c.loop-transition.invariant.same) (c.requires t.to (In-map (far false) (of t) (map of ts) m))

pub loop-transition-preserved : goal.loop-transition-preserved
loop-transition-preserved g c =
    let of = transition_of {L = g.row.L.Denot} {S = g.row.S.Denot} {V = g.row.S-Value.Denot} g.L.LabelSet.parts in
    let ts = c.args.transitions.now in
    let t = c.transition-item.result in
    let i = c.loop-transition.transition-index in
    let more : take (i + 1) (map of ts) ≡ take i (map of ts) ++ of t ∷ [] = read_more of ts (map of ts) refl i t c.loop-transition-test.true c.transition-item.is in
    let front : map of (take (i + 1) ts) ≡ map of (take i ts) ++ of t ∷ [] = sym (take-map of (i + 1) ts) ∙ more ∙ ap (λ (us : List (Transition g.row.S-Value.Denot)). us ++ of t ∷ []) (take-map of i ts) in
    let e : map (far false) (map of (take (i + 1) ts)) ≡ map (far false) (map of (take i ts)) ++ t.to ∷ [] = ap (map (far false)) front ∙ map-append (far false) (map of (take i ts)) (of t ∷ []) in
    subst (λ (xs : List ℕ). IsFollowed xs c.args.marks.now c.args.waiting.now.items c.visit.new.marks c.visit.new.waiting.items) (sym e)
    (followed_push (map (far false) (map of (take i ts))) t.to c.args.marks.now c.args.waiting.now.items c.loop-transition.marks c.loop-transition.waiting.items c.visit.new.marks c.visit.new.waiting.items c.loop-transition.invariant c.in_ok-visit.ensures)

pub returns : goal.returns
returns g c =
    let of = transition_of {L = g.row.L.Denot} {S = g.row.S.Denot} {V = g.row.S-Value.Denot} g.L.LabelSet.parts in
    let ts = c.args.transitions.now in
    subst (λ (us : List (Transition g.row.S-Value.Denot)). IsFollowed (map (far false) us) c.args.marks.now c.args.waiting.now.items c.loop-transition.marks c.loop-transition.waiting.items)
    (ap (map of) (take_all c.loop-transition.transition-index ts c.loop-transition-test.false)) c.loop-transition.invariant
