use Rattle.std.proofs.Common.{◌≡◌, ◌≤◌, [], ap, arith, length, map, refl, subst, sym, ◌∙◌}
use Rattle.std.proofs.lemmas.List.{length-map}
use Rattle.vc_aut.specs.Drafts.{without_zeros}
use Rattle.vc_aut.specs.Stored.{transition_of}
use Rattle.vc_aut.specs.Sums.{insert_all}
use Rattle.vc_aut.specs.Validity.{IsMove}
use Rattle.vc_model.specs.Automata.{triple}
use Rattle.vc_model.specs.Gathered.{IsGathered}
use Rattle.vc_model.specs.Lists.{In, NoRepeat}
use Rattle.vc_search.specs.Explored.{AreNumbered, IsExplored, next_by}
use Rattle.vc_search.proofs.Built.{all_of, explored, followed_once, no_empty_label, unweighed}
use Rattle.vc_search.proofs.Sums.{sum_refusal}
use Rattle.vc_search.proofs.explored.explore.Goals as goal

pub weights_of-requires : goal.weights_of-requires
weights_of-requires g c k i = c.in-Ok.ensures.followed.members k (subst (In k) (ap (λ z. z.members) c.finish-search.ensures.search) i)

pub returns-in-Err-weights_of-clause-fault : goal.returns-in-Err-weights_of-clause-fault
returns-in-Err-weights_of-clause-fault g c =
    let M = g.M.Moves in
    let m = c.args.moves.now in
    let eq = g.M.Key.PartialEq.eq in
    let e = c.in-Ok.exploration in
    unweighed g.S.Semiring.set (M.items m) (M.first m) (M.is_step m) c.args.most c.finish-search.result.0.members
    (λ x i. (c.members_are_numbered.ensures.accessible eq g.met.M.Moves.same (next_by (M.items m)) (M.first m) e.members c.in-Ok.ensures.followed.numbering x).0 (subst (In x) (ap (λ z. z.members) c.finish-search.ensures.search) i))
    c.in-Err-weights_of.fault c.in-Err-weights_of.ensures.fault

pub from_transitions-requires-clause-states : goal.from_transitions-requires-clause-states
from_transitions-requires-clause-states g c =
    let a = ap length c.in-Ok-weights_of.ensures.initial in
    let b = length-map c.finish-search.result.0.members (g.M.Moves.initial c.args.moves.now) in
    let d = ap (λ z. length z.members) c.finish-search.ensures.search in
    let e = c.member.ensures.few in
    let f = c.member.ensures.most in
    omega (arith, a, b, d, e, f)

pub from_transitions-requires-clause-same_length : goal.from_transitions-requires-clause-same_length
from_transitions-requires-clause-same_length g c =
    let M = g.M.Moves in
    let m = c.args.moves.now in
    let ks = c.finish-search.result.0.members in
    let a = ap length c.in-Ok-weights_of.ensures.initial in
    let b = ap length c.in-Ok-weights_of.ensures.last in
    omega (arith, a, b, length-map ks (M.initial m), length-map ks (M.last m))

pub from_transitions-requires-clause-moves : goal.from_transitions-requires-clause-moves
from_transitions-requires-clause-moves g c =
    let R = g.S.Semiring.set in
    let T = transition_of g.L.LabelSet.parts in
    let ks = c.finish-search.result.0.members in
    let e = c.in-Ok.exploration in
    let n : length e.members ≡ length c.in-Ok-weights_of.weights.0.items
    = ap (λ z. length z.members) (sym c.finish-search.ensures.search) ∙ sym (length-map ks (g.M.Moves.initial c.args.moves.now)) ∙ sym (ap length c.in-Ok-weights_of.ensures.initial) in
    all_of (IsMove R (g.L.LabelSet.sets c.args.labels) (length c.in-Ok-weights_of.weights.0.items)) (map T c.finish-search.result.1.items)
    (λ t i. subst (λ k. IsMove R (g.L.LabelSet.sets c.args.labels) k t) n (subst (λ s. IsMove R s (length e.members) t) c.in-Ok.ensures.sets (c.finish-search.ensures.course.moves t (subst (In t) c.finish-search.ensures.transitions i))))

pub returns-in-Err-from_transitions-clause-fault : goal.returns-in-Err-from_transitions-clause-fault
returns-in-Err-from_transitions-clause-fault g c =
    let R = g.S.Semiring.set in
    let M = g.M.Moves in
    let m = c.args.moves.now in
    let eq = g.M.Key.PartialEq.eq in
    let T = transition_of g.L.LabelSet.parts in
    let e = c.in-Ok.exploration in
    let once = followed_once R eq g.met.M.Moves.same M.past (M.first m) (M.items m) (M.is_member m) e c.in-Ok.ensures.followed
    (c.members_are_numbered.ensures.closed eq g.met.M.Moves.same (next_by (M.items m)) (M.first m) e.members c.in-Ok.ensures.followed.numbering) in
    sum_refusal R (c.transitions_are_added.ensures.triples R) c.transitions_are_added.ensures.standing (c.transitions_are_added.ensures.order R) (M.items m) (M.first m) (M.is_step m) c.args.most
    (map T c.finish-search.result.1.items) (c.drafts_are_sums.ensures.order R [])
    (subst (λ ts. NoRepeat (map triple ts)) (sym c.finish-search.ensures.transitions) once)
    (subst (λ ts. length ts ≤ 4000000) (sym c.finish-search.ensures.transitions) c.finish-search.ensures.course.few)
    c.in-Err-from_transitions.fault c.in-Err-from_transitions.ensures.answer

pub unreachable-requires : goal.unreachable-requires
unreachable-requires g c =
    let R = g.S.Semiring.set in
    let T = transition_of g.L.LabelSet.parts in
    no_empty_label R g.S.Value.PartialEq.eq (c.transitions_are_added.ensures.triples R) (map T c.finish-search.result.1.items)
    (λ t i. c.finish-search.ensures.course.labels t (subst (In t) c.finish-search.ensures.transitions i))
    c.in-Ok-from_transitions.automaton.automaton (ap (λ z. z.automaton.transitions) c.in-Ok-from_transitions.ensures.ok) (c.in-Err-into_proper.ensures.empty.0 refl)

pub returns-clause-explored : goal.returns-clause-explored
returns-clause-explored g c =
    let R = g.S.Semiring.set in
    let M = g.M.Moves in
    let m = c.args.moves.now in
    let eq = g.M.Key.PartialEq.eq in
    let T = transition_of g.L.LabelSet.parts in
    let e = c.in-Ok.exploration in
    let ks = ap (λ z. z.members) c.finish-search.ensures.search in
    let ts = c.finish-search.ensures.transitions in
    let same = g.S.Value.PartialEq.eq in
    subst (λ z. AreNumbered eq (next_by (M.items m)) (M.first m) c.args.most (λ members. IsExplored R eq M.past (M.items m) (M.initial m) (M.last m) members z.automaton)) (sym (c.in-Ok-into_proper.ensures.ok ∙ c.in-Ok-from_transitions.ensures.ok))
    (explored R eq g.met.M.Moves.same M.past (M.first m) (M.items m) (M.is_member m) e c.in-Ok.ensures.followed c.args.most c.in-Ok.ensures.most c.member.ensures.few (M.initial m) (M.last m)
    c.in-Ok-weights_of.weights.0.items c.in-Ok-weights_of.weights.1.items (without_zeros R same (insert_all R [] (map T c.finish-search.result.1.items)))
    (c.in-Ok-weights_of.ensures.initial ∙ ap (map (M.initial m)) ks) (c.in-Ok-weights_of.ensures.last ∙ ap (map (M.last m)) ks)
    (subst (λ us. IsGathered R us (without_zeros R same (insert_all R [] (map T c.finish-search.result.1.items)))) ts (c.drafts_are_sums.ensures.gathered R g.met.S.Semiring.laws same g.met.S.Semiring.same (map T c.finish-search.result.1.items))))
