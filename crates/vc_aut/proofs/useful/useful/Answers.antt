use Rattle.std.proofs.Common.{◌≡◌, ℕ, List, Bool, true, false, length, subst}
use Rattle.std.specs.Prelude.{◌↔◌}
use Rattle.std.proofs.lemmas.Result.{IfOk-weaker}
use Rattle.vc_aut.specs.Links.{IsReached, linked}
use Rattle.vc_aut.specs.Marks.{is_marked}
use Rattle.vc_aut.specs.Kept.{AreKept}
use Rattle.vc_aut.proofs.Trimmed.{all_useful, weighty}
use Rattle.vc_aut.proofs.useful.useful.Goals as goal

pub returns : goal.returns
returns g c =
    let V = g.row.S-Value.Denot in
    let R = g.S.Semiring.set in
    let A = c.args.aut.now.automaton in
    let same : V → V → Bool = g.S.Value.PartialEq.eq in
    let test = g.met.S.Semiring.same in
    let x = c.in_ok-from_initial.from_initial.items in
    let y = c.in_ok-to_final.to_final.items in
    let r : (q : ℕ) → (is_marked x q ≡ true) ↔ IsReached (linked false A.transitions) (weighty R same test A.initial) q = λ q. subst (λ (ws : List V). (is_marked x q ≡ true) ↔ IsReached (linked false A.transitions) (weighty R same test ws) q) c.initial_weights.ensures (c.in_ok-from_initial.ensures.reached q) in
    let u : (q : ℕ) → (is_marked y q ≡ true) ↔ IsReached (linked true A.transitions) (weighty R same test A.final) q = λ q. subst (λ (ws : List V). (is_marked y q ≡ true) ↔ IsReached (linked true A.transitions) (weighty R same test ws) q) c.final_weights.ensures (c.in_ok-to_final.ensures.reached q) in
    IfOk-weaker c.keep_states.result _ _ (λ kept h.
    all_useful R same test A x y r u kept.states.items kept.places.items
    (subst (λ k. AreKept x y k kept.states.items kept.places.items) c.in_ok-from_initial.ensures.count
    (subst (λ (ms : List Bool). AreKept x ms (length x) kept.states.items kept.places.items) c.deref-2.ensures.value
    (subst (λ (ms : List Bool). AreKept ms c.deref-2.result.now (length ms) kept.states.items kept.places.items) c.deref.ensures.value h)))) c.keep_states.ensures
