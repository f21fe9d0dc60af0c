use Rattle.std.proofs.Common.{rules, refl, ◌≡◌, ◌<◌, ◌≤◌, ap, sym, subst, length, arith, suc}
use Rattle.vc_ring.specs.declared.faults.MakeFault.TheVariants.{Limit as PastLimit}
use Rattle.vc_standard.specs.Refusals.{limit_of_states}
use Rattle.vc_expr.specs.Names.{tree_of}
use Rattle.vc_terms.specs.Terms.{bound_of, HasTapes}
use Rattle.vc_standard.specs.Structures.{size_of, standard_of}
use Rattle.vc_standard.proofs.EmitLaws.{built_atoms}
use Rattle.vc_standard.proofs.StandardLaws.{tapes_of, made_refusal, not_states, below_limit, past_limit}
use Rattle.vc_standard.proofs.automaton.standard.Goals as goal

pub returns-in-Ok-clause-size : goal.returns-in-Ok-clause-size
returns-in-Ok-clause-size g c =
    let R = g.S.Semiring.set in
    let eq = g.S.Value.PartialEq.eq in
    let t = tree_of c.args.exprs.now c.args.e in
    let a : c.in-Ok.aut.automaton.states ≡ suc (size_of (standard_of R eq t)) = c.in-Ok.ensures.automaton.states in
    let b = c.structures_have_their_size.ensures R eq t in
    omega (arith, a, b)

pub returns-in-Ok-clause-series : goal.returns-in-Ok-clause-series
returns-in-Ok-clause-series g c w l =
    let R = g.S.Semiring.set in
    let eq = g.S.Value.PartialEq.eq in
    let t = tree_of c.args.exprs.now c.args.e in
    let sets = g.L.LabelSet.sets c.args.labels in
    let j = c.stores_are_valid.ensures.joined c.args.e c.args.labels c.requires.e in
    let tapes : HasTapes (length sets) t = tapes_of sets (c.words_are_over_sets.ensures.tapes sets) t c.requires.labels (built_atoms R eq t (c.stores_are_valid.ensures.built c.args.e c.requires.e)) j in
    let same : length c.in-Ok.aut.sets ≡ length sets = ap length c.in-Ok.ensures.sets in
    c.standard_automata_have_their_series.ensures.series R g.met.S.Semiring.laws eq g.met.S.Semiring.same (length sets) t tapes j c.in-Ok.aut.automaton (rw (sym same) c.proper_automata_are_proper.ensures.automaton) c.proper_automata_are_proper.ensures.proper c.in-Ok.ensures.automaton w l

pub returns-in-Ok-clause-start : goal.returns-in-Ok-clause-start
returns-in-Ok-clause-start g c =
    c.standard_automata_have_their_series.ensures.start g.S.Semiring.set g.met.S.Semiring.laws _ c.in-Ok.aut.automaton c.in-Ok.ensures.automaton

pub returns-in-Err-clause-refusal : goal.returns-in-Err-clause-refusal
returns-in-Err-clause-refusal g c =
    made_refusal g.S.Semiring.set g.S.Value.PartialEq.eq c.args.limit (tree_of c.args.exprs.now c.args.e) c.in-Err.fault c.in-Err.ensures.fault

pub returns-then-bound-limit-clause-states : goal.returns-then-bound-limit-clause-states
returns-then-bound-limit-clause-states g c =
    let far : c.args.limit ≤ c.bound.result = search rules in
    (λ _. past_limit (bound_of (tree_of c.args.exprs.now c.args.e)) c.args.limit (subst (λ n. c.args.limit ≤ n) c.bound.ensures far), λ _. refl)

pub returns-in-Ok-clause-states : goal.returns-in-Ok-clause-states
returns-in-Ok-clause-states g c =
    let near : c.bound.result < c.args.limit = search rules in
    let less = below_limit (bound_of (tree_of c.args.exprs.now c.args.e)) c.args.limit c.requires.few (subst (λ n. n < c.args.limit) c.bound.ensures near) in
    (λ e. absurd (cc), λ h. absurd (omega (arith, h, less)))

pub returns-in-Err-clause-states : goal.returns-in-Err-clause-states
returns-in-Err-clause-states g c =
    let R = g.S.Semiring.set in
    let eq = g.S.Value.PartialEq.eq in
    let t = tree_of c.args.exprs.now c.args.e in
    let near : c.bound.result < c.args.limit = search rules in
    let less = below_limit (bound_of t) c.args.limit c.requires.few (subst (λ n. n < c.args.limit) c.bound.ensures near) in
    (λ e. let is : c.in-Err.fault ≡ PastLimit (limit_of_states c.args.limit) = cc in absurd (not_states R eq c.args.limit t c.in-Err.fault c.in-Err.ensures.fault is), λ h. absurd (omega (arith, h, less)))

pub make-requires-clause-few : goal.make-requires-clause-few
make-requires-clause-few g c =
    let few = c.requires.few in
    let near : c.bound.result < c.args.limit = search rules in
    let less = below_limit (bound_of (tree_of c.args.exprs.now c.args.e)) c.args.limit few (subst (λ n. n < c.args.limit) c.bound.ensures near) in
    omega (arith, less, few)
