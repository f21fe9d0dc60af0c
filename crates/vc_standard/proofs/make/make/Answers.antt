use Rattle.std.proofs.Common.{rules, refl, ◌≡◌, ◌<◌, ◌∙◌, ap, sym, subst, []}
use Rattle.vc_aut.specs.EmptyLabels.{HasEmptyLabel}
use Rattle.vc_aut.specs.Additions.{IsSumRefusal, additions}
use Rattle.vc_label.specs.Sets.{IsOverSets}
use Rattle.vc_expr.specs.Names.{tree_of}
use Rattle.vc_standard.specs.Automata.{IsStandardOf, leaving_all, states_of}
use Rattle.vc_standard.specs.Named.{NamesMore}
use Rattle.vc_standard.specs.Refusals.{IsFault}
use Rattle.vc_standard.specs.Steps.{IsStep}
use Rattle.vc_standard.specs.Structures.{size_of, standard_of}
use Rattle.vc_standard.specs.Within.{IsWithin}
use Rattle.vc_standard.proofs.EmitLaws.{made, made_is, no_empty, nothing_added, sum_fault}
use Rattle.vc_standard.proofs.Faults.{residual}
use Rattle.vc_standard.proofs.Sizes.{size-standard}
use Rattle.vc_standard.proofs.TripleLaws.{once-all, once-standard}
use Rattle.vc_standard.proofs.WithinLaws.{within-standard}
use Rattle.vc_standard.proofs.make.make.Goals as goal

pub automaton_of_shape-requires-clause-few : goal.automaton_of_shape-requires-clause-few
automaton_of_shape-requires-clause-few g c =
    let R = g.S.Semiring.set in
    let eq = g.S.Value.PartialEq.eq in
    let t = tree_of c.args.exprs.now c.args.e in
    subst (λ n. n < 1000000) (sym (ap size_of c.in_ok-shape.ensures.shape ∙ size-standard R eq t)) c.requires.few

pub automaton_of_shape-requires-clause-within : goal.automaton_of_shape-requires-clause-within
automaton_of_shape-requires-clause-within g c =
    let R = g.S.Semiring.set in
    let eq = g.S.Value.PartialEq.eq in
    let t = tree_of c.args.exprs.now c.args.e in
    let sets = g.L.LabelSet.sets c.args.labels in
    subst (λ A. IsWithin (λ a. IsOverSets sets a) A) (sym c.in_ok-shape.ensures.shape) (within-standard R eq (λ a. IsOverSets sets a) t c.requires.labels)

pub returns-in_err-aut-clause-fault : goal.returns-in_err-aut-clause-fault
returns-in_err-aut-clause-fault g c =
    let R = g.S.Semiring.set in
    let eq = g.S.Value.PartialEq.eq in
    let t = tree_of c.args.exprs.now c.args.e in
    let A = standard_of R eq t in
    let given = subst (λ B. IsSumRefusal R (leaving_all 0 (states_of B)) c.in_err-aut.field-0.0) c.in_ok-shape.ensures.shape c.in_err-aut.ensures.answer in
    let none : additions R [] (leaving_all 0 (states_of A)) ≡ [] =
    nothing_added R eq c.transitions_are_added.ensures.standing (c.transitions_are_added.ensures.triples R) (c.transitions_are_added.ensures.order R) [] (leaving_all 0 (states_of A)) (c.drafts_are_sums.ensures.order R []) (once-all 0 (states_of A) (once-standard R eq t)) (λ d i j. absurd i) in
    residual _ c.in_err-aut.field-0.0 (λ f. IsFault R (IsStep R eq t) (NamesMore R eq 4000000 t) f) c.from_residual-in_err-aut.ensures.1 (sum_fault R eq t none c.in_err-aut.field-0.0 given)

pub unreachable-requires : goal.unreachable-requires
unreachable-requires g c =
    let R = g.S.Semiring.set in
    let eq = g.S.Value.PartialEq.eq in
    let L = g.met.S.Semiring.laws in
    let t = tree_of c.args.exprs.now c.args.e in
    let sets = g.L.LabelSet.sets c.args.labels in
    let whole : c.in_ok-aut.aut ≡ made R eq sets (standard_of R eq t) = c.in_ok-aut.ensures.ok ∙ ap (made R eq sets) c.in_ok-shape.ensures.shape in
    let empty : HasEmptyLabel c.in_ok-aut.aut.automaton = c.in-Err.ensures.empty.0 refl in
    no_empty R eq sets t (c.stores_are_valid.ensures.built c.args.e c.requires.e)
    (λ u i. c.transitions_are_gathered.ensures.sources R L (leaving_all 0 (states_of (standard_of R eq t))) (made R eq sets (standard_of R eq t)).automaton.transitions (c.drafts_are_sums.ensures.gathered R L eq g.met.S.Semiring.same (leaving_all 0 (states_of (standard_of R eq t)))) u i)
    (subst (λ B. HasEmptyLabel B.automaton) whole empty)

pub returns-in-Ok-clause-sets : goal.returns-in-Ok-clause-sets
returns-in-Ok-clause-sets g c =
    let same : c.in-Ok.proper ≡ c.in_ok-aut.aut = search rules in
    ap (λ B. B.sets) (same ∙ c.in_ok-aut.ensures.ok)

pub returns-in-Ok-clause-automaton : goal.returns-in-Ok-clause-automaton
returns-in-Ok-clause-automaton g c =
    let R = g.S.Semiring.set in
    let eq = g.S.Value.PartialEq.eq in
    let t = tree_of c.args.exprs.now c.args.e in
    let sets = g.L.LabelSet.sets c.args.labels in
    let same : c.in-Ok.proper ≡ c.in_ok-aut.aut = search rules in
    let whole : c.in-Ok.proper ≡ made R eq sets (standard_of R eq t) = same ∙ c.in_ok-aut.ensures.ok ∙ ap (made R eq sets) c.in_ok-shape.ensures.shape in
    subst (λ B. IsStandardOf R (standard_of R eq t) B.automaton) (sym whole) (made_is R eq sets (standard_of R eq t) (c.drafts_are_sums.ensures.gathered R g.met.S.Semiring.laws eq g.met.S.Semiring.same (leaving_all 0 (states_of (standard_of R eq t)))))
