use Rattle.std.proofs.Common.{◌∷◌, ◌∙◌, arith}
use Rattle.std.specs.Prelude.{slice_index_or}
use Rattle.vc_terms.specs.Terms.{Zero, HasTapes, coefficient_of, constant_of}
use Rattle.vc_model.specs.Machines.{machine}
use Rattle.vc_terms.specs.DerivedTerms.{derived_of}
use Rattle.vc_terms.specs.Expansions.{expand, JoinsLetters}
use Rattle.vc_terms.specs.Same.{same_term}
use Rattle.vc_terms.proofs.Places.{at_place, of_all}
use Rattle.vc_terms.proofs.derived.term_automata_have_their_terms.Goals as goal

pub returns-clause-futures : goal.returns-clause-futures
returns-clause-futures g c R L equal Q tapes B A P state S h j i w l e =
    c.things_have_their_series.ensures.future R L tapes B A P state (constant_of R) (expand R equal) S (coefficient_of R) (λ k m. c.expansions_give_coefficients.ensures.given R L equal Q tapes (state k) (h k m) (j k m)) i w l e

pub returns-clause-closed : goal.returns-clause-closed
returns-clause-closed g c R L equal Q tapes ts C h j =
    let T = c.equal_trees_are_told.ensures equal Q in
    let A = c.machines_stand_for_things.ensures.automaton R L (same_term equal) T tapes (constant_of R) (expand R equal) Zero ts C (λ t i. c.accessible_terms_are_derived.ensures.neat R L equal Q t) (λ t i. c.expansions_give_coefficients.ensures.labels R L equal Q tapes t (h t i)) in
    let S = c.machines_stand_for_things.ensures.stands R L (same_term equal) T (constant_of R) (expand R equal) Zero ts C in (
      A.0,
      λ i w l e. c.things_have_their_series.ensures.future R L tapes (machine R (same_term equal) (constant_of R) (expand R equal) Zero ts) A.0 A.1 (λ i. slice_index_or ts i Zero) (constant_of R) (expand R equal) S (coefficient_of R)
          (λ k m. c.expansions_give_coefficients.ensures.given R L equal Q tapes (slice_index_or ts k Zero) (h (slice_index_or ts k Zero) (at_place ts k Zero m)) (j (slice_index_or ts k Zero) (at_place ts k Zero m))) i w l e,
    )

pub returns-clause-derived : goal.returns-clause-derived
returns-clause-derived g c R L equal Q tapes t b h j w e =
    let ts = t ∷ derived_of R equal t in
    let H = of_all (HasTapes tapes) t (derived_of R equal t) h (c.derived_terms_are_trees.ensures.tapes R equal tapes t h) in
    let J = of_all (JoinsLetters tapes) t (derived_of R equal t) j (c.derived_terms_are_trees.ensures.joins R equal tapes t j) in
    c.things_have_their_series.ensures.machine R L (same_term equal) (constant_of R) (expand R equal) Zero t (derived_of R equal t) w
    ∙ (returns-clause-closed g c R L equal Q tapes ts (c.accessible_terms_are_derived.ensures.closed R L equal Q t b) H J).1 0 w (omega arith) e
