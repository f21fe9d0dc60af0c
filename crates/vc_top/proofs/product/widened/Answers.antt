use Rattle.std.proofs.Common.{All, Ok, ap, inr, subst, sym}
use Rattle.vc_aut.specs.Labelled.{Labelled}
use Rattle.vc_aut.specs.Wider.{AreWithin}
use Rattle.vc_label.specs.Sets.{IsOverSets}
use Rattle.vc_ring.specs.Weighed.{weighed}
use Rattle.vc_top.specs.Outcomes.{Gives}
use Rattle.vc_top.specs.Reasons.{reason_of}
use Rattle.vc_top.proofs.Closed.{proper_given, proper_refused}
use Rattle.vc_top.proofs.product.widened.Goals as goal

pub returns-in-Err-clause-closed : goal.returns-in-Err-clause-closed
returns-in-Err-clause-closed g c =
    proper_refused (weighed g.S.Semiring g.S.Value.PartialEq) g.S.Semiring.ABSORBS c.args.automaton.now (λ p. Gives p.automaton) (reason_of c.in-Err.refusal) c.in-Err.ensures.closed

pub returns-in-Ok-widen-clause-closed : goal.returns-in-Ok-widen-clause-closed
returns-in-Ok-widen-clause-closed g c =
    proper_given (weighed g.S.Semiring g.S.Value.PartialEq) g.S.Semiring.ABSORBS c.args.automaton.now (λ p. Gives p.automaton) c.in-Ok.proper (Ok c.in-Ok-widen.proper.automaton) c.in-Ok.ensures.closed
    (λ s. inr (ap (λ (x : Labelled g.row.S-Value.Denot). Ok x.automaton) c.in-Ok-widen.ensures.automaton))

pub returns-in-Ok-widen-clause-labels : goal.returns-in-Ok-widen-clause-labels
returns-in-Ok-widen-clause-labels g c =
    let sets = g.L.LabelSet.sets c.args.labels in
    let within = subst (λ (x : Labelled g.row.S-Value.Denot). AreWithin x.sets sets) (sym c.automaton.ensures) (subst (λ ss. AreWithin ss sets) (sym c.in-Ok.ensures.sets) c.requires) in
    let over : All (λ t. IsOverSets sets t.label) c.in-Ok.proper.automaton.transitions =
    subst (λ (x : Labelled g.row.S-Value.Denot). All (λ t. IsOverSets sets t.label) x.automaton.transitions) c.automaton.ensures (c.labels_are_over_wider_sets.ensures sets within)
    in
    subst (λ (x : Labelled g.row.S-Value.Denot). All (λ t. IsOverSets sets t.label) x.automaton.transitions) (sym c.in-Ok-widen.ensures.automaton) over
