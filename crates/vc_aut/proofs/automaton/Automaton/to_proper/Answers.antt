use Rattle.std.proofs.Common.{◌≡◌, ◌∙◌, true, refl, sym, subst}
use Rattle.std.proofs.lemmas.Bool.{false≢true}
use Rattle.vc_aut.specs.Labelled.{Labelled}
use Rattle.vc_aut.proofs.EmptyLabels.{proper_without}
use Rattle.vc_model.specs.Automata.{IsProper}
use Rattle.vc_aut.proofs.automaton.Automaton.to_proper.Goals as goal

pub returns-then-has_empty_label-clause-empty : goal.returns-then-has_empty_label-clause-empty
returns-then-has_empty_label-clause-empty g c = ((λ n. c.has_empty_label.ensures.0 c.if-has_empty_label.true), (λ h. refl))

pub invariant_of-proper : goal.invariant_of-proper
invariant_of-proper g c =
    subst (λ (x : Labelled g.row.S-Value.Denot). IsProper x.automaton) (sym c.in_ok-automaton.ensures)
    (proper_without c.empty_words_are_tested.ensures.length c.args.self.now.automaton
    (λ h. let found : c.has_empty_label.result ≡ true = c.has_empty_label.ensures.1 h in absurd (false≢true (sym c.if-has_empty_label.false ∙ found))))

pub returns-clause-proper : goal.returns-clause-proper
returns-clause-proper g c =
    proper_without c.empty_words_are_tested.ensures.length c.args.self.now.automaton
    (λ h. let found : c.has_empty_label.result ≡ true = c.has_empty_label.ensures.1 h in absurd (false≢true (sym c.if-has_empty_label.false ∙ found)))

pub returns-clause-empty : goal.returns-clause-empty
returns-clause-empty g c = (
  (λ n. absurd (false≢true (sym n))),
  (λ h. let found : c.has_empty_label.result ≡ true = c.has_empty_label.ensures.1 h in absurd (false≢true (sym c.if-has_empty_label.false ∙ found))),
)
