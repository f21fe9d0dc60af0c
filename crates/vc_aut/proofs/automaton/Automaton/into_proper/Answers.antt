use Rattle.std.proofs.Common.{◌≡◌, true}
use Rattle.vc_aut.proofs.EmptyLabels.{proper_without}
use Rattle.vc_aut.proofs.automaton.Automaton.into_proper.Goals as goal

pub invariant_of-result : goal.invariant_of-result
invariant_of-result g c =
    proper_without c.empty_words_are_tested.ensures.length c.args.self.automaton
    (λ h. let found : c.has_empty_label.result ≡ true = c.has_empty_label.ensures.1 h in cc)

pub returns-clause-proper : goal.returns-clause-proper
returns-clause-proper g c = invariant_of-result g c
