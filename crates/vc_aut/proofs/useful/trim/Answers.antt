use Rattle.std.proofs.Common.{ap, length, List, subst}
use Rattle.vc_label.specs.declared.tape_set.TapeSet.{TapeSet}
use Rattle.vc_model.specs.Automata.{IsAutomaton}
use Rattle.vc_aut.proofs.useful.trim.Goals as goal

pub returns-clause-futures : goal.returns-clause-futures
returns-clause-futures g c kept is sound i w l e =
    let R = g.S.Semiring.set in
    let A = c.args.aut.now.automaton in
    let n = length c.args.aut.now.sets in
    let T = c.in_ok-trimmed.trimmed.automaton in
    let valid : IsAutomaton R n T = subst (λ k. IsAutomaton R k T) (ap (λ (ss : List TapeSet). length ss) c.in_ok-trimmed.ensures.sets) c.automata_are_valid-2.ensures.automaton in
    c.trims_keep_series.ensures.future R g.met.S.Semiring.laws g.S.Value.PartialEq.eq g.met.S.Semiring.same n A T c.automata_are_valid.ensures.automaton valid kept is sound i w l e

pub returns-clause-series : goal.returns-clause-series
returns-clause-series g c sound w e =
    let R = g.S.Semiring.set in
    let A = c.args.aut.now.automaton in
    let n = length c.args.aut.now.sets in
    let T = c.in_ok-trimmed.trimmed.automaton in
    let valid : IsAutomaton R n T = subst (λ k. IsAutomaton R k T) (ap (λ (ss : List TapeSet). length ss) c.in_ok-trimmed.ensures.sets) c.automata_are_valid-2.ensures.automaton in
    let trim = c.in_ok-trimmed.ensures.trim in
    c.trims_keep_series.ensures.coefficient R g.met.S.Semiring.laws g.S.Value.PartialEq.eq g.met.S.Semiring.same n A T c.automata_are_valid.ensures.automaton valid trim.0 trim.1 sound w e
