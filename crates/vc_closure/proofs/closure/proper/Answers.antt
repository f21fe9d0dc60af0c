use Rattle.std.proofs.Common.{◌≡◌, List, length, ap, ap₂, subst}
use Rattle.vc_closure.proofs.Causes.{allowed_sound}
use Rattle.vc_label.specs.declared.tape_set.TapeSet.{TapeSet}
use Rattle.vc_model.specs.Automata.{Automaton, IsAutomaton}
use Rattle.vc_closure.proofs.closure.proper.Goals as goal

pub returns-clause-futures : goal.returns-clause-futures
returns-clause-futures g c q w l e =
    let R = g.S.Semiring.set in
    let A = c.args.aut.now.automaton in
    let n = length c.args.aut.now.sets in
    let p = c.in-Ok.proper in
    let valid : IsAutomaton R n p.automaton = subst (λ k. IsAutomaton R k p.automaton) (ap (λ (ss : List TapeSet). length ss) c.in-Ok.ensures.sets) c.proper_automata_are_proper.ensures.automaton in
    c.closings_keep_futures.ensures.future R g.met.S.Semiring.laws n A p.automaton c.automata_are_valid.ensures.automaton valid (allowed_sound R g.S.Semiring.ABSORBS n A (λ b. g.met.S.Semiring.absorbs.0 b) c.in-Ok.ensures.allowed) c.in-Ok.ensures.closing q w l e

pub returns-clause-series : goal.returns-clause-series
returns-clause-series g c w e =
    let R = g.S.Semiring.set in
    let A = c.args.aut.now.automaton in
    let n = length c.args.aut.now.sets in
    let p = c.in-Ok.proper in
    let valid : IsAutomaton R n p.automaton = subst (λ k. IsAutomaton R k p.automaton) (ap (λ (ss : List TapeSet). length ss) c.in-Ok.ensures.sets) c.proper_automata_are_proper.ensures.automaton in
    c.closings_keep_futures.ensures.coefficient R g.met.S.Semiring.laws n A p.automaton c.automata_are_valid.ensures.automaton valid (allowed_sound R g.S.Semiring.ABSORBS n A (λ b. g.met.S.Semiring.absorbs.0 b) c.in-Ok.ensures.allowed) c.in-Ok.ensures.closing w e

pub returns-clause-same : goal.returns-clause-same
returns-clause-same g c proper =
    let R = g.S.Semiring.set in
    let A = c.args.aut.now.automaton in
    let n = length c.args.aut.now.sets in
    let p = c.in-Ok.proper in
    let valid : IsAutomaton R n p.automaton = subst (λ k. IsAutomaton R k p.automaton) (ap (λ (ss : List TapeSet). length ss) c.in-Ok.ensures.sets) c.proper_automata_are_proper.ensures.automaton in
    let same : p.automaton ≡ A = c.closings_keep_futures.ensures.same R g.met.S.Semiring.laws n A p.automaton c.automata_are_valid.ensures.automaton valid proper c.automata_are_valid.ensures.labelled.drawn.order c.proper_automata_are_proper.ensures.labelled.drawn.order c.in-Ok.ensures.closing in
    ap₂ (λ (ss : List TapeSet) (a : Automaton g.row.S-Value.Denot). record { sets = ss; automaton = a }) c.in-Ok.ensures.sets same
