use Rattle.std.proofs.Common.{◌≡◌, ap₂, subst}
use Rattle.std.specs.Prelude.{OnOk, IfErr}
use Rattle.vc_search.specs.Courses.{IsStopped, NoStep, begun_all}
use Rattle.vc_join.specs.Pairs.{first_pairs, same_states}
use Rattle.vc_join.proofs.Among.{first_states}
use Rattle.vc_join.proofs.conjoined.BothMovesMoves.begin.Goals as goal

pub returns-clause-members : goal.returns-clause-members
returns-clause-members g c k i = first_states g.S.Semiring.set g.S.Value.PartialEq.eq c.args.self.now.first.now.automaton c.args.self.now.second.now.automaton k i

pub returns-clause-ok : goal.returns-clause-ok
returns-clause-ok g c =
    let R = g.S.Semiring.set in
    let eq = g.S.Value.PartialEq.eq in
    subst (λ z. OnOk c.begin_pairs.result (c.begin_pairs.new.into ≡ begun_all same_states c.args.into.now z)) (ap₂ (λ A B. first_pairs R eq A.automaton B.automaton) c.automaton.ensures c.automaton-2.ensures) c.begin_pairs.ensures.ok

pub returns-clause-fault : goal.returns-clause-fault
returns-clause-fault g c =
    let R = g.S.Semiring.set in
    let eq = g.S.Value.PartialEq.eq in
    subst (λ z. IfErr c.begin_pairs.result (IsStopped same_states NoStep c.args.into.now z 0)) (ap₂ (λ A B. first_pairs R eq A.automaton B.automaton) c.automaton.ensures c.automaton-2.ensures) c.begin_pairs.ensures.fault
