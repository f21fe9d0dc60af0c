use Rattle.std.proofs.Common.{◌≡◌, length, inr, Option, sym, subst}
use Rattle.std.specs.Prelude.{IfSome}
use Rattle.vc_aut.specs.Labelled.{Labelled}
use Rattle.vc_closure.proofs.Unchanged.{own_closing}
use Rattle.vc_closure.specs.Closing.{IsClosing, closure}
use Rattle.vc_model.specs.Automata.{IsProper}
use Rattle.vc_model.specs.CircuitLaws.{proper-NoEmptyCircuit}
use Rattle.vc_closure.proofs.closure.own_or_closed.Goals as goal

pub returns-in-Some-clause-closing : goal.returns-in-Some-clause-closing
returns-in-Some-clause-closing g c =
    let R = g.S.Semiring.set in
    let A = c.args.aut.now.automaton in
    let same : c.in-Some.proper ≡ c.args.aut.now = subst (λ (o : Option (Labelled g.row.S-Value.Denot)). IfSome o (λ p. p ≡ c.args.aut.now)) c.in-Some.is c.in-Ok.ensures.same in
    let proper : IsProper A = subst (λ (o : Option (Labelled g.row.S-Value.Denot)). IfSome o (λ _p. IsProper A)) c.in-Some.is c.in-Ok.ensures.proper in
    subst (λ (x : Labelled g.row.S-Value.Denot). IsClosing R A x.automaton (closure R A)) (sym same) (own_closing g.met.S.Semiring.laws (length c.args.aut.now.sets) A c.automata_are_valid.ensures.automaton proper)

pub returns-in-Some-clause-allowed : goal.returns-in-Some-clause-allowed
returns-in-Some-clause-allowed g c =
    let A = c.args.aut.now.automaton in
    let proper : IsProper A = subst (λ (o : Option (Labelled g.row.S-Value.Denot)). IfSome o (λ _p. IsProper A)) c.in-Some.is c.in-Ok.ensures.proper in
    inr (proper-NoEmptyCircuit (length c.args.aut.now.sets) A c.automata_are_valid.ensures.automaton.label proper)
