use Rattle.std.proofs.Common.{List, inl, inr, refl, sym, subst}
use Rattle.std.specs.Global.{Vec}
use Rattle.vc_aut.specs.EmptyLabels.{HasEmptyLabel}
use Rattle.vc_aut.specs.Labelled.{Labelled}
use Rattle.vc_closure.specs.Closing.{IsClosing, closure}
use Rattle.vc_closure.specs.Rows.{AreRows, AreRowsOf}
use Rattle.vc_closure.specs.declared.rows.Entry.{Entry}
use Rattle.vc_closure.proofs.Causes.{told}
use Rattle.vc_closure.proofs.closure.proper_with_circuits.Goals as goal

pub closed-requires-clause-rows : goal.closed-requires-clause-rows
closed-requires-clause-rows g c =
    subst (λ (vs : List (Vec (Entry g.row.S.Denot g.row.S-Value.Denot))). AreRows g.S.Semiring.set c.args.aut.now.automaton.states vs) (sym c.deref.ensures.value) c.in-Ok.ensures.rows

pub closed-requires-clause-entries : goal.closed-requires-clause-entries
closed-requires-clause-entries g c =
    let R = g.S.Semiring.set in
    subst (λ (vs : List (Vec (Entry g.row.S.Denot g.row.S-Value.Denot))). AreRowsOf R c.args.aut.now.automaton (closure R c.args.aut.now.automaton) vs) (sym c.deref.ensures.value) c.in-Ok.ensures.entries

pub returns-in-Err-clause-fault : goal.returns-in-Err-clause-fault
returns-in-Err-clause-fault g c = told g.S.Semiring.set (λ o h f. inl h) (λ l h. inl h) c.in-Err.fault c.in-Err.ensures.fault

pub returns-in-Err-closed-clause-fault : goal.returns-in-Err-closed-clause-fault
returns-in-Err-closed-clause-fault g c = told g.S.Semiring.set (λ o h f. inr h) (λ l h. inr h) c.in-Err-closed.fault c.in-Err-closed.ensures.fault

pub unreachable-requires : goal.unreachable-requires
unreachable-requires g c =
    let R = g.S.Semiring.set in
    let A = c.args.aut.now.automaton in
    let P = c.in-Ok-closed.automaton.automaton in
    let h : HasEmptyLabel P = c.in-Err-into_proper.ensures.empty.0 refl in
    c.closings_keep_futures.ensures.proper R g.met.S.Semiring.laws A P (closure R A) c.in-Ok-closed.ensures.closing h.transition h.member ((c.empty_words_are_tested.ensures.length h.transition.label).0 h.empty)

pub returns-in-Ok-into_proper-clause-closing : goal.returns-in-Ok-into_proper-clause-closing
returns-in-Ok-into_proper-clause-closing g c =
    let R = g.S.Semiring.set in
    let A = c.args.aut.now.automaton in
    subst (λ (x : Labelled g.row.S-Value.Denot). IsClosing R A x.automaton (closure R A)) (sym c.in-Ok-into_proper.ensures.ok) c.in-Ok-closed.ensures.closing
