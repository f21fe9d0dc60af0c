use Rattle.std.proofs.Common.{rules, ◌≡◌, ◌∙◌, ℕ, Bool, true, false, List, length, map, replicate, inl, inr, sym, ap, subst}
use Rattle.vc_aut.specs.Stored.{transition_of}
use Rattle.vc_closure.specs.Circuits.{IsCircuitOn}
use Rattle.vc_closure.specs.Found.{IsFound}
use Rattle.vc_closure.specs.Refused.{IsCause}
use Rattle.vc_closure.specs.Searches.{IsOrder}
use Rattle.vc_closure.specs.declared.fault.ProperFault.{ProperFault}
use Rattle.vc_closure.proofs.Causes.{absorbed_cause, circuit_found, free_cause, order_found}
use Rattle.vc_closure.proofs.Walks.{empty_on_all}
use Rattle.vc_closure.proofs.closure.proper_of.Goals as goal

pub proper_in_order-requires : goal.proper_in_order-requires
proper_in_order-requires g c =
    let n = length c.args.aut.now.sets in
    let A = c.args.aut.now.automaton in
    let items : c.in-Ok.tapes.items ≡ replicate c.tapes.result true = search rules in
    let all : c.deref.result.now ≡ replicate n true = c.deref.ensures.value ∙ items ∙ ap (λ k. replicate k true) (c.tapes.ensures.value ∙ ap (λ ss. length ss) c.labels.ensures) in
    let found : IsOrder A c.deref.result.now c.in-Order.order.items = subst (λ f. IsFound g.L.LabelSet.parts n c.deref.result.now A f) c.in-Order.is c.in-Ok-search_circuit.ensures in
    let o : IsOrder A (replicate n true) c.in-Order.order.items = subst (λ (K : List Bool). IsOrder A K c.in-Order.order.items) all found in
    subst (λ (xs : List ℕ). IsOrder A (replicate n true) xs) (sym c.deref-in-Order.ensures.value) o

pub returns-in-Ok-proper_in_order-clause-allowed : goal.returns-in-Ok-proper_in_order-clause-allowed
returns-in-Ok-proper_in_order-clause-allowed g c =
    let n = length c.args.aut.now.sets in
    let A = c.args.aut.now.automaton in
    let items : c.in-Ok.tapes.items ≡ replicate c.tapes.result true = search rules in
    let all : c.deref.result.now ≡ replicate n true = c.deref.ensures.value ∙ items ∙ ap (λ k. replicate k true) (c.tapes.ensures.value ∙ ap (λ ss. length ss) c.labels.ensures) in
    let found : IsOrder A c.deref.result.now c.in-Order.order.items = subst (λ f. IsFound g.L.LabelSet.parts n c.deref.result.now A f) c.in-Order.is c.in-Ok-search_circuit.ensures in
    let o : IsOrder A (replicate n true) c.in-Order.order.items = subst (λ (K : List Bool). IsOrder A K c.in-Order.order.items) all found in
    inr (order_found g.S.Semiring.set n A c.automata_are_valid.ensures.automaton c.in-Order.order.items o)

pub returns-in-Err-proper_in_order-clause-fault : goal.returns-in-Err-proper_in_order-clause-fault
returns-in-Err-proper_in_order-clause-fault g c =
    let R = g.S.Semiring.set in
    let n = length c.args.aut.now.sets in
    let A = c.args.aut.now.automaton in
    let items : c.in-Ok.tapes.items ≡ replicate c.tapes.result true = search rules in
    let all : c.deref.result.now ≡ replicate n true = c.deref.ensures.value ∙ items ∙ ap (λ k. replicate k true) (c.tapes.ensures.value ∙ ap (λ ss. length ss) c.labels.ensures) in
    let found : IsOrder A c.deref.result.now c.in-Order.order.items = subst (λ f. IsFound g.L.LabelSet.parts n c.deref.result.now A f) c.in-Order.is c.in-Ok-search_circuit.ensures in
    let o : IsOrder A (replicate n true) c.in-Order.order.items = subst (λ (K : List Bool). IsOrder A K c.in-Order.order.items) all found in
    subst (λ (f : ProperFault g.row.L.Denot g.row.S.Denot g.row.L-Label.Denot g.row.S-Value.Denot). IsCause g.L.LabelSet.parts R g.S.Semiring.ABSORBS n A f) (sym c.proper_fault.ensures)
    (free_cause g.row.L.Denot g.L.LabelSet.parts R g.S.Semiring.ABSORBS n A (order_found R n A c.automata_are_valid.ensures.automaton c.in-Order.order.items o) c.in-Err-proper_in_order.fault c.in-Err-proper_in_order.ensures.fault)

pub returns-then-not-ABSORBS-clause-fault : goal.returns-then-not-ABSORBS-clause-fault
returns-then-not-ABSORBS-clause-fault g c =
    let of = transition_of {L = g.row.L.Denot} {S = g.row.S.Denot} {V = g.row.S-Value.Denot} g.L.LabelSet.parts in
    let n = length c.args.aut.now.sets in
    let A = c.args.aut.now.automaton in
    let items : c.in-Ok.tapes.items ≡ replicate c.tapes.result true = search rules in
    let all : c.deref.result.now ≡ replicate n true = c.deref.ensures.value ∙ items ∙ ap (λ k. replicate k true) (c.tapes.ensures.value ∙ ap (λ ss. length ss) c.labels.ensures) in
    let found : IsCircuitOn n c.deref.result.now A (map of c.in-Circuit.circuit.items) = subst (λ f. IsFound g.L.LabelSet.parts n c.deref.result.now A f) c.in-Circuit.is c.in-Ok-search_circuit.ensures in
    let o : IsCircuitOn n (replicate n true) A (map of c.in-Circuit.circuit.items) = subst (λ (K : List Bool). IsCircuitOn n K A (map of c.in-Circuit.circuit.items)) all found in
    let e = empty_on_all n A c.automata_are_valid.ensures.automaton.label (map of c.in-Circuit.circuit.items) o in
    let r : c.ABSORBS.result ≡ false = c.if-not-ABSORBS.true in
    let a : g.S.Semiring.ABSORBS ≡ false = sym c.ABSORBS.ensures ∙ r in
    (a, e.0, e.1)

pub returns-in-Ok-proper_with_circuits-clause-allowed : goal.returns-in-Ok-proper_with_circuits-clause-allowed
returns-in-Ok-proper_with_circuits-clause-allowed g c =
    let r : c.ABSORBS.result ≡ true = c.if-not-ABSORBS.false in
    inl (sym c.ABSORBS.ensures ∙ r)

pub returns-in-Err-proper_with_circuits-clause-fault : goal.returns-in-Err-proper_with_circuits-clause-fault
returns-in-Err-proper_with_circuits-clause-fault g c =
    let R = g.S.Semiring.set in
    let of = transition_of {L = g.row.L.Denot} {S = g.row.S.Denot} {V = g.row.S-Value.Denot} g.L.LabelSet.parts in
    let n = length c.args.aut.now.sets in
    let A = c.args.aut.now.automaton in
    let items : c.in-Ok.tapes.items ≡ replicate c.tapes.result true = search rules in
    let all : c.deref.result.now ≡ replicate n true = c.deref.ensures.value ∙ items ∙ ap (λ k. replicate k true) (c.tapes.ensures.value ∙ ap (λ ss. length ss) c.labels.ensures) in
    let found : IsCircuitOn n c.deref.result.now A (map of c.in-Circuit.circuit.items) = subst (λ f. IsFound g.L.LabelSet.parts n c.deref.result.now A f) c.in-Circuit.is c.in-Ok-search_circuit.ensures in
    let o : IsCircuitOn n (replicate n true) A (map of c.in-Circuit.circuit.items) = subst (λ (K : List Bool). IsCircuitOn n K A (map of c.in-Circuit.circuit.items)) all found in
    let r : c.ABSORBS.result ≡ true = c.if-not-ABSORBS.false in
    subst (λ (f : ProperFault g.row.L.Denot g.row.S.Denot g.row.L-Label.Denot g.row.S-Value.Denot). IsCause g.L.LabelSet.parts R g.S.Semiring.ABSORBS n A f) (sym c.proper_fault-in-Err-proper_with_circuits.ensures)
    (absorbed_cause g.row.L.Denot g.L.LabelSet.parts R g.S.Semiring.ABSORBS n A (sym c.ABSORBS.ensures ∙ r) (circuit_found R n A c.automata_are_valid.ensures.automaton (map of c.in-Circuit.circuit.items) o) c.in-Err-proper_with_circuits.fault c.in-Err-proper_with_circuits.ensures.fault)

pub proper_with_circuits-requires : goal.proper_with_circuits-requires
proper_with_circuits-requires g c =
    let r : c.ABSORBS.result ≡ true = c.if-not-ABSORBS.false in
    sym c.ABSORBS.ensures ∙ r
