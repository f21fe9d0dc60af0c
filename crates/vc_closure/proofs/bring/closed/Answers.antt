use Rattle.std.proofs.Common.{◌≡◌, ◌∙◌, ◌++◌, All, List, length, map, sym, ap, subst}
use Rattle.vc_aut.specs.Additions.{IsSumRefusal}
use Rattle.vc_aut.specs.Stored.{transition_of}
use Rattle.vc_aut.specs.Validity.{IsMove}
use Rattle.vc_aut.specs.declared.transition.Transition.{Transition as Stored}
use Rattle.vc_closure.specs.Brought.{rows_brought}
use Rattle.vc_closure.specs.Closing.{closure}
use Rattle.vc_closure.specs.Formula.{IsBroughtStep}
use Rattle.vc_closure.specs.Refused.{IsPastTriples, IsSumCause}
use Rattle.vc_closure.specs.declared.fault.SumFault.{SumFault}
use Rattle.vc_label.specs.declared.tape_set.TapeSet.{TapeSet}
use Rattle.vc_closure.proofs.Bringing.{closing}
use Rattle.vc_closure.proofs.BroughtSteps.{addition_step, many_triples, product_step, total_step}
use Rattle.vc_closure.proofs.Causes.{sum_refused, told}
use Rattle.vc_model.specs.Automata.{Transition}
use Rattle.vc_closure.proofs.bring.closed.Goals as goal

pub returns-in-Err-clause-fault : goal.returns-in-Err-clause-fault
returns-in-Err-clause-fault g c =
    told g.S.Semiring.set (λ o h f. total_step g.met.S.Semiring.laws (length c.args.aut.now.sets) c.args.aut.now.automaton c.automata_are_valid.ensures.automaton c.args.rows.now c.requires.rows c.requires.entries o h)
    (λ l h. absurd h) c.in-Err.fault c.in-Err.ensures.fault

pub returns-in-Err-bring_rows-clause-fault : goal.returns-in-Err-bring_rows-clause-fault
returns-in-Err-bring_rows-clause-fault g c =
    told g.S.Semiring.set (λ o h f. product_step g.met.S.Semiring.laws (length c.args.aut.now.sets) c.args.aut.now.automaton c.automata_are_valid.ensures.automaton c.args.rows.now c.requires.rows c.requires.entries o h)
    (λ l h. absurd h) c.in-Err-bring_rows.fault c.in-Err-bring_rows.ensures.fault

pub from_transitions-requires-clause-moves : goal.from_transitions-requires-clause-moves
from_transitions-requires-clause-moves g c =
    let of = transition_of {L = g.row.L.Denot} {S = g.row.S.Denot} {V = g.row.S-Value.Denot} g.L.LabelSet.parts in
    let R = g.S.Semiring.set in
    let A = c.args.aut.now.automaton in
    let raw : map of c.bring_rows.new.into.items ≡ rows_brought R A c.args.rows.now A.states = c.in_default-bring_rows.ensures.ok.is ∙ ap (λ (xs : List (Stored g.row.L.Denot g.row.S.Denot g.row.L-Label.Denot g.row.S-Value.Denot)). map of xs ++ rows_brought R A c.args.rows.now A.states) c.new-moves.ensures.items in
    let count : length c.in-Ok.initial.items ≡ A.states = ap (λ (xs : List g.row.S-Value.Denot). length xs) c.in-Ok.ensures ∙ c.automata_are_valid.ensures.automaton.initial in
    subst (λ (ss : List TapeSet). All (IsMove R ss (length c.in-Ok.initial.items)) (map of c.bring_rows.new.into.items)) (sym c.labels.ensures)
    (subst (λ n. All (IsMove R c.args.aut.now.sets n) (map of c.bring_rows.new.into.items)) (sym count)
    (subst (λ (ts : List (Transition g.row.S-Value.Denot)). All (IsMove R c.args.aut.now.sets A.states) ts) (sym raw) c.in_default-bring_rows.ensures.ok.moves))

pub returns-in-Ok-from_transitions-clause-closing : goal.returns-in-Ok-from_transitions-clause-closing
returns-in-Ok-from_transitions-clause-closing g c =
    let of = transition_of {L = g.row.L.Denot} {S = g.row.S.Denot} {V = g.row.S-Value.Denot} g.L.LabelSet.parts in
    let R = g.S.Semiring.set in
    let L = g.met.S.Semiring.laws in
    let A = c.args.aut.now.automaton in
    let raw : map of c.bring_rows.new.into.items ≡ rows_brought R A c.args.rows.now A.states = c.in_default-bring_rows.ensures.ok.is ∙ ap (λ (xs : List (Stored g.row.L.Denot g.row.S.Denot g.row.L-Label.Denot g.row.S-Value.Denot)). map of xs ++ rows_brought R A c.args.rows.now A.states) c.new-moves.ensures.items in
    closing L g.S.Value.PartialEq.eq (g.L.LabelSet.sets c.labels.result.now) A c.in-Ok-from_transitions.automaton (closure R A) c.args.rows.now c.in-Ok.initial.items c.in-Ok-final_weights.finals.items (map of c.bring_rows.new.into.items)
    c.requires.rows c.requires.entries c.automata_are_valid.ensures.automaton.initial c.in-Ok.ensures c.in-Ok-final_weights.ensures.sums raw
    (λ added. c.drafts_are_sums.ensures.gathered R L g.S.Value.PartialEq.eq g.met.S.Semiring.same added) c.in-Ok-from_transitions.ensures.ok

pub returns-in-Err-from_transitions-clause-fault : goal.returns-in-Err-from_transitions-clause-fault
returns-in-Err-from_transitions-clause-fault g c =
    let of = transition_of {L = g.row.L.Denot} {S = g.row.S.Denot} {V = g.row.S-Value.Denot} g.L.LabelSet.parts in
    let R = g.S.Semiring.set in
    let L = g.met.S.Semiring.laws in
    let A = c.args.aut.now.automaton in
    let n = length c.args.aut.now.sets in
    let G = c.automata_are_valid.ensures.automaton in
    let rows = c.args.rows.now in
    let raw : map of c.bring_rows.new.into.items ≡ rows_brought R A rows A.states = c.in_default-bring_rows.ensures.ok.is ∙ ap (λ (xs : List (Stored g.row.L.Denot g.row.S.Denot g.row.L-Label.Denot g.row.S-Value.Denot)). map of xs ++ rows_brought R A rows A.states) c.new-moves.ensures.items in
    subst (λ (f : SumFault g.row.S.Denot g.row.S-Value.Denot). IsSumCause R (IsBroughtStep R A) (IsPastTriples R A) f) (sym c.sum_fault.ensures)
    (sum_refused g.row.S.Denot R (IsBroughtStep R A) A (rows_brought R A rows A.states)
    (λ o i. addition_step L n A G rows c.requires.rows c.requires.entries
    (λ ts t w. c.transitions_are_added.ensures.standing ts t w) (λ added d. c.drafts_are_sums.ensures.weight R L added d) (λ added. c.drafts_are_sums.ensures.order R added) o i)
    (λ l. many_triples L n A G rows c.requires.rows c.requires.entries
    (λ ts t w. c.transitions_are_added.ensures.standing ts t w) (λ added d. c.drafts_are_sums.ensures.weight R L added d) (λ added. c.drafts_are_sums.ensures.order R added)
    (λ ts t d. c.transitions_are_added.ensures.triples R ts t d) l)
    c.in-Err-from_transitions.fault
    (subst (λ (ts : List (Transition g.row.S-Value.Denot)). IsSumRefusal R ts c.in-Err-from_transitions.fault) raw c.in-Err-from_transitions.ensures.answer))
