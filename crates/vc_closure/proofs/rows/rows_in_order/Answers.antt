use Rattle.std.proofs.Common.{◌≡◌, ◌<◌, IsNone, ◌+◌, ◌-◌, [], ◌∷◌, ◌++◌, List, ℕ, length, map, replicate, take, drop, set, slice_index_or, suc, true, inr, sym, ap, ap₂, ◌∙◌, subst, rules, arith}
use Rattle.std.specs.Global.{Vec}
use Rattle.std.specs.List.Sorted.{IsStrictlySortedBy}
use Rattle.std.proofs.lemmas.List.{take_all, take_more}
use Rattle.std.proofs.lemmas.Option.{slice_get-get_or}
use Rattle.vc_aut.specs.Order.{move_order}
use Rattle.vc_aut.specs.Stored.{transition_of}
use Rattle.vc_closure.specs.Closing.{IsClosed, closure, unit_entry}
use Rattle.vc_closure.specs.Formula.{IsEntryStep}
use Rattle.vc_closure.specs.Rows.{AreClear, AreRows, IsMovesStep, IsRow, entries_at, moves_part, row_at, silent_part}
use Rattle.vc_closure.specs.Searches.{LeadBack, moves_from}
use Rattle.vc_closure.specs.declared.rows.Entry.{Entry}
use Rattle.vc_closure.proofs.Causes.{past_pairs, told}
use Rattle.vc_closure.proofs.EntrySteps.{entry_step}
use Rattle.vc_closure.proofs.LastMatrix.{last_closed}
use Rattle.vc_closure.proofs.Ordered.{AreRowsAt, leads_before, moves_silent, rows_more, rows_set, split_at}
use Rattle.vc_closure.proofs.Pairs.{count_of, count_set, many_pairs, matrix_joined}
use Rattle.vc_closure.proofs.Places.{In-take, member_at, once_take}
use Rattle.vc_closure.proofs.Walks.{moves_member, on_all, order_free}
use Rattle.vc_model.specs.Automata.{Transition}
use Rattle.vc_model.specs.Lists.{In, NoRepeat}
use Rattle.vc_model.specs.Members.{In-append_left, NoRepeat-middle}
use Rattle.vc_model.specs.Words.{is_empty}
use Rattle.vc_closure.proofs.rows.rows_in_order.Goals as goal

pub transitions_from-moves-requires : goal.transitions_from-moves-requires
transitions_from-moves-requires g c =
    let s = slice_index_or c.args.order.now c.loop-state.state-index 0 in
    c.requires.inside s (member_at c.args.order.now c.loop-state.state-index s (slice_get-get_or c.args.order.now c.loop-state.state-index 0 c.loop-state-test.true))

pub sum_row-requires-clause-state : goal.sum_row-requires-clause-state
sum_row-requires-clause-state g c =
    let s = slice_index_or c.args.order.now c.loop-state.state-index 0 in
    let l = c.requires.inside s (member_at c.args.order.now c.loop-state.state-index s (slice_get-get_or c.args.order.now c.loop-state.state-index 0 c.loop-state-test.true)) in
    subst (λ n. s < n) (sym (ap (λ (vs : List (Vec (Entry g.row.S.Denot g.row.S-Value.Denot))). length vs) c.deref.ensures.value ∙ c.loop-state.invariant.rows.count)) l

pub sum_row-requires-clause-to : goal.sum_row-requires-clause-to
sum_row-requires-clause-to g c t i =
    let A = c.args.aut.now.automaton in
    let s = slice_index_or c.args.order.now c.loop-state.state-index 0 in
    let m = moves_member A s t (subst (λ (ts : List (Transition g.row.S-Value.Denot)). In t ts) c.transitions_from-moves.ensures i) in
    subst (λ n. t.to < n) (sym (ap (λ (vs : List (Vec (Entry g.row.S.Denot g.row.S-Value.Denot))). length vs) c.deref.ensures.value ∙ c.loop-state.invariant.rows.count)) (c.automata_are_valid.ensures.automaton.to t m.0)

pub sum_row-requires-clause-weight : goal.sum_row-requires-clause-weight
sum_row-requires-clause-weight g c t i =
    let A = c.args.aut.now.automaton in
    let s = slice_index_or c.args.order.now c.loop-state.state-index 0 in
    let m = moves_member A s t (subst (λ (ts : List (Transition g.row.S-Value.Denot)). In t ts) c.transitions_from-moves.ensures i) in
    (c.automata_are_valid.ensures.moves t m.0).weight

pub index_mut-requires : goal.index_mut-requires
index_mut-requires g c =
    let s = slice_index_or c.args.order.now c.loop-state.state-index 0 in
    let k = c.requires.inside s (member_at c.args.order.now c.loop-state.state-index s (slice_get-get_or c.args.order.now c.loop-state.state-index 0 c.loop-state-test.true)) in
    let l : s < length c.loop-state.rows.items = subst (λ n. s < n) (sym c.loop-state.invariant.rows.count) k in
    subst (λ n. s < n) (search rules) l

pub returns-in-Err-clause-fault : goal.returns-in-Err-clause-fault
returns-in-Err-clause-fault g c =
    let of = transition_of {L = g.row.L.Denot} {S = g.row.S.Denot} {V = g.row.S-Value.Denot} g.L.LabelSet.parts in
    let R = g.S.Semiring.set in
    let L = g.met.S.Semiring.laws in
    let A = c.args.aut.now.automaton in
    let G = c.automata_are_valid.ensures.automaton in
    let n = length c.args.aut.now.sets in
    let order = c.args.order.now in
    let i = c.loop-state.state-index in
    let s = slice_index_or order i 0 in
    let rows = c.loop-state.rows.items in
    let k : s < A.states = c.requires.inside s (member_at order i s (slice_get-get_or order i 0 c.loop-state-test.true)) in
    let back : LeadBack A (replicate n true) [] (take i order ++ s ∷ drop (suc i) order) = subst (λ (ps : List ℕ). LeadBack A (replicate n true) [] ps) (split_at order i 0 c.loop-state-test.true) c.requires.back in
    let same : (t : Transition g.row.S-Value.Denot) → In t A.transitions → t.from ≡ s → is_empty t.label ≡ true → (q : ℕ) → q < A.states → row_at R (entries_at rows t.to) q ≡ closure R A t.to q =
    λ t j f e q l. c.loop-state.invariant.entries t.to q (leads_before A (replicate n true) (take i order) (drop (suc i) order) s back t j f (ap is_empty (on_all n t.label (G.label t j)) ∙ e)) l in
    let sorted : IsStrictlySortedBy move_order (moves_from A s) = c.transitions_are_in_order.ensures.moves A.transitions s c.automata_are_valid.ensures.labelled.drawn.order in
    told R (λ o h f. entry_step L n A G s sorted (closure R A) rows k c.loop-state.invariant.rows.each same o
    (subst (λ (ts : List (Transition g.row.S-Value.Denot)). IsMovesStep R (unit_entry R s) rows ts o) c.transitions_from-moves.ensures
    (subst (λ (vs : List (Vec (Entry g.row.S.Denot g.row.S-Value.Denot))). IsMovesStep R (unit_entry R s) vs (map of c.transitions_from-moves.result.now) o) c.deref.ensures.value h)))
    (λ l h. absurd h) c.in-Err.fault c.in-Err.ensures.fault

pub returns-in_default-counted-clause-fault : goal.returns-in_default-counted-clause-fault
returns-in_default-counted-clause-fault g c =
    let of = transition_of {L = g.row.L.Denot} {S = g.row.S.Denot} {V = g.row.S-Value.Denot} g.L.LabelSet.parts in
    let R = g.S.Semiring.set in
    let L = g.met.S.Semiring.laws in
    let A = c.args.aut.now.automaton in
    let G = c.automata_are_valid.ensures.automaton in
    let n = length c.args.aut.now.sets in
    let order = c.args.order.now in
    let i = c.loop-state.state-index in
    let s = slice_index_or order i 0 in
    let rows = c.loop-state.rows.items in
    let row = c.in-Ok-take_row.row in
    let k : s < A.states = c.requires.inside s (member_at order i s (slice_get-get_or order i 0 c.loop-state-test.true)) in
    let l : s < length rows = subst (λ n. s < n) (sym c.loop-state.invariant.rows.count) k in
    let back : LeadBack A (replicate n true) [] (take i order ++ s ∷ drop (suc i) order) = subst (λ (ps : List ℕ). LeadBack A (replicate n true) [] ps) (split_at order i 0 c.loop-state-test.true) c.requires.back in
    let leads : (t : Transition g.row.S-Value.Denot) → In t A.transitions → t.from ≡ s → is_empty t.label ≡ true → In t.to (take i order) =
    λ t j f e. leads_before A (replicate n true) (take i order) (drop (suc i) order) s back t j f (ap is_empty (on_all n t.label (G.label t j)) ∙ e) in
    let closed : IsClosed R A (closure R A) = last_closed L n A G (inr (order_free A (replicate n true) n G.label order G.from c.requires)) in
    let many : length c.sum_row.new.sums.sums.items ≡ A.states = c.in_default-sum_row.ensures.sums.count ∙ ap (λ (vs : List (Vec (Entry g.row.S.Denot g.row.S-Value.Denot))). length vs) c.deref.ensures.value ∙ c.loop-state.invariant.rows.count in
    let entries : (t : ℕ) → row_at R row.items t ≡ R.plus (unit_entry R s t) (silent_part R A rows s t) = λ t.
    c.in-Ok-take_row.ensures.entries t ∙ c.in_default-sum_row.ensures.added t
    ∙ ap (R.plus (unit_entry R s t))
    (ap₂ (λ (vs : List (Vec (Entry g.row.S.Denot g.row.S-Value.Denot))) (ts : List (Transition g.row.S-Value.Denot)). moves_part R vs ts t) c.deref.ensures.value c.transitions_from-moves.ensures ∙ moves_silent L A rows s t) in
    let is_row : IsRow R A.states row.items = subst (λ m. IsRow R m row.items) many c.in-Ok-take_row.ensures.row in
    let after : AreRows R A.states (set rows s row) = rows_set R A.states rows s row c.loop-state.invariant.rows k is_row in
    let those : take (i + 1) order ≡ take i order ++ s ∷ [] = take_more order i 0 c.loop-state-test.true in
    let all : AreRowsAt R A (closure R A) (take i order ++ s ∷ []) (set rows s row) = rows_more L A G.to (closure R A) closed (take i order) s k leads rows row l entries c.loop-state.invariant.entries in
    let once : NoRepeat (take i order ++ s ∷ []) = subst (λ xs. NoRepeat xs) those (once_take (i + 1) order c.requires.once) in
    let new : ¬ In s (take i order) = λ j. (NoRepeat-middle s (take i order) [] once).0 (In-append_left s (take i order) [] j) in
    let total : count_of (set rows s row) (take i order ++ s ∷ []) ≡ count_of rows (take i order) + length row.items = count_set rows s row (take i order) l new in
    let inside : (p : ℕ) → In p (take i order ++ s ∷ []) → p < A.states = λ p j. c.requires.inside p (In-take p (i + 1) order (subst (λ xs. In p xs) (sym those) j)) in
    let over : 4000000 + A.states < count_of (set rows s row) (take i order ++ s ∷ []) =
    let none : IsNone c.counted.result = search rules in
    let size : c.len.result ≡ length row.items = search rules in
    let was : c.loop-state.count ≡ count_of rows (take i order) = c.loop-state.invariant.counted in
    omega (arith, c.counted.ensures.none none, c.loop-state.invariant.most) in
    past_pairs R (IsEntryStep R A (closure R A)) n A c.too_many_pairs.result c.too_many_pairs.ensures
    (many_pairs R n A (set rows s row) L (closure R A) (matrix_joined L g.S.Value.PartialEq.eq g.met.S.Semiring.same n A G (A.states - 1)) (take i order ++ s ∷ []) once inside after.each (λ p q j m. all p q j m) over)

pub loop-state-preserved : goal.loop-state-preserved
loop-state-preserved g c =
    let of = transition_of {L = g.row.L.Denot} {S = g.row.S.Denot} {V = g.row.S-Value.Denot} g.L.LabelSet.parts in
    let R = g.S.Semiring.set in
    let L = g.met.S.Semiring.laws in
    let A = c.args.aut.now.automaton in
    let G = c.automata_are_valid.ensures.automaton in
    let n = length c.args.aut.now.sets in
    let order = c.args.order.now in
    let i = c.loop-state.state-index in
    let s = slice_index_or order i 0 in
    let rows = c.loop-state.rows.items in
    let row = c.in-Ok-take_row.row in
    let k : s < A.states = c.requires.inside s (member_at order i s (slice_get-get_or order i 0 c.loop-state-test.true)) in
    let l : s < length rows = subst (λ n. s < n) (sym c.loop-state.invariant.rows.count) k in
    let back : LeadBack A (replicate n true) [] (take i order ++ s ∷ drop (suc i) order) = subst (λ (ps : List ℕ). LeadBack A (replicate n true) [] ps) (split_at order i 0 c.loop-state-test.true) c.requires.back in
    let leads : (t : Transition g.row.S-Value.Denot) → In t A.transitions → t.from ≡ s → is_empty t.label ≡ true → In t.to (take i order) =
    λ t j f e. leads_before A (replicate n true) (take i order) (drop (suc i) order) s back t j f (ap is_empty (on_all n t.label (G.label t j)) ∙ e) in
    let closed : IsClosed R A (closure R A) = last_closed L n A G (inr (order_free A (replicate n true) n G.label order G.from c.requires)) in
    let many : length c.sum_row.new.sums.sums.items ≡ A.states = c.in_default-sum_row.ensures.sums.count ∙ ap (λ (vs : List (Vec (Entry g.row.S.Denot g.row.S-Value.Denot))). length vs) c.deref.ensures.value ∙ c.loop-state.invariant.rows.count in
    let entries : (t : ℕ) → row_at R row.items t ≡ R.plus (unit_entry R s t) (silent_part R A rows s t) = λ t.
    c.in-Ok-take_row.ensures.entries t ∙ c.in_default-sum_row.ensures.added t
    ∙ ap (R.plus (unit_entry R s t))
    (ap₂ (λ (vs : List (Vec (Entry g.row.S.Denot g.row.S-Value.Denot))) (ts : List (Transition g.row.S-Value.Denot)). moves_part R vs ts t) c.deref.ensures.value c.transitions_from-moves.ensures ∙ moves_silent L A rows s t) in
    let is_row : IsRow R A.states row.items = subst (λ m. IsRow R m row.items) many c.in-Ok-take_row.ensures.row in
    let after : AreRows R A.states (set rows s row) = rows_set R A.states rows s row c.loop-state.invariant.rows k is_row in
    let those : take (i + 1) order ≡ take i order ++ s ∷ [] = take_more order i 0 c.loop-state-test.true in
    let all : AreRowsAt R A (closure R A) (take i order ++ s ∷ []) (set rows s row) = rows_more L A G.to (closure R A) closed (take i order) s k leads rows row l entries c.loop-state.invariant.entries in
    let once : NoRepeat (take i order ++ s ∷ []) = subst (λ xs. NoRepeat xs) those (once_take (i + 1) order c.requires.once) in
    let new : ¬ In s (take i order) = λ j. (NoRepeat-middle s (take i order) [] once).0 (In-append_left s (take i order) [] j) in
    let total : count_of (set rows s row) (take i order ++ s ∷ []) ≡ count_of rows (take i order) + length row.items = count_set rows s row (take i order) l new in
    let more : c.in-Some.more ≡ count_of (set rows s row) (take (i + 1) order) =
    let size : c.len.result ≡ length row.items = search rules in
    c.in-Some.ensures.some.0 ∙ ap₂ (λ a b. a + b) c.loop-state.invariant.counted size ∙ sym total ∙ ap (λ ps. count_of (set rows s row) ps) (sym those) in
    record {
      rows = after;
      clear = subst (λ m. AreClear R m c.take_row.new.sums.sums.items c.take_row.new.sums.touched.items) many c.in-Ok-take_row.ensures.sums;
      few = c.in-Some.ensures.some.1;
      most = c.loop-state.invariant.most;
      counted = more;
      entries = subst (λ (ps : List ℕ). AreRowsAt R A (closure R A) ps (set rows s row)) (sym those) all;
    }

pub returns-clause-entries : goal.returns-clause-entries
returns-clause-entries g c s t l m =
    c.loop-state.invariant.entries s t (subst (λ (ps : List ℕ). In s ps) (sym (take_all c.loop-state.state-index c.args.order.now c.loop-state-test.false)) (c.requires.all s l)) m
