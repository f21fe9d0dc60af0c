use Rattle.std.proofs.Common.{rules, ◌≡◌, ◌<◌, ◌+◌, [], ◌∷◌, ◌++◌, IsNone, ◌∙◌, ℕ, List, length, refl, sym, ap, ap₂, subst, arith}
use Rattle.std.specs.List.Sorted.{IsStrictlySortedBy}
use Rattle.vc_aut.specs.Order.{move_order}
use Rattle.vc_aut.specs.Stored.{transition_of}
use Rattle.vc_closure.specs.Closing.{next_entry, unit_entry}
use Rattle.vc_closure.specs.Formula.{IsEntryStep}
use Rattle.vc_closure.specs.Rows.{AreClear, IsMovesStep, IsRow, entries_at, matrix_of, moves_part, row_at}
use Rattle.vc_closure.specs.Searches.{moves_from}
use Rattle.vc_closure.specs.declared.rows.Entry.{Entry}
use Rattle.vc_closure.proofs.Causes.{past_pairs, told}
use Rattle.vc_closure.proofs.Closings.{less}
use Rattle.vc_closure.proofs.EntrySteps.{entry_step}
use Rattle.vc_closure.proofs.Matrices.{are_rows, over_states, push_count, push_is, rows_each}
use Rattle.vc_closure.proofs.Ordered.{moves_silent}
use Rattle.vc_closure.proofs.Pairs.{count_of, count_push, many_pairs, next_joined}
use Rattle.vc_closure.proofs.Walks.{moves_member}
use Rattle.vc_model.specs.Automata.{Transition}
use Rattle.vc_model.specs.Lists.{In, below}
use Rattle.vc_model.specs.Members.{NoRepeat-up_from}
use Rattle.vc_closure.proofs.rows.next_rows.Goals as goal

pub sum_row-requires-clause-to : goal.sum_row-requires-clause-to
sum_row-requires-clause-to g c t i =
    let m = moves_member c.args.aut.now.automaton c.loop-state.state t (subst (λ (ts : List (Transition g.row.S-Value.Denot)). In t ts) c.transitions_from-moves.ensures i) in
    subst (λ n. t.to < n) (sym c.requires.rows.count) (c.automata_are_valid.ensures.automaton.to t m.0)

pub sum_row-requires-clause-weight : goal.sum_row-requires-clause-weight
sum_row-requires-clause-weight g c t i =
    let m = moves_member c.args.aut.now.automaton c.loop-state.state t (subst (λ (ts : List (Transition g.row.S-Value.Denot)). In t ts) c.transitions_from-moves.ensures i) in
    (c.automata_are_valid.ensures.moves t m.0).weight

pub returns-in-Err-clause-fault : goal.returns-in-Err-clause-fault
returns-in-Err-clause-fault g c =
    let R = g.S.Semiring.set in
    let L = g.met.S.Semiring.laws in
    let A = c.args.aut.now.automaton in
    let rows = c.args.rows.now in
    let s = c.loop-state.state in
    let k : s < A.states = subst (λ m. s < m) c.states-state-end.ensures c.loop-state-test.true in
    let sorted : IsStrictlySortedBy move_order (moves_from A s) = c.transitions_are_in_order.ensures.moves A.transitions s c.automata_are_valid.ensures.labelled.drawn.order in
    told R (λ o h f. entry_step L (length c.args.aut.now.sets) A c.automata_are_valid.ensures.automaton s sorted (matrix_of R rows) rows k c.requires.rows.each (λ t i e q p l. refl) o
    (subst (λ (ts : List (Transition g.row.S-Value.Denot)). IsMovesStep R (unit_entry R s) rows ts o) c.transitions_from-moves.ensures h))
    (λ l h. absurd h) c.in-Err.fault c.in-Err.ensures.fault

pub returns-in_default-counted-clause-fault : goal.returns-in_default-counted-clause-fault
returns-in_default-counted-clause-fault g c =
    let of = transition_of {L = g.row.L.Denot} {S = g.row.S.Denot} {V = g.row.S-Value.Denot} g.L.LabelSet.parts in
    let R = g.S.Semiring.set in
    let L = g.met.S.Semiring.laws in
    let A = c.args.aut.now.automaton in
    let G = c.automata_are_valid.ensures.automaton in
    let n = length c.args.aut.now.sets in
    let rows = c.args.rows.now in
    let vs = c.loop-state.next.items in
    let v = c.in-Ok-take_row.row in
    let ws = vs ++ v ∷ [] in
    let pushed : ws ≡ vs ++ v ∷ [] = refl in
    let s = c.loop-state.state in
    let many : length c.sum_row.new.sums.sums.items ≡ A.states = c.in_default-sum_row.ensures.sums.count ∙ c.requires.rows.count in
    let entries : (t : ℕ) → row_at R v.items t ≡ next_entry R A (matrix_of R rows) s t = λ t.
    c.in-Ok-take_row.ensures.entries t ∙ c.in_default-sum_row.ensures.added t
    ∙ ap (R.plus (unit_entry R s t))
    (ap (λ (ts : List (Transition g.row.S-Value.Denot)). moves_part R rows ts t) c.transitions_from-moves.ensures ∙ moves_silent L A rows s t ∙ over_states L A G.to rows s t) in
    let is_row : IsRow R A.states v.items = subst (λ m. IsRow R m v.items) many c.in-Ok-take_row.ensures.row in
    let each : (p : ℕ) → p < s + 1 → IsRow R A.states (entries_at ws p) =
    push_is (λ p (row : List (Entry g.row.S.Denot g.row.S-Value.Denot)). IsRow R A.states row) vs ws v s pushed c.loop-state.invariant.count c.loop-state.invariant.each is_row in
    let all : (p : ℕ) → p < s + 1 → (t : ℕ) → row_at R (entries_at ws p) t ≡ next_entry R A (matrix_of R rows) p t =
    push_is (λ p (row : List (Entry g.row.S.Denot g.row.S-Value.Denot)). (t : ℕ) → row_at R row t ≡ next_entry R A (matrix_of R rows) p t) vs ws v s pushed c.loop-state.invariant.count c.loop-state.invariant.entries entries in
    let total : count_of ws (below (s + 1)) ≡ count_of vs (below s) + length v.items = count_push vs ws v s pushed c.loop-state.invariant.count in
    let size : c.len.result ≡ length v.items = search rules in
    let k : s < A.states = subst (λ m. s < m) c.states-state-end.ensures c.loop-state-test.true in
    let none : IsNone c.counted.result = search rules in
    let was : c.loop-state.count ≡ count_of vs (below s) = c.loop-state.invariant.counted in
    let over : 4000000 + A.states < count_of ws (below (s + 1)) = omega (arith, c.counted.ensures.none none, c.loop-state.invariant.most) in
    past_pairs R (IsEntryStep R A (matrix_of R rows)) n A c.too_many_pairs.result c.too_many_pairs.ensures
    (many_pairs R n A ws L (next_entry R A (matrix_of R rows)) (next_joined L g.S.Value.PartialEq.eq g.met.S.Semiring.same n A G (matrix_of R rows) c.requires.joined) (below (s + 1)) (NoRepeat-up_from 0 (s + 1))
    (λ p j. let z : p < s + 1 = less p (s + 1) j in omega arith) (rows_each R A.states (s + 1) ws (push_count vs ws v s pushed c.loop-state.invariant.count) each) (λ p q j l. all p (less p (s + 1) j) q) over)

pub loop-state-preserved : goal.loop-state-preserved
loop-state-preserved g c =
    let of = transition_of {L = g.row.L.Denot} {S = g.row.S.Denot} {V = g.row.S-Value.Denot} g.L.LabelSet.parts in
    let R = g.S.Semiring.set in
    let L = g.met.S.Semiring.laws in
    let A = c.args.aut.now.automaton in
    let G = c.automata_are_valid.ensures.automaton in
    let n = length c.args.aut.now.sets in
    let rows = c.args.rows.now in
    let vs = c.loop-state.next.items in
    let v = c.in-Ok-take_row.row in
    let ws = c.append.new.list.items in
    let pushed : ws ≡ vs ++ v ∷ [] = c.in-Ok-append.ensures in
    let s = c.loop-state.state in
    let many : length c.sum_row.new.sums.sums.items ≡ A.states = c.in_default-sum_row.ensures.sums.count ∙ c.requires.rows.count in
    let entries : (t : ℕ) → row_at R v.items t ≡ next_entry R A (matrix_of R rows) s t = λ t.
    c.in-Ok-take_row.ensures.entries t ∙ c.in_default-sum_row.ensures.added t
    ∙ ap (R.plus (unit_entry R s t))
    (ap (λ (ts : List (Transition g.row.S-Value.Denot)). moves_part R rows ts t) c.transitions_from-moves.ensures ∙ moves_silent L A rows s t ∙ over_states L A G.to rows s t) in
    let is_row : IsRow R A.states v.items = subst (λ m. IsRow R m v.items) many c.in-Ok-take_row.ensures.row in
    let each : (p : ℕ) → p < s + 1 → IsRow R A.states (entries_at ws p) =
    push_is (λ p (row : List (Entry g.row.S.Denot g.row.S-Value.Denot)). IsRow R A.states row) vs ws v s pushed c.loop-state.invariant.count c.loop-state.invariant.each is_row in
    let all : (p : ℕ) → p < s + 1 → (t : ℕ) → row_at R (entries_at ws p) t ≡ next_entry R A (matrix_of R rows) p t =
    push_is (λ p (row : List (Entry g.row.S.Denot g.row.S-Value.Denot)). (t : ℕ) → row_at R row t ≡ next_entry R A (matrix_of R rows) p t) vs ws v s pushed c.loop-state.invariant.count c.loop-state.invariant.entries entries in
    let total : count_of ws (below (s + 1)) ≡ count_of vs (below s) + length v.items = count_push vs ws v s pushed c.loop-state.invariant.count in
    let size : c.len.result ≡ length v.items = search rules in
    record {
      count = push_count vs ws v s pushed c.loop-state.invariant.count;
      each = each;
      entries = all;
      clear = subst (λ m. AreClear R m c.take_row.new.sums.sums.items c.take_row.new.sums.touched.items) many c.in-Ok-take_row.ensures.sums;
      few = c.in-Some.ensures.some.1;
      most = c.loop-state.invariant.most;
      counted = c.in-Some.ensures.some.0 ∙ ap₂ (λ a b. a + b) c.loop-state.invariant.counted size ∙ sym total;
    }

pub returns-clause-rows : goal.returns-clause-rows
returns-clause-rows g c =
    let R = g.S.Semiring.set in
    let n = c.args.aut.now.automaton.states in
    let e : c.loop-state.state ≡ n = search rules in
    are_rows R n c.loop-state.next.items (c.loop-state.invariant.count ∙ e) (λ p l. c.loop-state.invariant.each p (subst (λ k. p < k) (sym e) l))

pub returns-clause-entries : goal.returns-clause-entries
returns-clause-entries g c s t k l =
    let e : c.loop-state.state ≡ c.args.aut.now.automaton.states = search rules in
    c.loop-state.invariant.entries s (subst (λ m. s < m) (sym e) k) t
