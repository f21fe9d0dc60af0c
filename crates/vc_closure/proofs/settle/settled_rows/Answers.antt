use Rattle.std.proofs.Common.{rules, ◌≡◌, ◌<◌, ◌+◌, ◌-◌, [], ◌∷◌, ◌++◌, IsNone, ◌∙◌, ℕ, List, length, refl, sym, ap, ap₂, subst, arith, Option, IfSome}
use Rattle.std.specs.Global.{Vec}
use Rattle.vc_closure.specs.Closing.{closure}
use Rattle.vc_closure.specs.Formula.{IsMatrixStep}
use Rattle.vc_closure.specs.Rows.{AreClear, IsRow, entries_at, row_at}
use Rattle.vc_closure.specs.Settled.{AreMoves, AreWaiting, IsSettled}
use Rattle.vc_closure.specs.declared.rows.Entry.{Entry}
use Rattle.vc_closure.proofs.Causes.{past_pairs}
use Rattle.vc_closure.proofs.Closings.{less}
use Rattle.vc_closure.proofs.Matrices.{are_rows, push_count, push_is, rows_each}
use Rattle.vc_closure.proofs.Pairs.{count_of, count_push, many_pairs, matrix_joined}
use Rattle.vc_closure.proofs.Settling.{row_is}
use Rattle.vc_model.specs.Lists.{below}
use Rattle.vc_model.specs.Members.{NoRepeat-up_from}
use Rattle.vc_closure.proofs.settle.settled_rows.Goals as goal

pub settled_row-requires-clause-state : goal.settled_row-requires-clause-state
settled_row-requires-clause-state g c =
    let n = c.args.aut.now.automaton.states in
    let s = c.loop-state.state in
    let k : s < n = subst (λ m. s < m) c.states-state-end.ensures c.loop-state-test.true in
    let many : length c.deref.result.now ≡ n = ap (λ (ms : List (Vec (Entry g.row.S.Denot g.row.S-Value.Denot))). length ms) c.deref.ensures.value ∙ c.in-Ok.ensures.moves.count in
    subst (λ m. s < m) (sym many) k

pub settled_row-requires-clause-moves : goal.settled_row-requires-clause-moves
settled_row-requires-clause-moves g c =
    let R = g.S.Semiring.set in
    let ms = c.in-Ok.moves.items in
    subst (λ (ms : List (Vec (Entry g.row.S.Denot g.row.S-Value.Denot))). AreMoves R (length ms) ms) (sym c.deref.ensures.value) (subst (λ n. AreMoves R n ms) (sym c.in-Ok.ensures.moves.count) c.in-Ok.ensures.moves)

pub settled_row-requires-clause-sums : goal.settled_row-requires-clause-sums
settled_row-requires-clause-sums g c =
    let n = c.args.aut.now.automaton.states in
    let many : length c.deref.result.now ≡ n = ap (λ (ms : List (Vec (Entry g.row.S.Denot g.row.S-Value.Denot))). length ms) c.deref.ensures.value ∙ c.in-Ok.ensures.moves.count in
    subst (λ m. AreClear g.S.Semiring.set m c.loop-state.sums.sums.items c.loop-state.sums.touched.items) (sym many) c.loop-state.invariant.clear

pub settled_row-requires-clause-waiting : goal.settled_row-requires-clause-waiting
settled_row-requires-clause-waiting g c =
    let n = c.args.aut.now.automaton.states in
    let many : length c.deref.result.now ≡ n = ap (λ (ms : List (Vec (Entry g.row.S.Denot g.row.S-Value.Denot))). length ms) c.deref.ensures.value ∙ c.in-Ok.ensures.moves.count in
    subst (λ m. AreWaiting m c.loop-state.waiting.queue.items c.loop-state.waiting.marks.items) (sym many) c.loop-state.invariant.waiting

pub returns-in_default-counted-clause-fault : goal.returns-in_default-counted-clause-fault
returns-in_default-counted-clause-fault g c =
    let R = g.S.Semiring.set in
    let L = g.met.S.Semiring.laws in
    let A = c.args.aut.now.automaton in
    let G = c.automata_are_valid.ensures.automaton in
    let n = length c.args.aut.now.sets in
    let vs = c.loop-state.rows.items in
    let v = c.in-Some.row in
    let ws = vs ++ v ∷ [] in
    let pushed : ws ≡ vs ++ v ∷ [] = refl in
    let s = c.loop-state.state in
    let k : s < A.states = subst (λ m. s < m) c.states-state-end.ensures c.loop-state-test.true in
    let many : length c.deref.result.now ≡ A.states = ap (λ (ms : List (Vec (Entry g.row.S.Denot g.row.S-Value.Denot))). length ms) c.deref.ensures.value ∙ c.in-Ok.ensures.moves.count in
    let found : IsSettled R c.deref.result.now s (row_at R v.items) =
    subst (λ (o : Option (Vec (Entry g.row.S.Denot g.row.S-Value.Denot))). IfSome o (λ row. IsSettled R c.deref.result.now s (row_at R row.items))) c.in-Some.is c.in-Ok-settled_row.ensures.settled in
    let settled : IsSettled R c.in-Ok.moves.items s (row_at R v.items) =
    subst (λ (ms : List (Vec (Entry g.row.S.Denot g.row.S-Value.Denot))). IsSettled R ms s (row_at R v.items)) c.deref.ensures.value found in
    let entries : (t : ℕ) → t < A.states → row_at R v.items t ≡ closure R A s t = λ t l.
    row_is L (g.met.S.Semiring.absorbs.0 c.requires) n A G c.in-Ok.moves.items c.in-Ok.ensures.moves.count c.in-Ok.ensures.empty s (row_at R v.items) settled t k l in
    let row : IsRow R (length c.deref.result.now) v.items =
    subst (λ (o : Option (Vec (Entry g.row.S.Denot g.row.S-Value.Denot))). IfSome o (λ row. IsRow R (length c.deref.result.now) row.items)) c.in-Some.is c.in-Ok-settled_row.ensures.row in
    let is_row : IsRow R A.states v.items = subst (λ m. IsRow R m v.items) many row in
    let each : (p : ℕ) → p < s + 1 → IsRow R A.states (entries_at ws p) =
    push_is (λ p (row : List (Entry g.row.S.Denot g.row.S-Value.Denot)). IsRow R A.states row) vs ws v s pushed c.loop-state.invariant.count c.loop-state.invariant.each is_row in
    let all : (p : ℕ) → p < s + 1 → (t : ℕ) → t < A.states → row_at R (entries_at ws p) t ≡ closure R A p t =
    push_is (λ p (row : List (Entry g.row.S.Denot g.row.S-Value.Denot)). (t : ℕ) → t < A.states → row_at R row t ≡ closure R A p t) vs ws v s pushed c.loop-state.invariant.count c.loop-state.invariant.entries entries in
    let total : count_of ws (below (s + 1)) ≡ count_of vs (below s) + length v.items = count_push vs ws v s pushed c.loop-state.invariant.count in
    let size : c.len.result ≡ length v.items = search rules in
    let none : IsNone c.counted.result = search rules in
    let was : c.loop-state.count ≡ count_of vs (below s) = c.loop-state.invariant.counted in
    let over : 4000000 + A.states < count_of ws (below (s + 1)) = omega (arith, c.counted.ensures.none none, c.loop-state.invariant.most) in
    past_pairs R (IsMatrixStep R A) n A c.too_many_pairs.result c.too_many_pairs.ensures
    (many_pairs R n A ws L (closure R A) (matrix_joined L g.S.Value.PartialEq.eq g.met.S.Semiring.same n A G (A.states - 1)) (below (s + 1)) (NoRepeat-up_from 0 (s + 1))
    (λ p j. let z : p < s + 1 = less p (s + 1) j in omega arith) (rows_each R A.states (s + 1) ws (push_count vs ws v s pushed c.loop-state.invariant.count) each) (λ p q j l. all p (less p (s + 1) j) q l) over)

pub loop-state-preserved : goal.loop-state-preserved
loop-state-preserved g c =
    let R = g.S.Semiring.set in
    let L = g.met.S.Semiring.laws in
    let A = c.args.aut.now.automaton in
    let G = c.automata_are_valid.ensures.automaton in
    let n = length c.args.aut.now.sets in
    let vs = c.loop-state.rows.items in
    let v = c.in-Some.row in
    let ws = c.append.new.list.items in
    let pushed : ws ≡ vs ++ v ∷ [] = c.in-Ok-append.ensures in
    let s = c.loop-state.state in
    let k : s < A.states = subst (λ m. s < m) c.states-state-end.ensures c.loop-state-test.true in
    let many : length c.deref.result.now ≡ A.states = ap (λ (ms : List (Vec (Entry g.row.S.Denot g.row.S-Value.Denot))). length ms) c.deref.ensures.value ∙ c.in-Ok.ensures.moves.count in
    let found : IsSettled R c.deref.result.now s (row_at R v.items) =
    subst (λ (o : Option (Vec (Entry g.row.S.Denot g.row.S-Value.Denot))). IfSome o (λ row. IsSettled R c.deref.result.now s (row_at R row.items))) c.in-Some.is c.in-Ok-settled_row.ensures.settled in
    let settled : IsSettled R c.in-Ok.moves.items s (row_at R v.items) =
    subst (λ (ms : List (Vec (Entry g.row.S.Denot g.row.S-Value.Denot))). IsSettled R ms s (row_at R v.items)) c.deref.ensures.value found in
    let entries : (t : ℕ) → t < A.states → row_at R v.items t ≡ closure R A s t = λ t l.
    row_is L (g.met.S.Semiring.absorbs.0 c.requires) n A G c.in-Ok.moves.items c.in-Ok.ensures.moves.count c.in-Ok.ensures.empty s (row_at R v.items) settled t k l in
    let row : IsRow R (length c.deref.result.now) v.items =
    subst (λ (o : Option (Vec (Entry g.row.S.Denot g.row.S-Value.Denot))). IfSome o (λ row. IsRow R (length c.deref.result.now) row.items)) c.in-Some.is c.in-Ok-settled_row.ensures.row in
    let is_row : IsRow R A.states v.items = subst (λ m. IsRow R m v.items) many row in
    let total : count_of ws (below (s + 1)) ≡ count_of vs (below s) + length v.items = count_push vs ws v s pushed c.loop-state.invariant.count in
    let size : c.len.result ≡ length v.items = search rules in
    let clear : AreClear R (length c.deref.result.now) c.settled_row.new.sums.sums.items c.settled_row.new.sums.touched.items =
    subst (λ (o : Option (Vec (Entry g.row.S.Denot g.row.S-Value.Denot))). IfSome o (λ row. AreClear R (length c.deref.result.now) c.settled_row.new.sums.sums.items c.settled_row.new.sums.touched.items)) c.in-Some.is c.in-Ok-settled_row.ensures.sums in
    record {
      count = push_count vs ws v s pushed c.loop-state.invariant.count;
      each = push_is (λ p (row : List (Entry g.row.S.Denot g.row.S-Value.Denot)). IsRow R A.states row) vs ws v s pushed c.loop-state.invariant.count c.loop-state.invariant.each is_row;
      entries = push_is (λ p (row : List (Entry g.row.S.Denot g.row.S-Value.Denot)). (t : ℕ) → t < A.states → row_at R row t ≡ closure R A p t) vs ws v s pushed c.loop-state.invariant.count c.loop-state.invariant.entries entries;
      clear = subst (λ m. AreClear R m c.settled_row.new.sums.sums.items c.settled_row.new.sums.touched.items) many clear;
      waiting = subst (λ m. AreWaiting m c.settled_row.new.waiting.queue.items c.settled_row.new.waiting.marks.items) many c.in-Ok-settled_row.ensures.waiting;
      few = c.in-Some-counted.ensures.some.1;
      most = c.loop-state.invariant.most;
      counted = c.in-Some-counted.ensures.some.0 ∙ ap₂ (λ a b. a + b) c.loop-state.invariant.counted size ∙ sym total;
    }

pub returns-clause-rows : goal.returns-clause-rows
returns-clause-rows g c =
    let R = g.S.Semiring.set in
    let n = c.args.aut.now.automaton.states in
    let e : c.loop-state.state ≡ n = search rules in
    are_rows R n c.loop-state.rows.items (c.loop-state.invariant.count ∙ e) (λ p l. c.loop-state.invariant.each p (subst (λ k. p < k) (sym e) l))

pub returns-clause-entries : goal.returns-clause-entries
returns-clause-entries g c s t k l =
    let e : c.loop-state.state ≡ c.args.aut.now.automaton.states = search rules in
    c.loop-state.invariant.entries s (subst (λ m. s < m) (sym e) k) t l
