use Rattle.std.proofs.Common.{rules, ◌≡◌, ◌<◌, ◌∙◌, ℕ, List, sym, subst}
use Rattle.vc_closure.specs.Closing.{unit_entry}
use Rattle.vc_closure.specs.Rows.{IsRow, row_at}
use Rattle.vc_closure.specs.declared.rows.Entry.{Entry}
use Rattle.vc_closure.proofs.Matrices.{are_rows, one_entry, one_entry_at, push_count, push_is}
use Rattle.vc_closure.proofs.rounds.unit_rows.Goals as goal

pub loop-state-preserved : goal.loop-state-preserved
loop-state-preserved g c =
    let R = g.S.Semiring.set in
    let vs = c.loop-state.rows.items in
    let ws = c.append.new.list.items in
    let v = c.in_ok-row.row in
    let s = c.loop-state.state in
    record {
      count = push_count vs ws v s c.in_ok-append.ensures c.loop-state.invariant.count;
      each = push_is (λ p (row : List (Entry g.row.S.Denot g.row.S-Value.Denot)). IsRow R c.args.states row) vs ws v s c.in_ok-append.ensures c.loop-state.invariant.count c.loop-state.invariant.each (one_entry g.met.S.Semiring.laws g.met.S.Semiring.ranges c.args.states s v.items c.loop-state-test.true c.in_ok-row.ensures);
      entries = push_is (λ p (row : List (Entry g.row.S.Denot g.row.S-Value.Denot)). (t : ℕ) → row_at R row t ≡ unit_entry R p t) vs ws v s c.in_ok-append.ensures c.loop-state.invariant.count c.loop-state.invariant.entries (λ t. one_entry_at g.met.S.Semiring.laws s t v.items c.in_ok-row.ensures);
    }

pub returns-clause-rows : goal.returns-clause-rows
returns-clause-rows g c =
    let R = g.S.Semiring.set in
    let e : c.loop-state.state ≡ c.args.states = search rules in
    are_rows R c.args.states c.loop-state.rows.items (c.loop-state.invariant.count ∙ e) (λ p l. c.loop-state.invariant.each p (subst (λ n. p < n) (sym e) l))
