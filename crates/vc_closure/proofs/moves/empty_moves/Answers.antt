use Rattle.std.proofs.Common.{rules, ◌≡◌, ◌∷◌, [], ◌++◌, ◌∙◌, List, ap}
use Rattle.vc_closure.specs.Searches.{moves_from}
use Rattle.vc_closure.specs.Settled.{AreAmong, moves_of}
use Rattle.vc_closure.specs.declared.rows.Entry.{Entry}
use Rattle.vc_closure.proofs.EmptyMoves.{all_among, among}
use Rattle.vc_closure.proofs.Matrices.{push_count, push_is}
use Rattle.vc_closure.proofs.Walks.{moves_member}
use Rattle.vc_model.specs.Automata.{Transition}
use Rattle.vc_closure.proofs.moves.empty_moves.Goals as goal

pub loop-state-preserved : goal.loop-state-preserved
loop-state-preserved g c =
    let R = g.S.Semiring.set in
    let A = c.args.aut.now.automaton in
    let vs = c.loop-state.moves.items in
    let v = c.in_ok-row.row in
    let ws = c.append.new.list.items in
    let s = c.loop-state.state in
    let pushed : ws ≡ vs ++ v ∷ [] = c.in_ok-append.ensures in
    let is : v.items ≡ moves_of (moves_from A s) = c.in_ok-row.ensures ∙ ap (λ (ts : List (Transition g.row.S-Value.Denot)). moves_of {S = g.row.S.Denot} ts) c.transitions_from.ensures in
    let row : AreAmong R A.states v.items =
    among R A.states (moves_from A s) v.items (λ t i. c.automata_are_valid.ensures.automaton.to t (moves_member A s t i).0) (λ t i. (c.automata_are_valid.ensures.moves t (moves_member A s t i).0).weight) is in
    record {
      count = push_count vs ws v s pushed c.loop-state.invariant.count;
      each = push_is (λ p (row : List (Entry g.row.S.Denot g.row.S-Value.Denot)). AreAmong R A.states row) vs ws v s pushed c.loop-state.invariant.count c.loop-state.invariant.each row;
      empty = push_is (λ p (row : List (Entry g.row.S.Denot g.row.S-Value.Denot)). row ≡ moves_of (moves_from A p)) vs ws v s pushed c.loop-state.invariant.count c.loop-state.invariant.empty is;
    }

pub returns-clause-moves : goal.returns-clause-moves
returns-clause-moves g c =
    let n = c.args.aut.now.automaton.states in
    let e : c.loop-state.state ≡ n = search rules in
    record {
      count = c.loop-state.invariant.count ∙ e;
      each = all_among g.S.Semiring.set n c.loop-state.state c.loop-state.moves.items c.loop-state.invariant.count c.loop-state.invariant.each;
    }
