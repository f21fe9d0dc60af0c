use Rattle.std.proofs.Common.{arith, ap, ◌≤◌, length}
use Rattle.vc_aut.specs.Stored.{transition_of}
use Rattle.vc_aut.proofs.Rows.{start_within_end, end_within, row_between}
use Rattle.vc_aut.proofs.automaton.Automaton.transitions_from.Goals as goal

pub offset_bounds-deref-start : goal.offset_bounds-deref-start
offset_bounds-deref-start g c =
    let parts = transition_of {L = g.row.L.Denot} {S = g.row.S.Denot} {V = g.row.S-Value.Denot} g.L.LabelSet.parts in
    let first : c.index-start.result.now ≤ c.index-end.result.now =
    start_within_end parts c.self.inside.transitions.items c.deref.result.now c.deref.ensures.value _ c.self.inside.starts.items c.self.invariant.1 c.args.s _ _ _ (ap (λ a. a.automaton.states) c.self.view_is) c.requires c.index-start.ensures c.index-end.ensures in
    let second : c.index-end.result.now ≤ length c.deref.result.now =
    end_within parts c.self.inside.transitions.items c.deref.result.now c.deref.ensures.value _ c.self.inside.starts.items c.self.invariant.1 c.args.s _ _ _ (ap (λ a. a.automaton.states) c.self.view_is) c.requires c.index-start.ensures c.index-end.ensures in
    omega arith

pub slice_bounds-result-count : goal.slice_bounds-result-count
slice_bounds-result-count g c =
    start_within_end (transition_of {L = g.row.L.Denot} {S = g.row.S.Denot} {V = g.row.S-Value.Denot} g.L.LabelSet.parts) c.self.inside.transitions.items c.deref.result.now c.deref.ensures.value _ c.self.inside.starts.items c.self.invariant.1 c.args.s _ _ _ (ap (λ a. a.automaton.states) c.self.view_is) c.requires c.index-start.ensures c.index-end.ensures

pub slice_bounds-result-start : goal.slice_bounds-result-start
slice_bounds-result-start g c = slice_bounds-result-count g c

pub slice_bounds-result-end : goal.slice_bounds-result-end
slice_bounds-result-end g c =
    end_within (transition_of {L = g.row.L.Denot} {S = g.row.S.Denot} {V = g.row.S-Value.Denot} g.L.LabelSet.parts) c.self.inside.transitions.items c.deref.result.now c.deref.ensures.value _ c.self.inside.starts.items c.self.invariant.1 c.args.s _ _ _ (ap (λ a. a.automaton.states) c.self.view_is) c.requires c.index-start.ensures c.index-end.ensures

pub returns : goal.returns
returns g c =
    row_between (transition_of g.L.LabelSet.parts) c.self.inside.transitions.items c.deref.result.now c.deref.ensures.value _ c.self.inside.starts.items c.self.invariant.1 c.args.s c.index-start.result.now c.index-end.result.now _ (ap (λ a. a.automaton.states) c.self.view_is) c.requires c.index-start.ensures c.index-end.ensures _ (ap (λ a. a.automaton.transitions) c.self.view_is) c.self.invariant.0.drawn.order
