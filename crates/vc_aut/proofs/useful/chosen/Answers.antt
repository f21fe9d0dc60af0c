use Rattle.std.proofs.Common.{◌<◌, ℕ, ◌∷◌, [], ◌++◌, length, slice_index_or, map, take, sym, ap, ap₂, ◌∙◌, arith}
use Rattle.std.proofs.lemmas.List.{get_or_default, map-append, take_more}
use Rattle.vc_aut.proofs.Reached.{In-read}
use Rattle.vc_aut.proofs.useful.chosen.Goals as goal

pub bounds-weights-state : goal.bounds-weights-state
bounds-weights-state g c = c.requires (slice_index_or c.args.states.now c.loop-state.state-index 0) (In-read c.args.states.now c.loop-state.state-index 0 c.loop-state-test.true)

pub offset_bounds-weights-state : goal.offset_bounds-weights-state
offset_bounds-weights-state g c =
    let l : slice_index_or c.args.states.now c.loop-state.state-index 0 < length c.args.weights.now = c.requires (slice_index_or c.args.states.now c.loop-state.state-index 0) (In-read c.args.states.now c.loop-state.state-index 0 c.loop-state-test.true) in
    omega arith

pub loop-state-preserved : goal.loop-state-preserved
loop-state-preserved g c =
    let i = c.loop-state.state-index in
    let s = slice_index_or c.args.states.now i 0 in
    let z = g.S.Semiring.set.zero in
    let ws = c.args.weights.now in
    let l : s < length ws = c.requires s (In-read c.args.states.now i 0 c.loop-state-test.true) in
    let w : ℕ → g.row.S-Value.Denot = λ q. slice_index_or ws q z in
    c.in_ok-push.ensures.items
    ∙ ap₂ (λ xs x. xs ++ x ∷ []) c.loop-state.invariant (c.index-weights-state.is ∙ get_or_default ws s c.index-weights-state.result z l)
    ∙ sym (map-append w (take i c.args.states.now) (s ∷ []))
    ∙ ap (map w) (sym (take_more c.args.states.now i 0 c.loop-state-test.true))
