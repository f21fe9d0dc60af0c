use Rattle.std.proofs.Common.{◌≡◌, ◌+◌, ◌∷◌, [], ◌++◌, ◌∙◌, map, take, true, false, sym, ap}
use Rattle.vc_aut.specs.Stored.{transition_of}
use Rattle.vc_closure.proofs.EmptyMoves.{moves_same, moves_then}
use Rattle.vc_closure.proofs.Places.{read_more}
use Rattle.vc_model.specs.Words.{is_empty}
use Rattle.vc_closure.proofs.moves.empty_among.Goals.{else-is_empty, then-is_empty+in_ok-append}
use Rattle.vc_closure.proofs.moves.empty_among.Goals as goal

pub loop-transition-preserved : goal.loop-transition-preserved
loop-transition-preserved g c =
    let of = transition_of {L = g.row.L.Denot} {S = g.row.S.Denot} {V = g.row.S-Value.Denot} g.L.LabelSet.parts in
    let i = c.loop-transition.transition-index in
    let t = c.transition-item.result in
    let ms = map of c.args.transitions.now in
    let more : take (i + 1) ms ≡ take i ms ++ of t ∷ [] = read_more of c.args.transitions.now i t c.loop-transition-test.true c.transition-item.is in
    elim c.if-is_empty.branch [
      | then-is_empty+in_ok-append w ↦ (
          let e : is_empty (g.L.LabelSet.parts t.label) ≡ true = sym c.is_empty.ensures ∙ w.if-is_empty.true in
          ap (λ v. v.items) w.row-is ∙ w.in_ok-append.ensures ∙ moves_then (take i ms) (take (i + 1) ms) (of t) c.loop-transition.row.items more c.loop-transition.invariant e
          )
      | else-is_empty w ↦ (
          let e : is_empty (g.L.LabelSet.parts t.label) ≡ false = sym c.is_empty.ensures ∙ w.if-is_empty.false in
          ap (λ v. v.items) w.row-is ∙ moves_same (take i ms) (take (i + 1) ms) (of t) c.loop-transition.row.items more c.loop-transition.invariant e
          )
    ]
