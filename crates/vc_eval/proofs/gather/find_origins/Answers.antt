use Rattle.std.proofs.Common.{◌≡◌, ◌<◌, ◌≤◌, ◌+◌, IfSome, [], get_or, length, map, ap, sym, ◌∙◌, subst, arith}
use Rattle.std.proofs.lemmas.List.{get_or-map}
use Rattle.vc_label.specs.Borrowed.{word_of}
use Rattle.vc_eval.specs.Runs.{IsLabelHere, IsZeroRow, origin}
use Rattle.vc_eval.proofs.Pushes.{All-item}
use Rattle.vc_eval.proofs.RunSteps.{one_origin_more, some_row}
use Rattle.vc_eval.proofs.gather.find_origins.Goals as goal

pub origin_of-origin-requires-clause-here : goal.origin_of-origin-requires-clause-here
origin_of-origin-requires-clause-here g c =
    All-item (IsLabelHere (word_of c.args.word) c.args.states (word_of c.args.front) c.args.at (length c.args.rows.now)) word_of c.args.labels.now c.loop-number.number c.index-labels-number.result c.requires.here c.loop-number-test.true c.index-labels-number.is

pub is_busy-busy-requires : goal.is_busy-busy-requires
is_busy-busy-requires g c =
    let w = word_of c.args.word in
    let f = word_of c.args.front in
    let cells = length c.args.rows.now in
    let l = word_of c.index-labels-number.result in
    let here : IsLabelHere w c.args.states f c.args.at cells l = All-item (IsLabelHere w c.args.states f c.args.at cells) word_of c.args.labels.now c.loop-number.number c.index-labels-number.result c.requires.here c.loop-number-test.true c.index-labels-number.is in
    subst (λ o. IfSome o (λ b. b + c.args.states ≤ cells)) (sym c.origin_of-origin.ensures) (some_row w c.args.states f c.args.at cells l here)

pub loop-number-preserved : goal.loop-number-preserved
loop-number-preserved g c =
    let R = g.S.Semiring.set in
    let w = word_of c.args.word in
    let f = word_of c.args.front in
    let n = c.args.states in
    let at = c.args.at in
    let cells = length c.args.rows.now in
    let labels = c.args.labels.now in
    let words = map word_of labels in
    let i = c.loop-number.number in
    let o = c.origin_of-origin.result in
    let x = c.index-labels-number.result in
    let read : word_of x ≡ get_or words i [] = ap word_of c.index-labels-number.is ∙ sym (get_or-map word_of labels i x [] c.loop-number-test.true) in
    let l : i < length c.loop-number.origins = omega (arith, c.loop-number.auto.origins, c.requires.origins, c.loop-number-test.true) in
    record {
      origins = one_origin_more (λ k p. p ≡ origin w n f at cells (get_or words k [])) c.loop-number.origins i o l c.loop-number.invariant.origins (c.origin_of-origin.ensures ∙ ap (origin w n f at cells) read);
      idle = λ e. one_origin_more (λ k p. IsZeroRow R n c.args.rows.now p) c.loop-number.origins i o l (c.loop-number.invariant.idle (c.is_busy-busy.ensures.before e)) (c.is_busy-busy.ensures.row e);
    }
