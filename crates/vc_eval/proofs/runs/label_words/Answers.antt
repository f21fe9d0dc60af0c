use Rattle.std.proofs.Common.{◌≡◌, ◌<◌, ◌++◌, [], ◌∷◌, get_or, length, map, ap, ap₂, sym, ◌∙◌, arith}
use Rattle.std.proofs.lemmas.List.{get_or-map, length-map, map-append, take_more}
use Rattle.vc_label.specs.Borrowed.{word_of}
use Rattle.vc_eval.specs.Runs.{words_of}
use Rattle.vc_eval.proofs.Pushes.{All-item}
use Rattle.vc_eval.proofs.runs.label_words.Goals as goal

pub parts-requires : goal.parts-requires
parts-requires g c =
    sym (All-item (λ w. length w ≡ c.args.tapes) (λ b. g.L.LabelSet.parts b.now) c.args.labels.now c.loop-number.number c.index-labels-number.result c.requires c.loop-number-test.true c.index-labels-number.is)

pub loop-number-preserved : goal.loop-number-preserved
loop-number-preserved g c =
    let parts = g.L.LabelSet.parts in
    let labels = c.args.labels.now in
    let words = words_of parts labels in
    let i = c.loop-number.number in
    let x = c.index-labels-number.result in
    let within : i < length words = omega (arith, c.loop-number-test.true, length-map labels (λ b. parts b.now)) in
    let read : word_of c.parts.result ≡ get_or words i [] = c.parts.ensures ∙ ap (λ b. parts b.now) c.index-labels-number.is ∙ sym (get_or-map (λ b. parts b.now) labels i x [] c.loop-number-test.true) in
    ap (map word_of) c.in_ok-push.ensures.items
    ∙ map-append word_of c.loop-number.words.items (c.parts.result ∷ [])
    ∙ ap₂ (λ ws w. ws ++ w ∷ []) c.loop-number.invariant read
    ∙ sym (take_more words i [] within)
