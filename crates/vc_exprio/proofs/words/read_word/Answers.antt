use Rattle.std.proofs.Common.{rules, ◌≡◌, length}
use Rattle.vc_exprio.specs.Words.{SpellsWord}
use Rattle.vc_exprio.specs.WordParts.{tapes_of}
use Rattle.vc_exprio.proofs.GrownWords.{too_many}
use Rattle.vc_exprio.proofs.words.read_word.Goals as goal

pub returns-then-len-tapes : goal.returns-then-len-tapes
returns-then-len-tapes g c =
    let sets = g.L.LabelSet.sets c.args.labels.now in
    let items = c.in-Ok-Some.parts.items in
    let h : SpellsWord c.args.text.now (tapes_of items) = search rules in
    let n : c.len.result ≡ length items = search rules in
    (tapes_of items, h, too_many sets items c.len.result c.tapes.result n c.tapes.ensures.value c.if-len-tapes.true)
