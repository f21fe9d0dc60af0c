use Rattle.std.proofs.Common.{arith, ◌≡◌, length}
use Rattle.vc_label.specs.Borrowed.{word_of}
use Rattle.vc_tuple.proofs.Over.{over_four}
use Rattle.vc_tuple.proofs.tuple.Tuple.is_over.Goals as goal

pub returns-then-are_parts-2 : goal.returns-then-are_parts-2
returns-then-are_parts-2 c =
    let n : length (word_of c.args.word) ≡ 4 = omega arith in
    rw c.in-Four-eq4.is-0 (over_four c.in-Four-eq4.a c.in-Four-eq4.b c.in-Four-eq4.c c.in-Four-eq4.d (word_of c.args.word)
    c.tape-in-Four-eq4.result.now c.tape-in-Four-eq4-2.result.now c.tape-then-are_parts-2.result.now c.tape-then-are_parts-2-2.result.now
    c.are_parts-then-are_parts-2.result n
    c.tape-in-Four-eq4.ensures.value c.tape-in-Four-eq4-2.ensures.value c.tape-then-are_parts-2.ensures.value c.tape-then-are_parts-2-2.ensures.value
    (c.are_parts-in-Four-eq4.ensures.0 c.if-are_parts-2.true) c.are_parts-then-are_parts-2.ensures)
