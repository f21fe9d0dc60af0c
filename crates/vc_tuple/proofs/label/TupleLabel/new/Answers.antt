use Rattle.std.proofs.Common.{arith}
use Rattle.vc_label.specs.Borrowed.{word_of}
use Rattle.vc_tuple.proofs.Parts.{first_tape, more_tapes}
use Rattle.vc_tuple.proofs.label.TupleLabel.new.Goals as goal

pub loop-i-init : goal.loop-i-init
loop-i-init c = rw c.in_ok-bytes.ensures.ok (first_tape c.tape.result.now (word_of c.args.word) c.tape.ensures.letters (omega arith) c.tape.ensures.value)

pub loop-i-preserved : goal.loop-i-preserved
loop-i-preserved c = rw (c.in_ok-extend_from_slice.ensures.ok, c.in_ok-push.ensures.ok) (more_tapes c.loop-i.bytes.items c.tape-in-loop-i.result.now (word_of c.args.word) c.loop-i.i c.tape-in-loop-i.ensures.letters c.loop-i.invariant (omega arith) c.tape-in-loop-i.ensures.value)
