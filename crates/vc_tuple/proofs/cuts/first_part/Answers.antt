use Rattle.std.proofs.Common.{arith}
use Rattle.vc_tuple.proofs.Parts.{parts_after, parts_whole}
use Rattle.vc_tuple.proofs.cuts.first_part.Goals as goal

pub returns-then-byte-eq0 : goal.returns-then-byte-eq0
returns-then-byte-eq0 c = parts_after c.args.bytes.now c.loop-i.i (omega arith) c.loop-i.invariant c.if-byte-eq0.true

pub returns : goal.returns
returns c = parts_whole c.args.bytes.now (λ k l. c.loop-i.invariant k (omega arith))
