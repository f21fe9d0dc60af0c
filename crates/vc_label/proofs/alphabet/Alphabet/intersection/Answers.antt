use Rattle.vc_label.proofs.Bits.{and_bit, and_letters}
use Rattle.vc_label.proofs.alphabet.Alphabet.intersection.Goals as goal

pub invariant_of-result : goal.invariant_of-result
invariant_of-result c = record { letters = and_letters c.args.self.bits c.args.other.bits c.args.self.letters }

pub returns : goal.returns
returns c x = and_bit c.args.self.bits c.args.other.bits x
