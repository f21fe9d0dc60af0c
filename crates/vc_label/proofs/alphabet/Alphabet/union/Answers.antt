use Rattle.vc_label.proofs.Alphabets.{or_bit, or_letters}
use Rattle.vc_label.proofs.alphabet.Alphabet.union.Goals as goal

pub invariant_of-result : goal.invariant_of-result
invariant_of-result c = record { letters = or_letters c.args.self.bits c.args.other.bits c.args.self.letters c.args.other.letters }

pub returns : goal.returns
returns c x = or_bit c.args.self.bits c.args.other.bits x
