use Rattle.std.proofs.Common.{rules, ◌-◌}
use Rattle.vc_label.proofs.Bits.{less_bit, and_letters}
use Rattle.vc_label.proofs.alphabet.Alphabet.without.Goals as goal

pub invariant_of-result : goal.invariant_of-result
invariant_of-result c = record { letters = and_letters c.args.self.bits (340282366920938463463374607431768211455 - c.args.other.bits) c.args.self.letters }

pub returns : goal.returns
returns c x = less_bit c.args.self.bits c.args.other.bits x (search rules) (search rules)
