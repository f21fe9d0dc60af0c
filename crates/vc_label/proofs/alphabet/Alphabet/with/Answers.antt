use Rattle.std.proofs.Common.{arith}
use Rattle.std.proofs.lemmas.Grind.{common_steps}
use Rattle.vc_label.proofs.Alphabets.{set_bit, set_letter}
use Rattle.vc_label.proofs.alphabet.Alphabet.with.Goals as goal

pub invariant_of-result : goal.invariant_of-result
invariant_of-result c = record { letters = set_letter c.args.self.bits c.args.letter c.args.self.letters c.requires }

pub returns : goal.returns
returns c x = set_bit c.args.self.bits c.args.letter x (grind (arith, common_steps))
