use Rattle.std.proofs.Common.{arith, ap, ◌∙◌, ◌||◌}
use Rattle.vc_label.proofs.Bits.{letters_between, range_bit, range_letters, shifts_ordered}
use Rattle.vc_label.specs.Alphabets.{has_letter}
use Rattle.vc_label.proofs.alphabet.Alphabet.with_range.Goals as goal

pub overflow_sub-result : goal.overflow_sub-result
overflow_sub-result c = shifts_ordered c.max-low.result c.min-high.result (omega arith) (omega arith)

pub invariant_of-result : goal.invariant_of-result
invariant_of-result c = record { letters = range_letters c.args.self.bits c.max-low.result c.min-high.result (omega arith) (omega arith) (omega arith) c.args.self.letters }

pub returns : goal.returns
returns c x =
    range_bit c.args.self.bits c.max-low.result c.min-high.result x (omega arith) (omega arith)
    ∙ ap (λ b. has_letter c.args.self x || b) (rw (c.max-low.ensures, c.min-high.ensures) (letters_between c.args.first c.args.last x))
