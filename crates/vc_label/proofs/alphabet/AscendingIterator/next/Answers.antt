use Rattle.std.proofs.Common.{rules, arith, ap, sym, not, length, ◌∙◌, ◌&&◌, ◌||◌}
use Rattle.std.specs.Int.{w128, trailing_zeros}
use Rattle.std.specs.Bool.{◌==◌}
use Rattle.vc_label.proofs.Least.{least_first, least_is_letter, no_letters}
use Rattle.vc_label.specs.Alphabets.{has_letter}
use Rattle.vc_label.proofs.alphabet.AscendingIterator.next.Goals as goal

pub returns-then-self-eq0-clause-steps : goal.returns-then-self-eq0-clause-steps
returns-then-self-eq0-clause-steps c =
    let e = sym c.self.view_is ∙ no_letters c.self.inside.left c.if-self-eq0.true in
    (e, e)

pub with-requires : goal.with-requires
with-requires c = least_is_letter c.self.inside.left (omega arith) (search rules)

pub returns-clause-steps : goal.returns-clause-steps
returns-clause-steps c =
    let x = trailing_zeros w128 c.self.inside.left.bits in
    sym c.self.view_is ∙ least_first c.self.inside.left c.without-self-inside.result (omega arith) (search rules)
    (λ y. c.without-self-inside.ensures y ∙ ap (λ b. has_letter c.self.inside.left y && not b) (c.with.ensures y ∙ ap (λ b. b || (y == x)) (c.new.ensures y)))

pub returns-clause-goes : goal.returns-clause-goes
returns-clause-goes c =
    let e = returns-clause-steps c in
    record { on = λ f. (tt, tt, omega (arith, ap length e)); keeps = tt; rests = λ f. tt }
