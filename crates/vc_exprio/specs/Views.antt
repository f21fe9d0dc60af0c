-- What steps of the code stand for.
use Rattle.vc_lex.specs.Views.{seen}
use Rattle.vc_exprio.specs.declared.step.Step.{Step}
use Rattle.vc_exprio.specs.declared.step.Step.TheVariants as code
use Rattle.vc_exprio.specs.Steps.{Op, zero_op, part_op, more_op, class_op, group_op, star_op, weight_op, product_op, and_op, shuffle_op, sum_op}

abbrev pub step_seen : Step → Op
step_seen code.Zero = zero_op
step_seen (code.Part t) = part_op (seen t)
step_seen (code.More t) = more_op (seen t)
step_seen (code.Class t) = class_op (seen t)
step_seen code.Group = group_op
step_seen code.Star = star_op
step_seen (code.Weight t) = weight_op (seen t)
step_seen (code.Product n) = product_op n
step_seen code.And = and_op
step_seen code.Shuffle = shuffle_op
step_seen (code.Sum n) = sum_op n
