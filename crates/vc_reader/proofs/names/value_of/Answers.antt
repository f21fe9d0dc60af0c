use Rattle.vc_reader.proofs.Digits.{product_fits, sum_fits, value_below}
use Rattle.vc_reader.proofs.names.value_of.Goals as goal

pub overflow_mul-value : goal.overflow_mul-value
overflow_mul-value c = product_fits c.loop-digit.value c.loop-digit.digit-index c.args.name.now c.requires c.loop-digit.invariant.1 c.loop-digit-test.true

pub overflow_add-value : goal.overflow_add-value
overflow_add-value c = sum_fits c.loop-digit.value c.loop-digit.digit-index _ c.args.name.now c.requires c.loop-digit.invariant.1 c.loop-digit-test.true (c.type_inv.name c.loop-digit.digit-index)

pub returns-clause-below : goal.returns-clause-below
returns-clause-below c = value_below c.loop-digit.value c.loop-digit.digit-index c.args.name.now c.requires c.loop-digit.invariant.1 c.loop-digit.auto.digit-index-end
