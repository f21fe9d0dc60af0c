use Rattle.std.proofs.Common.{arith, ◌≤◌, ◌+◌, ◌*◌, ◌-◌, ◌^◌, get_or}
use Rattle.vc_num.specs.Decimals.{number_of_digits}
use Rattle.vc_num.proofs.Digits.{digit_at, first_digits_past, past_if_none, all_read, kept_below, none_past}
use Rattle.vc_num.proofs.decimals.number_in.Goals as goal

pub overflow_sub-byte : goal.overflow_sub-byte
overflow_sub-byte c = digit_at c.args.digits.now c.loop-byte.byte-index c.requires (omega arith)

pub returns-in_err-number : goal.returns-in_err-number
returns-in_err-number c =
    let next = 10 * c.loop-byte.number + (get_or c.args.digits.now c.loop-byte.byte-index 0 - 48) in
    let past : 2 ^ 128 ≤ next = past_if_none next (2 ^ 128) c.followed.result c.followed.ensures c.in_err-number.was in
    none_past (number_of_digits c.args.digits.now) (2 ^ 128) c.from_residual.result c.from_residual.ensures (first_digits_past c.loop-byte.number c.loop-byte.byte-index (number_of_digits c.args.digits.now) (2 ^ 128) c.args.digits.now (omega arith) c.loop-byte.invariant.0 past)

pub returns : goal.returns
returns c =
    kept_below c.loop-byte.number (number_of_digits c.args.digits.now) (2 ^ 128) (all_read c.loop-byte.number c.loop-byte.byte-index (number_of_digits c.args.digits.now) c.args.digits.now c.loop-byte-test.false c.loop-byte.invariant.0) c.loop-byte.invariant.1
