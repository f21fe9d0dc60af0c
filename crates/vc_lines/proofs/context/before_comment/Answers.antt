use Rattle.std.proofs.Common.{◌≡◌, ◌<◌, ◌+◌, length, false, subst, sym, rules, arith}
use Rattle.vc_lines.specs.Contexts.{before, begins_comment}
use Rattle.vc_lines.proofs.BytesBefore.{still_before}
use Rattle.vc_lines.proofs.context.before_comment.Goals as goal

pub loop-rest-preserved : goal.loop-rest-preserved
loop-rest-preserved c =
    let rest = c.loop-rest.rest.now in
    let h : 0 < length rest = search rules in
    let e : begins_comment rest ≡ false = search rules in
    let s = still_before begins_comment c.args.text.now rest h e c.loop-rest.invariant.0 in
    let l = c.after_one-rest.ensures.shorter h in
    (subst (λ r. before begins_comment c.args.text.now + length r ≡ before begins_comment r + length c.args.text.now) (sym c.after_one-rest.ensures.value) s, omega (arith, l, c.loop-rest.invariant.1))
