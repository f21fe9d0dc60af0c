use Rattle.std.proofs.Common.{◌<◌, length, rules}
use Rattle.vc_rat.proofs.Multiplying.{at-start, entry-in, at-more, at-failure, failed}
use Rattle.vc_rat.proofs.splits.multiply.Goals as goal

pub loop-x-init : goal.loop-x-init
loop-x-init c = at-start c.args.by c.args.row.now

pub mul-requires-clause-left_in : goal.mul-requires-clause-left_in
mul-requires-clause-left_in c =
    let inside : c.loop-x.x-index < length c.args.row.now = search rules in
    entry-in c.loop-x.row c.args.row.now c.loop-x.x-index c.x-item.result inside c.loop-x.invariant.rest c.requires.row_in

pub returns-in_err-x-clause-err : goal.returns-in_err-x-clause-err
returns-in_err-x-clause-err c =
    let inside : c.loop-x.x-index < length c.args.row.now = search rules in
    failed _ (at-failure c.args.by c.args.row.now c.loop-x.row c.loop-x.x-index c.x-item.result c.mul.result _ c.loop-x.invariant inside c.mul.ensures c.in_err-x.was)

pub loop-x-preserved : goal.loop-x-preserved
loop-x-preserved c =
    let inside : c.loop-x.x-index < length c.args.row.now = search rules in
    let inside_new : c.loop-x.x-index < length c.loop-x.row = search rules in
    at-more c.args.by c.args.row.now c.loop-x.row c.loop-x.x-index c.x-item.result c.in_ok-x.field-0 c.mul.result c.loop-x.invariant inside inside_new c.mul.ensures c.in_ok-x.was
