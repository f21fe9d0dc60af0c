use Rattle.std.proofs.Common.{rules, ◌≡◌, ◌<◌, ◌∙◌, ap₂, length}
use Rattle.std.specs.Ordering.{ordering_then}
use Rattle.vc_aut.specs.Stored.{transition_of}
use Rattle.vc_join.specs.Orders.{item_order}
use Rattle.vc_join.specs.Shuffles.{left_item, right_item}
use Rattle.vc_join.proofs.Mixing.{order_of_both}
use Rattle.vc_join.proofs.mix.order_of_next.Goals as goal

pub returns : goal.returns
returns g c =
    let some_left : 0 < length c.args.lefts.now = search rules in
    let some_right : 0 < length c.args.rights.now = search rules in
    let T = transition_of g.L.LabelSet.parts in
    let k = c.args.pair in
    let x = c.index-lefts-0.result in
    let y = c.index-rights-0.result in
    let told : c.then-2.result ≡ item_order (left_item k.1 (T x)) (right_item k.0 (T y))
    = c.then-2.ensures ∙ ap₂ ordering_then (c.cmp.ensures ∙ g.met.L.LabelSet.ordered x.label y.label) (c.then.ensures ∙ ap₂ ordering_then c.cmp-2.ensures c.cmp-3.ensures) in
    told ∙ order_of_both k T c.args.lefts.now c.args.rights.now x y some_left some_right c.index-lefts-0.is c.index-rights-0.is
