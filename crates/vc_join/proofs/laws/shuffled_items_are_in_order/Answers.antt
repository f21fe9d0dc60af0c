use Rattle.std.proofs.Common.{map}
use Rattle.vc_aut.specs.Order.{moves_from}
use Rattle.vc_join.specs.Shuffles.{left_item, right_item, shuffle_items}
use Rattle.vc_join.proofs.ItemOrder.{inserts_ordered}
use Rattle.vc_join.proofs.Sorted.{lefts_sorted, ordered_once, rights_sorted}
use Rattle.vc_join.proofs.laws.shuffled_items_are_in_order.Goals as goal

pub returns-clause-order : goal.returns-clause-order
returns-clause-order g c R A B k a =
    inserts_ordered c.words_are_ordered.ensures.total c.words_are_ordered.ensures.equal R (map (left_item k.1) (moves_from A.transitions k.0)) (map (right_item k.0) (moves_from B.transitions k.1)) (lefts_sorted A k a)

pub returns-clause-once : goal.returns-clause-once
returns-clause-once g c R A B k a =
    ordered_once c.words_are_ordered.ensures.equal R (shuffle_items R A B k)
    (inserts_ordered c.words_are_ordered.ensures.total c.words_are_ordered.ensures.equal R (map (left_item k.1) (moves_from A.transitions k.0)) (map (right_item k.0) (moves_from B.transitions k.1)) (lefts_sorted A k a))

pub returns-clause-left : goal.returns-clause-left
returns-clause-left g c A k a = lefts_sorted A k a

pub returns-clause-right : goal.returns-clause-right
returns-clause-right g c B k b = rights_sorted B k b
