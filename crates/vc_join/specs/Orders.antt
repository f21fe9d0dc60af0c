-- The order of items.
use Rattle.std.specs.Ordering.{nat_cmp, ordering_then, is_lt}
use Rattle.std.specs.Prelude.{Bool}
use Rattle.std.specs.declared.cmp.Ordering.{Ordering}
use Rattle.vc_label.specs.Order.{word_order}
use Rattle.vc_model.specs.Items.{Item}
use Rattle.vc_join.specs.Pairs.{Pair}

-- by label, then by the first state, and then by the second
abbrev pub item_order : {V : Type 0} → Item V Pair → Item V Pair → Ordering
item_order d e = ordering_then (word_order d.label e.label) (ordering_then (nat_cmp d.to.0 e.to.0) (nat_cmp d.to.1 e.to.1))

-- one comes before the other in this order
abbrev pub item_before : {V : Type 0} → Item V Pair → Item V Pair → Bool
item_before d e = is_lt (item_order d e)
