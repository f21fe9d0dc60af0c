use Rattle.vc_join.proofs.Sorted.{conjunction_once, conjunction_sorted}
use Rattle.vc_join.proofs.laws.items_are_in_order.Goals as goal

pub returns-clause-order : goal.returns-clause-order
returns-clause-order g c R A B k a b = conjunction_sorted c.words_are_ordered.ensures.equal R A B k a b

pub returns-clause-once : goal.returns-clause-once
returns-clause-once g c R A B k a b = conjunction_once c.words_are_ordered.ensures.equal R A B k a b
