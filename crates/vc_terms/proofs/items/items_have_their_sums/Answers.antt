use Rattle.std.proofs.Common.{ap₂}
use Rattle.vc_terms.proofs.ItemLaws.{taken-append, taken-scaled, taken-mapped, taken-unless_zero, taken-collected, collected_neat_items, collected_like_item}
use Rattle.vc_terms.proofs.items.items_have_their_sums.Goals as goal

pub returns-clause-append : goal.returns-clause-append
returns-clause-append g c R L h xs ys = taken-append L h xs ys

pub returns-clause-scaled : goal.returns-clause-scaled
returns-clause-scaled g c R L h k xs = taken-scaled L h k xs

pub returns-clause-mapped : goal.returns-clause-mapped
returns-clause-mapped g c R L h f xs = taken-mapped L h f xs

pub returns-clause-unless_zero : goal.returns-clause-unless_zero
returns-clause-unless_zero g c R L equal Z h k xs = taken-unless_zero L equal Z h k xs

pub returns-clause-collected : goal.returns-clause-collected
returns-clause-collected g c R L equal Z same Q h xs = taken-collected L same Q equal Z h xs

pub returns-clause-neat : goal.returns-clause-neat
returns-clause-neat g c R L equal Z same Q xs = collected_neat_items L same Q equal Z xs

pub returns-clause-sources : goal.returns-clause-sources
returns-clause-sources g c R L equal same Q e xs i =
    let r = collected_like_item L same Q equal e xs i in
    (r.item, r.is_in, ap₂ (λ a t. (a, t)) r.label r.to)
