use Rattle.std.proofs.Common.{subst}
use Rattle.vc_model.specs.Lists.{NoRepeat}
use Rattle.vc_model.specs.Numbering.{Starts}
use Rattle.vc_search.specs.Explored.{next_by}
use Rattle.vc_join.specs.Pairs.{first_pairs, no_pair, pair_initial, pair_final, pairs_tell, same_states}
use Rattle.vc_join.specs.Shuffles.{shuffle_items}
use Rattle.vc_join.proofs.Among.{reached_states}
use Rattle.vc_join.proofs.MixedStates.{mixed_states}
use Rattle.vc_join.proofs.Shuffling.{shuffled}
use Rattle.vc_join.proofs.laws.pairs_that_move_alone_are_shuffles.Goals as goal

pub returns : goal.returns
returns g c R L same T A B P tapes limit hA hB M =
    let first = first_pairs R same A B in
    let next = next_by (shuffle_items R A B) in
    let ks = M.members in
    let N = M.numbering in
    let accessible = c.members_are_numbered.ensures.accessible same_states pairs_tell next first ks N in
    shuffled R L c.words_are_ordered.ensures.total c.words_are_ordered.ensures.equal same T A B P ks M.holds
    (c.explored_automata_stand_for_members.ensures R L same_states pairs_tell no_pair first (shuffle_items R A B) (pair_initial R A B) (pair_final R A B) ks P N M.holds)
    (λ k i. (accessible k).1 (Starts k i))
    (subst NoRepeat N.are (c.members_are_numbered.ensures.once same_states pairs_tell next first N.followed))
    (λ k i. reached_states R same A B next (λ j x h m. mixed_states R A B hA.to hB.to j x h m) k ((accessible k).0 i))
    (c.sums_of_members.ensures.others R L)
