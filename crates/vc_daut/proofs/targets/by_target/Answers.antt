use Rattle.std.proofs.Common.{rules, ap, ◌∙◌, map, subst}
use Rattle.std.proofs.lemmas.List.Sorted.{answers_always, IsNonDecreasingBy-from_sort_by_key, IsPermutation-map}
use Rattle.std.specs.Prelude.{filter, ◌==◌}
use Rattle.std.specs.List.Sorted.{IsPermutation}
use Rattle.vc_aut.specs.Stored.{transition_of}
use Rattle.vc_daut.specs.Growing.{lent}
use Rattle.vc_daut.proofs.TargetGroups.{lent_stable}
use Rattle.vc_daut.proofs.ListTexts.{take_whole}
use Rattle.vc_daut.proofs.targets.by_target.Goals as goal

pub returns-clause-sorted : goal.returns-clause-sorted
returns-clause-sorted g c = IsNonDecreasingBy-from_sort_by_key (λ b. b.now.to) c.sort_by_key.new.self.items c.in_ok-sort_by_key.ensures.sorted (λ a r q k. search rules)

pub returns-clause-same : goal.returns-clause-same
returns-clause-same g c =
    let tr = transition_of g.L.LabelSet.parts in
    let all = c.loop-entry.invariant ∙ ap (map tr) (take_whole c.args.moves.now c.loop-entry.entry-index c.loop-entry-test.false) in
    subst (λ ts. IsPermutation ts (lent g.L.LabelSet.parts c.sort_by_key.new.self.items)) all
    (IsPermutation-map (λ b. tr b.now) c.loop-entry.order.items c.sort_by_key.new.self.items c.sort_by_key.ensures.permutation)

pub returns-clause-stable : goal.returns-clause-stable
returns-clause-stable g c q =
    let tr = transition_of g.L.LabelSet.parts in
    let all = c.loop-entry.invariant ∙ ap (map tr) (take_whole c.args.moves.now c.loop-entry.entry-index c.loop-entry-test.false) in
    lent_stable g.L.LabelSet.parts c.loop-entry.order.items c.sort_by_key.new.self.items (c.sort_by_key.ensures.stable (λ b. b.now.to) (answers_always _ _ _ (λ f a r h k. search rules))) q
    ∙ ap (filter (λ t. t.to == q)) all
