use Rattle.std.proofs.Common.{rules, ◌≡◌, map, sym, subst, IsTrue}
use Rattle.std.specs.Prelude.{IfOk}
use Rattle.std.specs.List.Sorted.{IsStableBy, IsSortedBy}
use Rattle.std.specs.Cmp.{IsTotalOrder}
use Rattle.std.proofs.lemmas.List.Sorted.{answers_always, All-permutation}
use Rattle.vc_aut.specs.Drafts.{without_zeros}
use Rattle.vc_aut.specs.Order.{triple_order}
use Rattle.vc_aut.specs.Stored.{transition_of}
use Rattle.vc_aut.proofs.Merged.{sum_answer, sums_of_sorted}
use Rattle.vc_aut.proofs.Order.{triple_order_total}
use Rattle.vc_aut.proofs.Sorted.{before, before_ranks, rising_sorted, same_groups}
use Rattle.vc_aut.proofs.gathering.gather.Goals as goal

pub merge-requires : goal.merge-requires
merge-requires g c =
    All-permutation (λ t. IsTrue (g.S.Semiring.set.in_range t.weight)) c.args.transitions.items c.sort_by.new.self.items c.sort_by.ensures.permutation c.requires

pub returns-clause-ok : goal.returns-clause-ok
returns-clause-ok g c =
    let tr = transition_of {L = g.row.L.Denot} {S = g.row.S.Denot} {V = g.row.S-Value.Denot} g.L.LabelSet.parts in
    let order : IsTotalOrder (triple_order {V = g.row.S-Value.Denot}) = triple_order_total c.words_are_ordered.ensures.total c.words_are_ordered.ensures.equal in
    let stable : IsStableBy (before order tr) c.args.transitions.items c.sort_by.new.self.items =
    c.sort_by.ensures.stable (before order tr) (before_ranks order tr) (answers_always _ _ _ (λ f a r h k. search rules)) in
    let sorted : IsSortedBy (before order tr) c.sort_by.new.self.items =
    c.in-Ok.ensures.sorted (before order tr) (before_ranks order tr) (answers_always _ _ _ (λ f a r h k. search rules)) in
    subst (λ l. IfOk c.merge.result (λ v. map tr v.items ≡ without_zeros g.S.Semiring.set g.S.Value.PartialEq.eq l))
    (sym (sums_of_sorted c.words_are_ordered.ensures.total c.words_are_ordered.ensures.equal g.S.Semiring.set (map tr c.args.transitions.items) (map tr c.sort_by.new.self.items)
    (same_groups order tr c.args.transitions.items c.sort_by.new.self.items stable) (rising_sorted order tr c.sort_by.new.self.items sorted)))
    c.merge.ensures.ok

pub returns-clause-answer : goal.returns-clause-answer
returns-clause-answer g c =
    let tr = transition_of {L = g.row.L.Denot} {S = g.row.S.Denot} {V = g.row.S-Value.Denot} g.L.LabelSet.parts in
    let order : IsTotalOrder (triple_order {V = g.row.S-Value.Denot}) = triple_order_total c.words_are_ordered.ensures.total c.words_are_ordered.ensures.equal in
    let stable : IsStableBy (before order tr) c.args.transitions.items c.sort_by.new.self.items =
    c.sort_by.ensures.stable (before order tr) (before_ranks order tr) (answers_always _ _ _ (λ f a r h k. search rules)) in
    let sorted : IsSortedBy (before order tr) c.sort_by.new.self.items =
    c.in-Ok.ensures.sorted (before order tr) (before_ranks order tr) (answers_always _ _ _ (λ f a r h k. search rules)) in
    sum_answer c.words_are_ordered.ensures.total c.words_are_ordered.ensures.equal g.S.Semiring.set (map tr c.args.transitions.items) (map tr c.sort_by.new.self.items)
    (same_groups order tr c.args.transitions.items c.sort_by.new.self.items stable) (rising_sorted order tr c.sort_by.new.self.items sorted)
    c.merge.result c.merge.ensures.answer
