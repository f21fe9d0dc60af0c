use Rattle.std.proofs.Common.{rules, ◌≡◌, ◌∷◌, ◌++◌, [], ◌≤◌, ◌<◌, map, sym, subst, refl, true, false, All, IsTrue, List}
use Rattle.std.specs.Ordering.{is_eq}
use Rattle.std.proofs.lemmas.List.Elements.{All-head, All-tail}
use Rattle.vc_aut.specs.Drafts.{without_zeros}
use Rattle.vc_aut.specs.Order.{triple_order}
use Rattle.vc_aut.specs.Stored.{transition_of}
use Rattle.vc_aut.specs.declared.transition.Transition.{Transition as Stored}
use Rattle.vc_aut.proofs.Merging.{IsMerging, merging_start, merging_same, merging_unfit, merging_next, merging_full}
use Rattle.vc_aut.proofs.Refusals.{added_ok, added_err}
use Rattle.vc_aut.proofs.gathering.merge.Goals as goal

pub loop-next-init : goal.loop-next-init
loop-next-init g c =
    let tr = transition_of {L = g.row.L.Denot} {S = g.row.S.Denot} {V = g.row.S-Value.Denot} g.L.LabelSet.parts in
    let none : c.in-Ok.merged.items ≡ [] = search rules in
    let items : c.args.sorted.items ≡ c.in-Some.last ∷ c.into_iter-next-iterator.result.rest.items = search rules in
    let all : All (λ t. IsTrue (g.S.Semiring.set.in_range t.weight)) (c.in-Some.last ∷ c.into_iter-next-iterator.result.rest.items) =
    subst (λ l. All (λ t. IsTrue (g.S.Semiring.set.in_range t.weight)) l) items c.requires in
    record {
      merging = rw (none, items) (merging_start g.S.Semiring.set g.S.Value.PartialEq.eq (tr c.in-Some.last) (map tr c.into_iter-next-iterator.result.rest.items));
      last = All-head (λ t. IsTrue (g.S.Semiring.set.in_range t.weight)) c.in-Some.last c.into_iter-next-iterator.result.rest.items all;
      rest = All-tail (λ t. IsTrue (g.S.Semiring.set.in_range t.weight)) c.in-Some.last c.into_iter-next-iterator.result.rest.items all;
    }

pub add-requires-clause-right_in : goal.add-requires-clause-right_in
add-requires-clause-right_in g c =
    let items : c.loop-next.next-iterator.rest.items ≡ c.in-Some-next.next ∷ c.next-in-loop-next.new.self.rest.items = search rules in
    All-head (λ t. IsTrue (g.S.Semiring.set.in_range t.weight)) c.in-Some-next.next c.next-in-loop-next.new.self.rest.items
    (subst (λ l. All (λ t. IsTrue (g.S.Semiring.set.in_range t.weight)) l) items c.loop-next.invariant.rest)

pub returns-in-Err-clause-answer : goal.returns-in-Err-clause-answer
returns-in-Err-clause-answer g c =
    let tr = transition_of {L = g.row.L.Denot} {S = g.row.S.Denot} {V = g.row.S-Value.Denot} g.L.LabelSet.parts in
    let items : c.loop-next.next-iterator.rest.items ≡ c.in-Some-next.next ∷ c.next-in-loop-next.new.self.rest.items = search rules in
    let same : is_eq (triple_order (tr c.in-Some-next.next) (tr c.loop-next.last)) ≡ true = rw (← c.order.ensures, ← c.is_eq.ensures) c.if-is_eq.true in
    let unfit = added_err g.S.Semiring.set c.loop-next.last.weight c.in-Some-next.next.weight c.in-Err.overflow c.in-Err.ensures in
    rw unfit.0
    (merging_unfit g.S.Semiring.set g.S.Value.PartialEq.eq (map tr c.loop-next.merged.items) c.loop-next.triples (tr c.loop-next.last) (tr c.in-Some-next.next) (map tr c.next-in-loop-next.new.self.rest.items) (map tr c.args.sorted.items)
    (subst (λ (l : List (Stored g.row.L.Denot g.row.S.Denot g.row.L-Label.Denot g.row.S-Value.Denot)). IsMerging g.S.Semiring.set g.S.Value.PartialEq.eq (map tr c.loop-next.merged.items) c.loop-next.triples (tr c.loop-next.last) (map tr l) (map tr c.args.sorted.items)) items c.loop-next.invariant.merging)
    same unfit.1)

pub loop-next-preserved-then-is_eq : goal.loop-next-preserved-then-is_eq
loop-next-preserved-then-is_eq g c =
    let tr = transition_of {L = g.row.L.Denot} {S = g.row.S.Denot} {V = g.row.S-Value.Denot} g.L.LabelSet.parts in
    let items : c.loop-next.next-iterator.rest.items ≡ c.in-Some-next.next ∷ c.next-in-loop-next.new.self.rest.items = search rules in
    let same : is_eq (triple_order (tr c.in-Some-next.next) (tr c.loop-next.last)) ≡ true = rw (← c.order.ensures, ← c.is_eq.ensures) c.if-is_eq.true in
    let sum = added_ok g.S.Semiring.set c.loop-next.last.weight c.in-Some-next.next.weight c.in-Ok-add.sum c.in-Ok-add.ensures in
    let all : All (λ t. IsTrue (g.S.Semiring.set.in_range t.weight)) (c.in-Some-next.next ∷ c.next-in-loop-next.new.self.rest.items) =
    subst (λ l. All (λ t. IsTrue (g.S.Semiring.set.in_range t.weight)) l) items c.loop-next.invariant.rest in
    let step =
    merging_same g.S.Semiring.set g.S.Value.PartialEq.eq (map tr c.loop-next.merged.items) c.loop-next.triples (tr c.loop-next.last) (tr c.in-Some-next.next) (map tr c.next-in-loop-next.new.self.rest.items) (map tr c.args.sorted.items)
    (subst (λ (l : List (Stored g.row.L.Denot g.row.S.Denot g.row.L-Label.Denot g.row.S-Value.Denot)). IsMerging g.S.Semiring.set g.S.Value.PartialEq.eq (map tr c.loop-next.merged.items) c.loop-next.triples (tr c.loop-next.last) (map tr l) (map tr c.args.sorted.items)) items c.loop-next.invariant.merging)
    same sum.1 in
    record {
      merging = subst (λ w. IsMerging g.S.Semiring.set g.S.Value.PartialEq.eq (map tr c.loop-next.merged.items) c.loop-next.triples (record (tr c.loop-next.last) { weight = w }) (map tr c.next-in-loop-next.new.self.rest.items) (map tr c.args.sorted.items)) (sym sum.0) step;
      last = subst (λ w. IsTrue (g.S.Semiring.set.in_range w)) (sym sum.0)
          (g.met.S.Semiring.ranges.plus_in c.loop-next.last.weight c.in-Some-next.next.weight c.loop-next.invariant.last (All-head (λ t. IsTrue (g.S.Semiring.set.in_range t.weight)) c.in-Some-next.next c.next-in-loop-next.new.self.rest.items all) sum.1);
      rest = All-tail (λ t. IsTrue (g.S.Semiring.set.in_range t.weight)) c.in-Some-next.next c.next-in-loop-next.new.self.rest.items all;
    }

pub returns-then-triples-ge-MOST_TRANSITIONS-clause-answer :
    goal.returns-then-triples-ge-MOST_TRANSITIONS-clause-answer
returns-then-triples-ge-MOST_TRANSITIONS-clause-answer g c =
    let tr = transition_of {L = g.row.L.Denot} {S = g.row.S.Denot} {V = g.row.S-Value.Denot} g.L.LabelSet.parts in
    let items : c.loop-next.next-iterator.rest.items ≡ c.in-Some-next.next ∷ c.next-in-loop-next.new.self.rest.items = search rules in
    let other : is_eq (triple_order (tr c.in-Some-next.next) (tr c.loop-next.last)) ≡ false = rw (← c.order.ensures, ← c.is_eq.ensures) c.if-is_eq.false in
    let many : 4000000 ≤ c.loop-next.triples = c.if-triples-ge-MOST_TRANSITIONS.true in (
      refl,
      merging_full g.S.Semiring.set g.S.Value.PartialEq.eq (map tr c.loop-next.merged.items) c.loop-next.triples (tr c.loop-next.last) (tr c.in-Some-next.next) (map tr c.next-in-loop-next.new.self.rest.items) (map tr c.args.sorted.items)
          (subst (λ (l : List (Stored g.row.L.Denot g.row.S.Denot g.row.L-Label.Denot g.row.S-Value.Denot)). IsMerging g.S.Semiring.set g.S.Value.PartialEq.eq (map tr c.loop-next.merged.items) c.loop-next.triples (tr c.loop-next.last) (map tr l) (map tr c.args.sorted.items)) items c.loop-next.invariant.merging)
          other many,
    )

pub loop-next-preserved : goal.loop-next-preserved
loop-next-preserved g c =
    let tr = transition_of {L = g.row.L.Denot} {S = g.row.S.Denot} {V = g.row.S-Value.Denot} g.L.LabelSet.parts in
    let items : c.loop-next.next-iterator.rest.items ≡ c.in-Some-next.next ∷ c.next-in-loop-next.new.self.rest.items = search rules in
    let other : is_eq (triple_order (tr c.in-Some-next.next) (tr c.loop-next.last)) ≡ false = rw (← c.order.ensures, ← c.is_eq.ensures) c.if-is_eq.false in
    let few : c.loop-next.triples < 4000000 = c.if-triples-ge-MOST_TRANSITIONS.false in
    let all : All (λ t. IsTrue (g.S.Semiring.set.in_range t.weight)) (c.in-Some-next.next ∷ c.next-in-loop-next.new.self.rest.items) =
    subst (λ l. All (λ t. IsTrue (g.S.Semiring.set.in_range t.weight)) l) items c.loop-next.invariant.rest in
    let after : c.replace-done.new.dest ≡ c.in-Some-next.next = search rules in
    let done : c.replace-done.result ≡ c.loop-next.last = search rules in
    let kept : map tr c.keep.new.kept.items ≡ map tr c.loop-next.merged.items ++ without_zeros g.S.Semiring.set g.S.Value.PartialEq.eq (tr c.replace-done.result ∷ []) = search rules in
    let step =
    merging_next g.S.Semiring.set g.S.Value.PartialEq.eq (map tr c.loop-next.merged.items) c.loop-next.triples (tr c.loop-next.last) (tr c.in-Some-next.next) (map tr c.next-in-loop-next.new.self.rest.items) (map tr c.args.sorted.items)
    (subst (λ (l : List (Stored g.row.L.Denot g.row.S.Denot g.row.L-Label.Denot g.row.S-Value.Denot)). IsMerging g.S.Semiring.set g.S.Value.PartialEq.eq (map tr c.loop-next.merged.items) c.loop-next.triples (tr c.loop-next.last) (map tr l) (map tr c.args.sorted.items)) items c.loop-next.invariant.merging)
    other few in
    record {
      merging = rw (kept, done, after) step;
      last = rw after (All-head (λ t. IsTrue (g.S.Semiring.set.in_range t.weight)) c.in-Some-next.next c.next-in-loop-next.new.self.rest.items all);
      rest = All-tail (λ t. IsTrue (g.S.Semiring.set.in_range t.weight)) c.in-Some-next.next c.next-in-loop-next.new.self.rest.items all;
    }
