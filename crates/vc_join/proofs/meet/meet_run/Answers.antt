use Rattle.std.proofs.Common.{[], ◌∷◌, map, drop, ◌∙◌, ap, sym, ◌+◌}
use Rattle.vc_aut.specs.Stored.{transition_of}
use Rattle.vc_search.specs.Courses.{led_all}
use Rattle.vc_search.specs.CourseLaws.{led_keeps}
use Rattle.vc_join.specs.Conjunctions.{both_item}
use Rattle.vc_join.specs.Pairs.{same_states}
use Rattle.vc_join.proofs.Alike.{item_in}
use Rattle.vc_join.proofs.Meeting.{run_step}
use Rattle.vc_join.proofs.Steps.{next_item}
use Rattle.vc_join.proofs.meet.meet_run.Goals as goal

pub returns-in-Err-clause-fault : goal.returns-in-Err-clause-fault
returns-in-Err-clause-fault g c =
    let R = g.S.Semiring.set in
    let T = transition_of g.L.LabelSet.parts in
    let t = T c.args.left.now in
    let item = both_item R t in
    let run = c.args.run.now in
    let i = c.loop-right.right-index in
    let e = c.loop-right.into in
    let u = T c.right-item.result in
    run_step R t u (map T run) (item_in T run i c.right-item.result c.loop-right-test.true c.right-item.is) c.args.from e c.args.into.now (map item (map T (drop (i + 1) run)))
    (ap (λ zs. led_all same_states c.args.from e (map item (map T zs))) (sym (next_item run i c.right-item.result c.loop-right-test.true c.right-item.is)) ∙ c.loop-right.invariant.rest)
    c.in-Err.fault c.in-Err.ensures.fault

pub loop-right-preserved : goal.loop-right-preserved
loop-right-preserved g c =
    let T = transition_of g.L.LabelSet.parts in
    let item = both_item g.S.Semiring.set (T c.args.left.now) in
    let run = c.args.run.now in
    let i = c.loop-right.right-index in
    let e = c.loop-right.into in
    let x = item (T c.right-item.result) in
    let k = led_keeps same_states c.args.from e c.meet.new.into (x ∷ []) c.in_default.ensures.ok c.loop-right.invariant.from in
    record {
      rest = ap (λ z. led_all same_states c.args.from z (map item (map T (drop (i + 1) run)))) c.in_default.ensures.ok
          ∙ ap (λ zs. led_all same_states c.args.from e (map item (map T zs))) (sym (next_item run i c.right-item.result c.loop-right-test.true c.right-item.is)) ∙ c.loop-right.invariant.rest;
      sets = k.0 ∙ c.loop-right.invariant.sets;
      from = k.1;
    }
