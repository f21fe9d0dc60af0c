use Rattle.std.proofs.Common.{◌≡◌, ◌++◌, map, drop, ◌∙◌, ap, sym, subst, ◌+◌, IsTrue}
use Rattle.vc_aut.specs.Stored.{transition_of}
use Rattle.vc_label.specs.Sets.{IsOverSets}
use Rattle.vc_model.specs.Automata.{Transition}
use Rattle.vc_search.specs.Courses.{led_all}
use Rattle.vc_search.specs.CourseLaws.{led_all-append, led_keeps}
use Rattle.vc_join.specs.Conjunctions.{both_item, both_items}
use Rattle.vc_join.specs.Pairs.{same_states}
use Rattle.vc_join.specs.Runs.{AreByLabel}
use Rattle.vc_join.proofs.Alike.{meets_at, left_by_label, rest_among, run_among, run_alike, all_mapped, item_in}
use Rattle.vc_join.proofs.Meeting.{runs_step}
use Rattle.vc_join.proofs.meet.meet_all.Goals as goal

pub meet_run-requires-clause-label : goal.meet_run-requires-clause-label
meet_run-requires-clause-label g c =
    let T = transition_of g.L.LabelSet.parts in
    let x = c.left-item.result in
    subst (λ s. IsOverSets s (T x).label) (sym c.loop-left.invariant.sets) (c.requires.labels (T x) (item_in T c.args.lefts.now c.loop-left.left-index x c.loop-left-test.true c.left-item.is))

pub meet_run-requires-clause-not_empty : goal.meet_run-requires-clause-not_empty
meet_run-requires-clause-not_empty g c =
    let T = transition_of g.L.LabelSet.parts in
    let x = c.left-item.result in
    c.requires.not_empty (T x) (item_in T c.args.lefts.now c.loop-left.left-index x c.loop-left-test.true c.left-item.is)

pub meet_run-requires-clause-left_in : goal.meet_run-requires-clause-left_in
meet_run-requires-clause-left_in g c =
    let T = transition_of g.L.LabelSet.parts in
    let x = c.left-item.result in
    c.requires.lefts_in (T x) (item_in T c.args.lefts.now c.loop-left.left-index x c.loop-left-test.true c.left-item.is)

pub meet_run-requires-clause-run_in : goal.meet_run-requires-clause-run_in
meet_run-requires-clause-run_in g c =
    let T = transition_of g.L.LabelSet.parts in
    let x = c.left-item.result in
    all_mapped T (λ (t : Transition g.row.S-Value.Denot). IsTrue (g.S.Semiring.set.in_range t.weight)) c.run_of-run.result.now
    (λ t i. c.requires.rights_in t (c.loop-left.invariant.among t (run_among (T x).label (map T c.loop-left.rest.now) (map T c.from_label-rest.result.now) (map T c.run_of-run.result.now) c.from_label-rest.ensures c.run_of-run.ensures t i)))

pub returns-in-Err-clause-fault : goal.returns-in-Err-clause-fault
returns-in-Err-clause-fault g c =
    let R = g.S.Semiring.set in
    let T = transition_of g.L.LabelSet.parts in
    let x = c.left-item.result in
    let i = c.loop-left.left-index in
    let e = c.loop-left.into in
    let ls = c.args.lefts.now in
    let now = map T c.loop-left.rest.now in
    let rest = map T c.from_label-rest.result.now in
    let run = map T c.run_of-run.result.now in
    let more = both_items R (map T (drop (i + 1) ls)) rest in
    let m : both_items R (map T (drop i ls)) now ≡ map (both_item R (T x)) run ++ more
    = meets_at c.words_are_ordered.ensures.total c.words_are_ordered.ensures.equal R T ls i x c.loop-left-test.true c.left-item.is c.requires.lefts now rest run c.loop-left.invariant.by_label c.from_label-rest.ensures c.run_of-run.ensures in
    runs_step R (T x) (map T ls) (map T c.args.rights.now) run (item_in T ls i x c.loop-left-test.true c.left-item.is)
    (λ t j. c.loop-left.invariant.among t (run_among (T x).label now rest run c.from_label-rest.ensures c.run_of-run.ensures t j))
    (run_alike (T x).label rest run c.run_of-run.ensures) c.args.from e c.args.into.now more
    (sym (led_all-append same_states c.args.from e (map (both_item R (T x)) run) more) ∙ ap (led_all same_states c.args.from e) (sym m) ∙ c.loop-left.invariant.rest)
    c.in-Err.fault c.in-Err.ensures.fault

pub loop-left-preserved : goal.loop-left-preserved
loop-left-preserved g c =
    let R = g.S.Semiring.set in
    let T = transition_of g.L.LabelSet.parts in
    let x = c.left-item.result in
    let i = c.loop-left.left-index in
    let e = c.loop-left.into in
    let ls = c.args.lefts.now in
    let now = map T c.loop-left.rest.now in
    let rest = map T c.from_label-rest.result.now in
    let run = map (both_item R (T x)) (map T c.run_of-run.result.now) in
    let more = both_items R (map T (drop (i + 1) ls)) rest in
    let m : both_items R (map T (drop i ls)) now ≡ run ++ more
    = meets_at c.words_are_ordered.ensures.total c.words_are_ordered.ensures.equal R T ls i x c.loop-left-test.true c.left-item.is c.requires.lefts now rest (map T c.run_of-run.result.now) c.loop-left.invariant.by_label c.from_label-rest.ensures c.run_of-run.ensures in
    let k = led_keeps same_states c.args.from e c.meet_run.new.into run c.in_default.ensures.ok c.loop-left.invariant.from in
    record {
      rest = ap (λ z. led_all same_states c.args.from z more) c.in_default.ensures.ok
          ∙ sym (led_all-append same_states c.args.from e run more) ∙ ap (led_all same_states c.args.from e) (sym m) ∙ c.loop-left.invariant.rest;
      by_label = subst AreByLabel (sym c.from_label-rest.ensures) (left_by_label c.words_are_ordered.ensures.total c.words_are_ordered.ensures.equal (T x).label now c.loop-left.invariant.by_label);
      among = λ t j. c.loop-left.invariant.among t (rest_among (T x).label now rest c.from_label-rest.ensures t j);
      sets = k.0 ∙ c.loop-left.invariant.sets;
      from = k.1;
    }
