use Rattle.std.proofs.Common.{◌≡◌, ◌++◌, All, get_or, length, map, take, refl, ap, sym, subst, arith}
use Rattle.std.proofs.lemmas.List.{length-map, take-map}
use Rattle.std.proofs.lemmas.List.Elements.{All-weaker}
use Rattle.vc_aut.specs.Stored.{transition_of}
use Rattle.vc_eval.specs.Runs.{AreRunsOver, IsLabelRun, label_run, run_moves, run_of, words_of}
use Rattle.vc_eval.proofs.LabelRuns.{IsFrom, all_from, first_is, first_label, front_all, more_labels, more_runs, is_none, not_none, nothing_left, rest_all, run_behind, shorter_rest}
use Rattle.vc_eval.proofs.runs.push_runs.Goals as goal

pub loop-rest-init : goal.loop-rest-init
loop-rest-init g c =
    let A = c.args.aut.now.automaton in
    record {
      from = subst (All (IsFrom A c.args.s)) (sym c.transitions_from-rest.ensures) (all_from A c.args.s);
      over = c.requires.over;
      moves = ap (λ us. run_moves (map (run_of g.L.LabelSet.parts) c.args.runs.now.items) ++ us) c.transitions_from-rest.ensures;
    }

pub loop-rest-preserved : goal.loop-rest-preserved
loop-rest-preserved g c =
    let parts = g.L.LabelSet.parts in
    let f = transition_of parts in
    let A = c.args.aut.now.automaton in
    let s = c.args.s in
    let i = c.loop-rest.invariant in
    let rest = c.loop-rest.rest.now in
    let x = get_or rest 0 c.index-rest-0.result in
    let is = ap (get_or rest 0) c.index-rest-0.is in
    let l = parts x.label in
    let width = c.front_with-width.result in
    let k = c.in_ok-number.number in
    let old = words_of parts c.loop-rest.labels.items in
    let new = words_of parts c.number_of.new.labels.items in
    let rs = map (run_of parts) c.loop-rest.runs.items in
    let us = map f (take width rest) in
    let r = label_run s k us in
    let some = not_none (length rest) c.is_empty.result c.is_empty.ensures c.loop-rest-test.true in
    let first = first_is f (IsFrom A s) rest x some is i.from in
    let labels = more_labels A old new l rs i.over (f x, first.0, refl) c.in_ok-number.ensures.labels in
    let same : All (λ u. u.label ≡ l) us = subst (All (λ u. u.label ≡ l)) (take-map f width rest) c.front_with-width.ensures.same in
    let number = c.in_ok-number.ensures.number.0 in
    let long = length-map c.number_of.new.labels.items (λ b. parts b.now) in
    let run : IsLabelRun new r = record {
      number = omega (arith, number, long);
      from = All-weaker (IsFrom A s) (λ u. u.from ≡ s) (λ u p. p.1) us (front_all f (IsFrom A s) rest width i.from);
      label = subst (λ z. All (λ u. u.label ≡ z) us) (sym c.in_ok-number.ensures.number.1) same;
    } in
    record {
      from = rest_all f (IsFrom A s) rest width i.from;
      over = subst (AreRunsOver A new) (sym c.in_ok-push_run.ensures) (more_runs A new rs r labels run c.requires.state);
      moves = run_behind f rs (map (run_of parts) c.push_run.new.runs.items) r rest width _ c.in_ok-push_run.ensures refl i.moves;
    }

pub front_with-width-requires-clause-first : goal.front_with-width-requires-clause-first
front_with-width-requires-clause-first g c =
    let some = not_none (length c.loop-rest.rest.now) c.is_empty.result c.is_empty.ensures c.loop-rest-test.true in
    let rest = c.loop-rest.rest.now in
    first_label (transition_of g.L.LabelSet.parts) rest (get_or rest 0 c.index-rest-0.result) some (ap (get_or rest 0) c.index-rest-0.is)

pub loop-rest-smaller : goal.loop-rest-smaller
loop-rest-smaller g c =
    shorter_rest c.loop-rest.rest.now c.front_with-width.result (not_none (length c.loop-rest.rest.now) c.is_empty.result c.is_empty.ensures c.loop-rest-test.true) c.front_with-width.ensures.some

pub returns-clause-moves : goal.returns-clause-moves
returns-clause-moves g c =
    nothing_left (transition_of g.L.LabelSet.parts) c.loop-rest.rest.now (run_moves (map (run_of g.L.LabelSet.parts) c.loop-rest.runs.items)) _
    (is_none (length c.loop-rest.rest.now) c.is_empty.result c.is_empty.ensures c.loop-rest-test.false) c.loop-rest.invariant.moves
