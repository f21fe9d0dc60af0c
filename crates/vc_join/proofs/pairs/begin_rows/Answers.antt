use Rattle.std.proofs.Common.{map, drop, ◌∙◌, ap, sym, ◌+◌, get_or}
use Rattle.vc_search.specs.Courses.{begun_all}
use Rattle.vc_search.specs.CourseLaws.{begin_stops, begun_all-append}
use Rattle.vc_join.specs.Pairs.{pairs_of, same_states}
use Rattle.vc_join.proofs.Steps.{drop_at, paired}
use Rattle.vc_join.proofs.pairs.begin_rows.Goals as goal

pub loop-left-preserved : goal.loop-left-preserved
loop-left-preserved g c =
    let ps = c.args.lefts.now in
    let qs = c.args.rights.now in
    let i = c.loop-left.left-index in
    let e = c.loop-left.into in
    let row = map (paired (get_or ps i 0)) qs in
    ap (λ z. begun_all same_states z (pairs_of (drop (i + 1) ps) qs)) c.in_default.ensures.ok
    ∙ sym (begun_all-append same_states e row (pairs_of (drop (i + 1) ps) qs))
    ∙ ap (λ zs. begun_all same_states e (pairs_of zs qs)) (sym (drop_at ps i 0 c.loop-left-test.true))
    ∙ c.loop-left.invariant

pub returns-in-Err-clause-fault : goal.returns-in-Err-clause-fault
returns-in-Err-clause-fault g c =
    let ps = c.args.lefts.now in
    let qs = c.args.rights.now in
    let i = c.loop-left.left-index in
    let e = c.loop-left.into in
    let row = map (paired (get_or ps i 0)) qs in
    begin_stops same_states (λ o. ⊥) (λ o. ⊥) (λ o h. h) e c.args.into.now row (pairs_of (drop (i + 1) ps) qs) (pairs_of ps qs)
    (sym (begun_all-append same_states e row (pairs_of (drop (i + 1) ps) qs)) ∙ ap (λ zs. begun_all same_states e (pairs_of zs qs)) (sym (drop_at ps i 0 c.loop-left-test.true)) ∙ c.loop-left.invariant)
    c.in-Err.fault c.in-Err.ensures.fault
