use Rattle.std.proofs.Common.{map, drop, ◌∙◌, ap, sym, ◌+◌, get_or, ◌∷◌, []}
use Rattle.vc_search.specs.Courses.{begun_all}
use Rattle.vc_search.specs.CourseLaws.{begin_stops, begun_all-append, begun-alone}
use Rattle.vc_join.specs.Pairs.{same_states}
use Rattle.vc_join.proofs.Steps.{drop_at, paired}
use Rattle.vc_join.proofs.pairs.begin_row.Goals as goal

pub loop-right-preserved : goal.loop-right-preserved
loop-right-preserved g c =
    let pair = paired c.args.left in
    let qs = c.args.rights.now in
    let i = c.loop-right.right-index in
    let e = c.loop-right.into in
    let k = pair (get_or qs i 0) in
    ap (λ z. begun_all same_states z (map pair (drop (i + 1) qs))) (c.in_default.ensures.ok ∙ begun-alone same_states e k)
    ∙ sym (begun_all-append same_states e (k ∷ []) (map pair (drop (i + 1) qs)))
    ∙ ap (λ zs. begun_all same_states e (map pair zs)) (sym (drop_at qs i 0 c.loop-right-test.true))
    ∙ c.loop-right.invariant

pub returns-in-Err-clause-fault : goal.returns-in-Err-clause-fault
returns-in-Err-clause-fault g c =
    let pair = paired c.args.left in
    let qs = c.args.rights.now in
    let i = c.loop-right.right-index in
    let e = c.loop-right.into in
    let k = pair (get_or qs i 0) in
    begin_stops same_states (λ o. ⊥) (λ o. ⊥) (λ o h. h) e c.args.into.now (k ∷ []) (map pair (drop (i + 1) qs)) (map pair qs)
    (sym (begun_all-append same_states e (k ∷ []) (map pair (drop (i + 1) qs))) ∙ ap (λ zs. begun_all same_states e (map pair zs)) (sym (drop_at qs i 0 c.loop-right-test.true)) ∙ c.loop-right.invariant)
    c.in-Err.fault c.in-Err.ensures.fault
