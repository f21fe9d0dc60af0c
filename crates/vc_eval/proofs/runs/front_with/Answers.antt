use Rattle.std.proofs.Common.{◌≡◌, ◌<◌, All, get_or, length, map, take, sym, subst, arith}
use Rattle.std.proofs.lemmas.List.{get_or-map, length-map}
use Rattle.std.proofs.lemmas.List.Elements.{All-more}
use Rattle.vc_aut.specs.Stored.{transition_of}
use Rattle.vc_eval.proofs.LetterSources.{unequal}
use Rattle.vc_eval.proofs.runs.front_with.Goals as goal

pub loop-place-preserved : goal.loop-place-preserved
loop-place-preserved g c =
    let f = transition_of g.L.LabelSet.parts in
    let ts = c.args.transitions.now in
    let i = c.loop-place.place in
    let x = c.index-transitions-place.result in
    let l = g.L.LabelSet.parts c.args.label.now in
    let some = c.loop-place.invariant.some in
    let same = (g.met.L.LabelSet.same_parts (get_or ts i x).label c.args.label.now).0 (unequal _ c.ne.result c.if-ne.false c.ne.ensures) in
    let within : i < length (map f ts) = omega (arith, c.loop-place-test.true, length-map ts f) in
    record {
      some = omega (arith, some);
      same = All-more (λ u. u.label ≡ l) (map f ts) i (f x) within c.loop-place.invariant.same
          (subst (λ u. u.label ≡ l) (sym (get_or-map f ts i x (f x) c.loop-place-test.true)) same);
    }

pub returns-clause-same : goal.returns-clause-same
returns-clause-same g c =
    subst (λ k. All (λ u. u.label ≡ g.L.LabelSet.parts c.args.label.now) (take k (map (transition_of g.L.LabelSet.parts) c.args.transitions.now)))
    (omega (arith, c.loop-place.auto.place-end, c.loop-place-test.false, c.requires.some)) c.loop-place.invariant.same
