use Rattle.std.proofs.Common.{◌∙◌, ap, arith}
use Rattle.vc_reader.proofs.AddedStates.{states_sets, states_count}
use Rattle.vc_reader.proofs.read.build.Goals as goal

pub add_lines-requires-clause-sets : goal.add_lines-requires-clause-sets
add_lines-requires-clause-sets g c =
    ap (λ d. d.sets) c.in_default.ensures.ok ∙ states_sets g.S.Semiring.set c.states.result c.new-builder.result ∙ ap (λ d. d.sets) c.new-builder.ensures

pub add_lines-requires-clause-states : goal.add_lines-requires-clause-states
add_lines-requires-clause-states g c =
    let e = ap (λ d. d.automaton.states) c.in_default.ensures.ok in
    let s = states_count g.S.Semiring.set c.states.result c.new-builder.result in
    let z = ap (λ d. d.automaton.states) c.new-builder.ensures in
    let l = c.states.ensures in
    omega (arith, e, s, z, l)

pub returns-in-Ok-clause-sets : goal.returns-in-Ok-clause-sets
returns-in-Ok-clause-sets g c =
    ap (λ a. a.sets) c.in-Ok.ensures ∙ c.in_default-add_lines.ensures.kept.sets
    ∙ ap (λ d. d.sets) c.in_default.ensures.ok ∙ states_sets g.S.Semiring.set c.states.result c.new-builder.result ∙ ap (λ d. d.sets) c.new-builder.ensures
