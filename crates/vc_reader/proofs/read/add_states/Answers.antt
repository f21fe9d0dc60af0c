use Rattle.std.proofs.Common.{◌≡◌, ◌+◌, ◌-◌, suc, ◌∙◌, sym, ap, arith}
use Rattle.vc_aut.specs.Drafts.{with_state}
use Rattle.vc_reader.specs.Passes.{with_states}
use Rattle.vc_reader.proofs.AddedStates.{states_more}
use Rattle.vc_reader.proofs.read.add_states.Goals as goal

pub loop-preserved : goal.loop-preserved
loop-preserved g c =
    let R = g.S.Semiring.set in
    let i = c.loop.invariant in
    let e : c.add_state.new.self ≡ with_state R c.loop.builder = c.in_default.ensures.ok in
    let n : c.args.count - c.loop.counter ≡ suc (c.args.count - (c.loop.counter + 1)) = omega (arith, c.loop-test.true) in
    let s : c.add_state.new.self.automaton.states ≡ c.loop.builder.automaton.states + 1 = ap (λ d. d.automaton.states) e in (
      omega (arith, c.loop-test.true),
      ap (with_states R (c.args.count - (c.loop.counter + 1))) e ∙ sym (states_more R (c.args.count - c.loop.counter) (c.args.count - (c.loop.counter + 1)) c.loop.builder n) ∙ i.1,
      omega (arith, s, i.2),
      ap (λ d. d.most) e ∙ i.3,
    )
