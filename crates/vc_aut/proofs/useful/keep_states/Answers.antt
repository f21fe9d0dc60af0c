use Rattle.std.proofs.Common.{◌≡◌, ◌≤◌, ◌∙◌, sym, arith, Some, length, ap, ◌++◌, ◌∷◌, [], length-append, rules}
use Rattle.vc_aut.proofs.Kept.{kept_skip, kept_take}
use Rattle.vc_aut.proofs.useful.keep_states.Goals as goal

pub loop-state-preserved-then-not-both : goal.loop-state-preserved-then-not-both
loop-state-preserved-then-not-both c =
    record {
      are = kept_skip c.args.reached.now c.args.useful.now c.loop-state.state c.loop-state.states.items c.loop-state.places.items c.loop-state.invariant.are
          (sym c.both.ensures ∙ c.if-not-both.true) c.push.new.self.items c.in_ok-push.ensures.items;
      few = let l : length c.loop-state.states.items ≤ c.loop-state.state = c.loop-state.invariant.few in omega arith;
    }

pub loop-state-preserved : goal.loop-state-preserved
loop-state-preserved c =
    let n : c.len.result ≡ length c.loop-state.states.items = search rules in
    record {
      are = kept_take c.args.reached.now c.args.useful.now c.loop-state.state c.loop-state.states.items c.loop-state.places.items c.loop-state.invariant.are
          (sym c.both.ensures ∙ c.if-not-both.false) c.push-in-loop-state.new.self.items c.push-in-loop-state-2.new.self.items (c.in_ok-push-2.ensures.items ∙ ap (λ k. c.loop-state.places.items ++ Some k ∷ []) n) c.in_ok-push-3.ensures.items;
      few = let l : length c.loop-state.states.items ≤ c.loop-state.state = c.loop-state.invariant.few in omega (arith, ap length c.in_ok-push-3.ensures.items, length-append c.loop-state.states.items (c.loop-state.state ∷ []));
    }
