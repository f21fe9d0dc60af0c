use Rattle.std.proofs.Common.{◌≡◌, ◌<◌, ◌∙◌, cond, eqb, true, sym, ap, subst}
use Rattle.vc_closure.specs.Rows.{AreSums, sum_at}
use Rattle.vc_closure.specs.Settled.{AreWaiting}
use Rattle.vc_closure.proofs.Settling.{from_one}
use Rattle.vc_closure.proofs.settle.spread.Goals as goal

pub relax-requires-clause-state : goal.relax-requires-clause-state
relax-requires-clause-state g c = subst (λ n. c.args.state < n) (sym c.requires.sums.are.count) c.requires.state

pub relax-requires-clause-sums : goal.relax-requires-clause-sums
relax-requires-clause-sums g c =
    subst (λ n. AreSums g.S.Semiring.set n c.args.sums.now.sums.items c.args.sums.now.touched.items) (sym c.requires.sums.are.count) c.requires.sums.are

pub relax-requires-clause-weight : goal.relax-requires-clause-weight
relax-requires-clause-weight g c = subst (λ v. g.S.Semiring.set.in_range v ≡ true) (sym c.one.ensures) g.met.S.Semiring.ranges.one_in

pub relax-requires-clause-waiting : goal.relax-requires-clause-waiting
relax-requires-clause-waiting g c =
    subst (λ n. AreWaiting n c.args.waiting.now.queue.items c.args.waiting.now.marks.items) (sym c.requires.sums.are.count) c.requires.waiting

pub returns-in_err-relax-clause-waiting : goal.returns-in_err-relax-clause-waiting
returns-in_err-relax-clause-waiting g c =
    subst (λ n. AreWaiting n c.relax.new.waiting.queue.items c.relax.new.waiting.marks.items) c.requires.sums.are.count c.relax.ensures.waiting

pub loop-step-init : goal.loop-step-init
loop-step-init g c =
    let R = g.S.Semiring.set in
    let s = c.args.state in
    let before = c.args.sums.now.sums.items in
    let after = c.relax.new.sums.sums.items in
    record {
      sums = subst (λ n. AreSums R n c.relax.new.sums.sums.items c.relax.new.sums.touched.items) c.requires.sums.are.count c.in_ok-relax.ensures.sums;
      from = from_one g.met.S.Semiring.laws c.args.moves.now s (g.met.S.Semiring.absorbs.0 c.requires.absorbs) (sum_at R before) (sum_at R after) c.requires.sums.cleared
          (λ q. c.in_ok-relax.ensures.added q ∙ ap (λ v. R.plus (sum_at R before q) (cond (eqb s q) v R.zero)) c.one.ensures);
      waiting = subst (λ n. AreWaiting n c.relax.new.waiting.queue.items c.relax.new.waiting.marks.items) c.requires.sums.are.count c.relax.ensures.waiting;
    }

pub next_waiting-requires : goal.next_waiting-requires
next_waiting-requires g c =
    subst (λ n. AreWaiting n c.loop-step.waiting.queue.items c.loop-step.waiting.marks.items) (sym c.loop-step.invariant.waiting.count) c.loop-step.invariant.waiting

pub returns-in_default-clause-waiting : goal.returns-in_default-clause-waiting
returns-in_default-clause-waiting g c =
    subst (λ n. AreWaiting n c.next_waiting.new.waiting.queue.items c.next_waiting.new.waiting.marks.items) c.loop-step.invariant.waiting.count c.next_waiting.ensures.waiting

pub spread_from-requires-clause-state : goal.spread_from-requires-clause-state
spread_from-requires-clause-state g c = subst (λ n. c.in-Some.from < n) c.loop-step.invariant.waiting.count c.in-Some.ensures.state

pub spread_from-requires-clause-waiting : goal.spread_from-requires-clause-waiting
spread_from-requires-clause-waiting g c =
    subst (λ n. AreWaiting n c.next_waiting.new.waiting.queue.items c.next_waiting.new.waiting.marks.items) c.loop-step.invariant.waiting.count c.next_waiting.ensures.waiting

pub loop-step-preserved : goal.loop-step-preserved
loop-step-preserved g c =
    record {
      sums = c.in_ok-spread_from.ensures.sums;
      from = c.in_ok-spread_from.ensures.from c.args.state c.loop-step.invariant.from;
      waiting = c.spread_from.ensures.waiting;
    }
