use Rattle.std.proofs.Common.{◌++◌, ◌<◌, string_bytes, ap, sym, subst, ◌∙◌}
use Rattle.vc_exprio.specs.Writing.{ArePending, work_left}
use Rattle.vc_text.specs.Fronts.{front_twice}
use Rattle.vc_exprio.proofs.PendingTexts.{left_pushed, work_pushed, last_pending}
use Rattle.vc_exprio.proofs.writer.push_expr.Goals as goal

pub write_item-requires-clause-item : goal.write_item-requires-clause-item
write_item-requires-clause-item g c =
    (last_pending g.S.Semiring.canonical c.args.exprs.now (g.L.LabelSet.sets c.args.labels.now) c.pop.new.self.items c.in-Some.item (subst (ArePending (g.L.LabelSet.sets c.args.labels.now) c.args.exprs.now) c.in-Some.ensures.items c.loop-item.invariant.pending)).1

pub write_item-requires-clause-pending : goal.write_item-requires-clause-pending
write_item-requires-clause-pending g c =
    (last_pending g.S.Semiring.canonical c.args.exprs.now (g.L.LabelSet.sets c.args.labels.now) c.pop.new.self.items c.in-Some.item (subst (ArePending (g.L.LabelSet.sets c.args.labels.now) c.args.exprs.now) c.in-Some.ensures.items c.loop-item.invariant.pending)).0

pub loop-item-smaller : goal.loop-item-smaller
loop-item-smaller g c =
    subst (λ n. work_left c.args.exprs.now c.write_item.new.pending.items < n) (sym (work_pushed g.S.Semiring.canonical c.args.exprs.now c.pop.new.self.items c.loop-item.pending.items c.in-Some.item c.in-Some.ensures.items)) c.in_ok-write_item.ensures.work

pub loop-item-preserved : goal.loop-item-preserved
loop-item-preserved g c =
    let before = string_bytes c.loop-item.into in
    record {
      text = c.in_ok-write_item.ensures.text ∙ ap (λ x. before ++ x) (sym (left_pushed g.S.Semiring.canonical c.args.exprs.now c.pop.new.self.items c.loop-item.pending.items c.in-Some.item c.in-Some.ensures.items)) ∙ c.loop-item.invariant.text;
      pending = c.in_ok-write_item.ensures.pending;
      front = front_twice (string_bytes c.args.into.now) before (string_bytes c.write_item.new.into) c.loop-item.invariant.front c.write_item.ensures.front;
    }
