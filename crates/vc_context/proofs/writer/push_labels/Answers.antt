use Rattle.std.proofs.Common.{string_bytes, ◌++◌}
use Rattle.vc_context.specs.Canonical.{labels_text}
use Rattle.vc_context.proofs.Growths.{tapes_next}
use Rattle.vc_text.specs.Fronts.{front_twice}
use Rattle.vc_context.proofs.writer.push_labels.Goals as goal

pub loop-i-preserved : goal.loop-i-preserved
loop-i-preserved g c =
    let old = string_bytes c.args.into.now in
    let before = string_bytes c.loop-i.into in
    let now = string_bytes c.push_behind.new.into in
    record {
      front = front_twice old before now c.loop-i.invariant.front c.push_behind.ensures.front;
      rest = tapes_next (g.L.LabelSet.sets c.args.labels.now) c.loop-i.i c.tape-in-loop-i.result before now (old ++ labels_text (g.L.LabelSet.sets c.args.labels.now))
          c.tape-in-loop-i.ensures c.in_ok-push_behind.ensures.ok c.loop-i.invariant.rest;
    }
