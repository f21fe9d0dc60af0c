use Rattle.std.proofs.Common.{◌≡◌, ◌++◌, string_bytes, drop}
use Rattle.std.specs.List.{flat_map}
use Rattle.std.specs.Prelude.{codes}
use Rattle.vc_context.specs.Canonical.{comma_text, labels_text}
use Rattle.vc_text.specs.Growing.{IsFront}
use Rattle.vc_context.proofs.writer.push_labels.Given as goal

abbrev pub invariant-loop-i : goal.invariant-loop-i
invariant-loop-i g l = record {
  front : IsFront (string_bytes l.fn.into) (string_bytes l.into);
  rest : string_bytes l.into ++ (flat_map comma_text (drop l.i (g.L.LabelSet.sets l.labels)) ++ codes ">")
      ≡ string_bytes l.fn.into ++ labels_text (g.L.LabelSet.sets l.labels);
}
