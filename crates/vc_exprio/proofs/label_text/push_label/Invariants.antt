use Rattle.std.proofs.Common.{◌≡◌, ◌++◌, ◌∷◌, drop, string_bytes}
use Rattle.std.specs.List.{flat_map}
use Rattle.vc_exprio.specs.Writing.{label_part, label_text}
use Rattle.vc_text.specs.Growing.{IsFront}
use Rattle.vc_exprio.proofs.label_text.push_label.Given as goal

abbrev pub invariant-loop-tape : goal.invariant-loop-tape
invariant-loop-tape g l = record {
  front : IsFront (string_bytes l.fn.into) (string_bytes l.into);
  rest : string_bytes l.into ++ flat_map (λ b. 124 ∷ label_part b) (drop l.tape (g.L.LabelSet.parts l.label)) ≡ string_bytes l.fn.into ++ label_text (g.L.LabelSet.parts l.label);
}
