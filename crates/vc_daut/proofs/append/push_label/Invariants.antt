use Rattle.std.proofs.Common.{◌≡◌, ◌++◌, string_bytes, take}
use Rattle.vc_daut.specs.Canonical.{label_text}
use Rattle.vc_daut.proofs.append.push_label.Given as goal

abbrev pub invariant-loop-tape : goal.invariant-loop-tape
invariant-loop-tape g l = string_bytes l.into ≡ string_bytes l.fn.into ++ label_text (take l.tape (g.L.LabelSet.parts l.label))
