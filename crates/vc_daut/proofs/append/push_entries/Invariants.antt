use Rattle.std.proofs.Common.{◌≡◌, ◌++◌, string_bytes, take}
use Rattle.vc_daut.specs.Canonical.{entries_text}
use Rattle.vc_daut.specs.Growing.{lent}
use Rattle.vc_daut.proofs.append.push_entries.Given as goal

abbrev pub invariant-loop-place : goal.invariant-loop-place
invariant-loop-place g l = string_bytes l.into ≡ string_bytes l.fn.into ++ entries_text g.S.Semiring.set g.S.Value.PartialEq.eq g.S.Semiring.canonical (lent g.L.LabelSet.parts (take l.place l.entries))
