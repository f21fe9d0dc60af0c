-- What was taken so far is what the reader has lost, and no more than is allowed.
use Rattle.std.proofs.Common.{◌≤◌, length}
use Rattle.std.specs.Io.KnownBytes.{Consumes}
use Rattle.vc_files.proofs.real.take_bytes.Given as goal

abbrev pub invariant-loop : goal.invariant-loop
invariant-loop g l = (length l.bytes.items ≤ l.most) × Consumes (g.R.Read.remaining l.initial.reader) (g.R.Read.remaining l.reader) l.bytes.items
