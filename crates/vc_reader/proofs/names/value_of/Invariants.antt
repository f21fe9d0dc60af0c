use Rattle.std.proofs.Common.{◌≡◌, ◌<◌, ◌^◌, take}
use Rattle.vc_lines.specs.Names.{value_of}
use Rattle.vc_reader.proofs.names.value_of.Given as goal

abbrev pub invariant-loop-digit : goal.invariant-loop-digit
invariant-loop-digit l = (l.value ≡ value_of (take l.digit-index l.name)) × (l.value < 10 ^ l.digit-index)
