use Rattle.std.proofs.Common.{◌≡◌, map, take}
use Rattle.std.specs.Prelude.{All}
use Rattle.vc_reader.specs.Keys.{IsKeyed}
use Rattle.vc_reader.proofs.names.keyed.Given as goal

abbrev pub invariant-loop-name : goal.invariant-loop-name
invariant-loop-name l = (map (λ p. p.2.now) l.keyed.items ≡ map (λ b. b.now) (take l.name-index l.found)) × All IsKeyed l.keyed.items
