use Rattle.std.proofs.Common.{length, map}
use Rattle.vc_reader.specs.NameSets.{AreNumbers, names_seen}
use Rattle.vc_reader.proofs.names.are_numbers.Given as goal

-- where the names from here on are numbers, all are
abbrev pub invariant-loop-rest : goal.invariant-loop-rest
invariant-loop-rest l = AreNumbers l.place (map (λ b. b.now) l.rest) → AreNumbers 0 (names_seen l.names)

abbrev pub decreases-loop-rest : goal.decreases-loop-rest
decreases-loop-rest l = length l.rest
