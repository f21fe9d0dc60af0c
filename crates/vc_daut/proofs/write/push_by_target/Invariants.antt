use Rattle.std.proofs.Common.{◌++◌, ◌≤◌, length, string_bytes}
use Rattle.std.specs.List.{flat_map}
use Rattle.vc_daut.specs.Canonical.{line_text, lines_by_target}
use Rattle.vc_daut.specs.Growing.{lent}
use Rattle.vc_daut.proofs.TargetGroups.{IsLeft}
use Rattle.vc_daut.proofs.write.push_by_target.Given as goal

abbrev pub invariant-loop-rest : goal.invariant-loop-rest
invariant-loop-rest g l =
    let parts = g.L.LabelSet.parts in
    let n = l.aut.automaton.states in
    let text = line_text g.S.Semiring.set g.S.Value.PartialEq.eq g.S.Semiring.canonical in
    let old = string_bytes l.fn.into in
    record {
      left : IsLeft g.S.Semiring.set parts (length l.aut.sets) n l.from text old (old ++ flat_map text (lines_by_target n l.from (lent parts l.entries))) (string_bytes l.into) l.rest;
      short : length l.rest ≤ length l.entries;
    }

abbrev pub decreases-loop-rest : goal.decreases-loop-rest
decreases-loop-rest g l = length l.rest
