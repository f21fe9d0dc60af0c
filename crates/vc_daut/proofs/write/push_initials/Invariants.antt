use Rattle.std.proofs.Common.{◌≡◌, ◌++◌, string_bytes}
use Rattle.std.specs.List.{flat_map}
use Rattle.vc_daut.specs.Canonical.{line_text, initial_line}
use Rattle.vc_model.specs.Lists.{below}
use Rattle.vc_daut.proofs.write.push_initials.Given as goal

abbrev pub invariant-loop-state : goal.invariant-loop-state
invariant-loop-state g l =
    string_bytes l.into ≡ string_bytes l.fn.into
    ++ flat_map (line_text g.S.Semiring.set g.S.Value.PartialEq.eq g.S.Semiring.canonical) (flat_map (initial_line g.S.Semiring.set g.S.Value.PartialEq.eq l.aut.automaton) (below l.state))
