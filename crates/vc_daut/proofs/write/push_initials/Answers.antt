use Rattle.std.proofs.Common.{string_bytes}
use Rattle.vc_daut.specs.Canonical.{line_text, initial_line}
use Rattle.vc_daut.proofs.ListTexts.{lines_next}
use Rattle.vc_daut.proofs.write.push_initials.Goals as goal

pub loop-state-preserved : goal.loop-state-preserved
loop-state-preserved g c =
    lines_next (line_text g.S.Semiring.set g.S.Value.PartialEq.eq g.S.Semiring.canonical) (initial_line g.S.Semiring.set g.S.Value.PartialEq.eq c.args.aut.now.automaton) c.loop-state.state
    (string_bytes c.loop-state.into) (string_bytes c.push_initial.new.into) (string_bytes c.args.into.now) c.loop-state.invariant c.in_ok-push_initial.ensures.ok
