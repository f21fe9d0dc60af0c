use Rattle.std.proofs.Common.{◌≡◌, rules}
use Rattle.std.specs.Prelude.{string_bytes}
use Rattle.vc_daut.specs.Canonical.{automaton_text}
use Rattle.vc_ring.specs.Weighed.{weighed}
use Rattle.vc_top.proofs.Printed.{automaton_printed}
use Rattle.vc_top.proofs.automata.text_of.Goals as goal

pub returns-in-Ok : goal.returns-in-Ok
returns-in-Ok g c =
    let T = weighed g.S.Semiring g.S.Value.PartialEq in
    let a = c.args.automaton.now in
    let w = c.args.context.now.weights in
    let e : string_bytes c.write_daut.new.into ≡ automaton_text T a.sets w a.automaton = search rules in
    automaton_printed T w a c.write_daut.new.into e (c.automata_have_texts.ensures w)
