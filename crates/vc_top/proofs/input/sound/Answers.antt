use Rattle.std.proofs.Common.{length, ap, refl, inr}
use Rattle.std.specs.Prelude.{is_some}
use Rattle.vc_model.specs.Automata.{NoEmptyCircuit}
use Rattle.vc_top.proofs.Closed.{none_refused}
use Rattle.vc_top.proofs.input.sound.Goals as goal

pub returns-in-Ok-None : goal.returns-in-Ok-None
returns-in-Ok-None g c =
    let a = c.args.automaton in
    let none : NoEmptyCircuit (length a.sets) a.automaton = c.in-Ok-None.ensures.none.0 (ap (λ o. is_some o) c.in-Ok-None.field-0-is) in
    inr (inr (none_refused g.S.Semiring.set g.S.Semiring.ABSORBS a c.automata_are_valid.ensures.automaton (inr none), refl))
