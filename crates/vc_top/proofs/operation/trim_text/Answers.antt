use Rattle.std.proofs.Common.{List, ap, length, subst}
use Rattle.vc_label.specs.declared.tape_set.TapeSet.{TapeSet}
use Rattle.vc_model.specs.Automata.{IsAutomaton}
use Rattle.vc_ring.specs.Weighed.{weighed}
use Rattle.vc_top.specs.Automata.{Prints}
use Rattle.vc_top.specs.Operations.{IsTrimOf}
use Rattle.vc_top.specs.Views.{answer_of}
use Rattle.vc_top.proofs.Closed.{sound_where_none}
use Rattle.vc_top.proofs.Outcomes.{for_such}
use Rattle.vc_top.proofs.operation.trim_text.Goals as goal

pub returns-in-Ok : goal.returns-in-Ok
returns-in-Ok g c =
    let T = weighed g.S.Semiring g.S.Value.PartialEq in
    let a = c.args.automaton.now in
    let t = c.in-Ok.trimmed in
    let k = c.in-Ok.ensures.trim in
    let here = c.automata_are_valid.ensures.automaton in
    let valid : IsAutomaton T.set (length a.sets) t.automaton = subst (λ n. IsAutomaton T.set n t.automaton) (ap (λ (ss : List TapeSet). length ss) c.in-Ok.ensures.sets) c.automata_are_valid-in-Ok.ensures.automaton in
    let sound = sound_where_none T.set g.S.Semiring.ABSORBS a here (λ e. g.met.S.Semiring.absorbs.0 e) c.requires.sound in
    let s : IsTrimOf T a t = record {
      labels = c.in-Ok.ensures.sets;
      kept = k.0;
      trim = k.1;
      series = c.in-Ok.ensures.series sound;
      automaton = valid;
    } in
    for_such (IsTrimOf T a) (Prints T c.args.context.now.weights) t (answer_of c.text_of.result) s c.text_of.ensures
