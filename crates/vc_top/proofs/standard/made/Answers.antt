use Rattle.std.proofs.Common.{Err, ap, length, subst, sym}
use Rattle.vc_expr.specs.Names.{tree_of}
use Rattle.vc_model.specs.Automata.{IsAutomaton}
use Rattle.vc_ring.specs.Weighed.{weighed}
use Rattle.vc_top.specs.Outcomes.{Gives, OrMemory}
use Rattle.vc_top.specs.Standards.{IsStandard, WithStandard}
use Rattle.vc_top.proofs.Constructed.{atoms_over, same_fault, standard_made, standard_not}
use Rattle.vc_top.proofs.standard.made.Goals as goal

pub standard-requires-clause-labels : goal.standard-requires-clause-labels
standard-requires-clause-labels g c = atoms_over (g.L.LabelSet.sets c.args.labels) (tree_of c.args.exprs.now c.args.e) c.requires.labels

pub returns-in-Ok-clause-made : goal.returns-in-Ok-clause-made
returns-in-Ok-clause-made g c =
    let T = weighed g.S.Semiring g.S.Value.PartialEq in
    let sets = g.L.LabelSet.sets c.args.labels in
    let t = tree_of c.args.exprs.now c.args.e in
    let a = c.in-Ok.automaton in
    let s : IsStandard T sets t a = record {
      labels = c.in-Ok.ensures.sets;
      series = c.in-Ok.ensures.series;
      states = c.in-Ok.ensures.size;
      start = c.in-Ok.ensures.start;
      structure = c.in-Ok.ensures.automaton;
      automaton = subst (λ n. IsAutomaton T.set n a.automaton) (ap length c.in-Ok.ensures.sets) c.proper_automata_are_proper.ensures.automaton;
      proper = c.proper_automata_are_proper.ensures.proper;
      order = c.proper_automata_are_proper.ensures.labelled.drawn.order;
    } in
    standard_made T sets c.args.limit t a (λ l. cc (c.in-Ok.ensures.states.1 l)) s

pub returns-in-Err-clause-made : goal.returns-in-Err-clause-made
returns-in-Err-clause-made g c =
    let T = weighed g.S.Semiring g.S.Value.PartialEq in
    let sets = g.L.LabelSet.sets c.args.labels in
    let t = tree_of c.args.exprs.now c.args.e in
    let f = c.in-Err.fault in
    subst (λ r. OrMemory (WithStandard T sets c.args.limit Gives t) (Err r)) (sym c.made_not.ensures)
    (standard_not T sets c.args.limit t f (λ l. same_fault f _ (c.in-Err.ensures.states.1 l)) c.in-Err.ensures.refusal)
