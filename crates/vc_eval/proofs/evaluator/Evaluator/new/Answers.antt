use Rattle.std.proofs.Common.{◌≡◌, ◌+◌, ◌*◌, length, map, rules, ap, sym, ◌∙◌, subst}
use Rattle.std.proofs.lemmas.Bool.{eqb-true}
use Rattle.std.proofs.lemmas.List.{length-map}
use Rattle.vc_aut.specs.Labelled.{Labelled}
use Rattle.vc_eval.specs.Cells.{longest}
use Rattle.vc_eval.specs.Forward.{by_source}
use Rattle.vc_eval.specs.Runs.{AreRunsOver, run_moves, run_of}
use Rattle.vc_label.specs.Borrowed.{word_of}
use Rattle.vc_eval.proofs.MarkedCells.{marks_enough}
use Rattle.vc_eval.proofs.Sizes.{cells_by, single_letters}
use Rattle.vc_eval.proofs.evaluator.Evaluator.new.Goals as goal

pub invariant_of-result : goal.invariant_of-result
invariant_of-result g c =
    let valid = c.proper_automata_are_proper.ensures in
    let runs = c.in-Ok-runs_unless.runs in
    let long : length c.in-Ok-from_elem-2.origins.items ≡ length runs.labels.items = search rules in
    record {
      tapes = c.requires;
      letters = λ t. single_letters c.args.aut.now.automaton (λ u i. valid.automaton.label u i ∙ c.requires) valid.proper
          (ap (λ (X : Labelled g.row.S-Value.Denot). longest 1 X.automaton.transitions) (sym c.automaton-2.ensures) ∙ sym c.longest-longest.ensures ∙ eqb-true c.longest-longest.result 1 t);
      over = λ s. subst (λ (X : Labelled g.row.S-Value.Denot). AreRunsOver X.automaton (map word_of runs.labels.items) (map (run_of g.L.LabelSet.parts) runs.runs.items)) c.automaton-3.ensures (c.in-Ok-runs_unless.ensures.over s);
      all = λ s. subst (λ (X : Labelled g.row.S-Value.Denot). run_moves (map (run_of g.L.LabelSet.parts) runs.runs.items) ≡ by_source X.automaton) c.automaton-3.ensures (c.in-Ok-runs_unless.ensures.moves s);
      numbered = λ s. long ∙ sym (length-map runs.labels.items word_of);
      cells = cells_by c.automaton-2.result.now c.args.aut.now (length c.in-Ok.rows.items) c.longest-longest.result c.states-states.result c.automaton-2.ensures c.longest-longest.ensures (search rules) (search rules);
      in_range = search rules;
      marked = marks_enough ((c.longest-longest.result + 1) * c.states-states.result) (length c.in-Ok.rows.items) (length c.in-Ok-from_elem.marks.items) (search rules) (search rules);
    }
