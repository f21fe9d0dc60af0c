use Rattle.std.proofs.Common.{◌≡◌, ◌≤◌, ◌*◌, false, length, map, ap, sym, ◌∙◌, subst, arith}
use Rattle.std.proofs.lemmas.List.{length-map, with_items_is}
use Rattle.vc_aut.specs.Labelled.{Labelled}
use Rattle.vc_label.specs.Borrowed.{word_of}
use Rattle.vc_model.specs.WeightSet.{InRange}
use Rattle.vc_eval.specs.Forward.{by_source}
use Rattle.vc_eval.specs.Ready.{HasRoom}
use Rattle.vc_eval.specs.Runs.{AreRunsOver, run_moves, run_of}
use Rattle.vc_eval.proofs.Sizes.{ring_room, two_rows}
use Rattle.vc_eval.proofs.evaluator.Evaluator.eval.Goals as goal

pub forward-requires-clause-room : goal.forward-requires-clause-room
forward-requires-clause-room g c =
    let w = word_of c.args.word in
    let n = length c.deref_mut-2.result.now in
    subst (λ (X : Labelled g.row.S-Value.Denot). HasRoom X.automaton w n) (sym c.automaton-aut.ensures)
    (ring_room c.self.inside.automaton.now.automaton w n c.requires (ap length c.deref_mut-2.ensures.value ∙ c.self.invariant.cells))

pub forward-requires-clause-two_rows : goal.forward-requires-clause-two_rows
forward-requires-clause-two_rows g c = λ single.
    let n = length c.deref_mut-2.result.now in
    subst (λ (X : Labelled g.row.S-Value.Denot). 2 * X.automaton.states ≤ n) (sym c.automaton-aut.ensures)
    (two_rows c.self.inside.automaton.now.automaton n (ap length c.deref_mut-2.ensures.value ∙ c.self.invariant.cells))

pub forward-requires-clause-over : goal.forward-requires-clause-over
forward-requires-clause-over g c =
    let runs = c.self.inside.runs in
    subst (λ (X : Labelled g.row.S-Value.Denot). c.self.inside.single ≡ false → AreRunsOver X.automaton (map word_of runs.labels.items) (map (run_of g.L.LabelSet.parts) runs.runs.items))
    (sym c.automaton-aut.ensures) c.self.invariant.over

pub forward-requires-clause-all : goal.forward-requires-clause-all
forward-requires-clause-all g c =
    let runs = c.self.inside.runs in
    subst (λ (X : Labelled g.row.S-Value.Denot). c.self.inside.single ≡ false → run_moves (map (run_of g.L.LabelSet.parts) runs.runs.items) ≡ by_source X.automaton)
    (sym c.automaton-aut.ensures) c.self.invariant.all

pub forward-requires-clause-origins : goal.forward-requires-clause-origins
forward-requires-clause-origins g c = λ s.
    ap length c.deref_mut.ensures.value ∙ c.self.invariant.numbered s ∙ length-map c.self.inside.runs.labels.items word_of

pub invariant_of-self : goal.invariant_of-self
invariant_of-self g c =
    let i = c.self.invariant in
    let origins = with_items_is c.self.inside.origins c.forward.new.origins (c.forward.auto.origins ∙ c.deref_mut.ensures.len) in
    let rows = with_items_is c.self.inside.rows c.forward.new.rows (c.forward.auto.rows ∙ c.deref_mut-2.ensures.len) in
    let marks = with_items_is c.self.inside.marks c.forward.new.marks (c.forward.auto.marks ∙ c.deref_mut-3.ensures.len) in
    let long = ap length rows ∙ c.forward.auto.rows ∙ ap length c.deref_mut-2.ensures.value in
    let many = ap length marks ∙ c.forward.auto.marks ∙ ap length c.deref_mut-3.ensures.value in
    let marked = i.marked in
    record {
      tapes = i.tapes;
      letters = i.letters;
      over = i.over;
      all = i.all;
      numbered = λ s. ap length origins ∙ c.forward.auto.origins ∙ ap length c.deref_mut.ensures.value ∙ i.numbered s;
      cells = long ∙ i.cells;
      in_range = subst (InRange g.S.Semiring.set) (sym rows) c.forward.ensures.rows_in;
      marked = omega (arith, long, many, marked);
    }
