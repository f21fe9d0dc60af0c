use Rattle.std.proofs.Common.{◌≡◌, ◌+◌, ◌==◌, ◌++◌, All, filter, length, map, ap, sym, ◌∙◌, subst, arith, append_assoc}
use Rattle.std.proofs.lemmas.List.{append-nil}
use Rattle.vc_eval.specs.Forward.{from_states}
use Rattle.vc_eval.specs.Runs.{AreRunsOver, run_moves, run_of, words_of}
use Rattle.vc_eval.proofs.LabelRuns.{first_moves, label_lengths, no_runs}
use Rattle.vc_eval.proofs.Sources.{next_source, no_states}
use Rattle.vc_eval.proofs.runs.runs_of.Goals as goal

pub loop-s-init : goal.loop-s-init
loop-s-init g c =
    rw (c.new-labels.ensures.items, c.new-runs.ensures.items)
    (record { over = no_runs c.args.aut.now.automaton; moves = first_moves c.args.aut.now.automaton })

pub loop-s-preserved : goal.loop-s-preserved
loop-s-preserved g c =
    let A = c.args.aut.now.automaton in
    let s = c.loop-s.s in
    let before = run_moves (map (run_of g.L.LabelSet.parts) c.loop-s.runs.items) in
    record {
      over = c.in_ok-push_runs.ensures.over;
      moves = ap (λ us. us ++ from_states A.transitions (s + 1) A.states) c.in_ok-push_runs.ensures.moves
          ∙ append_assoc before (filter (λ u. u.from == s) A.transitions) (from_states A.transitions (s + 1) A.states)
          ∙ ap (λ us. before ++ us) (sym (next_source A.transitions s A.states (omega arith)))
          ∙ c.loop-s.invariant.moves;
    }

pub label_words-requires : goal.label_words-requires
label_words-requires g c =
    let n = length c.args.aut.now.sets in
    subst (λ ls. All (λ w. length w ≡ c.tapes.result) (words_of g.L.LabelSet.parts ls)) (sym c.deref.ensures.value)
    (subst (λ k. All (λ w. length w ≡ k) (words_of g.L.LabelSet.parts c.loop-s.labels.items)) (sym (c.tapes.ensures.value ∙ ap length c.labels.ensures))
    (label_lengths c.args.aut.now.automaton n (words_of g.L.LabelSet.parts c.loop-s.labels.items) (map (run_of g.L.LabelSet.parts) c.loop-s.runs.items) c.loop-s.invariant.over c.automata_are_valid.ensures.automaton.label))

pub returns-clause-over : goal.returns-clause-over
returns-clause-over g c =
    let words = c.in_ok-words.ensures ∙ ap (words_of g.L.LabelSet.parts) c.deref.ensures.value in
    subst (λ ws. AreRunsOver c.args.aut.now.automaton ws (map (run_of g.L.LabelSet.parts) c.loop-s.runs.items)) (sym words) c.loop-s.invariant.over

pub returns-clause-moves : goal.returns-clause-moves
returns-clause-moves g c =
    let A = c.args.aut.now.automaton in
    let before = run_moves (map (run_of g.L.LabelSet.parts) c.loop-s.runs.items) in
    sym (append-nil before)
    ∙ ap (λ us. before ++ us) (sym (no_states A.transitions c.loop-s.s A.states (omega arith)))
    ∙ c.loop-s.invariant.moves
