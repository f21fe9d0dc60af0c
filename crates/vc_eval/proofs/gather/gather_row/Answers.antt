use Rattle.std.proofs.Common.{◌≡◌, ℕ, ◌<◌, All, None, OnOk, [], get_or, refl, length, map, ap, sym, ◌∙◌, subst, arith}
use Rattle.std.proofs.lemmas.List.{length-map}
use Rattle.std.proofs.lemmas.List.Elements.{All-weaker}
use Rattle.vc_label.specs.Borrowed.{word_of}
use Rattle.vc_ring.specs.Steps.{outcome}
use Rattle.vc_eval.specs.Forward.{by_source}
use Rattle.vc_eval.specs.Moves.{source, moved, move_steps}
use Rattle.vc_eval.specs.Runs.{IsLabelHere, IsLabelRun, IsZeroRow, origin, run_of}
use Rattle.vc_eval.proofs.LetterSources.{idle_moved, idle_steps}
use Rattle.vc_eval.proofs.RunSteps.{idle_runs, labels_here, run_cells, runs_are, runs_into}
use Rattle.vc_eval.proofs.Sources.{by_source-In}
use Rattle.vc_eval.proofs.gather.gather_row.Goals as goal

pub find_origins-requires-clause-here : goal.find_origins-requires-clause-here
find_origins-requires-clause-here g c =
    let A = c.args.aut.now.automaton in
    let w = word_of c.args.word in
    let f = word_of c.args.front in
    let cells = length c.args.rows.now in
    let words = map word_of c.args.labels.now in
    let rs = map (run_of g.L.LabelSet.parts) c.args.runs.now in
    subst (λ n. All (IsLabelHere w n f c.args.at cells) words) (sym c.states-states.ensures)
    (labels_here g.met.S.Semiring.laws g.met.S.Semiring.ranges w A f c.args.at cells words rs c.requires.over c.requires.all c.requires.moves)

pub returns-then-find_origins-clause-steps : goal.returns-then-find_origins-clause-steps
returns-then-find_origins-clause-steps g c =
    let R = g.S.Semiring.set in
    let A = c.args.aut.now.automaton in
    let w = word_of c.args.word in
    let f = word_of c.args.front in
    let at = c.args.at in
    let rows = c.args.rows.now in
    let cells = length rows in
    let words = map word_of c.args.labels.now in
    let rs = map (run_of g.L.LabelSet.parts) c.args.runs.now in
    let origins = c.find_origins.new.origins in
    let h = source R w A.states f at in
    let found : (k : ℕ) → k < length words → get_or origins k None ≡ origin w A.states f at cells (get_or words k []) = λ k l.
    c.find_origins.ensures.origins k (omega (arith, l, length-map c.args.labels.now word_of))
    ∙ ap (λ n. origin w n f at cells (get_or words k [])) c.states-states.ensures in
    c.gather_runs.ensures.steps
    ∙ ap (λ ss. outcome R ss (tt {0})) ((runs_are R w A.states f at cells words origins found rs c.requires.over.runs rows refl).1
    ∙ ap (λ us. move_steps R h at us rows) c.requires.all)

pub returns-then-find_origins-clause-rows : goal.returns-then-find_origins-clause-rows
returns-then-find_origins-clause-rows g c =
    let R = g.S.Semiring.set in
    let A = c.args.aut.now.automaton in
    let w = word_of c.args.word in
    let f = word_of c.args.front in
    let at = c.args.at in
    let rows = c.args.rows.now in
    let cells = length rows in
    let words = map word_of c.args.labels.now in
    let rs = map (run_of g.L.LabelSet.parts) c.args.runs.now in
    let origins = c.find_origins.new.origins in
    let h = source R w A.states f at in
    let found : (k : ℕ) → k < length words → get_or origins k None ≡ origin w A.states f at cells (get_or words k []) = λ k l.
    c.find_origins.ensures.origins k (omega (arith, l, length-map c.args.labels.now word_of))
    ∙ ap (λ n. origin w n f at cells (get_or words k [])) c.states-states.ensures in
    subst (λ z. OnOk c.gather_runs.result (c.gather_runs.new.rows ≡ z))
    ((runs_are R w A.states f at cells words origins found rs c.requires.over.runs rows refl).0
    ∙ ap (λ us. moved R h at us rows) c.requires.all)
    c.gather_runs.ensures.rows

pub gather_runs-requires-clause-numbers : goal.gather_runs-requires-clause-numbers
gather_runs-requires-clause-numbers g c =
    let words = map word_of c.args.labels.now in
    let rs = map (run_of g.L.LabelSet.parts) c.args.runs.now in
    let long = length-map c.args.labels.now word_of in
    let kept = c.find_origins.auto.origins in
    let same = c.requires.origins in
    All-weaker (IsLabelRun words) (λ r. r.number < length c.find_origins.new.origins) (λ r i. let n = i.number in omega (arith, n, long, kept, same)) rs c.requires.over.runs

pub gather_runs-requires-clause-cells : goal.gather_runs-requires-clause-cells
gather_runs-requires-clause-cells g c =
    let A = c.args.aut.now.automaton in
    let w = word_of c.args.word in
    let f = word_of c.args.front in
    let at = c.args.at in
    let cells = length c.args.rows.now in
    let words = map word_of c.args.labels.now in
    let rs = map (run_of g.L.LabelSet.parts) c.args.runs.now in
    let origins = c.find_origins.new.origins in
    let found : (k : ℕ) → k < length words → get_or origins k None ≡ origin w A.states f at cells (get_or words k []) = λ k l.
    c.find_origins.ensures.origins k (omega (arith, l, length-map c.args.labels.now word_of))
    ∙ ap (λ n. origin w n f at cells (get_or words k [])) c.states-states.ensures in
    run_cells g.met.S.Semiring.laws g.met.S.Semiring.ranges w A f at cells words rs c.requires.over c.requires.all c.requires.moves origins found

pub gather_runs-requires-clause-moves : goal.gather_runs-requires-clause-moves
gather_runs-requires-clause-moves g c =
    let A = c.args.aut.now.automaton in
    let words = map word_of c.args.labels.now in
    let rs = map (run_of g.L.LabelSet.parts) c.args.runs.now in
    runs_into g.met.S.Semiring.laws g.met.S.Semiring.ranges (word_of c.args.word) A (word_of c.args.front) c.args.at (length c.args.rows.now) words rs c.requires.over c.requires.all c.requires.moves

pub returns-clause-steps : goal.returns-clause-steps
returns-clause-steps g c =
    let R = g.S.Semiring.set in
    let A = c.args.aut.now.automaton in
    let w = word_of c.args.word in
    let f = word_of c.args.front in
    let at = c.args.at in
    let rows = c.args.rows.now in
    let cells = length rows in
    let words = map word_of c.args.labels.now in
    let rs = map (run_of g.L.LabelSet.parts) c.args.runs.now in
    let origins = c.find_origins.new.origins in
    let long = length-map c.args.labels.now word_of in
    let found : (k : ℕ) → k < length words → get_or origins k None ≡ origin w A.states f at cells (get_or words k []) = λ k l.
    c.find_origins.ensures.origins k (omega (arith, l, long))
    ∙ ap (λ n. origin w n f at cells (get_or words k [])) c.states-states.ensures in
    let zero : (k : ℕ) → k < length words → IsZeroRow R A.states rows (get_or origins k None) = λ k l.
    subst (λ n. IsZeroRow R n rows (get_or origins k None)) c.states-states.ensures (c.find_origins.ensures.idle c.if-find_origins.false k (omega (arith, l, long))) in
    sym (idle_steps g.met.S.Semiring.laws g.met.S.Semiring.ranges at (source R w A.states f at) (by_source A) rows c.requires.rows_in
    (λ u i. let m = c.requires.moves u (by_source-In A u i).0 in (m.to, m.weight))
    (idle_runs g.met.S.Semiring.laws g.met.S.Semiring.ranges w A f at cells words rs c.requires.over c.requires.all c.requires.moves origins found rows refl zero))

pub returns-clause-rows : goal.returns-clause-rows
returns-clause-rows g c =
    let R = g.S.Semiring.set in
    let A = c.args.aut.now.automaton in
    let w = word_of c.args.word in
    let f = word_of c.args.front in
    let at = c.args.at in
    let rows = c.args.rows.now in
    let cells = length rows in
    let words = map word_of c.args.labels.now in
    let rs = map (run_of g.L.LabelSet.parts) c.args.runs.now in
    let origins = c.find_origins.new.origins in
    let long = length-map c.args.labels.now word_of in
    let found : (k : ℕ) → k < length words → get_or origins k None ≡ origin w A.states f at cells (get_or words k []) = λ k l.
    c.find_origins.ensures.origins k (omega (arith, l, long))
    ∙ ap (λ n. origin w n f at cells (get_or words k [])) c.states-states.ensures in
    let zero : (k : ℕ) → k < length words → IsZeroRow R A.states rows (get_or origins k None) = λ k l.
    subst (λ n. IsZeroRow R n rows (get_or origins k None)) c.states-states.ensures (c.find_origins.ensures.idle c.if-find_origins.false k (omega (arith, l, long))) in
    sym (idle_moved g.met.S.Semiring.laws g.met.S.Semiring.ranges at (source R w A.states f at) (by_source A) rows
    (idle_runs g.met.S.Semiring.laws g.met.S.Semiring.ranges w A f at cells words rs c.requires.over c.requires.all c.requires.moves origins found rows refl zero))
