use Rattle.std.proofs.Common.{◌≡◌, ℕ, ◌<◌, ◌≤◌, ◌*◌, All, List, [], get_or, length, map, ap, sym, ◌∙◌, subst, rules, arith}
use Rattle.std.proofs.lemmas.List.{length-map}
use Rattle.vc_aut.specs.Labelled.{Labelled}
use Rattle.vc_label.specs.Borrowed.{word_of}
use Rattle.vc_model.specs.Words.{Word}
use Rattle.vc_eval.specs.Forward.{by_source}
use Rattle.vc_eval.specs.Positions.{place_of, positions}
use Rattle.vc_eval.specs.Ready.{HasRoom}
use Rattle.vc_eval.specs.Runs.{AreRunsOver, run_moves, run_of}
use Rattle.vc_eval.proofs.LabelRuns.{label_among, label_lengths}
use Rattle.vc_eval.proofs.Places.{positions_some}
use Rattle.vc_eval.proofs.Sizes.{no_row, position_count, positions_within, rows_within, tuple_room}
use Rattle.vc_eval.proofs.tuple.eval_tuple.Goals as goal

pub returns-then-states-eq0-clause-answer : goal.returns-then-states-eq0-clause-answer
returns-then-states-eq0-clause-answer g c =
    let R = g.S.Semiring.set in
    let A = c.args.aut.now.automaton in
    let w = word_of c.args.word in
    let none : A.states ≡ 0 = search rules in
    let r = no_row R A w none in
    (r.0, (c.zero.ensures ∙ r.1, r.2))

pub rows_wanted-wanted-requires-clause-tapes : goal.rows_wanted-wanted-requires-clause-tapes
rows_wanted-wanted-requires-clause-tapes g c =
    let w = word_of c.args.word in
    let runs = c.in-Ok.runs in
    let P = λ (ws : List Word). All (λ l. length l ≡ length w) ws in
    let over = subst (λ (X : Labelled g.row.S-Value.Denot). AreRunsOver X.automaton (map word_of runs.labels.items) (map (run_of g.L.LabelSet.parts) runs.runs.items)) c.automaton-2.ensures c.in-Ok.ensures.over in
    subst (λ ls. P (map word_of ls)) (sym c.deref.ensures.value)
    (label_lengths c.args.aut.now.automaton (length w) (map word_of runs.labels.items) (map (run_of g.L.LabelSet.parts) runs.runs.items) over
    (λ u i. c.proper_automata_are_proper.ensures.automaton.label u i ∙ sym c.requires))

pub rows_wanted-wanted-requires-clause-some : goal.rows_wanted-wanted-requires-clause-some
rows_wanted-wanted-requires-clause-some g c =
    let w = word_of c.args.word in
    let all = position_count c.states-states.result c.in-Some.cells (positions w) (omega (arith, c.if-states-eq0.false)) c.in-Some.ensures.some.0 in
    let some = positions_some w in
    omega (arith, all, some)

pub rows_wanted-wanted-requires-clause-few : goal.rows_wanted-wanted-requires-clause-few
rows_wanted-wanted-requires-clause-few g c =
    let w = word_of c.args.word in
    let n : 1 ≤ c.states-states.result = omega (arith, c.if-states-eq0.false) in
    let all = position_count c.states-states.result c.in-Some.cells (positions w) n c.in-Some.ensures.some.0 in
    let within = positions_within c.states-states.result c.in-Some.cells (positions w) n c.in-Some.ensures.some.0 in
    let most = c.in-Some.ensures.some.1 in
    omega (arith, all, within, most)

pub overflow_mul-wanted : goal.overflow_mul-wanted
overflow_mul-wanted g c =
    let w = word_of c.args.word in
    let n : 1 ≤ c.states-states.result = omega (arith, c.if-states-eq0.false) in
    let all = position_count c.states-states.result c.in-Some.cells (positions w) n c.in-Some.ensures.some.0 in
    let wanted = c.rows_wanted-wanted.ensures.most in
    let within = rows_within c.states-states.result c.in-Some.cells (positions w) c.rows_wanted-wanted.result n c.in-Some.ensures.some.0 (omega (arith, all, wanted)) in
    let most = c.in-Some.ensures.some.1 in
    omega (arith, within, most)

pub forward-requires-clause-room : goal.forward-requires-clause-room
forward-requires-clause-room g c =
    let A = c.args.aut.now.automaton in
    let w = word_of c.args.word in
    let runs = c.in-Ok.runs in
    let words = map word_of runs.labels.items in
    let rs = map (run_of g.L.LabelSet.parts) runs.runs.items in
    let count = c.rows_wanted-wanted.result in
    let cells = c.in-Some.cells in
    let n = length c.deref_mut-2.result.now in
    let over = subst (λ (X : Labelled g.row.S-Value.Denot). AreRunsOver X.automaton words rs) c.automaton-2.ensures c.in-Ok.ensures.over in
    let moves = subst (λ (X : Labelled g.row.S-Value.Denot). run_moves rs ≡ by_source X.automaton) c.automaton-2.ensures c.in-Ok.ensures.moves in
    let all = position_count c.states-states.result cells (positions w) (omega (arith, c.if-states-eq0.false)) c.in-Some.ensures.some.0 in
    let states : c.states-states.result ≡ A.states = c.states-states.ensures ∙ ap (λ (X : Labelled g.row.S-Value.Denot). X.automaton.states) c.automaton.ensures in
    let long : n ≡ count * A.states = ap length c.deref_mut-2.ensures.value ∙ c.in-Ok-zeros.ensures.len ∙ ap (λ k. count * k) states in
    let window : (k : ℕ) → k < length words → place_of w (get_or words k []) < positions w → place_of w (get_or words k []) < count = λ k l b.
    let labels : map word_of c.deref.result.now ≡ words = ap (map word_of) c.deref.ensures.value in
    let here = ap (λ ws. place_of w (get_or ws k [])) labels in
    let inside : k < length c.deref.result.now = let m = ap length c.deref.ensures.value in let q = length-map runs.labels.items word_of in omega (arith, l, m, q) in
    let r = c.rows_wanted-wanted.ensures.window k inside (omega (arith, here, b, all)) in
    omega (arith, r, here) in
    let room : HasRoom A w n = tuple_room A w n count c.rows_wanted-wanted.ensures.some long (λ u i b.
    let a = label_among A words rs over moves u i (c.proper_automata_are_proper.ensures.automaton.from u i) in
    let same = ap (place_of w) a.2 in
    let r = window a.0 a.1 (omega (arith, same, b)) in
    omega (arith, r, same)) in
    subst (λ (X : Labelled g.row.S-Value.Denot). HasRoom X.automaton w n) (sym c.automaton-3.ensures) room

pub forward-requires-clause-positions : goal.forward-requires-clause-positions
forward-requires-clause-positions g c =
    position_count c.states-states.result c.in-Some.cells (positions (word_of c.args.word)) (omega (arith, c.if-states-eq0.false)) c.in-Some.ensures.some.0

pub forward-requires-clause-over : goal.forward-requires-clause-over
forward-requires-clause-over g c = λ s.
    let runs = c.in-Ok.runs in
    subst (λ (X : Labelled g.row.S-Value.Denot). AreRunsOver X.automaton (map word_of runs.labels.items) (map (run_of g.L.LabelSet.parts) runs.runs.items))
    (c.automaton-2.ensures ∙ sym c.automaton-3.ensures) c.in-Ok.ensures.over

pub forward-requires-clause-all : goal.forward-requires-clause-all
forward-requires-clause-all g c = λ s.
    let runs = c.in-Ok.runs in
    subst (λ (X : Labelled g.row.S-Value.Denot). run_moves (map (run_of g.L.LabelSet.parts) runs.runs.items) ≡ by_source X.automaton)
    (c.automaton-2.ensures ∙ sym c.automaton-3.ensures) c.in-Ok.ensures.moves

pub forward-requires-clause-origins : goal.forward-requires-clause-origins
forward-requires-clause-origins g c = λ s.
    let long : length c.in-Ok-from_elem.origins.items ≡ length c.in-Ok.runs.labels.items = search rules in
    ap length c.deref_mut.ensures.value ∙ long
