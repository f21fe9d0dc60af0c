use Rattle.std.proofs.Common.{◌≡◌, ℕ, ◌-◌, OnOk, length, get_or, ap, sym, ◌∙◌, subst}
use Rattle.std.proofs.lemmas.Result.{on_ok_weaker}
use Rattle.vc_label.specs.Borrowed.{word_of}
use Rattle.vc_ring.specs.Steps.{outcome}
use Rattle.vc_eval.specs.Forward.{by_source}
use Rattle.vc_eval.specs.LetterMoves.{by_letter}
use Rattle.vc_eval.specs.Moves.{IsMoveHere, source, cleared, moved, move_steps, earlier}
use Rattle.vc_eval.proofs.LetterSources.{letter_row}
use Rattle.vc_eval.proofs.rows.fill.Goals as goal

pub returns-then-single-clause-steps : goal.returns-then-single-clause-steps
returns-then-single-clause-steps g c =
    let R = g.S.Semiring.set in
    let A = c.args.aut.now.automaton in
    let w = word_of c.args.word in
    let f = word_of c.args.front in
    let at = c.args.at in
    let rows = c.clear_marked.new.rows in
    let cells = length c.args.rows.now in
    let tape = c.tape-tape.result.now in
    let x = get_or tape (length tape - 1) 0 in
    let back : c.row_before-before.result ≡ earlier at A.states cells = c.row_before-before.ensures ∙ ap (λ (i : ℕ). earlier at i cells) c.states-states.ensures in
    let made : rows ≡ cleared R at A.states c.args.rows.now = c.clear_marked.ensures.rows ∙ ap (λ n. cleared R at n c.args.rows.now) c.states-states.ensures in
    let same = letter_row R A w f at cells x rows (c.requires.letters c.if-single.true) c.requires.tapes c.clear_marked.auto.rows (ap (λ t. get_or t (length t - 1) 0) c.tape-tape.ensures.value) in
    c.push_row.ensures.steps
    ∙ ap (λ b. outcome R (move_steps R (by_letter R x b) at (by_source A) rows) (tt {0})) back
    ∙ ap (λ ss. outcome R ss (tt {0})) same.1
    ∙ ap (λ r. outcome R (move_steps R (source R w A.states f at) at (by_source A) r) (tt {0})) made

pub returns-then-single-clause-rows : goal.returns-then-single-clause-rows
returns-then-single-clause-rows g c =
    let R = g.S.Semiring.set in
    let A = c.args.aut.now.automaton in
    let w = word_of c.args.word in
    let f = word_of c.args.front in
    let at = c.args.at in
    let rows = c.clear_marked.new.rows in
    let cells = length c.args.rows.now in
    let tape = c.tape-tape.result.now in
    let x = get_or tape (length tape - 1) 0 in
    let back : c.row_before-before.result ≡ earlier at A.states cells = c.row_before-before.ensures ∙ ap (λ (i : ℕ). earlier at i cells) c.states-states.ensures in
    let made : rows ≡ cleared R at A.states c.args.rows.now = c.clear_marked.ensures.rows ∙ ap (λ n. cleared R at n c.args.rows.now) c.states-states.ensures in
    let same = letter_row R A w f at cells x rows (c.requires.letters c.if-single.true) c.requires.tapes c.clear_marked.auto.rows (ap (λ t. get_or t (length t - 1) 0) c.tape-tape.ensures.value) in
    subst (λ z. OnOk c.push_row.result (c.push_row.new.rows ≡ z))
    (
    ap (λ b. moved R (by_letter R x b) at (by_source A) rows) back
    ∙ same.0
    ∙ ap (moved R (source R w A.states f at) at (by_source A)) made
    )
    c.push_row.ensures.rows

pub gather_row-requires-clause-moves : goal.gather_row-requires-clause-moves
gather_row-requires-clause-moves g c =
    let R = g.S.Semiring.set in
    let A = c.args.aut.now.automaton in
    λ u i. subst (λ n. IsMoveHere R (word_of c.args.word) A.states (word_of c.args.front) c.args.at n u) (sym c.clear.auto.rows) (c.requires.moves u i)

pub gather_row-requires-clause-over : goal.gather_row-requires-clause-over
gather_row-requires-clause-over g c =
    rw (c.deref.ensures.value, c.deref-2.ensures.value) (c.requires.over c.if-single.false)

pub gather_row-requires-clause-all : goal.gather_row-requires-clause-all
gather_row-requires-clause-all g c =
    rw c.deref-2.ensures.value (c.requires.all c.if-single.false)

pub gather_row-requires-clause-origins : goal.gather_row-requires-clause-origins
gather_row-requires-clause-origins g c =
    rw c.deref.ensures.value (c.requires.origins c.if-single.false)

pub returns-clause-steps : goal.returns-clause-steps
returns-clause-steps g c =
    let R = g.S.Semiring.set in
    let A = c.args.aut.now.automaton in
    let at = c.args.at in
    let h = source R (word_of c.args.word) A.states (word_of c.args.front) at in
    let made : c.clear.new.rows ≡ cleared R at A.states c.args.rows.now = c.clear.ensures.rows ∙ ap (λ n. cleared R at n c.args.rows.now) c.states-states.ensures in
    c.gather_row.ensures.steps ∙ ap (λ r. outcome R (move_steps R h at (by_source A) r) (tt {0})) made

pub returns-clause-rows : goal.returns-clause-rows
returns-clause-rows g c =
    let R = g.S.Semiring.set in
    let A = c.args.aut.now.automaton in
    let at = c.args.at in
    let h = source R (word_of c.args.word) A.states (word_of c.args.front) at in
    let made : c.clear.new.rows ≡ cleared R at A.states c.args.rows.now = c.clear.ensures.rows ∙ ap (λ n. cleared R at n c.args.rows.now) c.states-states.ensures in
    subst (λ z. OnOk c.gather_row.result (c.gather_row.new.rows ≡ z)) (ap (moved R h at (by_source A)) made) c.gather_row.ensures.rows

pub returns-clause-marked : goal.returns-clause-marked
returns-clause-marked g c = on_ok_weaker c.gather_row.result (λ e t. absurd (cc (sym t ∙ c.if-single.false))) c.gather_row.ensures.rows
