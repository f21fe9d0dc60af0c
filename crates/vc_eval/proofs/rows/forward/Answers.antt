use Rattle.std.proofs.Common.{◌≡◌, ℕ, ◌<◌, ◌+◌, ◌-◌, ◌*◌, length, ap, ap₂, sym, ◌∙◌, subst, arith, inl, inr}
use Rattle.std.proofs.lemmas.Bool.{cases_lt}
use Rattle.std.proofs.lemmas.Nat.{row_fits}
use Rattle.std.proofs.lemmas.Result.{err_from_is_err_and}
use Rattle.vc_label.specs.Borrowed.{word_of}
use Rattle.vc_model.specs.Automata.{row}
use Rattle.vc_ring.specs.Steps.{AllFit}
use Rattle.vc_eval.specs.Forward.{by_source, row_steps}
use Rattle.vc_eval.specs.LetterMoves.{AreLettersHere}
use Rattle.vc_eval.specs.Moves.{entry, next_row, source, cleared, move_steps, moved, AreMovesHere}
use Rattle.vc_eval.specs.Positions.{positions, prefix_at}
use Rattle.vc_eval.specs.Ready.{HasRoom}
use Rattle.vc_eval.proofs.Cells.{behind, earlier_low, apart_row}
use Rattle.vc_eval.proofs.Ends.{from_ok, from_err, finished, refused}
use Rattle.vc_eval.proofs.MarkedCells.{all_marked}
use Rattle.vc_eval.proofs.Places.{positions_some, prefix_is, prefix_some}
use Rattle.vc_eval.proofs.Prefixes.{last_prefix}
use Rattle.vc_eval.proofs.Rounds.{Holds, holds_first, round, move_here}
use Rattle.vc_eval.proofs.rows.forward.Goals as goal

pub loop-position-init : goal.loop-position-init
loop-position-init g c =
    let R = g.S.Semiring.set in
    let A = c.args.aut.now.automaton in
    let w = word_of c.args.word in
    let m = c.requires.room in
    let r : HasRoom A w (length c.start.new.rows) = record { count = m.count; some = m.some; whole = c.start.auto.rows ∙ m.whole; window = m.window } in
    record {
      in_range = c.start.ensures.rows_in;
      marked = λ t. all_marked R c.start.new.rows c.mark_all.new.marks c.mark_all.ensures;
      some = omega arith;
      rows = (r, 0, omega (arith, m.some), omega arith, holds_first g.met.S.Semiring.laws (length c.args.aut.now.sets) A c.automata_are_valid.ensures.automaton c.requires.proper w c.requires.tapes m.count m.window c.start.new.rows (positions_some w) c.start.ensures.entries);
      fit = λ j a b. absurd (omega (arith, a, b));
    }

pub returns-clause-value : goal.returns-clause-value
returns-clause-value g c =
    let R = g.S.Semiring.set in
    let A = c.args.aut.now.automaton in
    let w = word_of c.args.word in
    let i = c.loop-position.invariant in
    let at = c.loop-position.at in
    let rows = c.loop-position.rows in
    let p : ℕ = c.loop-position.position - 1 in
    let n = positions_some w in
    let slot = i.rows.1 in
    let some = i.some in
    let all : p + 1 ≡ positions w = omega (arith, c.loop-position.auto.position-end, c.loop-position-test.false, c.requires.positions, n, some) in
    let last = (λ (t : ℕ) (l : t < A.states).
    ap (λ a. entry R rows (a + t)) (i.rows.3 ∙ sym (earlier_low (slot * A.states) (0 * A.states) (i.rows.0.count * A.states) (omega arith) ∙ omega arith))
    ∙ i.rows.4 0 (omega arith) (omega (arith, i.rows.0.some)) t l
    ∙ ap (λ (j : ℕ). row R A (prefix_at w j) t) (omega arith)
    ∙ ap (λ v. row R A v t) (last_prefix w p all)) in
    finished g.met.S.Semiring.laws (length c.args.aut.now.sets) A c.automata_are_valid.ensures.automaton c.requires.proper w c.requires.tapes at rows last
    (λ j a b. i.fit j a (omega (arith, b, all, some)))
    c.finish.result c.finish.ensures.value

pub loop-position-preserved : goal.loop-position-preserved
loop-position-preserved g c =
    let R = g.S.Semiring.set in
    let A = c.args.aut.now.automaton in
    let w = word_of c.args.word in
    let i = c.loop-position.invariant in
    let some = i.some in
    let rows = c.loop-position.rows in
    let q = c.loop-position.position in
    let p : ℕ = q - 1 in
    let next : p + 1 ≡ q = omega (arith, some) in
    let m = i.rows.0 in
    let slot = i.rows.1 in
    let k = behind A.states m.count slot i.rows.2 in
    let f = word_of c.front.result in
    let at = c.row_behind-at.result in
    let in_p : p + 1 < positions w = omega (arith, c.loop-position-test.true, c.requires.positions, next) in
    let ef : f ≡ prefix_at w (p + 1) = c.front.ensures ∙ ap (prefix_at w) (sym next) in
    let ea : at ≡ k.slot_behind * A.states = c.row_behind-at.ensures ∙ ap₂ (λ (x y : ℕ). next_row x y (length rows)) i.rows.3 c.states-states.ensures ∙ ap (next_row (slot * A.states) A.states) m.whole ∙ k.is in
    let r = round g.met.S.Semiring.laws (length c.args.aut.now.sets) A c.automata_are_valid.ensures.automaton c.requires.proper w c.requires.tapes m.count m.window slot i.rows.2 p in_p rows m.whole i.rows.4 k f at ef ea in
    let h = source R w A.states f at in
    let steps = move_steps R h at (by_source A) (cleared R at A.states rows) in
    let made : c.fill.new.rows ≡ moved R h at (by_source A) (cleared R at A.states rows) = c.in_ok-fill.ensures.rows in
    let room : HasRoom A w (length c.fill.new.rows) = record { count = m.count; some = m.some; whole = c.fill.auto.rows ∙ m.whole; window = m.window } in
    let fit : AllFit R (row_steps R A (prefix_at w q)) = subst (λ j. AllFit R (row_steps R A (prefix_at w j))) next (r.0 (from_ok R steps (tt {0}) (tt {0}) (sym c.in_ok-fill.ensures.steps)).1) in
    record {
      in_range = c.fill.ensures.rows_in;
      marked = c.in_ok-fill.ensures.marked;
      some = omega (arith, some);
      rows = (
        room,
        k.slot_behind,
        k.below,
        ea,
        subst (λ z. Holds R A w m.count (k.slot_behind * A.states) (q + 1 - 1) z) (sym made)
            (subst (λ j. Holds R A w m.count (k.slot_behind * A.states) j (moved R h at (by_source A) (cleared R at A.states rows))) (omega (arith, next)) r.2),
      );
      fit = λ j a b. elim (cases_lt j q) [
        | inl l ↦ i.fit j a l
        | inr l ↦ let e : q ≡ j = omega (arith, l, b) in subst (λ j. AllFit R (row_steps R A (prefix_at w j))) e fit
      ];
    }

pub returns-in_err-fill-clause-value : goal.returns-in_err-fill-clause-value
returns-in_err-fill-clause-value g c =
    let R = g.S.Semiring.set in
    let A = c.args.aut.now.automaton in
    let w = word_of c.args.word in
    let i = c.loop-position.invariant in
    let some = i.some in
    let rows = c.loop-position.rows in
    let q = c.loop-position.position in
    let p : ℕ = q - 1 in
    let next : p + 1 ≡ q = omega (arith, some) in
    let m = i.rows.0 in
    let slot = i.rows.1 in
    let k = behind A.states m.count slot i.rows.2 in
    let f = word_of c.front.result in
    let at = c.row_behind-at.result in
    let in_p : p + 1 < positions w = omega (arith, c.loop-position-test.true, c.requires.positions, next) in
    let ef : f ≡ prefix_at w (p + 1) = c.front.ensures ∙ ap (prefix_at w) (sym next) in
    let ea : at ≡ k.slot_behind * A.states = c.row_behind-at.ensures ∙ ap₂ (λ (x y : ℕ). next_row x y (length rows)) i.rows.3 c.states-states.ensures ∙ ap (next_row (slot * A.states) A.states) m.whole ∙ k.is in
    let r = round g.met.S.Semiring.laws (length c.args.aut.now.sets) A c.automata_are_valid.ensures.automaton c.requires.proper w c.requires.tapes m.count m.window slot i.rows.2 p in_p rows m.whole i.rows.4 k f at ef ea in
    let h = source R w A.states f at in
    let steps = move_steps R h at (by_source A) (cleared R at A.states rows) in
    let o = from_err R steps (tt {0}) c.in_err-fill.field-0.0 (sym c.in_err-fill.ensures.steps) in
    let x = err_from_is_err_and c.from_residual.result c.from_residual.ensures.1 in
    rw (x.1, x.2)
    (refused g.met.S.Semiring.laws (length c.args.aut.now.sets) A c.automata_are_valid.ensures.automaton c.requires.proper w c.requires.tapes (p + 1) (omega arith) in_p c.in_err-fill.field-0.0 (r.1 c.in_err-fill.field-0.0 o.0) o.1)

pub fill-requires-clause-moves : goal.fill-requires-clause-moves
fill-requires-clause-moves g c =
    let R = g.S.Semiring.set in
    let A = c.args.aut.now.automaton in
    let w = word_of c.args.word in
    let i = c.loop-position.invariant in
    let rows = c.loop-position.rows in
    let q = c.loop-position.position in
    let m = i.rows.0 in
    let slot = i.rows.1 in
    let k = behind A.states m.count slot i.rows.2 in
    let at = c.row_behind-at.result in
    let in_q : q < positions w = omega (arith, c.loop-position-test.true, c.requires.positions) in
    let ea : at ≡ k.slot_behind * A.states = c.row_behind-at.ensures ∙ ap₂ (λ (x y : ℕ). next_row x y (length rows)) i.rows.3 c.states-states.ensures ∙ ap (next_row (slot * A.states) A.states) m.whole ∙ k.is in
    subst (λ z. AreMovesHere R w A z at (length rows)) (sym c.front.ensures)
    (subst (λ a. AreMovesHere R w A (prefix_at w q) a (length rows)) (sym ea)
    (subst (λ n. AreMovesHere R w A (prefix_at w q) (k.slot_behind * A.states) n) (sym m.whole)
    (λ u j. move_here g.met.S.Semiring.laws (length c.args.aut.now.sets) A c.automata_are_valid.ensures.automaton c.requires.proper w c.requires.tapes m.count m.window k.slot_behind k.below q in_q u j (c.automata_are_valid.ensures.moves u j).weight)))

pub fill-requires-clause-room : goal.fill-requires-clause-room
fill-requires-clause-room g c =
    let A = c.args.aut.now.automaton in
    let i = c.loop-position.invariant in
    let rows = c.loop-position.rows in
    let m = i.rows.0 in
    let slot = i.rows.1 in
    let k = behind A.states m.count slot i.rows.2 in
    let at = c.row_behind-at.result in
    let ea : at ≡ k.slot_behind * A.states = c.row_behind-at.ensures ∙ ap₂ (λ (x y : ℕ). next_row x y (length rows)) i.rows.3 c.states-states.ensures ∙ ap (next_row (slot * A.states) A.states) m.whole ∙ k.is in
    let fit = row_fits k.slot_behind A.states m.count A.states k.below (omega arith) in
    let whole = m.whole in
    omega (arith, fit, ea, whole)

pub fill-requires-clause-letters : goal.fill-requires-clause-letters
fill-requires-clause-letters g c = λ single.
    let A = c.args.aut.now.automaton in
    let w = word_of c.args.word in
    let i = c.loop-position.invariant in
    let rows = c.loop-position.rows in
    let q = c.loop-position.position in
    let some = i.some in
    let m = i.rows.0 in
    let slot = i.rows.1 in
    let k = behind A.states m.count slot i.rows.2 in
    let at = c.row_behind-at.result in
    let in_q : q < positions w = omega (arith, c.loop-position-test.true, c.requires.positions) in
    let ea : at ≡ k.slot_behind * A.states = c.row_behind-at.ensures ∙ ap₂ (λ (x y : ℕ). next_row x y (length rows)) i.rows.3 c.states-states.ensures ∙ ap (next_row (slot * A.states) A.states) m.whole ∙ k.is in
    let whole = m.whole in
    let two = c.requires.two_rows single in
    let here : AreLettersHere A (prefix_at w q) (k.slot_behind * A.states) (m.count * A.states) = record {
      letters = c.requires.letters single;
      tape = (prefix_is w q in_q).0.1 ∙ c.requires.tapes ∙ c.requires.tape single;
      some = prefix_some w q some in_q;
      apart = apart_row A.states m.count k.slot_behind k.below (omega (arith, whole, two, c.loop-position.auto.rows, c.start.auto.rows));
    } in
    subst (λ z. AreLettersHere A z at (length rows)) (sym c.front.ensures)
    (subst (λ a. AreLettersHere A (prefix_at w q) a (length rows)) (sym ea)
    (subst (AreLettersHere A (prefix_at w q) (k.slot_behind * A.states)) (sym whole) here))

pub fill-requires-clause-over : goal.fill-requires-clause-over
fill-requires-clause-over g c = c.requires.over

pub fill-requires-clause-all : goal.fill-requires-clause-all
fill-requires-clause-all g c = c.requires.all

pub fill-requires-clause-origins : goal.fill-requires-clause-origins
fill-requires-clause-origins g c = λ s. c.loop-position.auto.origins ∙ c.requires.origins s
