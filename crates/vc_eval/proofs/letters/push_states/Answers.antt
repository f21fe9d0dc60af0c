use Rattle.std.proofs.Common.{◌≡◌, ◌<◌, ◌+◌, ◌==◌, All, filter, length, ap, sym, ◌∙◌, subst, arith}
use Rattle.std.proofs.lemmas.List.{get_or_default}
use Rattle.std.proofs.lemmas.Result.{err_from_is_err_and}
use Rattle.std.specs.List.Sorted.{IsStrictlySortedBy}
use Rattle.vc_aut.specs.Order.{move_order}
use Rattle.vc_aut.specs.Stored.{transition_of}
use Rattle.vc_model.specs.Letters.{letter_of}
use Rattle.vc_model.specs.Lists.{In}
use Rattle.vc_model.specs.Members.{In-filter_from}
use Rattle.vc_model.specs.WeightSet.{InRange}
use Rattle.vc_ring.specs.Steps.{outcome}
use Rattle.vc_eval.specs.LetterMoves.{IsMoveInto, by_letter, with_letter}
use Rattle.vc_eval.specs.Marks.{AreMarked}
use Rattle.vc_eval.specs.Moves.{entry, moved, move_steps}
use Rattle.vc_eval.proofs.LetterSources.{from_state, zero_moved, zero_steps, unequal}
use Rattle.vc_eval.proofs.Sources.{All_of, push_rows, push_ok, push_err}
use Rattle.vc_eval.proofs.ReadingLaws.{as_read, letters_rise}
use Rattle.vc_eval.specs.Forward.{from_states}
use Rattle.vc_eval.proofs.letters.push_states.Goals as goal
use Rattle.vc_eval.proofs.letters.push_states.Goals.{then-ne+in_ok-push, else-ne}

pub push-requires-clause-moves : goal.push-requires-clause-moves
push-requires-clause-moves g c =
    let R = g.S.Semiring.set in
    let A = c.args.aut.now.automaton in
    let at = c.args.at in
    let n : length c.args.rows.now ≡ length c.loop-s.rows = sym c.loop-s.auto.rows in
    let inside = c.requires.apart.inside in
    let x = c.args.letter in
    let own = filter (λ u. u.from == c.loop-s.s) A.transitions in
    let read = c.reading-read.ensures ∙ ap (filter (λ u. letter_of u == x)) c.transitions_from.ensures in
    subst (λ us. All (IsMoveInto R at (length c.loop-s.rows)) us) (sym read)
    (subst (λ k. All (IsMoveInto R at k) (filter (λ u. letter_of u == x) own)) n
    (All_of (IsMoveInto R at (length c.args.rows.now)) (filter (λ u. letter_of u == x) own) (λ u j.
    let i = (In-filter_from (λ u. u.from == c.loop-s.s) u A.transitions (In-filter_from (λ u. letter_of u == x) u own j).0).0 in
    let m = c.automata_are_valid.ensures.moves u i in
    let to = m.to in
    record { to = omega (arith, to, inside); weight = m.weight })))

pub push-requires-clause-targets : goal.push-requires-clause-targets
push-requires-clause-targets g c =
    let A = c.args.aut.now.automaton in
    let x = c.args.letter in
    let own = filter (λ u. u.from == c.loop-s.s) A.transitions in
    let read = c.reading-read.ensures ∙ ap (filter (λ u. letter_of u == x)) c.transitions_from.ensures in
    subst (λ us. All (λ u. u.to < c.states.result) us) (sym read)
    (subst (λ k. All (λ u. u.to < k) (filter (λ u. letter_of u == x) own)) (sym c.states.ensures)
    (All_of (λ u. u.to < A.states) (filter (λ u. letter_of u == x) own) (λ u j.
    (c.automata_are_valid.ensures.moves u (In-filter_from (λ u. u.from == c.loop-s.s) u A.transitions (In-filter_from (λ u. letter_of u == x) u own j).0).0).to)))

pub reading-read-requires : goal.reading-read-requires
reading-read-requires g c =
    let A = c.args.aut.now.automaton in
    let own = filter (λ u. u.from == c.loop-s.s) A.transitions in
    letters_rise (transition_of g.L.LabelSet.parts) c.transitions_from.result.now
    (subst (IsStrictlySortedBy move_order) (sym c.transitions_from.ensures) (c.transitions_are_in_order.ensures.moves A.transitions c.loop-s.s c.automata_are_valid.ensures.labelled.drawn.order))
    (λ u i. c.requires.letters u (In-filter_from (λ u. u.from == c.loop-s.s) u A.transitions (subst (λ us. In u us) c.transitions_from.ensures i)).0)

pub returns-in_err-push-clause-steps : goal.returns-in_err-push-clause-steps
returns-in_err-push-clause-steps g c =
    let R = g.S.Semiring.set in
    let A = c.args.aut.now.automaton in
    let at = c.args.at in
    let before = c.args.before in
    let x = c.args.letter in
    let s = c.loop-s.s in
    let rows = c.loop-s.rows in
    let v = c.index-rows-before.result in
    let last = c.requires.end in
    let below : s < c.args.end = omega arith in
    let inside_s : s < A.states = omega (arith, below, last) in
    let same : entry R rows (before + s) ≡ v = sym (c.index-rows-before.is ∙ get_or_default rows (before + s) v R.zero (omega arith)) in
    let own = from_state R at x before s v A.transitions rows same (λ u i. c.requires.apart.apart s u.to inside_s (c.automata_are_valid.ensures.moves u i).to) in
    let p = err_from_is_err_and c.from_residual.result c.from_residual.ensures.1 in
    rw (p.1, p.2)
    (sym (push_err R (by_letter R x before) at A.transitions s c.args.end below rows c.in_err-push.field-0.0
    (ap (λ ss. outcome R ss (tt {0})) own.1
    ∙ ap (λ ss. outcome R ss (tt {0})) (sym (as_read R at x v _ (filter (λ u. u.from == s) A.transitions) rows (c.reading-read.ensures ∙ ap (filter (λ u. letter_of u == x)) c.transitions_from.ensures)).1) ∙ sym c.in_err-push.ensures.steps))
    ∙ c.loop-s.invariant.steps)

pub loop-s-preserved : goal.loop-s-preserved
loop-s-preserved g c =
    let R = g.S.Semiring.set in
    let A = c.args.aut.now.automaton in
    let at = c.args.at in
    let before = c.args.before in
    let x = c.args.letter in
    let s = c.loop-s.s in
    let rows = c.loop-s.rows in
    let h = by_letter R x before in
    let v = c.index-rows-before.result in
    let here = filter (λ u. u.from == s) A.transitions in
    let rest = from_states A.transitions (s + 1) c.args.end in
    let last = c.requires.end in
    let below : s < c.args.end = omega arith in
    let inside_s : s < A.states = omega (arith, below, last) in
    let same : entry R rows (before + s) ≡ v = sym (c.index-rows-before.is ∙ get_or_default rows (before + s) v R.zero (omega arith)) in
    let own = from_state R at x before s v A.transitions rows same (λ u i. c.requires.apart.apart s u.to inside_s (c.automata_are_valid.ensures.moves u i).to) in
    elim c.if-ne.branch [
      | then-ne+in_ok-push w ↦
          let read = as_read R at x v _ here rows (w.reading-read.ensures ∙ ap (filter (λ u. letter_of u == x)) w.transitions_from.ensures) in
          let brought : c.if-ne.rows ≡ moved R h at here rows
          = w.rows-is ∙ w.in_ok-push.ensures.rows ∙ read.0 ∙ sym own.0 in
          let fit = ap (λ ss. outcome R ss (tt {0})) own.1 ∙ ap (λ ss. outcome R ss (tt {0})) (sym read.1) ∙ sym w.in_ok-push.ensures.steps in
          record {
            in_range = subst (InRange R) (sym w.rows-is) w.push.ensures.rows_in;
            marked = subst (λ r. AreMarked R r c.if-ne.marks) (sym w.rows-is) (subst (AreMarked R w.push.new.rows) (sym w.marks-is) w.in_ok-push.ensures.marked);
            steps = ap (λ new. outcome R (move_steps R h at rest new) (tt {0})) brought ∙ sym (push_ok R h at A.transitions s c.args.end below rows fit) ∙ c.loop-s.invariant.steps;
            moved = ap (moved R h at rest) brought ∙ sym (push_rows R h at A.transitions s c.args.end below rows) ∙ c.loop-s.invariant.moved;
          }
      | else-ne w ↦
          let L = g.met.S.Semiring.laws in
          let K = g.met.S.Semiring.ranges in
          let none : v ≡ R.zero = (g.met.S.Semiring.same v c.zero.result).0 (unequal _ c.ne.result w.if-ne.false c.ne.ensures) ∙ c.zero.ensures in
          let held : moved R h at here rows ≡ rows = own.0 ∙ ap (λ z. moved R (with_letter x z) at here rows) none ∙ zero_moved L K at x here rows in
          let inside = c.requires.apart.inside in
          let long = c.loop-s.auto.rows in
          let fit = ap (λ ss. outcome R ss (tt {0})) own.1
          ∙ ap (λ z. outcome R (move_steps R (with_letter x z) at here rows) (tt {0})) none
          ∙ zero_steps L K at x here rows c.loop-s.invariant.in_range (λ u i.
          let m = c.automata_are_valid.ensures.moves u (In-filter_from (λ u. u.from == s) u A.transitions i).0 in
          let to = m.to in
          (omega (arith, to, inside, long), m.weight)) in
          record {
            in_range = subst (InRange R) (sym w.rows-is) c.loop-s.invariant.in_range;
            marked = subst (λ r. AreMarked R r c.if-ne.marks) (sym w.rows-is) (subst (AreMarked R rows) (sym w.marks-is) c.loop-s.invariant.marked);
            steps = ap (λ new. outcome R (move_steps R h at rest new) (tt {0})) (w.rows-is ∙ sym held) ∙ sym (push_ok R h at A.transitions s c.args.end below rows fit) ∙ c.loop-s.invariant.steps;
            moved = ap (moved R h at rest) (w.rows-is ∙ sym held) ∙ sym (push_rows R h at A.transitions s c.args.end below rows) ∙ c.loop-s.invariant.moved;
          }
    ]
