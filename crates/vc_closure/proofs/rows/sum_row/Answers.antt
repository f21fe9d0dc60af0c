use Rattle.std.proofs.Common.{◌≡◌, ◌∙◌, ℕ, cond, eqb, inl, inr, map, sym, ap, ap₂}
use Rattle.std.proofs.lemmas.Bool.{false≢true}
use Rattle.vc_aut.specs.Stored.{transition_of}
use Rattle.vc_closure.specs.Closing.{unit_entry}
use Rattle.vc_closure.specs.Rows.{moves_part, sum_at}
use Rattle.vc_closure.proofs.Causes.{told}
use Rattle.vc_closure.proofs.Ordered.{unit_turned}
use Rattle.vc_model.specs.Rearranged.{zero_plus}
use Rattle.vc_ring.specs.Steps.{fits}
use Rattle.vc_ring.specs.declared.faults.Overflow.TheVariants.{Add}
use Rattle.vc_closure.proofs.rows.sum_row.Goals as goal

pub returns-in-Err-clause-fault : goal.returns-in-Err-clause-fault
returns-in-Err-clause-fault g c =
    let R = g.S.Semiring.set in
    told R (λ o h f.
    let q : fits R o ≡ R.fits_plus R.zero R.one = ap (fits R) h ∙ ap₂ R.fits_plus (c.requires.sums.cleared c.args.state) c.one.ensures in
    absurd (false≢true (sym f ∙ q ∙ g.met.S.Semiring.ranges.zero_plus_fits R.one g.met.S.Semiring.ranges.one_in)))
    (λ l h. h) c.in-Err.fault c.in-Err.ensures.fault

pub returns-in-Err-add_moves-clause-fault : goal.returns-in-Err-add_moves-clause-fault
returns-in-Err-add_moves-clause-fault g c =
    let R = g.S.Semiring.set in
    let L = g.met.S.Semiring.laws in
    let s = c.args.state in
    let first : (q : ℕ) → sum_at R c.add.new.sums.sums.items q ≡ unit_entry R s q = λ q.
    c.in_default.ensures.added q ∙ ap₂ R.plus (c.requires.sums.cleared q) (ap (λ x. cond (eqb s q) x R.zero) c.one.ensures) ∙ zero_plus L (cond (eqb s q) R.one R.zero) ∙ unit_turned R s q in
    told R (λ o h f.
    record {
      before = h.before;
      move_ = h.move_;
      after = h.after;
      is = h.is;
      empty = h.empty;
      step = (
        h.step.0,
        h.step.1,
        elim h.step.2 [
          | inl q ↦ inl q
          | inr q ↦ inr (q ∙ ap (λ x. Add (R.plus x (moves_part R c.args.rows.now h.before h.step.0.state)) (R.times h.move_.weight h.step.0.weight)) (first h.step.0.state))
        ],
      );
    }) (λ l h. h) c.in-Err-add_moves.fault c.in-Err-add_moves.ensures.fault

pub returns-clause-added : goal.returns-clause-added
returns-clause-added g c q =
    let of = transition_of {L = g.row.L.Denot} {S = g.row.S.Denot} {V = g.row.S-Value.Denot} g.L.LabelSet.parts in
    let R = g.S.Semiring.set in
    let L = g.met.S.Semiring.laws in
    let s = c.args.state in
    let first : sum_at R c.add.new.sums.sums.items q ≡ unit_entry R s q =
    c.in_default.ensures.added q ∙ ap₂ R.plus (c.requires.sums.cleared q) (ap (λ x. cond (eqb s q) x R.zero) c.one.ensures) ∙ zero_plus L (cond (eqb s q) R.one R.zero) ∙ unit_turned R s q in
    c.in_default-add_moves.ensures.added q ∙ ap (λ x. R.plus x (moves_part R c.args.rows.now (map of c.args.moves.now) q)) first
