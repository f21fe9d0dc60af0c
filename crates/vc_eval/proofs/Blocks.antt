-- Row steps block by block.
use Rattle.std.proofs.Common.{◌≡◌, ℕ, ◌<◌, ◌≤◌, ◌+◌, ◌-◌, ◌*◌, ◌/◌, ◌==◌, List, ◌++◌, Bool, true, false, Option, Ok, Err, Some, None, cond, filter, refl, sym, ap, ◌∙◌, inl, inr, subst, zero, suc, arith, append_assoc}
use Rattle.std.proofs.lemmas.Bool.{eqb-true}
use Rattle.vc_model.specs.Automata.{Transition}
use Rattle.vc_model.specs.Letters.{letter_of}
use Rattle.vc_model.specs.Lists.{In, up_from}
use Rattle.vc_model.specs.Members.{In-filter_from, In-flat_map_from, In-up_from}
use Rattle.vc_model.specs.OutcomeLaws.{outcome-append_ok, outcome-append_err}
use Rattle.vc_model.specs.WeightSet.{WeightSet, SemiringLaws, RangeLaws}
use Rattle.vc_ring.specs.Steps.{outcome, fits}
use Rattle.vc_ring.specs.declared.faults.Overflow.{Overflow}
use Rattle.vc_eval.specs.Forward.{from_states}
use Rattle.vc_eval.specs.LetterMoves.{by_letter}
use Rattle.vc_eval.specs.Marks.{mark, AreMarked}
use Rattle.vc_eval.specs.Moves.{entry, moved, move_steps}
use Rattle.vc_eval.proofs.LetterSources.{IsIdle}
use Rattle.vc_eval.proofs.MarkedCells.{part_zero}
use Rattle.vc_eval.proofs.Sources.{next_source, no_states, moved-append, move_steps-append}

module _ {V : Type 0} (ts : List (Transition V)) where
  joined : (k s m n : ℕ) → m ≡ s + k → m ≤ n → from_states ts s n ≡ from_states ts s m ++ from_states ts m n
  joined zero s m n e l =
      let q : s ≡ m = omega (arith, e) in
      subst (λ z. from_states ts s n ≡ from_states ts s z ++ from_states ts z n) q (sym (ap (λ us. us ++ from_states ts s n) (no_states ts s s (omega arith))))
  joined (suc k) s m n e l =
      next_source ts s n (omega (arith, e, l))
      ∙ ap (λ us. filter (λ u. u.from == s) ts ++ us) (joined k (s + 1) m n (omega (arith, e)) l)
      ∙ sym (append_assoc (filter (λ u. u.from == s) ts) (from_states ts (s + 1) m) (from_states ts m n))
      ∙ sym (ap (λ us. us ++ from_states ts m n) (next_source ts s m (omega (arith, e))))

  -- the transitions from one part of the states, and those from the part behind it
  both_parts : (s m n : ℕ) → s ≤ m → m ≤ n → from_states ts s n ≡ from_states ts s m ++ from_states ts m n
  both_parts s m n a b = joined (m - s) s m n (omega (arith, a)) b

  -- the source of one of them
  from_part : (s n : ℕ) (u : Transition V) → In u (from_states ts s n) → (s ≤ u.from) × (u.from < n)
  from_part s n u i =
      let r = In-flat_map_from (λ p. filter (λ t. t.from == p) ts) u (up_from s (n - s)) i in
      let f = In-filter_from (λ t. t.from == r.0) u ts r.2 in
      let e : u.from ≡ r.0 = eqb-true u.from r.0 f.1 in
      let b = In-up_from r.0 s (n - s) r.1 in
      let low = b.0 in
      let high = b.1 in
      (omega (arith, e, low), omega (arith, e, low, high))

  pub part-In : (s n : ℕ) (u : Transition V) → In u (from_states ts s n) → In u ts
  part-In s n u i =
      let r = In-flat_map_from (λ p. filter (λ t. t.from == p) ts) u (up_from s (n - s)) i in
      (In-filter_from (λ t. t.from == r.0) u ts r.2).0

  -- those from the states of a block that is not marked bring nothing
  pub idle_part : {R : WeightSet V} (L : SemiringLaws R) (K : RangeLaws R) (x before first end : ℕ) (rows : List V) (marks : List Bool) → AreMarked R rows marks
      → before + end ≤ (before + first) / 64 * 64 + 64 → first < end → mark marks ((before + first) / 64) ≡ false → (u : Transition V) → In u (from_states ts first end) → IsIdle L K (by_letter R x before rows u)
  idle_part {R} L K x before first end rows marks h r l e u i = go (letter_of u == x)
    where
      zero_there : entry R rows (before + u.from) ≡ R.zero
      zero_there =
          let p = from_part first end u i in
          let low = p.0 in
          let high = p.1 in
          subst (λ k. entry R rows k ≡ R.zero) (omega (arith, low)) (part_zero R rows marks (before + first) (end - first) h (omega (arith, r, l)) e (u.from - first) (omega (arith, low, high)))

      go : (b : Bool) → IsIdle L K (cond b (Some (entry R rows (before + u.from))) None)
      go true = inr (ap Some zero_there)
      go false = inl refl

  module _ (R : WeightSet V) (h : List V → Transition V → Option V) (at s m n : ℕ) (low : s ≤ m) (high : m ≤ n) (rows : List V) where
    pub part_rows : moved R h at (from_states ts s n) rows ≡ moved R h at (from_states ts m n) (moved R h at (from_states ts s m) rows)
    part_rows = ap (λ us. moved R h at us rows) (both_parts s m n low high) ∙ moved-append R h at (from_states ts s m) (from_states ts m n) rows

    split : outcome R (move_steps R h at (from_states ts s n) rows) (tt {0}) ≡ outcome R (move_steps R h at (from_states ts s m) rows ++ move_steps R h at (from_states ts m n) (moved R h at (from_states ts s m) rows)) (tt {0})
    split =
        ap (λ us. outcome R (move_steps R h at us rows) (tt {0})) (both_parts s m n low high)
        ∙ ap (λ ss. outcome R ss (tt {0})) (move_steps-append R h at (from_states ts s m) (from_states ts m n) rows)

    pub part_ok : outcome R (move_steps R h at (from_states ts s m) rows) (tt {0}) ≡ Ok (tt {0})
        → outcome R (move_steps R h at (from_states ts s n) rows) (tt {0}) ≡ outcome R (move_steps R h at (from_states ts m n) (moved R h at (from_states ts s m) rows)) (tt {0})
    part_ok o = split ∙ outcome-append_ok (fits R) (move_steps R h at (from_states ts s m) rows) (move_steps R h at (from_states ts m n) (moved R h at (from_states ts s m) rows)) (tt {0}) (tt {0}) o

    pub part_err : (e : Overflow V) → outcome R (move_steps R h at (from_states ts s m) rows) (tt {0}) ≡ Err e → outcome R (move_steps R h at (from_states ts s n) rows) (tt {0}) ≡ Err e
    part_err e o = split ∙ outcome-append_err (fits R) (move_steps R h at (from_states ts s m) rows) (move_steps R h at (from_states ts m n) (moved R h at (from_states ts s m) rows)) (tt {0}) (tt {0}) e o
