-- From the rows of the positions so far to that of the next.
use Rattle.std.proofs.Common.{◌≡◌, ◌≢◌, ℕ, ◌<◌, ◌≤◌, ◌+◌, ◌-◌, ◌*◌, IsTrue, List, [], ◌∷◌, ◌++◌, Bool, true, false, Option, None, Some, cond, set, length, refl, sym, ap, ◌∙◌, inl, inr, subst, zero, suc, arith}
use Rattle.std.proofs.lemmas.List.{get_or-set_other, length-set}
use Rattle.std.proofs.lemmas.Nat.{row_fits, mul-le}
use Rattle.vc_model.specs.WeightSet.{WeightSet, SemiringLaws}
use Rattle.vc_model.specs.Automata.{Transition, Automaton, IsAutomaton, IsProper, row, row_within, at_rest, initial_weight}
use Rattle.vc_model.specs.Lists.{In}
use Rattle.vc_model.specs.LastSteps.{row_within-zero}
use Rattle.vc_model.specs.Words.{Word, size, cut_end, is_empty}
use Rattle.vc_ring.specs.Steps.{AllFit}
use Rattle.vc_ring.specs.declared.faults.Overflow.{Overflow}
use Rattle.vc_eval.specs.Forward.{by_source, row_steps}
use Rattle.vc_eval.specs.Moves.{entry, ends, earlier, source, cell_of, IsMoveHere, cleared, moved, move_steps, moved_once, once_steps}
use Rattle.vc_eval.specs.Positions.{positions, place_of, prefix_at}
use Rattle.vc_eval.proofs.Cells.{earlier_low, apart, bounded, IsBehind, cleared-length, cleared-other, cleared-zero}
use Rattle.vc_eval.proofs.EndCuts.{word_ends}
use Rattle.vc_eval.proofs.Places.{before, prefix_is, size_le_place, place_of_none}
use Rattle.vc_eval.proofs.RowSteps.{brings, row-fits, row-In, row-entry}
use Rattle.vc_eval.proofs.Sources.{by_source-In}
use Rattle.vc_eval.proofs.Targets.{fixed, moved-length, moved-other, moved_once-length}

-- the rows of the last positions up to p stand in the cells of so many rows, that of p from a cell on
abbrev pub Holds : {V : Type 0} → WeightSet V → Automaton V → Word → ℕ → ℕ → ℕ → List V → Type 0
Holds R A w count at p rows = (b : ℕ) → b ≤ p → b < count → (t : ℕ) → t < A.states → entry R rows (earlier at (b * A.states) (count * A.states) + t) ≡ row R A (prefix_at w (p - b)) t

is_empty_word : (w : Word) → size w ≡ 0 → is_empty w ≡ true
is_empty_word [] z = refl
is_empty_word ([] ∷ w) z = is_empty_word w (omega arith)
is_empty_word ((x ∷ a) ∷ w) z = absurd (omega arith)

module _ {V : Type 0} {R : WeightSet V} (L : SemiringLaws R) (tapes : ℕ) (A : Automaton V) (G : IsAutomaton R tapes A) (proper : IsProper A) (w : Word) (e : length w ≡ tapes) (count : ℕ)
    (window : (u : Transition V) → In u A.transitions → (p : ℕ) → p < positions w → place_of w u.label ≤ p → place_of w u.label < count) where
  abbrev cells : ℕ
  cells = count * A.states

  -- how far a label leads back
  module _ (p : ℕ) (p_in : p < positions w) (u : Transition V) (i : In u A.transitions) (v : Word) (c : cut_end u.label (prefix_at w p) ≡ Some v) where
    long : length u.label ≡ length w
    long = G.label u i ∙ sym e

    pub back_some : 1 ≤ place_of w u.label
    back_some = let h = size_le_place w u.label long in let n : size u.label ≢ 0 = proper u i in omega (arith, h, n)

    pub back_below : place_of w u.label < count
    back_below = window u i p p_in (before w u.label v p p_in c).0

  -- each transition has its cells
  module _ (slot : ℕ) (s : slot < count) (p : ℕ) (p_in : p < positions w) where
    abbrev f : Word
    f = prefix_at w p

    cells_here : (u : Transition V) → In u A.transitions → IsTrue (ends u.label f) → (place_of w u.label ≤ cells) × (place_of w u.label * A.states ≤ cells) × (cell_of w A.states (slot * A.states) cells u < cells)
    cells_here u i t = elim (word_ends u.label f) [
      | inl (y, v, c) ↦
          let one = back_some p p_in u i v c in
          let low = back_below p p_in u i v c in
          let from = G.from u i in
          let m = row_fits (place_of w u.label) A.states count A.states low (omega arith) in
          let k = mul-le (place_of w u.label) 1 (place_of w u.label) A.states (omega arith) (omega (arith, from)) in
          (omega (arith, m, k), omega (arith, m), bounded A.states count slot (place_of w u.label) s one low u.from from)
      | inr (n, c) ↦ absurd (both t n)
    ]
      where
        both : {b : Bool} → b ≡ true → b ≡ false → ⊥
        both h k = cc (sym h ∙ k)

    row_here : (u : Transition V) → In u A.transitions → IsTrue (ends u.label f) → earlier (slot * A.states) (place_of w u.label * A.states) cells + A.states ≤ cells
    row_here u i t = elim (word_ends u.label f) [
      | inl (y, v, c) ↦
          let from = G.from u i in
          let last = bounded A.states count slot (place_of w u.label) s (back_some p p_in u i v c) (back_below p p_in u i v c) (A.states - 1) (omega (arith, from)) in
          omega (arith, from, last)
      | inr (n, c) ↦ absurd (both t n)
    ]
      where
        both : {b : Bool} → b ≡ true → b ≡ false → ⊥
        both h k = cc (sym h ∙ k)

    pub move_here : (u : Transition V) → In u A.transitions → IsTrue (R.in_range u.weight) → IsMoveHere R w A.states (prefix_at w p) (slot * A.states) (count * A.states) u
    move_here u i r =
        let m = row_fits slot A.states count A.states s (omega arith) in
        let to = G.to u i in
        record {
          to = omega (arith, m, to);
          weight = r;
          tapes = G.label u i ∙ sym e ∙ sym (prefix_is w p p_in).0.1;
          place = λ t. (cells_here u i t).0;
          back = λ t. (cells_here u i t).1;
          from = λ t. (cells_here u i t).2;
          row = λ t. row_here u i t;
        }

    module _ (some : size (prefix_at w p) ≢ 0) where
      abbrev f_long : length (prefix_at w p) ≡ tapes
      f_long = (prefix_is w p p_in).0.1 ∙ e

      abbrev pub given : Transition V → Option V
      given = brings L tapes A G proper (prefix_at w p) f_long some

      -- what the rows give is what is to be multiplied
      abbrev pub Agree : List V → Type 0
      Agree rows = (u : Transition V) → In u A.transitions → source R w A.states (prefix_at w p) (slot * A.states) rows u ≡ given u

      -- and stays so when the row changes
      stable : (rows : List V) (k : ℕ) (x : V) → length rows ≡ count * A.states → k < A.states → Agree rows → Agree (set rows (slot * A.states + k) x)
      stable rows k x l m h u i = elim (word_ends u.label f) [
        | inl (y, v, c) ↦
            let at = slot * A.states in
            let n = length-set rows (at + k) x in
            ap (λ j. cond (ends u.label f) (Some (entry R (set rows (at + k) x) (cell_of w A.states at j u))) None) n
            ∙ ap (λ z. cond (ends u.label f) (Some z) None)
            (get_or-set_other rows (at + k) (cell_of w A.states at (length rows) u) x R.zero
            (subst (λ j. cell_of w A.states at j u ≢ at + k) (sym l)
            (apart A.states count slot (place_of w u.label) s (back_some p p_in u i v c) (back_below p p_in u i v c) u.from k (G.from u i) m)))
            ∙ h u i
        | inr (n, c) ↦
            ap (λ b. cond b (Some (entry R (set rows (slot * A.states + k) x) (cell_of w A.states (slot * A.states) (length (set rows (slot * A.states + k) x)) u))) None) n
            ∙ sym (ap (λ b. cond b (Some (entry R rows (cell_of w A.states (slot * A.states) (length rows) u))) None) n)
            ∙ h u i
      ]

      abbrev src : List V → Transition V → Option V
      src = source R w A.states (prefix_at w p) (slot * A.states)

      abbrev fix : List V → Transition V → Option V
      fix = fixed R given (slot * A.states)

      after : (o : Option V) (u : Transition V) (rows : List V) → length rows ≡ count * A.states → u.to < A.states → Agree rows → Agree (moved_once R (slot * A.states) o u rows)
      after None u rows l m h = h
      after (Some v) u rows l m h = stable rows u.to (R.plus (entry R rows (slot * A.states + u.to)) (R.times v u.weight)) l m h

      -- so the rows lead on as what is given does
      pub mirror : (us : List (Transition V)) (rows : List V) → ((u : Transition V) → In u us → In u A.transitions) → length rows ≡ count * A.states → Agree rows
          → (moved R src (slot * A.states) us rows ≡ moved R fix (slot * A.states) us rows) × (move_steps R src (slot * A.states) us rows ≡ move_steps R fix (slot * A.states) us rows)
      mirror [] rows sub l h = (refl, refl)
      mirror (u ∷ us) rows sub l h =
          let at = slot * A.states in
          let i = sub u (inl refl) in
          let q : src rows u ≡ given u = h u i in
          let next : List V = moved_once R at (given u) u rows in
          let r = mirror us next (λ t j. sub t (inr j)) (moved_once-length R given at (given u) u rows ∙ l) (after (given u) u rows l (G.to u i) h) in (
            ap (λ o. moved R src at us (moved_once R at o u rows)) q ∙ r.0,
            ap (λ o. once_steps R at o u rows ++ move_steps R src at us (moved_once R at o u rows)) q ∙ ap (λ ss. once_steps R at (given u) u rows ++ ss) r.1,
          )

  -- the next row: the rows of the positions up to p stand in the cells, and the row behind is cleared
  module _ (slot : ℕ) (s : slot < count) (p : ℕ) (p_in : p + 1 < positions w) (rows : List V) (l : length rows ≡ count * A.states) (holds : Holds R A w count (slot * A.states) p rows)
      (next : ℕ) (n_in : next < count) (turned : (b : ℕ) → 1 ≤ A.states → b + 1 < count → earlier (next * A.states) ((b + 1) * A.states) (count * A.states) ≡ earlier (slot * A.states) (b * A.states) (count * A.states)) where
    abbrev at : ℕ
    at = next * A.states

    abbrev zeros : List V
    zeros = cleared R at A.states rows

    pub some : size (prefix_at w (p + 1)) ≢ 0
    some z =
        let h = place_of_none w (prefix_at w (p + 1)) z in
        let q = (prefix_is w (p + 1) p_in).1 in
        omega (arith, h, q)

    zeros_long : length zeros ≡ count * A.states
    zeros_long = cleared-length R at A.states rows ∙ l

    room : at + A.states ≤ length zeros
    room = let m = row_fits next A.states count A.states n_in (omega arith) in omega (arith, m, zeros_long)

    room_before : at + A.states ≤ length rows
    room_before = let m = row_fits next A.states count A.states n_in (omega arith) in omega (arith, m, l)

    -- an earlier row is as it was
    kept : (b : ℕ) → b ≤ p → b + 1 < count → (t : ℕ) → t < A.states → entry R zeros (earlier at ((b + 1) * A.states) (count * A.states) + t) ≡ row R A (prefix_at w (p - b)) t
    kept b b_low b_in t m =
        cleared-other R at A.states rows (earlier at ((b + 1) * A.states) (count * A.states) + t) (λ k j. apart A.states count next (b + 1) n_in (omega arith) b_in t k m j)
        ∙ ap (λ a. entry R rows (a + t)) (turned b (omega (arith, m)) b_in)
        ∙ holds b b_low (omega arith) t m

    agree : Agree next n_in (p + 1) p_in some zeros
    agree u i = elim (word_ends u.label (prefix_at w (p + 1))) [
      | inl (y, v, c) ↦
          let one = back_some (p + 1) p_in u i v c in
          let low = back_below (p + 1) p_in u i v c in
          let r = before w u.label v (p + 1) p_in c in
          let r0 = r.0 in
          let b : ℕ = place_of w u.label - 1 in
          let q : b + 1 ≡ place_of w u.label = omega (arith, one) in
          let d : p - b ≡ p + 1 - place_of w u.label = omega (arith, one, r0) in
          ap (λ x. cond x (Some (entry R zeros (cell_of w A.states at (length zeros) u))) None) y
          ∙ ap Some
          (ap (λ j. entry R zeros (earlier at (place_of w u.label * A.states) j + u.from)) zeros_long
          ∙ ap (λ j. entry R zeros (earlier at (j * A.states) (count * A.states) + u.from)) (sym q)
          ∙ kept b (omega (arith, q, r0)) (omega (arith, q, low)) u.from (G.from u i)
          ∙ ap (λ z. row R A z u.from) (ap (prefix_at w) d ∙ sym r.1))
          ∙ sym (ap (at_rest None (λ v. Some (row R A v u.from))) c)
      | inr (n, c) ↦
          ap (λ x. cond x (Some (entry R zeros (cell_of w A.states at (length zeros) u))) None) n
          ∙ sym (ap (at_rest None (λ v. Some (row R A v u.from))) c)
    ]

    abbrev pub source_here : List V → Transition V → Option V
    source_here = source R w A.states (prefix_at w (p + 1)) (next * A.states)

    both : (moved R source_here at (by_source A) zeros ≡ moved R (fixed R (given next n_in (p + 1) p_in some) at) at (by_source A) zeros) × (move_steps R source_here at (by_source A) zeros ≡ move_steps R (fixed R (given next n_in (p + 1) p_in some) at) at (by_source A) zeros)
    both = mirror next n_in (p + 1) p_in some (by_source A) zeros (λ u i. (by_source-In A u i).0) zeros_long agree

    empty : (t : ℕ) → t < A.states → entry R zeros (at + t) ≡ R.zero
    empty t m = cleared-zero R at A.states rows t room_before m

    pub long_on : length (moved R source_here at (by_source A) zeros) ≡ count * A.states
    long_on = ap length both.0 ∙ moved-length R (given next n_in (p + 1) p_in some) at (by_source A) zeros ∙ zeros_long

    -- where the steps fit, those of the row of the next prefix do
    pub fits_on : AllFit R (move_steps R source_here at (by_source A) zeros) → AllFit R (row_steps R A (prefix_at w (p + 1)))
    fits_on h = row-fits L tapes A G proper (prefix_at w (p + 1)) (f_long next n_in (p + 1) p_in some) some at zeros room empty (subst (AllFit R) both.1 h)

    -- a step is one of the row of the next prefix
    pub In_on : (o : Overflow V) → In o (move_steps R source_here at (by_source A) zeros) → In o (row_steps R A (prefix_at w (p + 1)))
    In_on o i = row-In L tapes A G proper (prefix_at w (p + 1)) (f_long next n_in (p + 1) p_in some) some at zeros room empty o (subst (In o) both.1 i)

    -- and then the rows of the positions up to the next stand in the cells
    pub holds_on : Holds R A w count (next * A.states) (p + 1) (moved R source_here at (by_source A) zeros)
    holds_on zero b_low b_in t m =
        ap (λ z. entry R z (earlier at (0 * A.states) (count * A.states) + t)) both.0
        ∙ ap (λ k. entry R (moved R (fixed R (given next n_in (p + 1) p_in some) at) at (by_source A) zeros) (k + t)) here
        ∙ row-entry L tapes A G proper (prefix_at w (p + 1)) (f_long next n_in (p + 1) p_in some) some at zeros room empty t m
        ∙ ap (λ (j : ℕ). row R A (prefix_at w j) t) (omega arith)
      where
        here : earlier at (0 * A.states) (count * A.states) ≡ at
        here = at_once at (0 * A.states) (count * A.states) (omega arith)
          where
            at_once : (a z c : ℕ) → z ≡ 0 → earlier a z c ≡ a
            at_once a z c q = earlier_low a z c (omega (arith, q)) ∙ omega (arith, q)
    holds_on (suc b) b_low b_in t m =
        ap (λ z. entry R z (earlier at (suc b * A.states) (count * A.states) + t)) both.0
        ∙ ap (λ j. entry R (moved R (fixed R (given next n_in (p + 1) p_in some) at) at (by_source A) zeros) (earlier at (j * A.states) (count * A.states) + t)) one
        ∙ moved-other R (given next n_in (p + 1) p_in some) at (by_source A) zeros (earlier at ((b + 1) * A.states) (count * A.states) + t) (λ u i. apart A.states count next (b + 1) n_in (omega arith) (omega (arith, b_in)) t u.to m (G.to u (by_source-In A u i).0))
        ∙ kept b (omega arith) (omega arith) t m
        ∙ ap (λ j. row R A (prefix_at w j) t) less
      where
        one : suc b ≡ b + 1
        one = omega arith

        less : p - b ≡ p + 1 - suc b
        less = omega arith

  -- the initial weights are the row of the first position
  pub holds_first : (rows : List V) → 1 ≤ positions w → ((t : ℕ) → t < A.states → entry R rows t ≡ initial_weight R A t) → Holds R A w count (0 * A.states) 0 rows
  holds_first rows one h b b_low b_in t m =
      let r = prefix_is w 0 one in
      let z : size (prefix_at w 0) ≡ 0 = let k = size_le_place w (prefix_at w 0) r.0.1 in let q = r.1 in omega (arith, k, q) in
      let none : b ≡ 0 = omega arith in
      ap (λ (j : ℕ). entry R rows (earlier (0 * A.states) (j * A.states) (count * A.states) + t)) none
      ∙ ap (λ j. entry R rows (j + t)) (start (0 * A.states) (count * A.states) (omega arith))
      ∙ ap (entry R rows) (omega arith)
      ∙ h t m
      ∙ sym (ap (λ x. cond x (initial_weight R A t) R.zero) (is_empty_word (prefix_at w 0) z))
      ∙ sym (row_within-zero L A tapes G.label (prefix_at w 0) t (r.0.1 ∙ e) m)
      ∙ ap (λ k. row_within R A k (prefix_at w 0) t) (sym z)
      ∙ ap (λ j. row R A (prefix_at w j) t) (omega (arith, none))
    where
      start : (z c : ℕ) → z ≡ 0 → earlier z z c ≡ 0
      start z c q = subst (λ y. earlier y y c ≡ 0) (sym q) refl

  -- what a round does, for a prefix and a cell by other names
  abbrev pub IsRound : ℕ → ℕ → List V → Word → ℕ → Type 0
  IsRound next p rows f at =
      let h = source R w A.states f at in
      let zeros = cleared R at A.states rows in
      (AllFit R (move_steps R h at (by_source A) zeros) → AllFit R (row_steps R A (prefix_at w (p + 1))))
      × ((o : Overflow V) → In o (move_steps R h at (by_source A) zeros) → In o (row_steps R A (prefix_at w (p + 1))))
      × Holds R A w count (next * A.states) (p + 1) (moved R h at (by_source A) zeros)

  pub round : (slot : ℕ) → slot < count → (p : ℕ) → p + 1 < positions w → (rows : List V) → length rows ≡ count * A.states → Holds R A w count (slot * A.states) p rows
      → (k : IsBehind A.states count slot) (f : Word) (at : ℕ) → f ≡ prefix_at w (p + 1) → at ≡ k.slot_behind * A.states → IsRound k.slot_behind p rows f at
  round slot s p p_in rows l holds k f at ef ea =
      subst (λ z. IsRound k.slot_behind p rows z at) (sym ef)
      (subst (λ a. IsRound k.slot_behind p rows (prefix_at w (p + 1)) a) (sym ea) (
        fits_on slot s p p_in rows l holds k.slot_behind k.below k.earlier_is,
        In_on slot s p p_in rows l holds k.slot_behind k.below k.earlier_is,
        holds_on slot s p p_in rows l holds k.slot_behind k.below k.earlier_is,
      ))
