-- Row steps over single letters, state by state, and what zeros change: nothing.
use Rattle.std.proofs.Common.{◌≡◌, ◌≢◌, ℕ, ◌<◌, ◌≤◌, ◌+◌, ◌-◌, ◌*◌, ◌==◌, IsTrue, List, [], ◌∷◌, ◌++◌, Ok, Bool, true, false, ◌&&◌, not, Option, None, Some, cond, set, get_or, length, filter, refl, sym, ap, ap₂, ◌∙◌, inl, inr, arith}
use Rattle.std.specs.Prelude.{nat_eq, ◌⊎◌}
use Rattle.std.specs.List.{ends_with}
use Rattle.std.specs.Cmp.Lexicographic.{pointwise}
use Rattle.std.proofs.lemmas.Bool.{eqb-true}
use Rattle.std.proofs.lemmas.List.{set-get_or, get_or-set_other, length-set, drop_more, drop_all}
use Rattle.vc_model.specs.WeightSet.{WeightSet, SemiringLaws, RangeLaws, InRange}
use Rattle.vc_model.specs.Automata.{Transition, Automaton}
use Rattle.vc_model.specs.Letters.{letter_of}
use Rattle.vc_model.specs.Lists.{In}
use Rattle.vc_model.specs.Members.{In-filter_from}
use Rattle.vc_model.specs.OutcomeLaws.{outcome-append_ok, outcome-fits}
use Rattle.vc_model.specs.Rearranged.{zero_times}
use Rattle.vc_model.specs.Words.{Tape, Word}
use Rattle.vc_ring.specs.Steps.{outcome, fits}
use Rattle.vc_ring.specs.declared.faults.Overflow.TheVariants.{Add, Mul}
use Rattle.vc_eval.specs.Forward.{by_source}
use Rattle.vc_eval.specs.LetterMoves.{AreLettersHere, by_letter, with_letter}
use Rattle.vc_eval.specs.Moves.{entry, ends, earlier, source, moved, move_steps, moved_once, once_steps}
use Rattle.vc_eval.specs.Positions.{place_of}
use Rattle.vc_eval.proofs.Sources.{by_source-In, size_single}

-- a test whose negation fails
pub unequal : (b c : Bool) → c ≡ false → c ≡ not b → b ≡ true
unequal true c e f = refl
unequal false c e f = absurd (cc)

module _ {V : Type 0} (R : WeightSet V) (at : ℕ) where
  once-length : (o : Option V) (u : Transition V) (rows : List V) → length (moved_once R at o u rows) ≡ length rows
  once-length None u rows = refl
  once-length (Some v) u rows = length-set rows (at + u.to) (R.plus (entry R rows (at + u.to)) (R.times v u.weight))

  -- two sources lead on in the same way where they agree on all rows that can come
  abbrev pub Same : (List V → Transition V → Option V) → (List V → Transition V → Option V) → List (Transition V) → List V → Type 0
  Same h k us rows = (moved R h at us rows ≡ moved R k at us rows) × (move_steps R h at us rows ≡ move_steps R k at us rows)

  pub same_while : (P : List V → Type 0) (h k : List V → Transition V → Option V) (us : List (Transition V)) (rows : List V) → P rows
      → ((u : Transition V) → In u us → (rows : List V) → P rows → h rows u ≡ k rows u)
      → ((u : Transition V) → In u us → (rows : List V) → P rows → P (moved_once R at (k rows u) u rows))
      → Same h k us rows
  same_while P h k [] rows p e s = (refl, refl)
  same_while P h k (u ∷ us) rows p e s =
      let q = e u (inl refl) rows p in
      let next = moved_once R at (k rows u) u rows in
      let r = same_while P h k us next (s u (inl refl) rows p) (λ t i. e t (inr i)) (λ t i. s t (inr i)) in (
        ap (λ o. moved R h at us (moved_once R at o u rows)) q ∙ r.0,
        ap (λ o. once_steps R at o u rows ++ move_steps R h at us (moved_once R at o u rows)) q ∙ ap (λ ss. once_steps R at (k rows u) u rows ++ ss) r.1,
      )

  -- the transitions from a state whose entry is v
  pub from_state : (x before s : ℕ) (v : V) (ts : List (Transition V)) (rows : List V) → entry R rows (before + s) ≡ v
      → ((u : Transition V) → In u ts → before + s ≢ at + u.to)
      → Same (by_letter R x before) (with_letter x v) (filter (λ u. u.from == s) ts) rows
  from_state x before s v ts rows e apart = same_while (λ r. entry R r (before + s) ≡ v) (by_letter R x before) (with_letter x v) (filter (λ u. u.from == s) ts) rows e
      (λ u i r q. ap (λ a. cond (letter_of u == x) (Some a) None) (ap (λ j. entry R r (before + j)) (from_is u i) ∙ q))
      (λ u i r q. kept u i r q (letter_of u == x))
    where
      from_is : (u : Transition V) → In u (filter (λ u. u.from == s) ts) → u.from ≡ s
      from_is u i = eqb-true u.from s (In-filter_from (λ u. u.from == s) u ts i).1

      kept : (u : Transition V) → In u (filter (λ u. u.from == s) ts) → (r : List V) → entry R r (before + s) ≡ v → (b : Bool) → entry R (moved_once R at (cond b (Some v) None) u r) (before + s) ≡ v
      kept u i r q true = get_or-set_other r (at + u.to) (before + s) (R.plus (entry R r (at + u.to)) (R.times v u.weight)) R.zero (apart u (In-filter_from (λ u. u.from == s) u ts i).0) ∙ q
      kept u i r q false = q

module _ {V : Type 0} {R : WeightSet V} (L : SemiringLaws R) (K : RangeLaws R) where
  -- a product with zero changes no row, and its steps fit
  pub zero_product : (w : V) (to : ℕ) (rows : List V) → set rows to (R.plus (entry R rows to) (R.times R.zero w)) ≡ rows
  zero_product w to rows = ap (λ a. set rows to a) (ap (R.plus (entry R rows to)) (zero_times L w) ∙ L.plus_zero (entry R rows to)) ∙ set-get_or rows to R.zero

  pub zero_product_fits : (w : V) (to : ℕ) (rows : List V) → InRange R rows → to < length rows → IsTrue (R.in_range w) → outcome R (Mul R.zero w ∷ Add (entry R rows to) (R.times R.zero w) ∷ []) (tt {0}) ≡ Ok (tt {0})
  zero_product_fits w to rows r l k = outcome-fits (fits R) (Mul R.zero w ∷ Add (entry R rows to) (R.times R.zero w) ∷ []) (tt {0}) (
    K.zero_times_fits w k,
    (ap (λ z. R.fits_plus (entry R rows to) z) (zero_times L w) ∙ K.plus_zero_fits (entry R rows to) (r to R.zero l), tt),
  )

  -- no product, or one with zero
  abbrev pub IsIdle : Option V → Type 0
  IsIdle o = (o ≡ None) ⊎ (o ≡ Some R.zero)

  module _ (at : ℕ) where
    idle_once : (u : Transition V) (rows : List V) (o : Option V) → IsIdle o → moved_once R at o u rows ≡ rows
    idle_once u rows o (inl e) = ap (λ o. moved_once R at o u rows) e
    idle_once u rows o (inr e) = ap (λ o. moved_once R at o u rows) e ∙ zero_product u.weight (at + u.to) rows

    idle_fits : (u : Transition V) (rows : List V) → InRange R rows → at + u.to < length rows → IsTrue (R.in_range u.weight) → (o : Option V) → IsIdle o → outcome R (once_steps R at o u rows) (tt {0}) ≡ Ok (tt {0})
    idle_fits u rows r l k o (inl e) = ap (λ o. outcome R (once_steps R at o u rows) (tt {0})) e
    idle_fits u rows r l k o (inr e) = ap (λ o. outcome R (once_steps R at o u rows) (tt {0})) e ∙ zero_product_fits u.weight (at + u.to) rows r l k

    -- transitions that bring nothing change nothing
    pub idle_moved : (h : List V → Transition V → Option V) (us : List (Transition V)) (rows : List V) → ((u : Transition V) → In u us → IsIdle (h rows u)) → moved R h at us rows ≡ rows
    idle_moved h [] rows i = refl
    idle_moved h (u ∷ us) rows i = ap (moved R h at us) (idle_once u rows (h rows u) (i u (inl refl))) ∙ idle_moved h us rows (λ t j. i t (inr j))

    pub idle_steps : (h : List V → Transition V → Option V) (us : List (Transition V)) (rows : List V) → InRange R rows → ((u : Transition V) → In u us → (at + u.to < length rows) × IsTrue (R.in_range u.weight))
        → ((u : Transition V) → In u us → IsIdle (h rows u)) → outcome R (move_steps R h at us rows) (tt {0}) ≡ Ok (tt {0})
    idle_steps h [] rows r m i = refl
    idle_steps h (u ∷ us) rows r m i =
        let k = m u (inl refl) in
        let o = h rows u in
        outcome-append_ok (fits R) (once_steps R at o u rows) (move_steps R h at us (moved_once R at o u rows)) (tt {0}) (tt {0}) (idle_fits u rows r k.0 k.1 o (i u (inl refl)))
        ∙ ap (λ new. outcome R (move_steps R h at us new) (tt {0})) (idle_once u rows o (i u (inl refl)))
        ∙ idle_steps h us rows r (λ t j. m t (inr j)) (λ t j. i t (inr j))

  module _ (at x : ℕ) where
    letter_idle : (b : Bool) → IsIdle (cond b (Some R.zero) None)
    letter_idle true = inr refl
    letter_idle false = inl refl

    -- a state whose entry is zero brings nothing
    pub zero_moved : (us : List (Transition V)) (rows : List V) → moved R (with_letter x R.zero) at us rows ≡ rows
    zero_moved us rows = idle_moved at (with_letter x R.zero) us rows (λ u i. letter_idle (letter_of u == x))

    pub zero_steps : (us : List (Transition V)) (rows : List V) → InRange R rows → ((u : Transition V) → In u us → (at + u.to < length rows) × IsTrue (R.in_range u.weight)) → outcome R (move_steps R (with_letter x R.zero) at us rows) (tt {0}) ≡ Ok (tt {0})
    zero_steps us rows r h = idle_steps at (with_letter x R.zero) us rows r h (λ u i. letter_idle (letter_of u == x))

and_true : (b : Bool) → (b && true) ≡ b
and_true true = refl
and_true false = refl

-- a tape ends with one letter where this is its last
last_letter : (tape : Tape) (l : ℕ) → 1 ≤ length tape → ends_with nat_eq tape (l ∷ []) ≡ (l == get_or tape (length tape - 1) 0)
last_letter tape l s =
    ap (pointwise nat_eq (l ∷ [])) (drop_more tape (length tape - 1) 0 (omega (arith, s)) ∙ ap (λ ys. get_or tape (length tape - 1) 0 ∷ ys) (drop_all (length tape - 1 + 1) tape (omega (arith, s))))
    ∙ and_true (l == get_or tape (length tape - 1) 0)

one_back : (a : Tape) (l n : ℕ) → place_of (a ∷ []) ((l ∷ []) ∷ []) * n ≡ n
one_back a l n = omega arith

-- over single letters, what a label leads back to is the row one letter earlier
pub letter_source : {V : Type 0} (R : WeightSet V) (w f : Word) (n at x : ℕ) (u : Transition V) (rows : List V) → length w ≡ 1 → length f ≡ 1 → u.label ≡ (letter_of u ∷ []) ∷ []
    → 1 ≤ length (get_or f 0 []) → x ≡ get_or (get_or f 0 []) (length (get_or f 0 []) - 1) 0
    → by_letter R x (earlier at n (length rows)) rows u ≡ source R w n f at rows u
letter_source R [] f n at x u rows a b h s e = absurd (omega arith)
letter_source R (c ∷ d ∷ w) f n at x u rows a b h s e = absurd (omega arith)
letter_source R (c ∷ []) [] n at x u rows a b h s e = absurd (omega arith)
letter_source R (c ∷ []) (d ∷ g ∷ f) n at x u rows a b h s e = absurd (omega arith)
letter_source R (c ∷ []) (d ∷ []) n at x u rows a b h s e =
    let l = letter_of u in
    sym (ap (λ z. cond (ends z (d ∷ [])) (Some (entry R rows (earlier at (place_of (c ∷ []) z * n) (length rows) + u.from))) None) h
    ∙ ap₂ (λ y m. cond y (Some (entry R rows (earlier at m (length rows) + u.from))) None) (and_true (ends_with nat_eq d (l ∷ [])) ∙ last_letter d l s ∙ ap (λ y. l == y) (sym e)) (one_back c l n))

-- and so a row is filled in the same way
pub letter_row : {V : Type 0} (R : WeightSet V) (A : Automaton V) (w f : Word) (at cells x : ℕ) (rows : List V) → AreLettersHere A f at cells → length w ≡ length f → length rows ≡ cells
    → x ≡ get_or (get_or f 0 []) (length (get_or f 0 []) - 1) 0
    → Same R at (by_letter R x (earlier at A.states cells)) (source R w A.states f at) (by_source A) rows
letter_row R A w f at cells x rows k e l d =
    let s = k.some in
    let q = size_single f k.tape in
    same_while R at (λ r. length r ≡ cells) (by_letter R x (earlier at A.states cells)) (source R w A.states f at) (by_source A) rows l
    (λ u i r m. ap (λ c. by_letter R x (earlier at A.states c) r u) (sym m) ∙ letter_source R w f A.states at x u r (e ∙ k.tape) k.tape (k.letters u (by_source-In A u i).0) (omega (arith, s, q)) d)
    (λ u i r m. once-length R at (source R w A.states f at r u) u r ∙ m)
