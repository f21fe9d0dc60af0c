-- The transitions of a state that read a letter stand together, and the others bring nothing.
use Rattle.std.proofs.Common.{◌≡◌, ℕ, ◌<◌, ◌≤◌, ◌+◌, ◌-◌, ◌==◌, Bool, true, false, cond, eqb, ltb, leb, List, [], ◌∷◌, ◌++◌, None, Some, map, filter, take, drop, length, get_or, zero, suc, refl, sym, ap, ◌∙◌, subst, arith, inl, inr}
use Rattle.std.specs.Cmp.{nat_cmp_is}
use Rattle.std.specs.List.Sorted.{IsNonDecreasingBy, IsPartitionPoint, IsStrictlySortedBy}
use Rattle.std.specs.Ordering.{nat_cmp, ordering_then}
use Rattle.std.specs.declared.cmp.Ordering.TheVariants.{Less, Equal, Greater}
use Rattle.std.proofs.lemmas.Bool.{false≢true, eqb-true, eq-eqb, ltb-true, ltb-false, leb-true, leb-false}
use Rattle.std.proofs.lemmas.List.{length-map}
use Rattle.std.proofs.lemmas.Map.Keys.{Less-from_sorted}
use Rattle.vc_aut.specs.Order.{move_order}
use Rattle.vc_label.specs.Order.{word_order}
use Rattle.vc_model.specs.Automata.{Transition}
use Rattle.vc_model.specs.Letters.{letter_of}
use Rattle.vc_model.specs.Lists.{In}
use Rattle.vc_model.specs.WeightSet.{WeightSet}
use Rattle.vc_eval.specs.LetterMoves.{carried, with_letter}
use Rattle.vc_eval.specs.Moves.{moved, move_steps, moved_once, once_steps}

module _ {V : Type 0} where
  -- of two single letters in order, the first is not the greater
  letters_in_order : (t u : Transition V) → t.label ≡ (letter_of t ∷ []) ∷ [] → u.label ≡ (letter_of u ∷ []) ∷ [] → move_order t u ≡ Less → letter_of t ≤ letter_of u
  letters_in_order t u p q h = go (ltb (letter_of u) (letter_of t)) refl
    where
      go : (b : Bool) → ltb (letter_of u) (letter_of t) ≡ b → letter_of t ≤ letter_of u
      go false e = ltb-false (letter_of u) (letter_of t) e
      go true e =
          let greater : Greater ≡ nat_cmp (letter_of t) (letter_of u) = nat_cmp_is (letter_of t) (letter_of u) Greater (ltb-true (letter_of u) (letter_of t) e) in
          let words : move_order t u ≡ ordering_then (word_order ((letter_of t ∷ []) ∷ []) ((letter_of u ∷ []) ∷ [])) (nat_cmp t.to u.to) =
          ap (λ a. ordering_then (word_order a u.label) (nat_cmp t.to u.to)) p ∙ ap (λ a. ordering_then (word_order ((letter_of t ∷ []) ∷ []) a) (nat_cmp t.to u.to)) q in
          let last : ordering_then (word_order ((letter_of t ∷ []) ∷ []) ((letter_of u ∷ []) ∷ [])) (nat_cmp t.to u.to) ≡ Greater =
          ap (λ o. ordering_then (ordering_then (ordering_then o Equal) Equal) (nat_cmp t.to u.to)) (sym greater) in
          let both : Less ≡ Greater = sym h ∙ words ∙ last in
          absurd (cc)

  module _ {X : Type 0} (f : X → Transition V) where
    at_map : (xs : List X) (i : ℕ) (d : X) → get_or (map f xs) i (f d) ≡ f (get_or xs i d)
    at_map [] i d = refl
    at_map (x ∷ xs) zero d = refl
    at_map (x ∷ xs) (suc i) d = at_map xs i d

    In-get : (xs : List X) (i : ℕ) (d : X) → i < length xs → In (f (get_or xs i d)) (map f xs)
    In-get [] i d l = absurd (omega (arith, l))
    In-get (x ∷ xs) zero d l = inl refl
    In-get (x ∷ xs) (suc i) d l = inr (In-get xs i d (omega (arith, l)))

    -- in order, the letters of single letters do not fall
    pub letters_rise : (xs : List X) → IsStrictlySortedBy move_order (map f xs) → ((u : Transition V) → In u (map f xs) → u.label ≡ (letter_of u ∷ []) ∷ []) → IsNonDecreasingBy (λ x. letter_of (f x)) xs
    letters_rise xs s h i j d a b = go (eqb i j) refl
      where
        go : (c : Bool) → eqb i j ≡ c → letter_of (f (get_or xs i d)) ≤ letter_of (f (get_or xs j d))
        go true e = let same = eqb-true i j e in subst (λ k. letter_of (f (get_or xs i d)) ≤ letter_of (f (get_or xs k d))) same (omega arith)
        go false e =
            let apart : i ≡ j → ⊥ = λ p. false≢true (sym e ∙ eq-eqb i j p) in
            let n = length-map xs f in
            let less : i < j = omega (arith, a, apart) in
            let order : move_order (get_or (map f xs) i (f d)) (get_or (map f xs) j (f d)) ≡ Less = Less-from_sorted move_order (map f xs) i j (f d) s less (omega (arith, b, n)) in
            letters_in_order (f (get_or xs i d)) (f (get_or xs j d)) (h _ (In-get xs i d (omega (arith, a, b)))) (h _ (In-get xs j d b))
            (subst (λ u. move_order (f (get_or xs i d)) u ≡ Less) (at_map xs j d) (subst (λ t. move_order t (get_or (map f xs) j (f d)) ≡ Less) (at_map xs i d) order))

    -- the first that is not before the letter stands no later than the first that is past it
    pub runs_in_order : (xs : List X) (x i j : ℕ) → IsPartitionPoint (λ y. ltb (letter_of (f y)) x ≡ true) (λ y. ltb (letter_of (f y)) x ≡ false) xs i
        → IsPartitionPoint (λ y. leb (letter_of (f y)) x ≡ true) (λ y. leb (letter_of (f y)) x ≡ false) xs j → i ≤ length xs → i ≤ j
    runs_in_order [] x i j p q l = omega (arith, l)
    runs_in_order (y ∷ ys) x i j p q l = go (ltb j i) refl
      where
        go : (c : Bool) → ltb j i ≡ c → i ≤ j
        go false e = ltb-false j i e
        go true e =
            let less = ltb-true j i e in
            let a = ltb-true (letter_of (f (get_or (y ∷ ys) j y))) x (p.0 j y (omega arith) less) in
            let b = leb-false (letter_of (f (get_or (y ∷ ys) j y))) x (q.1 j y (omega arith) (omega (arith, less, l))) in
            absurd (omega (arith, a, b))

    differ : (m n : ℕ) → (m ≡ n → ⊥) → eqb m n ≡ false
    differ m n h = go (eqb m n) refl
      where
        go : (c : Bool) → eqb m n ≡ c → c ≡ false
        go true e = absurd (h (eqb-true m n e))
        go false e = refl

    none : (i n : ℕ) → map f (take n (drop i [])) ≡ []
    none zero zero = refl
    none zero (suc n) = refl
    none (suc i) zero = refl
    none (suc i) (suc n) = refl

    -- whether the first one is kept
    kept : (x : ℕ) (y : X) (ys : List X) (b : Bool) → (letter_of (f y) == x) ≡ b
        → filter (λ u. letter_of u == x) (map f (y ∷ ys)) ≡ cond b (f y ∷ filter (λ u. letter_of u == x) (map f ys)) (filter (λ u. letter_of u == x) (map f ys))
    kept x y ys b e = ap (λ c. cond c (f y ∷ filter (λ u. letter_of u == x) (map f ys)) (filter (λ u. letter_of u == x) (map f ys))) e

    run : (xs : List X) (x i n : ℕ) → IsPartitionPoint (λ y. ltb (letter_of (f y)) x ≡ true) (λ y. ltb (letter_of (f y)) x ≡ false) xs i
        → IsPartitionPoint (λ y. leb (letter_of (f y)) x ≡ true) (λ y. leb (letter_of (f y)) x ≡ false) xs (i + n) → map f (take n (drop i xs)) ≡ filter (λ u. letter_of u == x) (map f xs)
    run [] x i n p q = none i n
    run (y ∷ ys) x (suc i) n p q =
        let a = ltb-true (letter_of (f y)) x (p.0 0 y (omega arith) (omega arith)) in
        let rest = run ys x i n ((λ k d m l. p.0 (suc k) d (omega arith) (omega (arith, l))), (λ k d m l. p.1 (suc k) d (omega (arith, m)) (omega (arith, l))))
        ((λ k d m l. q.0 (suc k) d (omega arith) (omega (arith, l))), (λ k d m l. q.1 (suc k) d (omega (arith, m)) (omega (arith, l)))) in
        rest ∙ sym (kept x y ys false (differ (letter_of (f y)) x (λ e. omega (arith, a, e))))
    run (y ∷ ys) x zero (suc n) p q =
        let a = ltb-false (letter_of (f y)) x (p.1 0 y (omega arith) (omega arith)) in
        let b = leb-true (letter_of (f y)) x (q.0 0 y (omega arith) (omega arith)) in
        let same : letter_of (f y) ≡ x = omega (arith, a, b) in
        let rest = run ys x zero n ((λ k d m l. absurd (omega (arith, l))), (λ k d m l. p.1 (suc k) d (omega arith) (omega (arith, l))))
        ((λ k d m l. q.0 (suc k) d (omega arith) (omega (arith, l))), (λ k d m l. q.1 (suc k) d (omega (arith, m)) (omega (arith, l)))) in
        ap (λ us. f y ∷ us) rest ∙ sym (kept x y ys true (eq-eqb (letter_of (f y)) x same))
    run (y ∷ ys) x zero zero p q =
        let b = leb-false (letter_of (f y)) x (q.1 0 y (omega arith) (omega arith)) in
        let rest = run ys x zero zero ((λ k d m l. absurd (omega (arith, l))), (λ k d m l. p.1 (suc k) d (omega arith) (omega (arith, l))))
        ((λ k d m l. absurd (omega (arith, l))), (λ k d m l. q.1 (suc k) d (omega arith) (omega (arith, l)))) in
        rest ∙ sym (kept x y ys false (differ (letter_of (f y)) x (λ e. omega (arith, b, e))))

    -- what stands between is what reads the letter
    pub run_reads : (xs : List X) (x i j : ℕ) → IsPartitionPoint (λ y. ltb (letter_of (f y)) x ≡ true) (λ y. ltb (letter_of (f y)) x ≡ false) xs i
        → IsPartitionPoint (λ y. leb (letter_of (f y)) x ≡ true) (λ y. leb (letter_of (f y)) x ≡ false) xs j → i ≤ j → map f (take (j - i) (drop i xs)) ≡ filter (λ u. letter_of u == x) (map f xs)
    run_reads xs x i j p q o =
        let whole : j ≡ i + (j - i) = omega (arith, o) in
        run xs x i (j - i) p (subst (λ k. IsPartitionPoint (λ y. leb (letter_of (f y)) x ≡ true) (λ y. leb (letter_of (f y)) x ≡ false) xs k) whole q)

  -- those that read another letter bring nothing
  pub others_bring_nothing : (R : WeightSet V) (at x : ℕ) (v : V) (us : List (Transition V)) (rows : List V)
      → (moved R (carried v) at (filter (λ u. letter_of u == x) us) rows ≡ moved R (with_letter x v) at us rows)
      × (move_steps R (carried v) at (filter (λ u. letter_of u == x) us) rows ≡ move_steps R (with_letter x v) at us rows)
  others_bring_nothing R at x v [] rows = (refl, refl)
  others_bring_nothing R at x v (u ∷ us) rows = go (letter_of u == x) refl (others_bring_nothing R at x v us)
    where
      go : (b : Bool) → (letter_of u == x) ≡ b
          → ((next : List V) → (moved R (carried v) at (filter (λ t. letter_of t == x) us) next ≡ moved R (with_letter x v) at us next)
          × (move_steps R (carried v) at (filter (λ t. letter_of t == x) us) next ≡ move_steps R (with_letter x v) at us next))
          → (moved R (carried v) at (filter (λ t. letter_of t == x) (u ∷ us)) rows ≡ moved R (with_letter x v) at (u ∷ us) rows)
          × (move_steps R (carried v) at (filter (λ t. letter_of t == x) (u ∷ us)) rows ≡ move_steps R (with_letter x v) at (u ∷ us) rows)
      go true e rest =
          let kept = filter (λ (t : Transition V). letter_of t == x) us in
          let r = rest (moved_once R at (Some v) u rows) in (
            ap (λ b. moved R (carried v) at (cond b (u ∷ kept) kept) rows) e ∙ r.0
                ∙ sym (ap (λ b. moved R (with_letter x v) at us (moved_once R at (cond b (Some v) None) u rows)) e),
            ap (λ b. move_steps R (carried v) at (cond b (u ∷ kept) kept) rows) e ∙ ap (λ ss. once_steps R at (Some v) u rows ++ ss) r.1
                ∙ sym (ap (λ b. once_steps R at (cond b (Some v) None) u rows ++ move_steps R (with_letter x v) at us (moved_once R at (cond b (Some v) None) u rows)) e),
          )
      go false e rest =
          let kept = filter (λ (t : Transition V). letter_of t == x) us in
          let r = rest rows in (
            ap (λ b. moved R (carried v) at (cond b (u ∷ kept) kept) rows) e ∙ r.0
                ∙ sym (ap (λ b. moved R (with_letter x v) at us (moved_once R at (cond b (Some v) None) u rows)) e),
            ap (λ b. move_steps R (carried v) at (cond b (u ∷ kept) kept) rows) e ∙ r.1
                ∙ sym (ap (λ b. once_steps R at (cond b (Some v) None) u rows ++ move_steps R (with_letter x v) at us (moved_once R at (cond b (Some v) None) u rows)) e),
          )

  -- so these may stand for all
  pub as_read : (R : WeightSet V) (at x : ℕ) (v : V) (us here : List (Transition V)) (rows : List V) → us ≡ filter (λ u. letter_of u == x) here
      → (moved R (carried v) at us rows ≡ moved R (with_letter x v) at here rows) × (move_steps R (carried v) at us rows ≡ move_steps R (with_letter x v) at here rows)
  as_read R at x v us here rows e =
      let r = others_bring_nothing R at x v here rows in
      (ap (λ ts. moved R (carried v) at ts rows) e ∙ r.0, ap (λ ts. move_steps R (carried v) at ts rows) e ∙ r.1)
