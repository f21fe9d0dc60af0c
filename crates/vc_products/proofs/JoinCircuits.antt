-- The join of two automata where one absorbs each element: circuits may be empty.
use Rattle.std.proofs.Common.{◌≡◌, ℕ, [], ◌∷◌, cond, Bool, true, false, eqb, get_or, refl, sym, ap, ap₂, ◌∙◌, inl, subst, zero, suc, ◌<◌, ◌+◌, ◌*◌, Option, Some, None}
use Rattle.vc_model.specs.WeightSet.{WeightSet, SemiringLaws, Absorbs}
use Rattle.vc_model.specs.Lists.{In}
use Rattle.vc_model.specs.Sums.{sum_over}
use Rattle.vc_model.specs.Words.{Tape, Word, size, cut, rest_after, is_empty}
use Rattle.vc_model.specs.Automata.{Transition, Automaton, IsAutomaton, final_weight, future, future_within, at_rest}
use Rattle.vc_products.specs.Joins.{is_nil, IsShort, IsJoin}
use Rattle.vc_model.specs.Rearranged.{zero_times}
use Rattle.vc_model.specs.SumLaws.{sum_zero}
use Rattle.vc_model.specs.Absorption.{twice}
use Rattle.vc_model.specs.WordLaws.{join-cut}
use Rattle.vc_model.specs.FirstSteps.{future_within-zero, future_within-suc}
use Rattle.vc_model.specs.Solutions.{future_solves}
use Rattle.vc_model.specs.OneSolution.{unfolded}
use Rattle.vc_products.proofs.ProjectionLaws.{three_parts}
use Rattle.vc_products.proofs.JoinLaws.{on_tape, letter_a, letter_b, alone_a, alone_b, split_a, split_b, pair_value, moves, crossing, filter_free, filter_shut, at, join_solves}
use Rattle.vc_model.specs.Order.{Below, below_plus, below_left, below_right, below_more, below_times, below_cond, below_sum, below_part}

module _ {V : Type 0} {R : WeightSet V} (L : SemiringLaws R) (absorbing : Absorbs R) where
  module _ (A B J : Automaton V) (a : IsAutomaton R 2 A) (b : IsAutomaton R 2 B) (j : IsAutomaton R 3 J)
      (hA : (t : Transition V) → In t A.transitions → t.label ≡ get_or t.label 0 [] ∷ get_or t.label 1 [] ∷ []) (hB : (t : Transition V) → In t B.transitions → t.label ≡ get_or t.label 0 [] ∷ get_or t.label 1 [] ∷ [])
      (sa : (t : Transition V) → In t A.transitions → IsShort (get_or t.label 1 [])) (sb : (t : Transition V) → In t B.transitions → IsShort (get_or t.label 0 []))
      (left right : ℕ → ℕ) (flag : ℕ → Bool) (M : IsJoin R A B J left right flag) where
    abbrev T : ℕ → Word → V
    T i w = future R J i w

    abbrev stop : ℕ → Tape → Tape → Tape → V
    stop i u m v = cond (is_empty (u ∷ m ∷ v ∷ [])) (R.times (final_weight R A (left i)) (final_weight R B (right i))) R.zero

    -- what stays below the futures of the join, brought by its moves, is below them
    lower : (Y : Bool → ℕ → ℕ → Tape → Tape → Tape → V) → ((i : ℕ) (u m v : Tape) → i < J.states → Below L absorbing (Y (flag i) (left i) (right i) u m v) (T i (u ∷ m ∷ v ∷ [])))
        → (i : ℕ) (u m v : Tape) → i < J.states
        → Below L absorbing (R.plus (stop i u m v) (sum_over R (λ t. cond (eqb t.from i) (R.times t.weight (at_rest R.zero (λ r. Y (flag t.to) (left t.to) (right t.to) (get_or r 0 []) (get_or r 1 []) (get_or r 2 [])) (cut t.label (u ∷ m ∷ v ∷ [])))) R.zero) J.transitions)) (T i (u ∷ m ∷ v ∷ []))
    lower Y h i u m v l =
        subst (λ z. Below L absorbing (R.plus (stop i u m v) low) z) (sym is)
        (below_plus L absorbing (stop i u m v) low (R.plus (stop i u m v) high)
        (below_left L absorbing (stop i u m v) high _ (twice L absorbing _))
        (below_more L absorbing (stop i u m v) low high (below_sum L absorbing _ _ J.transitions (λ t k. below_cond L absorbing (eqb t.from i) _ _ (rest t k (cut t.label (u ∷ m ∷ v ∷ [])) refl)))))
      where
        low : V
        low = sum_over R (λ t. cond (eqb t.from i) (R.times t.weight (at_rest R.zero (λ r. Y (flag t.to) (left t.to) (right t.to) (get_or r 0 []) (get_or r 1 []) (get_or r 2 [])) (cut t.label (u ∷ m ∷ v ∷ [])))) R.zero) J.transitions

        high : V
        high = sum_over R (λ t. cond (eqb t.from i) (R.times t.weight (at_rest R.zero (T t.to) (cut t.label (u ∷ m ∷ v ∷ [])))) R.zero) J.transitions

        is : T i (u ∷ m ∷ v ∷ []) ≡ R.plus (stop i u m v) high
        is = future_solves L 3 J j (inl absorbing) i (u ∷ m ∷ v ∷ []) l refl ∙ ap (λ c. R.plus (cond (is_empty (u ∷ m ∷ v ∷ [])) c R.zero) high) (M.final i l)

        rest : (t : Transition V) → In t J.transitions → (r : Option Word) → cut t.label (u ∷ m ∷ v ∷ []) ≡ r
            → Below L absorbing (R.times t.weight (at_rest R.zero (λ r. Y (flag t.to) (left t.to) (right t.to) (get_or r 0 []) (get_or r 1 []) (get_or r 2 [])) r)) (R.times t.weight (at_rest R.zero (T t.to) r))
        rest t k None e = below_times L absorbing t.weight R.zero R.zero (L.plus_zero R.zero)
        rest t k (Some r) e =
            let c = join-cut t.label (u ∷ m ∷ v ∷ []) r e in
            below_times L absorbing t.weight _ _ (subst (λ z. Below L absorbing (Y (flag t.to) (left t.to) (right t.to) (get_or r 0 []) (get_or r 1 []) (get_or r 2 [])) (T t.to z)) (sym (three_parts r c.1)) (h t.to (get_or r 0 []) (get_or r 1 []) (get_or r 2 []) (j.to t k)))

    -- the same for products of values of the two sides
    lower_pairs : (f g h h' : ℕ → Tape → Tape → V)
        → ((i : ℕ) (u m v : Tape) → i < J.states → flag i ≡ false → Below L absorbing (R.times (f (left i) u m) (g (right i) m v)) (T i (u ∷ m ∷ v ∷ [])))
        → ((i : ℕ) (u m v : Tape) → i < J.states → flag i ≡ true → Below L absorbing (R.times (h (left i) u m) (h' (right i) m v)) (T i (u ∷ m ∷ v ∷ [])))
        → (i : ℕ) (u m v : Tape) → i < J.states
        → Below L absorbing (R.plus (stop i u m v) (R.plus (R.plus (R.times (letter_a L A (left i) u m f) (letter_b L B (right i) m v g)) (cond (flag i) R.zero (R.times (alone_a L A (left i) u (λ p u'. f p u' m)) (g (right i) m v)))) (R.times (h (left i) u m) (alone_b L B (right i) v (λ q v'. h' q m v'))))) (T i (u ∷ m ∷ v ∷ []))
    lower_pairs f g h h' c d i u m v l =
        subst (λ z. Below L absorbing (R.plus (stop i u m v) z) (T i (u ∷ m ∷ v ∷ []))) (moves L A B J a b j hA hB sa sb (inl absorbing) (inl absorbing) left right flag M f g h h' i u m v l)
        (lower (pair_value L f g h h') (λ i u m v l. by_flag i u m v l (flag i) refl) i u m v l)
      where
        by_flag : (i : ℕ) (u m v : Tape) → i < J.states → (e : Bool) → flag i ≡ e → Below L absorbing (pair_value L f g h h' e (left i) (right i) u m v) (T i (u ∷ m ∷ v ∷ []))
        by_flag i u m v l false q = c i u m v l q
        by_flag i u m v l true q = d i u m v l q

    -- futures of the two sides within k - 1 transitions, zero at k = 0
    abbrev fa : ℕ → ℕ → Tape → Tape → V
    fa zero p u m = R.zero
    fa (suc k) p u m = future_within R A k p (u ∷ m ∷ [])

    abbrev fb : ℕ → ℕ → Tape → Tape → V
    fb zero q m v = R.zero
    fb (suc k) q m v = future_within R B k q (m ∷ v ∷ [])

    -- the first side stops or moves by a letter
    abbrev ha : ℕ → ℕ → Tape → Tape → V
    ha k p u m = R.plus (cond (is_empty (u ∷ m ∷ [])) (final_weight R A p) R.zero) (letter_a L A p u m (fa k))

    abbrev hb : ℕ → ℕ → Tape → Tape → V
    hb k q m v = R.plus (cond (is_empty (m ∷ v ∷ [])) (final_weight R B q) R.zero) (letter_b L B q m v (fb k))

    nothing2 : (x : V) (r s : Option Tape) → on_tape L r (λ u'. on_tape L s (λ m'. R.times x R.zero)) ≡ R.zero
    nothing2 x None s = refl
    nothing2 x (Some u) None = refl
    nothing2 x (Some u) (Some m) = L.times_zero x

    nothing1 : (x : V) (r : Option Tape) → on_tape L r (λ u'. R.times x R.zero) ≡ R.zero
    nothing1 x None = refl
    nothing1 x (Some u) = L.times_zero x

    gone : (c d : Bool) (x : V) → x ≡ R.zero → cond c (cond d R.zero x) R.zero ≡ R.zero
    gone true true x e = refl
    gone true false x e = e
    gone false d x e = refl

    gone' : (c d : Bool) (x : V) → x ≡ R.zero → cond c (cond d x R.zero) R.zero ≡ R.zero
    gone' true true x e = e
    gone' true false x e = refl
    gone' false d x e = refl

    fa_more : (k p : ℕ) (u m : Tape) → fa (suc k) p u m ≡ R.plus (ha k p u m) (alone_a L A p u (λ p' u'. fa k p' u' m))
    fa_more zero p u m =
        future_within-zero L A 2 a.label p (u ∷ m ∷ []) refl
        ∙ sym (ap₂ R.plus
        (ap (R.plus _) (sum_zero L _ A.transitions (λ t i. gone (eqb t.from p) (is_nil (get_or t.label 1 [])) _ (nothing2 t.weight (rest_after (get_or t.label 0 []) u) (rest_after (get_or t.label 1 []) m)))) ∙ L.plus_zero _)
        (sum_zero L _ A.transitions (λ t i. gone' (eqb t.from p) (is_nil (get_or t.label 1 [])) _ (nothing1 t.weight (rest_after (get_or t.label 0 []) u))))
        ∙ L.plus_zero _)
    fa_more (suc k) p u m =
        future_within-suc L A 2 a.label k p (u ∷ m ∷ []) refl
        ∙ ap (R.plus (cond (is_empty (u ∷ m ∷ [])) (final_weight R A p) R.zero)) (split_a L A hA (future_within R A k) p u m)
        ∙ sym (L.plus_assoc _ _ _)

    fb_more : (k q : ℕ) (m v : Tape) → fb (suc k) q m v ≡ R.plus (hb k q m v) (alone_b L B q v (λ q' v'. fb k q' m v'))
    fb_more zero q m v =
        future_within-zero L B 2 b.label q (m ∷ v ∷ []) refl
        ∙ sym (ap₂ R.plus
        (ap (R.plus _) (sum_zero L _ B.transitions (λ t i. gone (eqb t.from q) (is_nil (get_or t.label 0 [])) _ (nothing2 t.weight (rest_after (get_or t.label 0 []) m) (rest_after (get_or t.label 1 []) v)))) ∙ L.plus_zero _)
        (sum_zero L _ B.transitions (λ t i. gone' (eqb t.from q) (is_nil (get_or t.label 0 [])) _ (nothing1 t.weight (rest_after (get_or t.label 1 []) v))))
        ∙ L.plus_zero _)
    fb_more (suc k) q m v =
        future_within-suc L B 2 b.label k q (m ∷ v ∷ []) refl
        ∙ ap (R.plus (cond (is_empty (m ∷ v ∷ [])) (final_weight R B q) R.zero)) (split_b L B hB (future_within R B k) q m v)
        ∙ sym (L.plus_assoc _ _ _)

    -- the products at bounds l of the second side, and all bounds of the first
    record Products (l : ℕ) : Type 0 where
      free : (k i : ℕ) (u m v : Tape) → i < J.states → flag i ≡ false → Below L absorbing (R.times (fa k (left i) u m) (fb l (right i) m v)) (T i (u ∷ m ∷ v ∷ []))
      shut : (k i : ℕ) (u m v : Tape) → i < J.states → flag i ≡ true → Below L absorbing (R.times (ha k (left i) u m) (fb l (right i) m v)) (T i (u ∷ m ∷ v ∷ []))

    products : (l : ℕ) → Products l
    products zero = record {
      free = λ k i u m v h e. ap (R.plus _) (L.times_zero _) ∙ L.plus_zero _;
      shut = λ k i u m v h e. ap (R.plus _) (L.times_zero _) ∙ L.plus_zero _;
    }
    products (suc l) = next (products l)
      where
        next : Products l → Products (suc l)
        next I = record { free = free; shut = shut }
          where
            shut : (k i : ℕ) (u m v : Tape) → i < J.states → flag i ≡ true → Below L absorbing (R.times (ha k (left i) u m) (fb (suc l) (right i) m v)) (T i (u ∷ m ∷ v ∷ []))
            shut k i u m v h e =
                subst (λ z. Below L absorbing z (T i (u ∷ m ∷ v ∷ [])))
                (ap (λ c. R.plus (stop i u m v) (R.plus (R.plus (R.times (letter_a L A (left i) u m (fa k)) (letter_b L B (right i) m v (fb l))) (cond c R.zero (R.times (alone_a L A (left i) u (λ p u'. fa k p u' m)) (fb l (right i) m v)))) (R.times (ha k (left i) u m) (alone_b L B (right i) v (λ q v'. fb l q m v'))))) e
                ∙ filter_shut L _ _ (alone_b L B (right i) v (λ q v'. fb l q m v')) (ha k (left i) u m) (hb l (right i) m v) (crossing L A B (left i) (right i) u m v (fa k) (fb l))
                ∙ ap (R.times (ha k (left i) u m)) (sym (fb_more l (right i) m v)))
                (lower_pairs (fa k) (fb l) (ha k) (fb l) (I.free k) (I.shut k) i u m v h)

            free : (k i : ℕ) (u m v : Tape) → i < J.states → flag i ≡ false → Below L absorbing (R.times (fa k (left i) u m) (fb (suc l) (right i) m v)) (T i (u ∷ m ∷ v ∷ []))
            free zero i u m v h e = ap (R.plus _) (zero_times L _) ∙ L.plus_zero _
            free (suc k) i u m v h e =
                let all = lower_pairs (fa k) (fb l) (ha k) (fb l) (I.free k) (I.shut k) i u m v h in
                let first = lower_pairs (fa k) (fb (suc l)) (ha k) (fb l) (free k) (I.shut k) i u m v h in
                let stops = below_left L absorbing _ _ _ all in
                let moved = below_right L absorbing _ _ _ all in
                let together = below_left L absorbing _ _ _ (below_left L absorbing _ _ _ moved) in
                let second = below_right L absorbing _ _ _ moved in
                let alone = subst (λ c. Below L absorbing (cond c R.zero (R.times (alone_a L A (left i) u (λ p u'. fa k p u' m)) (fb (suc l) (right i) m v))) (T i (u ∷ m ∷ v ∷ []))) e (below_right L absorbing _ _ _ (below_left L absorbing _ _ _ (below_right L absorbing _ _ _ first))) in
                subst (λ z. Below L absorbing z (T i (u ∷ m ∷ v ∷ [])))
                (ap (λ z. R.plus (stop i u m v) (R.plus (R.plus (R.times (letter_a L A (left i) u m (fa k)) (letter_b L B (right i) m v (fb l))) (R.times (alone_a L A (left i) u (λ p u'. fa k p u' m)) z)) (R.times (ha k (left i) u m) (alone_b L B (right i) v (λ q v'. fb l q m v'))))) (fb_more l (right i) m v)
                ∙ filter_free L _ _ (alone_a L A (left i) u (λ p u'. fa k p u' m)) (alone_b L B (right i) v (λ q v'. fb l q m v')) (ha k (left i) u m) (hb l (right i) m v) (crossing L A B (left i) (right i) u m v (fa k) (fb l))
                ∙ ap₂ R.times (sym (fa_more k (left i) u m)) (sym (fb_more l (right i) m v)))
                (below_plus L absorbing _ _ _ stops (below_plus L absorbing _ _ _ (below_plus L absorbing _ _ _ together alone) second))

    -- from a state with flag 0 each pair of paths counts once
    pub join_future_absorbing : (i : ℕ) (u m v : Tape) → i < J.states → flag i ≡ false → future R J i (u ∷ m ∷ v ∷ []) ≡ R.times (future R A (left i) (u ∷ m ∷ [])) (future R B (right i) (m ∷ v ∷ []))
    join_future_absorbing i u m v l e =
        let k = (size (u ∷ m ∷ []) + 1) * A.states in
        let n = (size (m ∷ v ∷ []) + 1) * B.states in
        sym ((products (suc n)).free (suc k) i u m v l e)
        ∙ L.plus_comm _ _
        ∙ above
      where
        f : ℕ → Tape → Tape → V
        f p u m = future R A p (u ∷ m ∷ [])

        g : ℕ → Tape → Tape → V
        g q m v = future R B q (m ∷ v ∷ [])

        h : ℕ → Tape → Tape → V
        h p u m = R.plus (cond (is_empty (u ∷ m ∷ [])) (final_weight R A p) R.zero) (letter_a L A p u m f)

        above : Below L absorbing (T i (u ∷ m ∷ v ∷ [])) (R.times (future R A (left i) (u ∷ m ∷ [])) (future R B (right i) (m ∷ v ∷ [])))
        above =
            subst (λ c. Below L absorbing (T i (u ∷ m ∷ v ∷ [])) (pair_value L f g h g c (left i) (right i) u m v)) e
            (below_part L absorbing (T i (u ∷ m ∷ v ∷ [])) _ _
            (unfolded L 3 J j (at L A B J a b j hA hB sa sb (inl absorbing) (inl absorbing) left right flag M) (join_solves L A B J a b j hA hB sa sb (inl absorbing) (inl absorbing) left right flag M) ((size (u ∷ m ∷ v ∷ []) + 1) * J.states) i (u ∷ m ∷ v ∷ []) l refl))
