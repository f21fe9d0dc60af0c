-- Transitions that are the sum of themselves: they ascend, and none has the weight zero.
use Rattle.std.proofs.Common.{◌≡◌, ◌≢◌, ◌∙◌, sym, ap, refl, ℕ, zero, suc, ◌+◌, ◌-◌, ◌<◌, ◌≤◌, Bool, true, false, List, [], ◌∷◌, ◌++◌, length, length-append, map, take, replicate, cond, get_or, Less, Greater, Equal, arith, All, inl, inr, subst, ◌⊎◌}
use Rattle.std.specs.Prelude.{not, nat_eq, nat_lt}
use Rattle.std.specs.Cmp.{IsTotalOrder}
use Rattle.std.specs.List.{AllByRecursion}
use Rattle.std.specs.Ordering.{is_lt, ordering_reverse}
use Rattle.std.specs.declared.cmp.Ordering.{Ordering}
use Rattle.std.proofs.lemmas.Grind.{common_steps}
use Rattle.std.proofs.Math.ListN.{get_or-append}
use Rattle.std.proofs.lemmas.List.{get_or-append_right, get_or-map, get_or-replicate, get_or-take, length-map, length-replicate, length-take-le, take_all}
use Rattle.std.proofs.lemmas.List.Elements.{All-head, All-tail, All-map, at_read}
use Rattle.std.proofs.lemmas.Map.Keys.{sorted_head, sorted_tail, sorted_from_all_adjacent}
use Rattle.vc_label.specs.declared.tape_set.TapeSet.{TapeSet}
use Rattle.vc_model.specs.Automata.{Transition}
use Rattle.vc_model.specs.Lists.{In, IsEqualityTest}
use Rattle.vc_model.specs.WeightSet.{WeightSet, InRange}
use Rattle.vc_ring.specs.Steps.{AllFit}
use Rattle.vc_aut.specs.Additions.{additions}
use Rattle.vc_aut.specs.Drafts.{without_zeros}
use Rattle.vc_aut.specs.Order.{triple_order, AreInOrder}
use Rattle.vc_aut.specs.Stored.{automaton_of, count_below, AreSummed, GoesOn}
use Rattle.vc_aut.specs.Sums.{insert_all}
use Rattle.vc_aut.specs.Validity.{IsLabelled, IsMove}
use Rattle.vc_aut.proofs.Inserted.{in_order-none}
use Rattle.vc_aut.proofs.Merged.{all_past, additions_past}
use Rattle.vc_aut.proofs.Rows.{counted, source_rises}

module _ {V : Type 0} (order : IsTotalOrder (triple_order {V = V})) (R : WeightSet V) where
  after : (t : Transition V) (ts : List (Transition V)) → AllByRecursion (λ u. triple_order t u ≡ Less) ts → (u : Transition V) → In u ts → triple_order u t ≡ Greater
  after t [] h u i = absurd i
  after t (v ∷ vs) h u (inl e) = ap (λ w. triple_order w t) e ∙ order.antisymm v t ∙ ap ordering_reverse h.0
  after t (v ∷ vs) h u (inr i) = after t vs h.1 u i

  sums_of_ascending : (ts : List (Transition V)) → AreInOrder ts → insert_all R [] ts ≡ ts
  sums_of_ascending [] h = refl
  sums_of_ascending (t ∷ ts) h =
      all_past order R t [] ts (after t ts (sorted_head triple_order t ts h)) ∙ ap (λ us. t ∷ us) (sums_of_ascending ts (sorted_tail triple_order t ts h))

  additions_of_ascending : (ts : List (Transition V)) → AreInOrder ts → additions R [] ts ≡ []
  additions_of_ascending [] h = refl
  additions_of_ascending (t ∷ ts) h =
      additions_past order R t [] ts (after t ts (sorted_head triple_order t ts h)) ∙ additions_of_ascending ts (sorted_tail triple_order t ts h)

  module _ (same : V → V → Bool) (tells : IsEqualityTest same) where
    not_same : (w : V) → w ≢ R.zero → (b : Bool) → same w R.zero ≡ b → not b ≡ true
    not_same w n true e = absurd (n ((tells w R.zero).0 e))
    not_same w n false e = refl

    none_zero : (ts : List (Transition V)) → All (λ t. t.weight ≢ R.zero) ts → without_zeros R same ts ≡ ts
    none_zero [] h = refl
    none_zero (t ∷ ts) h =
        ap (λ b. cond b (t ∷ without_zeros R same ts) (without_zeros R same ts)) (not_same t.weight (All-head (λ (u : Transition V). u.weight ≢ R.zero) t ts h) (same t.weight R.zero) refl)
        ∙ ap (λ us. t ∷ us) (none_zero ts (All-tail (λ (u : Transition V). u.weight ≢ R.zero) t ts h))

    -- they are their own sum, without zeros
    pub summed_is_itself : (n : ℕ) (starts : List ℕ) (ts : List (Transition V)) → AreSummed R ts n starts → without_zeros R same (insert_all R [] ts) ≡ ts
    summed_is_itself n starts ts h = ap (without_zeros R same) (sums_of_ascending ts h.order) ∙ none_zero ts h.weights

  -- nothing is added, and there are not too many of them
  pub summed_answers : (n : ℕ) (starts : List ℕ) (ts : List (Transition V)) → AreSummed R ts n starts → AllFit R (additions R [] ts) × (length (insert_all R [] ts) ≤ 4000000)
  summed_answers n starts ts h = (
    subst (AllFit R) (sym (additions_of_ascending ts h.order)) tt,
    subst (λ us. length us ≤ 4000000) (sym (sums_of_ascending ts h.order)) h.few,
  )

-- they make an automaton
pub summed_is_labelled : {V : Type 0} (R : WeightSet V) (sets : List TapeSet) (initial final : List V) (starts : List ℕ) (ts : List (Transition V))
    → length initial ≤ 1000000 → length final ≡ length initial → InRange R initial → InRange R final → All (IsMove R sets (length initial)) ts → AreSummed R ts (length initial) starts
    → IsLabelled R (record { sets = sets; automaton = automaton_of initial final ts })
summed_is_labelled R sets initial final starts ts states long initial_in final_in moves h = record {
  drawn = record { initial = refl; final = long; initial_in = initial_in; final_in = final_in; moves = moves; order = h.order };
  states = omega (arith, states);
  few = states;
  few_transitions = h.few;
  weight = h.weights;
}

is_less : (o : Ordering) → is_lt o ≡ true → o ≡ Less
is_less Less e = refl
is_less Equal e = cc
is_less Greater e = cc

-- the list cut or filled up to w numbers with n
pub record IsFilled (starts after : List ℕ) (n w : ℕ) : Type 0 where
  pub count : length after ≡ w
  pub kept : (k d : ℕ) → k < w → k < length starts → get_or after k d ≡ get_or starts k d
  pub new : (k d : ℕ) → length starts ≤ k → k < w → get_or after k d ≡ n

module _ (starts after : List ℕ) (m n w : ℕ) (long : m ≡ length starts) (is : after ≡ take w starts ++ replicate (w - m) n) where
  all_taken : length starts ≤ w → length (take w starts) ≡ length starts
  all_taken l = ap length (take_all w starts l)

  length_by : (b : Bool) → nat_lt w (length starts) ≡ b → length (take w starts) + (w - m) ≡ w
  length_by true q =
      let l : w ≤ length starts = grind (arith, common_steps) in
      let t : length (take w starts) ≡ w = length-take-le w starts l in
      omega (arith, t, long, l)
  length_by false q =
      let l : length starts ≤ w = grind (arith, common_steps) in
      let t : length (take w starts) ≡ length starts = all_taken l in
      omega (arith, t, long, l)

  inside_by : (k : ℕ) → k < w → k < length starts → (b : Bool) → nat_lt w (length starts) ≡ b → k < length (take w starts)
  inside_by k h l true q =
      let j : w ≤ length starts = grind (arith, common_steps) in
      let t : length (take w starts) ≡ w = length-take-le w starts j in
      omega (arith, t, h)
  inside_by k h l false q =
      let j : length starts ≤ w = grind (arith, common_steps) in
      let t : length (take w starts) ≡ length starts = all_taken j in
      omega (arith, t, l)

  pub filled : IsFilled starts after n w
  filled = record {
    count = ap length is ∙ length-append (take w starts) (replicate (w - m) n) ∙ ap (λ k. length (take w starts) + k) (length-replicate (w - m) n) ∙ length_by (nat_lt w (length starts)) refl;
    kept = λ k d h l.
        ap (λ l. get_or l k d) is
        ∙ get_or-append (take w starts) (replicate (w - m) n) d k (inside_by k h l (nat_lt w (length starts)) refl)
        ∙ get_or-take w starts k d h;
    new = λ k d l h.
        ap (λ l. get_or l k d) is
        ∙ get_or-append_right (take w starts) (replicate (w - m) n) (length starts) k d (all_taken (omega (arith, l, h))) l
        ∙ get_or-replicate (w - m) (k - length starts) n d (omega (arith, l, h, long));
  }

module _ {X V : Type 0} (R : WeightSet V) (f : X → Transition V) (xs : List X) where
  -- the first one, if its weight is not zero
  pub goes_on_first : (at : ℕ) (x : X) → at < length xs → x ≡ get_or xs at x → (f x).weight ≢ R.zero → nat_eq at 0 ≡ true → GoesOn R f xs at
  goes_on_first at x h reads w e = record {
    weight = at_read xs (λ y. (f y).weight ≢ R.zero) at x h reads w;
    order = λ d l. (let z : at ≡ 0 = grind (arith, common_steps) in absurd (omega (arith, l, z)));
  }

  -- one that comes after the one before it
  pub goes_on_next : (at : ℕ) (x y : X) → at < length xs → x ≡ get_or xs at x → y ≡ get_or xs (at - 1) y → (f x).weight ≢ R.zero → is_lt (triple_order (f y) (f x)) ≡ true → GoesOn R f xs at
  goes_on_next at x y h reads reads_last w e = record {
    weight = at_read xs (λ y. (f y).weight ≢ R.zero) at x h reads w;
    order = λ d l. rw (at_read xs (λ z. z ≡ x) at x h reads refl d, at_read xs (λ z. z ≡ y) (at - 1) y (omega (arith, h)) reads_last refl d) (is_less (triple_order (f y) (f x)) e);
  }

  -- the place of the first that comes from state s or a later one
  pub record IsPlace (s n a : ℕ) : Type 0 where
    pub inside : a < n
    pub below : (k : ℕ) (d : X) → k < a → (f (get_or xs k d)).from < s
    pub from : (d : X) → s ≤ (f (get_or xs a d)).from

  -- the first n are such, and the starts go up to the state of the last of them
  pub record IsWalked (starts : List ℕ) (n : ℕ) : Type 0 where
    pub order : (k : ℕ) (d : X) → k + 1 < n → triple_order (f (get_or xs k d)) (f (get_or xs (k + 1) d)) ≡ Less
    pub weights : (k : ℕ) (d : X) → k < n → (f (get_or xs k d)).weight ≢ R.zero
    pub below : (k : ℕ) (d : X) → k < n → (f (get_or xs k d)).from < length starts
    pub none : n ≡ 0 → length starts ≡ 0
    pub last : (d : X) → 0 < n → length starts ≡ (f (get_or xs (n - 1) d)).from + 1
    pub places : (s e : ℕ) → s < length starts → IsPlace s n (get_or starts s e)

  pub walked_none : (starts : List ℕ) → starts ≡ [] → IsWalked starts 0
  walked_none starts e = record {
    order = λ k d h. absurd (omega (arith, h));
    weights = λ k d h. absurd (omega (arith, h));
    below = λ k d h. absurd (omega (arith, h));
    none = λ _. ap length e;
    last = λ d h. absurd (omega (arith, h));
    places = λ s e' h. (let none : length starts ≡ 0 = ap length e in absurd (omega (arith, h, none)));
  }

  module _ (starts : List ℕ) (n : ℕ) (h : IsWalked starts n) (x : X) (is : (d : X) → get_or xs n d ≡ x) (on : GoesOn R f xs n) (after : List ℕ) (fills : IsFilled starts after n ((f x).from + 1)) where
    reaches : length starts ≤ (f x).from + 1
    reaches = by n refl
      where
        by : (m : ℕ) → n ≡ m → length starts ≤ (f x).from + 1
        by zero e = let z : length starts ≡ 0 = h.none e in omega (arith, z)
        by (suc m) e =
            let some : 0 < n = omega (arith, e) in
            let l : length starts ≡ (f (get_or xs (n - 1) x)).from + 1 = h.last x some in
            let r : (f (get_or xs (n - 1) x)).from ≤ (f (get_or xs n x)).from = source_rises (f (get_or xs (n - 1) x)) (f (get_or xs n x)) (on.order x some) in
            let q : (f (get_or xs n x)).from ≡ (f x).from = ap (λ y. (f y).from) (is x) in
            omega (arith, l, r, q)

    order_more : (k : ℕ) (d : X) → k + 1 < n + 1 → (k + 1 < n) ⊎ (k + 1 ≡ n) → triple_order (f (get_or xs k d)) (f (get_or xs (k + 1) d)) ≡ Less
    order_more k d l (inl m) = h.order k d m
    order_more k d l (inr e) =
        let p : n - 1 ≡ k = omega (arith, e) in
        subst (λ m. triple_order (f (get_or xs k d)) (f (get_or xs m d)) ≡ Less) (sym e)
        (subst (λ m. triple_order (f (get_or xs m d)) (f (get_or xs n d)) ≡ Less) p (on.order d (omega (arith, e))))

    upto : (k m : ℕ) → k < m + 1 → (k < m) ⊎ (k ≡ m)
    upto zero zero l = inr refl
    upto zero (suc m) l = inl (omega arith)
    upto (suc k) zero l = absurd (omega (arith, l))
    upto (suc k) (suc m) l = elim (upto k m (omega (arith, l))) [ inl a ↦ inl (omega (arith, a)) | inr e ↦ inr (ap suc e) ]

    from_at : (d : X) → (f (get_or xs n d)).from ≡ (f x).from
    from_at d = ap (λ y. (f y).from) (is d)

    place_old : (s a : ℕ) → IsPlace s n a → IsPlace s (n + 1) a
    place_old s a p = record { inside = let i : a < n = p.inside in omega (arith, i); below = p.below; from = p.from }

    place_new : (s : ℕ) → length starts ≤ s → s < (f x).from + 1 → IsPlace s (n + 1) n
    place_new s l m = record {
      inside = omega arith;
      below = λ k d b. (let c : (f (get_or xs k d)).from < length starts = h.below k d b in omega (arith, c, l));
      from = λ d. (let q : (f (get_or xs n d)).from ≡ (f x).from = from_at d in omega (arith, q, m));
    }

    pub walked_more : IsWalked after (n + 1)
    walked_more = record {
      order = λ k d l. order_more k d l (upto (k + 1) n l);
      weights = λ k d l. elim (upto k n l) [
        | inl b ↦ h.weights k d b
        | inr e ↦ subst (λ m. (f (get_or xs m d)).weight ≢ R.zero) (sym e) (on.weight d)
      ];
      below = λ k d l. elim (upto k n l) [
        | inl b ↦ (let c : (f (get_or xs k d)).from < length starts = h.below k d b in omega (arith, c, reaches, fills.count))
        | inr e ↦ (let q : (f (get_or xs k d)).from ≡ (f x).from = ap (λ m. (f (get_or xs m d)).from) e ∙ from_at d in omega (arith, q, fills.count))
      ];
      none = λ e. absurd (omega (arith, e));
      last = λ d l. (
          let p : (n + 1) - 1 ≡ n = omega arith in
          let q : (f (get_or xs ((n + 1) - 1) d)).from ≡ (f x).from = ap (λ m. (f (get_or xs m d)).from) p ∙ from_at d in
          omega (arith, q, fills.count));
      places = λ s e l. (let m : s < (f x).from + 1 = omega (arith, l, fills.count) in by s e m (nat_lt s (length starts)) refl);
    }
      where
        by : (s e : ℕ) → s < (f x).from + 1 → (b : Bool) → nat_lt s (length starts) ≡ b → IsPlace s (n + 1) (get_or after s e)
        by s e m true q =
            let l : s < length starts = grind (arith, common_steps) in
            subst (IsPlace s (n + 1)) (sym (fills.kept s e m l)) (place_old s (get_or starts s e) (h.places s e l))
        by s e m false q =
            let l : length starts ≤ s = grind (arith, common_steps) in
            subst (IsPlace s (n + 1)) (sym (fills.new s e l m)) (place_new s l m)

  module _ (order : IsTotalOrder (triple_order {V = V})) (starts : List ℕ) (h : IsWalked starts (length xs)) (states : ℕ) (few : length xs ≤ 4000000) (after : List ℕ) (fills : IsFilled starts after (length xs) (states + 1)) where
    in_order_by : (ys : List X) → xs ≡ ys → AreInOrder (map f ys)
    in_order_by [] e = in_order-none [] refl
    in_order_by (y ∷ ys) e =
        sorted_from_all_adjacent order (map f (y ∷ ys)) (f y)
        (λ k l.
        let m : k + 1 < length (y ∷ ys) = subst (λ i. k + 1 < i) (length-map (y ∷ ys) f) l in
        let a : get_or (map f (y ∷ ys)) k (f y) ≡ f (get_or (y ∷ ys) k y) = get_or-map f (y ∷ ys) k y (f y) (omega (arith, m)) in
        let b : get_or (map f (y ∷ ys)) (k + 1) (f y) ≡ f (get_or (y ∷ ys) (k + 1) y) = get_or-map f (y ∷ ys) (k + 1) y (f y) m in
        rw (a, b) (subst (λ zs. triple_order (f (get_or zs k y)) (f (get_or zs (k + 1) y)) ≡ Less) e (h.order k y (subst (λ zs. k + 1 < length zs) (sym e) m))))

    in_order : AreInOrder (map f xs)
    in_order = in_order_by xs refl

    place : (s d : ℕ) → s ≤ states → (b : Bool) → nat_lt s (length starts) ≡ b → get_or after s d ≡ count_below (map f xs) s
    place s d l true q =
        let m : s < length starts = grind (arith, common_steps) in
        let p : IsPlace s (length xs) (get_or starts s d) = h.places s d m in
        fills.kept s d (omega (arith, l)) m
        ∙ sym (counted f s (get_or starts s d) xs in_order (let i : get_or starts s d < length xs = p.inside in omega (arith, i)) p.below (λ _ d. p.from d))
    place s d l false q =
        let m : length starts ≤ s = grind (arith, common_steps) in
        fills.new s d m (omega (arith, l))
        ∙ sym (counted f s (length xs) xs in_order (omega arith) (λ k d b. (let c : (f (get_or xs k d)).from < length starts = h.below k d b in omega (arith, c, m))) (λ i d. absurd (omega (arith, i))))

    pub walked_all : AreSummed R (map f xs) states after
    walked_all = record {
      order = in_order;
      weights = All-map (λ (t : Transition V). t.weight ≢ R.zero) f xs (λ k d l. h.weights k d l);
      few = subst (λ n. n ≤ 4000000) (sym (length-map xs f)) few;
      starts = record { length = fills.count; place = λ s d l. place s d l (nat_lt s (length starts)) refl };
    }
