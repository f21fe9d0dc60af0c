-- Moves of either state of a pair, one after the other.
use Rattle.std.proofs.Common.{◌≡◌, ◌<◌, ◌≤◌, ◌+◌, ℕ, List, [], ◌∷◌, map, Less, Equal, Greater, arith, length, drop, get_or, refl, sym, ap, ap₂, ◌∙◌, inl, inr, false}
use Rattle.std.specs.Prelude.{◌↔◌, IfErr, Result, Ok, Err}
use Rattle.std.specs.Cmp.{IsTotalOrder}
use Rattle.vc_aut.specs.Order.{moves_from}
use Rattle.vc_label.specs.Order.{word_order}
use Rattle.vc_model.specs.Automata.{Automaton, Transition}
use Rattle.vc_model.specs.Gathered.{IsAscending}
use Rattle.vc_model.specs.Items.{Item, item_key}
use Rattle.vc_model.specs.Lists.{In}
use Rattle.vc_model.specs.WeightSet.{WeightSet}
use Rattle.vc_model.specs.Words.{Word}
use Rattle.vc_ring.specs.Steps.{fits}
use Rattle.vc_ring.specs.declared.faults.MakeFault.{MakeFault}
use Rattle.vc_ring.specs.declared.faults.MakeFault.TheVariants.{Overflow as Unfit, Limit as PastLimit, Memory}
use Rattle.vc_ring.specs.declared.faults.Overflow.{Overflow}
use Rattle.vc_ring.specs.declared.faults.Overflow.TheVariants.{Add}
use Rattle.vc_search.specs.Courses.{Course, IsStopped, NoStep, led_all, targets}
use Rattle.vc_search.specs.CourseLaws.{lead_stops, led_keeps}
use Rattle.vc_join.specs.Orders.{item_before, item_order}
use Rattle.vc_join.specs.Pairs.{Pair, same_states}
use Rattle.vc_join.specs.Shuffles.{IsMixing, IsNextMixed, IsShuffleStep, first_order, left_item, mixed_items, right_item, shuffle_items}
use Rattle.vc_join.proofs.ItemOrder.{adds_first, after_all, goes_first, later, same_key, stays, turned_back}

-- the state that moves next has a move
pub left_some : {V : Type 0} (k : Pair) (ts us : List (Transition V)) → first_order k ts us ≡ Less → 0 < length ts
left_some k [] us q = absurd (cc)
left_some k (t ∷ ts) us q = omega arith

pub right_some : {V : Type 0} (k : Pair) (ts us : List (Transition V)) → 0 < length ts + length us → first_order k ts us ≡ Greater → 0 < length us
right_some k [] [] s q = absurd (omega (arith, s))
right_some k (t ∷ ts) [] s q = absurd (cc)
right_some k ts (u ∷ us) s q = omega arith

pub both_some : {V : Type 0} (k : Pair) (ts us : List (Transition V)) → first_order k ts us ≡ Equal → (0 < length ts) × (0 < length us)
both_some k [] us q = absurd (cc)
both_some k (t ∷ ts) [] q = absurd (cc)
both_some k (t ∷ ts) (u ∷ us) q = (omega arith, omega arith)

module _ (total : IsTotalOrder word_order) (equal : (v w : Word) → (word_order v w ≡ Equal) ↔ (v ≡ w)) {V : Type 0} (R : WeightSet V) (k : Pair) where
  abbrev L : Transition V → Item V Pair
  L t = left_item k.1 t

  abbrev U : Transition V → Item V Pair
  U u = right_item k.0 u

  -- a move of each as one of both
  abbrev pub of_both : Transition V → Transition V → Item V Pair
  of_both t u = record { label = t.label; weight = R.plus t.weight u.weight; to = (t.to, k.1) }

  -- the moves of both states are in order
  abbrev pub AreInTurn : List (Transition V) → List (Transition V) → Type 0
  AreInTurn ts us = IsAscending item_before (map L ts) × IsAscending item_before (map U us)

  left_first : (t : Transition V) (ts us : List (Transition V)) → AreInTurn (t ∷ ts) us → first_order k (t ∷ ts) us ≡ Less → mixed_items R k (t ∷ ts) us ≡ L t ∷ mixed_items R k ts us
  left_first t ts [] a q = refl
  left_first t ts (u ∷ us) a q = stays total equal R (L t) (map L ts) (map U (u ∷ us)) (later total equal (L t) (U u) (map U us) q (after_all total equal (U u) (map U us) a.1))

  right_first : (ts : List (Transition V)) (u : Transition V) (us : List (Transition V)) → AreInTurn ts (u ∷ us) → first_order k ts (u ∷ us) ≡ Greater → mixed_items R k ts (u ∷ us) ≡ U u ∷ mixed_items R k ts us
  right_first [] u us a q = goes_first total equal R [] (map U us) (U u) (λ d i. absurd i) (after_all total equal (U u) (map U us) a.1)
  right_first (t ∷ ts) u us a q = goes_first total equal R (map L (t ∷ ts)) (map U us) (U u)
      (later total equal (U u) (L t) (map L ts) (turned_back total equal (L t) (U u) q) (after_all total equal (L t) (map L ts) a.0))
      (after_all total equal (U u) (map U us) a.1)

  -- the next move is one of the first state
  pub takes_left : (ts us : List (Transition V)) → AreInTurn ts us → first_order k ts us ≡ Less → (x : Transition V) → x ≡ get_or ts 0 x → mixed_items R k ts us ≡ L x ∷ mixed_items R k (drop 1 ts) us
  takes_left [] us a q x e = absurd (cc)
  takes_left (t ∷ ts) us a q x e = left_first t ts us a q ∙ ap (λ (y : Transition V). L y ∷ mixed_items R k ts us) (sym e)

  -- it is one of the second state
  pub takes_right : (ts us : List (Transition V)) → AreInTurn ts us → 0 < length ts + length us → first_order k ts us ≡ Greater → (x : Transition V) → x ≡ get_or us 0 x → mixed_items R k ts us ≡ U x ∷ mixed_items R k ts (drop 1 us)
  takes_right [] [] a s q x e = absurd (omega (arith, s))
  takes_right (t ∷ ts) [] a s q x e = absurd (cc)
  takes_right ts (u ∷ us) a s q x e = right_first ts u us a q ∙ ap (λ (y : Transition V). U y ∷ mixed_items R k ts us) (sym e)

  -- there is one of each, which lead to one pair by one label
  pub takes_both : (ts us : List (Transition V)) → AreInTurn ts us → first_order k ts us ≡ Equal → (x y : Transition V) → x ≡ get_or ts 0 x → y ≡ get_or us 0 y
      → mixed_items R k ts us ≡ of_both x y ∷ mixed_items R k (drop 1 ts) (drop 1 us)
  takes_both [] us a q x y e r = absurd (cc)
  takes_both (t ∷ ts) [] a q x y e r = absurd (cc)
  takes_both (t ∷ ts) (u ∷ us) a q x y e r =
      adds_first total equal R (map L ts) (map U us) (L t) (U u) q (after_all total equal (U u) (map U us) a.1)
      ∙ ap₂ (λ (v w : Transition V). of_both v w ∷ mixed_items R k ts us) (sym e) (sym r)

  pub same_of_both : (ts us : List (Transition V)) → first_order k ts us ≡ Equal → (x y : Transition V) → x ≡ get_or ts 0 x → y ≡ get_or us 0 y → item_key (L x) ≡ item_key (U y)
  same_of_both [] us q x y e r = absurd (cc)
  same_of_both (t ∷ ts) [] q x y e r = absurd (cc)
  same_of_both (t ∷ ts) (u ∷ us) q x y e r = same_key total equal (L x) (U y) (ap₂ (λ (v w : Transition V). item_order (L v) (U w)) e r ∙ q)

  module _ (ts us : List (Transition V)) (a : AreInTurn ts us) (from : ℕ) (c d : Course V Pair) (h : from < length c.members) where
    -- what is led on by the next move leads on by what is left
    taken : (n : ℕ × ℕ) (e : Item V Pair) → mixed_items R k ts us ≡ e ∷ mixed_items R k (drop n.0 ts) (drop n.1 us) → n.0 ≤ length ts → n.1 ≤ length us → 0 < n.0 + n.1 → d ≡ led_all same_states from c (e ∷ []) → IsNextMixed R k ts us from c n d
    taken n e m p q z l =
        let keeps = led_keeps same_states from c d (e ∷ []) l h in
        record {
          rest = ap (λ (b : Course V Pair). led_all same_states from b (mixed_items R k (drop n.0 ts) (drop n.1 us))) l ∙ ap (led_all same_states from c) (sym m);
          left = p;
          right = q;
          some = z;
          sets = keeps.0;
          within = keeps.1;
        }

    pub took_left : first_order k ts us ≡ Less → (x : Transition V) → x ≡ get_or ts 0 x → d ≡ led_all same_states from c (L x ∷ []) → IsNextMixed R k ts us from c (1, 0) d
    took_left q x e l = let s = left_some k ts us q in taken (1, 0) (L x) (takes_left ts us a q x e) (omega (arith, s)) (omega arith) (omega arith) l

    pub took_right : 0 < length ts + length us → first_order k ts us ≡ Greater → (x : Transition V) → x ≡ get_or us 0 x → d ≡ led_all same_states from c (U x ∷ []) → IsNextMixed R k ts us from c (0, 1) d
    took_right z q x e l = let s = right_some k ts us z q in taken (0, 1) (U x) (takes_right ts us a z q x e) (omega arith) (omega (arith, s)) (omega arith) l

    pub took_both : first_order k ts us ≡ Equal → (x y : Transition V) → x ≡ get_or ts 0 x → y ≡ get_or us 0 y → d ≡ led_all same_states from c (of_both x y ∷ []) → IsNextMixed R k ts us from c (1, 1) d
    took_both q x y e r l = let s = both_some k ts us q in taken (1, 1) (of_both x y) (takes_both ts us a q x y e r) (omega (arith, s.0)) (omega (arith, s.1)) (omega arith) l

-- where one state has no move left, and where both have one
pub none_left : {V X : Type 0} (k : Pair) (f : X → Transition V) (ts us : List X) → length ts ≡ 0 → Greater ≡ first_order k (map f ts) (map f us)
none_left k f [] us h = refl
none_left k f (t ∷ ts) us h = absurd (omega (arith, h))

pub none_right : {V X : Type 0} (k : Pair) (f : X → Transition V) (ts us : List X) → 0 < length ts → length us ≡ 0 → Less ≡ first_order k (map f ts) (map f us)
none_right k f [] us g h = absurd (omega (arith, g))
none_right k f (t ∷ ts) [] g h = refl
none_right k f (t ∷ ts) (u ∷ us) g h = absurd (omega (arith, h))

pub order_of_both : {V X : Type 0} (k : Pair) (f : X → Transition V) (ts us : List X) (x y : X) → 0 < length ts → 0 < length us → x ≡ get_or ts 0 x → y ≡ get_or us 0 y → item_order (left_item k.1 (f x)) (right_item k.0 (f y)) ≡ first_order k (map f ts) (map f us)
order_of_both k f [] us x y g h e r = absurd (omega (arith, g))
order_of_both k f (t ∷ ts) [] x y g h e r = absurd (omega (arith, h))
order_of_both {V} {X} k f (t ∷ ts) (u ∷ us) x y g h e r = ap₂ (λ (v w : X). item_order (left_item k.1 (f v)) (right_item k.0 (f w))) e r

-- the move that is next is a member, and stands in front
abbrev pub IsFront : {V : Type 0} → Transition V → List (Transition V) → Type 0
IsFront t ts = In t ts × (t ≡ get_or ts 0 t)

pub front_left : {V X : Type 0} (k : Pair) (f : X → Transition V) (ts us : List X) → first_order k (map f ts) (map f us) ≡ Less → (x : X) → x ≡ get_or ts 0 x → IsFront (f x) (map f ts)
front_left k f [] us q x e = absurd (cc)
front_left k f (t ∷ ts) us q x e = (inl (ap f e), ap f e)

pub front_right : {V X : Type 0} (k : Pair) (f : X → Transition V) (ts us : List X) → 0 < length ts + length us → first_order k (map f ts) (map f us) ≡ Greater → (y : X) → y ≡ get_or us 0 y → IsFront (f y) (map f us)
front_right k f [] [] s q y e = absurd (omega (arith, s))
front_right k f (t ∷ ts) [] s q y e = absurd (cc)
front_right k f ts (u ∷ us) s q y e = (inl (ap f e), ap f e)

pub front_both : {V X : Type 0} (k : Pair) (f : X → Transition V) (ts us : List X) → first_order k (map f ts) (map f us) ≡ Equal → (x y : X) → x ≡ get_or ts 0 x → y ≡ get_or us 0 y → IsFront (f x) (map f ts) × IsFront (f y) (map f us)
front_both k f [] us q x y e r = absurd (cc)
front_both k f (t ∷ ts) [] q x y e r = absurd (cc)
front_both k f (t ∷ ts) (u ∷ us) q x y e r = ((inl (ap f e), ap f e), (inl (ap f r), ap f r))

-- where no state has a move left, nothing is left to do
pub nothing_left : {V X : Type 0} (R : WeightSet V) (k : Pair) (f : X → Transition V) (ts us : List X) → length ts ≡ 0 → length us ≡ 0 → mixed_items R k (map f ts) (map f us) ≡ []
nothing_left R k f [] [] h m = refl
nothing_left R k f (t ∷ ts) us h m = absurd (omega (arith, h))
nothing_left R k f [] (u ∷ us) h m = absurd (omega (arith, m))

module _ {V : Type 0} (R : WeightSet V) where
  -- the sum of the weights of two moves does not fit
  abbrev pub SumFails : Transition V → Transition V → Overflow V → Type 0
  SumFails t u o = (o ≡ Add t.weight u.weight) × (fits R o ≡ false)

  -- that of two that mix does not fit
  abbrev pub MixFails : Pair → List (Transition V) → List (Transition V) → Overflow V → Type 0
  MixFails k ts us o = IsMixing k ts us o × (fits R o ≡ false)

  -- a stop at a move of one state
  pub alone_stops : (k : Pair) (ts us : List (Transition V)) (from : ℕ) (c : Course V Pair) (e : Item V Pair) (rest : List (Item V Pair)) → mixed_items R k ts us ≡ e ∷ rest
      → (f : MakeFault V) → IsStopped same_states NoStep c (e.to ∷ []) 1 f → IsStopped same_states (MixFails k ts us) c (targets (mixed_items R k ts us)) (length (mixed_items R k ts us)) f
  alone_stops k ts us from c e rest p f h = lead_stops same_states (λ o. ⊥) (MixFails k ts us) (λ o q. absurd q) from c c (e ∷ []) rest (mixed_items R k ts us) (ap (led_all same_states from c) (sym p)) f h

  -- a stop at a move of both
  pub both_stop : (k : Pair) (ts us : List (Transition V)) (t u : Transition V) → In t ts → In u us → item_key (left_item k.1 t) ≡ item_key (right_item k.0 u) → (from : ℕ) (c : Course V Pair) (e : Item V Pair) (rest : List (Item V Pair)) → mixed_items R k ts us ≡ e ∷ rest
      → (f : MakeFault V) → IsStopped same_states (SumFails t u) c (e.to ∷ []) 1 f → IsStopped same_states (MixFails k ts us) c (targets (mixed_items R k ts us)) (length (mixed_items R k ts us)) f
  both_stop k ts us t u a b s from c e rest p f h =
      lead_stops same_states (SumFails t u) (MixFails k ts us) (λ o q. (record { left = t; right = u; left_in = a; right_in = b; same = s; is = q.0 }, q.1)) from c c (e ∷ []) rest (mixed_items R k ts us) (ap (led_all same_states from c) (sym p)) f h

  -- a stop at what is left
  pub rest_stops : (k : Pair) (ts us all_ts all_us : List (Transition V)) → ((t : Transition V) → In t ts → In t all_ts) → ((u : Transition V) → In u us → In u all_us) → (from : ℕ) (c d : Course V Pair) → led_all same_states from c (mixed_items R k ts us) ≡ led_all same_states from d (mixed_items R k all_ts all_us)
      → (f : MakeFault V) → IsStopped same_states (MixFails k ts us) c (targets (mixed_items R k ts us)) (length (mixed_items R k ts us)) f → IsStopped same_states (MixFails k all_ts all_us) d (targets (mixed_items R k all_ts all_us)) (length (mixed_items R k all_ts all_us)) f
  rest_stops k ts us all_ts all_us a b from c d p f h =
      lead_stops same_states (MixFails k ts us) (MixFails k all_ts all_us)
      (λ o q. let m = q.0 in (record { left = m.left; right = m.right; left_in = a m.left m.left_in; right_in = b m.right m.right_in; same = m.same; is = m.is }, q.1))
      from c d (mixed_items R k ts us) [] (mixed_items R k all_ts all_us) p f h

  -- a stop at the moves of a pair, as one of the pair
  pub mix_stops : {T : Type 0} (A B : Automaton V) (k : Pair) (c : Course V Pair) (r : Result T (MakeFault V)) → IfErr r (IsStopped same_states (MixFails k (moves_from A.transitions k.0) (moves_from B.transitions k.1)) c (targets (shuffle_items R A B k)) (length (shuffle_items R A B k)))
      → IfErr r (IsStopped same_states (λ o. IsShuffleStep R A B k o × (fits R o ≡ false)) c (targets (shuffle_items R A B k)) (length (shuffle_items R A B k)))
  mix_stops A B k c (Ok v) h = h
  mix_stops A B k c (Err (Unfit o)) h = (inr h.0, h.1)
  mix_stops A B k c (Err (PastLimit l)) h = h
  mix_stops A B k c (Err (Memory e)) h = h
