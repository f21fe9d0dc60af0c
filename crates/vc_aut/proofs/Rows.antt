-- The transitions of a state stand together.
use Rattle.std.proofs.Common.{◌≡◌, ◌∙◌, sym, ap, refl, ℕ, zero, suc, ◌+◌, ◌-◌, ◌<◌, ◌≤◌, Bool, true, false, List, [], ◌∷◌, ◌++◌, length-append, below_more, length, map, take, drop, cond, get_or, nat_cmp, Less, Equal, Greater, arith, ◌==◌}
use Rattle.std.proofs.Math.ListN.{get_or-append}
use Rattle.std.proofs.Math.Seq.{get_or-append_seam}
use Rattle.std.specs.Prelude.{nat_lt, filter}
use Rattle.std.specs.List.{AllByRecursion}
use Rattle.std.specs.List.{take-map, drop-map}
use Rattle.std.proofs.lemmas.List.{length-map}
use Rattle.std.specs.declared.cmp.Ordering.{Ordering}
use Rattle.std.proofs.lemmas.Grind.{common_steps}
use Rattle.std.proofs.lemmas.Map.Keys.{sorted_head, sorted_tail}
use Rattle.vc_model.specs.Automata.{Transition}
use Rattle.vc_aut.specs.Order.{triple_order, AreInOrder}
use Rattle.vc_aut.specs.Stored.{count_below, AreStarts}

module _ {V : Type 0} where
  -- a state that does not come after another
  pub source_rises : (t u : Transition V) → triple_order t u ≡ Less → t.from ≤ u.from
  source_rises t u h = grind (arith, common_steps)

  -- each of the transitions comes from s or a later state
  abbrev ComeFrom : ℕ → List (Transition V) → Type 0
  ComeFrom s ts = AllByRecursion (λ u. s ≤ u.from) ts

  pub later : (s r : ℕ) (ts : List (Transition V)) → s ≤ r → ComeFrom r ts → ComeFrom s ts
  later s r [] h k = tt
  later s r (t ∷ ts) h k = (omega (arith, k.0), later s r ts h k.1)

  pub from_order : (t : Transition V) (ts : List (Transition V)) → AllByRecursion (λ u. triple_order t u ≡ Less) ts → ComeFrom t.from ts
  from_order t [] h = tt
  from_order t (u ∷ us) h = (source_rises t u h.0, from_order t us h.1)

  pub count_below-none : (s : ℕ) (ts : List (Transition V)) → ComeFrom s ts → count_below ts s ≡ 0
  count_below-none s [] h = refl
  count_below-none s (t ∷ ts) h =
      let ih : count_below ts s ≡ 0 = count_below-none s ts h.1 in
      let k : s ≤ t.from = h.0 in
      let e : nat_lt t.from s ≡ false = grind (arith, common_steps) in
      rw e ih

  pub from_state-none : (s : ℕ) (ts : List (Transition V)) → ComeFrom (suc s) ts → filter (λ t. t.from == s) ts ≡ []
  from_state-none s [] h = refl
  from_state-none s (t ∷ ts) h =
      let ih : filter (λ t. t.from == s) ts ≡ [] = from_state-none s ts h.1 in
      let k : suc s ≤ t.from = h.0 in
      let e : (t.from == s) ≡ false = grind (arith, common_steps) in
      rw e ih

  rises_by : (b c : Bool) (t : Transition V) (xs ys : List (Transition V)) → (b ≡ true → c ≡ true) → length xs ≤ length ys → length (cond b (t ∷ xs) xs) ≤ length (cond c (t ∷ ys) ys)
  rises_by true true t xs ys h k = omega arith
  rises_by true false t xs ys h k = let e : false ≡ true = h refl in cc
  rises_by false true t xs ys h k = omega arith
  rises_by false false t xs ys h k = k

  within_by : (b : Bool) (t : Transition V) (xs ys : List (Transition V)) → length xs ≤ length ys → length (cond b (t ∷ xs) xs) ≤ suc (length ys)
  within_by true t xs ys k = omega arith
  within_by false t xs ys k = omega arith

  step_below : (m n : ℕ) (t : Transition V) (ts r : List (Transition V)) → take (n - m) (drop m ts) ≡ r → take (suc n - suc m) (drop (suc m) (t ∷ ts)) ≡ r
  step_below m n t ts r h = let e : suc n - suc m ≡ n - m = omega arith in rw e h

  step_here : (m n : ℕ) (t : Transition V) (ts r : List (Transition V)) → m ≡ 0 → take (n - m) (drop m ts) ≡ r → take (suc n - m) (drop m (t ∷ ts)) ≡ t ∷ r
  step_here m n t ts r z h =
      let e : suc n - 0 ≡ suc n = omega arith in
      let k : take (n - 0) (drop 0 ts) ≡ r = rw z at h in
      let d : n - 0 ≡ n = omega arith in
      rw (z, e) (ap (λ x. t ∷ x) (rw d at k))

  step_above : (m n : ℕ) (t : Transition V) (ts r : List (Transition V)) → m ≡ 0 → n ≡ 0 → r ≡ [] → take (n - m) (drop m (t ∷ ts)) ≡ r
  step_above m n t ts r y z e = rw (y, z, e) refl

  row_by : (s : ℕ) (t : Transition V) (ts : List (Transition V)) → ComeFrom t.from ts
      → take (count_below ts (s + 1) - count_below ts s) (drop (count_below ts s) ts) ≡ filter (λ t. t.from == s) ts
      → (o : Ordering) → nat_cmp t.from s ≡ o
      → take (count_below (t ∷ ts) (s + 1) - count_below (t ∷ ts) s) (drop (count_below (t ∷ ts) s) (t ∷ ts)) ≡ filter (λ t. t.from == s) (t ∷ ts)
  row_by s t ts rest ih Less o =
      let a : nat_lt t.from s ≡ true = grind (arith, common_steps) in
      let b : nat_lt t.from (s + 1) ≡ true = grind (arith, common_steps) in
      let c : (t.from == s) ≡ false = grind (arith, common_steps) in
      rw (a, b, c) (step_below (count_below ts s) (count_below ts (s + 1)) t ts _ ih)
  row_by s t ts rest ih Equal o =
      let a : nat_lt t.from s ≡ false = grind (arith, common_steps) in
      let b : nat_lt t.from (s + 1) ≡ true = grind (arith, common_steps) in
      let c : (t.from == s) ≡ true = grind (arith, common_steps) in
      rw (a, b, c) (step_here (count_below ts s) (count_below ts (s + 1)) t ts _ (count_below-none s ts (later s t.from ts (grind (arith, common_steps)) rest)) ih)
  row_by s t ts rest ih Greater o =
      let a : nat_lt t.from s ≡ false = grind (arith, common_steps) in
      let b : nat_lt t.from (s + 1) ≡ false = grind (arith, common_steps) in
      let c : (t.from == s) ≡ false = grind (arith, common_steps) in
      let after : suc s ≤ t.from = grind (arith, common_steps) in
      rw (a, b, c)
      (step_above (count_below ts s) (count_below ts (s + 1)) t ts _
      (count_below-none s ts (later s t.from ts (omega arith) rest))
      (count_below-none (s + 1) ts (later (s + 1) t.from ts (omega arith) rest))
      (from_state-none s ts (later (suc s) t.from ts after rest)))

  pub count_below-rises : (s : ℕ) (ts : List (Transition V)) → count_below ts s ≤ count_below ts (s + 1)
  count_below-rises s [] = omega arith
  count_below-rises s (t ∷ ts) =
      let ih : count_below ts s ≤ count_below ts (s + 1) = count_below-rises s ts in
      rises_by (nat_lt t.from s) (nat_lt t.from (s + 1)) t _ _ (λ e. grind (arith, common_steps)) ih

  pub count_below-within : (s : ℕ) (ts : List (Transition V)) → count_below ts s ≤ length ts
  count_below-within s [] = omega arith
  count_below-within s (t ∷ ts) =
      let ih : count_below ts s ≤ length ts = count_below-within s ts in
      within_by (nat_lt t.from s) t _ _ ih

  -- those of a state stand between the number of those below it and of those below the next
  pub row_of_state : (s : ℕ) (ts : List (Transition V)) → AreInOrder ts → take (count_below ts (s + 1) - count_below ts s) (drop (count_below ts s) ts) ≡ filter (λ t. t.from == s) ts
  row_of_state s [] h = grind (arith, common_steps)
  row_of_state s (t ∷ ts) h =
      let ih : take (count_below ts (s + 1) - count_below ts s) (drop (count_below ts s) ts) ≡ filter (λ t. t.from == s) ts = row_of_state s ts (sorted_tail triple_order t ts h) in
      let rest : ComeFrom t.from ts = from_order t ts (sorted_head triple_order t ts h) in
      row_by s t ts rest ih (nat_cmp t.from s) refl

  module _ {X : Type 0} (f : X → Transition V) (items xs : List X) (is : xs ≡ items) (n : ℕ) (starts : List ℕ) (a : AreStarts (map f items) n starts)
      (s x y states : ℕ) (all : n ≡ states) (inside : s < states) (start : x ≡ get_or starts s x) (end : y ≡ get_or starts (s + 1) y) where
    at_start : x ≡ count_below (map f items) s
    at_start = start ∙ a.place s x (omega arith)

    at_end : y ≡ count_below (map f items) (s + 1)
    at_end = end ∙ a.place (s + 1) y (omega arith)

    pub start_within_end : x ≤ y
    start_within_end = rw (at_start, at_end) (count_below-rises s (map f items))

    pub end_within : y ≤ length xs
    end_within = rw (at_end, is, ← length-map items f) (count_below-within (s + 1) (map f items))

    pub row_between : (ts : List (Transition V)) → map f items ≡ ts → AreInOrder (map f items) → map f (take (y - x) (drop x xs)) ≡ filter (λ t. t.from == s) ts
    row_between ts view order =
        rw (is, ← view, at_start, at_end)
        (sym (take-map f _ (drop _ items)) ∙ ap (take _) (sym (drop-map f _ items)) ∙ row_of_state s (map f items) order)

  -- the first transitions come from states below s, and those after them do not
  pub counted : {X : Type 0} (f : X → Transition V) (s at : ℕ) (xs : List X) → AreInOrder (map f xs) → at ≤ length xs
      → ((k : ℕ) (d : X) → k < at → (f (get_or xs k d)).from < s) → (at < length xs → (d : X) → s ≤ (f (get_or xs at d)).from) → count_below (map f xs) s ≡ at
  counted f s zero [] o w p e = refl
  counted f s (suc at) [] o w p e = absurd (omega arith)
  counted f s zero (x ∷ xs) o w p e =
      let here : s ≤ (f x).from = e (omega arith) x in
      count_below-none s (f x ∷ map f xs) (here, later s (f x).from (map f xs) here (from_order (f x) (map f xs) (sorted_head triple_order (f x) (map f xs) o)))
  counted f s (suc at) (x ∷ xs) o w p e =
      let below : (f x).from < s = p 0 x (omega arith) in
      let b : nat_lt (f x).from s ≡ true = grind (arith, common_steps) in
      rw b (ap (λ n. suc n)
      (counted f s at xs (sorted_tail triple_order (f x) (map f xs) o) (omega arith)
      (λ k d h. p (suc k) d (omega arith)) (λ h d. e (omega arith) d)))

  -- one more start
  pub starts-push : (ts : List (Transition V)) (old new : List ℕ) (n at : ℕ) → new ≡ old ++ at ∷ [] → length old ≡ n → ((s d : ℕ) → s < n → get_or old s d ≡ count_below ts s)
      → count_below ts n ≡ at → (length new ≡ n + 1) × ((s d : ℕ) → s < n + 1 → get_or new s d ≡ count_below ts s)
  starts-push ts old new n at is len places here =
      let places_more = below_more (λ s. (d : ℕ) → get_or new s d ≡ count_below ts s) n
      (λ s h d. let l : s < length old = omega (arith, len) in rw (is, get_or-append old (at ∷ []) d s l) (places s d h))
      (λ d. rw (is, ← len, get_or-append_seam old at [] d) (sym (rw (← len) at here))) in
      (rw is (omega (arith, length-append old (at ∷ []), len)), λ s d h. places_more s h d)
