-- Names in their order.
use Rattle.std.proofs.Common.{◌≡◌, ◌<◌, ◌≤◌, ◌+◌, ◌⊎◌, ◌↔◌, ℕ, zero, suc, Bool, true, false, ◌||◌, List, [], ◌∷◌, ◌++◌, length, map, take, drop, get_or, refl, ap, ap₂, sym, ◌∙◌, subst, inl, inr, arith, Bor}
use Rattle.std.specs.Global.{Vec}
use Rattle.std.specs.Prelude.{All, IsSorted, IsPermutation, if◌then◌else◌}
use Rattle.std.specs.Ordering.{is_lt, nat_cmp, ordering_then}
use Rattle.std.specs.Cmp.Lexicographic.{slice_cmp}
use Rattle.std.specs.List.{list_any, IsDistinct, AllByRecursion}
use Rattle.std.specs.Str.{bytes_eq}
use Rattle.std.specs.declared.cmp.Ordering.{Ordering}
use Rattle.std.specs.declared.cmp.Ordering.TheVariants.{Less, Equal, Greater}
use Rattle.std.proofs.lemmas.Bool.Decides.{nat_tests}
use Rattle.std.proofs.lemmas.List.{append-nil, append_assoc, map-append, take_more, length-map}
use Rattle.std.proofs.lemmas.List.Elements.{All-head, All-tail, All-cons, All-nil, All-append}
use Rattle.std.proofs.lemmas.Map.Keys.{IsDistinct-IsPermutation}
use Rattle.std.proofs.lemmas.List.Sorted.{IsPermutation-map, IsPermutation-sym, All-permutation, length_permutation}
use Rattle.std.proofs.lemmas.Slice.Eq.{bytes_eq-Decides}
use Rattle.vc_model.specs.Lists.{In, NoRepeat}
use Rattle.vc_reader.proofs.Additions.{in_front, in_back}
use Rattle.vc_reader.specs.Keys.{IsKeyOf, IsKeyed}
use Rattle.vc_lines.specs.Names.{name_order, order_by, AreOrdered, AreInOrder, with_name, with_names}

abbrev pub Keyed : Type 0
Keyed = ℕ × Vec ℕ × Bor (List ℕ)

-- names with keys are ordered by the keys
abbrev pub key_order : Keyed → Keyed → Ordering
key_order p q = ordering_then (ordering_then (nat_cmp p.0 q.0) (slice_cmp nat_cmp p.1.items q.1.items)) (slice_cmp nat_cmp p.2.now q.2.now)

lt_then : (o r : Ordering) → is_lt (ordering_then o r) ≡ false → is_lt o ≡ false
lt_then Less r h = h
lt_then Equal r h = refl
lt_then Greater r h = refl

less : (v w : ℕ) → v < w → nat_cmp v w ≡ Less
less v w h = grind (arith, nat_tests)

same_number : (v : ℕ) → nat_cmp v v ≡ Equal
same_number v = grind (arith, nat_tests)

-- the order of keys is that of names
agrees : (p q : Keyed) → IsKeyed p → IsKeyed q → is_lt (key_order p q) ≡ false → is_lt (name_order p.2.now q.2.now) ≡ false
agrees p q (inl (a, v, b)) (inl (c, w, d)) h =
    ap₂ (λ x y. is_lt (order_by x y p.2.now q.2.now)) a c ∙ ap₂ (λ x y. is_lt (nat_cmp x y)) (sym v) (sym w)
    ∙ lt_then (nat_cmp p.0 q.0) _ (lt_then (ordering_then (nat_cmp p.0 q.0) (slice_cmp nat_cmp p.1.items q.1.items)) (slice_cmp nat_cmp p.2.now q.2.now) h)
agrees p q (inl (a, v, b)) (inr (c, w, d)) h =
    let l : p.0 < q.0 = omega (arith, b, w) in
    let f = lt_then (nat_cmp p.0 q.0) _ (lt_then (ordering_then (nat_cmp p.0 q.0) (slice_cmp nat_cmp p.1.items q.1.items)) (slice_cmp nat_cmp p.2.now q.2.now) h) in
    let g : true ≡ false = sym (ap is_lt (less p.0 q.0 l)) ∙ f in
    absurd (cc)
agrees p q (inr (a, v, b)) (inl (c, w, d)) h = ap₂ (λ x y. is_lt (order_by x y p.2.now q.2.now)) a c
agrees p q (inr (a, v, b)) (inr (c, w, d)) h =
    ap₂ (λ x y. is_lt (order_by x y p.2.now q.2.now)) a c
    ∙ ap₂ (λ x y. is_lt (slice_cmp nat_cmp x y)) (sym b) (sym d)
    ∙ ap (λ o. is_lt (ordering_then o (slice_cmp nat_cmp p.1.items q.1.items))) (sym (ap₂ nat_cmp v w ∙ same_number 1000000000000000000))
    ∙ lt_then (ordering_then (nat_cmp p.0 q.0) (slice_cmp nat_cmp p.1.items q.1.items)) (slice_cmp nat_cmp p.2.now q.2.now) h

sorted_tail : (p : Keyed) (ps : List Keyed) → IsSorted key_order (p ∷ ps) → IsSorted key_order ps
sorted_tail p ps h k d low high =
    let e : (k + 1) + 1 ≡ suc (k + 1) = omega arith in
    let f : k + 1 ≡ suc k = omega arith in
    ap₂ (λ x y. is_lt (key_order x y)) (ap (λ n. get_or (p ∷ ps) n d) (sym e)) (ap (λ n. get_or (p ∷ ps) n d) (sym f)) ∙ h (k + 1) d (omega arith) (omega (arith, high))

ordered_items : (items : List Keyed) → IsSorted key_order items → All IsKeyed items → AreOrdered (map (λ p. p.2.now) items)
ordered_items [] h k = tt
ordered_items (p ∷ []) h k = tt
ordered_items (p ∷ q ∷ items) h k =
    let kp = All-head IsKeyed p (q ∷ items) k in
    let kt = All-tail IsKeyed p (q ∷ items) k in
    let kq = All-head IsKeyed q items kt in
    (agrees q p kq kp (h 0 p (omega arith) (omega arith)), ordered_items (q ∷ items) (sorted_tail p (q ∷ items) h) kt)

any_in : (a : List ℕ) (names : List (List ℕ)) → list_any (bytes_eq a) names ≡ true → In a names
any_in a [] h = absurd (cc)
any_in a (b ∷ names) h = go (bytes_eq a b) refl (λ k. any_in a names k) h
  where
    go : (t : Bool) → bytes_eq a b ≡ t → (list_any (bytes_eq a) names ≡ true → In a names) → t || list_any (bytes_eq a) names ≡ true → In a (b ∷ names)
    go true e r h = inl ((bytes_eq-Decides a b).0 e)
    go false e r h = inr (r h)

add_new : (acc : List (List ℕ)) (x : List ℕ) → (In x acc → ⊥) → with_name acc x ≡ acc ++ x ∷ []
add_new acc x n = go (list_any (bytes_eq x) acc) refl
  where
    go : (t : Bool) → list_any (bytes_eq x) acc ≡ t → (if t then acc else acc ++ x ∷ []) ≡ acc ++ x ∷ []
    go true e = absurd (n (any_in x acc e))
    go false e = refl

in_end : {X : Type 0} (x y : X) (xs : List X) → In x (xs ++ y ∷ []) → In x xs ⊎ (x ≡ y)
in_end x y [] (inl e) = inr e
in_end x y [] (inr h) = absurd h
in_end x y (z ∷ xs) (inl e) = inl (inl e)
in_end x y (z ∷ xs) (inr h) = go (in_end x y xs h)
  where
    go : In x xs ⊎ (x ≡ y) → In x (z ∷ xs) ⊎ (x ≡ y)
    go (inl i) = inl (inr i)
    go (inr e) = inr e

-- names that are all new
all_new : (acc xs : List (List ℕ)) → NoRepeat xs → ((x : List ℕ) → In x xs → In x acc → ⊥) → with_names acc xs ≡ acc ++ xs
all_new acc [] r n = sym (append-nil acc)
all_new acc (x ∷ xs) r n =
    ap (λ t. with_names t xs) (add_new acc x (n x (inl refl)))
    ∙ all_new (acc ++ x ∷ []) xs r.1 later
    ∙ append_assoc acc (x ∷ []) xs
  where
    later : (y : List ℕ) → In y xs → In y (acc ++ x ∷ []) → ⊥
    later y i j = go (in_end y x acc j)
      where
        go : In y acc ⊎ (y ≡ x) → ⊥
        go (inl k) = n y (inr i) k
        go (inr e) = r.0 (subst (λ z. In z xs) e i)

-- NoRepeat and its fellow of std
to_distinct : (xs : List (List ℕ)) → NoRepeat xs → IsDistinct bytes_eq xs
unfolding IsDistinct
to_distinct [] h = tt
to_distinct (x ∷ xs) h = (apart xs h.0, to_distinct xs h.1)
  where
    apart : (ys : List (List ℕ)) → (In x ys → ⊥) → AllByRecursion (λ y. bytes_eq x y ≡ false) ys
    apart [] n = tt
    apart (y ∷ ys) n = (go (bytes_eq x y) refl, apart ys (λ i. n (inr i)))
      where
        go : (t : Bool) → bytes_eq x y ≡ t → t ≡ false
        go true e = absurd (n (inl ((bytes_eq-Decides x y).0 e)))
        go false e = refl

from_distinct : (xs : List (List ℕ)) → IsDistinct bytes_eq xs → NoRepeat xs
unfolding IsDistinct
from_distinct [] h = tt
from_distinct (x ∷ xs) h = (apart xs h.0, from_distinct xs h.1)
  where
    apart : (ys : List (List ℕ)) → AllByRecursion (λ y. bytes_eq x y ≡ false) ys → In x ys → ⊥
    apart [] h i = i
    apart (y ∷ ys) h (inl e) = let t = (bytes_eq-Decides x y).1 e in let f = h.0 in absurd (cc)
    apart (y ∷ ys) h (inr i) = apart ys h.1 i

flips : (x y : List ℕ) → bytes_eq x y ≡ bytes_eq y x
flips x y = go (bytes_eq x y) (bytes_eq y x) refl refl
  where
    go : (s t : Bool) → bytes_eq x y ≡ s → bytes_eq y x ≡ t → s ≡ t
    go true true e f = refl
    go false false e f = refl
    go true false e f = let g = (bytes_eq-Decides y x).1 (sym ((bytes_eq-Decides x y).0 e)) in absurd (cc)
    go false true e f = let g = (bytes_eq-Decides x y).1 (sym ((bytes_eq-Decides y x).0 f)) in absurd (cc)

all_at : {X : Type 0} (P : X → Type 0) (a : X) (xs : List X) → All P xs → In a xs → P a
all_at P a [] h i = absurd i
all_at P a (x ∷ xs) h (inl e) = subst P (sym e) (All-head P x xs h)
all_at P a (x ∷ xs) h (inr i) = all_at P a xs (All-tail P x xs h) i

all_in : (xs ys : List (List ℕ)) → ((x : List ℕ) → In x xs → In x ys) → All (λ x. In x ys) xs
all_in [] ys h = All-nil (λ x. In x ys)
all_in (x ∷ xs) ys h = All-cons (λ z. In z ys) x xs (h x (inl refl)) (all_in xs ys (λ z i. h z (inr i)))

sorted_once : (found : List (List ℕ)) (before items : List Keyed) → map (λ p. p.2.now) before ≡ found → IsPermutation before items → NoRepeat found → NoRepeat (map (λ p. p.2.now) items)
sorted_once found before items e p r =
    let q : IsPermutation found (map (λ (x : Keyed). x.2.now) items) = subst (λ xs. IsPermutation xs (map (λ (x : Keyed). x.2.now) items)) e (IsPermutation-map (λ (x : Keyed). x.2.now) before items p) in
    from_distinct _ (IsDistinct-IsPermutation bytes_eq flips found (map (λ (x : Keyed). x.2.now) items) q (to_distinct found r))

-- as many names as were found
pub sorted_count : (found names : List (List ℕ)) (before items : List Keyed) → map (λ p. p.2.now) before ≡ found → IsPermutation before items → NoRepeat found
    → names ≡ with_names [] (map (λ p. p.2.now) items) → length names ≡ length found
sorted_count found names before items e p r n =
    ap length (n ∙ all_new [] (map (λ (x : Keyed). x.2.now) items) (sorted_once found before items e p r) (λ x i j. j))
    ∙ length-map items (λ (x : Keyed). x.2.now) ∙ length_permutation before items p ∙ sym (length-map before (λ (x : Keyed). x.2.now)) ∙ ap length e

-- names that were sorted by their keys are in order
pub sorted_names : (found names : List (List ℕ)) (before items : List Keyed) → map (λ p. p.2.now) before ≡ found → All IsKeyed before → IsPermutation before items → IsSorted key_order items → NoRepeat found
    → names ≡ with_names [] (map (λ p. p.2.now) items) → AreInOrder found names
sorted_names found names before items e k p s r n =
    let q : IsPermutation found (map (λ (x : Keyed). x.2.now) items) = subst (λ xs. IsPermutation xs (map (λ (x : Keyed). x.2.now) items)) e (IsPermutation-map (λ (x : Keyed). x.2.now) before items p) in
    let once : NoRepeat (map (λ (x : Keyed). x.2.now) items) = from_distinct _ (IsDistinct-IsPermutation bytes_eq flips found (map (λ (x : Keyed). x.2.now) items) q (to_distinct found r)) in
    let same : names ≡ map (λ (x : Keyed). x.2.now) items = n ∙ all_new [] (map (λ (x : Keyed). x.2.now) items) once (λ x i j. j) in
    record {
      once = subst NoRepeat (sym same) once;
      order = subst AreOrdered (sym same) (ordered_items items s (All-permutation IsKeyed before items p k));
      named = λ a. (
        (λ i. all_at (λ x. In x found) a (map (λ (x : Keyed). x.2.now) items) (All-permutation (λ x. In x found) found (map (λ (x : Keyed). x.2.now) items) q (all_in found found (λ x j. j))) (subst (In a) same i)),
        (λ i. subst (In a) (sym same) (all_at (λ x. In x (map (λ (x : Keyed). x.2.now) items)) a found (All-permutation (λ x. In x (map (λ (x : Keyed). x.2.now) items)) (map (λ (x : Keyed). x.2.now) items) found (IsPermutation-sym found (map (λ (x : Keyed). x.2.now) items) q) (all_in (map (λ (x : Keyed). x.2.now) items) (map (λ (x : Keyed). x.2.now) items) (λ x j. j))) i)),
      );
    }

-- one name more with its key
pub keyed_more : (old new : List Keyed) (found : List (Bor (List ℕ))) (i rank : ℕ) (d : Bor (List ℕ)) (text : Vec ℕ) → i < length found → new ≡ old ++ (rank, text, get_or found i d) ∷ []
    → map (λ p. p.2.now) old ≡ map (λ b. b.now) (take i found) → All IsKeyed old → IsKeyOf rank text (get_or found i d).now → (map (λ p. p.2.now) new ≡ map (λ b. b.now) (take (i + 1) found)) × All IsKeyed new
keyed_more old new found i rank d text h e m k q =
    let t : take (i + 1) found ≡ take i found ++ get_or found i d ∷ [] = take_more found i d h in (
      ap (map (λ (p : Keyed). p.2.now)) e ∙ map-append (λ (p : Keyed). p.2.now) old ((rank, text, get_or found i d) ∷ []) ∙ ap (λ xs. xs ++ (get_or found i d).now ∷ []) m
          ∙ sym (ap (map (λ (b : Bor (List ℕ)). b.now)) t ∙ map-append (λ (b : Bor (List ℕ)). b.now) (take i found) (get_or found i d ∷ [])),
      subst (All IsKeyed) (sym e) (All-append IsKeyed old ((rank, text, get_or found i d) ∷ []) k (All-cons IsKeyed (rank, text, get_or found i d) [] q (All-nil IsKeyed))),
    )

drop_all : {X : Type 0} (xs : List X) (i : ℕ) → length xs ≤ i → drop i xs ≡ []
drop_all [] zero h = refl
drop_all [] (suc i) h = refl
drop_all (x ∷ xs) zero h = absurd (omega arith)
drop_all (x ∷ xs) (suc i) h = drop_all xs i (omega arith)

-- all names are added
pub all_added : (names : List (List ℕ)) (items xs : List Keyed) (i : ℕ) → length items ≤ i → items ≡ xs → with_names names (map (λ p. p.2.now) (drop i items)) ≡ with_names [] (map (λ p. p.2.now) items)
    → names ≡ with_names [] (map (λ p. p.2.now) xs)
all_added names items xs i h e w =
    ap (λ (ys : List Keyed). with_names names (map (λ (p : Keyed). p.2.now) ys)) (sym (drop_all items i h)) ∙ w ∙ ap (λ (ys : List Keyed). with_names [] (map (λ (p : Keyed). p.2.now) ys)) e

with_name_in : (names : List (List ℕ)) (x a : List ℕ) → In a (with_name names x) ↔ (In a names ⊎ (a ≡ x))
with_name_in names x a = (there (list_any (bytes_eq x) names), back (list_any (bytes_eq x) names) refl)
  where
    there : (t : Bool) → In a (if t then names else names ++ x ∷ []) → In a names ⊎ (a ≡ x)
    there true i = inl i
    there false i = in_end a x names i

    back : (t : Bool) → list_any (bytes_eq x) names ≡ t → In a names ⊎ (a ≡ x) → In a (if t then names else names ++ x ∷ [])
    back true e (inl i) = i
    back true e (inr f) = subst (λ z. In z names) (sym f) (any_in x names e)
    back false e (inl i) = in_front a names (x ∷ []) i
    back false e (inr f) = in_back a names (x ∷ []) (inl f)

-- what is among the names after more were added
pub with_names_in : (names xs : List (List ℕ)) (a : List ℕ) → In a (with_names names xs) ↔ (In a names ⊎ In a xs)
with_names_in names [] a = ((λ i. inl i), none)
  where
    none : In a names ⊎ In a [] → In a names
    none (inl i) = i
    none (inr h) = absurd h
with_names_in names (x ∷ xs) a =
    let r = with_names_in (with_name names x) xs a in
    ((λ i. there (r.0 i)), (λ i. r.1 (back i)))
  where
    there : In a (with_name names x) ⊎ In a xs → In a names ⊎ In a (x ∷ xs)
    there (inl i) = split ((with_name_in names x a).0 i)
      where
        split : In a names ⊎ (a ≡ x) → In a names ⊎ In a (x ∷ xs)
        split (inl j) = inl j
        split (inr e) = inr (inl e)
    there (inr i) = inr (inr i)

    back : In a names ⊎ In a (x ∷ xs) → In a (with_name names x) ⊎ In a xs
    back (inl i) = inl ((with_name_in names x a).1 (inl i))
    back (inr (inl e)) = inl ((with_name_in names x a).1 (inr e))
    back (inr (inr i)) = inr i

once_end : (xs : List (List ℕ)) (x : List ℕ) → NoRepeat xs → (In x xs → ⊥) → NoRepeat (xs ++ x ∷ [])
once_end [] x r n = ((λ i. i), tt)
once_end (y ∷ xs) x r n = ((λ i. go (in_end y x xs i)), once_end xs x r.1 (λ i. n (inr i)))
  where
    go : In y xs ⊎ (y ≡ x) → ⊥
    go (inl i) = r.0 i
    go (inr e) = n (inl (sym e))

none_in : (a : List ℕ) (names : List (List ℕ)) → list_any (bytes_eq a) names ≡ false → In a names → ⊥
none_in a [] h i = i
none_in a (b ∷ names) h (inl e) = let t = (bytes_eq-Decides a b).1 e in let f : true ≡ false = ap (λ x. x || list_any (bytes_eq a) names) (sym t) ∙ h in absurd (cc)
none_in a (b ∷ names) h (inr i) = none_in a names (later (bytes_eq a b) h) i
  where
    later : (t : Bool) → t || list_any (bytes_eq a) names ≡ false → list_any (bytes_eq a) names ≡ false
    later true k = absurd (cc)
    later false k = k

-- names stay different
pub with_names_once : (names xs : List (List ℕ)) → NoRepeat names → NoRepeat (with_names names xs)
with_names_once names [] r = r
with_names_once names (x ∷ xs) r = with_names_once (with_name names x) xs (go (list_any (bytes_eq x) names) refl)
  where
    go : (t : Bool) → list_any (bytes_eq x) names ≡ t → NoRepeat (if t then names else names ++ x ∷ [])
    go true e = r
    go false e = once_end names x r (none_in x names e)
