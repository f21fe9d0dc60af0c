-- The structure of a tree stands for the series of the tree.
use Rattle.std.proofs.Common.{◌≡◌, ℕ, zero, suc, List, [], ◌∷◌, ◌++◌, map, cond, Bool, true, false, refl, sym, ap, ap₂, ◌∙◌, subst, length, ◌+◌, ◌*◌, ◌-◌, ◌<◌, ◌≤◌, ◌/◌, ◌%◌, arith, Option, Some, None}
use Rattle.std.specs.List.{flat_map}
use Rattle.std.proofs.Math.Dec.{ltb}
use Rattle.std.proofs.lemmas.Bool.{ltb-true, lt-ltb, le-ltb, false≢true}
use Rattle.std.proofs.lemmas.Nat.{div-mul-add, mod-mul-add}
use Rattle.std.proofs.lemmas.List.{length-map}
use Rattle.vc_model.specs.WeightSet.{WeightSet, SemiringLaws}
use Rattle.vc_model.specs.Lists.{In}
use Rattle.vc_model.specs.Automata.{at_rest}
use Rattle.vc_model.specs.Rearranged.{zero_plus, plus_zero, times_zero, zero_times, plus-plus, one_times}
use Rattle.vc_model.specs.Choices.{cond-plus}
use Rattle.vc_model.specs.SumLaws.{sum_zero}
use Rattle.vc_model.specs.Words.{Word, cut, is_empty, size, IsLabel, IsLetter}
use Rattle.vc_model.specs.WordLaws.{join-cut, size-join, size-is_empty}
use Rattle.vc_model.specs.Series.{Series, zero_series, one_series, plus_series, product_series, both_series, shuffle_series, star_series, star_or_zero, weight_series}
use Rattle.vc_model.specs.Items.{Item, brought, IsGiven, HaveLabels}
use Rattle.vc_terms.specs.ItemLists.{mapped, scaled_items, met_items, grouped_items}
use Rattle.vc_terms.specs.Terms.{Term, Terms, NoTerms, MoreTerms, coefficient_of, sum_coefficient, product_coefficient, Zero, One, Atom, Sum, Product, Star, Weight, Both, Shuffle, HasTapes, HaveTapes}
use Rattle.vc_terms.specs.Expansions.{AtomsAre, AllAtomsAre, JoinsLetters, AllJoinLetters}
use Rattle.vc_standard.specs.Structures.{Moves, Standard, Position, same_place, size_of, bare, labelled, weighted, beside, chained, copied, moved_position, followed, moved, again, met, mixed, mixed_row, mixed_rows, standard_of, beside_all, chained_all, looped, conjoined, shuffled}
use Rattle.vc_standard.specs.Within.{Are, AreAll, IsTo, IsWithin}
use Rattle.vc_standard.specs.Laws.{PlaceLaws}
use Rattle.vc_standard.specs.Given.{Hold, IsFor}
use Rattle.vc_standard.proofs.Sizes.{length-row, length-pairs}
use Rattle.vc_standard.proofs.Numbers.{pair_below}
use Rattle.vc_standard.proofs.MoveLaws.{are-in, are-weaker, all-weaker, taken-same, taken-grouped, taken-met}
use Rattle.vc_standard.proofs.WithinLaws.{within-met, within-mixed, within-standard, within-beside, within-chained}

module _ {V : Type 0} (tapes : ℕ) where
  mutual
    pub tapes_atoms : (t : Term V) → HasTapes tapes t → AtomsAre (IsLabel tapes) t
    tapes_atoms Zero h = tt
    tapes_atoms One h = tt
    tapes_atoms (Atom a) h = h
    tapes_atoms (Sum ts) h = tapes_all_atoms ts h
    tapes_atoms (Product ts) h = tapes_all_atoms ts h
    tapes_atoms (Star t) h = tapes_atoms t h
    tapes_atoms (Weight k t) h = tapes_atoms t h
    tapes_atoms (Both t u) h = (tapes_atoms t h.0, tapes_atoms u h.1)
    tapes_atoms (Shuffle t u) h = (tapes_atoms t h.1, tapes_atoms u h.2)

    tapes_all_atoms : (ts : Terms V) → HaveTapes tapes ts → AllAtomsAre (IsLabel tapes) ts
    tapes_all_atoms NoTerms h = tt
    tapes_all_atoms (MoreTerms t ts) h = (tapes_atoms t h.0, tapes_all_atoms ts h.1)

cut_empty : (a w : Word) → is_empty w ≡ true → (size a ≡ 0 → ⊥) → cut a w ≡ None
cut_empty a w e h = go (cut a w) refl
  where
    go : (r : Option Word) → cut a w ≡ r → r ≡ None
    go None q = refl
    go (Some v) q =
        let j = join-cut a w v q in
        let s = size-join a v (j.2 ∙ sym j.1) in
        let z : size w ≡ 0 = size-is_empty w e in
        let t : size a + size v ≡ size w = sym s ∙ ap (λ x. size x) j.0 in
        absurd (h (omega (arith, t, z)))

if_so : {X : Type 0} (b : Bool) (x y : X) → b ≡ true → cond b x y ≡ x
if_so b x y e = ap (λ c. cond c x y) e

if_not : {X : Type 0} (b : Bool) (x y : X) → b ≡ false → cond b x y ≡ y
if_not b x y e = ap (λ c. cond c x y) e

-- the series of a state behind the start, which has the number 0
abbrev pub with_start : {V : Type 0} → Series V → (ℕ → Series V) → ℕ → Series V
with_start f X zero = f
with_start f X (suc i) = X i

-- the series of the first n places, and behind them others
abbrev split : {V : Type 0} → ℕ → (ℕ → Series V) → (ℕ → Series V) → ℕ → Series V
split n X Y i = cond (ltb i n) (X i) (Y (i - n))

module _ {V : Type 0} where
  split_left : (n : ℕ) (X Y : ℕ → Series V) (i : ℕ) → i < n → split n X Y i ≡ X i
  split_left n X Y i h = if_so (ltb i n) (X i) (Y (i - n)) (lt-ltb i n h)

  split_right : (n : ℕ) (X Y : ℕ → Series V) (i : ℕ) → split n X Y (n + i) ≡ Y i
  split_right n X Y i = if_not (ltb (n + i) n) (X (n + i)) (Y (n + i - n)) (le-ltb (n + i) n (omega arith)) ∙ ap Y (omega arith)

module _ {V : Type 0} {R : WeightSet V} (L : SemiringLaws R) (equal : V → V → Bool) (I : PlaceLaws R equal) (tapes : ℕ) where
  abbrev Given : Series V → V → (ℕ → Series V) → Moves V → Type 0
  Given f c X xs = IsGiven R tapes f c X xs

  abbrev H : (ℕ → Series V) → Word → Word → ℕ → V
  H X w a i = at_rest R.zero (X i) (cut a w)

  abbrev To : ℕ → Word → ℕ → Type 0
  To n a i = IsTo (IsLabel tapes) n a i

  labels : (n : ℕ) (xs : Moves V) → Are (To n) xs → HaveLabels tapes xs
  labels n xs h e i = (are-in (To n) xs h e i).0

  agree : (n : ℕ) (X Y : ℕ → Series V) → ((i : ℕ) → i < n → X i ≡ Y i) → (w : Word) (xs : Moves V) → Are (To n) xs → brought R X w xs ≡ brought R Y w xs
  agree n X Y f w xs h = taken-same L (H X w) (H Y w) xs (λ e i. ap (λ x. at_rest R.zero x (cut e.label w)) (f e.to (are-in (To n) xs h e i).1))

  image : (n : ℕ) (X Z : ℕ → Series V) (φ : ℕ → ℕ) → ((i : ℕ) → i < n → X i ≡ Z (φ i)) → (w : Word) (xs : Moves V) → Are (To n) xs → brought R X w xs ≡ brought R Z w (mapped φ xs)
  image n X Z φ f w xs h = agree n X (λ i. Z (φ i)) f w xs h ∙ sym (I.led (H Z w) φ xs)

  given_agree : (n : ℕ) (X Z : ℕ → Series V) → ((i : ℕ) → i < n → X i ≡ Z i) → (f g : Series V) (c : V) (xs : Moves V) → f ≡ g → Are (To n) xs → Given f c X xs → Given g c Z xs
  given_agree n X Z e f g c xs q h F w l = ap (λ x. x w) (sym q) ∙ F w l ∙ ap (R.plus (cond (is_empty w) c R.zero)) (agree n X Z e w xs h)

  given_image : (n : ℕ) (X Z : ℕ → Series V) (φ : ℕ → ℕ) → ((i : ℕ) → i < n → X i ≡ Z (φ i)) → (f g : Series V) (c : V) (xs : Moves V) → f ≡ g → Are (To n) xs → Given f c X xs → Given g c Z (mapped φ xs)
  given_image n X Z φ e f g c xs q h F w l = ap (λ x. x w) (sym q) ∙ F w l ∙ ap (R.plus (cond (is_empty w) c R.zero)) (image n X Z φ e w xs h)

  given_same : (f g : Series V) (c : V) (X : ℕ → Series V) (xs : Moves V) → f ≡ g → Given f c X xs → Given g c X xs
  given_same f g c X xs q F w l = ap (λ x. x w) (sym q) ∙ F w l

  brought-empty : (n : ℕ) (X : ℕ → Series V) (xs : Moves V) → Are (To n) xs → (w : Word) → is_empty w ≡ true → brought R X w xs ≡ R.zero
  brought-empty n X xs h w e = sum_zero L _ xs (λ m i. ap (λ r. R.times m.weight (at_rest R.zero (X m.to) r)) (cut_empty m.label w e (labels n xs h m i).1) ∙ times_zero L m.weight)

  given_full : (f : Series V) (c : V) (X : ℕ → Series V) (xs : Moves V) → Given f c X xs → (w : Word) → length w ≡ tapes → is_empty w ≡ false → f w ≡ brought R X w xs
  given_full f c X xs F w l e = F w l ∙ ap (λ x. R.plus x (brought R X w xs)) (if_not (is_empty w) c R.zero e) ∙ zero_plus L _

  given_empty : (n : ℕ) (f : Series V) (c : V) (X : ℕ → Series V) (xs : Moves V) → Are (To n) xs → Given f c X xs → (w : Word) → length w ≡ tapes → is_empty w ≡ true → f w ≡ c
  given_empty n f c X xs h F w l e = F w l ∙ ap₂ R.plus (if_so (is_empty w) c R.zero e) (brought-empty n X xs h w e) ∙ plus_zero L c

  at_all : (n : ℕ) (f : Series V) (c : V) (X : ℕ → Series V) (xs : Moves V) → Are (To n) xs → ((w : Word) → length w ≡ tapes → is_empty w ≡ true → f w ≡ c) → ((w : Word) → length w ≡ tapes → is_empty w ≡ false → f w ≡ brought R X w xs) → Given f c X xs
  at_all n f c X xs h p q w l = go (is_empty w) refl
    where
      go : (b : Bool) → is_empty w ≡ b → f w ≡ R.plus (cond (is_empty w) c R.zero) (brought R X w xs)
      go true e = p w l e ∙ sym (ap₂ R.plus (if_so (is_empty w) c R.zero e) (brought-empty n X xs h w e) ∙ plus_zero L c)
      go false e = q w l e ∙ sym (ap (λ x. R.plus x (brought R X w xs)) (if_not (is_empty w) c R.zero e) ∙ zero_plus L _)

  abbrev Holds : (ℕ → Series V) → (ℕ → Series V) → ℕ → List (Position V) → Type 0
  Holds W X i ps = Hold R tapes W X i ps

  hold-append : (W X : ℕ → Series V) (i k : ℕ) (ps qs : List (Position V)) → k ≡ i + length ps → Holds W X i ps → Holds W X k qs → Holds W X i (ps ++ qs)
  hold-append W X i k [] qs e h g = subst (λ n. Holds W X n qs) (e ∙ none i) g
    where
      none : (i : ℕ) → i + 0 ≡ i
      none i = omega arith
  hold-append W X i k (p ∷ ps) qs e h g = (h.0, hold-append W X (suc i) k ps qs (omega (arith, e)) h.1 g)

  -- positions at their places
  hold-left : (n : ℕ) (X Z : ℕ → Series V) → ((i : ℕ) → i < n → X i ≡ Z i) → (i : ℕ) (ps : List (Position V)) → i + length ps ≤ n → AreAll (To n) ps → Holds X X i ps → Holds Z Z i ps
  hold-left n X Z e i [] l a h = tt
  hold-left n X Z e i (p ∷ ps) l a h =
      (given_agree n X Z e (X i) (Z i) p.final p.moves (e i (omega (arith, l))) a.0 h.0, hold-left n X Z e (suc i) ps (omega (arith, l)) a.1 h.1)

  -- positions behind n others
  hold-right : (n m : ℕ) (Y Z : ℕ → Series V) → ((i : ℕ) → i < m → Y i ≡ Z (n + i)) → (i : ℕ) (qs : List (Position V)) → i + length qs ≤ m → AreAll (To m) qs → Holds Y Y i qs → Holds Z Z (n + i) (map (moved_position n) qs)
  hold-right n m Y Z e i [] l a h = tt
  hold-right n m Y Z e i (q ∷ qs) l a h = (
    given_image m Y Z (λ j. n + j) e (Y i) (Z (n + i)) q.final q.moves (e i (omega (arith, l))) a.0 h.0,
    subst (λ k. Holds Z Z k (map (moved_position n) qs)) (next n i) (hold-right n m Y Z e (suc i) qs (omega (arith, l)) a.1 h.1),
  )
    where
      next : (n i : ℕ) → n + suc i ≡ suc (n + i)
      next n i = omega arith

  abbrev For : Series V → Standard V → Type 0
  For f A = IsFor R tapes f A

  abbrev In_place : Standard V → Type 0
  In_place A = IsWithin (IsLabel tapes) A

  for_same : (f g : Series V) (A : Standard V) → ((w : Word) → length w ≡ tapes → g w ≡ f w) → For f A → For g A
  for_same f g A e F = record { series = F.series; start = λ w l. e w l ∙ F.start w l; each = F.each }

  -- side by side
  for-beside : (f g : Series V) (A B : Standard V) → In_place A → In_place B → For f A → For g B → For (plus_series R f g) (beside R A B)
  for-beside f g A B a b F G =
      let n = size_of A in
      let m = size_of B in
      let Z = split n F.series G.series in
      let el : (i : ℕ) → i < n → F.series i ≡ Z i = λ i h. sym (split_left n F.series G.series i h) in
      let er : (i : ℕ) → i < m → G.series i ≡ Z (n + i) = λ i h. sym (split_right n F.series G.series i) in
      record {
        series = Z;
        start = λ w l.
            ap₂ R.plus (given_agree n F.series Z el f f A.start.final A.start.moves refl a.0 F.start w l) (given_image m G.series Z (λ j. n + j) er g g B.start.final B.start.moves refl b.0 G.start w l)
            ∙ plus-plus L (cond (is_empty w) A.start.final R.zero) (brought R Z w A.start.moves) (cond (is_empty w) B.start.final R.zero) (brought R Z w (moved n B.start.moves))
            ∙ ap₂ R.plus (sym (cond-plus L (is_empty w) A.start.final B.start.final)) (sym (I.joined (H Z w) A.start.moves (moved n B.start.moves)));
        each = hold-append Z Z 0 (n + 0) A.positions (map (moved_position n) B.positions) (omega arith) (hold-left n F.series Z el 0 A.positions (omega arith) a.1 F.each) (hold-right n m G.series Z er 0 B.positions (omega arith) b.1 G.each);
      }

  -- one before the other
  given-followed : (n m : ℕ) (X Y Z : ℕ → Series V) (f g : Series V) (t d : V) (xs ys : Moves V)
      → ((i : ℕ) → i < n → product_series R (X i) g ≡ Z i) → ((i : ℕ) → i < m → Y i ≡ Z (n + i)) → Are (To n) xs → Are (To m) ys
      → Given f t X xs → Given g d Y ys → Given (product_series R f g) (R.times t d) Z (xs ++ copied R equal t (moved n ys))
  given-followed n m X Y Z f g t d xs ys el er a b F G w l =
      I.product tapes f g t d X Y xs ys F (labels n xs a) G w l
      ∙ ap (R.plus (cond (is_empty w) (R.times t d) R.zero))
      (ap₂ R.plus (agree n (λ i. product_series R (X i) g) Z el w xs a) (ap (R.times t) (image m Y Z (λ i. n + i) er w ys b) ∙ sym (I.unless_zero (H Z w) t (moved n ys)))
      ∙ sym (I.joined (H Z w) xs (copied R equal t (moved n ys))))

  hold-followed : (n m : ℕ) (X Y Z : ℕ → Series V) (g : Series V) (d : V) (ys : Moves V)
      → ((i : ℕ) → i < n → product_series R (X i) g ≡ Z i) → ((i : ℕ) → i < m → Y i ≡ Z (n + i)) → Are (To m) ys → Given g d Y ys
      → (i : ℕ) (ps : List (Position V)) → i + length ps ≤ n → AreAll (To n) ps → Holds X X i ps → Holds Z Z i (map (followed R equal (moved n ys) d) ps)
  hold-followed n m X Y Z g d ys el er b G i [] l a h = tt
  hold-followed n m X Y Z g d ys el er b G i (p ∷ ps) l a h = (
    given_same (product_series R (X i) g) (Z i) (R.times p.final d) Z (p.moves ++ copied R equal p.final (moved n ys)) (el i (omega (arith, l)))
        (given-followed n m X Y Z (X i) g p.final d p.moves ys el er a.0 b h.0 G),
    hold-followed n m X Y Z g d ys el er b G (suc i) ps (omega (arith, l)) a.1 h.1,
  )

  for-chained : (f g : Series V) (A B : Standard V) → In_place A → In_place B → For f A → For g B → For (product_series R f g) (chained R equal A B)
  for-chained f g A B a b F G =
      let n = size_of A in
      let m = size_of B in
      let X = F.series in
      let Y = G.series in
      let XG : ℕ → Series V = λ i. product_series R (X i) g in
      let Z = split n XG Y in
      let el : (i : ℕ) → i < n → product_series R (X i) g ≡ Z i = λ i h. sym (split_left n XG Y i h) in
      let er : (i : ℕ) → i < m → Y i ≡ Z (n + i) = λ i h. sym (split_right n XG Y i) in
      let q = length-map A.positions (followed R equal (moved n B.start.moves) B.start.final) in
      record {
        series = Z;
        start = given-followed n m X Y Z f g A.start.final B.start.final A.start.moves B.start.moves el er a.0 b.0 F.start G.start;
        each = hold-append Z Z 0 (n + 0) (map (followed R equal (moved n B.start.moves) B.start.final) A.positions) (map (moved_position n) B.positions) (omega (arith, q))
            (hold-followed n m X Y Z g B.start.final B.start.moves el er b.0 G.start 0 A.positions (omega arith) a.1 F.each) (hold-right n m Y Z er 0 B.positions (omega arith) b.1 G.each);
      }

  -- stars
  given-again : (n : ℕ) (X : ℕ → Series V) (S f : Series V) (t h : V) (xs ys : Moves V) → Are (To n) xs → Given f t X xs → Given S h (λ i. product_series R (X i) S) ys
      → Given (product_series R f S) (R.times t h) (λ i. product_series R (X i) S) (grouped_items R same_place xs (copied R equal t ys))
  given-again n X S f t h xs ys a F G w l =
      I.product tapes f S t h X (λ i. product_series R (X i) S) xs ys F (labels n xs a) G w l
      ∙ ap (R.plus (cond (is_empty w) (R.times t h) R.zero))
      (ap (R.plus (brought R (λ i. product_series R (X i) S) w xs)) (sym (I.unless_zero (H (λ i. product_series R (X i) S) w) t ys))
      ∙ sym (taken-grouped L (H (λ i. product_series R (X i) S) w) xs (copied R equal t ys)))

  hold-again : (n : ℕ) (X : ℕ → Series V) (S : Series V) (h : V) (ys : Moves V) → Given S h (λ i. product_series R (X i) S) ys
      → (i : ℕ) (ps : List (Position V)) → AreAll (To n) ps → Holds X X i ps → Holds (λ j. product_series R (X j) S) (λ j. product_series R (X j) S) i (map (again R equal ys h) ps)
  hold-again n X S h ys G i [] a k = tt
  hold-again n X S h ys G i (p ∷ ps) a k = (given-again n X S (X i) p.final h p.moves ys a.0 k.0 G, hold-again n X S h ys G (suc i) ps a.1 k.1)

  for-looped : (f : Series V) (A : Standard V) → In_place A → For f A → For (star_series R f) (looped R equal (star_or_zero R A.start.final) A)
  for-looped f A a F =
      let S = star_series R f in
      let h = star_or_zero R A.start.final in
      let Z : ℕ → Series V = λ i. product_series R (F.series i) S in
      let G : Given S h Z (scaled_items R h A.start.moves) = λ w l.
      I.star tapes f A.start.final F.series A.start.moves F.start (labels (size_of A) A.start.moves a.0) w l
      ∙ ap (R.plus (cond (is_empty w) h R.zero)) (sym (I.multiplied (H Z w) h A.start.moves)) in
      record { series = Z; start = G; each = hold-again (size_of A) F.series S h (scaled_items R h A.start.moves) G 0 A.positions a.1 F.each }

  for-weighted : (k : V) (f : Series V) (A : Standard V) → For f A → For (weight_series R k f) (weighted R k A)
  for-weighted k f A F =
      record {
        series = F.series;
        start = λ w l. I.multiple tapes k f A.start.final F.series A.start.moves F.start w l ∙ ap (R.plus (cond (is_empty w) (R.times k A.start.final) R.zero)) (sym (I.multiplied (H F.series w) k A.start.moves));
        each = F.each;
      }

  -- conjunctions, where pairs that are none lead to a place behind all
  given-met : (n m s : ℕ) (X Y Z : ℕ → Series V) (f g : Series V) (c d : V) (xs ys : Moves V) → tapes ≡ 1 → ((i j : ℕ) → i < n → j < m → Z (i * m + j) ≡ both_series R (X i) (Y j))
      → Are (To n) xs → Are (To m) ys → Are (To s) (met_items R (λ i j. i * m + j) xs ys) → ((e : Item V ℕ) → In e xs → IsLetter e.label) → ((e : Item V ℕ) → In e ys → IsLetter e.label)
      → Given f c X xs → Given g d Y ys → Given (both_series R f g) (R.times c d) Z (met_items R (λ i j. i * m + j) xs ys)
  given-met n m s X Y Z f g c d xs ys o z a b ab la lb F G =
      at_all s (both_series R f g) (R.times c d) Z (met_items R (λ i j. i * m + j) xs ys) ab
      (λ w l e. ap₂ R.times (given_empty n f c X xs a F w l e) (given_empty m g d Y ys b G w l e))
      (λ w l e.
      ap₂ R.times (given_full f c X xs F w l e ∙ agree n X X' (λ i h. sym (if_so (ltb i n) (X i) (zero_series R) (lt-ltb i n h))) w xs a)
      (given_full g d Y ys G w l e ∙ agree m Y Y' (λ j h. sym (if_so (ltb j m) (Y j) (zero_series R) (lt-ltb j m h))) w ys b)
      ∙ I.both pair X' Y' W (λ i j v. pairs i j v (ltb i n) (ltb j m) refl refl) xs ys la lb w (l ∙ o)
      ∙ taken-met L pair (λ i j. i * m + j) (H W w) (H Z w) xs ys
      (λ p q i j. ap (λ x. at_rest R.zero x (cut p.label w)) (inside p.to q.to (are-in (To n) xs a p i).1 (are-in (To m) ys b q j).1)))
    where
      X' : ℕ → Series V
      X' i = cond (ltb i n) (X i) (zero_series R)

      Y' : ℕ → Series V
      Y' j = cond (ltb j m) (Y j) (zero_series R)

      pair : ℕ → ℕ → ℕ
      pair i j = cond (ltb i n) (cond (ltb j m) (i * m + j) (n * m)) (n * m)

      W : ℕ → Series V
      W k = cond (ltb k (n * m)) (Z k) (zero_series R)

      inside : (i j : ℕ) → i < n → j < m → W (pair i j) ≡ Z (i * m + j)
      inside i j h k =
          ap W (if_so (ltb i n) (cond (ltb j m) (i * m + j) (n * m)) (n * m) (lt-ltb i n h) ∙ if_so (ltb j m) (i * m + j) (n * m) (lt-ltb j m k))
          ∙ if_so (ltb (i * m + j) (n * m)) (Z (i * m + j)) (zero_series R) (lt-ltb (i * m + j) (n * m) (pair_below i n j m h k))

      outside : (v : Word) → W (n * m) v ≡ R.zero
      outside v = ap (λ x. x v) (if_not (ltb (n * m) (n * m)) (Z (n * m)) (zero_series R) (le-ltb (n * m) (n * m) (omega arith)))

      pairs : (i j : ℕ) (v : Word) (p q : Bool) → ltb i n ≡ p → ltb j m ≡ q → W (pair i j) v ≡ R.times (X' i v) (Y' j v)
      pairs i j v true true p q =
          ap (λ x. x v) (inside i j (ltb-true i n p) (ltb-true j m q) ∙ z i j (ltb-true i n p) (ltb-true j m q))
          ∙ sym (ap₂ (λ x y. R.times (x v) (y v)) (if_so (ltb i n) (X i) (zero_series R) p) (if_so (ltb j m) (Y j) (zero_series R) q))
      pairs i j v true false p q =
          ap (λ k. W k v) (if_so (ltb i n) (cond (ltb j m) (i * m + j) (n * m)) (n * m) p ∙ if_not (ltb j m) (i * m + j) (n * m) q) ∙ outside v
          ∙ sym (ap (λ y. R.times (X' i v) (y v)) (if_not (ltb j m) (Y j) (zero_series R) q) ∙ times_zero L (X' i v))
      pairs i j v false q p r =
          ap (λ k. W k v) (if_not (ltb i n) (cond (ltb j m) (i * m + j) (n * m)) (n * m) p) ∙ outside v
          ∙ sym (ap (λ x. R.times (x v) (Y' j v)) (if_not (ltb i n) (X i) (zero_series R) p) ∙ zero_times L (Y' j v))

  hold-met_row : (n m s : ℕ) (X Y Z : ℕ → Series V) → tapes ≡ 1 → ((i j : ℕ) → i < n → j < m → Z (i * m + j) ≡ both_series R (X i) (Y j)) → s ≡ n * m
      → (i : ℕ) (p : Position V) → i < n → Are (To n) p.moves → Are (λ a k. IsLetter a) p.moves → Given (X i) p.final X p.moves
      → (j : ℕ) (qs : List (Position V)) → j + length qs ≤ m → AreAll (To m) qs → AreAll (λ a k. IsLetter a) qs → Holds Y Y j qs → Holds Z Z (i * m + j) (map (met R m p) qs)
  hold-met_row n m s X Y Z o z e i p h a la F j [] l b lb g = tt
  hold-met_row n m s X Y Z o z e i p h a la F j (q ∷ qs) l b lb g = (
    given_same (both_series R (X i) (Y j)) (Z (i * m + j)) (R.times p.final q.final) Z (met R m p q).moves (sym (z i j h (omega (arith, l))))
        (given-met n m s X Y Z (X i) (Y j) p.final q.final p.moves q.moves o z a b.0 (within-met R equal (IsLabel tapes) n m s e p q a b.0)
        (are-in (λ a k. IsLetter a) p.moves la) (are-in (λ a k. IsLetter a) q.moves lb.0) F g.0),
    subst (λ k. Holds Z Z k (map (met R m p) qs)) (next (i * m) j) (hold-met_row n m s X Y Z o z e i p h a la F (suc j) qs (omega (arith, l)) b.1 lb.1 g.1),
  )
    where
      next : (x j : ℕ) → x + suc j ≡ suc (x + j)
      next x j = omega arith

  hold-met_rows : (n m s : ℕ) (X Y Z : ℕ → Series V) → tapes ≡ 1 → ((i j : ℕ) → i < n → j < m → Z (i * m + j) ≡ both_series R (X i) (Y j)) → s ≡ n * m
      → (qs : List (Position V)) → length qs ≡ m → AreAll (To m) qs → AreAll (λ a k. IsLetter a) qs → Holds Y Y 0 qs
      → (i : ℕ) (ps : List (Position V)) → i + length ps ≤ n → AreAll (To n) ps → AreAll (λ a k. IsLetter a) ps → Holds X X i ps → Holds Z Z (i * m) (flat_map (λ p. map (met R m p) qs) ps)
  hold-met_rows n m s X Y Z o z e qs k b lb g i [] l a la h = tt
  hold-met_rows n m s X Y Z o z e qs k b lb g i (p ∷ ps) l a la h =
      let q : suc i * m ≡ i * m + length (map (met R m p) qs) = more i m ∙ ap (λ x. i * m + x) (sym (length-map qs (met R m p) ∙ k)) in
      hold-append Z Z (i * m) (suc i * m) (map (met R m p) qs) (flat_map (λ r. map (met R m r) qs) ps) q
      (subst (λ x. Holds Z Z x (map (met R m p) qs)) (none (i * m)) (hold-met_row n m s X Y Z o z e i p (omega (arith, l)) a.0 la.0 h.0 0 qs (omega (arith, k)) b lb g))
      (hold-met_rows n m s X Y Z o z e qs k b lb g (suc i) ps (omega (arith, l)) a.1 la.1 h.1)
    where
      none : (x : ℕ) → x + 0 ≡ x
      none x = omega arith

      more : (i m : ℕ) → suc i * m ≡ i * m + m
      more i m = grind arith

  letters_only : (A : Standard V) → IsWithin IsLetter A → Are (λ a k. IsLetter a) A.start.moves × AreAll (λ a k. IsLetter a) A.positions
  letters_only A h =
      (are-weaker (IsTo IsLetter (size_of A)) (λ a k. IsLetter a) (λ a k j. j.0) A.start.moves h.0, all-weaker (IsTo IsLetter (size_of A)) (λ a k. IsLetter a) (λ a k j. j.0) A.positions h.1)

  for-conjoined : (f g : Series V) (A B : Standard V) → tapes ≡ 1 → In_place A → In_place B → IsWithin IsLetter A → IsWithin IsLetter B → For f A → For g B → For (both_series R f g) (conjoined R A B)
  for-conjoined f g A B o a b la lb F G =
      let n = size_of A in
      let m = size_of B in
      let X = F.series in
      let Y = G.series in
      let Z : ℕ → Series V = λ k. both_series R (X (k / m)) (Y (k % m)) in
      let z : (i j : ℕ) → i < n → j < m → Z (i * m + j) ≡ both_series R (X i) (Y j) = λ i j h k. ap₂ (λ x y. both_series R (X x) (Y y)) (div-mul-add i m j k) (mod-mul-add i m j k) in
      let e : size_of (conjoined R A B) ≡ n * m = length-pairs R m A.positions B.positions in
      let u = letters_only A la in
      let v = letters_only B lb in
      record {
        series = Z;
        start = given-met n m (n * m) X Y Z f g A.start.final B.start.final A.start.moves B.start.moves o z a.0 b.0 (within-met R equal (IsLabel tapes) n m (n * m) refl A.start B.start a.0 b.0)
            (are-in (λ a k. IsLetter a) A.start.moves u.0) (are-in (λ a k. IsLetter a) B.start.moves v.0) F.start G.start;
        each = subst (λ k. Holds Z Z k (flat_map (λ p. map (met R m p) B.positions) A.positions)) (none m)
            (hold-met_rows n m (n * m) X Y Z o z refl B.positions refl b.1 v.1 G.each 0 A.positions (omega arith) a.1 u.1 F.each);
      }
    where
      none : (m : ℕ) → 0 * m ≡ 0
      none m = omega arith

  -- shuffles
  shuffle_empty : (f g : Series V) (w : Word) → length w ≡ 1 → is_empty w ≡ true → shuffle_series R f g w ≡ R.times (f w) (g w)
  shuffle_empty f g [] l e = absurd (omega arith)
  shuffle_empty f g ([] ∷ []) l e = plus_zero L _
  shuffle_empty f g ((x ∷ a) ∷ []) l e = absurd (false≢true e)
  shuffle_empty f g (a ∷ b ∷ w) l e = absurd (omega arith)

  given-mixed : (n m s i j : ℕ) (W X Y U Z : ℕ → Series V) → tapes ≡ 1 → j ≤ m
      → ((k : ℕ) → k < n → shuffle_series R (X k) (U j) ≡ Z (k * (m + 1) + m + j)) → ((k : ℕ) → k < m → shuffle_series R (W i) (Y k) ≡ Z (i * (m + 1) + k))
      → (p q : Position V) → Are (To n) p.moves → Are (To m) q.moves → Are (To s) (mixed R m i j p q).moves → Are (λ a k. IsLetter a) p.moves → Are (λ a k. IsLetter a) q.moves
      → Given (W i) p.final X p.moves → Given (U j) q.final Y q.moves → Given (shuffle_series R (W i) (U j)) (R.times p.final q.final) Z (mixed R m i j p q).moves
  given-mixed n m s i j W X Y U Z o v x y p q a b ab la lb F G =
      at_all s (shuffle_series R (W i) (U j)) (R.times p.final q.final) Z (mixed R m i j p q).moves ab
      (λ w l e. shuffle_empty (W i) (U j) w (l ∙ o) e ∙ ap₂ R.times (given_empty n (W i) p.final X p.moves a F w l e) (given_empty m (U j) q.final Y q.moves b G w l e))
      (λ w l e.
      I.shuffle (W i) (U j) p.final q.final X Y p.moves q.moves (are-in (λ c k. IsLetter c) p.moves la) (are-in (λ c k. IsLetter c) q.moves lb)
      (subst (λ t. IsGiven R t (W i) p.final X p.moves) o F) (subst (λ t. IsGiven R t (U j) q.final Y q.moves) o G) w (l ∙ o) e
      ∙ ap₂ R.plus (image n (λ k. shuffle_series R (X k) (U j)) Z (λ k. k * (m + 1) + m + j) x w p.moves a) (image m (λ k. shuffle_series R (W i) (Y k)) Z (λ k. i * (m + 1) + k) y w q.moves b)
      ∙ sym (taken-grouped L (H Z w) (mapped (λ k. k * (m + 1) + m + j) p.moves) (mapped (λ k. i * (m + 1) + k) q.moves)))

  -- the series of a pair of states, by its place
  abbrev pair_series : ℕ → (ℕ → Series V) → (ℕ → Series V) → ℕ → Series V
  pair_series m W U k = shuffle_series R (W ((k + 1) / (m + 1))) (U ((k + 1) % (m + 1)))

  pair_at : (m i j k : ℕ) (W U : ℕ → Series V) → j ≤ m → k + 1 ≡ i * (m + 1) + j → pair_series m W U k ≡ shuffle_series R (W i) (U j)
  pair_at m i j k W U h e =
      ap₂ (λ x y. shuffle_series R (W x) (U y)) (ap (λ x. x / (m + 1)) e ∙ div-mul-add i (m + 1) j (omega (arith, h))) (ap (λ x. x % (m + 1)) e ∙ mod-mul-add i (m + 1) j (omega (arith, h)))

  mixed-pair : (n m s i j : ℕ) (f g : Series V) (X Y : ℕ → Series V) → tapes ≡ 1 → s ≡ m + n * (m + 1) → i ≤ n → j ≤ m
      → (p q : Position V) → Are (To n) p.moves → Are (To m) q.moves → Are (λ a k. IsLetter a) p.moves → Are (λ a k. IsLetter a) q.moves
      → Given (with_start f X i) p.final X p.moves → Given (with_start g Y j) q.final Y q.moves
      → Given (shuffle_series R (with_start f X i) (with_start g Y j)) (R.times p.final q.final) (pair_series m (with_start f X) (with_start g Y)) (mixed R m i j p q).moves
  mixed-pair n m s i j f g X Y o e u v p q a b la lb F G =
      given-mixed n m s i j (with_start f X) X Y (with_start g Y) (pair_series m (with_start f X) (with_start g Y)) o v
      (λ k h. sym (pair_at m (suc k) j (k * (m + 1) + m + j) (with_start f X) (with_start g Y) v (first k m j)))
      (λ k h. sym (pair_at m i (suc k) (i * (m + 1) + k) (with_start f X) (with_start g Y) h (second i k m)))
      p q a b (within-mixed R equal (IsLabel tapes) n m s i j e u v p q a b) la lb F G
    where
      first : (k m j : ℕ) → k * (m + 1) + m + j + 1 ≡ suc k * (m + 1) + j
      first k m j = grind arith

      second : (i k m : ℕ) → i * (m + 1) + k + 1 ≡ i * (m + 1) + suc k
      second i k m = omega arith

  hold-mixed_row : (n m s i : ℕ) (f g : Series V) (X Y : ℕ → Series V) → tapes ≡ 1 → s ≡ m + n * (m + 1) → i ≤ n
      → (p : Position V) → Are (To n) p.moves → Are (λ a k. IsLetter a) p.moves → Given (with_start f X i) p.final X p.moves
      → (j k : ℕ) → k + 1 ≡ i * (m + 1) + j → (qs : List (Position V)) → j + length qs ≤ m + 1 → AreAll (To m) qs → AreAll (λ a k. IsLetter a) qs → Holds (with_start g Y) Y j qs
      → Holds (pair_series m (with_start f X) (with_start g Y)) (pair_series m (with_start f X) (with_start g Y)) k (mixed_row R m i j p qs)
  hold-mixed_row n m s i f g X Y o e u p a la F j k c [] l b lb G = tt
  hold-mixed_row n m s i f g X Y o e u p a la F j k c (q ∷ qs) l b lb G =
      let v : j ≤ m = omega (arith, l) in (
        given_same (shuffle_series R (with_start f X i) (with_start g Y j)) (pair_series m (with_start f X) (with_start g Y) k) (R.times p.final q.final) (pair_series m (with_start f X) (with_start g Y)) (mixed R m i j p q).moves
            (sym (pair_at m i j k (with_start f X) (with_start g Y) v c)) (mixed-pair n m s i j f g X Y o e u v p q a b.0 la lb.0 F G.0),
        hold-mixed_row n m s i f g X Y o e u p a la F (j + 1) (suc k) (omega (arith, c)) qs (omega (arith, l)) b.1 lb.1 (subst (λ x. Holds (with_start g Y) Y x qs) (next j) G.1),
      )
    where
      next : (j : ℕ) → suc j ≡ j + 1
      next j = omega arith

  hold-mixed_rows : (n m s : ℕ) (f g : Series V) (X Y : ℕ → Series V) → tapes ≡ 1 → s ≡ m + n * (m + 1)
      → (qs : List (Position V)) → length qs ≡ m + 1 → AreAll (To m) qs → AreAll (λ a k. IsLetter a) qs → Holds (with_start g Y) Y 0 qs
      → (i k : ℕ) → k + 1 ≡ i * (m + 1) → (ps : List (Position V)) → i + length ps ≤ n + 1 → AreAll (To n) ps → AreAll (λ a k. IsLetter a) ps → Holds (with_start f X) X i ps
      → Holds (pair_series m (with_start f X) (with_start g Y)) (pair_series m (with_start f X) (with_start g Y)) k (mixed_rows R m i ps qs)
  hold-mixed_rows n m s f g X Y o e qs t b lb G i k c [] l a la F = tt
  hold-mixed_rows n m s f g X Y o e qs t b lb G i k c (p ∷ ps) l a la F =
      let q = length-row R m i 0 p qs in
      let r : k + (m + 1) + 1 ≡ (i + 1) * (m + 1) = more k i m c in
      hold-append (pair_series m (with_start f X) (with_start g Y)) (pair_series m (with_start f X) (with_start g Y)) k (k + (m + 1)) (mixed_row R m i 0 p qs) (mixed_rows R m (i + 1) ps qs)
      (ap (λ x. k + x) (sym (q ∙ t)))
      (hold-mixed_row n m s i f g X Y o e (omega (arith, l)) p a.0 la.0 F.0 0 k (c ∙ none (i * (m + 1))) qs (omega (arith, t)) b lb G)
      (hold-mixed_rows n m s f g X Y o e qs t b lb G (i + 1) (k + (m + 1)) r ps (omega (arith, l)) a.1 la.1 (subst (λ x. Holds (with_start f X) X x ps) (next i) F.1))
    where
      next : (j : ℕ) → suc j ≡ j + 1
      next j = omega arith

      none : (x : ℕ) → x ≡ x + 0
      none x = omega arith

      more : (k i m : ℕ) → k + 1 ≡ i * (m + 1) → k + (m + 1) + 1 ≡ (i + 1) * (m + 1)
      more k i m h = let d : (i + 1) * (m + 1) ≡ i * (m + 1) + (m + 1) = grind arith in omega (arith, h, d)

  pub hold-behind : (f : Series V) (X : ℕ → Series V) (i : ℕ) (ps : List (Position V)) → Holds X X i ps → Holds (with_start f X) X (suc i) ps
  hold-behind f X i [] h = tt
  hold-behind f X i (p ∷ ps) h = (h.0, hold-behind f X (suc i) ps h.1)

  for-shuffled : (f g : Series V) (A B : Standard V) → tapes ≡ 1 → In_place A → In_place B → IsWithin IsLetter A → IsWithin IsLetter B → For f A → For g B → For (shuffle_series R f g) (shuffled R A B)
  for-shuffled f g A B o a b la lb F G =
      let n = size_of A in
      let m = size_of B in
      let X = F.series in
      let Y = G.series in
      let s = m + n * (m + 1) in
      let Z : ℕ → Series V = pair_series m (with_start f X) (with_start g Y) in
      let u = letters_only A la in
      let v = letters_only B lb in
      let one = hold-behind f X 0 A.positions F.each in
      let two = hold-behind g Y 0 B.positions G.each in
      let q = length-row R m 0 1 A.start B.positions in
      record {
        series = Z;
        start = mixed-pair n m s 0 0 f g X Y o refl (omega arith) (omega arith) A.start B.start a.0 b.0 u.0 v.0 F.start G.start;
        each = hold-append Z Z 0 m (mixed_row R m 0 1 A.start B.positions) (mixed_rows R m 1 A.positions (B.start ∷ B.positions)) (sym q ∙ none (length (mixed_row R m 0 1 A.start B.positions)))
            (hold-mixed_row n m s 0 f g X Y o refl (omega arith) A.start a.0 u.0 F.start 1 0 (nought m) B.positions (omega arith) b.1 v.1 two)
            (hold-mixed_rows n m s f g X Y o refl (B.start ∷ B.positions) (succ m) (b.0, b.1) (v.0, v.1) (G.start, two) 1 m (sole m) A.positions (omega arith) a.1 u.1 one);
      }
    where
      none : (x : ℕ) → x ≡ 0 + x
      none x = omega arith

      nought : (m : ℕ) → 0 + 1 ≡ 0 * (m + 1) + 1
      nought m = omega arith

      succ : (m : ℕ) → suc m ≡ m + 1
      succ m = omega arith

      sole : (m : ℕ) → m + 1 ≡ 1 * (m + 1)
      sole m = omega arith

  -- a label
  for-labelled : (a : Word) → IsLabel tapes a → For (coefficient_of R (Atom a)) (labelled R a)
  for-labelled a h =
      record {
        series = λ i. one_series R;
        start = λ w l.
            sym (I.one_right (coefficient_of R (Atom a)) w) ∙ I.atoms a (one_series R) w (h.0 ∙ sym l)
            ∙ sym (ap₂ R.plus (sym (I.zero tapes (λ i. one_series R) w l ∙ plus_zero L _)) (plus_zero L _ ∙ one_times L _) ∙ zero_plus L _);
        each = (I.one tapes (λ i. one_series R), tt);
      }

  mutual
    pub standard-law : (t : Term V) → HasTapes tapes t → JoinsLetters tapes t → For (coefficient_of R t) (standard_of R equal t)
    standard-law Zero h j = record { series = λ i. zero_series R; start = I.zero tapes (λ i. zero_series R); each = tt }
    standard-law One h j = record { series = λ i. zero_series R; start = I.one tapes (λ i. zero_series R); each = tt }
    standard-law (Atom a) h j = for-labelled a h
    standard-law (Sum ts) h j =
        for_same (plus_series R (zero_series R) (sum_coefficient R ts)) (sum_coefficient R ts) (beside_all R equal (bare R.zero) ts) (λ w l. sym (zero_plus L (sum_coefficient R ts w)))
        (sum-law (zero_series R) (bare R.zero) ts (tt, tt) (record { series = λ i. zero_series R; start = I.zero tapes (λ i. zero_series R); each = tt }) h j)
    standard-law (Product ts) h j =
        for_same (product_series R (one_series R) (product_coefficient R ts)) (product_coefficient R ts) (chained_all R equal (bare R.one) ts) (λ w l. sym (I.one_left (product_coefficient R ts) w))
        (product-law (one_series R) (bare R.one) ts (tt, tt) (record { series = λ i. zero_series R; start = I.one tapes (λ i. zero_series R); each = tt }) h j)
    standard-law (Star t) h j = for-looped (coefficient_of R t) (standard_of R equal t) (within-standard R equal (IsLabel tapes) t (tapes_atoms tapes t h)) (standard-law t h j)
    standard-law (Weight k t) h j = for-weighted k (coefficient_of R t) (standard_of R equal t) (standard-law t h j)
    standard-law (Both t u) h j =
        for-conjoined (coefficient_of R t) (coefficient_of R u) (standard_of R equal t) (standard_of R equal u) j.0
        (within-standard R equal (IsLabel tapes) t (tapes_atoms tapes t h.0)) (within-standard R equal (IsLabel tapes) u (tapes_atoms tapes u h.1))
        (within-standard R equal IsLetter t j.1) (within-standard R equal IsLetter u j.2) (standard-law t h.0 j.3) (standard-law u h.1 j.4)
    standard-law (Shuffle t u) h j =
        for-shuffled (coefficient_of R t) (coefficient_of R u) (standard_of R equal t) (standard_of R equal u) j.0
        (within-standard R equal (IsLabel tapes) t (tapes_atoms tapes t h.1)) (within-standard R equal (IsLabel tapes) u (tapes_atoms tapes u h.2))
        (within-standard R equal IsLetter t j.1) (within-standard R equal IsLetter u j.2) (standard-law t h.1 j.3) (standard-law u h.2 j.4)

    sum-law : (f : Series V) (A : Standard V) (ts : Terms V) → In_place A → For f A → HaveTapes tapes ts → AllJoinLetters tapes ts → For (plus_series R f (sum_coefficient R ts)) (beside_all R equal A ts)
    sum-law f A NoTerms a F h j = for_same f (plus_series R f (zero_series R)) A (λ w l. plus_zero L (f w)) F
    sum-law f A (MoreTerms t ts) a F h j =
        let b = within-standard R equal (IsLabel tapes) t (tapes_atoms tapes t h.0) in
        for_same (plus_series R (plus_series R f (coefficient_of R t)) (sum_coefficient R ts)) (plus_series R f (plus_series R (coefficient_of R t) (sum_coefficient R ts))) (beside_all R equal (beside R A (standard_of R equal t)) ts)
        (λ w l. sym (L.plus_assoc (f w) (coefficient_of R t w) (sum_coefficient R ts w)))
        (sum-law (plus_series R f (coefficient_of R t)) (beside R A (standard_of R equal t)) ts (within-beside R equal (IsLabel tapes) A (standard_of R equal t) a b)
        (for-beside f (coefficient_of R t) A (standard_of R equal t) a b F (standard-law t h.0 j.0)) h.1 j.1)

    product-law : (f : Series V) (A : Standard V) (ts : Terms V) → In_place A → For f A → HaveTapes tapes ts → AllJoinLetters tapes ts → For (product_series R f (product_coefficient R ts)) (chained_all R equal A ts)
    product-law f A NoTerms a F h j = for_same f (product_series R f (one_series R)) A (λ w l. I.one_right f w) F
    product-law f A (MoreTerms t ts) a F h j =
        let b = within-standard R equal (IsLabel tapes) t (tapes_atoms tapes t h.0) in
        for_same (product_series R (product_series R f (coefficient_of R t)) (product_coefficient R ts)) (product_series R f (product_series R (coefficient_of R t) (product_coefficient R ts)))
        (chained_all R equal (chained R equal A (standard_of R equal t)) ts)
        (λ w l. sym (I.grouped f (coefficient_of R t) (product_coefficient R ts) w))
        (product-law (product_series R f (coefficient_of R t)) (chained R equal A (standard_of R equal t)) ts (within-chained R equal (IsLabel tapes) A (standard_of R equal t) a b)
        (for-chained f (coefficient_of R t) A (standard_of R equal t) a b F (standard-law t h.0 j.0)) h.1 j.1)
