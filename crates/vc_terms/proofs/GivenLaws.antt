-- Series that are given by a constant and items: their sums, products, stars, conjunctions and shuffles are so too.
use Rattle.std.proofs.Common.{◌≡◌, ℕ, List, [], ◌∷◌, map, cond, Bool, true, false, eqb, refl, sym, ap, ◌∙◌, ap₂, length, Option, Some, None, ◌+◌, arith}
use Rattle.std.specs.List.{filter}
use Rattle.std.proofs.lemmas.Bool.{false≢true}
use Rattle.vc_model.specs.WeightSet.{WeightSet, SemiringLaws}
use Rattle.vc_model.specs.Lists.{In}
use Rattle.vc_model.specs.Sums.{sum_over}
use Rattle.vc_model.specs.Words.{Tape, Word, size, is_empty, emptied, join, cut, put_front, cuts, same_word, position_sets, letters_at, letters_off, IsLetter, IsLabel}
use Rattle.vc_model.specs.Series.{Series, zero_series, one_series, weight_series, product_series, both_series, shuffle_series, star_or_zero, star_series}
use Rattle.vc_model.specs.Automata.{at_rest}
use Rattle.vc_model.specs.Items.{Item, brought, IsGiven, HaveLabels}
use Rattle.vc_terms.specs.ItemLists.{met_items}
use Rattle.vc_model.specs.Rearranged.{zero_plus, zero_times, plus_left, times_left}
use Rattle.vc_model.specs.SumLaws.{sum-append, sum-map, sum-flat_map, sum_same, sum_zero, sum-times, sum-times_right, sum_swap, sum-filter}
use Rattle.vc_model.specs.WordLaws.{join-cut, size-join, same_word-true, same_word_is, is_empty-emptied, size-is_empty, length-empty_word}
use Rattle.vc_model.specs.Cuts.{cuts-In}
use Rattle.vc_model.specs.Choices.{same_or, cond-times, times-cond, cond-sum}
use Rattle.vc_model.specs.Rests.{at_rest_same}
use Rattle.vc_terms.proofs.Atoms.{atom_product}
use Rattle.vc_terms.proofs.SeriesLaws.{product_same, product_same_on, product_assoc, plus_product, one_product, weight_product, sum_product}
use Rattle.vc_terms.proofs.StarLaws.{later, star_is, product_later}

if_so : {X : Type 0} (b : Bool) (x y : X) → b ≡ true → cond b x y ≡ x
if_so b x y e = ap (λ c. cond c x y) e

if_not : {X : Type 0} (b : Bool) (x y : X) → b ≡ false → cond b x y ≡ y
if_not b x y e = ap (λ c. cond c x y) e

length-emptied : (w : Word) → length (emptied w) ≡ length w
length-emptied w = length-empty_word (length w)

same_head : (x y : ℕ) (a b : Tape) (u v : Word) → (x ∷ a) ∷ u ≡ (y ∷ b) ∷ v → x ≡ y
same_head x y a b u v e = cc

-- two letters at the front of one word
pub same_letter : (a b w v v' : Word) → IsLetter a → IsLetter b → join a v ≡ w → join b v' ≡ w → length v ≡ 1 → length v' ≡ 1 → a ≡ b
same_letter ((x ∷ []) ∷ []) ((y ∷ []) ∷ []) w (c ∷ v) (d ∷ v') i j p q l m = ap (λ z. (z ∷ []) ∷ []) (same_head x y c d [] [] (p ∙ sym q))
same_letter a b w [] v' i j p q l m = absurd (omega arith)
same_letter a b w (c ∷ v) [] i j p q l m = absurd (omega arith)
same_letter [] b w (c ∷ v) (d ∷ v') i j p q l m = absurd i
same_letter ([] ∷ a) b w (c ∷ v) (d ∷ v') i j p q l m = absurd i
same_letter ((x ∷ []) ∷ (e ∷ a)) b w (c ∷ v) (d ∷ v') i j p q l m = absurd i
same_letter ((x ∷ z ∷ e) ∷ a) b w (c ∷ v) (d ∷ v') i j p q l m = absurd i
same_letter ((x ∷ []) ∷ []) [] w (c ∷ v) (d ∷ v') i j p q l m = absurd j
same_letter ((x ∷ []) ∷ []) ([] ∷ b) w (c ∷ v) (d ∷ v') i j p q l m = absurd j
same_letter ((x ∷ []) ∷ []) ((y ∷ []) ∷ (e ∷ b)) w (c ∷ v) (d ∷ v') i j p q l m = absurd j
same_letter ((x ∷ []) ∷ []) ((y ∷ z ∷ e) ∷ b) w (c ∷ v) (d ∷ v') i j p q l m = absurd j

module _ {V : Type 0} {R : WeightSet V} (L : SemiringLaws R) where
  pub if_plus : (b : Bool) (c d x y : V) → R.plus (R.plus (cond b c R.zero) x) (R.plus (cond b d R.zero) y) ≡ R.plus (cond b (R.plus c d) R.zero) (R.plus x y)
  if_plus b c d x y = four (cond b c R.zero) x (cond b d R.zero) y ∙ ap (λ z. R.plus z (R.plus x y)) (go b)
    where
      four : (a x b y : V) → R.plus (R.plus a x) (R.plus b y) ≡ R.plus (R.plus a b) (R.plus x y)
      four a x b y = L.plus_assoc a x (R.plus b y) ∙ ap (R.plus a) (plus_left L x b y) ∙ sym (L.plus_assoc a b (R.plus x y))

      go : (b : Bool) → R.plus (cond b c R.zero) (cond b d R.zero) ≡ cond b (R.plus c d) R.zero
      go true = refl
      go false = L.plus_zero R.zero

  rest_empty : (tapes : ℕ) (f : Series V) (w a : Word) → length w ≡ tapes → is_empty w ≡ true → IsLabel tapes a → at_rest R.zero f (cut a w) ≡ R.zero
  rest_empty tapes f w a l e i = go (cut a w) refl
    where
      go : (r : Option Word) → cut a w ≡ r → at_rest R.zero f r ≡ R.zero
      go None q = refl
      go (Some v) q =
          let j = join-cut a w v q in
          let s : size a + size v ≡ size w = sym (size-join a v (j.2 ∙ sym j.1)) ∙ ap (λ z. size z) j.0 in
          let z = size-is_empty w e in
          absurd (i.1 (omega arith))

  rest_product : (a : Word) (X Y : Series V) (w : Word) → length a ≡ length w → product_series R (λ v. at_rest R.zero X (cut a v)) Y w ≡ at_rest R.zero (product_series R X Y) (cut a w)
  rest_product a X Y w e =
      product_same_on L (length w) (λ v. at_rest R.zero X (cut a v)) (product_series R A X) Y Y (λ v l. sym (atom_product L a X v (e ∙ sym l))) (λ v l. refl) w refl
      ∙ product_assoc L A X Y w
      ∙ atom_product L a (product_series R X Y) w e
    where
      A : Series V
      A v = cond (same_word a v) R.one R.zero

  constant_product : (c : V) (g : Series V) (w : Word) → product_series R (λ v. cond (is_empty v) c R.zero) g w ≡ R.times c (g w)
  constant_product c g w =
      product_same L _ (weight_series R c (one_series R)) g g w (λ v. go (is_empty v)) (λ v. refl)
      ∙ weight_product L c (one_series R) g w ∙ ap (R.times c) (one_product L g w)
    where
      go : (b : Bool) → cond b c R.zero ≡ R.times c (cond b R.one R.zero)
      go true = sym (L.times_one c)
      go false = sym (L.times_zero c)

  -- shuffles
  pick_letter : (b : Bool) (g : Word → V) (v : Tape) → at_rest R.zero g (put_front (cond b (Some v) None) (Some [])) ≡ cond b (g (v ∷ [])) R.zero
  pick_letter true g v = refl
  pick_letter false g v = refl

  after_letter : (a : Word) → IsLetter a → (x : ℕ) → (b : Bool) × ((v : Tape) (g : Word → V) → at_rest R.zero g (cut a ((x ∷ v) ∷ [])) ≡ cond b (g (v ∷ [])) R.zero)
  after_letter [] i x = absurd i
  after_letter ([] ∷ a) i x = absurd i
  after_letter ((y ∷ []) ∷ []) i x = (eqb y x, λ v g. pick_letter (eqb y x) g v)
  after_letter ((y ∷ []) ∷ (b ∷ a)) i x = absurd i
  after_letter ((y ∷ z ∷ b) ∷ a) i x = absurd i

module _ {V T : Type 0} {R : WeightSet V} (L : SemiringLaws R) (tapes : ℕ) where
  pub zero_given : (X : T → Series V) → IsGiven R tapes (zero_series R) R.zero X []
  zero_given X w l = sym (L.plus_zero _ ∙ go (is_empty w))
    where
      go : (b : Bool) → cond b R.zero R.zero ≡ R.zero
      go true = refl
      go false = refl

  pub one_given : (X : T → Series V) → IsGiven R tapes (one_series R) R.one X []
  one_given X w l = sym (L.plus_zero _)

  pub times_given : (k : V) (f : Series V) (c : V) (X : T → Series V) (ms : List (Item V T)) → IsGiven R tapes f c X ms → (w : Word) → length w ≡ tapes → R.times k (f w) ≡ R.plus (cond (is_empty w) (R.times k c) R.zero) (R.times k (brought R X w ms))
  times_given k f c X ms F w l = ap (R.times k) (F w l) ∙ L.times_plus k _ _ ∙ ap (λ z. R.plus z (R.times k (brought R X w ms))) (go (is_empty w))
    where
      go : (b : Bool) → R.times k (cond b c R.zero) ≡ cond b (R.times k c) R.zero
      go true = refl
      go false = L.times_zero k

  pub brought-empty : (X : T → Series V) (ms : List (Item V T)) → HaveLabels tapes ms → (w : Word) → length w ≡ tapes → is_empty w ≡ true → brought R X w ms ≡ R.zero
  brought-empty X ms h w l e = sum_zero L _ ms (λ m i. ap (R.times m.weight) (rest_empty L tapes (X m.to) w m.label l e (h m i)) ∙ L.times_zero _)

  product_brought : (X : T → Series V) (ms : List (Item V T)) → HaveLabels tapes ms → (g : Series V) (w : Word) → length w ≡ tapes → product_series R (λ v. brought R X v ms) g w ≡ brought R (λ s. product_series R (X s) g) w ms
  product_brought X ms h g w l =
      sum_product L (λ m v. R.times m.weight (at_rest R.zero (X m.to) (cut m.label v))) g ms w
      ∙ sum_same L _ _ ms (λ m i.
      weight_product L m.weight (λ v. at_rest R.zero (X m.to) (cut m.label v)) g w
      ∙ ap (R.times m.weight) (rest_product L m.label (X m.to) g w ((h m i).0 ∙ sym l)))

  pub product_given : (f g : Series V) (c d : V) (X Y : T → Series V) (ms ns : List (Item V T)) → IsGiven R tapes f c X ms → HaveLabels tapes ms → IsGiven R tapes g d Y ns → (w : Word) → length w ≡ tapes
      → product_series R f g w ≡ R.plus (cond (is_empty w) (R.times c d) R.zero) (R.plus (brought R (λ s. product_series R (X s) g) w ms) (R.times c (brought R Y w ns)))
  product_given f g c d X Y ms ns F h G w l =
      product_same_on L tapes f (λ v. R.plus (cond (is_empty v) c R.zero) (brought R X v ms)) g g F (λ v m. refl) w l
      ∙ plus_product L (λ v. cond (is_empty v) c R.zero) (λ v. brought R X v ms) g w
      ∙ ap₂ R.plus (constant_product L c g w ∙ ap (R.times c) (G w l) ∙ L.times_plus c _ _ ∙ ap (λ x. R.plus x (R.times c (brought R Y w ns))) (times-cond L c (is_empty w) d)) (product_brought X ms h g w l)
      ∙ L.plus_assoc _ _ _ ∙ ap (R.plus (cond (is_empty w) (R.times c d) R.zero)) (L.plus_comm _ _)

  pub star_given : (f : Series V) (c : V) (X : T → Series V) (ms : List (Item V T)) → IsGiven R tapes f c X ms → HaveLabels tapes ms → (w : Word) → length w ≡ tapes
      → star_series R f w ≡ R.plus (cond (is_empty w) (star_or_zero R c) R.zero) (R.times (star_or_zero R c) (brought R (λ s. product_series R (X s) (star_series R f)) w ms))
  star_given f c X ms F h w l = go (is_empty w) refl
    where
      constant_term : f (emptied w) ≡ c
      constant_term = F (emptied w) (length-emptied w ∙ l) ∙ ap₂ R.plus (if_so (is_empty (emptied w)) c R.zero (is_empty-emptied w)) (brought-empty X ms h (emptied w) (length-emptied w ∙ l) (is_empty-emptied w)) ∙ L.plus_zero c

      later_is : later L f (star_series R f) w ≡ brought R (λ s. product_series R (X s) (star_series R f)) w ms
      later_is =
          sum_same L _ _ (cuts w) (λ d j. same_or R.zero (is_empty d.0) _ _ (λ n.
          ap (λ x. R.times x (star_series R f d.1)) (F d.0 ((cuts-In w d j).1 ∙ l) ∙ ap (λ x. R.plus x (brought R X d.0 ms)) (if_not (is_empty d.0) c R.zero n) ∙ zero_plus L _)))
          ∙ sym (product_later L (λ v. brought R X v ms) (star_series R f) w
          ∙ ap (λ x. R.plus x (later L (λ v. brought R X v ms) (star_series R f) w))
          (ap (λ x. R.times x (star_series R f w)) (brought-empty X ms h (emptied w) (length-emptied w ∙ l) (is_empty-emptied w)) ∙ zero_times L _)
          ∙ zero_plus L _)
          ∙ product_brought X ms h (star_series R f) w l

      go : (b : Bool) → is_empty w ≡ b → star_series R f w ≡ R.plus (cond (is_empty w) (star_or_zero R c) R.zero) (R.times (star_or_zero R c) (brought R (λ s. product_series R (X s) (star_series R f)) w ms))
      go true e =
          star_is L f w ∙ if_so (is_empty w) _ _ e ∙ ap (star_or_zero R) constant_term
          ∙ sym (ap₂ R.plus (if_so (is_empty w) (star_or_zero R c) R.zero e) (ap (R.times (star_or_zero R c)) (brought-empty (λ s. product_series R (X s) (star_series R f)) ms h w l e) ∙ L.times_zero _) ∙ L.plus_zero _)
      go false e =
          star_is L f w ∙ if_not (is_empty w) _ _ e ∙ ap₂ R.times (ap (star_or_zero R) constant_term) later_is
          ∙ sym (ap (λ x. R.plus x (R.times (star_or_zero R c) (brought R (λ s. product_series R (X s) (star_series R f)) w ms))) (if_not (is_empty w) (star_or_zero R c) R.zero e) ∙ zero_plus L _)

  -- at words that are not empty alone
  pub at_all_given : (f : Series V) (c : V) (X : T → Series V) (ms : List (Item V T)) → HaveLabels tapes ms → ((w : Word) → length w ≡ tapes → is_empty w ≡ true → f w ≡ c) → ((w : Word) → length w ≡ tapes → is_empty w ≡ false → f w ≡ brought R X w ms) → IsGiven R tapes f c X ms
  at_all_given f c X ms h p q w l = go (is_empty w) refl
    where
      go : (b : Bool) → is_empty w ≡ b → f w ≡ R.plus (cond (is_empty w) c R.zero) (brought R X w ms)
      go true e = p w l e ∙ sym (ap₂ R.plus (if_so (is_empty w) c R.zero e) (brought-empty X ms h w l e) ∙ L.plus_zero c)
      go false e = q w l e ∙ sym (ap (λ x. R.plus x (brought R X w ms)) (if_not (is_empty w) c R.zero e) ∙ zero_plus L _)

  pub given_empty : (f : Series V) (c : V) (X : T → Series V) (ms : List (Item V T)) → IsGiven R tapes f c X ms → HaveLabels tapes ms → (w : Word) → length w ≡ tapes → is_empty w ≡ true → f w ≡ c
  given_empty f c X ms F h w l e = F w l ∙ ap₂ R.plus (if_so (is_empty w) c R.zero e) (brought-empty X ms h w l e) ∙ L.plus_zero c

  pub given_full : (f : Series V) (c : V) (X : T → Series V) (ms : List (Item V T)) → IsGiven R tapes f c X ms → (w : Word) → length w ≡ tapes → is_empty w ≡ false → f w ≡ brought R X w ms
  given_full f c X ms F w l e = F w l ∙ ap (λ x. R.plus x (brought R X w ms)) (if_not (is_empty w) c R.zero e) ∙ zero_plus L _

  -- conjunctions
  pair_given : (X Y : T → Series V) (w : Word) (m n : Item V T) → length w ≡ 1 → IsLetter m.label → IsLetter n.label
      → R.times (R.times m.weight (at_rest R.zero (X m.to) (cut m.label w))) (R.times n.weight (at_rest R.zero (Y n.to) (cut n.label w)))
      ≡ cond (same_word m.label n.label) (R.times (R.times m.weight n.weight) (at_rest R.zero (both_series R (X m.to) (Y n.to)) (cut m.label w))) R.zero
  pair_given X Y w m n l i j = go (same_word m.label n.label) refl
    where
      four : (a x b y : V) → R.times (R.times a x) (R.times b y) ≡ R.times (R.times a b) (R.times x y)
      four a x b y = L.times_assoc a x (R.times b y) ∙ ap (R.times a) (times_left L x b y) ∙ sym (L.times_assoc a b (R.times x y))

      at : (r : Option Word) → R.times (at_rest R.zero (X m.to) r) (at_rest R.zero (Y n.to) r) ≡ at_rest R.zero (both_series R (X m.to) (Y n.to)) r
      at None = zero_times L _
      at (Some v) = refl

      apart : (r s : Option Word) → cut m.label w ≡ r → cut n.label w ≡ s → (m.label ≡ n.label → ⊥) → R.times (at_rest R.zero (X m.to) r) (at_rest R.zero (Y n.to) s) ≡ R.zero
      apart None s p q d = zero_times L _
      apart (Some v) None p q d = L.times_zero _
      apart (Some v) (Some v') p q d =
          let a = join-cut m.label w v p in
          let b = join-cut n.label w v' q in
          absurd (d (same_letter m.label n.label w v v' i j a.0 b.0 (a.1 ∙ l) (b.1 ∙ l)))

      go : (b : Bool) → same_word m.label n.label ≡ b → R.times (R.times m.weight (at_rest R.zero (X m.to) (cut m.label w))) (R.times n.weight (at_rest R.zero (Y n.to) (cut n.label w)))
          ≡ cond b (R.times (R.times m.weight n.weight) (at_rest R.zero (both_series R (X m.to) (Y n.to)) (cut m.label w))) R.zero
      go true p = four _ _ _ _ ∙ ap (R.times (R.times m.weight n.weight))
          (ap (λ z. R.times (at_rest R.zero (X m.to) (cut m.label w)) (at_rest R.zero (Y n.to) (cut z w))) (sym (same_word-true m.label n.label p)) ∙ at (cut m.label w))
      go false p = four _ _ _ _ ∙ ap (R.times (R.times m.weight n.weight)) (apart (cut m.label w) (cut n.label w) refl refl (λ d. absurd (false≢true (sym p ∙ same_word_is m.label n.label d)))) ∙ L.times_zero _

  pub met_brought : (f : T → T → T) (X Y Z : T → Series V) → ((p q : T) (v : Word) → Z (f p q) v ≡ R.times (X p v) (Y q v)) → (ms ns : List (Item V T)) → ((m : Item V T) → In m ms → IsLetter m.label) → ((n : Item V T) → In n ns → IsLetter n.label) → (w : Word) → length w ≡ 1
      → R.times (brought R X w ms) (brought R Y w ns) ≡ brought R Z w (met_items R f ms ns)
  met_brought f X Y Z z ms ns h g w l =
      sym (sum-times_right L (brought R Y w ns) (λ m. R.times m.weight (at_rest R.zero (X m.to) (cut m.label w))) ms)
      ∙ sum_same L _ _ ms (λ m i.
      sym (sum-times L (R.times m.weight (at_rest R.zero (X m.to) (cut m.label w))) (λ n. R.times n.weight (at_rest R.zero (Y n.to) (cut n.label w))) ns)
      ∙ sum_same L _ (λ n. cond (same_word m.label n.label) (R.times (R.times m.weight n.weight) (at_rest R.zero (Z (f m.to n.to)) (cut m.label w))) R.zero) ns (λ n j.
      pair_given X Y w m n l (h m i) (g n j) ∙ ap (λ x. cond (same_word m.label n.label) (R.times (R.times m.weight n.weight) x) R.zero) (turn m.to n.to (cut m.label w)))
      ∙ sym (sum-filter L (λ n. R.times (R.times m.weight n.weight) (at_rest R.zero (Z (f m.to n.to)) (cut m.label w))) (λ n. same_word m.label n.label) ns)
      ∙ sym (sum-map L (λ e. R.times e.weight (at_rest R.zero (Z e.to) (cut e.label w))) (λ n. record { label = m.label; weight = R.times m.weight n.weight; to = f m.to n.to }) (filter (λ n. same_word m.label n.label) ns)))
      ∙ sym (sum-flat_map L (λ e. R.times e.weight (at_rest R.zero (Z e.to) (cut e.label w))) (λ m. map (λ n. record { label = m.label; weight = R.times m.weight n.weight; to = f m.to n.to }) (filter (λ n. same_word m.label n.label) ns)) ms)
    where
      turn : (p q : T) (r : Option Word) → at_rest R.zero (both_series R (X p) (Y q)) r ≡ at_rest R.zero (Z (f p q)) r
      turn p q None = refl
      turn p q (Some v) = sym (z p q v)

  left_given : (X : T → Series V) (ms : List (Item V T)) (g : Series V) (x : ℕ) (c : Tape) → ((m : Item V T) → In m ms → IsLetter m.label)
      → sum_over R (λ I. R.times (brought R X ((x ∷ letters_at I c) ∷ []) ms) (g (letters_off I c ∷ []))) (position_sets (length c)) ≡ brought R (λ s. shuffle_series R (X s) g) ((x ∷ c) ∷ []) ms
  left_given X ms g x c h =
      sum_same L _ (λ I. sum_over R (λ m. R.times m.weight (R.times (at_rest R.zero (X m.to) (cut m.label ((x ∷ letters_at I c) ∷ []))) (g (letters_off I c ∷ [])))) ms) (position_sets (length c)) (λ I i.
      sym (sum-times_right L (g (letters_off I c ∷ [])) (λ m. R.times m.weight (at_rest R.zero (X m.to) (cut m.label ((x ∷ letters_at I c) ∷ [])))) ms)
      ∙ sum_same L _ _ ms (λ m j. L.times_assoc _ _ _))
      ∙ sum_swap L (λ I m. R.times m.weight (R.times (at_rest R.zero (X m.to) (cut m.label ((x ∷ letters_at I c) ∷ []))) (g (letters_off I c ∷ [])))) (position_sets (length c)) ms
      ∙ sum_same L _ (λ m. R.times m.weight (at_rest R.zero (shuffle_series R (X m.to) g) (cut m.label ((x ∷ c) ∷ [])))) ms (λ m j.
      let a = after_letter L m.label (h m j) x in
      sum-times L m.weight (λ I. R.times (at_rest R.zero (X m.to) (cut m.label ((x ∷ letters_at I c) ∷ []))) (g (letters_off I c ∷ []))) (position_sets (length c))
      ∙ ap (R.times m.weight)
      (sum_same L _ _ (position_sets (length c)) (λ I i. ap (λ y. R.times y (g (letters_off I c ∷ []))) (a.1 (letters_at I c) (X m.to)) ∙ cond-times L a.0 (X m.to (letters_at I c ∷ [])) (g (letters_off I c ∷ [])))
      ∙ cond-sum L a.0 (λ I. R.times (X m.to (letters_at I c ∷ [])) (g (letters_off I c ∷ []))) (position_sets (length c))
      ∙ sym (a.1 c (shuffle_series R (X m.to) g))))

  right_given : (X : T → Series V) (ms : List (Item V T)) (g : Series V) (x : ℕ) (c : Tape) → ((m : Item V T) → In m ms → IsLetter m.label)
      → sum_over R (λ I. R.times (g (letters_at I c ∷ [])) (brought R X ((x ∷ letters_off I c) ∷ []) ms)) (position_sets (length c)) ≡ brought R (λ s. shuffle_series R g (X s)) ((x ∷ c) ∷ []) ms
  right_given X ms g x c h =
      sum_same L _ (λ I. sum_over R (λ m. R.times m.weight (R.times (g (letters_at I c ∷ [])) (at_rest R.zero (X m.to) (cut m.label ((x ∷ letters_off I c) ∷ []))))) ms) (position_sets (length c)) (λ I i.
      sym (sum-times L (g (letters_at I c ∷ [])) (λ m. R.times m.weight (at_rest R.zero (X m.to) (cut m.label ((x ∷ letters_off I c) ∷ [])))) ms)
      ∙ sum_same L _ _ ms (λ m j. times_left L _ _ _))
      ∙ sum_swap L (λ I m. R.times m.weight (R.times (g (letters_at I c ∷ [])) (at_rest R.zero (X m.to) (cut m.label ((x ∷ letters_off I c) ∷ []))))) (position_sets (length c)) ms
      ∙ sum_same L _ (λ m. R.times m.weight (at_rest R.zero (shuffle_series R g (X m.to)) (cut m.label ((x ∷ c) ∷ [])))) ms (λ m j.
      let a = after_letter L m.label (h m j) x in
      sum-times L m.weight (λ I. R.times (g (letters_at I c ∷ [])) (at_rest R.zero (X m.to) (cut m.label ((x ∷ letters_off I c) ∷ [])))) (position_sets (length c))
      ∙ ap (R.times m.weight)
      (sum_same L _ _ (position_sets (length c)) (λ I i. ap (R.times (g (letters_at I c ∷ []))) (a.1 (letters_off I c) (X m.to)) ∙ times-cond L (g (letters_at I c ∷ [])) a.0 (X m.to (letters_off I c ∷ [])))
      ∙ cond-sum L a.0 (λ I. R.times (g (letters_at I c ∷ [])) (X m.to (letters_off I c ∷ []))) (position_sets (length c))
      ∙ sym (a.1 c (shuffle_series R g (X m.to)))))

  -- at a word of one tape that is not empty
  pub shuffle_given : (f g : Series V) (X Y : T → Series V) (ms ns : List (Item V T)) → ((m : Item V T) → In m ms → IsLetter m.label) → ((n : Item V T) → In n ns → IsLetter n.label) → tapes ≡ 1
      → ((w : Word) → length w ≡ tapes → is_empty w ≡ false → f w ≡ brought R X w ms) → ((w : Word) → length w ≡ tapes → is_empty w ≡ false → g w ≡ brought R Y w ns)
      → (w : Word) → length w ≡ tapes → is_empty w ≡ false → shuffle_series R f g w ≡ R.plus (brought R (λ s. shuffle_series R (X s) g) w ms) (brought R (λ s. shuffle_series R f (Y s)) w ns)
  shuffle_given f g X Y ms ns h k n p q [] l e = absurd (cc)
  shuffle_given f g X Y ms ns h k n p q ([] ∷ []) l e = absurd (cc)
  shuffle_given f g X Y ms ns h k n p q (a ∷ b ∷ w) l e = absurd (omega arith)
  shuffle_given f g X Y ms ns h k n p q ((x ∷ c) ∷ []) l e =
      sum-append L F (map (λ I. true ∷ I) (position_sets (length c))) (map (λ I. false ∷ I) (position_sets (length c)))
      ∙ ap₂ R.plus
      (sum-map L F (λ I. true ∷ I) (position_sets (length c))
      ∙ sum_same L _ _ (position_sets (length c)) (λ I i. ap (λ y. R.times y (g (letters_off I c ∷ []))) (p ((x ∷ letters_at I c) ∷ []) l refl))
      ∙ left_given X ms g x c h)
      (sum-map L F (λ I. false ∷ I) (position_sets (length c))
      ∙ sum_same L _ _ (position_sets (length c)) (λ I i. ap (R.times (f (letters_at I c ∷ []))) (q ((x ∷ letters_off I c) ∷ []) l refl))
      ∙ right_given Y ns f x c k)
    where
      F : List Bool → V
      F I = R.times (f (letters_at I (x ∷ c) ∷ [])) (g (letters_off I (x ∷ c) ∷ []))

  -- the same series for each target
  pub brought_alike : (X Y : T → Series V) → ((t : T) (v : Word) → X t v ≡ Y t v) → (w : Word) (ms : List (Item V T)) → brought R X w ms ≡ brought R Y w ms
  brought_alike X Y h w ms = sum_same L _ _ ms (λ m i. ap (R.times m.weight) (at_rest_same R.zero (X m.to) (Y m.to) (cut m.label w) (λ v c. h m.to v)))

  -- the same series for each target, at words of as many tapes
  pub brought_near : (X Y : T → Series V) → ((t : T) (v : Word) → length v ≡ tapes → X t v ≡ Y t v) → (w : Word) → length w ≡ tapes → (ms : List (Item V T)) → brought R X w ms ≡ brought R Y w ms
  brought_near X Y h w l ms = sum_same L _ _ ms (λ m i. ap (R.times m.weight) (go m (cut m.label w) refl))
    where
      go : (m : Item V T) (r : Option Word) → cut m.label w ≡ r → at_rest R.zero (X m.to) r ≡ at_rest R.zero (Y m.to) r
      go m None q = refl
      go m (Some v) q = h m.to v ((join-cut m.label w v q).1 ∙ l)
