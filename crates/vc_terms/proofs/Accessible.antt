-- The accessible terms of a built tree are the tree and its derived terms.
use Rattle.std.proofs.Common.{◌≡◌, ℕ, List, [], ◌∷◌, ◌++◌, map, cond, Bool, true, false, ◌&&◌, refl, sym, ap, ap₂, ◌∙◌, inl, inr, ◌⊎◌, subst, zero, suc, length, ◌≤◌, arith, length-append}
use Rattle.vc_model.specs.WeightSet.{WeightSet, SemiringLaws}
use Rattle.vc_model.specs.Lists.{In, NoRepeat, IsEqualityTest}
use Rattle.vc_model.specs.Machines.{LeadsInto}
use Rattle.vc_model.specs.Members.{In-append_cases, In-append_left, In-append_right, In-map, In-map_from, In-flat_map, In-middle_cases, place_of}
use Rattle.vc_model.specs.Rearranged.{zero_plus}
use Rattle.vc_model.specs.SumLaws.{sum_zero}
use Rattle.vc_model.specs.Words.{Word, same_word}
use Rattle.vc_model.specs.WordLaws.{and_parts, and_both, same_word-true, same_word_refl}
use Rattle.vc_model.specs.Items.{item_key, taken}
use Rattle.vc_terms.specs.ItemLists.{mapped, met_items}
use Rattle.vc_terms.specs.Terms.{Term, Terms, NoTerms, MoreTerms, terms_of, list_of, constant_of, Zero, One, Atom, Sum, Product, Star, Weight, Both, Shuffle}
use Rattle.vc_terms.specs.Trees.{is_zero, is_one}
use Rattle.vc_terms.specs.Identities.{product_of_factors, both_of, shuffle_of}
use Rattle.vc_terms.specs.Expansions.{Entry, product_of_two, expand}
use Rattle.vc_terms.specs.DerivedTerms.{paired, derived_of, derived_of_sum, derived_of_product, Leads}
use Rattle.vc_terms.specs.Forms.{AreFactors, IsBuiltRoot, EverywhereIn, IsBuilt}
use Rattle.vc_terms.specs.Same.{same_term}
use Rattle.vc_terms.specs.ItemLaws.{ItemLaws}
use Rattle.vc_terms.proofs.Forms.{factors_list_of, in_list_of}
use Rattle.vc_terms.proofs.IdentityLaws.{zero_is, one_is, terms_of-list_of}
use Rattle.vc_terms.proofs.DerivedKept.{Each, each-append, each-paired, derived_built}
use Rattle.vc_terms.proofs.Within.{LeadTo, lead-collected, lead-append, lead-mapped, lead-met, within, product-within}
use Rattle.vc_terms.proofs.Rests.{two-expansion}
use Rattle.vc_terms.proofs.Neat.{neat}

-- a list without repeats whose members are in another is no longer
pub no_longer : {X : Type 0} (xs ys : List X) → NoRepeat xs → ((x : X) → In x xs → In x ys) → length xs ≤ length ys
no_longer [] ys n h = omega arith
no_longer (x ∷ xs) ys n h =
    let p = place_of x ys (h x (inl refl)) in
    let k = no_longer xs (p.before ++ p.after) n.1 (λ z i. elim (In-middle_cases z x p.before p.after (subst (λ zs. In z zs) p.is (h z (inr i)))) [
      | inl e ↦ absurd (n.0 (subst (λ w. In w xs) e i))
      | inr j ↦ j
    ]) in
    omega (arith, k, ap length p.is, length-append p.before (x ∷ p.after), length-append p.before p.after)

module _ {V : Type 0} {R : WeightSet V} (L : SemiringLaws R) (equal : V → V → Bool) (Q : IsEqualityTest equal) (T : IsEqualityTest (same_term equal)) (I : ItemLaws R equal) where
  abbrev two : Term V → Term V → Term V
  two t u = product_of_two R equal t u

  -- the expansion of t leads to trees of the list
  abbrev Within : Term V → List (Term V) → Type 0
  Within t ts = LeadTo (expand R equal t) ts

  abbrev AreWithin : List (Term V) → List (Term V) → Type 0
  AreWithin us ts = Each (λ v. Within v ts) us

  -- one at a label and a tree, zero elsewhere
  abbrev mark : Word → Term V → Word → Term V → V
  mark a t b u = cond (same_word b a && same_term equal u t) R.one R.zero

  mark_self : (a : Word) (t : Term V) → mark a t a t ≡ R.one
  mark_self a t = ap (λ b. cond b R.one R.zero) (and_both (same_word a a) (same_term equal t t) (same_word_refl a) ((T t t).1 refl))

  off : (b : Bool) → (b ≡ true → ⊥) → cond b R.one R.zero ≡ R.zero
  off true h = absurd (h refl)
  off false h = refl

  mark_other : (a b : Word) (t u : Term V) → (◌≡◌ {A = Word × Term V} (b, u) (a, t) → ⊥) → mark a t b u ≡ R.zero
  mark_other a b t u h = off (same_word b a && same_term equal u t) (λ p. let r = and_parts (same_word b a) (same_term equal u t) p in h (ap₂ (λ x y. (x, y)) (same_word-true b a r.0) ((T u t).0 r.1)))

  -- the weight of an entry by a sum
  weight_by_mark : (e : Entry V) (xs : List (Entry V)) → NoRepeat (map item_key xs) → In e xs → taken R (mark e.label e.to) xs ≡ e.weight
  weight_by_mark e [] n i = absurd i
  weight_by_mark e (x ∷ xs) n (inl q) =
      ap₂ R.plus
      (subst (λ z. R.times z.weight (mark e.label e.to z.label z.to) ≡ e.weight) q (ap (R.times e.weight) (mark_self e.label e.to) ∙ L.times_one e.weight))
      (sum_zero L _ xs (λ d j. ap (R.times d.weight) (mark_other e.label d.label e.to d.to (λ p. n.0 (subst (λ z. In z (map item_key xs)) (p ∙ ap item_key q) (In-map item_key d xs j)))) ∙ L.times_zero d.weight))
      ∙ L.plus_zero e.weight
  weight_by_mark e (x ∷ xs) n (inr i) =
      ap₂ R.plus
      (ap (R.times x.weight) (mark_other e.label x.label e.to x.to (λ p. n.0 (subst (λ z. In z (map item_key xs)) (sym p) (In-map item_key e xs i)))) ∙ L.times_zero x.weight)
      (weight_by_mark e xs n.1 i)
      ∙ zero_plus L e.weight

  -- a tree is found, or its sum is zero
  found : (a : Word) (t : Term V) (f : Term V → Term V) (xs : List (Entry V)) → ((d : Entry V) × In d xs × (f d.to ≡ t)) ⊎ (taken R (λ b v. mark a t b (f v)) xs ≡ R.zero)
  found a t f [] = inr refl
  found a t f (x ∷ xs) = go (same_term equal (f x.to) t) refl (found a t f xs)
    where
      zero_at : (b : Bool) → b ≡ false → (c : Bool) → R.times x.weight (cond (c && b) R.one R.zero) ≡ R.zero
      zero_at b q true = ap (λ z. R.times x.weight (cond z R.one R.zero)) q ∙ L.times_zero x.weight
      zero_at b q false = L.times_zero x.weight

      go : (b : Bool) → same_term equal (f x.to) t ≡ b → ((d : Entry V) × In d xs × (f d.to ≡ t)) ⊎ (taken R (λ b v. mark a t b (f v)) xs ≡ R.zero) → ((d : Entry V) × In d (x ∷ xs) × (f d.to ≡ t)) ⊎ (taken R (λ b v. mark a t b (f v)) (x ∷ xs) ≡ R.zero)
      go true p r = inl (x, inl refl, (T (f x.to) t).0 p)
      go false p (inl r) = inl (r.0, inr r.1, r.2)
      go false p (inr r) = inr (ap₂ R.plus (zero_at (same_term equal (f x.to) t) p (same_word x.label a)) r ∙ L.plus_zero R.zero)

  -- products
  within-two : (t : Term V) (m : List (Term V)) (ts us : List (Term V)) → IsBuilt R equal t → AreFactors (terms_of m) → EverywhereIn (IsBuiltRoot R equal) (terms_of m) → Within t ts → Within (product_of_factors m) us
      → Within (two t (product_of_factors m)) (map (λ v. two v (product_of_factors m)) ts ++ us)
  within-two t m ts us i F B h g e j =
      let n = neat L equal I (two t (product_of_factors m)) in
      elim (found e.label e.to (λ v. two v (product_of_factors m)) (expand R equal t)) [
        | inl r ↦ In-append_left e.to (map (λ v. two v (product_of_factors m)) ts) us (subst (λ z. In z (map (λ v. two v (product_of_factors m)) ts)) r.2 (In-map (λ v. two v (product_of_factors m)) r.0.to ts (h r.0 r.1)))
        | inr p ↦ elim (found e.label e.to (λ v. v) (expand R equal (product_of_factors m))) [
          | inl r ↦ In-append_right e.to (map (λ v. two v (product_of_factors m)) ts) us (subst (λ z. In z us) r.2 (g r.0 r.1))
          | inr q ↦ absurd (n.weight e j (sym (weight_by_mark e (expand R equal (two t (product_of_factors m))) n.once j) ∙ two-expansion L equal Q I (mark e.label e.to) t m i F B ∙ ap₂ R.plus p (ap (R.times (constant_of R t)) q ∙ L.times_zero (constant_of R t)) ∙ L.plus_zero R.zero))
        ]
      ]

  -- conjunctions
  within-both : (t u : Term V) (ts us : List (Term V)) → Within t ts → Within u us → Within (both_of t u) (paired both_of ts us)
  within-both t u ts us h g = go (is_zero t) (is_zero u)
    where
      go : (a b : Bool) → Within (cond a Zero (cond b Zero (Both t u))) (paired both_of ts us)
      go true b e i = absurd i
      go false true e i = absurd i
      go false false e i = lead-collected R equal I (met_items R both_of (expand R equal t) (expand R equal u)) (paired both_of ts us) (lead-met R equal I both_of (expand R equal t) (expand R equal u) ts us h g) e i

  -- shuffles
  one-shuffle : (v : Term V) → shuffle_of One v ≡ v
  one-shuffle v = go (is_zero v) refl
    where
      go : (b : Bool) → is_zero v ≡ b → cond b Zero v ≡ v
      go true p = sym (zero_is v p)
      go false p = refl

  shuffle-one : (v : Term V) → shuffle_of v One ≡ v
  shuffle-one v = go (is_zero v) (is_one v) refl refl
    where
      go : (a b : Bool) → is_zero v ≡ a → is_one v ≡ b → cond a Zero (cond b One v) ≡ v
      go true b p q = sym (zero_is v p)
      go false true p q = sym (one_is v q)
      go false false p q = refl

  within-shuffle : (t u : Term V) (ts us : List (Term V)) → Within t ts → Within u us → Within (shuffle_of t u) (map (λ v. shuffle_of v u) ts ++ map (λ v. shuffle_of t v) us)
  within-shuffle t u ts us h g = go (is_zero t) (is_zero u) (is_one t) (is_one u) refl refl
    where
      go : (a b c d : Bool) → is_one t ≡ c → is_one u ≡ d → Within (cond a Zero (cond b Zero (cond c u (cond d t (Shuffle t u))))) (map (λ v. shuffle_of v u) ts ++ map (λ v. shuffle_of t v) us)
      go true b c d p q e i = absurd i
      go false true c d p q e i = absurd i
      go false false true d p q e i = In-append_right e.to (map (λ v. shuffle_of v u) ts) (map (λ v. shuffle_of t v) us)
          (subst (λ z. In z (map (λ v. shuffle_of t v) us)) (ap (λ x. shuffle_of x e.to) (one_is t p) ∙ one-shuffle e.to) (In-map (λ v. shuffle_of t v) e.to us (g e i)))
      go false false false true p q e i = In-append_left e.to (map (λ v. shuffle_of v u) ts) (map (λ v. shuffle_of t v) us)
          (subst (λ z. In z (map (λ v. shuffle_of v u) ts)) (ap (λ x. shuffle_of e.to x) (one_is u q) ∙ shuffle-one e.to) (In-map (λ v. shuffle_of v u) e.to ts (h e i)))
      go false false false false p q e i =
          lead-collected R equal I (mapped (λ v. shuffle_of v u) (expand R equal t) ++ mapped (λ v. shuffle_of t v) (expand R equal u)) (map (λ v. shuffle_of v u) ts ++ map (λ v. shuffle_of t v) us)
          (lead-append R equal I (mapped (λ v. shuffle_of v u) (expand R equal t)) (mapped (λ v. shuffle_of t v) (expand R equal u)) (map (λ v. shuffle_of v u) ts) (map (λ v. shuffle_of t v) us)
          (lead-mapped R equal I (λ v. shuffle_of v u) (expand R equal t) ts h) (lead-mapped R equal I (λ v. shuffle_of t v) (expand R equal u) us g)) e i

  widen : (t : Term V) (ts us : List (Term V)) → ((v : Term V) → In v ts → In v us) → Within t ts → Within t us
  widen t ts us f h e i = f e.to (h e i)

  within-rest : (ts : Terms V) → Within (product_of_factors (list_of ts)) (derived_of_product R equal ts)
  within-rest NoTerms = λ e i. absurd i
  within-rest (MoreTerms t NoTerms) = within R equal I t
  within-rest (MoreTerms t (MoreTerms u us)) = subst (λ z. Within (Product (MoreTerms t (MoreTerms u z))) (derived_of_product R equal (MoreTerms t (MoreTerms u us)))) (sym (terms_of-list_of us)) (product-within R equal I (MoreTerms t (MoreTerms u us)))

  in_pairs : (v z : Term V) (ts us : List (Term V)) → In v ts → In z us → In (shuffle_of v z) (paired shuffle_of ts us)
  in_pairs v z ts us i j = In-flat_map (λ (x : Term V). map (shuffle_of x) us) (shuffle_of v z) v ts i (In-map (shuffle_of v) z us j)

  -- the parts of the derived terms of a shuffle
  module _ (t u : Term V) where
    abbrev pairs : List (Term V)
    pairs = paired shuffle_of (derived_of R equal t) (derived_of R equal u)

    abbrev lefts : List (Term V)
    lefts = map (λ x. shuffle_of x u) (derived_of R equal t)

    abbrev rights : List (Term V)
    rights = map (λ y. shuffle_of t y) (derived_of R equal u)

    abbrev All : List (Term V)
    All = derived_of R equal (Shuffle t u)

    from_pairs : (x : Term V) → In x pairs → In x All
    from_pairs x i = In-append_left x pairs (lefts ++ rights) i

    from_lefts : (x : Term V) → In x lefts → In x All
    from_lefts x i = In-append_right x pairs (lefts ++ rights) (In-append_left x lefts rights i)

    from_rights : (x : Term V) → In x rights → In x All
    from_rights x i = In-append_right x pairs (lefts ++ rights) (In-append_right x lefts rights i)

    two_sides : (v z : Term V) → Within v (derived_of R equal t) → Within z (derived_of R equal u)
        → ((x : Term V) → In x (derived_of R equal t) → In (shuffle_of x z) All) → ((y : Term V) → In y (derived_of R equal u) → In (shuffle_of v y) All)
        → Within (shuffle_of v z) All
    two_sides v z h g f k = widen (shuffle_of v z) (map (λ y. shuffle_of y z) (derived_of R equal t) ++ map (λ y. shuffle_of v y) (derived_of R equal u)) All
        (λ x i. elim (In-append_cases x (map (λ y. shuffle_of y z) (derived_of R equal t)) (map (λ y. shuffle_of v y) (derived_of R equal u)) i) [
          | inl j ↦ let r = In-map_from (λ y. shuffle_of y z) x (derived_of R equal t) j in subst (λ y. In y All) (sym r.2) (f r.0 r.1)
          | inr j ↦ let r = In-map_from (λ y. shuffle_of v y) x (derived_of R equal u) j in subst (λ y. In y All) (sym r.2) (k r.0 r.1)
        ]) (within-shuffle v z (derived_of R equal t) (derived_of R equal u) h g)

    shuffle-closed : AreWithin (derived_of R equal t) (derived_of R equal t) → AreWithin (derived_of R equal u) (derived_of R equal u) → AreWithin All All
    shuffle-closed h g = each-append (λ v. Within v All) pairs (lefts ++ rights)
        (each-paired (λ v. Within v All) shuffle_of (derived_of R equal t) (derived_of R equal u) (λ v z i j. two_sides v z (h v i) (g z j)
        (λ x k. from_pairs (shuffle_of x z) (in_pairs x z (derived_of R equal t) (derived_of R equal u) k j)) (λ y k. from_pairs (shuffle_of v y) (in_pairs v y (derived_of R equal t) (derived_of R equal u) i k))))
        (each-append (λ v. Within v All) lefts rights
        (λ v i. let r = In-map_from (λ x. shuffle_of x u) v (derived_of R equal t) i in subst (λ z. Within z All) (sym r.2) (two_sides r.0 u (h r.0 r.1) (within R equal I u)
        (λ x k. from_lefts (shuffle_of x u) (In-map (λ x. shuffle_of x u) x (derived_of R equal t) k)) (λ y k. from_pairs (shuffle_of r.0 y) (in_pairs r.0 y (derived_of R equal t) (derived_of R equal u) r.1 k))))
        (λ v i. let r = In-map_from (λ y. shuffle_of t y) v (derived_of R equal u) i in subst (λ z. Within z All) (sym r.2) (two_sides t r.0 (within R equal I t) (g r.0 r.1)
        (λ x k. from_pairs (shuffle_of x r.0) (in_pairs x r.0 (derived_of R equal t) (derived_of R equal u) k r.1)) (λ y k. from_rights (shuffle_of t y) (In-map (λ y. shuffle_of t y) y (derived_of R equal u) k)))))

  -- the expansion of a derived term leads to derived terms
  mutual
    pub derived-closed : (t : Term V) → IsBuilt R equal t → AreWithin (derived_of R equal t) (derived_of R equal t)
    derived-closed Zero i v j = absurd j
    derived-closed One i v j = absurd j
    derived-closed (Atom a) i v j = elim j [ inl q ↦ subst (λ z. Within z (One ∷ [])) (sym q) (λ e k. absurd k) | inr n ↦ absurd n ]
    derived-closed (Sum ts) i v j = sum-closed ts i.1 v j
    derived-closed (Product ts) i v j = product-closed ts i.0.0 i.1 v j
    derived-closed (Star t) i v j =
        let r = In-map_from (λ x. two x (Star t)) v (derived_of R equal t) j in
        subst (λ z. Within z (derived_of R equal (Star t))) (sym r.2)
        (widen (two r.0 (Star t)) (derived_of R equal (Star t) ++ derived_of R equal (Star t)) (derived_of R equal (Star t)) (λ x k. elim (In-append_cases x (derived_of R equal (Star t)) (derived_of R equal (Star t)) k) [ inl l ↦ l | inr l ↦ l ])
        (within-two r.0 (Star t ∷ []) (derived_of R equal t) (derived_of R equal (Star t)) (derived_built R equal t i.1 r.0 r.1) (tt, tt) (i, tt) (derived-closed t i.1 r.0 r.1) (within R equal I (Star t))))
    derived-closed (Weight k t) i v j = derived-closed t i.1 v j
    derived-closed (Both t u) i v j =
        each-paired (λ v. Within v (derived_of R equal (Both t u))) both_of (derived_of R equal t) (derived_of R equal u) (λ x y k l. within-both x y (derived_of R equal t) (derived_of R equal u) (derived-closed t i.1 x k) (derived-closed u i.2 y l)) v j
    derived-closed (Shuffle t u) i v j = shuffle-closed t u (derived-closed t i.1) (derived-closed u i.2) v j

    pub sum-closed : (ts : Terms V) → EverywhereIn (IsBuiltRoot R equal) ts → AreWithin (derived_of_sum R equal ts) (derived_of_sum R equal ts)
    sum-closed NoTerms i v j = absurd j
    sum-closed (MoreTerms t ts) i v j = elim (In-append_cases v (derived_of R equal t) (derived_of_sum R equal ts) j) [
      | inl k ↦ widen v (derived_of R equal t) (derived_of R equal t ++ derived_of_sum R equal ts) (λ x l. In-append_left x (derived_of R equal t) (derived_of_sum R equal ts) l) (derived-closed t i.0 v k)
      | inr k ↦ widen v (derived_of_sum R equal ts) (derived_of R equal t ++ derived_of_sum R equal ts) (λ x l. In-append_right x (derived_of R equal t) (derived_of_sum R equal ts) l) (sum-closed ts i.1 v k)
    ]

    pub product-closed : (ts : Terms V) → AreFactors ts → EverywhereIn (IsBuiltRoot R equal) ts → AreWithin (derived_of_product R equal ts) (derived_of_product R equal ts)
    product-closed NoTerms F i v j = absurd j
    product-closed (MoreTerms t NoTerms) F i v j = derived-closed t i.0 v j
    product-closed (MoreTerms t (MoreTerms u us)) F i v j =
        elim (In-append_cases v (map (λ x. two x (product_of_factors (list_of (MoreTerms u us)))) (derived_of R equal t)) (derived_of_product R equal (MoreTerms u us)) j) [
          | inl k ↦
              let r = In-map_from (λ x. two x (product_of_factors (list_of (MoreTerms u us)))) v (derived_of R equal t) k in
              subst (λ z. Within z (derived_of_product R equal (MoreTerms t (MoreTerms u us)))) (sym r.2)
              (within-two r.0 (list_of (MoreTerms u us)) (derived_of R equal t) (derived_of_product R equal (MoreTerms u us)) (derived_built R equal t i.0 r.0 r.1)
              (factors_list_of (MoreTerms u us) F.1) (in_list_of (IsBuiltRoot R equal) (MoreTerms u us) i.1) (derived-closed t i.0 r.0 r.1) (within-rest (MoreTerms u us)))
          | inr k ↦ widen v (derived_of_product R equal (MoreTerms u us)) (derived_of_product R equal (MoreTerms t (MoreTerms u us))) (λ x l. In-append_right x (map (λ x. two x (product_of_factors (list_of (MoreTerms u us)))) (derived_of R equal t)) (derived_of_product R equal (MoreTerms u us)) l) (product-closed (MoreTerms u us) F.1 i.1 v k)
        ]

  pub accessible : (t : Term V) → IsBuilt R equal t → (n : ℕ) (u : Term V) → Leads R equal n t u → (u ≡ t) ⊎ In u (derived_of R equal t)
  accessible t i zero u h = inl h
  accessible t i (suc n) u h =
      let r = In-map_from (λ (e : Entry V). e.to) u (expand R equal h.0) h.2 in
      subst (λ z. (z ≡ t) ⊎ In z (derived_of R equal t)) (sym r.2) (elim (accessible t i n h.0 h.1) [
        | inl q ↦ inr (within R equal I t r.0 (subst (λ z. In r.0 (expand R equal z)) q r.1))
        | inr j ↦ inr (derived-closed t i h.0 j r.0 r.1)
      ])

  pub all-closed : (t : Term V) → IsBuilt R equal t → LeadsInto (expand R equal) (t ∷ derived_of R equal t)
  all-closed t i u (inl q) e j = inr (within R equal I t e (subst (λ z. In e (expand R equal z)) q j))
  all-closed t i u (inr k) e j = inr (derived-closed t i u k e j)
