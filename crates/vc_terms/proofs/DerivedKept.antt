-- What goes from a tree to its derived terms.
use Rattle.std.proofs.Common.{ℕ, List, [], ◌∷◌, ◌++◌, map, Bool, sym, subst, inl, inr}
use Rattle.vc_model.specs.WeightSet.{WeightSet}
use Rattle.vc_model.specs.Lists.{In}
use Rattle.vc_model.specs.Members.{In-append_cases, In-map_from, In-flat_map_from}
use Rattle.vc_model.specs.Words.{Word, IsLetter}
use Rattle.vc_terms.specs.Terms.{Term, Terms, NoTerms, MoreTerms, list_of, Zero, One, Atom, Sum, Product, Star, Weight, Both, Shuffle, HasTapes, HaveTapes, IsValid, AreValid}
use Rattle.vc_terms.specs.Identities.{product_of_factors, both_of, shuffle_of}
use Rattle.vc_terms.specs.Expansions.{product_of_two, AtomsAre, AllAtomsAre, JoinsLetters, AllJoinLetters}
use Rattle.vc_terms.specs.DerivedTerms.{paired, derived_of, derived_of_sum, derived_of_product}
use Rattle.vc_terms.specs.Forms.{AreFactors, IsBuiltRoot, EverywhereIn, IsBuilt}
use Rattle.vc_terms.specs.Kept.{IsKept}
use Rattle.vc_terms.proofs.Forms.{factors_list_of, in_list_of, product_built, close_product, both_built, shuffle_built}
use Rattle.vc_terms.specs.KeptTrees.{product_kept, close_product_kept, listed, both_kept, shuffle_kept}
use Rattle.vc_terms.proofs.KeptLaws.{tapes_kept, valid_kept}

-- each tree of the list has P
abbrev pub Each : {V : Type 0} → (Term V → Type 0) → List (Term V) → Type 0
Each {V} P ts = (t : Term V) → In t ts → P t

module _ {V : Type 0} where
  each-map : (P Q : Term V → Type 0) (f : Term V → Term V) (ts : List (Term V)) → Each P ts → ((t : Term V) → P t → Q (f t)) → Each Q (map f ts)
  each-map P Q f ts h g t i = let r = In-map_from f t ts i in subst Q (sym r.2) (g r.0 (h r.0 r.1))

  pub each-append : (P : Term V → Type 0) (ts us : List (Term V)) → Each P ts → Each P us → Each P (ts ++ us)
  each-append P ts us h g t i = elim (In-append_cases t ts us i) [ inl j ↦ h t j | inr j ↦ g t j ]

  pub each-paired : (P : Term V → Type 0) (f : Term V → Term V → Term V) (ts us : List (Term V)) → ((t u : Term V) → In t ts → In u us → P (f t u)) → Each P (paired f ts us)
  each-paired P f ts us h v i =
      let r = In-flat_map_from (λ (t : Term V). map (f t) us) v ts i in
      let s = In-map_from (f r.0) v us r.2 in
      subst P (sym s.2) (h r.0 s.0 r.1 s.1)

-- P goes from a tree to its parts, and from parts to what is built for derived terms; A is what the operands of conjunctions and shuffles have besides
record GoesDown {V : Type 0} (R : WeightSet V) (equal : V → V → Bool) (P A : Term V → Type 0) (SS PS : Terms V → Type 0) : Type 0 where
  one : P One
  sum : (ts : Terms V) → P (Sum ts) → SS ts
  sum_first : (t : Term V) (ts : Terms V) → SS (MoreTerms t ts) → P t
  sum_rest : (t : Term V) (ts : Terms V) → SS (MoreTerms t ts) → SS ts
  product : (ts : Terms V) → P (Product ts) → PS ts
  product_first : (t : Term V) (ts : Terms V) → PS (MoreTerms t ts) → P t
  product_rest : (t : Term V) (ts : Terms V) → PS (MoreTerms t ts) → PS ts
  close : (ts : Terms V) → PS ts → P (product_of_factors (list_of ts))
  two : (t u : Term V) → P t → P u → P (product_of_two R equal t u)
  star : (t : Term V) → P (Star t) → P t
  weight : (k : V) (t : Term V) → P (Weight k t) → P t
  both_parts : (t u : Term V) → P (Both t u) → P t × P u
  both_besides : (t u : Term V) → P (Both t u) → A t × A u
  both : (t u v z : Term V) → P (Both t u) → A v → A z → P v → P z → P (both_of v z)
  shuffle_parts : (t u : Term V) → P (Shuffle t u) → P t × P u
  shuffle_besides : (t u : Term V) → P (Shuffle t u) → A t × A u
  shuffle : (t u v z : Term V) → P (Shuffle t u) → A v → A z → P v → P z → P (shuffle_of v z)

module _ {V : Type 0} (R : WeightSet V) (equal : V → V → Bool) (P A : Term V → Type 0) (SS PS : Terms V → Type 0) (G : GoesDown R equal P A SS PS) (besides : (t : Term V) → A t → Each A (derived_of R equal t)) where
  mutual
    goes_down : (t : Term V) → P t → Each P (derived_of R equal t)
    goes_down Zero i = λ v j. absurd j
    goes_down One i = λ v j. absurd j
    goes_down (Atom a) i = λ v j. elim j [ inl q ↦ subst P (sym q) G.one | inr n ↦ absurd n ]
    goes_down (Sum ts) i = sum_goes_down ts (G.sum ts i)
    goes_down (Product ts) i = product_goes_down ts (G.product ts i)
    goes_down (Star t) i = each-map P P (λ v. product_of_two R equal v (Star t)) (derived_of R equal t) (goes_down t (G.star t i)) (λ v j. G.two v (Star t) j i)
    goes_down (Weight k t) i = goes_down t (G.weight k t i)
    goes_down (Both t u) i =
        let p = G.both_parts t u i in
        let b = G.both_besides t u i in
        each-paired P both_of (derived_of R equal t) (derived_of R equal u) (λ v z j k. G.both t u v z i (besides t b.0 v j) (besides u b.1 z k) (goes_down t p.0 v j) (goes_down u p.1 z k))
    goes_down (Shuffle t u) i =
        let p = G.shuffle_parts t u i in
        let b = G.shuffle_besides t u i in
        each-append P (paired shuffle_of (derived_of R equal t) (derived_of R equal u)) (map (λ v. shuffle_of v u) (derived_of R equal t) ++ map (λ v. shuffle_of t v) (derived_of R equal u))
        (each-paired P shuffle_of (derived_of R equal t) (derived_of R equal u) (λ v z j k. G.shuffle t u v z i (besides t b.0 v j) (besides u b.1 z k) (goes_down t p.0 v j) (goes_down u p.1 z k)))
        (each-append P (map (λ v. shuffle_of v u) (derived_of R equal t)) (map (λ v. shuffle_of t v) (derived_of R equal u))
        (λ x j. let r = In-map_from (λ v. shuffle_of v u) x (derived_of R equal t) j in subst P (sym r.2) (G.shuffle t u r.0 u i (besides t b.0 r.0 r.1) b.1 (goes_down t p.0 r.0 r.1) p.1))
        (λ x j. let r = In-map_from (λ v. shuffle_of t v) x (derived_of R equal u) j in subst P (sym r.2) (G.shuffle t u t r.0 i b.0 (besides u b.1 r.0 r.1) p.0 (goes_down u p.1 r.0 r.1))))

    sum_goes_down : (ts : Terms V) → SS ts → Each P (derived_of_sum R equal ts)
    sum_goes_down NoTerms i = λ v j. absurd j
    sum_goes_down (MoreTerms t ts) i = each-append P (derived_of R equal t) (derived_of_sum R equal ts) (goes_down t (G.sum_first t ts i)) (sum_goes_down ts (G.sum_rest t ts i))

    product_goes_down : (ts : Terms V) → PS ts → Each P (derived_of_product R equal ts)
    product_goes_down NoTerms i = λ v j. absurd j
    product_goes_down (MoreTerms t NoTerms) i = goes_down t (G.product_first t NoTerms i)
    product_goes_down (MoreTerms t (MoreTerms u us)) i =
        each-append P (map (λ v. product_of_two R equal v (product_of_factors (list_of (MoreTerms u us)))) (derived_of R equal t)) (derived_of_product R equal (MoreTerms u us))
        (each-map P P (λ v. product_of_two R equal v (product_of_factors (list_of (MoreTerms u us)))) (derived_of R equal t) (goes_down t (G.product_first t (MoreTerms u us) i))
        (λ v j. G.two v (product_of_factors (list_of (MoreTerms u us))) j (G.close (MoreTerms u us) (G.product_rest t (MoreTerms u us) i))))
        (product_goes_down (MoreTerms u us) (G.product_rest t (MoreTerms u us) i))

module _ {V : Type 0} (R : WeightSet V) (equal : V → V → Bool) where
  -- nothing besides
  abbrev Nothing : Term V → Type 0
  Nothing t = Unit {0}

  none : (t : Term V) → Nothing t → Each Nothing (derived_of R equal t)
  none t i v j = tt

  module _ (P : Term V → Type 0) (PS : Terms V → Type 0) (K : IsKept P PS) where
    pub two-kept : (t u : Term V) → P t → P u → P (product_of_two R equal t u)
    two-kept t u h k = product_kept R equal P PS K (t ∷ u ∷ []) (K.more t (MoreTerms u NoTerms) h (K.more u NoTerms k K.none))

    pub close-kept : (ts : Terms V) → PS ts → P (product_of_factors (list_of ts))
    close-kept ts h = close_product_kept R equal P PS K (list_of ts) (listed R equal P PS K ts h)

  atoms_kept : (Q : Word → Type 0) → IsKept {V = V} (AtomsAre Q) (AllAtomsAre Q)
  atoms_kept Q = record {
    zero = tt;
    one = tt;
    none = tt;
    more = λ t ts h k. (h, k);
    first = λ t ts h. h.0;
    others = λ t ts h. h.1;
    sum = λ ts h. h;
    members = λ ts h. h;
    product = λ ts h. h;
    factors = λ ts h. h;
    weight = λ k t h. h;
    body = λ k t h. h;
  }

  joins_kept : (tapes : ℕ) → IsKept {V = V} (JoinsLetters tapes) (AllJoinLetters tapes)
  joins_kept tapes = record {
    zero = tt;
    one = tt;
    none = tt;
    more = λ t ts h k. (h, k);
    first = λ t ts h. h.0;
    others = λ t ts h. h.1;
    sum = λ ts h. h;
    members = λ ts h. h;
    product = λ ts h. h;
    factors = λ ts h. h;
    weight = λ k t h. h;
    body = λ k t h. h;
  }

  atoms_down : (Q : Word → Type 0) → GoesDown R equal (AtomsAre Q) Nothing (AllAtomsAre Q) (AllAtomsAre Q)
  atoms_down Q = record {
    one = tt;
    sum = λ ts h. h;
    sum_first = λ t ts h. h.0;
    sum_rest = λ t ts h. h.1;
    product = λ ts h. h;
    product_first = λ t ts h. h.0;
    product_rest = λ t ts h. h.1;
    close = close-kept (AtomsAre Q) (AllAtomsAre Q) (atoms_kept Q);
    two = two-kept (AtomsAre Q) (AllAtomsAre Q) (atoms_kept Q);
    star = λ t h. h;
    weight = λ k t h. h;
    both_parts = λ t u h. h;
    both_besides = λ t u h. (tt, tt);
    both = λ t u v z h a b p q. both_kept R equal (AtomsAre Q) (AllAtomsAre Q) (atoms_kept Q) v z (p, q);
    shuffle_parts = λ t u h. h;
    shuffle_besides = λ t u h. (tt, tt);
    shuffle = λ t u v z h a b p q. shuffle_kept R equal (AtomsAre Q) (AllAtomsAre Q) (atoms_kept Q) v z p q (p, q);
  }

  pub derived_atoms : (Q : Word → Type 0) (t : Term V) → AtomsAre Q t → Each (AtomsAre Q) (derived_of R equal t)
  derived_atoms Q = goes_down R equal (AtomsAre Q) Nothing (AllAtomsAre Q) (AllAtomsAre Q) (atoms_down Q) none

  tapes_down : (tapes : ℕ) → GoesDown R equal (HasTapes tapes) Nothing (HaveTapes tapes) (HaveTapes tapes)
  tapes_down tapes = record {
    one = tt;
    sum = λ ts h. h;
    sum_first = λ t ts h. h.0;
    sum_rest = λ t ts h. h.1;
    product = λ ts h. h;
    product_first = λ t ts h. h.0;
    product_rest = λ t ts h. h.1;
    close = close-kept (HasTapes tapes) (HaveTapes tapes) (tapes_kept R equal tapes);
    two = two-kept (HasTapes tapes) (HaveTapes tapes) (tapes_kept R equal tapes);
    star = λ t h. h;
    weight = λ k t h. h;
    both_parts = λ t u h. h;
    both_besides = λ t u h. (tt, tt);
    both = λ t u v z h a b p q. both_kept R equal (HasTapes tapes) (HaveTapes tapes) (tapes_kept R equal tapes) v z (p, q);
    shuffle_parts = λ t u h. (h.1, h.2);
    shuffle_besides = λ t u h. (tt, tt);
    shuffle = λ t u v z h a b p q. shuffle_kept R equal (HasTapes tapes) (HaveTapes tapes) (tapes_kept R equal tapes) v z p q (h.0, p, q);
  }

  pub derived_tapes : (tapes : ℕ) (t : Term V) → HasTapes tapes t → Each (HasTapes tapes) (derived_of R equal t)
  derived_tapes tapes = goes_down R equal (HasTapes tapes) Nothing (HaveTapes tapes) (HaveTapes tapes) (tapes_down tapes) none

  valid_down : (tapes : ℕ) → GoesDown R equal (IsValid R tapes) Nothing (AreValid R tapes) (AreValid R tapes)
  valid_down tapes = record {
    one = tt;
    sum = λ ts h. h;
    sum_first = λ t ts h. h.0;
    sum_rest = λ t ts h. h.1;
    product = λ ts h. h;
    product_first = λ t ts h. h.0;
    product_rest = λ t ts h. h.1;
    close = close-kept (IsValid R tapes) (AreValid R tapes) (valid_kept R equal tapes);
    two = two-kept (IsValid R tapes) (AreValid R tapes) (valid_kept R equal tapes);
    star = λ t h. h.0;
    weight = λ k t h. h;
    both_parts = λ t u h. h;
    both_besides = λ t u h. (tt, tt);
    both = λ t u v z h a b p q. both_kept R equal (IsValid R tapes) (AreValid R tapes) (valid_kept R equal tapes) v z (p, q);
    shuffle_parts = λ t u h. h;
    shuffle_besides = λ t u h. (tt, tt);
    shuffle = λ t u v z h a b p q. shuffle_kept R equal (IsValid R tapes) (AreValid R tapes) (valid_kept R equal tapes) v z p q (p, q);
  }

  pub derived_valid : (tapes : ℕ) (t : Term V) → IsValid R tapes t → Each (IsValid R tapes) (derived_of R equal t)
  derived_valid tapes = goes_down R equal (IsValid R tapes) Nothing (AreValid R tapes) (AreValid R tapes) (valid_down tapes) none

  joins_down : (tapes : ℕ) → GoesDown R equal (JoinsLetters tapes) (AtomsAre IsLetter) (AllJoinLetters tapes) (AllJoinLetters tapes)
  joins_down tapes = record {
    one = tt;
    sum = λ ts h. h;
    sum_first = λ t ts h. h.0;
    sum_rest = λ t ts h. h.1;
    product = λ ts h. h;
    product_first = λ t ts h. h.0;
    product_rest = λ t ts h. h.1;
    close = close-kept (JoinsLetters tapes) (AllJoinLetters tapes) (joins_kept tapes);
    two = two-kept (JoinsLetters tapes) (AllJoinLetters tapes) (joins_kept tapes);
    star = λ t h. h;
    weight = λ k t h. h;
    both_parts = λ t u h. (h.3, h.4);
    both_besides = λ t u h. (h.1, h.2);
    both = λ t u v z h a b p q. both_kept R equal (JoinsLetters tapes) (AllJoinLetters tapes) (joins_kept tapes) v z (h.0, a, b, p, q);
    shuffle_parts = λ t u h. (h.3, h.4);
    shuffle_besides = λ t u h. (h.1, h.2);
    shuffle = λ t u v z h a b p q. shuffle_kept R equal (JoinsLetters tapes) (AllJoinLetters tapes) (joins_kept tapes) v z p q (h.0, a, b, p, q);
  }

  pub derived_joins : (tapes : ℕ) (t : Term V) → JoinsLetters tapes t → Each (JoinsLetters tapes) (derived_of R equal t)
  derived_joins tapes = goes_down R equal (JoinsLetters tapes) (AtomsAre IsLetter) (AllJoinLetters tapes) (AllJoinLetters tapes) (joins_down tapes) (derived_atoms IsLetter)

  -- of built trees: the factors of a product are factors
  abbrev Built : Term V → Type 0
  Built t = IsBuilt R equal t

  abbrev BuiltIn : Terms V → Type 0
  BuiltIn ts = EverywhereIn (IsBuiltRoot R equal) ts

  abbrev BuiltFactors : Terms V → Type 0
  BuiltFactors ts = AreFactors ts × BuiltIn ts

  built_down : GoesDown R equal Built Nothing BuiltIn BuiltFactors
  built_down = record {
    one = tt;
    sum = λ ts h. h.1;
    sum_first = λ t ts h. h.0;
    sum_rest = λ t ts h. h.1;
    product = λ ts h. (h.0.0, h.1);
    product_first = λ t ts h. h.1.0;
    product_rest = λ t ts h. (h.0.1, h.1.1);
    close = λ ts h. close_product R equal (list_of ts) (factors_list_of ts h.0) (in_list_of (IsBuiltRoot R equal) ts h.1);
    two = λ t u h k. product_built R equal (t ∷ u ∷ []) (h, (k, tt));
    star = λ t h. h.1;
    weight = λ k t h. h.1;
    both_parts = λ t u h. (h.1, h.2);
    both_besides = λ t u h. (tt, tt);
    both = λ t u v z h a b p q. both_built R equal v z p q;
    shuffle_parts = λ t u h. (h.1, h.2);
    shuffle_besides = λ t u h. (tt, tt);
    shuffle = λ t u v z h a b p q. shuffle_built R equal v z p q;
  }

  pub derived_built : (t : Term V) → IsBuilt R equal t → Each Built (derived_of R equal t)
  derived_built = goes_down R equal Built Nothing BuiltIn BuiltFactors built_down none

  pub product_derived_built : (ts : Terms V) → AreFactors ts → EverywhereIn (IsBuiltRoot R equal) ts → Each Built (derived_of_product R equal ts)
  product_derived_built ts f i = product_goes_down R equal Built Nothing BuiltIn BuiltFactors built_down none ts (f, i)
