-- The expansion of a tree leads to derived terms.
use Rattle.std.proofs.Common.{List, [], ◌++◌, map, cond, Bool, true, false, sym, ap, inl, inr, subst}
use Rattle.std.specs.List.{filter}
use Rattle.vc_model.specs.WeightSet.{WeightSet}
use Rattle.vc_model.specs.Lists.{In}
use Rattle.vc_model.specs.Members.{In-append_cases, In-append_left, In-append_right, In-map, In-map_from, In-flat_map, In-flat_map_from, In-filter_from}
use Rattle.vc_model.specs.Series.{star_or_zero}
use Rattle.vc_model.specs.Words.{same_word}
use Rattle.vc_terms.specs.ItemLists.{mapped, scaled_items, met_items}
use Rattle.vc_terms.specs.Terms.{Term, Terms, NoTerms, MoreTerms, list_of, constant_of, Zero, One, Atom, Sum, Product, Star, Weight, Both, Shuffle}
use Rattle.vc_terms.specs.Identities.{product_of_factors, both_of, shuffle_of}
use Rattle.vc_terms.specs.Expansions.{Entry, collected, product_of_two, expand, expand_sum, expand_product}
use Rattle.vc_terms.specs.DerivedTerms.{paired, derived_of, derived_of_sum, derived_of_product}
use Rattle.vc_terms.specs.ItemLaws.{ItemLaws}

-- the entries lead to trees of the list
abbrev pub LeadTo : {V : Type 0} → List (Entry V) → List (Term V) → Type 0
LeadTo {V} xs ts = (e : Entry V) → In e xs → In e.to ts

module _ {V : Type 0} (R : WeightSet V) (equal : V → V → Bool) (I : ItemLaws R equal) where
  pub lead-collected : (xs : List (Entry V)) (ts : List (Term V)) → LeadTo xs ts → LeadTo (collected R equal xs) ts
  lead-collected xs ts h e i = let r = I.sources e xs i in subst (λ z. In z ts) (ap (λ k. k.1) r.2) (h r.0 r.1)

  lead-scaled : (k : V) (xs : List (Entry V)) (ts : List (Term V)) → LeadTo xs ts → LeadTo (scaled_items R k xs) ts
  lead-scaled k xs ts h e i =
      let r = In-map_from (λ (d : Entry V). record { label = d.label; weight = R.times k d.weight; to = d.to }) e xs i in
      subst (λ z. In z ts) (sym (ap (λ d. d.to) r.2)) (h r.0 r.1)

  pub lead-mapped : (f : Term V → Term V) (xs : List (Entry V)) (ts : List (Term V)) → LeadTo xs ts → LeadTo (mapped f xs) (map f ts)
  lead-mapped f xs ts h e i =
      let r = In-map_from (λ (d : Entry V). record { label = d.label; weight = d.weight; to = f d.to }) e xs i in
      subst (λ z. In z (map f ts)) (sym (ap (λ d. d.to) r.2)) (In-map f r.0.to ts (h r.0 r.1))

  pub lead-append : (xs ys : List (Entry V)) (ts us : List (Term V)) → LeadTo xs ts → LeadTo ys us → LeadTo (xs ++ ys) (ts ++ us)
  lead-append xs ys ts us h g e i = elim (In-append_cases e xs ys i) [ inl j ↦ In-append_left e.to ts us (h e j) | inr j ↦ In-append_right e.to ts us (g e j) ]

  lead-if : (b : Bool) (xs : List (Entry V)) (ts : List (Term V)) → LeadTo xs ts → LeadTo (cond b [] xs) ts
  lead-if true xs ts h e i = absurd i
  lead-if false xs ts h e i = h e i

  pub lead-met : (f : Term V → Term V → Term V) (xs ys : List (Entry V)) (ts us : List (Term V)) → LeadTo xs ts → LeadTo ys us → LeadTo (met_items R f xs ys) (paired f ts us)
  lead-met f xs ys ts us h g e i =
      let r = In-flat_map_from (λ (d : Entry V). map (λ (c : Entry V). record { label = d.label; weight = R.times d.weight c.weight; to = f d.to c.to }) (filter (λ (c : Entry V). same_word d.label c.label) ys)) e xs i in
      let q = In-map_from (λ (c : Entry V). record { label = r.0.label; weight = R.times r.0.weight c.weight; to = f r.0.to c.to }) e (filter (λ (c : Entry V). same_word r.0.label c.label) ys) r.2 in
      let m = In-filter_from (λ (c : Entry V). same_word r.0.label c.label) q.0 ys q.1 in
      subst (λ z. In z (paired f ts us)) (sym (ap (λ d. d.to) q.2))
      (In-flat_map (λ (t : Term V). map (f t) us) (f r.0.to q.0.to) r.0.to ts (h r.0 r.1) (In-map (f r.0.to) q.0.to us (g q.0 m.0)))

  mutual
    pub within : (t : Term V) → LeadTo (expand R equal t) (derived_of R equal t)
    within Zero = λ e i. absurd i
    within One = λ e i. absurd i
    within (Atom a) = λ e i. elim i [ inl q ↦ inl (ap (λ d. d.to) q) | inr n ↦ absurd n ]
    within (Sum ts) = lead-collected (expand_sum R equal ts) (derived_of_sum R equal ts) (sum-within ts)
    within (Product ts) = product-within ts
    within (Star t) =
        lead-collected (scaled_items R (star_or_zero R (constant_of R t)) (mapped (λ v. product_of_two R equal v (Star t)) (expand R equal t))) (derived_of R equal (Star t))
        (lead-scaled (star_or_zero R (constant_of R t)) (mapped (λ v. product_of_two R equal v (Star t)) (expand R equal t)) (derived_of R equal (Star t))
        (lead-mapped (λ v. product_of_two R equal v (Star t)) (expand R equal t) (derived_of R equal t) (within t)))
    within (Weight k t) = lead-collected (scaled_items R k (expand R equal t)) (derived_of R equal t) (lead-scaled k (expand R equal t) (derived_of R equal t) (within t))
    within (Both t u) =
        lead-collected (met_items R both_of (expand R equal t) (expand R equal u)) (paired both_of (derived_of R equal t) (derived_of R equal u))
        (lead-met both_of (expand R equal t) (expand R equal u) (derived_of R equal t) (derived_of R equal u) (within t) (within u))
    within (Shuffle t u) = λ e i.
        In-append_right e.to (paired shuffle_of (derived_of R equal t) (derived_of R equal u)) (map (λ v. shuffle_of v u) (derived_of R equal t) ++ map (λ v. shuffle_of t v) (derived_of R equal u))
        (lead-collected (mapped (λ v. shuffle_of v u) (expand R equal t) ++ mapped (λ v. shuffle_of t v) (expand R equal u)) (map (λ v. shuffle_of v u) (derived_of R equal t) ++ map (λ v. shuffle_of t v) (derived_of R equal u))
        (lead-append (mapped (λ v. shuffle_of v u) (expand R equal t)) (mapped (λ v. shuffle_of t v) (expand R equal u)) (map (λ v. shuffle_of v u) (derived_of R equal t)) (map (λ v. shuffle_of t v) (derived_of R equal u))
        (lead-mapped (λ v. shuffle_of v u) (expand R equal t) (derived_of R equal t) (within t)) (lead-mapped (λ v. shuffle_of t v) (expand R equal u) (derived_of R equal u) (within u))) e i)

    pub sum-within : (ts : Terms V) → LeadTo (expand_sum R equal ts) (derived_of_sum R equal ts)
    sum-within NoTerms = λ e i. absurd i
    sum-within (MoreTerms t ts) = lead-append (expand R equal t) (expand_sum R equal ts) (derived_of R equal t) (derived_of_sum R equal ts) (within t) (sum-within ts)

    pub product-within : (ts : Terms V) → LeadTo (expand_product R equal ts) (derived_of_product R equal ts)
    product-within NoTerms = λ e i. absurd i
    product-within (MoreTerms t NoTerms) = within t
    product-within (MoreTerms t (MoreTerms u us)) =
        let f : Term V → Term V = λ v. product_of_two R equal v (product_of_factors (list_of (MoreTerms u us))) in
        let back = cond (equal (constant_of R t) R.zero) [] (scaled_items R (constant_of R t) (expand_product R equal (MoreTerms u us))) in
        lead-collected (mapped f (expand R equal t) ++ back) (map f (derived_of R equal t) ++ derived_of_product R equal (MoreTerms u us))
        (lead-append (mapped f (expand R equal t)) back (map f (derived_of R equal t)) (derived_of_product R equal (MoreTerms u us))
        (lead-mapped f (expand R equal t) (derived_of R equal t) (within t))
        (lead-if (equal (constant_of R t) R.zero) (scaled_items R (constant_of R t) (expand_product R equal (MoreTerms u us))) (derived_of_product R equal (MoreTerms u us))
        (lead-scaled (constant_of R t) (expand_product R equal (MoreTerms u us)) (derived_of_product R equal (MoreTerms u us)) (product-within (MoreTerms u us)))))
