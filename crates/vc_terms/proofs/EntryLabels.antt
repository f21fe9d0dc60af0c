-- The labels of an expansion are labels of the tree.
use Rattle.std.proofs.Common.{List, [], ◌++◌, map, cond, Bool, true, false, sym, ap, subst, inl, inr}
use Rattle.std.specs.List.{filter}
use Rattle.vc_model.specs.WeightSet.{WeightSet}
use Rattle.vc_model.specs.Lists.{In}
use Rattle.vc_model.specs.Members.{In-append_cases, In-map_from, In-flat_map_from}
use Rattle.vc_model.specs.Series.{star_or_zero}
use Rattle.vc_model.specs.Words.{Word, same_word}
use Rattle.vc_terms.specs.ItemLists.{mapped, scaled_items, met_items}
use Rattle.vc_terms.specs.Terms.{Term, Terms, NoTerms, MoreTerms, list_of, constant_of, Zero, One, Atom, Sum, Product, Star, Weight, Both, Shuffle}
use Rattle.vc_terms.specs.Identities.{product_of_factors, both_of, shuffle_of}
use Rattle.vc_terms.specs.Expansions.{Entry, collected, product_of_two, expand, expand_sum, expand_product, AtomsAre, AllAtomsAre}
use Rattle.vc_terms.specs.ItemLaws.{ItemLaws}

module _ {V : Type 0} (R : WeightSet V) (equal : V → V → Bool) (I : ItemLaws R equal) (Q : Word → Type 0) where
  -- each label is such
  abbrev LabelsAre : List (Entry V) → Type 0
  LabelsAre xs = (e : Entry V) → In e xs → Q e.label

  collected_labels : (xs : List (Entry V)) → LabelsAre xs → LabelsAre (collected R equal xs)
  collected_labels xs h e i = let r = I.sources e xs i in subst Q (ap (λ k. k.0) r.2) (h r.0 r.1)

  append_labels : (xs ys : List (Entry V)) → LabelsAre xs → LabelsAre ys → LabelsAre (xs ++ ys)
  append_labels xs ys h k e i = elim (In-append_cases e xs ys i) [ inl j ↦ h e j | inr j ↦ k e j ]

  mapped_labels : (f : Term V → Term V) (xs : List (Entry V)) → LabelsAre xs → LabelsAre (mapped f xs)
  mapped_labels f xs h e i = let r = In-map_from (λ (d : Entry V). record { label = d.label; weight = d.weight; to = f d.to }) e xs i in subst Q (ap (λ d. d.label) (sym r.2)) (h r.0 r.1)

  scaled_labels : (k : V) (xs : List (Entry V)) → LabelsAre xs → LabelsAre (scaled_items R k xs)
  scaled_labels k xs h e i = let r = In-map_from (λ (d : Entry V). record { label = d.label; weight = R.times k d.weight; to = d.to }) e xs i in subst Q (ap (λ d. d.label) (sym r.2)) (h r.0 r.1)

  unless_labels : (b : Bool) (xs : List (Entry V)) → LabelsAre xs → LabelsAre (cond b [] xs)
  unless_labels true xs h e i = absurd i
  unless_labels false xs h e i = h e i

  met_labels : (f : Term V → Term V → Term V) (xs ys : List (Entry V)) → LabelsAre xs → LabelsAre (met_items R f xs ys)
  met_labels f xs ys h e i =
      let r = In-flat_map_from (λ (d : Entry V). map (λ (c : Entry V). record { label = d.label; weight = R.times d.weight c.weight; to = f d.to c.to }) (filter (λ (c : Entry V). same_word d.label c.label) ys)) e xs i in
      let q = In-map_from (λ (c : Entry V). record { label = r.0.label; weight = R.times r.0.weight c.weight; to = f r.0.to c.to }) e (filter (λ (c : Entry V). same_word r.0.label c.label) ys) r.2 in
      subst Q (ap (λ d. d.label) (sym q.2)) (h r.0 r.1)

  mutual
    pub labels_of : (t : Term V) → AtomsAre Q t → LabelsAre (expand R equal t)
    labels_of Zero h = λ e i. absurd i
    labels_of One h = λ e i. absurd i
    labels_of (Atom a) h = λ e i. elim i [ inl p ↦ subst Q (ap (λ d. d.label) (sym p)) h | inr j ↦ absurd j ]
    labels_of (Sum ts) h = collected_labels (expand_sum R equal ts) (sum_labels ts h)
    labels_of (Product ts) h = product_labels ts h
    labels_of (Star t) h =
        collected_labels (scaled_items R (star_or_zero R (constant_of R t)) (mapped (λ v. product_of_two R equal v (Star t)) (expand R equal t)))
        (scaled_labels (star_or_zero R (constant_of R t)) (mapped (λ v. product_of_two R equal v (Star t)) (expand R equal t))
        (mapped_labels (λ v. product_of_two R equal v (Star t)) (expand R equal t) (labels_of t h)))
    labels_of (Weight k t) h = collected_labels (scaled_items R k (expand R equal t)) (scaled_labels k (expand R equal t) (labels_of t h))
    labels_of (Both t u) h = collected_labels (met_items R both_of (expand R equal t) (expand R equal u)) (met_labels both_of (expand R equal t) (expand R equal u) (labels_of t h.0))
    labels_of (Shuffle t u) h =
        collected_labels (mapped (λ v. shuffle_of v u) (expand R equal t) ++ mapped (λ v. shuffle_of t v) (expand R equal u))
        (append_labels (mapped (λ v. shuffle_of v u) (expand R equal t)) (mapped (λ v. shuffle_of t v) (expand R equal u))
        (mapped_labels (λ v. shuffle_of v u) (expand R equal t) (labels_of t h.0)) (mapped_labels (λ v. shuffle_of t v) (expand R equal u) (labels_of u h.1)))

    pub sum_labels : (ts : Terms V) → AllAtomsAre Q ts → LabelsAre (expand_sum R equal ts)
    sum_labels NoTerms h = λ e i. absurd i
    sum_labels (MoreTerms t ts) h = append_labels (expand R equal t) (expand_sum R equal ts) (labels_of t h.0) (sum_labels ts h.1)

    pub product_labels : (ts : Terms V) → AllAtomsAre Q ts → LabelsAre (expand_product R equal ts)
    product_labels NoTerms h = λ e i. absurd i
    product_labels (MoreTerms t NoTerms) h = labels_of t h.0
    product_labels (MoreTerms t (MoreTerms u us)) h =
        let front = mapped (λ v. product_of_two R equal v (product_of_factors (list_of (MoreTerms u us)))) (expand R equal t) in
        let back = cond (equal (constant_of R t) R.zero) [] (scaled_items R (constant_of R t) (expand_product R equal (MoreTerms u us))) in
        collected_labels (front ++ back)
        (append_labels front back (mapped_labels (λ v. product_of_two R equal v (product_of_factors (list_of (MoreTerms u us)))) (expand R equal t) (labels_of t h.0))
        (unless_labels (equal (constant_of R t) R.zero) (scaled_items R (constant_of R t) (expand_product R equal (MoreTerms u us)))
        (scaled_labels (constant_of R t) (expand_product R equal (MoreTerms u us)) (product_labels (MoreTerms u us) h.1))))
