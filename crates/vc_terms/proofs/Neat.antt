-- No entry of an expansion stands twice, and none has weight zero.
use Rattle.std.proofs.Common.{[], ◌++◌, cond, Bool, sym, ap, ◌∙◌, inl, inr}
use Rattle.vc_model.specs.WeightSet.{WeightSet, SemiringLaws}
use Rattle.vc_model.specs.Series.{star_or_zero}
use Rattle.vc_model.specs.Items.{AreNeat}
use Rattle.vc_terms.specs.ItemLists.{mapped, scaled_items, met_items}
use Rattle.vc_terms.specs.Terms.{Term, Terms, NoTerms, MoreTerms, list_of, constant_of, Zero, One, Atom, Sum, Product, Star, Weight, Both, Shuffle}
use Rattle.vc_terms.specs.Identities.{product_of_factors, both_of, shuffle_of}
use Rattle.vc_terms.specs.Expansions.{product_of_two, expand, expand_sum, expand_product}
use Rattle.vc_terms.specs.ItemLaws.{ItemLaws}

module _ {V : Type 0} {R : WeightSet V} (L : SemiringLaws R) (equal : V → V → Bool) (I : ItemLaws R equal) where
  nothing-neat : AreNeat {T = Term V} R []
  nothing-neat = record { once = tt; weight = λ e i. absurd i }

  mutual
    pub neat : (t : Term V) → AreNeat R (expand R equal t)
    neat Zero = nothing-neat
    neat One = nothing-neat
    neat (Atom a) = record { once = ((λ i. i), tt); weight = λ e i q. elim i [ inl p ↦ L.one_is_not_zero (sym (ap (λ z. z.weight) p) ∙ q) | inr j ↦ absurd j ] }
    neat (Sum ts) = I.neat (expand_sum R equal ts)
    neat (Product ts) = product-neat ts
    neat (Star t) = I.neat (scaled_items R (star_or_zero R (constant_of R t)) (mapped (λ v. product_of_two R equal v (Star t)) (expand R equal t)))
    neat (Weight k t) = I.neat (scaled_items R k (expand R equal t))
    neat (Both t u) = I.neat (met_items R both_of (expand R equal t) (expand R equal u))
    neat (Shuffle t u) = I.neat (mapped (λ v. shuffle_of v u) (expand R equal t) ++ mapped (λ v. shuffle_of t v) (expand R equal u))

    pub product-neat : (ts : Terms V) → AreNeat R (expand_product R equal ts)
    product-neat NoTerms = nothing-neat
    product-neat (MoreTerms t NoTerms) = neat t
    product-neat (MoreTerms t (MoreTerms u us)) =
        I.neat (mapped (λ v. product_of_two R equal v (product_of_factors (list_of (MoreTerms u us)))) (expand R equal t)
        ++ cond (equal (constant_of R t) R.zero) [] (scaled_items R (constant_of R t) (expand_product R equal (MoreTerms u us))))
