-- The test of equality of trees.
use Rattle.std.proofs.Common.{◌≡◌, Bool, true, refl, ap, ap₂, subst}
use Rattle.std.proofs.lemmas.Bool.{false≢true}
use Rattle.vc_model.specs.Lists.{IsEqualityTest}
use Rattle.vc_model.specs.WordLaws.{and_parts, and_both, same_word-true, same_word_refl}
use Rattle.vc_terms.specs.Terms.{Term, Terms, NoTerms, MoreTerms, Zero, One, Atom, Sum, Product, Star, Weight, Both, Shuffle}
use Rattle.vc_terms.specs.Same.{same_term, same_terms}

module _ {V : Type 0} (equal : V → V → Bool) (Q : IsEqualityTest equal) where
  mutual
    same_term-true : (t u : Term V) → same_term equal t u ≡ true → t ≡ u
    same_term-true Zero Zero e = refl
    same_term-true One One e = refl
    same_term-true (Atom a) (Atom b) e = ap Atom (same_word-true a b e)
    same_term-true (Sum ts) (Sum us) e = ap Sum (same_terms-true ts us e)
    same_term-true (Product ts) (Product us) e = ap Product (same_terms-true ts us e)
    same_term-true (Star t) (Star u) e = ap Star (same_term-true t u e)
    same_term-true (Weight k t) (Weight h u) e = let r = and_parts (equal k h) (same_term equal t u) e in ap₂ Weight ((Q k h).0 r.0) (same_term-true t u r.1)
    same_term-true (Both t v) (Both u w) e = let r = and_parts (same_term equal t u) (same_term equal v w) e in ap₂ Both (same_term-true t u r.0) (same_term-true v w r.1)
    same_term-true (Shuffle t v) (Shuffle u w) e = let r = and_parts (same_term equal t u) (same_term equal v w) e in ap₂ Shuffle (same_term-true t u r.0) (same_term-true v w r.1)
    same_term-true t u e = absurd (false≢true e)

    same_terms-true : (ts us : Terms V) → same_terms equal ts us ≡ true → ts ≡ us
    same_terms-true NoTerms NoTerms e = refl
    same_terms-true (MoreTerms t ts) (MoreTerms u us) e = let r = and_parts (same_term equal t u) (same_terms equal ts us) e in ap₂ MoreTerms (same_term-true t u r.0) (same_terms-true ts us r.1)
    same_terms-true ts us e = absurd (false≢true e)

  mutual
    same_term_refl : (t : Term V) → same_term equal t t ≡ true
    same_term_refl Zero = refl
    same_term_refl One = refl
    same_term_refl (Atom a) = same_word_refl a
    same_term_refl (Sum ts) = same_terms_refl ts
    same_term_refl (Product ts) = same_terms_refl ts
    same_term_refl (Star t) = same_term_refl t
    same_term_refl (Weight k t) = and_both (equal k k) (same_term equal t t) ((Q k k).1 refl) (same_term_refl t)
    same_term_refl (Both t u) = and_both (same_term equal t t) (same_term equal u u) (same_term_refl t) (same_term_refl u)
    same_term_refl (Shuffle t u) = and_both (same_term equal t t) (same_term equal u u) (same_term_refl t) (same_term_refl u)

    same_terms_refl : (ts : Terms V) → same_terms equal ts ts ≡ true
    same_terms_refl NoTerms = refl
    same_terms_refl (MoreTerms t ts) = and_both (same_term equal t t) (same_terms equal ts ts) (same_term_refl t) (same_terms_refl ts)

  pub same_term-tells : IsEqualityTest (same_term equal)
  same_term-tells t u = (same_term-true t u, λ e. subst (λ v. same_term equal t v ≡ true) e (same_term_refl t))
