-- Basic trees: the test tells them, and their bound is the number of their label occurrences.
use Rattle.std.proofs.Common.{◌≡◌, ◌+◌, true, refl, ap₂}
use Rattle.std.proofs.lemmas.Bool.{false≢true}
use Rattle.vc_model.specs.WordLaws.{and_parts, and_both}
use Rattle.vc_terms.specs.Terms.{Term, Terms, NoTerms, MoreTerms, Zero, One, Atom, Sum, Product, Star, Weight, Both, Shuffle, IsBasic, AreBasic, letter_count, letter_counts, bound_of, bounds_of}
use Rattle.vc_terms.specs.Trees.{is_basic, are_basic}

module _ {V : Type 0} where
  mutual
    pub basic-true : (t : Term V) → is_basic t ≡ true → IsBasic t
    basic-true (Sum ts) e = basics-true ts e
    basic-true (Product ts) e = basics-true ts e
    basic-true (Star t) e = basic-true t e
    basic-true (Weight k t) e = basic-true t e
    basic-true (Both t u) e = false≢true e
    basic-true (Shuffle t u) e = false≢true e
    basic-true Zero e = tt
    basic-true One e = tt
    basic-true (Atom a) e = tt

    basics-true : (ts : Terms V) → are_basic ts ≡ true → AreBasic ts
    basics-true NoTerms e = tt
    basics-true (MoreTerms t ts) e = let r = and_parts (is_basic t) (are_basic ts) e in (basic-true t r.0, basics-true ts r.1)

  mutual
    pub true-basic : (t : Term V) → IsBasic t → is_basic t ≡ true
    true-basic (Sum ts) i = true-basics ts i
    true-basic (Product ts) i = true-basics ts i
    true-basic (Star t) i = true-basic t i
    true-basic (Weight k t) i = true-basic t i
    true-basic (Both t u) i = absurd i
    true-basic (Shuffle t u) i = absurd i
    true-basic Zero i = refl
    true-basic One i = refl
    true-basic (Atom a) i = refl

    true-basics : (ts : Terms V) → AreBasic ts → are_basic ts ≡ true
    true-basics NoTerms i = refl
    true-basics (MoreTerms t ts) i = and_both (is_basic t) (are_basic ts) (true-basic t i.0) (true-basics ts i.1)

  mutual
    pub basic-bound : (t : Term V) → IsBasic t → bound_of t ≡ letter_count t
    basic-bound (Sum ts) i = basic-bounds ts i
    basic-bound (Product ts) i = basic-bounds ts i
    basic-bound (Star t) i = basic-bound t i
    basic-bound (Weight k t) i = basic-bound t i
    basic-bound (Both t u) i = absurd i
    basic-bound (Shuffle t u) i = absurd i
    basic-bound Zero i = refl
    basic-bound One i = refl
    basic-bound (Atom a) i = refl

    basic-bounds : (ts : Terms V) → AreBasic ts → bounds_of ts ≡ letter_counts ts
    basic-bounds NoTerms i = refl
    basic-bounds (MoreTerms t ts) i = ap₂ (λ a b. a + b) (basic-bound t i.0) (basic-bounds ts i.1)
