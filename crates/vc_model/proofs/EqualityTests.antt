-- Tests of equality of pairs and of lists.
use Rattle.std.proofs.Common.{◌≡◌, List, [], ◌∷◌, Bool, true, refl, sym, ap, ap₂, ◌∙◌}
use Rattle.std.proofs.lemmas.Bool.{false≢true}
use Rattle.vc_model.specs.Lists.{IsEqualityTest, same_pair, same_list}
use Rattle.vc_model.specs.WordLaws.{and_parts, and_both}

pub pair_test : {X Y : Type 0} (same : X → X → Bool) (alike : Y → Y → Bool) → IsEqualityTest same → IsEqualityTest alike → IsEqualityTest (same_pair same alike)
pair_test same alike P Q a b = (
  λ e. let r = and_parts (same a.0 b.0) (alike a.1 b.1) e in ap₂ (λ x y. (x, y)) ((P a.0 b.0).0 r.0) ((Q a.1 b.1).0 r.1),
  λ q. and_both (same a.0 b.0) (alike a.1 b.1) ((P a.0 b.0).1 (ap (λ z. z.0) q)) ((Q a.1 b.1).1 (ap (λ z. z.1) q)),
)

list_tells : {X : Type 0} (same : X → X → Bool) → IsEqualityTest same → (xs ys : List X) → same_list same xs ys ≡ true → xs ≡ ys
list_tells same P [] [] e = refl
list_tells same P [] (y ∷ ys) e = absurd (false≢true e)
list_tells same P (x ∷ xs) [] e = absurd (false≢true e)
list_tells same P (x ∷ xs) (y ∷ ys) e = let r = and_parts (same x y) (same_list same xs ys) e in ap₂ ◌∷◌ ((P x y).0 r.0) (list_tells same P xs ys r.1)

list_self : {X : Type 0} (same : X → X → Bool) → IsEqualityTest same → (xs : List X) → same_list same xs xs ≡ true
list_self same P [] = refl
list_self same P (x ∷ xs) = and_both (same x x) (same_list same xs xs) ((P x x).1 refl) (list_self same P xs)

pub list_test : {X : Type 0} (same : X → X → Bool) → IsEqualityTest same → IsEqualityTest (same_list same)
list_test same P xs ys = (list_tells same P xs ys, λ q. ap (same_list same xs) (sym q) ∙ list_self same P xs)
