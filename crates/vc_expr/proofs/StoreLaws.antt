-- The trees of a store.
use Rattle.std.proofs.Common.{◌≡◌, ◌<◌, ℕ, zero, suc, arith, Bool, true, false, cond, IsTrue, Result, Ok, Err, List, [], ◌∷◌, length, map, ap, refl, subst, All}
use Rattle.vc_model.specs.WeightSet.{WeightSet, RangeLaws}
use Rattle.vc_ring.specs.Steps.{multiplied}
use Rattle.vc_ring.specs.declared.faults.Overflow.{Overflow}
use Rattle.vc_ring.specs.declared.faults.Overflow.TheVariants.{Mul}
use Rattle.vc_terms.specs.Terms.{Term, Terms, NoTerms, MoreTerms, terms_of, list_of, Zero, One, Atom, Sum, Product, Star, Weight, Both, Shuffle, constant_of}
use Rattle.vc_terms.specs.Forms.{Everywhere, EverywhereIn, IsBody, IsBuilt, IsBuiltRoot}
use Rattle.vc_expr.specs.Rows.{tree_at, AreBelow}
use Rattle.vc_expr.specs.Names.{Has, tree_of, trees_of}
use Rattle.vc_expr.specs.Nodes.{places}
use Rattle.vc_expr.specs.Facts.{HasRootValues, IsStore, IsStoredRoot}
use Rattle.vc_expr.specs.declared.expr.Expr.{Expr}
use Rattle.vc_expr.proofs.RowLaws.{everywhere_at, one_place}

-- parts that stand before a place
pub below_all : (n : ℕ) (es : List Expr) → AreBelow n (places es) → All (λ e. e.at < n) es
below_all n [] h i d k = absurd (omega arith)
below_all n (e ∷ es) h zero d k = h.0
below_all n (e ∷ es) h (suc i) d k = below_all n es h.1 i d (omega arith)

module _ {V : Type 0} where
  -- what is true everywhere is true of the tree itself
  pub root_of : (P : Term V → Type 0) (t : Term V) → Everywhere P t → P t
  root_of P Zero h = h
  root_of P One h = h
  root_of P (Atom a) h = h
  root_of P (Sum ts) h = h.0
  root_of P (Product ts) h = h.0
  root_of P (Star t) h = h.0
  root_of P (Weight k t) h = h.0
  root_of P (Both t u) h = h.0
  root_of P (Shuffle t u) h = h.0

  -- the trees of names by their places
  pub trees_at_places : (s : List (Term V)) (es : List Expr) → map (tree_at s) (places es) ≡ trees_of s es
  trees_at_places s [] = refl
  trees_at_places s (e ∷ es) = ap (λ ts. tree_of s e ∷ ts) (trees_at_places s es)

  pub below_has : (s : List (Term V)) (n : ℕ) (es : List Expr) → n < length s → AreBelow n (places es) → All (Has s) es
  below_has s n [] l h i d k = absurd (omega arith)
  below_has s n (e ∷ es) l h zero d k = omega (arith, h.0, l)
  below_has s n (e ∷ es) l h (suc i) d k = below_has s n es l h.1 i d (omega arith)

  pub has_below : (s : List (Term V)) (es : List Expr) → All (Has s) es → AreBelow (length s) (places es)
  has_below s [] h = tt
  has_below s (e ∷ es) h = (h 0 e (omega arith), has_below s es (λ i d k. h (suc i) d (omega arith)))

module _ {V : Type 0} (R : WeightSet V) (equal : V → V → Bool) (s : List (Term V)) where
  -- the constant terms are values
  pub constant_in : (e : Expr) → IsStore R equal s → Has s e → IsTrue (R.in_range (constant_of R (tree_of s e)))
  constant_in e S h = (root_of (IsStoredRoot R equal) (tree_of s e) (everywhere_at (IsStoredRoot R equal) s e.at S.stored h)).constant

  -- names of one tree are equal
  pub one_name : (a b : Expr) → IsStore R equal s → Has s a → Has s b → tree_of s a ≡ tree_of s b → a.at ≡ b.at
  one_name a b S h k e = one_place s a.at b.at S.once h k e

-- a weight in front of a tree of a store is a value
pub weight_in : {V : Type 0} (R : WeightSet V) (equal : V → V → Bool) (s : List (Term V)) (e : Expr) (k : V) (t : Term V) → IsStore R equal s → Has s e → tree_of s e ≡ Weight k t → IsTrue (R.in_range k)
weight_in R equal s e k t S h is =
    let root : IsStoredRoot R equal (tree_of s e) = root_of (IsStoredRoot R equal) (tree_of s e) (everywhere_at (IsStoredRoot R equal) s e.at S.stored h) in
    (subst (IsStoredRoot R equal) is root).values

pub list_of-terms_of : {V : Type 0} (ts : List (Term V)) → list_of (terms_of ts) ≡ ts
list_of-terms_of [] = refl
list_of-terms_of (t ∷ ts) = ap (λ us. t ∷ us) (list_of-terms_of ts)

-- what stands behind a weight in a tree of a store has no weight in front and is not Zero
pub body_in : {V : Type 0} (R : WeightSet V) (equal : V → V → Bool) (s : List (Term V)) (e : Expr) (k : V) (t : Term V) → IsStore R equal s → Has s e → tree_of s e ≡ Weight k t → IsBody t
body_in R equal s e k t S h is =
    let root : IsStoredRoot R equal (tree_of s e) = root_of (IsStoredRoot R equal) (tree_of s e) (everywhere_at (IsStoredRoot R equal) s e.at S.stored h) in
    (subst (IsStoredRoot R equal) is root).built.2

module _ {V : Type 0} (R : WeightSet V) (G : RangeLaws R) where
  -- a product that fits is a value
  pub times_value : (a b v : V) → IsTrue (R.in_range a) → IsTrue (R.in_range b) → Ok v ≡ multiplied R a b → IsTrue (R.in_range v)
  times_value a b v p q e = go (R.fits_times a b) refl e
    where
      go : (c : Bool) → R.fits_times a b ≡ c → ◌≡◌ {A = Result V (Overflow V)} (Ok v) (cond c (Ok (R.times a b)) (Err (Mul a b))) → IsTrue (R.in_range v)
      go true f x = let i : R.times a b ≡ v = cc in subst (λ y. IsTrue (R.in_range y)) i (G.times_in a b p q f)
      go false f x = absurd (cc)

-- what is true everywhere, made weaker
module _ {V : Type 0} (P Q : Term V → Type 0) (h : (t : Term V) → P t → Q t) where
  mutual
    everywhere_weaker : (t : Term V) → Everywhere P t → Everywhere Q t
    everywhere_weaker Zero i = h Zero i
    everywhere_weaker One i = h One i
    everywhere_weaker (Atom a) i = h (Atom a) i
    everywhere_weaker (Sum ts) i = (h (Sum ts) i.0, everywhere_in_weaker ts i.1)
    everywhere_weaker (Product ts) i = (h (Product ts) i.0, everywhere_in_weaker ts i.1)
    everywhere_weaker (Star t) i = (h (Star t) i.0, everywhere_weaker t i.1)
    everywhere_weaker (Weight k t) i = (h (Weight k t) i.0, everywhere_weaker t i.1)
    everywhere_weaker (Both t u) i = (h (Both t u) i.0, everywhere_weaker t i.1, everywhere_weaker u i.2)
    everywhere_weaker (Shuffle t u) i = (h (Shuffle t u) i.0, everywhere_weaker t i.1, everywhere_weaker u i.2)

    everywhere_in_weaker : (ts : Terms V) → EverywhereIn P ts → EverywhereIn Q ts
    everywhere_in_weaker NoTerms i = tt
    everywhere_in_weaker (MoreTerms t ts) i = (everywhere_weaker t i.0, everywhere_in_weaker ts i.1)

module _ {V : Type 0} (R : WeightSet V) (equal : V → V → Bool) (s : List (Term V)) where
  -- the trees of a store are as the operations build them
  pub built_at : (e : Expr) → IsStore R equal s → Has s e → IsBuilt R equal (tree_of s e)
  built_at e S h = everywhere_weaker (IsStoredRoot R equal) (IsBuiltRoot R equal) (λ t i. i.built) (tree_of s e) (everywhere_at (IsStoredRoot R equal) s e.at S.stored h)

  -- their weights are values, and their stars are defined
  pub values_at : (e : Expr) → IsStore R equal s → Has s e → Everywhere (HasRootValues R) (tree_of s e)
  values_at e S h = everywhere_weaker (IsStoredRoot R equal) (HasRootValues R) (λ t i. i.values) (tree_of s e) (everywhere_at (IsStoredRoot R equal) s e.at S.stored h)

  pub built_all : (es : List Expr) → IsStore R equal s → All (Has s) es → EverywhereIn (IsBuiltRoot R equal) (terms_of (trees_of s es))
  built_all [] S h = tt
  built_all (e ∷ es) S h = (built_at e S (h 0 e (omega arith)), built_all es S (λ i d k. h (suc i) d (omega arith)))
