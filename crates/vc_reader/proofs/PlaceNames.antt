-- Names that are the numbers of their places.
use Rattle.std.proofs.Common.{◌≡◌, ◌<◌, ◌+◌, ℕ, Bool, true, false, cond, not, List, [], ◌∷◌, length, refl, ap, inl, inr, arith}
use Rattle.std.specs.List.{position_or_len}
use Rattle.std.specs.Str.{bytes_eq}
use Rattle.std.proofs.lemmas.Slice.Eq.{bytes_eq-Decides}
use Rattle.vc_model.specs.Lists.{In}
use Rattle.vc_reader.specs.NameSets.{AreNumbers}
use Rattle.vc_lines.specs.Names.{value_of}

place_by : (a b : List ℕ) (names : List (List ℕ)) (n : ℕ) → value_of b ≡ n → (bytes_eq a b ≡ true → a ≡ b)
    → (bytes_eq a b ≡ false → value_of a ≡ (n + 1) + position_or_len (bytes_eq a) names)
    → (t : Bool) → bytes_eq a b ≡ t → value_of a ≡ n + cond (not t) (1 + position_or_len (bytes_eq a) names) 0
place_by a b names n v same later true q = let e = ap value_of (same q) in omega (arith, e, v)
place_by a b names n v same later false q = let l = later q in omega (arith, l)

-- the place of such a name is its value
pub place_is : (a : List ℕ) (names : List (List ℕ)) (n : ℕ) → AreNumbers n names → In a names → value_of a ≡ n + position_or_len (bytes_eq a) names
place_is a [] n h i = absurd i
place_is a (b ∷ names) n h i =
    place_by a b names n h.0 (bytes_eq-Decides a b).0
    (λ f. elim i [
      | inl e ↦ (let t : bytes_eq a b ≡ true = (bytes_eq-Decides a b).1 e in absurd (cc))
      | inr j ↦ place_is a names (n + 1) h.1 j
    ])
    (bytes_eq a b) refl

below_by : (a b : List ℕ) (names : List (List ℕ)) → (bytes_eq a b ≡ false → position_or_len (bytes_eq a) names < length names)
    → (t : Bool) → bytes_eq a b ≡ t → cond (not t) (1 + position_or_len (bytes_eq a) names) 0 < length (b ∷ names)
below_by a b names later true q = omega arith
below_by a b names later false q = let l = later q in omega (arith, l)

-- a name that is there has a place
pub place_below : (a : List ℕ) (names : List (List ℕ)) → In a names → position_or_len (bytes_eq a) names < length names
place_below a [] i = absurd i
place_below a (b ∷ names) i =
    below_by a b names
    (λ f. elim i [
      | inl e ↦ (let t : bytes_eq a b ≡ true = (bytes_eq-Decides a b).1 e in absurd (cc))
      | inr j ↦ place_below a names j
    ])
    (bytes_eq a b) refl

-- a name among such names has its value as its number
pub number_is : (a : List ℕ) (names : List (List ℕ)) → AreNumbers 0 names → In a names → value_of a ≡ position_or_len (bytes_eq a) names
number_is a names h i = let p = place_is a names 0 h i in omega (arith, p)
