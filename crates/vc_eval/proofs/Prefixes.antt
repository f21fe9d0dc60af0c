-- The prefixes of a word are what it has in front of its positions.
use Rattle.std.proofs.Common.{◌≡◌, ℕ, zero, true, ◌<◌, ◌≤◌, ◌+◌, ◌==◌, List, [], ◌∷◌, filter, length, map, refl, sym, ap, ◌∙◌, subst, suc, arith}
use Rattle.std.proofs.lemmas.Bool.{eqb-true, eq-eqb}
use Rattle.std.proofs.Math.Nat.{add-mul}
use Rattle.vc_model.specs.Lists.{In, up_from}
use Rattle.vc_model.specs.Words.{Word, size, join, cuts, empty_word}
use Rattle.vc_model.specs.WordLaws.{size-join, join-empty_right, length-empty_word}
use Rattle.vc_model.specs.Cuts.{cuts-In, In-cuts}
use Rattle.vc_model.specs.Members.{In-filter, In-filter_from, In-map, In-map_from, In-flat_map, In-flat_map_from, In-up_from, up_from-In}
use Rattle.vc_eval.specs.Forward.{prefixes}
use Rattle.vc_eval.specs.Positions.{positions, place_of, prefix_at}
use Rattle.vc_eval.proofs.Places.{IsPrefix, place_below, prefix_is, size_le_place, place_of_none}

abbrev firsts : Word → List Word
firsts w = map (λ (c : Word × Word). c.0) (cuts w)

pub prefixes-In : (w : Word) (p : ℕ) → 1 ≤ p → p < positions w → In (prefix_at w p) (prefixes w)
prefixes-In w p some l =
    let u = prefix_at w p in
    let r = prefix_is w p l in
    let x = r.0.0 in
    let n : length u ≡ length x = r.0.1 ∙ sym r.0.2 in
    let s : size w ≡ size u + size x = ap size (sym r.0.3) ∙ size-join u x n in
    let i : In u (firsts w) = In-map (λ (c : Word × Word). c.0) (u, x) (cuts w) (subst (λ z. In (u, x) (cuts z)) r.0.3 (In-cuts u x n)) in
    let low : 1 ≤ size u = some_size u (size u) refl r.1 in
    In-flat_map (λ n. filter (λ u. size u == n) (firsts w)) u (size u) (up_from 1 (size w)) (up_from-In (size u) 1 (size w) low (omega (arith, s)))
    (In-filter (λ v. size v == size u) u (firsts w) i (eq-eqb (size u) (size u) refl))
  where
    some_size : (u : Word) (n : ℕ) → size u ≡ n → place_of w u ≡ p → 1 ≤ n
    some_size u zero e q = let h = place_of_none w u e in omega (arith, h, q)
    some_size u (suc n) e q = omega arith

-- a prefix stands in front of a position other than the first
abbrev pub IsInFront : Word → Word → Type 0
IsInFront w u = (p : ℕ) × (1 ≤ p) × (p < positions w) × (u ≡ prefix_at w p)

pub prefixes-In_from : (w u : Word) → In u (prefixes w) → IsInFront w u
prefixes-In_from w u i =
    let r = In-flat_map_from (λ n. filter (λ u. size u == n) (firsts w)) u (up_from 1 (size w)) i in
    let f = In-filter_from (λ v. size v == r.0) u (firsts w) r.2 in
    let m = In-map_from (λ (c : Word × Word). c.0) u (cuts w) f.0 in
    let h = cuts-In w m.0 m.1 in
    let q = size_of (size u) r.0 f.1 in
    let b = In-up_from r.0 1 (size w) r.1 in
    let is : IsPrefix w u = (m.0.1, ap length m.2 ∙ h.1, h.2, ap (λ v. join v m.0.1) m.2 ∙ h.0) in
    let k = place_below w u is in
    let low = size_le_place w u is.1 in
    let b0 = b.0 in
    (place_of w u, omega (arith, low, q, b0), k.0, sym k.1)
  where
    size_of : (a b : ℕ) → (a == b) ≡ true → a ≡ b
    size_of a b e = eqb-true a b e

-- the last position has the whole word in front
place_all : (w : Word) → place_of w w + 1 ≡ positions w
place_all [] = omega arith
place_all (a ∷ w) =
    let h = place_all w in
    let d = add-mul (length a) 1 (positions w) in
    omega (arith, h, d)

pub last_prefix : (w : Word) (p : ℕ) → p + 1 ≡ positions w → prefix_at w p ≡ w
last_prefix w p e =
    let h = place_all w in
    let q : p ≡ place_of w w = omega (arith, h, e) in
    ap (prefix_at w) q ∙ (place_below w w (empty_word (length w), refl, length-empty_word (length w), join-empty_right (length w) w refl)).1
