-- The numbers of positions.
use Rattle.std.proofs.Common.{◌≡◌, ℕ, ◌<◌, ◌≤◌, ◌+◌, ◌*◌, ◌/◌, ◌%◌, ◌-◌, List, [], ◌∷◌, ◌++◌, length, get_or, take, drop, refl, sym, ap, ap₂, ◌∙◌, zero, suc, arith, length-append, Some}
use Rattle.std.proofs.Math.Nat.{add-mul, mul-add, mul_assoc}
use Rattle.std.proofs.lemmas.Nat.{div-add-mod', div-mul-add, mod-mul-add, div_below, mod_below, mul-le}
use Rattle.std.proofs.lemmas.List.{take-append-drop, take_at, length-take-le, drop_more}
use Rattle.vc_model.specs.Words.{Tape, Word, size, join, cut_end}
use Rattle.vc_model.specs.WordLaws.{join_assoc, length-join}
use Rattle.vc_model.specs.WordEnds.{join-cut_end}
use Rattle.vc_eval.specs.Positions.{positions, place_of, prefix_at, place_onto, positions_onto}

-- a word has a position
pub positions_some : (w : Word) → 1 ≤ positions w
positions_some [] = omega arith
positions_some (a ∷ w) = let m : 1 * 1 ≤ (length a + 1) * positions w = mul-le 1 1 (length a + 1) (positions w) (omega arith) (positions_some w) in omega (arith, m)

-- the number from that of the tapes before
pub place_onto-is : (n : ℕ) (w u : Word) → length u ≡ length w → place_onto n w u ≡ n * positions w + place_of w u
place_onto-is n [] [] e = omega arith
place_onto-is n [] (b ∷ u) e = absurd (omega arith)
place_onto-is n (a ∷ w) [] e = absurd (omega arith)
place_onto-is n (a ∷ w) (b ∷ u) e =
    let h = place_onto-is (n * (length a + 1) + length b) w u (omega arith) in
    let d = add-mul (n * (length a + 1)) (length b) (positions w) in
    let m = mul_assoc n (length a + 1) (positions w) in
    omega (arith, h, d, m)

pub positions_onto-is : (n : ℕ) (w : Word) → positions_onto n w ≡ n * positions w
positions_onto-is n [] = omega arith
positions_onto-is n (a ∷ w) = positions_onto-is (n * (length a + 1)) w ∙ mul_assoc n (length a + 1) (positions w)

-- a word that joins with another to w
abbrev pub IsPrefix : Word → Word → Type 0
IsPrefix w u = (x : Word) × (length u ≡ length w) × (length x ≡ length w) × (join u x ≡ w)

heads : {X : Type 0} {x y : X} {xs ys : List X} → x ∷ xs ≡ y ∷ ys → x ≡ y
heads e = cc

tails : {X : Type 0} {x y : X} {xs ys : List X} → x ∷ xs ≡ y ∷ ys → xs ≡ ys
tails e = cc

shorter : (b c a : Tape) → b ++ c ≡ a → length b < length a + 1
shorter b c a e = let k = length-append b c in let h = ap length e in omega (arith, k, h)

-- the number of a prefix is that of a position, which has the prefix in front
pub place_below : (w u : Word) → IsPrefix w u → (place_of w u < positions w) × (prefix_at w (place_of w u) ≡ u)
place_below [] [] p = (omega arith, refl)
place_below [] (b ∷ u) (x, e, f, j) = absurd (omega arith)
place_below (a ∷ w) [] (x, e, f, j) = absurd (omega arith)
place_below (a ∷ w) (b ∷ u) ([], e, f, j) = absurd (omega arith)
place_below (a ∷ w) (b ∷ u) (c ∷ x, e, f, j) =
    let t : (b ++ c ≡ a) × (join u x ≡ w) = (heads j, tails j) in
    let r = place_below w u (x, (omega arith), (omega arith), t.1) in
    let l = shorter b c a t.0 in
    let m = mul-le (length b + 1) (positions w) (length a + 1) (positions w) (omega arith) (omega arith) in
    let d = add-mul (length b) 1 (positions w) in
    let low = r.0 in (
      omega (arith, low, m, d),
      ap₂ (λ (i j : ℕ). take i a ∷ prefix_at w j) (div-mul-add (length b) (positions w) (place_of w u) r.0) (mod-mul-add (length b) (positions w) (place_of w u) r.0)
          ∙ ap₂ (λ z zs. z ∷ zs) (ap (take (length b)) (sym t.0) ∙ take_at b c (length b) refl) r.1,
    )

-- what stands in front of a position is a prefix, whose number is the position's
pub prefix_is : (w : Word) (p : ℕ) → p < positions w → IsPrefix w (prefix_at w p) × (place_of w (prefix_at w p) ≡ p)
prefix_is [] p l = (([], refl, refl, refl), omega arith)
prefix_is (a ∷ w) p l =
    let some = positions_some w in
    let q = div_below p (positions w) (length a + 1) (omega arith) l in
    let r = prefix_is w (p % positions w) (mod_below p (positions w) (omega arith)) in
    let n : length (take (p / positions w) a) ≡ p / positions w = length-take-le (p / positions w) a (omega arith) in (
      (drop (p / positions w) a ∷ r.0.0, ap suc r.0.1, ap suc r.0.2, ap₂ (λ z zs. z ∷ zs) (take-append-drop (p / positions w) a) r.0.3),
      ap₂ (λ (i j : ℕ). i * positions w + j) n r.1 ∙ div-add-mod' p (positions w),
    )

-- places add up
pub place-join : (w u v : Word) → length u ≡ length w → length v ≡ length w → place_of w (join u v) ≡ place_of w u + place_of w v
place-join [] u v e f = refl
place-join (a ∷ w) [] v e f = absurd (omega arith)
place-join (a ∷ w) (b ∷ u) [] e f = absurd (omega arith)
place-join (a ∷ w) (b ∷ u) (c ∷ v) e f =
    let h = place-join w u v (omega arith) (omega arith) in
    let n = length-append b c in
    let m = ap (λ i. i * positions w) n in
    let d = add-mul (length b) (length c) (positions w) in
    omega (arith, h, m, d)

-- what stands before the end of a prefix is the prefix so many positions earlier
pub before : (w l v : Word) (p : ℕ) → p < positions w → cut_end l (prefix_at w p) ≡ Some v → (place_of w l ≤ p) × (v ≡ prefix_at w (p - place_of w l))
before w l v p below c =
    let r = prefix_is w p below in
    let j = join-cut_end l (prefix_at w p) v c in
    let v_long : length v ≡ length w = j.1 ∙ r.0.1 in
    let l_long : length l ≡ length w = j.2 ∙ r.0.1 in
    let h : place_of w v + place_of w l ≡ p = sym (place-join w v l v_long l_long) ∙ ap (place_of w) j.0 ∙ r.1 in
    let x = r.0.0 in
    let is : IsPrefix w v = (join l x, v_long, length-join l x (l_long ∙ sym r.0.2) ∙ l_long, sym (join_assoc v l x) ∙ ap (λ z. join z x) j.0 ∙ r.0.3) in
    let e : place_of w v ≡ p - place_of w l = omega (arith, h) in
    (omega (arith, h), sym (place_below w v is).1 ∙ ap (prefix_at w) e)

-- a word with a letter has a number other than 0, and a word without one has the number 0
pub size_le_place : (w u : Word) → length u ≡ length w → size u ≤ place_of w u
size_le_place [] [] e = omega arith
size_le_place [] (b ∷ u) e = absurd (omega arith)
size_le_place (a ∷ w) [] e = absurd (omega arith)
size_le_place (a ∷ w) (b ∷ u) e =
    let h = size_le_place w u (omega arith) in
    let m = mul-le (length b) 1 (length b) (positions w) (omega arith) (positions_some w) in
    omega (arith, h, m)

pub place_of_none : (w u : Word) → size u ≡ 0 → place_of w u ≡ 0
place_of_none [] u e = refl
place_of_none (a ∷ w) [] e = refl
place_of_none (a ∷ w) (b ∷ u) e =
    let h = place_of_none w u (omega arith) in
    let b_none : length b ≡ 0 = omega arith in
    let m = ap (λ i. i * positions w) b_none in
    omega (arith, h, m)

-- one tape more
pub place_step : (w u : Word) (i n : ℕ) → i < length w → length u ≡ length w
    → place_onto n (drop i w) (drop i u) ≡ place_onto (n * (length (get_or w i []) + 1) + length (get_or u i [])) (drop (i + 1) w) (drop (i + 1) u)
place_step w u i n l e = ap₂ (place_onto n) (drop_more w i [] l) (drop_more u i [] (omega arith))

pub place_least : (n : ℕ) (w u : Word) → n ≤ place_onto n w u
place_least n [] u = omega arith
place_least n (a ∷ w) [] = omega arith
place_least n (a ∷ w) (b ∷ u) =
    let h = place_least (n * (length a + 1) + length b) w u in
    let m = mul-add n (length a) 1 in
    omega (arith, h, m)

pub positions_step : (w : Word) (i n : ℕ) → i < length w → positions_onto n (drop i w) ≡ positions_onto (n * (length (get_or w i []) + 1)) (drop (i + 1) w)
positions_step w i n l = ap (positions_onto n) (drop_more w i [] l)

pub positions_least : (n : ℕ) (w : Word) → n ≤ positions_onto n w
positions_least n [] = omega arith
positions_least n (a ∷ w) =
    let h = positions_least (n * (length a + 1)) w in
    let m = mul-add n (length a) 1 in
    omega (arith, h, m)

-- a prefix other than the first has a letter
pub prefix_some : (w : Word) (p : ℕ) → 1 ≤ p → p < positions w → 1 ≤ size (prefix_at w p)
prefix_some w p one l = go (size (prefix_at w p)) refl
  where
    go : (n : ℕ) → size (prefix_at w p) ≡ n → 1 ≤ n
    go zero e = let h = place_of_none w (prefix_at w p) e in let q = (prefix_is w p l).1 in absurd (omega (arith, h, q, one))
    go (suc n) e = omega arith
