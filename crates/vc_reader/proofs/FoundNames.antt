-- Names that are found.
use Rattle.std.proofs.Common.{◌≡◌, ◌<◌, ◌+◌, ℕ, Bool, true, false, cond, not, ◌||◌, List, [], ◌∷◌, ◌++◌, length, map, Some, None, refl, ap, sym, ◌∙◌, subst, inl, inr, arith, Bor}
use Rattle.std.proofs.lemmas.List.{map-append}
use Rattle.std.specs.List.{list_any, position, position_or_len}
use Rattle.std.specs.Prelude.{if◌then◌else◌, nat_lt}
use Rattle.std.proofs.lemmas.Bool.{ltb-false}
use Rattle.std.proofs.lemmas.Slice.Eq.{bytes_eq-Decides}
use Rattle.vc_model.specs.Lists.{In}
use Rattle.std.specs.Str.{bytes_eq}
use Rattle.vc_lines.specs.Names.{with_name}

any-map : (a : List ℕ) (ks : List (Bor (List ℕ))) → list_any (λ k. bytes_eq a k.now) ks ≡ list_any (bytes_eq a) (map (λ b. b.now) ks)
any-map a [] = refl
any-map a (k ∷ ks) = ap (λ b. bytes_eq a k.now || b) (any-map a ks)

-- a name that is inserted
pub inserted : (a : Bor (List ℕ)) (ks new : List (Bor (List ℕ))) → new ≡ (if list_any (λ k. bytes_eq a.now k.now) ks then ks else ks ++ a ∷ []) → map (λ b. b.now) new ≡ with_name (map (λ b. b.now) ks) a.now
inserted a ks new e =
    ap (map (λ b. b.now)) e
    ∙ go (list_any (λ k. bytes_eq a.now k.now) ks) (any-map a.now ks)
  where
    go : (b : Bool) → b ≡ list_any (bytes_eq a.now) (map (λ b. b.now) ks) → map (λ b. b.now) (if b then ks else ks ++ a ∷ []) ≡ with_name (map (λ b. b.now) ks) a.now
    go true e = ap (λ b. if b then map (λ b. b.now) ks else map (λ b. b.now) ks ++ a.now ∷ []) e
    go false e = map-append (λ (b : Bor (List ℕ)). b.now) ks (a ∷ []) ∙ ap (λ b. if b then map (λ b. b.now) ks else map (λ b. b.now) ks ++ a.now ∷ []) e

places : (a : List ℕ) (ks : List (Bor (List ℕ))) → position_or_len (λ k. bytes_eq a k.now) ks ≡ position_or_len (bytes_eq a) (map (λ b. b.now) ks)
places a [] = refl
places a (k ∷ ks) = ap (λ n. cond (not (bytes_eq a k.now)) (1 + n) 0) (places a ks)

place_of : (n m : ℕ) (b : Bool) → Some n ≡ cond b (Some m) None → n ≡ m
place_of n m true e = cc
place_of n m false e = absurd (cc)

-- the place of a name
pub found_at : (a : List ℕ) (ks : List (Bor (List ℕ))) (n : ℕ) → Some n ≡ position (λ k. bytes_eq a k.now) ks → n ≡ position_or_len (bytes_eq a) (map (λ b. b.now) ks)
found_at a ks n e = place_of n (position_or_len (λ k. bytes_eq a k.now) ks) (nat_lt (position_or_len (λ k. bytes_eq a k.now) ks) (length ks)) e ∙ places a ks

within_place : (n : ℕ) (b : Bool) → None ≡ cond b (Some n) None → b ≡ false
within_place n true e = absurd (cc)
within_place n false e = refl

place_inside : (a : List ℕ) (ks : List (Bor (List ℕ))) → In a (map (λ b. b.now) ks) → position_or_len (λ k. bytes_eq a k.now) ks < length ks
place_inside a [] h = absurd h
place_inside a (k ∷ ks) (inl e) =
    let t : bytes_eq a k.now ≡ true = (bytes_eq-Decides a k.now).1 e in
    subst (λ b. cond (not b) (1 + position_or_len (λ k. bytes_eq a k.now) ks) 0 < length (k ∷ ks)) (sym t) (omega arith)
place_inside a (k ∷ ks) (inr h) = go (bytes_eq a k.now) (place_inside a ks h)
  where
    go : (b : Bool) → position_or_len (λ k. bytes_eq a k.now) ks < length ks → cond (not b) (1 + position_or_len (λ k. bytes_eq a k.now) ks) 0 < length (k ∷ ks)
    go true h = omega arith
    go false h = omega arith

-- a name that is among the others has a place
pub found_none : (a : List ℕ) (ks : List (Bor (List ℕ))) → None ≡ position (λ k. bytes_eq a k.now) ks → In a (map (λ b. b.now) ks) → ⊥
found_none a ks e h =
    let f = within_place (position_or_len (λ k. bytes_eq a k.now) ks) (nat_lt (position_or_len (λ k. bytes_eq a k.now) ks) (length ks)) e in
    let p = place_inside a ks h in
    let q = ltb-false (position_or_len (λ k. bytes_eq a k.now) ks) (length ks) f in
    omega (arith, p, q)
