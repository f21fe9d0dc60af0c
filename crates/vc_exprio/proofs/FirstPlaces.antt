-- The first of some tokens, one by one.
use Rattle.std.proofs.Common.{◌≡◌, ◌<◌, ◌≤◌, ◌+◌, ℕ, Bool, true, false, List, [], ◌∷◌, ◌++◌, length, map, drop, Some, None, refl, ap, ◌∙◌, sym, add-one, drop-cons, arith}
use Rattle.std.specs.Prelude.{if◌then◌else◌, slice_index_or}
use Rattle.std.proofs.lemmas.Grind.{common_steps}
use Rattle.vc_lex.specs.Marks.{Mark}
use Rattle.vc_exprio.specs.Places.{first_place}

cut : {X : Type 0} (test : Mark → Bool) (see : X → Mark) (xs : List X) (i : ℕ) (d : X) → i < length xs
    → first_place test (map see (drop i xs)) ≡ (if test (see (slice_index_or xs i d)) then Some (see (slice_index_or xs i d)).at else first_place test (map see (drop (i + 1) xs)))
cut test see xs i d h = rw (add-one, drop-cons xs i d) refl

pub next_place : {X : Type 0} (test : Mark → Bool) (see : X → Mark) (xs : List X) (i : ℕ) (d : X) → i < length xs → test (see (slice_index_or xs i d)) ≡ false
    → first_place test (map see (drop i xs)) ≡ first_place test (map see xs) → first_place test (map see (drop (i + 1) xs)) ≡ first_place test (map see xs)
next_place test see xs i d h e f =
    sym (cut test see xs i d h ∙ ap (λ b. if b then Some (see (slice_index_or xs i d)).at else first_place test (map see (drop (i + 1) xs))) e) ∙ f

pub at_place : {X : Type 0} (test : Mark → Bool) (see : X → Mark) (xs : List X) (i : ℕ) (d : X) → i < length xs → test (see (slice_index_or xs i d)) ≡ true
    → first_place test (map see (drop i xs)) ≡ first_place test (map see xs) → Some (see (slice_index_or xs i d)).at ≡ first_place test (map see xs)
at_place test see xs i d h e f =
    sym (cut test see xs i d h ∙ ap (λ b. if b then Some (see (slice_index_or xs i d)).at else first_place test (map see (drop (i + 1) xs))) e) ∙ f

pub no_place : {X : Type 0} (test : Mark → Bool) (see : X → Mark) (xs : List X) (i : ℕ) → length xs ≤ i
    → first_place test (map see (drop i xs)) ≡ first_place test (map see xs) → None ≡ first_place test (map see xs)
no_place test see xs i h f = let d : drop i xs ≡ [] = grind (arith, common_steps) in ap (λ ys. first_place test (map see ys)) (sym d) ∙ f

-- where none of all passes, none of those on the left does
pub none_left : (test : Mark → Bool) (ms ns : List Mark) → first_place test (ms ++ ns) ≡ None → first_place test ms ≡ None
none_left test [] ns e = refl
none_left test (m ∷ ms) ns e = go (none_left test ms ns) (test m) e
  where
    go : (first_place test (ms ++ ns) ≡ None → first_place test ms ≡ None) → (b : Bool) → (if b then Some m.at else first_place test (ms ++ ns)) ≡ None → (if b then Some m.at else first_place test ms) ≡ None
    go f true h = absurd (cc h)
    go f false h = f h

-- nor of those on the right
pub none_right : (test : Mark → Bool) (ms ns : List Mark) → first_place test (ms ++ ns) ≡ None → first_place test ns ≡ None
none_right test [] ns e = e
none_right test (m ∷ ms) ns e = go (none_right test ms ns) (test m) e
  where
    go : (first_place test (ms ++ ns) ≡ None → first_place test ns ≡ None) → (b : Bool) → (if b then Some m.at else first_place test (ms ++ ns)) ≡ None → first_place test ns ≡ None
    go f true h = absurd (cc h)
    go f false h = f h

-- nor the first of them
pub none_at : (test : Mark → Bool) (m : Mark) (ms : List Mark) → first_place test (m ∷ ms) ≡ None → test m ≡ false
none_at test m ms e = go (test m) refl e
  where
    go : (b : Bool) → test m ≡ b → (if b then Some m.at else first_place test ms) ≡ None → test m ≡ false
    go true h k = absurd (cc k)
    go false h k = h
