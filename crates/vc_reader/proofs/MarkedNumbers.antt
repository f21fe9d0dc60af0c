-- Numbers that are marked among the names that were found.
use Rattle.std.proofs.Common.{◌≡◌, ◌≢◌, ◌<◌, ℕ, Bool, true, false, ◌||◌, List, [], ◌∷◌, ◌++◌, length, refl, sym, ◌∙◌, subst, arith, get_or-set_other}
use Rattle.std.specs.Prelude.{slice_set, slice_index_or, if◌then◌else◌, ◌==◌}
use Rattle.std.specs.List.{list_any}
use Rattle.std.specs.Str.{bytes_eq}
use Rattle.std.proofs.lemmas.Grind.{common_steps}
use Rattle.std.proofs.lemmas.Slice.Eq.{bytes_eq-Decides}
use Rattle.vc_reader.specs.NameSets.{AreMarked}
use Rattle.vc_lines.specs.Names.{is_number, value_of, with_name}
use Rattle.vc_reader.proofs.WrittenNames.{same_number}

any_front : {X : Type 0} (p : X → Bool) (xs ys : List X) → list_any p xs ≡ true → list_any p (xs ++ ys) ≡ true
any_front p [] ys h = absurd (cc)
any_front p (x ∷ xs) ys h = go (p x) h (any_front p xs ys)
  where
    go : (b : Bool) → (b || list_any p xs) ≡ true → (list_any p xs ≡ true → list_any p (xs ++ ys) ≡ true) → (b || list_any p (xs ++ ys)) ≡ true
    go true h k = refl
    go false h k = k h

any_last : {X : Type 0} (p : X → Bool) (xs : List X) (x : X) → p x ≡ true → list_any p (xs ++ x ∷ []) ≡ true
any_last p [] x h = rw h refl
any_last p (y ∷ xs) x h = go (p y) (any_last p xs x h)
  where
    go : (b : Bool) → list_any p (xs ++ x ∷ []) ≡ true → (b || list_any p (xs ++ x ∷ [])) ≡ true
    go true h = refl
    go false h = h

kept_by : (p : List ℕ → Bool) (names : List (List ℕ)) (x : List ℕ) (b : Bool) → list_any p names ≡ true → list_any p (if b then names else names ++ x ∷ []) ≡ true
kept_by p names x true h = h
kept_by p names x false h = any_front p names (x ∷ []) h

there_by : (names : List (List ℕ)) (x : List ℕ) (b : Bool) → list_any (bytes_eq x) names ≡ b → list_any (bytes_eq x) (if b then names else names ++ x ∷ []) ≡ true
there_by names x true h = h
there_by names x false h = any_last (bytes_eq x) names x ((bytes_eq-Decides x x).1 refl)

-- a marked number is there already
pub marked_same : (marks : List Bool) (names : List (List ℕ)) (a : List ℕ) → AreMarked marks names → is_number a ≡ true → slice_index_or marks (value_of a) false ≡ true → names ≡ with_name names a
marked_same marks names a m n h = let e : list_any (bytes_eq a) names ≡ true = m a n h in rw e refl

-- the marks are right where there are more names
pub marked_kept : (marks : List Bool) (names : List (List ℕ)) (x : List ℕ) → AreMarked marks names → AreMarked marks (with_name names x)
marked_kept marks names x m a n h = kept_by (bytes_eq a) names x (list_any (bytes_eq x) names) (m a n h)

more_by : (marks : List Bool) (names : List (List ℕ)) (x a : List ℕ) (v : ℕ) → AreMarked marks names → is_number x ≡ true → v ≡ value_of x → v < length marks
    → is_number a ≡ true → slice_index_or (slice_set marks v true) (value_of a) false ≡ true
    → (b : Bool) → (value_of a == v) ≡ b → list_any (bytes_eq a) (with_name names x) ≡ true
more_by marks names x a v m k e l n h true q =
    let same : value_of a ≡ v = grind (arith, common_steps) in
    let is : a ≡ x = same_number a x n k (same ∙ e) in
    subst (λ y. list_any (bytes_eq y) (with_name names x) ≡ true) (sym is) (there_by names x (list_any (bytes_eq x) names) refl)
more_by marks names x a v m k e l n h false q =
    let other : value_of a ≢ v = grind (arith, common_steps) in
    let before : slice_index_or marks (value_of a) false ≡ true = (rw get_or-set_other at h) in
    marked_kept marks names x m a n before

-- a number that is added and marked
pub marked_more : (marks : List Bool) (names : List (List ℕ)) (x : List ℕ) (v : ℕ) → AreMarked marks names → is_number x ≡ true → v ≡ value_of x → v < length marks → AreMarked (slice_set marks v true) (with_name names x)
marked_more marks names x v m k e l a n h = more_by marks names x a v m k e l n h (value_of a == v) refl
