-- Lists that are cut at some of their members.
use Rattle.std.proofs.Common.{◌≡◌, ◌≢◌, ◌<◌, ◌≤◌, ◌+◌, ℕ, suc, Bool, true, false, not, cond, List, [], ◌∷◌, length, take, drop, refl, ap, ap₂, sym, ◌∙◌, arith}
use Rattle.std.specs.List.{prefix_len}
use Rattle.std.specs.Prelude.{if◌then◌else◌}
use Rattle.vc_lines.specs.Pieces.{pieces, onto_first}

-- how many members stand in front of the first mark
abbrev pub before_mark : {X : Type 0} → (X → Bool) → List X → ℕ
before_mark p xs = prefix_len (λ x. not (p x)) xs

-- there is always a piece
pub pieces_some : {X : Type 0} (p : X → Bool) (xs : List X) → pieces p xs ≢ []
pieces_some p [] e = cc
pieces_some {X} p (x ∷ xs) e = go (p x) (pieces p xs) e
  where
    go : (b : Bool) (rest : List (List X)) → (if b then [] ∷ rest else onto_first x rest) ≢ []
    go true rest e = cc
    go false [] e = cc
    go false (r ∷ rs) e = cc

-- a list with a mark
pub pieces_cut : {X : Type 0} (p : X → Bool) (xs : List X) → before_mark p xs < length xs → pieces p xs ≡ take (before_mark p xs) xs ∷ pieces p (drop (before_mark p xs + 1) xs)
pieces_cut p [] h = absurd (omega arith)
pieces_cut p (x ∷ xs) h = go (p x) (before_mark p xs) (λ q. pieces_cut p xs q) h
  where
    go : (b : Bool) (n : ℕ) → (n < length xs → pieces p xs ≡ take n xs ∷ pieces p (drop (n + 1) xs)) → cond (not b) (1 + n) 0 < length (x ∷ xs)
        → (if b then [] ∷ pieces p xs else onto_first x (pieces p xs)) ≡ take (cond (not b) (1 + n) 0) (x ∷ xs) ∷ pieces p (drop (cond (not b) (1 + n) 0 + 1) (x ∷ xs))
    go true n r q = refl
    go false n r q =
        let e : 1 + n ≡ suc n = omega arith in
        let f : (1 + n) + 1 ≡ suc (n + 1) = omega arith in
        ap (onto_first x) (r (omega arith)) ∙ ap₂ (λ k m. take k (x ∷ xs) ∷ pieces p (drop m (x ∷ xs))) (sym e) (sym f)

-- and one without
pub pieces_whole : {X : Type 0} (p : X → Bool) (xs : List X) → length xs ≤ before_mark p xs → pieces p xs ≡ xs ∷ []
pieces_whole p [] h = refl
pieces_whole p (x ∷ xs) h = go (p x) (before_mark p xs) (λ q. pieces_whole p xs q) h
  where
    go : (b : Bool) (n : ℕ) → (length xs ≤ n → pieces p xs ≡ xs ∷ []) → length (x ∷ xs) ≤ cond (not b) (1 + n) 0
        → (if b then [] ∷ pieces p xs else onto_first x (pieces p xs)) ≡ (x ∷ xs) ∷ []
    go true n r q = absurd (omega arith)
    go false n r q = ap (onto_first x) (r (omega arith))
