-- How many bytes stand before a place, one letter or byte after the other.
use Rattle.std.proofs.Common.{◌≡◌, ◌<◌, ◌+◌, ◌==◌, ℕ, List, [], ◌∷◌, length, Bool, true, false, refl, ap, ◌∙◌, arith}
use Rattle.std.specs.Prelude.{◌&&◌, if◌then◌else◌}
use Rattle.vc_text.specs.Letters.{is_escaped}
use Rattle.vc_lines.specs.Contexts.{before, after_one}

-- where nothing stops, one letter or byte more stands before
one_before : (stops : List ℕ → Bool) (s : List ℕ) → 0 < length s → stops s ≡ false → before stops s + length (after_one s) ≡ before stops (after_one s) + length s
one_before stops [] h e = absurd (omega arith)
one_before stops (x ∷ []) h e = ap (λ (b : Bool). (if b then 0 else 1) + 0) e
one_before stops (x ∷ y ∷ s) h e = ap (λ (b : Bool). (if b then 0 else (if x == 92 && is_escaped y then 2 + before stops s else 1 + before stops (y ∷ s))) + length (after_one (x ∷ y ∷ s))) e ∙ go (x == 92 && is_escaped y)
  where
    go : (b : Bool) → (if b then 2 + before stops s else 1 + before stops (y ∷ s)) + length (if b then s else y ∷ s) ≡ before stops (if b then s else y ∷ s) + length (x ∷ y ∷ s)
    go true = omega arith
    go false = omega arith

-- what stands before all is what stands before the rest, and the bytes in front of it
pub still_before : (stops : List ℕ → Bool) (all rest : List ℕ) → 0 < length rest → stops rest ≡ false → before stops all + length rest ≡ before stops rest + length all
    → before stops all + length (after_one rest) ≡ before stops (after_one rest) + length all
still_before stops all rest h e i = let o = one_before stops rest h e in omega (arith, o, i)

-- nothing stands before a place that stops, or before the end
pub none_before : (stops : List ℕ → Bool) (s : List ℕ) → stops s ≡ true → before stops s ≡ 0
none_before stops [] e = refl
none_before stops (x ∷ []) e = ap (λ (b : Bool). if b then 0 else 1) e
none_before stops (x ∷ y ∷ s) e = ap (λ (b : Bool). if b then 0 else (if x == 92 && is_escaped y then 2 + before stops s else 1 + before stops (y ∷ s))) e

pub none_at_end : (stops : List ℕ → Bool) (s : List ℕ) → length s ≡ 0 → before stops s ≡ 0
none_at_end stops [] e = refl
none_at_end stops (x ∷ s) e = absurd (omega (arith, e))
