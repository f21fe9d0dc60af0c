-- Blanks in front of a text.
use Rattle.std.proofs.Common.{◌≡◌, ℕ, Bool, true, false, ◌&&◌, List, [], ◌∷◌, ◌++◌, refl, ap, sym, ◌∙◌}
use Rattle.std.specs.List.{list_all}
use Rattle.std.specs.Prelude.{if◌then◌else◌}
use Rattle.vc_exprio.proofs.Letters.{both_true}
use Rattle.vc_text.specs.Blanks.{after_blanks, AreBlanks, is_blank}

pub skip_blank : (x : ℕ) (s : List ℕ) → is_blank x ≡ true → after_blanks (x ∷ s) ≡ after_blanks s
skip_blank x s e = ap (λ b. if b then after_blanks s else x ∷ s) e

pub skip_other : (x : ℕ) (s : List ℕ) → is_blank x ≡ false → after_blanks (x ∷ s) ≡ x ∷ s
skip_other x s e = ap (λ b. if b then after_blanks s else x ∷ s) e

pub skip_blanks : (blanks s : List ℕ) → AreBlanks blanks → after_blanks (blanks ++ s) ≡ after_blanks s
skip_blanks [] s are = refl
skip_blanks (x ∷ blanks) s are =
    let each = both_true (is_blank x) (list_all is_blank blanks) are in
    skip_blank x (blanks ++ s) each.0 ∙ skip_blanks blanks s each.1

pub blanks_before : (s : List ℕ) → (blanks : List ℕ) × (s ≡ blanks ++ after_blanks s) × AreBlanks blanks
blanks_before [] = ([], refl, refl)
blanks_before (x ∷ s) = more (is_blank x) refl (blanks_before s)
  where
    more : (b : Bool) → is_blank x ≡ b → ((blanks : List ℕ) × (s ≡ blanks ++ after_blanks s) × AreBlanks blanks)
        → (blanks : List ℕ) × (x ∷ s ≡ blanks ++ after_blanks (x ∷ s)) × AreBlanks blanks
    more true e (blanks, text, are) = (x ∷ blanks, ap (λ t. x ∷ t) text ∙ ap (λ t. x ∷ (blanks ++ t)) (sym (skip_blank x s e)), ap (λ b. b && list_all is_blank blanks) e ∙ are)
    more false e rest = ([], sym (skip_other x s e), refl)
