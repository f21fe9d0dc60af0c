-- The letters of a part are read back from its canonical text.
use Rattle.std.proofs.Common.{◌≡◌, ℕ, ◌-◌, Bool, true, false, ◌==◌, List, [], ◌∷◌, ◌++◌, length, take, refl, ap, sym, ◌∙◌, arith}
use Rattle.std.specs.Prelude.{if◌then◌else◌}
use Rattle.std.specs.List.{flat_map}
use Rattle.std.proofs.Math.Seq.{take-append_seam}
use Rattle.std.proofs.lemmas.Bool.{eqb-true, false≢true}
use Rattle.std.proofs.lemmas.List.{length-append}
use Rattle.vc_text.specs.Letters.{is_plain}
use Rattle.vc_model.specs.Words.{Tape}
use Rattle.vc_lex.specs.Marks.{Mark}
use Rattle.vc_exprio.specs.Grammar.{IsPart, is_part_kind}
use Rattle.vc_text.specs.Escapes.{inside, unescaped}
use Rattle.vc_lex.specs.Parts.{tape_text, tape_of}
use Rattle.vc_text.specs.Letters.{letter_text}
use Rattle.vc_exprio.specs.Canonical.{part_piece}

slash_is_not_plain : is_plain 92 ≡ false
unfolding is_plain
slash_is_not_plain = refl

plain_no_slash : (x : ℕ) → is_plain x ≡ true → (x == 92) ≡ false
plain_no_slash x h = go (x == 92) refl
  where
    go : (b : Bool) → (x == 92) ≡ b → b ≡ false
    go true e = absurd (false≢true (sym slash_is_not_plain ∙ ap is_plain (sym (eqb-true x 92 e)) ∙ h))
    go false e = refl

unescaped_plain : (x : ℕ) (s : List ℕ) → (x == 92) ≡ false → unescaped (x ∷ s) ≡ x ∷ unescaped s
unescaped_plain x [] e = refl
unescaped_plain x (y ∷ s) e = ap (λ b. if b then y ∷ unescaped s else x ∷ unescaped (y ∷ s)) e

pub letters_read : (a : Tape) → unescaped (flat_map letter_text a) ≡ a
letters_read [] = refl
letters_read (x ∷ a) = go (is_plain x) refl (letters_read a)
  where
    go : (b : Bool) → is_plain x ≡ b → unescaped (flat_map letter_text a) ≡ a → unescaped ((if b then x ∷ [] else 92 ∷ x ∷ []) ++ flat_map letter_text a) ≡ x ∷ a
    go true e r = unescaped_plain x (flat_map letter_text a) (plain_no_slash x e) ∙ ap (λ t. x ∷ t) r
    go false e r = ap (λ t. x ∷ t) r

letter_read : (x : ℕ) → unescaped (letter_text x) ≡ x ∷ []
letter_read x = go (is_plain x)
  where
    go : (b : Bool) → unescaped (if b then x ∷ [] else 92 ∷ x ∷ []) ≡ x ∷ []
    go true = refl
    go false = refl

pub inside_is : (q r : ℕ) (s : List ℕ) → inside (q ∷ (s ++ r ∷ [])) ≡ s
inside_is q r s =
    let n : length (q ∷ (s ++ r ∷ [])) - 2 ≡ length s = omega (arith, length-append s (r ∷ [])) in
    ap (λ k. take k (s ++ r ∷ [])) n ∙ take-append_seam s (r ∷ [])

-- a token with the text of a part is a part with these letters
pub part_read : (a : Tape) (m : Mark) → m.kind ≡ (part_piece a).kind → m.text ≡ (part_piece a).text → IsPart m × (tape_of m ≡ a)
part_read [] m k t = (ap is_part_kind k, ap (λ x. tape_text x m.text) k)
part_read (x ∷ []) m k t = (ap is_part_kind k, ap (λ y. tape_text y m.text) k ∙ ap unescaped t ∙ letter_read x)
part_read (x ∷ y ∷ a) m k t =
    (ap is_part_kind k, ap (λ z. tape_text z m.text) k ∙ ap (λ z. unescaped (inside z)) t ∙ ap unescaped (inside_is 39 39 (flat_map letter_text (x ∷ y ∷ a))) ∙ letters_read (x ∷ y ∷ a))
