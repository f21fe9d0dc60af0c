-- Weights of the canonical text are tokens, and are read as what they say.
use Rattle.std.proofs.Common.{◌≡◌, ◌≢◌, ℕ, ◌-◌, Bool, true, false, not, ◌&&◌, ◌==◌, List, [], ◌∷◌, ◌++◌, length, take, All, Option, Some, None, refl, ap, sym, ◌∙◌, arith, length-append}
use Rattle.std.specs.Prelude.{IsTrue}
use Rattle.std.specs.List.{list_all}
use Rattle.std.proofs.Math.Seq.{take-append_seam}
use Rattle.std.proofs.lemmas.Bool.{eqb-true}
use Rattle.std.proofs.lemmas.List.Elements.{All-head, All-tail}
use Rattle.vc_lex.specs.Grammar.{IsTokenText, is_weight_byte}
use Rattle.vc_lex.specs.declared.token.Mode.TheVariants.{Line}
use Rattle.vc_lex.specs.declared.token.TokenKind.TheVariants.{Weight}
use Rattle.vc_model.specs.WeightSet.{WeightSet}
use Rattle.vc_ring.specs.Texts.{TextLaws, IsWeightByte}
use Rattle.vc_daut.specs.Canonical.{weight_text}
use Rattle.vc_text.specs.Escapes.{inside}

-- a text in brackets is read back
pub inside_between : (first last : ℕ) (s : List ℕ) → inside (first ∷ (s ++ last ∷ [])) ≡ s
inside_between first last s =
    let n : length (first ∷ (s ++ last ∷ [])) - 2 ≡ length s = omega (arith, length-append s (last ∷ [])) in
    ap (λ k. take k (s ++ last ∷ [])) n ∙ take-append_seam s (last ∷ [])

differs : (x c : ℕ) → x ≢ c → (x == c) ≡ false
differs x c unlike = go (x == c) refl
  where
    go : (b : Bool) → (x == c) ≡ b → b ≡ false
    go true e = absurd (unlike (eqb-true x c e))
    go false e = refl

three : (a b c : Bool) → a ≡ false → b ≡ false → c ≡ false → not a && (not b && not c) ≡ true
three true b c e f g = absurd (cc)
three false true c e f g = absurd (cc)
three false false true e f g = absurd (cc)
three false false false e f g = refl

byte_fits : (x : ℕ) → IsWeightByte x → is_weight_byte x ≡ true
byte_fits x h =
    let low = h.low in
    three (x == 60) (x == 62) (x == 10) (differs x 60 h.not_less) (differs x 62 h.not_greater) (differs x 10 (λ e. omega arith))

bytes_fit : (s : List ℕ) → All IsWeightByte s → list_all is_weight_byte s ≡ true
bytes_fit [] h = refl
bytes_fit (x ∷ s) h = ap (λ b. b && list_all is_weight_byte s) (byte_fits x (All-head IsWeightByte x s h)) ∙ bytes_fit s (All-tail IsWeightByte x s h)

module _ {V : Type 0} (R : WeightSet V) (spelled : List ℕ → Option V) (fit : List ℕ → Bool) (canonical : V → List ℕ) (laws : TextLaws R spelled fit canonical) where
  weight_some : (w : V) → IsTrue (R.in_range w) → canonical w ≢ []
  weight_some w h e =
      let both : None ≡ Some w = sym laws.not_empty ∙ ap spelled (sym e) ∙ laws.written w h in
      absurd (cc)

  pub weight_token : (w : V) → IsTrue (R.in_range w) → IsTokenText Weight Line (weight_text canonical w)
  weight_token w h = (canonical w, refl, (bytes_fit (canonical w) (laws.bytes w), weight_some w h))

  pub weight_read : (w : V) → IsTrue (R.in_range w) → spelled (inside (weight_text canonical w)) ≡ Some w
  weight_read w h = ap spelled (inside_between 60 62 (canonical w)) ∙ laws.written w h
