-- Weights of tokens, and letters of one label.
use Rattle.std.proofs.Common.{◌≡◌, ℕ, Bool, true, false, not, ◌&&◌, List, [], ◌∷◌, Option, Some, None, Err, refl, ap, sym, ◌∙◌, subst, inl}
use Rattle.std.specs.Option.{is_some, option_map}
use Rattle.std.specs.Prelude.{IsTrue, option_to_list}
use Rattle.vc_label.specs.Letters.{are_letters, is_of_letters}
use Rattle.vc_model.specs.WeightSet.{WeightSet}
use Rattle.vc_ring.specs.Texts.{read_as}
use Rattle.vc_ring.specs.declared.faults.NumberFault.TheVariants.{Overflow}
use Rattle.vc_lex.specs.declared.token.Token.{Token}
use Rattle.vc_reader.specs.Building.{HasNumeral}
use Rattle.vc_lex.specs.Views.{seen}
use Rattle.vc_text.specs.Escapes.{inside}
use Rattle.vc_reader.proofs.EntryLabels.{both_true}

read_past : {V : Type 0} (o : Option V) (b : Bool) → Err Overflow ≡ read_as o b → is_some o && not b ≡ true
read_past None b e = cc
read_past (Some v) true e = absurd (cc)
read_past (Some v) false e = refl

-- a number past its range
pub past_numeral : {V : Type 0} (R : WeightSet V) (spelled : List ℕ → Option V) (fit : List ℕ → Bool) (o : Option Token) (token : Token) (inner : List ℕ) → o ≡ Some token → inner ≡ inside token.text.now
    → Err Overflow ≡ read_as (spelled inner) (fit inner) → HasNumeral R spelled fit (option_to_list (option_map seen o)) token.at
past_numeral R spelled fit o token inner s i e =
    subst (λ x. HasNumeral R spelled fit (option_to_list (option_map seen x)) token.at) (sym s)
    (seen token, inl refl, refl, subst (λ x. is_some (spelled x) && not (fit x) ≡ true) i (read_past (spelled inner) (fit inner) e))

-- a word of one letter
pub one_letter : (x : ℕ) (s : List ℕ) → s ≡ x ∷ [] → IsTrue (is_of_letters ((x ∷ []) ∷ [])) → IsTrue (are_letters s)
one_letter x s e h = ap are_letters e ∙ (both_true (are_letters (x ∷ [])) true h).0
