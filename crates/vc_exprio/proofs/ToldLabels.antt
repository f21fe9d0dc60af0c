-- Labels of the context.
use Rattle.std.proofs.Common.{◌≡◌, Bool, true, false, List, [], ◌∷◌, ◌∙◌, map, length, inl, inr, ap, refl, sym, subst, arith}
use Rattle.std.specs.Prelude.{◌↔◌, IsTrue}
use Rattle.std.proofs.lemmas.Bool.{false≢true}
use Rattle.vc_label.specs.Sets.{IsOverSets}
use Rattle.vc_label.specs.declared.tape_set.TapeSet.{TapeSet}
use Rattle.vc_lex.specs.Marks.{Mark}
use Rattle.vc_lex.specs.Parts.{tape_of, tape_text}
use Rattle.vc_lex.specs.declared.token.TokenKind.TheVariants as kinds
use Rattle.vc_model.specs.Words.{Word, is_empty}
use Rattle.vc_exprio.specs.LabelAnswers.{IsToldOver}
use Rattle.vc_exprio.specs.Meaning.{parts}
use Rattle.vc_exprio.specs.Occurring.{IsOccurrenceOver}
use Rattle.vc_exprio.specs.Words.{IsOverAlphabets}

-- a word over the sets is over their alphabets
pub over_alphabets : (sets : List TapeSet) (w : Word) → IsOverSets sets w → IsOverAlphabets sets w
over_alphabets [] [] h = tt
over_alphabets [] (a ∷ w) h = h
over_alphabets (s ∷ sets) [] h = h
over_alphabets (s ∷ sets) (a ∷ w) h = (h.0.1, over_alphabets sets w h.1)

module _ (sets : List TapeSet) (m : Mark) where
  -- a label of the context that has letters is over the sets
  pub lettered_over : (ms : List Mark) (w : Word) → w ≡ map tape_of (m ∷ ms) → is_empty w ≡ false → IsOccurrenceOver sets (parts m ms) → IsOverSets sets w
  lettered_over ms w e n (inl h) = subst (IsOverSets sets) (sym e) h
  lettered_over ms w e n (inr (inl h)) = absurd (false≢true (sym n ∙ ap is_empty e ∙ h.0))
  lettered_over [] w e n (inr (inr h)) = absurd (false≢true (sym n ∙ ap is_empty e ∙ ap (λ k. is_empty (tape_text k m.text ∷ [])) h))
  lettered_over (o ∷ ms) w e n (inr (inr h)) = absurd h

  -- `\e` alone
  pub one_told : (ms : List Mark) (w : Word) → w ≡ map tape_of (m ∷ ms) → m.kind ≡ kinds.One → length w ≡ 1 → IsOccurrenceOver sets (parts m ms)
  one_told [] w e k l = inr (inr k)
  one_told (o ∷ ms) w e k l = let f : length w ≡ length (map tape_of (m ∷ o ∷ ms)) = ap (λ v. length v) e in absurd (omega (arith, f, l))

  -- a label without letters
  pub empty_told : (ms : List Mark) (w : Word) (told : Bool) → w ≡ map tape_of (m ∷ ms) → (m.kind ≡ kinds.One → length w ≡ 1 → ⊥) → is_empty w ≡ true
      → (IsTrue told ↔ (length w ≡ length sets)) → ((v : Word) → IsOverSets sets v → length v ≡ length sets) → IsToldOver sets (parts m ms) told
  empty_told ms w true e n h t over = inr (inl (sym (ap is_empty e) ∙ h, sym (ap (λ v. length v) e) ∙ t.0 refl))
  empty_told ms w false e n h t over = outside ms e
    where
      outside : (ms : List Mark) → w ≡ map tape_of (m ∷ ms) → IsOccurrenceOver sets (parts m ms) → ⊥
      outside ms f (inl k) = false≢true (t.1 (over w (subst (IsOverSets sets) (sym f) k)))
      outside ms f (inr (inl k)) = false≢true (t.1 (ap (λ v. length v) f ∙ k.1))
      outside [] f (inr (inr k)) = n k (ap (λ v. length v) f)
      outside (o ∷ ms) f (inr (inr k)) = k

  -- and one with letters
  pub lettered_told : (ms : List Mark) (w : Word) (told : Bool) → w ≡ map tape_of (m ∷ ms) → is_empty w ≡ false → (IsTrue told ↔ IsOverSets sets w) → IsToldOver sets (parts m ms) told
  lettered_told ms w true e n t = inl (subst (IsOverSets sets) e (t.0 refl))
  lettered_told ms w false e n t = λ o. false≢true (t.1 (lettered_over ms w e n o))
