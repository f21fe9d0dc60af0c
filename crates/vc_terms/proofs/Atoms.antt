-- The product with an atom reads a label from the front of a word; futures as a system of series.
use Rattle.std.proofs.Common.{◌≡◌, [], ◌∷◌, cond, Bool, true, false, refl, sym, ap, ◌∙◌, inl, inr, ◌⊎◌, ap₂, subst, length, Option, Some, None}
use Rattle.vc_model.specs.WeightSet.{WeightSet, SemiringLaws}
use Rattle.vc_model.specs.Lists.{In}
use Rattle.vc_model.specs.Words.{Word, cut, same_word, cuts}
use Rattle.vc_model.specs.Series.{Series, product_series}
use Rattle.vc_model.specs.Automata.{at_rest}
use Rattle.vc_model.specs.Rearranged.{one_times, zero_times}
use Rattle.vc_model.specs.SumLaws.{sum_zero}
use Rattle.vc_model.specs.SameSums.{same_sums}
use Rattle.vc_model.specs.WordLaws.{same_word-true, same_word_refl, join-cut, cut-join}
use Rattle.vc_model.specs.Cuts.{cuts-In, In-cuts}
use Rattle.vc_model.specs.Pieces.{cuts-NoRepeat}

module _ {V : Type 0} {R : WeightSet V} (L : SemiringLaws R) where
  no_atom : (b : Bool) (x : V) → (b ≡ true → ⊥) → R.times (cond b R.one R.zero) x ≡ R.zero
  no_atom true x h = absurd (h refl)
  no_atom false x h = zero_times L x

  -- a product with the atom a is the value at what follows a
  pub atom_product : (a : Word) (X : Series V) (w : Word) → length a ≡ length w → product_series R (λ v. cond (same_word a v) R.one R.zero) X w ≡ at_rest R.zero X (cut a w)
  atom_product a X w e = go (cut a w) refl
    where
      go : (r : Option Word) → cut a w ≡ r → product_series R (λ v. cond (same_word a v) R.one R.zero) X w ≡ at_rest R.zero X r
      go None q = sum_zero L _ (cuts w) (λ c i. no_atom (same_word a c.0) (X c.1) (λ h.
          let j = cuts-In w c i in
          let p : a ≡ c.0 = same_word-true a c.0 h in
          let k : cut a w ≡ Some c.1 = ap₂ cut p (sym j.0) ∙ cut-join c.0 c.1 (j.1 ∙ sym j.2) in
          cc))
      go (Some v) q =
          let j = join-cut a w v q in
          let f : Word × Word → V = λ c. R.times (cond (same_word a c.0) R.one R.zero) (X c.1) in
          same_sums L f (cuts w) ((a, v) ∷ []) (cuts-NoRepeat w) ((λ i. i), tt)
          (λ c i. hit c (same_word a c.0) refl i)
          (λ c i. elim i [ inl p ↦ inr (subst (λ d. In d (cuts w)) (sym p) (subst (λ z. In (a, v) (cuts z)) j.0 (In-cuts a v (j.2 ∙ sym j.1)))) | inr n ↦ absurd n ])
          ∙ L.plus_zero _
          ∙ ap (λ b. R.times (cond b R.one R.zero) (X v)) (same_word_refl a) ∙ one_times L (X v)
        where
          hit : (c : Word × Word) (b : Bool) → same_word a c.0 ≡ b → In c (cuts w) → (R.times (cond (same_word a c.0) R.one R.zero) (X c.1) ≡ R.zero) ⊎ In c ((a, v) ∷ [])
          hit c false p i = inl (ap (λ b. R.times (cond b R.one R.zero) (X c.1)) p ∙ zero_times L (X c.1))
          hit c true p i =
              let j = cuts-In w c i in
              let s : a ≡ c.0 = same_word-true a c.0 p in
              let k : cut a w ≡ Some c.1 = ap₂ cut s (sym j.0) ∙ cut-join c.0 c.1 (j.1 ∙ sym j.2) in
              let z : c.1 ≡ v = cc in
              inr (inl (ap₂ (λ x y. (x, y)) (sym s) z))
