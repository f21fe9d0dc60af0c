-- Rows over a field: the first entry that is not zero, and rows with an inverse as factor.
use Rattle.std.specs.Prelude.{◌≡◌, ◌≢◌, ◌↔◌, Bool, true, false, IsTrue, cond, List, [], ◌∷◌, map, if◌then◌else◌}
use Rattle.std.proofs.Common.{refl, sym, ap, ◌∙◌}
use Rattle.vc_model.specs.WeightSet.{WeightSet, SemiringLaws, FieldLaws, SplitLaws, IsZeroRow}
use Rattle.vc_model.specs.Rearranged.{semiring, times_left, one_times}

-- the first entry that is not zero, by a test, and zero where there is none
abbrev pub first_other : {V : Type 0} → WeightSet V → (V → Bool) → List V → V
first_other R is_zero [] = R.zero
first_other R is_zero (x ∷ row) = if is_zero x then first_other R is_zero row else x

-- each entry times a factor
abbrev pub row_times : {V : Type 0} → WeightSet V → V → List V → List V
row_times R by row = map (λ x. R.times x by) row

-- the row times the inverse of its first entry that is not zero
abbrev pub normal_row : {V : Type 0} → WeightSet V → (V → V) → (V → Bool) → List V → List V
normal_row R inverse is_zero row = row_times R (inverse (first_other R is_zero row)) row

same-test : (a b : Bool) → (a ≡ true → b ≡ true) → (b ≡ true → a ≡ true) → a ≡ b
same-test true true p q = refl
same-test true false p q = sym (p refl)
same-test false true p q = q refl
same-test false false p q = refl

module _ {V : Type 0} {R : WeightSet V} (L : SemiringLaws R) (negative inverse : V → V) (F : FieldLaws R negative inverse) where
  -- a factor and its inverse
  undo : (f x : V) → f ≢ R.zero → R.times f (R.times x (inverse f)) ≡ x
  undo f x p = times_left L f x (inverse f) ∙ ap (R.times x) (F.times_inverse f p) ∙ L.times_one x

  pub undo_row : (f : V) (row : List V) → f ≢ R.zero → map (R.times f) (row_times R (inverse f) row) ≡ row
  undo_row f [] p = refl
  undo_row f (x ∷ row) p = ap (λ y. y ∷ map (R.times f) (row_times R (inverse f) row)) (undo f x p) ∙ ap (λ r. x ∷ r) (undo_row f row p)

  other_zero : (f x : V) → f ≢ R.zero → R.times f x ≡ R.zero → x ≡ R.zero
  other_zero f x p e = sym (undo f x p) ∙ ap (R.times f) (L.times_comm x (inverse f)) ∙ times_left L f (inverse f) x ∙ ap (R.times (inverse f)) e ∙ L.times_zero (inverse f)

  pub zero_row : (f : V) (row : List V) → f ≢ R.zero → IsZeroRow R (map (R.times f) row) → IsZeroRow R row
  zero_row f [] p h = h
  zero_row f (x ∷ row) p h = (other_zero f x p h.0, zero_row f row p h.1)

  -- f·x times the inverse of f·g is x times the inverse of g
  cancelled : (f g x : V) → f ≢ R.zero → g ≢ R.zero → R.times (R.times f x) (inverse (R.times f g)) ≡ R.times x (inverse g)
  cancelled f g x p q =
      let j = inverse (R.times f g) in
      let k = inverse g in
      let both : R.times f g ≢ R.zero = λ e. q (other_zero f g p e) in
      let one : R.times (R.times f g) j ≡ R.one = F.times_inverse (R.times f g) both in
      let regroup : R.times f j ≡ R.times f (R.times j (R.times g k)) = ap (R.times f) (sym (ap (R.times j) (F.times_inverse g q) ∙ L.times_one j)) in
      let turned : R.times f (R.times j (R.times g k)) ≡ R.times (R.times (R.times f g) j) k = simp (semiring, L) in
      let inner : R.times f j ≡ k = regroup ∙ turned ∙ ap (λ y. R.times y k) one ∙ one_times L k in
      let outer : R.times (R.times f x) j ≡ R.times x (R.times f j) = simp (semiring, L) in
      outer ∙ ap (R.times x) inner

  pub cancelled_row : (f g : V) (row : List V) → f ≢ R.zero → g ≢ R.zero → row_times R (inverse (R.times f g)) (map (R.times f) row) ≡ row_times R (inverse g) row
  cancelled_row f g [] p q = refl
  cancelled_row f g (x ∷ row) p q = ap (λ y. y ∷ row_times R (inverse (R.times f g)) (map (R.times f) row)) (cancelled f g x p q) ∙ ap (λ r. R.times x (inverse g) ∷ r) (cancelled_row f g row p q)

  module _ (is_zero : V → Bool) (tells : (a : V) → IsTrue (is_zero a) ↔ (a ≡ R.zero)) where
    other_step : (x v : V) (b : Bool) → is_zero x ≡ b → (b ≡ true → v ≢ R.zero) → cond b v x ≢ R.zero
    other_step x v true e f = f refl
    other_step x v false e f = λ z. let yes : is_zero x ≡ true = (tells x).1 z in absurd (cc)

    pub first_is_other : (row : List V) → ¬ IsZeroRow R row → first_other R is_zero row ≢ R.zero
    first_is_other [] h = λ e. absurd (h tt)
    first_is_other (x ∷ row) h = other_step x (first_other R is_zero row) (is_zero x) refl (λ e. first_is_other row (λ z. h ((tells x).0 e, z)))

    times_choice : (f x v w : V) (b : Bool) → w ≡ R.times f v → cond b w (R.times f x) ≡ R.times f (cond b v x)
    times_choice f x v w true e = e
    times_choice f x v w false e = refl

    pub first_times : (f : V) (row : List V) → f ≢ R.zero → first_other R is_zero (map (R.times f) row) ≡ R.times f (first_other R is_zero row)
    first_times f [] p = sym (L.times_zero f)
    first_times f (x ∷ row) p =
        let same : is_zero (R.times f x) ≡ is_zero x = same-test (is_zero (R.times f x)) (is_zero x) (λ e. (tells x).1 (other_zero f x p ((tells (R.times f x)).0 e))) (λ e. (tells (R.times f x)).1 (ap (R.times f) ((tells x).0 e) ∙ L.times_zero f)) in
        let rest = first_other R is_zero (map (R.times f) row) in
        ap (λ b. cond b rest (R.times f x)) same ∙ times_choice f x (first_other R is_zero row) rest (is_zero x) (first_times f row p)

    normal_kept : (row other : List V) → ¬ IsZeroRow R row → ¬ IsZeroRow R other → normal_row R inverse is_zero (map (R.times (first_other R is_zero row)) other) ≡ normal_row R inverse is_zero other
    normal_kept row other h k =
        let f = first_other R is_zero row in
        let g = first_other R is_zero other in
        let p = first_is_other row h in
        ap (λ y. row_times R (inverse y) (map (R.times f) other)) (first_times f other p) ∙ cancelled_row f g other p (first_is_other other k)

    -- over a field, rows split into their first entry that is not zero and the row times its inverse
    pub field_splits : SplitLaws R (first_other R is_zero) (normal_row R inverse is_zero)
    field_splits = record {
      product = λ row h. undo_row (first_other R is_zero row) row (first_is_other row h);
      zero_kept = λ row other h z. zero_row (first_other R is_zero row) other (first_is_other row h) z;
      normal_kept = normal_kept;
    }
