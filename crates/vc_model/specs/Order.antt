-- Where one absorbs each element: what adds nothing to an element.
use Rattle.std.proofs.Common.{◌≡◌, List, cond, Bool, true, false, sym, ap, ◌∙◌, subst}
use Rattle.vc_model.specs.WeightSet.{WeightSet, SemiringLaws, Absorbs}
use Rattle.vc_model.specs.Lists.{In}
use Rattle.vc_model.specs.Sums.{sum_over}
use Rattle.vc_model.specs.SumLaws.{sum_same, sum-plus}
use Rattle.vc_model.specs.Absorption.{twice}

module _ {V : Type 0} {R : WeightSet V} (L : SemiringLaws R) (absorbing : Absorbs R) where
  -- x adds nothing to y
  abbrev pub Below : V → V → Type 0
  Below x y = R.plus y x ≡ y

  pub below_plus : (x y z : V) → Below x z → Below y z → Below (R.plus x y) z
  below_plus x y z h k = sym (L.plus_assoc z x y) ∙ ap (λ w. R.plus w y) h ∙ k

  pub below_left : (x y z : V) → Below (R.plus x y) z → Below x z
  below_left x y z h =
      ap (λ w. R.plus w x) (sym h) ∙ L.plus_assoc z (R.plus x y) x
      ∙ ap (R.plus z) (L.plus_comm (R.plus x y) x ∙ sym (L.plus_assoc x x y) ∙ ap (λ w. R.plus w y) (twice L absorbing x)) ∙ h

  pub below_part : (x y z : V) → z ≡ R.plus x y → Below x z
  below_part x y z e = subst (λ w. Below x w) (sym e) (below_left x y (R.plus x y) (twice L absorbing (R.plus x y)))

  pub below_right : (x y z : V) → Below (R.plus x y) z → Below y z
  below_right x y z h = below_left y x z (ap (R.plus z) (L.plus_comm y x) ∙ h)

  pub below_more : (s x y : V) → Below x y → Below x (R.plus s y)
  below_more s x y h = L.plus_assoc s y x ∙ ap (R.plus s) h

  pub below_times : (k x y : V) → Below x y → Below (R.times k x) (R.times k y)
  below_times k x y h = sym (L.times_plus k y x) ∙ ap (R.times k) h

  pub below_cond : (b : Bool) (x y : V) → Below x y → Below (cond b x R.zero) (cond b y R.zero)
  below_cond true x y h = h
  below_cond false x y h = L.plus_zero R.zero

  pub below_sum : {X : Type 0} (f g : X → V) (xs : List X) → ((x : X) → In x xs → Below (f x) (g x)) → Below (sum_over R f xs) (sum_over R g xs)
  below_sum f g xs h = sym (sum-plus L g f xs) ∙ sum_same L _ _ xs h
