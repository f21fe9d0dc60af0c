use Rattle.std.proofs.Common.{inl, inr}
use Rattle.vc_products.proofs.JoinSound.{join_free}
use Rattle.vc_products.proofs.compositions.joins_are_sound.Goals as goal

pub returns-clause-circuits : goal.returns-clause-circuits
returns-clause-circuits g c R A B J j hA hB left right M nA nB = join_free A B J (λ t i. (hA t i).0) (λ t i. (hB t i).0) j.label left right M nA nB

pub returns-clause-sound : goal.returns-clause-sound
returns-clause-sound g c R A B J j hA hB left right M nA nB = elim nA [
  | inl absorbing ↦ inl absorbing
  | inr a ↦ elim nB [ inl absorbing ↦ inl absorbing | inr b ↦ inr (join_free A B J (λ t i. (hA t i).0) (λ t i. (hB t i).0) j.label left right M a b) ]
]
