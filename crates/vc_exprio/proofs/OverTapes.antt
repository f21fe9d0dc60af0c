-- Words over label sets, tape by tape.
use Rattle.std.proofs.Common.{◌∷◌, ℕ, ◌+◌, List, [], drop, get_or, subst, sym}
use Rattle.vc_label.specs.Sets.{IsOverSets, IsPartOf}
use Rattle.vc_label.specs.declared.tape_set.TapeSet.{TapeSet}
use Rattle.vc_model.specs.Words.{Word}
use Rattle.vc_exprio.proofs.GrownWords.{TapeStep}

module _ (sets : List TapeSet) (w : Word) (i : ℕ) (s : TapeSet) (step : TapeStep sets w i s) where
  pub with_tape : IsPartOf s (get_or w i []) → IsOverSets (drop (i + 1) sets) (drop (i + 1) w) → IsOverSets (drop i sets) (drop i w)
  with_tape h k = subst (λ x. IsOverSets x (drop i w)) (sym step.sets_at) (subst (IsOverSets (s ∷ drop (i + 1) sets)) (sym step.word_at) (h, k))

  both_of : IsOverSets (drop i sets) (drop i w) → IsPartOf s (get_or w i []) × IsOverSets (drop (i + 1) sets) (drop (i + 1) w)
  both_of h = subst (IsOverSets (s ∷ drop (i + 1) sets)) step.word_at (subst (λ x. IsOverSets x (drop i w)) step.sets_at h)

  pub first_tape : IsOverSets (drop i sets) (drop i w) → IsPartOf s (get_or w i [])
  first_tape h = (both_of h).0

  pub other_tapes : IsOverSets (drop i sets) (drop i w) → IsOverSets (drop (i + 1) sets) (drop (i + 1) w)
  other_tapes h = (both_of h).1
