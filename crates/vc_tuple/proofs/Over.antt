-- Words over four sets.
use Rattle.std.proofs.Common.{◌≡◌, Bool, [], ◌∷◌, length, IsTrue, arith, subst, sym, slice_index_or}
use Rattle.std.specs.Prelude.{◌↔◌}
use Rattle.vc_label.specs.Sets.{IsPartOf, IsOverSets}
use Rattle.vc_label.specs.declared.tape_set.TapeSet.{TapeSet}
use Rattle.vc_model.specs.Words.{Word, Tape}

pub over_four : (a b c d : TapeSet) (w : Word) (x y z t : Tape) (r : Bool) → length w ≡ 4 → x ≡ slice_index_or w 0 [] → y ≡ slice_index_or w 1 [] → z ≡ slice_index_or w 2 [] → t ≡ slice_index_or w 3 [] → IsPartOf a x × IsPartOf b y → IsTrue r ↔ (IsPartOf c z × IsPartOf d t) → IsTrue r ↔ IsOverSets (a ∷ b ∷ c ∷ d ∷ []) w
over_four a b c d [] x y z t r l e f g h m n = absurd (omega arith)
over_four a b c d (p ∷ []) x y z t r l e f g h m n = absurd (omega arith)
over_four a b c d (p ∷ q ∷ []) x y z t r l e f g h m n = absurd (omega arith)
over_four a b c d (p ∷ q ∷ u ∷ []) x y z t r l e f g h m n = absurd (omega arith)
over_four a b c d (p ∷ q ∷ u ∷ v ∷ []) x y z t r l e f g h m n = (
  λ k. (subst (IsPartOf a) e m.0, (subst (IsPartOf b) f m.1, (subst (IsPartOf c) g (n.0 k).0, (subst (IsPartOf d) h (n.0 k).1, tt)))),
  λ o. n.1 (subst (IsPartOf c) (sym g) o.1.1.0, subst (IsPartOf d) (sym h) o.1.1.1.0),
)
over_four a b c d (p ∷ q ∷ u ∷ v ∷ o ∷ w) x y z t r l e f g h m n = absurd (omega arith)
