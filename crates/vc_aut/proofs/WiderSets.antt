-- What is a label over sets is one over wider sets.
use Rattle.std.proofs.Common.{◌≡◌, List, [], ◌∷◌, true, arith, All}
use Rattle.std.proofs.lemmas.List.Elements.{All-weaker}
use Rattle.vc_label.specs.Alphabets.{has_letter}
use Rattle.vc_label.specs.Sets.{HasKind, IsOverSets}
use Rattle.vc_label.specs.declared.tape_set.TapeKind.{TapeKind}
use Rattle.vc_label.specs.declared.tape_set.TapeKind.TheVariants.{Letters, Nullable, Words}
use Rattle.vc_label.specs.declared.tape_set.TapeSet.{TapeSet}
use Rattle.vc_model.specs.WeightSet.{WeightSet}
use Rattle.vc_model.specs.Words.{Tape, Word}
use Rattle.vc_aut.specs.Labelled.{Labelled}
use Rattle.vc_aut.specs.Validity.{IsLabelled}
use Rattle.vc_aut.specs.Wider.{AreWithin, IsKindWithin}

kind_within : (j k : TapeKind) → IsKindWithin j k → (a : Tape) → HasKind j a → HasKind k a
kind_within Letters Letters h a n = n
kind_within Letters Nullable h a n = omega (arith, n)
kind_within Letters Words h a n = tt
kind_within Nullable Letters h a n = absurd h
kind_within Nullable Nullable h a n = n
kind_within Nullable Words h a n = tt
kind_within Words Letters h a n = absurd h
kind_within Words Nullable h a n = absurd h
kind_within Words Words h a n = tt

over_wider : (ss ts : List TapeSet) → AreWithin ss ts → (w : Word) → IsOverSets ss w → IsOverSets ts w
over_wider [] [] h w o = o
over_wider [] (t ∷ ts) h w o = absurd h
over_wider (s ∷ ss) [] h w o = absurd h
over_wider (s ∷ ss) (t ∷ ts) h [] o = absurd o
over_wider (s ∷ ss) (t ∷ ts) h (a ∷ w) o = (
  (kind_within s.kind t.kind h.0.kind a o.0.0, All-weaker (λ x. has_letter s.alphabet x ≡ true) (λ x. has_letter t.alphabet x ≡ true) h.0.letters a o.0.1),
  over_wider ss ts h.1 w o.1,
)

-- so are the labels of an automaton
pub labels_over_wider : {V : Type 0} (R : WeightSet V) (a : Labelled V) → IsLabelled R a → (ts : List TapeSet) → AreWithin a.sets ts → All (λ t. IsOverSets ts t.label) a.automaton.transitions
labels_over_wider R a h ts i = λ k d l. over_wider a.sets ts i _ (h.drawn.moves k d l).label
