-- Sets of labels that have each label of others.
use Rattle.std.specs.Prelude.{◌≡◌, ℕ, true, List, [], ◌∷◌, ⊤}
use Rattle.vc_label.specs.Alphabets.{has_letter}
use Rattle.vc_label.specs.declared.tape_set.TapeKind.{TapeKind}
use Rattle.vc_label.specs.declared.tape_set.TapeKind.TheVariants.{Letters, Nullable, Words}
use Rattle.vc_label.specs.declared.tape_set.TapeSet.{TapeSet}
use Rattle.vc_aut.specs.Labelled.{Labelled}

-- the second kind allows as many letters as a part of the first has
abbrev pub IsKindWithin : TapeKind → TapeKind → Type 0
IsKindWithin Letters k = ⊤
IsKindWithin Nullable Letters = ⊥
IsKindWithin Nullable Nullable = ⊤
IsKindWithin Nullable Words = ⊤
IsKindWithin Words Letters = ⊥
IsKindWithin Words Nullable = ⊥
IsKindWithin Words Words = ⊤

-- each part of the first set is one of the second
pub record IsWithin (s t : TapeSet) : Type 0 where
  pub kind : IsKindWithin s.kind t.kind
  pub letters : (x : ℕ) → has_letter s.alphabet x ≡ true → has_letter t.alphabet x ≡ true

-- there are as many sets, and each is within the other of its tape
abbrev pub AreWithin : List TapeSet → List TapeSet → Type 0
AreWithin [] [] = ⊤
AreWithin [] (t ∷ ts) = ⊥
AreWithin (s ∷ ss) [] = ⊥
AreWithin (s ∷ ss) (t ∷ ts) = IsWithin s t × AreWithin ss ts

-- the same automaton, with its labels over these sets
abbrev pub over_sets : {V : Type 0} → List TapeSet → Labelled V → Labelled V
over_sets sets a = record { sets = sets; automaton = a.automaton }
