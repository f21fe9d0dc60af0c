-- Which words are labels over a list of tape sets.
use Rattle.std.specs.Prelude.{◌≡◌, ◌≤◌, true, List, [], ◌∷◌, length, All, ⊤}
use Rattle.vc_label.specs.declared.tape_set.TapeSet.{TapeSet}
use Rattle.vc_label.specs.declared.tape_set.TapeKind.{TapeKind}
use Rattle.vc_label.specs.declared.tape_set.TapeKind.TheVariants.{Letters, Nullable, Words}
use Rattle.vc_label.specs.Alphabets.{has_letter}
use Rattle.vc_model.specs.Words.{Word, Tape}

-- the part has as many letters as its kind allows
abbrev pub HasKind : TapeKind → Tape → Type 0
HasKind Letters a = length a ≡ 1
HasKind Nullable a = length a ≤ 1
HasKind Words a = ⊤

-- the part is in the set of its tape
abbrev pub IsPartOf : TapeSet → Tape → Type 0
IsPartOf s a = HasKind s.kind a × All (λ x. has_letter s.alphabet x ≡ true) a

-- there are as many parts as sets, each in its set
abbrev pub IsOverSets : List TapeSet → Word → Type 0
IsOverSets [] [] = ⊤
IsOverSets [] (a ∷ w) = ⊥
IsOverSets (s ∷ ss) [] = ⊥
IsOverSets (s ∷ ss) (a ∷ w) = IsPartOf s a × IsOverSets ss w

-- at most one letter
abbrev pub IsShortKind : TapeKind → Type 0
IsShortKind Letters = ⊤
IsShortKind Nullable = ⊤
IsShortKind Words = ⊥

-- one tape whose parts have at most one letter
abbrev pub AreSingleSets : List TapeSet → Type 0
AreSingleSets [] = ⊥
AreSingleSets (s ∷ []) = IsShortKind s.kind
AreSingleSets (s ∷ t ∷ ss) = ⊥

-- one tape with at most one letter
abbrev pub IsSingleWord : Word → Type 0
IsSingleWord [] = ⊥
IsSingleWord (a ∷ []) = length a ≤ 1
IsSingleWord (a ∷ b ∷ w) = ⊥
