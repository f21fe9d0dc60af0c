-- The texts of contexts: names, marks of punctuation and the letters of alphabets are pieces, with blanks before and behind each.
use Rattle.std.specs.Prelude.{◌≡◌, ◌⊎◌, ◌≤◌, ℕ, Bool, true, ◌&&◌, nat_le, List, [], ◌∷◌, ◌++◌, map, length, codes}
use Rattle.std.specs.List.{list_any}
use Rattle.vc_context.specs.declared.context.Weights.{Weights}
use Rattle.vc_context.specs.declared.context.Weights.TheVariants.{B, F2, Z, Q, Nmin}
use Rattle.vc_label.specs.Alphabets.{has_letter}
use Rattle.vc_label.specs.declared.alphabet.Alphabet.{Alphabet}
use Rattle.vc_label.specs.declared.tape_set.TapeKind.{TapeKind}
use Rattle.vc_label.specs.declared.tape_set.TapeKind.TheVariants.{Letters, Nullable, Words}
use Rattle.vc_label.specs.declared.tape_set.TapeSet.{TapeSet}
use Rattle.vc_text.specs.Letters.{SpellsLetter}
use Rattle.vc_text.specs.Blanks.{is_blank, AreBlanks}
use Rattle.vc_model.specs.Lists.{In}

-- the pieces one behind another, with any number of blanks before and behind each
abbrev pub Spaced : List (List ℕ) → List ℕ → Type 0
Spaced [] text = AreBlanks text
Spaced (piece ∷ pieces) text = (blanks rest : List ℕ) × (text ≡ blanks ++ (piece ++ rest)) × AreBlanks blanks × Spaced pieces rest

-- the letters from one to another
pub record Range : Type 0 where
  pub first : ℕ
  pub last : ℕ

-- an item names a range: one letter, or two letters with `-` between them, the first not above the last
abbrev pub SpellsItem : List ℕ → Range → Type 0
SpellsItem text r =
    (SpellsLetter text r.first × (r.last ≡ r.first))
    ⊎ ((first last : List ℕ) × (text ≡ first ++ 45 ∷ last) × SpellsLetter first r.first × SpellsLetter last r.last × (r.first ≤ r.last))

-- any number of items, one behind another
abbrev pub SpellsItems : List ℕ → List Range → Type 0
SpellsItems text [] = text ≡ []
SpellsItems text (r ∷ ranges) = (item rest : List ℕ) × (text ≡ item ++ rest) × SpellsItem item r × SpellsItems rest ranges

-- whether a letter lies in a range, its ends included
abbrev pub is_between : ℕ → Range → Bool
is_between x r = nat_le r.first x && nat_le x r.last

-- whether some range has the letter
abbrev pub is_named : List Range → ℕ → Bool
is_named ranges x = list_any (is_between x) ranges

-- the alphabet has the letters that the items name
abbrev pub SpellsAlphabet : List ℕ → Alphabet → Type 0
SpellsAlphabet text alphabet = (ranges : List Range) × SpellsItems text ranges × ((x : ℕ) → has_letter alphabet x ≡ is_named ranges x)

-- the pieces before and behind the letters of an alphabet
pub record Frame : Type 0 where
  pub before : List (List ℕ)
  pub behind : List (List ℕ)

-- a name, and parentheses
abbrev pub called : List ℕ → Frame
called name = record { before = name ∷ codes "(" ∷ []; behind = codes ")" ∷ [] }

-- a name, and another frame in angle brackets
abbrev pub angled : List ℕ → Frame → Frame
angled name frame = record { before = name ∷ codes "<" ∷ frame.before; behind = frame.behind ++ codes ">" ∷ [] }

-- the frames of letters that begin with a name
abbrev pub letters_frames : List Frame
letters_frames =
    called (codes "lal_char")
    ∷ angled (codes "lal") (called (codes "char"))
    ∷ angled (codes "letterset") (called (codes "char_letters"))
    ∷ []

-- the frames of each kind that begin with a name
abbrev pub named_frames : TapeKind → List Frame
named_frames Letters = letters_frames
named_frames Nullable =
    called (codes "lan_char")
    ∷ angled (codes "lan") (called (codes "char"))
    ∷ map (angled (codes "nullableset")) letters_frames
named_frames Words =
    called (codes "law_char")
    ∷ angled (codes "law") (called (codes "char"))
    ∷ angled (codes "wordset") (called (codes "char_letters"))
    ∷ []

-- the frame of each kind in brackets
abbrev pub bracket_frame : TapeKind → Frame
bracket_frame Letters = record { before = codes "[" ∷ []; behind = codes "]" ∷ [] }
bracket_frame Nullable = record { before = codes "[" ∷ []; behind = codes "]" ∷ codes "?" ∷ [] }
bracket_frame Words = record { before = codes "[" ∷ []; behind = codes "]" ∷ codes "*" ∷ [] }

-- the letters of an alphabet in a frame
abbrev pub IsFramed : Frame → List (List ℕ) → Alphabet → Type 0
IsFramed frame pieces alphabet = (text : List ℕ) × (pieces ≡ frame.before ++ text ∷ frame.behind) × SpellsAlphabet text alphabet

-- the set of one tape, with a name
abbrev pub IsNamed : List (List ℕ) → TapeSet → Type 0
IsNamed pieces set = (frame : Frame) × In frame (named_frames set.kind) × IsFramed frame pieces set.alphabet

-- the set of one tape, in brackets
abbrev pub IsBracketed : List (List ℕ) → TapeSet → Type 0
IsBracketed pieces set = IsFramed (bracket_frame set.kind) pieces set.alphabet

-- the set of one tape
abbrev pub IsTape : List (List ℕ) → TapeSet → Type 0
IsTape pieces set = IsNamed pieces set ⊎ IsBracketed pieces set

-- the sets of tapes, one or more, with marks between them
abbrev pub AreJoined : (List ℕ → Type 0) → (List (List ℕ) → TapeSet → Type 0) → List (List ℕ) → List TapeSet → Type 0
AreJoined IsMark IsOne pieces [] = ⊥
AreJoined IsMark IsOne pieces (set ∷ []) = IsOne pieces set
AreJoined IsMark IsOne pieces (set ∷ next ∷ sets) =
    (front behind : List (List ℕ)) × (mark : List ℕ) × (pieces ≡ front ++ mark ∷ behind)
    × IsOne front set × IsMark mark × AreJoined IsMark IsOne behind (next ∷ sets)

-- `,` between the tapes of a list
abbrev pub IsComma : List ℕ → Type 0
IsComma mark = mark ≡ codes ","

-- `x` between bracketed tapes, with a blank on each side
abbrev pub IsCross : List ℕ → Type 0
IsCross mark = (before behind : ℕ) × (mark ≡ before ∷ 120 ∷ behind ∷ []) × (is_blank before ≡ true) × (is_blank behind ≡ true)

-- two to four tapes
abbrev pub AreSeveral : List TapeSet → Type 0
AreSeveral sets = (2 ≤ length sets) × (length sets ≤ 4)

-- the set of one tape is a label set
abbrev pub IsSingle : List (List ℕ) → List TapeSet → Type 0
IsSingle pieces sets = (set : TapeSet) × (sets ≡ set ∷ []) × IsTape pieces set

-- two to four tapes in angle brackets behind a name, with commas
abbrev pub IsListed : List (List ℕ) → List TapeSet → Type 0
IsListed pieces sets =
    (name : List ℕ) × (inside : List (List ℕ)) × ((name ≡ codes "lat") ⊎ (name ≡ codes "tupleset"))
    × (pieces ≡ name ∷ codes "<" ∷ (inside ++ codes ">" ∷ [])) × AreJoined IsComma IsTape inside sets × AreSeveral sets

-- two to four bracketed tapes with crosses
abbrev pub IsCrossed : List (List ℕ) → List TapeSet → Type 0
IsCrossed pieces sets = AreJoined IsCross IsBracketed pieces sets × AreSeveral sets

-- a label set
abbrev pub IsLabels : List (List ℕ) → List TapeSet → Type 0
IsLabels pieces sets = IsSingle pieces sets ⊎ (IsListed pieces sets ⊎ IsCrossed pieces sets)

-- the mark before the weight set
abbrev pub IsArrow : List ℕ → Type 0
IsArrow mark = (mark ≡ codes ",") ⊎ (mark ≡ codes "->")

-- the name of a weight set
abbrev pub weights_name : Weights → List ℕ
weights_name B = codes "b"
weights_name F2 = codes "f2"
weights_name Z = codes "z"
weights_name Q = codes "q"
weights_name Nmin = codes "nmin"

-- the text spells the context of these tapes and weights: a label set, a mark, and the name of the weight set
pub record SpellsContext (text : List ℕ) (sets : List TapeSet) (weights : Weights) : Type 0 where
  pub labels : List (List ℕ)
  pub mark : List ℕ
  pub is_labels : IsLabels labels sets
  pub is_arrow : IsArrow mark
  pub spaced : Spaced (labels ++ mark ∷ weights_name weights ∷ []) text
