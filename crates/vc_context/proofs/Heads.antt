-- Tapes are read by how they begin.
use Rattle.std.proofs.Common.{◌≡◌, ℕ, List, [], ◌∷◌, ◌++◌, Some, None, refl, ap, ◌∙◌, subst, inl, inr}
use Rattle.std.specs.Prelude.{codes}
use Rattle.std.specs.Option.{option_map, option_map_or}
use Rattle.vc_context.specs.Reading.{◌>>=◌, after, letters_until, Tape, tape_of, with_kind, called_front, angled_front, letters_called, nullable_set, nullable_called, words_called, kind_behind, bracketed_front, named_front, tape_front, choose}
use Rattle.vc_context.specs.Spelling.{Frame, SpellsAlphabet, letters_frames, named_frames, bracket_frame, IsFramed, IsNamed, IsBracketed, IsTape}
use Rattle.vc_text.specs.Blanks.{AreBlanks}
use Rattle.vc_context.proofs.Alphabets.{alphabet_read, bracket_closes}
use Rattle.vc_context.proofs.Fronts.{Begins, blanks_before_piece, begins_split}
use Rattle.vc_context.proofs.OneTape.{Framed}
use Rattle.vc_context.proofs.OneRead.{piece_read, tape_with, letters_read, nullable_read, words_read, angled_member}
use Rattle.vc_context.proofs.Steps.{bind_is, map_is, choose_is, choose_not, found}
use Rattle.vc_label.specs.Alphabets.{letters_of}
use Rattle.vc_label.specs.declared.alphabet.Alphabet.{Alphabet}
use Rattle.vc_label.specs.declared.tape_set.TapeKind.{TapeKind}
use Rattle.vc_label.specs.declared.tape_set.TapeKind.TheVariants.{Letters, Nullable, Words}
use Rattle.vc_label.specs.declared.tape_set.TapeSet.{TapeSet}
use Rattle.vc_model.specs.Lists.{In}

-- the text begins with this piece, behind blanks
pub record Starts (name s : List ℕ) : Type 0 where
  pub blanks : List ℕ
  pub next : List ℕ
  pub at : s ≡ blanks ++ (name ++ next)
  pub are : AreBlanks blanks

pub begins_starts : (piece : List ℕ) (pieces : List (List ℕ)) (s rest : List ℕ) → Begins (piece ∷ pieces) s rest → Starts piece s
begins_starts piece pieces s rest (blanks, next, at, are, begins) = record { blanks = blanks; next = next; at = at; are = are }

-- none of these pieces is found where the name begins
abbrev pub AreApart : List ℕ → List (List ℕ) → Type 0
AreApart name [] = Unit {0}
AreApart name (other ∷ others) = ((t : List ℕ) → after other (name ++ t) ≡ None) × AreApart name others

abbrev pub NoneOf : List (List ℕ) → List ℕ → Type 0
NoneOf [] s = Unit {0}
NoneOf (other ∷ others) s = (after other s ≡ None) × NoneOf others s

pub none_of : (name : List ℕ) (others : List (List ℕ)) (s : List ℕ) → Starts name s → AreApart name others → NoneOf others s
none_of name [] s starts apart = tt
none_of name (other ∷ others) s starts apart =
    (ap (after other) starts.at ∙ blanks_before_piece other starts.blanks (name ++ starts.next) starts.are ∙ apart.0 starts.next, none_of name others s starts apart.1)

-- what tells a tape with a name from lists and from brackets
abbrev pub others : List (List ℕ)
others = codes "lat" ∷ codes "tupleset" ∷ codes "[" ∷ []

abbrev lal_names : List (List ℕ)
lal_names = codes "lal_char" ∷ codes "lal" ∷ codes "letterset" ∷ []

abbrev lan_names : List (List ℕ)
lan_names = codes "lan_char" ∷ codes "lan" ∷ codes "nullableset" ∷ []

no_letters : (kind : TapeKind) (s : List ℕ) → NoneOf lal_names s → letters_called kind s ≡ None
no_letters kind s none =
    choose_not (after (codes "lal_char") s) (called_front kind) (choose (after (codes "lal") s) (angled_front kind (codes "char")) (after (codes "letterset") s >>= angled_front kind (codes "char_letters"))) none.0
    ∙ choose_not (after (codes "lal") s) (angled_front kind (codes "char")) (after (codes "letterset") s >>= angled_front kind (codes "char_letters")) none.1.0
    ∙ ap (λ o. o >>= angled_front kind (codes "char_letters")) none.1.1.0

no_nullable : (s : List ℕ) → NoneOf lan_names s → nullable_called s ≡ None
no_nullable s none =
    choose_not (after (codes "lan_char") s) (called_front Nullable) (choose (after (codes "lan") s) (angled_front Nullable (codes "char")) (after (codes "nullableset") s >>= nullable_set)) none.0
    ∙ choose_not (after (codes "lan") s) (angled_front Nullable (codes "char")) (after (codes "nullableset") s >>= nullable_set) none.1.0
    ∙ ap (λ o. o >>= nullable_set) none.1.1.0

-- a tape with a name is read, and nothing else
pub record NamedRead (kind : TapeKind) (a : Alphabet) (s rest : List ℕ) : Type 0 where
  pub named : named_front s ≡ found (tape_with kind a) rest
  pub alone : NoneOf others s

-- no mark of a kind stands next
pub record NoKind (rest : List ℕ) : Type 0 where
  pub question : after (codes "?") rest ≡ None
  pub star : after (codes "*") rest ≡ None

module _ (a : Alphabet) where
  starts_with : (name : List ℕ) (before : List (List ℕ)) (frame : Frame) (s rest : List ℕ) → frame.before ≡ name ∷ before
      → Framed frame.before frame.behind a s rest → Starts name s
  starts_with name before frame s rest e (text, spells, begins) =
      begins_starts name (before ++ text ∷ frame.behind) s rest (subst (λ (p : List (List ℕ)). Begins (p ++ text ∷ frame.behind) s rest) e begins)

  letters_head : (frame : Frame) (s rest : List ℕ) → In frame letters_frames → Framed frame.before frame.behind a s rest → NoneOf others s
  letters_head frame s rest (inl e) framed = none_of (codes "lal_char") others s (starts_with (codes "lal_char") (codes "(" ∷ []) frame s rest (ap (λ (f : Frame). f.before) e) framed) (λ t. refl, (λ t. refl, (λ t. refl, tt)))
  letters_head frame s rest (inr (inl e)) framed = none_of (codes "lal") others s (starts_with (codes "lal") (codes "<" ∷ codes "char" ∷ codes "(" ∷ []) frame s rest (ap (λ (f : Frame). f.before) e) framed) (λ t. refl, (λ t. refl, (λ t. refl, tt)))
  letters_head frame s rest (inr (inr (inl e))) framed = none_of (codes "letterset") others s (starts_with (codes "letterset") (codes "<" ∷ codes "char_letters" ∷ codes "(" ∷ []) frame s rest (ap (λ (f : Frame). f.before) e) framed) (λ t. refl, (λ t. refl, (λ t. refl, tt)))
  letters_head frame s rest (inr (inr (inr member))) framed = absurd member

  -- no piece of another kind is found
  abbrev NullableHead : List ℕ → Type 0
  NullableHead s = NoneOf others s × NoneOf lal_names s

  nullable_from : (name s : List ℕ) → Starts name s → AreApart name others → AreApart name lal_names → NullableHead s
  nullable_from name s starts apart more = (none_of name others s starts apart, none_of name lal_names s starts more)

  nullable_head : (frame : Frame) (s rest : List ℕ) → In frame (named_frames Nullable) → Framed frame.before frame.behind a s rest → NullableHead s
  nullable_head frame s rest (inl e) framed =
      nullable_from (codes "lan_char") s (starts_with (codes "lan_char") (codes "(" ∷ []) frame s rest (ap (λ (f : Frame). f.before) e) framed) (λ t. refl, (λ t. refl, (λ t. refl, tt))) (λ t. refl, (λ t. refl, (λ t. refl, tt)))
  nullable_head frame s rest (inr (inl e)) framed =
      nullable_from (codes "lan") s (starts_with (codes "lan") (codes "<" ∷ codes "char" ∷ codes "(" ∷ []) frame s rest (ap (λ (f : Frame). f.before) e) framed) (λ t. refl, (λ t. refl, (λ t. refl, tt))) (λ t. refl, (λ t. refl, (λ t. refl, tt)))
  nullable_head frame s rest (inr (inr member)) framed =
      let (inner, is, e) = angled_member a frame letters_frames member in
      nullable_from (codes "nullableset") s (starts_with (codes "nullableset") (codes "<" ∷ inner.before) frame s rest (ap (λ (f : Frame). f.before) e) framed) (λ t. refl, (λ t. refl, (λ t. refl, tt))) (λ t. refl, (λ t. refl, (λ t. refl, tt)))

  abbrev WordsHead : List ℕ → Type 0
  WordsHead s = NoneOf others s × NoneOf lal_names s × NoneOf lan_names s

  words_from : (name s : List ℕ) → Starts name s → AreApart name others → AreApart name lal_names → AreApart name lan_names → WordsHead s
  words_from name s starts apart more most = (none_of name others s starts apart, none_of name lal_names s starts more, none_of name lan_names s starts most)

  words_head : (frame : Frame) (s rest : List ℕ) → In frame (named_frames Words) → Framed frame.before frame.behind a s rest → WordsHead s
  words_head frame s rest (inl e) framed =
      words_from (codes "law_char") s (starts_with (codes "law_char") (codes "(" ∷ []) frame s rest (ap (λ (f : Frame). f.before) e) framed) (λ t. refl, (λ t. refl, (λ t. refl, tt))) (λ t. refl, (λ t. refl, (λ t. refl, tt))) (λ t. refl, (λ t. refl, (λ t. refl, tt)))
  words_head frame s rest (inr (inl e)) framed =
      words_from (codes "law") s (starts_with (codes "law") (codes "<" ∷ codes "char" ∷ codes "(" ∷ []) frame s rest (ap (λ (f : Frame). f.before) e) framed) (λ t. refl, (λ t. refl, (λ t. refl, tt))) (λ t. refl, (λ t. refl, (λ t. refl, tt))) (λ t. refl, (λ t. refl, (λ t. refl, tt)))
  words_head frame s rest (inr (inr (inl e))) framed =
      words_from (codes "wordset") s (starts_with (codes "wordset") (codes "<" ∷ codes "char_letters" ∷ codes "(" ∷ []) frame s rest (ap (λ (f : Frame). f.before) e) framed) (λ t. refl, (λ t. refl, (λ t. refl, tt))) (λ t. refl, (λ t. refl, (λ t. refl, tt))) (λ t. refl, (λ t. refl, (λ t. refl, tt)))
  words_head frame s rest (inr (inr (inr member))) framed = absurd member

  named_by_kind : (kind : TapeKind) (frame : Frame) (s rest : List ℕ) → In frame (named_frames kind) → Framed frame.before frame.behind a s rest → NamedRead kind a s rest
  named_by_kind Letters frame s rest member framed = record {
    named = choose_is (letters_called Letters s) Some (choose (nullable_called s) Some (words_called s)) (tape_with Letters a, rest) (letters_read a Letters frame s rest member framed);
    alone = letters_head frame s rest member framed;
  }
  named_by_kind Nullable frame s rest member framed =
      let head = nullable_head frame s rest member framed in
      record {
        named = choose_not (letters_called Letters s) Some (choose (nullable_called s) Some (words_called s)) (no_letters Letters s head.1)
            ∙ choose_is (nullable_called s) Some (words_called s) (tape_with Nullable a, rest) (nullable_read a frame s rest member framed);
        alone = head.0;
      }
  named_by_kind Words frame s rest member framed =
      let head = words_head frame s rest member framed in
      record {
        named = choose_not (letters_called Letters s) Some (choose (nullable_called s) Some (words_called s)) (no_letters Letters s head.1)
            ∙ choose_not (nullable_called s) Some (words_called s) (no_nullable s head.2) ∙ words_read a frame s rest member framed;
        alone = head.0;
      }

  -- the kind of letters in brackets
  letters_kind : (rest : List ℕ) → NoKind rest → kind_behind (letters_of a, rest) ≡ (let p : Tape × List ℕ = (tape_with Letters a, rest) in p)
  letters_kind rest none =
      ap (λ o. option_map_or (λ t. with_kind Nullable (letters_of a, t)) o (option_map_or (λ t. with_kind Words (letters_of a, t)) (after (codes "*") rest) (with_kind Letters (letters_of a, rest)))) none.question
      ∙ ap (λ o. option_map_or (λ t. with_kind Words (letters_of a, t)) o (with_kind Letters (letters_of a, rest))) none.star

  nullable_kind : (middle rest : List ℕ) → Begins (codes "?" ∷ []) middle rest → kind_behind (letters_of a, middle) ≡ (let p : Tape × List ℕ = (tape_with Nullable a, rest) in p)
  nullable_kind middle rest begins =
      let (next, is, end) = piece_read (codes "?") [] middle rest (λ t. refl) begins in
      ap (λ o. option_map_or (λ t. with_kind Nullable (letters_of a, t)) o (option_map_or (λ t. with_kind Words (letters_of a, t)) (after (codes "*") middle) (with_kind Letters (letters_of a, middle)))) (is ∙ ap Some end)

  words_kind : (middle rest : List ℕ) → Begins (codes "*" ∷ []) middle rest → kind_behind (letters_of a, middle) ≡ (let p : Tape × List ℕ = (tape_with Words a, rest) in p)
  words_kind middle rest begins =
      let (next, is, end) = piece_read (codes "*") [] middle rest (λ t. refl) begins in
      let (none, nothing) = none_of (codes "*") (codes "?" ∷ []) middle (begins_starts (codes "*") [] middle rest begins) (λ t. refl, tt) in
      ap (λ o. option_map_or (λ t. with_kind Nullable (letters_of a, t)) o (option_map_or (λ t. with_kind Words (letters_of a, t)) (after (codes "*") middle) (with_kind Letters (letters_of a, middle)))) none
      ∙ ap (λ o. option_map_or (λ t. with_kind Words (letters_of a, t)) o (with_kind Letters (letters_of a, middle))) (is ∙ ap Some end)

  bracket_read : (tape : Tape) (text s middle rest : List ℕ) → SpellsAlphabet text a → Begins (codes "[" ∷ text ∷ codes "]" ∷ []) s middle
      → kind_behind (letters_of a, middle) ≡ (let p : Tape × List ℕ = (tape, rest) in p) → bracketed_front s ≡ found tape rest
  bracket_read tape text s middle rest spells begins kind =
      let start = piece_read (codes "[") (text ∷ codes "]" ∷ []) s middle (λ t. refl) begins in
      bind_is (after (codes "[") s) (λ s. option_map kind_behind (letters_until (codes "]") s)) start.0 start.1
      ∙ map_is kind_behind (letters_until (codes "]") start.0) (letters_of a, middle) (alphabet_read 93 a start.0 middle text bracket_closes spells start.2)
      ∙ ap Some kind

  bracket_by_kind : (kind : TapeKind) (pieces : List (List ℕ)) (s rest : List ℕ) → IsFramed (bracket_frame kind) pieces a → Begins pieces s rest → NoKind rest
      → bracketed_front s ≡ found (tape_with kind a) rest
  bracket_by_kind Letters pieces s rest (text, e, spells) begins none =
      bracket_read (tape_with Letters a) text s rest rest spells (subst (λ (p : List (List ℕ)). Begins p s rest) e begins) (letters_kind rest none)
  bracket_by_kind Nullable pieces s rest (text, e, spells) begins none =
      let (middle, front, behind) = begins_split (codes "[" ∷ text ∷ codes "]" ∷ []) (codes "?" ∷ []) s rest (subst (λ (p : List (List ℕ)). Begins p s rest) e begins) in
      bracket_read (tape_with Nullable a) text s middle rest spells front (nullable_kind middle rest behind)
  bracket_by_kind Words pieces s rest (text, e, spells) begins none =
      let (middle, front, behind) = begins_split (codes "[" ∷ text ∷ codes "]" ∷ []) (codes "*" ∷ []) s rest (subst (λ (p : List (List ℕ)). Begins p s rest) e begins) in
      bracket_read (tape_with Words a) text s middle rest spells front (words_kind middle rest behind)

  bracket_starts : (kind : TapeKind) (pieces : List (List ℕ)) (s rest : List ℕ) → IsFramed (bracket_frame kind) pieces a → Begins pieces s rest → Starts (codes "[") s
  bracket_starts Letters pieces s rest (text, e, spells) begins = begins_starts (codes "[") (text ∷ codes "]" ∷ []) s rest (subst (λ (p : List (List ℕ)). Begins p s rest) e begins)
  bracket_starts Nullable pieces s rest (text, e, spells) begins = begins_starts (codes "[") (text ∷ codes "]" ∷ codes "?" ∷ []) s rest (subst (λ (p : List (List ℕ)). Begins p s rest) e begins)
  bracket_starts Words pieces s rest (text, e, spells) begins = begins_starts (codes "[") (text ∷ codes "]" ∷ codes "*" ∷ []) s rest (subst (λ (p : List (List ℕ)). Begins p s rest) e begins)

pub named_read : (set : TapeSet) (pieces : List (List ℕ)) (s rest : List ℕ) → IsNamed pieces set → Begins pieces s rest → NamedRead set.kind set.alphabet s rest
named_read set pieces s rest (frame, member, (text, e, spells)) begins =
    named_by_kind set.alphabet set.kind frame s rest member (text, spells, subst (λ (p : List (List ℕ)). Begins p s rest) e begins)

pub bracketed_read : (set : TapeSet) (pieces : List (List ℕ)) (s rest : List ℕ) → IsBracketed pieces set → Begins pieces s rest → NoKind rest
    → bracketed_front s ≡ found (tape_of set) rest
bracketed_read set pieces s rest is begins none = bracket_by_kind set.alphabet set.kind pieces s rest is begins none

pub bracketed_starts : (set : TapeSet) (pieces : List (List ℕ)) (s rest : List ℕ) → IsBracketed pieces set → Begins pieces s rest → Starts (codes "[") s
bracketed_starts set pieces s rest is begins = bracket_starts set.alphabet set.kind pieces s rest is begins

pub no_bracket : (s : List ℕ) → after (codes "[") s ≡ None → bracketed_front s ≡ None
no_bracket s none = ap (λ o. o >>= (λ s. option_map kind_behind (letters_until (codes "]") s))) none

pub tape_read : (set : TapeSet) (pieces : List (List ℕ)) (s rest : List ℕ) → IsTape pieces set → Begins pieces s rest → NoKind rest
    → tape_front s ≡ found (tape_of set) rest
tape_read set pieces s rest (inl is) begins none =
    let read = named_read set pieces s rest is begins in
    choose_not (bracketed_front s) Some (named_front s) (no_bracket s read.alone.1.1.0) ∙ read.named
tape_read set pieces s rest (inr is) begins none =
    choose_is (bracketed_front s) Some (named_front s) (tape_of set, rest) (bracketed_read set pieces s rest is begins none)
