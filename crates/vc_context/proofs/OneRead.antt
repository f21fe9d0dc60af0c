-- The set of one tape: what is in the grammar is read.
use Rattle.std.proofs.Common.{◌≡◌, ℕ, Bool, true, false, List, [], ◌∷◌, ◌++◌, Option, Some, None, refl, ap, sym, ◌∙◌, subst, append_assoc, inl, inr}
use Rattle.std.proofs.lemmas.Bool.{eqb-true}
use Rattle.std.specs.Prelude.{codes, map, if◌then◌else◌, ◌==◌}
use Rattle.std.specs.List.{list_all}
use Rattle.std.specs.Option.{option_map}
use Rattle.vc_context.specs.Reading.{Front, ◌>>=◌, strip, after, closed, letters_until, Tape, with_kind, called_front, angled_front, letters_called, nullable_set, nullable_called, words_called, choose}
use Rattle.vc_context.specs.Spelling.{Frame, SpellsAlphabet, letters_frames, named_frames, angled}
use Rattle.vc_text.specs.Blanks.{after_blanks, AreBlanks, is_blank}
use Rattle.vc_context.proofs.Alphabets.{alphabet_read, parenthesis_closes}
use Rattle.vc_context.proofs.Fronts.{Begins, both_true, after_read, blanks_before_piece, begins_split}
use Rattle.vc_context.proofs.OneTape.{Framed}
use Rattle.vc_context.proofs.Steps.{bind_is, map_is, choose_is, choose_not, found}
use Rattle.vc_label.specs.Alphabets.{letters_of}
use Rattle.vc_label.specs.declared.alphabet.Alphabet.{Alphabet}
use Rattle.vc_label.specs.declared.tape_set.TapeKind.{TapeKind}
use Rattle.vc_label.specs.declared.tape_set.TapeKind.TheVariants.{Nullable, Words}
use Rattle.vc_model.specs.Lists.{In}

-- a piece that begins with no blank
abbrev pub IsSolid : List ℕ → Type 0
IsSolid piece = (t : List ℕ) → after_blanks (piece ++ t) ≡ piece ++ t

-- the piece at the front is found
pub piece_read : (piece : List ℕ) (pieces : List (List ℕ)) (s rest : List ℕ) → IsSolid piece → Begins (piece ∷ pieces) s rest
    → (next : List ℕ) × (after piece s ≡ Some next) × Begins pieces next rest
piece_read piece pieces s rest solid (blanks, next, at, are, begins) =
    (next, ap (after piece) at ∙ after_read piece blanks next (solid next) are, begins)

pub closed_read : {A : Type 0} (piece : List ℕ) (x : A) (s rest : List ℕ) → IsSolid piece → Begins (piece ∷ []) s rest → closed piece (x, s) ≡ found x rest
closed_read {A} piece x s rest solid begins =
    let read = piece_read piece [] s rest solid begins in
    map_is (λ (t : List ℕ). (let p : A × List ℕ = (x, t) in p)) (after piece s) rest (read.1 ∙ ap Some read.2)

-- a longer name does not go on behind a shorter one
other_byte : (x c : ℕ) (b : Bool) → (x == c) ≡ b → is_blank x ≡ true → is_blank c ≡ false → (x == c) ≡ false
other_byte x c true e blank solid =
    let same : is_blank x ≡ is_blank c = ap is_blank (eqb-true x c e) in
    absurd (cc)
other_byte x c false e blank solid = e

pub no_tail : (c d : ℕ) (tail blanks rest : List ℕ) → is_blank c ≡ false → (d == c) ≡ false → AreBlanks blanks → strip (c ∷ tail) (blanks ++ d ∷ rest) ≡ None
no_tail c d tail [] rest solid other are = ap (λ b. if b then strip tail rest else None) other
no_tail c d tail (x ∷ blanks) rest solid other are =
    ap (λ b. if b then strip tail (blanks ++ d ∷ rest) else None)
    (other_byte x c (x == c) refl (both_true (is_blank x) (list_all is_blank blanks) are).0 solid)

abbrev pub tape_with : TapeKind → Alphabet → Tape
tape_with kind a = record { kind = kind; letters = letters_of a }

module _ (a : Alphabet) where
  called_read : (kind : TapeKind) (text s rest : List ℕ) → SpellsAlphabet text a → Begins (codes "(" ∷ text ∷ codes ")" ∷ []) s rest
      → called_front kind s ≡ found (tape_with kind a) rest
  called_read kind text s rest spells begins =
      let start = piece_read (codes "(") (text ∷ codes ")" ∷ []) s rest (λ t. refl) begins in
      bind_is (after (codes "(") s) (λ s. option_map (with_kind kind) (letters_until (codes ")") s)) start.0 start.1
      ∙ map_is (with_kind kind) (letters_until (codes ")") start.0) (letters_of a, rest) (alphabet_read 41 a start.0 rest text parenthesis_closes spells start.2)

  angled_read : (kind : TapeKind) (name text s rest : List ℕ) → IsSolid name → SpellsAlphabet text a
      → Begins (codes "<" ∷ name ∷ codes "(" ∷ text ∷ codes ")" ∷ codes ">" ∷ []) s rest
      → angled_front kind name s ≡ found (tape_with kind a) rest
  angled_read kind name text s rest solid spells begins =
      let first = piece_read (codes "<") (name ∷ codes "(" ∷ text ∷ codes ")" ∷ codes ">" ∷ []) s rest (λ t. refl) begins in
      let second = piece_read name (codes "(" ∷ text ∷ codes ")" ∷ codes ">" ∷ []) first.0 rest solid first.2 in
      let parts = begins_split (codes "(" ∷ text ∷ codes ")" ∷ []) (codes ">" ∷ []) second.0 rest second.2 in
      bind_is (after (codes "<") s) (λ s. after name s >>= (λ s. called_front kind s >>= closed (codes ">"))) first.0 first.1
      ∙ bind_is (after name first.0) (λ s. called_front kind s >>= closed (codes ">")) second.0 second.1
      ∙ bind_is (called_front kind second.0) (closed (codes ">")) (tape_with kind a, parts.0) (called_read kind text second.0 parts.0 spells parts.1)
      ∙ closed_read (codes ">") (tape_with kind a) parts.0 rest (λ t. refl) parts.2

  -- the frame of a name and parentheses, and of a name and angle brackets
  abbrev Called : List ℕ → List ℕ → List ℕ → Type 0
  Called name s rest = Framed (name ∷ codes "(" ∷ []) (codes ")" ∷ []) a s rest

  abbrev Angled : List ℕ → List ℕ → List ℕ → List ℕ → Type 0
  Angled name inner s rest = Framed (name ∷ codes "<" ∷ inner ∷ codes "(" ∷ []) (codes ")" ∷ codes ">" ∷ []) a s rest

  -- three names: the first is the second with a tail, the third begins otherwise
  first_name : (kind : TapeKind) (name s rest : List ℕ) (g : List ℕ → Front Tape) (b : Option (List ℕ)) (other : Front Tape) → IsSolid name → Called name s rest
      → choose (after name s) (called_front kind) (choose b g other) ≡ found (tape_with kind a) rest
  first_name kind name s rest g b other solid (text, spells, begins) =
      let start = piece_read name (codes "(" ∷ text ∷ codes ")" ∷ []) s rest solid begins in
      choose_is (after name s) (called_front kind) (choose b g other) start.0 start.1 ∙ called_read kind text start.0 rest spells start.2

  second_name : (kind : TapeKind) (name tail s rest : List ℕ) (other : Front Tape) → IsSolid name → IsSolid (name ++ 95 ∷ tail)
      → ((t : List ℕ) → strip (name ++ 95 ∷ tail) (name ++ t) ≡ strip (95 ∷ tail) t) → Angled name (codes "char") s rest
      → choose (after (name ++ 95 ∷ tail) s) (called_front kind) (choose (after name s) (angled_front kind (codes "char")) other) ≡ found (tape_with kind a) rest
  second_name kind name tail s rest other solid longer goes (text, spells, (blanks, next, at, are, (more, last, behind, spaced, begins))) =
      let here : after name s ≡ Some next = ap (after name) at ∙ after_read name blanks next (solid next) are in
      let not_longer : after (name ++ 95 ∷ tail) s ≡ None =
      ap (after (name ++ 95 ∷ tail)) at ∙ blanks_before_piece (name ++ 95 ∷ tail) blanks (name ++ next) are
      ∙ ap (strip (name ++ 95 ∷ tail)) (solid next) ∙ goes next ∙ ap (strip (95 ∷ tail)) behind ∙ no_tail 95 60 tail more last refl refl spaced in
      choose_not (after (name ++ 95 ∷ tail) s) (called_front kind) (choose (after name s) (angled_front kind (codes "char")) other) not_longer
      ∙ choose_is (after name s) (angled_front kind (codes "char")) other next here
      ∙ angled_read kind (codes "char") text next rest (λ t. refl) spells (more, last, behind, spaced, begins)

  third_name : {A B : Type 0} (x : Option A) (f : A → Front Tape) (y : Option B) (g : B → Front Tape) (z : Front Tape) (t : Tape) (rest : List ℕ)
      → x ≡ None → y ≡ None → z ≡ found t rest → choose x f (choose y g z) ≡ found t rest
  third_name x f y g z t rest no_first no_second last = choose_not x f (choose y g z) no_first ∙ choose_not y g z no_second ∙ last

  -- another name does not begin here
  pub other_name : (other name blanks next s : List ℕ) → s ≡ blanks ++ (name ++ next) → AreBlanks blanks → after other (name ++ next) ≡ None → after other s ≡ None
  other_name other name blanks next s at are none = ap (after other) at ∙ blanks_before_piece other blanks (name ++ next) are ∙ none

  pub framed_as : (frame same : Frame) (s rest : List ℕ) → frame ≡ same → Framed frame.before frame.behind a s rest → Framed same.before same.behind a s rest
  framed_as frame same s rest e framed = subst (λ (f : Frame). Framed f.before f.behind a s rest) e framed

  letterset_read : (kind : TapeKind) (s rest : List ℕ) → Angled (codes "letterset") (codes "char_letters") s rest → letters_called kind s ≡ found (tape_with kind a) rest
  letterset_read kind s rest (text, spells, (blanks, next, at, are, begins)) =
      third_name (after (codes "lal_char") s) (called_front kind) (after (codes "lal") s) (angled_front kind (codes "char"))
      (after (codes "letterset") s >>= angled_front kind (codes "char_letters")) (tape_with kind a) rest
      (other_name (codes "lal_char") (codes "letterset") blanks next s at are refl)
      (other_name (codes "lal") (codes "letterset") blanks next s at are refl)
      (bind_is (after (codes "letterset") s) (angled_front kind (codes "char_letters")) next (ap (after (codes "letterset")) at ∙ after_read (codes "letterset") blanks next refl are)
      ∙ angled_read kind (codes "char_letters") text next rest (λ t. refl) spells begins)

  pub letters_read : (kind : TapeKind) (frame : Frame) (s rest : List ℕ) → In frame letters_frames → Framed frame.before frame.behind a s rest
      → letters_called kind s ≡ found (tape_with kind a) rest
  letters_read kind frame s rest (inl e) framed =
      first_name kind (codes "lal_char") s rest (angled_front kind (codes "char")) (after (codes "lal") s) (after (codes "letterset") s >>= angled_front kind (codes "char_letters")) (λ t. refl)
      (framed_as frame _ s rest e framed)
  letters_read kind frame s rest (inr (inl e)) framed =
      second_name kind (codes "lal") (codes "char") s rest (after (codes "letterset") s >>= angled_front kind (codes "char_letters")) (λ t. refl) (λ t. refl) (λ t. refl)
      (framed_as frame _ s rest e framed)
  letters_read kind frame s rest (inr (inr (inl e))) framed = letterset_read kind s rest (framed_as frame _ s rest e framed)
  letters_read kind frame s rest (inr (inr (inr member))) framed = absurd member

  wordset_read : (s rest : List ℕ) → Angled (codes "wordset") (codes "char_letters") s rest → words_called s ≡ found (tape_with Words a) rest
  wordset_read s rest (text, spells, (blanks, next, at, are, begins)) =
      third_name (after (codes "law_char") s) (called_front Words) (after (codes "law") s) (angled_front Words (codes "char"))
      (after (codes "wordset") s >>= angled_front Words (codes "char_letters")) (tape_with Words a) rest
      (other_name (codes "law_char") (codes "wordset") blanks next s at are refl)
      (other_name (codes "law") (codes "wordset") blanks next s at are refl)
      (bind_is (after (codes "wordset") s) (angled_front Words (codes "char_letters")) next (ap (after (codes "wordset")) at ∙ after_read (codes "wordset") blanks next refl are)
      ∙ angled_read Words (codes "char_letters") text next rest (λ t. refl) spells begins)

  pub words_read : (frame : Frame) (s rest : List ℕ) → In frame (named_frames Words) → Framed frame.before frame.behind a s rest
      → words_called s ≡ found (tape_with Words a) rest
  words_read frame s rest (inl e) framed =
      first_name Words (codes "law_char") s rest (angled_front Words (codes "char")) (after (codes "law") s) (after (codes "wordset") s >>= angled_front Words (codes "char_letters")) (λ t. refl)
      (framed_as frame _ s rest e framed)
  words_read frame s rest (inr (inl e)) framed =
      second_name Words (codes "law") (codes "char") s rest (after (codes "wordset") s >>= angled_front Words (codes "char_letters")) (λ t. refl) (λ t. refl) (λ t. refl)
      (framed_as frame _ s rest e framed)
  words_read frame s rest (inr (inr (inl e))) framed = wordset_read s rest (framed_as frame _ s rest e framed)
  words_read frame s rest (inr (inr (inr member))) framed = absurd member

  -- a frame in angle brackets
  set_read : (frame : Frame) (s rest : List ℕ) → In frame letters_frames
      → Framed (codes "nullableset" ∷ codes "<" ∷ frame.before) (frame.behind ++ codes ">" ∷ []) a s rest → nullable_called s ≡ found (tape_with Nullable a) rest
  set_read frame s rest member (text, spells, (blanks, next, at, are, begins)) =
      let inside : List (List ℕ) = frame.before ++ text ∷ frame.behind in
      let grouped : Begins (codes "<" ∷ (inside ++ codes ">" ∷ [])) next rest =
      subst (λ (p : List (List ℕ)). Begins (codes "<" ∷ p) next rest) (sym (append_assoc frame.before (text ∷ frame.behind) (codes ">" ∷ []))) begins in
      let first = piece_read (codes "<") (inside ++ codes ">" ∷ []) next rest (λ t. refl) grouped in
      let parts = begins_split inside (codes ">" ∷ []) first.0 rest first.2 in
      third_name (after (codes "lan_char") s) (called_front Nullable) (after (codes "lan") s) (angled_front Nullable (codes "char"))
      (after (codes "nullableset") s >>= nullable_set) (tape_with Nullable a) rest
      (other_name (codes "lan_char") (codes "nullableset") blanks next s at are refl)
      (other_name (codes "lan") (codes "nullableset") blanks next s at are refl)
      (bind_is (after (codes "nullableset") s) nullable_set next (ap (after (codes "nullableset")) at ∙ after_read (codes "nullableset") blanks next refl are)
      ∙ bind_is (after (codes "<") next) (λ s. letters_called Nullable s >>= closed (codes ">")) first.0 first.1
      ∙ bind_is (letters_called Nullable first.0) (closed (codes ">")) (tape_with Nullable a, parts.0) (letters_read Nullable frame first.0 parts.0 member (text, spells, parts.1))
      ∙ closed_read (codes ">") (tape_with Nullable a) parts.0 rest (λ t. refl) parts.2)

  pub angled_member : (frame : Frame) (frames : List Frame) → In frame (map (angled (codes "nullableset")) frames) → (inner : Frame) × In inner frames × (frame ≡ angled (codes "nullableset") inner)
  angled_member frame [] member = absurd member
  angled_member frame (f ∷ frames) (inl e) = (f, inl refl, e)
  angled_member frame (f ∷ frames) (inr member) = let (inner, is, e) = angled_member frame frames member in (inner, inr is, e)

  pub nullable_read : (frame : Frame) (s rest : List ℕ) → In frame (named_frames Nullable) → Framed frame.before frame.behind a s rest
      → nullable_called s ≡ found (tape_with Nullable a) rest
  nullable_read frame s rest (inl e) framed =
      first_name Nullable (codes "lan_char") s rest (angled_front Nullable (codes "char")) (after (codes "lan") s) (after (codes "nullableset") s >>= nullable_set) (λ t. refl)
      (framed_as frame _ s rest e framed)
  nullable_read frame s rest (inr (inl e)) framed =
      second_name Nullable (codes "lan") (codes "char") s rest (after (codes "nullableset") s >>= nullable_set) (λ t. refl) (λ t. refl) (λ t. refl)
      (framed_as frame _ s rest e framed)
  nullable_read frame s rest (inr (inr member)) framed =
      let (inner, is, e) = angled_member frame letters_frames member in
      set_read inner s rest is (framed_as frame _ s rest e framed)
