-- The set of one tape: what is read is in the grammar.
use Rattle.std.proofs.Common.{◌≡◌, ◌⊎◌, ℕ, List, [], ◌∷◌, ◌++◌, Option, Some, None, refl, ap, sym, ◌∙◌, subst, append_assoc, inl, inr}
use Rattle.std.specs.Prelude.{codes, map}
use Rattle.std.specs.Option.{option_map, option_map_or}
use Rattle.vc_context.specs.Reading.{◌>>=◌, after, closed, letters_until, Tape, tape_of, with_kind, called_front, angled_front, letters_called, nullable_set, nullable_called, words_called, kind_behind, bracketed_front, named_front, tape_front, choose}
use Rattle.vc_context.specs.Spelling.{Frame, SpellsAlphabet, letters_frames, named_frames, bracket_frame, IsFramed, IsNamed, IsBracketed, IsTape, angled}
use Rattle.vc_context.proofs.Alphabets.{AreListed, alphabet_sound}
use Rattle.vc_context.proofs.Fronts.{Begins, after_sound, begins_one, begins_both}
use Rattle.vc_context.proofs.Steps.{bind_some, map_some, choose_some, found, found_is}
use Rattle.vc_label.specs.Alphabets.{letters_of}
use Rattle.vc_label.specs.declared.alphabet.Alphabet.{Alphabet}
use Rattle.vc_label.specs.declared.tape_set.TapeKind.{TapeKind}
use Rattle.vc_label.specs.declared.tape_set.TapeKind.TheVariants.{Letters, Nullable, Words}
use Rattle.vc_label.specs.declared.tape_set.TapeSet.{TapeSet}
use Rattle.vc_model.specs.Lists.{In}

-- an alphabet between pieces stands at the front of a text
abbrev pub Framed : List (List ℕ) → List (List ℕ) → Alphabet → List ℕ → List ℕ → Type 0
Framed before behind a s rest = (text : List ℕ) × SpellsAlphabet text a × Begins (before ++ text ∷ behind) s rest

-- one more piece before it
before_more : (piece : List ℕ) (before behind : List (List ℕ)) (a : Alphabet) (s middle rest : List ℕ)
    → after piece s ≡ Some middle → Framed before behind a middle rest → Framed (piece ∷ before) behind a s rest
before_more piece before behind a s middle rest e (text, spells, begins) =
    let is = after_sound piece s middle e in
    (text, spells, (is.0, middle, is.1, is.2, begins))

-- one more piece behind it
behind_more : (piece : List ℕ) (before behind : List (List ℕ)) (a : Alphabet) (s middle rest : List ℕ)
    → Framed before behind a s middle → after piece middle ≡ Some rest → Framed before (behind ++ piece ∷ []) a s rest
behind_more piece before behind a s middle rest (text, spells, begins) e = (
  text,
  spells,
  subst (λ (p : List (List ℕ)). Begins p s rest) (append_assoc before (text ∷ behind) (piece ∷ []))
      (begins_both (before ++ text ∷ behind) (piece ∷ []) s middle rest begins (begins_one piece middle rest e)),
)

-- the kind and the letters of a tape that was read
tape_is : (kind : TapeKind) (letters : List ℕ) (set : TapeSet) → (let t : Tape = record { kind = kind; letters = letters } in t) ≡ tape_of set
    → (set.kind ≡ kind) × (letters ≡ letters_of set.alphabet)
tape_is kind letters set e = (sym (ap (λ (t : Tape). t.kind) e), ap (λ (t : Tape). t.letters) e)

-- what stands behind an answer that a piece closes
closed_some : {A : Type 0} (piece : List ℕ) (x y : A) (s rest : List ℕ) → closed piece (x, s) ≡ found y rest → (x ≡ y) × (after piece s ≡ Some rest)
closed_some {A} piece x y s rest e =
    let shut = map_some (λ (t : List ℕ). (let p : A × List ℕ = (x, t) in p)) (after piece s) (y, rest) e in
    let (same, end) = found_is x y shut.0 rest (ap Some shut.2) in
    (same, shut.1 ∙ ap Some end)

module _ (listed : AreListed) where
  called_sound : (kind : TapeKind) (set : TapeSet) (s rest : List ℕ) → called_front kind s ≡ found (tape_of set) rest
      → (set.kind ≡ kind) × Framed (codes "(" ∷ []) (codes ")" ∷ []) set.alphabet s rest
  called_sound kind set s rest e =
      let start = bind_some (after (codes "(") s) (λ s. option_map (with_kind kind) (letters_until (codes ")") s)) (tape_of set, rest) e in
      let inside = map_some (with_kind kind) (letters_until (codes ")") start.0) (tape_of set, rest) start.2 in
      let (tape, end) = found_is (record { kind = kind; letters = inside.0.0 }) (tape_of set) inside.0.1 rest (ap Some inside.2) in
      let (same, letters) = tape_is kind inside.0.0 set tape in
      let is = alphabet_sound listed (codes ")") set.alphabet start.0 rest (inside.1 ∙ ap (λ l. found l inside.0.1) letters ∙ ap (found (letters_of set.alphabet)) end) in
      (same, before_more (codes "(") [] (codes ")" ∷ []) set.alphabet s start.0 rest start.1 is)

  angled_sound : (kind : TapeKind) (name : List ℕ) (set : TapeSet) (s rest : List ℕ) → angled_front kind name s ≡ found (tape_of set) rest
      → (set.kind ≡ kind) × Framed (codes "<" ∷ name ∷ codes "(" ∷ []) (codes ")" ∷ codes ">" ∷ []) set.alphabet s rest
  angled_sound kind name set s rest e =
      let first = bind_some (after (codes "<") s) (λ s. after name s >>= (λ s. called_front kind s >>= closed (codes ">"))) (tape_of set, rest) e in
      let second = bind_some (after name first.0) (λ s. called_front kind s >>= closed (codes ">")) (tape_of set, rest) first.2 in
      let inside = bind_some (called_front kind second.0) (closed (codes ">")) (tape_of set, rest) second.2 in
      let (same, shut) = closed_some (codes ">") inside.0.0 (tape_of set) inside.0.1 rest inside.2 in
      let (is_kind, framed) = called_sound kind set second.0 inside.0.1 (inside.1 ∙ ap (λ t. found t inside.0.1) same) in
      let more : Framed (codes "(" ∷ []) (codes ")" ∷ codes ">" ∷ []) set.alphabet second.0 rest =
      behind_more (codes ">") (codes "(" ∷ []) (codes ")" ∷ []) set.alphabet second.0 inside.0.1 rest framed shut in (
        is_kind,
        before_more (codes "<") (name ∷ codes "(" ∷ []) (codes ")" ∷ codes ">" ∷ []) set.alphabet s first.0 rest first.1
            (before_more name (codes "(" ∷ []) (codes ")" ∷ codes ">" ∷ []) set.alphabet first.0 second.0 rest second.1 more),
      )

  -- a frame among these stands at the front of a text
  abbrev AmongFrames : List Frame → Alphabet → List ℕ → List ℕ → Type 0
  AmongFrames frames a s rest = (frame : Frame) × In frame frames × Framed frame.before frame.behind a s rest

  among_first : (name : List ℕ) (kind : TapeKind) (set : TapeSet) (frame : Frame) (frames : List Frame) (s middle rest : List ℕ)
      → In frame frames → frame.before ≡ name ∷ codes "(" ∷ [] → frame.behind ≡ codes ")" ∷ []
      → after name s ≡ Some middle → called_front kind middle ≡ found (tape_of set) rest → (set.kind ≡ kind) × AmongFrames frames set.alphabet s rest
  among_first name kind set frame frames s middle rest member before behind e f =
      let (same, framed) = called_sound kind set middle rest f in (
        same,
        (
          frame,
          member,
          subst (λ (p : List (List ℕ)). Framed p frame.behind set.alphabet s rest) (sym before)
              (subst (λ (p : List (List ℕ)). Framed (name ∷ codes "(" ∷ []) p set.alphabet s rest) (sym behind)
              (before_more name (codes "(" ∷ []) (codes ")" ∷ []) set.alphabet s middle rest e framed)),
        ),
      )

  among_angled : (name inner : List ℕ) (kind : TapeKind) (set : TapeSet) (frame : Frame) (frames : List Frame) (s middle rest : List ℕ)
      → In frame frames → frame.before ≡ name ∷ codes "<" ∷ inner ∷ codes "(" ∷ [] → frame.behind ≡ codes ")" ∷ codes ">" ∷ []
      → after name s ≡ Some middle → angled_front kind inner middle ≡ found (tape_of set) rest → (set.kind ≡ kind) × AmongFrames frames set.alphabet s rest
  among_angled name inner kind set frame frames s middle rest member before behind e f =
      let (same, framed) = angled_sound kind inner set middle rest f in (
        same,
        (
          frame,
          member,
          subst (λ (p : List (List ℕ)). Framed p frame.behind set.alphabet s rest) (sym before)
              (subst (λ (p : List (List ℕ)). Framed (name ∷ codes "<" ∷ inner ∷ codes "(" ∷ []) p set.alphabet s rest) (sym behind)
              (before_more name (codes "<" ∷ inner ∷ codes "(" ∷ []) (codes ")" ∷ codes ">" ∷ []) set.alphabet s middle rest e framed)),
        ),
      )

  -- one of three ways
  three_ways : {A B C Y R : Type 0} (a : Option A) (f : A → Option Y) (b : Option B) (g : B → Option Y) (c : Option C) (h : C → Option Y) (y : Y)
      → choose a f (choose b g (c >>= h)) ≡ Some y
      → ((x : A) → a ≡ Some x → f x ≡ Some y → R) → ((x : B) → b ≡ Some x → g x ≡ Some y → R) → ((x : C) → c ≡ Some x → h x ≡ Some y → R) → R
  three_ways {A} {B} {C} {Y} {R} a f b g c h y e first second third = at_first (choose_some a f (choose b g (c >>= h)) y e)
    where
      at_second : ((x : B) × (b ≡ Some x) × (g x ≡ Some y)) ⊎ ((b ≡ None) × ((c >>= h) ≡ Some y)) → R
      at_second (inl (x, is, then_)) = second x is then_
      at_second (inr (no_, rest)) = let last = bind_some c h y rest in third last.0 last.1 last.2

      at_first : ((x : A) × (a ≡ Some x) × (f x ≡ Some y)) ⊎ ((a ≡ None) × (choose b g (c >>= h) ≡ Some y)) → R
      at_first (inl (x, is, then_)) = first x is then_
      at_first (inr (no_, rest)) = at_second (choose_some b g (c >>= h) y rest)

  letters_sound : (kind : TapeKind) (set : TapeSet) (s rest : List ℕ) → letters_called kind s ≡ found (tape_of set) rest
      → (set.kind ≡ kind) × AmongFrames letters_frames set.alphabet s rest
  letters_sound kind set s rest e =
      three_ways (after (codes "lal_char") s) (called_front kind) (after (codes "lal") s) (angled_front kind (codes "char"))
      (after (codes "letterset") s) (angled_front kind (codes "char_letters")) (tape_of set, rest) e
      (λ middle is then_. among_first (codes "lal_char") kind set _ letters_frames s middle rest (inl refl) refl refl is then_)
      (λ middle is then_. among_angled (codes "lal") (codes "char") kind set _ letters_frames s middle rest (inr (inl refl)) refl refl is then_)
      (λ middle is then_. among_angled (codes "letterset") (codes "char_letters") kind set _ letters_frames s middle rest (inr (inr (inl refl))) refl refl is then_)

  words_sound : (set : TapeSet) (s rest : List ℕ) → words_called s ≡ found (tape_of set) rest
      → (set.kind ≡ Words) × AmongFrames (named_frames Words) set.alphabet s rest
  words_sound set s rest e =
      three_ways (after (codes "law_char") s) (called_front Words) (after (codes "law") s) (angled_front Words (codes "char"))
      (after (codes "wordset") s) (angled_front Words (codes "char_letters")) (tape_of set, rest) e
      (λ middle is then_. among_first (codes "law_char") Words set _ (named_frames Words) s middle rest (inl refl) refl refl is then_)
      (λ middle is then_. among_angled (codes "law") (codes "char") Words set _ (named_frames Words) s middle rest (inr (inl refl)) refl refl is then_)
      (λ middle is then_. among_angled (codes "wordset") (codes "char_letters") Words set _ (named_frames Words) s middle rest (inr (inr (inl refl))) refl refl is then_)

  in_angles : (frame : Frame) (frames : List Frame) → In frame frames → In (angled (codes "nullableset") frame) (map (angled (codes "nullableset")) frames)
  in_angles frame [] member = absurd member
  in_angles frame (f ∷ frames) (inl same) = inl (ap (angled (codes "nullableset")) same)
  in_angles frame (f ∷ frames) (inr member) = inr (in_angles frame frames member)

  set_sound : (set : TapeSet) (s middle rest : List ℕ) → after (codes "nullableset") s ≡ Some middle → nullable_set middle ≡ found (tape_of set) rest
      → (set.kind ≡ Nullable) × AmongFrames (named_frames Nullable) set.alphabet s rest
  set_sound set s middle rest e f =
      let start = bind_some (after (codes "<") middle) (λ s. letters_called Nullable s >>= closed (codes ">")) (tape_of set, rest) f in
      let inside = bind_some (letters_called Nullable start.0) (closed (codes ">")) (tape_of set, rest) start.2 in
      let (same, shut) = closed_some (codes ">") inside.0.0 (tape_of set) inside.0.1 rest inside.2 in
      let (is_kind, (frame, member, framed)) = letters_sound Nullable set start.0 inside.0.1 (inside.1 ∙ ap (λ t. found t inside.0.1) same) in
      let more : Framed frame.before (frame.behind ++ codes ">" ∷ []) set.alphabet start.0 rest =
      behind_more (codes ">") frame.before frame.behind set.alphabet start.0 inside.0.1 rest framed shut in (
        is_kind,
        (
          angled (codes "nullableset") frame,
          inr (inr (in_angles frame letters_frames member)),
          before_more (codes "nullableset") (codes "<" ∷ frame.before) (frame.behind ++ codes ">" ∷ []) set.alphabet s middle rest e
              (before_more (codes "<") frame.before (frame.behind ++ codes ">" ∷ []) set.alphabet middle start.0 rest start.1 more),
        ),
      )

  nullable_sound : (set : TapeSet) (s rest : List ℕ) → nullable_called s ≡ found (tape_of set) rest
      → (set.kind ≡ Nullable) × AmongFrames (named_frames Nullable) set.alphabet s rest
  nullable_sound set s rest e =
      three_ways (after (codes "lan_char") s) (called_front Nullable) (after (codes "lan") s) (angled_front Nullable (codes "char"))
      (after (codes "nullableset") s) nullable_set (tape_of set, rest) e
      (λ middle is then_. among_first (codes "lan_char") Nullable set _ (named_frames Nullable) s middle rest (inl refl) refl refl is then_)
      (λ middle is then_. among_angled (codes "lan") (codes "char") Nullable set _ (named_frames Nullable) s middle rest (inr (inl refl)) refl refl is then_)
      (λ middle is then_. set_sound set s middle rest is then_)

  -- a tape stands at the front of a text
  abbrev pub At : (List (List ℕ) → TapeSet → Type 0) → TapeSet → List ℕ → List ℕ → Type 0
  At Is set s rest = (pieces : List (List ℕ)) × Is pieces set × Begins pieces s rest

  named_by : (kind : TapeKind) (set : TapeSet) (s rest : List ℕ) → set.kind ≡ kind → AmongFrames (named_frames kind) set.alphabet s rest → At IsNamed set s rest
  named_by kind set s rest same (frame, member, (text, spells, begins)) = (
    frame.before ++ text ∷ frame.behind,
    (frame, subst (λ k. In frame (named_frames k)) (sym same) member, (text, refl, spells)),
    begins,
  )

  pub named_sound : (set : TapeSet) (s rest : List ℕ) → named_front s ≡ found (tape_of set) rest → At IsNamed set s rest
  named_sound set s rest e =
      at_first (choose_some (letters_called Letters s) Some (choose (nullable_called s) Some (words_called s)) (tape_of set, rest) e)
    where
      at_second : ((x : Tape × List ℕ) × (nullable_called s ≡ Some x) × (Some x ≡ found (tape_of set) rest)) ⊎ ((nullable_called s ≡ None) × (words_called s ≡ found (tape_of set) rest))
          → At IsNamed set s rest
      at_second (inl (x, is, same)) = let (kind, among) = nullable_sound set s rest (is ∙ same) in named_by Nullable set s rest kind among
      at_second (inr (none, is)) = let (kind, among) = words_sound set s rest is in named_by Words set s rest kind among

      at_first : ((x : Tape × List ℕ) × (letters_called Letters s ≡ Some x) × (Some x ≡ found (tape_of set) rest))
          ⊎ ((letters_called Letters s ≡ None) × (choose (nullable_called s) Some (words_called s) ≡ found (tape_of set) rest))
          → At IsNamed set s rest
      at_first (inl (x, is, same)) = let (kind, among) = letters_sound Letters set s rest (is ∙ same) in named_by Letters set s rest kind among
      at_first (inr (none, is)) = at_second (choose_some (nullable_called s) Some (words_called s) (tape_of set, rest) is)

  -- a bracket, letters and what follows the other bracket
  bracket_by : (kind : TapeKind) (set : TapeSet) (s rest : List ℕ) → set.kind ≡ kind → Framed (bracket_frame kind).before (bracket_frame kind).behind set.alphabet s rest
      → At IsBracketed set s rest
  bracket_by kind set s rest same (text, spells, begins) = (
    (bracket_frame kind).before ++ text ∷ (bracket_frame kind).behind,
    subst (λ k. IsFramed (bracket_frame k) ((bracket_frame kind).before ++ text ∷ (bracket_frame kind).behind) set.alphabet) (sym same) (text, refl, spells),
    begins,
  )

  pub bracketed_sound : (set : TapeSet) (s rest : List ℕ) → bracketed_front s ≡ found (tape_of set) rest → At IsBracketed set s rest
  bracketed_sound set s rest e =
      let start = bind_some (after (codes "[") s) (λ s. option_map kind_behind (letters_until (codes "]") s)) (tape_of set, rest) e in
      let inside = map_some kind_behind (letters_until (codes "]") start.0) (tape_of set, rest) start.2 in
      at_question start.0 start.1 inside.0.0 inside.0.1 inside.1 (after (codes "?") inside.0.1) refl inside.2
    where
      -- the letters in brackets, of which the second may be followed by a mark
      framed : (kind : TapeKind) (middle letters behind : List ℕ) → after (codes "[") s ≡ Some middle → letters_until (codes "]") middle ≡ found letters behind
          → letters ≡ letters_of set.alphabet → Framed (codes "[" ∷ []) (codes "]" ∷ []) set.alphabet s behind
      framed kind middle letters behind is until same =
          before_more (codes "[") [] (codes "]" ∷ []) set.alphabet s middle behind is
          (alphabet_sound listed (codes "]") set.alphabet middle behind (until ∙ ap (λ l. found l behind) same))

      at_star : (middle : List ℕ) → after (codes "[") s ≡ Some middle → (letters behind : List ℕ) → letters_until (codes "]") middle ≡ found letters behind
          → (o : Option (List ℕ)) → after (codes "*") behind ≡ o
          → option_map_or (λ rest. with_kind Words (letters, rest)) o (with_kind Letters (letters, behind)) ≡ (let p : Tape × List ℕ = (tape_of set, rest) in p)
          → At IsBracketed set s rest
      at_star middle is letters behind until None star f =
          let (tape, end) = found_is (record { kind = Letters; letters = letters }) (tape_of set) behind rest (ap Some f) in
          let (kind, same) = tape_is Letters letters set tape in
          bracket_by Letters set s rest kind (subst (λ t. Framed (codes "[" ∷ []) (codes "]" ∷ []) set.alphabet s t) end (framed Letters middle letters behind is until same))
      at_star middle is letters behind until (Some next) star f =
          let (tape, end) = found_is (record { kind = Words; letters = letters }) (tape_of set) next rest (ap Some f) in
          let (kind, same) = tape_is Words letters set tape in
          bracket_by Words set s rest kind
          (behind_more (codes "*") (codes "[" ∷ []) (codes "]" ∷ []) set.alphabet s behind rest (framed Words middle letters behind is until same) (star ∙ ap Some end))

      at_question : (middle : List ℕ) → after (codes "[") s ≡ Some middle → (letters behind : List ℕ) → letters_until (codes "]") middle ≡ found letters behind
          → (o : Option (List ℕ)) → after (codes "?") behind ≡ o
          → option_map_or (λ rest. with_kind Nullable (letters, rest)) o (option_map_or (λ rest. with_kind Words (letters, rest)) (after (codes "*") behind) (with_kind Letters (letters, behind)))
          ≡ (let p : Tape × List ℕ = (tape_of set, rest) in p)
          → At IsBracketed set s rest
      at_question middle is letters behind until None question f = at_star middle is letters behind until (after (codes "*") behind) refl f
      at_question middle is letters behind until (Some next) question f =
          let (tape, end) = found_is (record { kind = Nullable; letters = letters }) (tape_of set) next rest (ap Some f) in
          let (kind, same) = tape_is Nullable letters set tape in
          bracket_by Nullable set s rest kind
          (behind_more (codes "?") (codes "[" ∷ []) (codes "]" ∷ []) set.alphabet s behind rest (framed Nullable middle letters behind is until same) (question ∙ ap Some end))

  pub tape_sound : (set : TapeSet) (s rest : List ℕ) → tape_front s ≡ found (tape_of set) rest → At IsTape set s rest
  tape_sound set s rest e = which (choose_some (bracketed_front s) Some (named_front s) (tape_of set, rest) e)
    where
      which : ((x : Tape × List ℕ) × (bracketed_front s ≡ Some x) × (Some x ≡ found (tape_of set) rest)) ⊎ ((bracketed_front s ≡ None) × (named_front s ≡ found (tape_of set) rest))
          → At IsTape set s rest
      which (inl (x, is, same)) = let (pieces, bracketed, begins) = bracketed_sound set s rest (is ∙ same) in (pieces, inr bracketed, begins)
      which (inr (none, is)) = let (pieces, named, begins) = named_sound set s rest is in (pieces, inl named, begins)
