-- Reading as functions on lists: what the reader answers, from left to right, and what stands behind it.
use Rattle.std.specs.Prelude.{ℕ, zero, suc, Bool, false, ◌&&◌, nat_le, ◌==◌, List, [], ◌∷◌, length, drop, filter, Option, Some, None, codes, if◌then◌else◌}
use Rattle.std.specs.Option.{option_map, option_map_or}
use Rattle.std.specs.List.{list_all}
use Rattle.vc_context.specs.Spelling.{Range, is_named}
use Rattle.vc_context.specs.declared.context.Weights.{Weights}
use Rattle.vc_context.specs.declared.context.Weights.TheVariants.{B, F2, Z, Q, Nmin}
use Rattle.vc_context.specs.declared.joined.Style.{Style}
use Rattle.vc_context.specs.declared.joined.Style.TheVariants.{Commas, Crosses}
use Rattle.vc_label.specs.declared.tape_set.TapeKind.{TapeKind}
use Rattle.vc_label.specs.declared.tape_set.TapeKind.TheVariants.{Letters, Nullable, Words}
use Rattle.vc_label.specs.declared.tape_set.TapeSet.{TapeSet}
use Rattle.vc_label.specs.Alphabets.{letters_of}
use Rattle.vc_text.specs.Letters.{letter_in}
use Rattle.vc_text.specs.Blanks.{is_blank, after_blanks}
use Rattle.vc_text.specs.declared.letters.LetterAt.{LetterAt}
use Rattle.vc_model.specs.Lists.{up_from}

infixl 10 ◌>>=◌
abbrev pub ◌>>=◌ : {A B : Type 0} → Option A → (A → Option B) → Option B
None >>= f = None
(Some x) >>= f = f x

-- a value with what stands behind it
abbrev pub Front : Type 0 → Type 0
Front A = Option (A × List ℕ)

-- what goes on from a first answer, or else another answer
abbrev pub choose : {A B : Type 0} → Option A → (A → Option B) → Option B → Option B
choose None next other = other
choose (Some x) next other = next x

-- what stands behind this front of a text
abbrev pub strip : List ℕ → List ℕ → Option (List ℕ)
strip [] s = Some s
strip (c ∷ piece) [] = None
strip (c ∷ piece) (x ∷ s) = if x == c then strip piece s else None

-- what stands behind blanks and this piece
abbrev pub after : List ℕ → List ℕ → Option (List ℕ)
after piece s = strip piece (after_blanks s)

-- an answer, where this piece stands behind it
abbrev pub closed : {A : Type 0} → List ℕ → A × List ℕ → Front A
closed piece found = option_map (λ rest. (found.0, rest)) (after piece found.1)

-- ---- letters

-- a letter
abbrev pub letter_front : List ℕ → Front ℕ
letter_front s = option_map (λ (l : LetterAt). (l.letter, drop l.after s)) (letter_in 0 s)

-- one letter alone
abbrev pub single : ℕ → Range
single x = record { first = x; last = x }

-- the letters from one on to the letter that begins a text
abbrev pub range_to : ℕ → List ℕ → Front Range
range_to x s = letter_front s >>= (λ l. if nat_le x l.0 then Some (record { first = x; last = l.0 }, l.1) else None)

-- an item that begins with a letter, where this text stands behind the letter
abbrev pub item_behind : ℕ → List ℕ → Front Range
item_behind x [] = Some (single x, [])
item_behind x (y ∷ s) = if y == 45 then range_to x s else Some (single x, y ∷ s)

-- an item
abbrev pub item_front : List ℕ → Front Range
item_front s = letter_front s >>= (λ l. item_behind l.0 l.1)

-- at most this many items, as long as one begins
abbrev pub items_by : ℕ → List ℕ → List Range × List ℕ
items_by zero s = ([], s)
items_by (suc n) s = option_map_or (λ (i : Range × List ℕ). (i.0 ∷ (items_by n i.1).0, (items_by n i.1).1)) (item_front s) ([], s)

-- the items at the front
abbrev pub items_front : List ℕ → List Range × List ℕ
items_front s = items_by (length s) s

-- the letters of ranges, ascending
unfoldable pub letters_in : List Range → List ℕ
letters_in ranges = filter (is_named ranges) (up_from 0x21 94)

-- the letters of the items behind blanks
abbrev pub letters_front : List ℕ → List ℕ × List ℕ
letters_front s = (letters_in (items_front (after_blanks s)).0, (items_front (after_blanks s)).1)

-- the letters, where this piece stands behind them
abbrev pub letters_until : List ℕ → List ℕ → Front (List ℕ)
letters_until close s = closed close (letters_front s)

-- ---- tapes

-- the set of one tape: its kind and its letters, ascending
pub record Tape : Type 0 where
  pub kind : TapeKind
  pub letters : List ℕ

abbrev pub tape_of : TapeSet → Tape
tape_of set = record { kind = set.kind; letters = letters_of set.alphabet }

-- letters with this kind
abbrev pub with_kind : TapeKind → List ℕ × List ℕ → Tape × List ℕ
with_kind kind found = (record { kind = kind; letters = found.0 }, found.1)

-- letters in parentheses
abbrev pub called_front : TapeKind → List ℕ → Front Tape
called_front kind s = after (codes "(") s >>= (λ s. option_map (with_kind kind) (letters_until (codes ")") s))

-- in angle brackets a name, and letters in parentheses
abbrev pub angled_front : TapeKind → List ℕ → List ℕ → Front Tape
angled_front kind name s = after (codes "<") s >>= (λ s. after name s >>= (λ s. called_front kind s >>= closed (codes ">")))

-- a name of `lal`, and what follows it
abbrev pub letters_called : TapeKind → List ℕ → Front Tape
letters_called kind s =
    choose (after (codes "lal_char") s) (called_front kind)
    (choose (after (codes "lal") s) (angled_front kind (codes "char"))
    (after (codes "letterset") s >>= angled_front kind (codes "char_letters")))

-- in angle brackets a name of `lal`, and what follows it
abbrev pub nullable_set : List ℕ → Front Tape
nullable_set s = after (codes "<") s >>= (λ s. letters_called Nullable s >>= closed (codes ">"))

-- a name of `lan`, and what follows it
abbrev pub nullable_called : List ℕ → Front Tape
nullable_called s =
    choose (after (codes "lan_char") s) (called_front Nullable)
    (choose (after (codes "lan") s) (angled_front Nullable (codes "char"))
    (after (codes "nullableset") s >>= nullable_set))

-- a name of `law`, and what follows it
abbrev pub words_called : List ℕ → Front Tape
words_called s =
    choose (after (codes "law_char") s) (called_front Words)
    (choose (after (codes "law") s) (angled_front Words (codes "char"))
    (after (codes "wordset") s >>= angled_front Words (codes "char_letters")))

-- letters behind a bracket that was closed: `?` or `*` tells their kind
abbrev pub kind_behind : List ℕ × List ℕ → Tape × List ℕ
kind_behind found =
    option_map_or (λ rest. with_kind Nullable (found.0, rest))
    (after (codes "?") found.1)
    (option_map_or (λ rest. with_kind Words (found.0, rest)) (after (codes "*") found.1) (with_kind Letters found))

-- a tape in brackets
abbrev pub bracketed_front : List ℕ → Front Tape
bracketed_front s = after (codes "[") s >>= (λ s. option_map kind_behind (letters_until (codes "]") s))

-- the first of these answers
abbrev pub first_of_three : {A : Type 0} → Option A → Option A → Option A → Option A
first_of_three a b c = choose a Some (choose b Some c)

-- a tape with a name
abbrev pub named_front : List ℕ → Front Tape
named_front s = first_of_three (letters_called Letters s) (nullable_called s) (words_called s)

-- a tape
abbrev pub tape_front : List ℕ → Front Tape
tape_front s = choose (bracketed_front s) Some (named_front s)

-- ---- several tapes

-- behind `x`, with a blank behind it
abbrev pub cross_behind : List ℕ → Option (List ℕ)
cross_behind [] = None
cross_behind (x ∷ []) = None
cross_behind (x ∷ b ∷ s) = if x == 120 && is_blank b then Some s else None

-- behind blanks, `x` and a blank
abbrev pub cross : List ℕ → Option (List ℕ)
cross [] = None
cross (b ∷ s) = if is_blank b then cross_behind (after_blanks s) else None

abbrev pub one_by : Style → List ℕ → Front Tape
one_by Commas s = tape_front s
one_by Crosses s = bracketed_front s

abbrev pub mark_by : Style → List ℕ → Option (List ℕ)
mark_by Commas s = after (codes ",") s
mark_by Crosses s = cross s

-- a tape before others
abbrev pub before : Tape → List Tape × List ℕ → List Tape × List ℕ
before tape found = (tape ∷ found.0, found.1)

-- one tape, and at most n more behind marks
abbrev pub tapes_by : Style → ℕ → List ℕ → Front (List Tape)
tapes_by style zero s = option_map (λ (t : Tape × List ℕ). (t.0 ∷ [], t.1)) (one_by style s)
tapes_by style (suc n) s =
    one_by style s
    >>= (λ t. choose (mark_by style t.1) (λ next. option_map (before t.0) (tapes_by style n next)) (Some (t.0 ∷ [], t.1)))

-- tapes, where there are at least two
abbrev pub several : List Tape × List ℕ → Front (List Tape)
several found = if nat_le 2 (length found.0) then Some found else None

-- in angle brackets two to four tapes
abbrev pub listed_front : List ℕ → Front (List Tape)
listed_front s = after (codes "<") s >>= (λ s. tapes_by Commas 3 s >>= (λ found. closed (codes ">") found >>= several))

-- ---- contexts

-- a label set
abbrev pub labels_front : List ℕ → Front (List Tape)
labels_front s =
    choose (after (codes "lat") s) listed_front
    (choose (after (codes "tupleset") s) listed_front
    (choose (tapes_by Crosses 3 s) Some
    (option_map (λ (t : Tape × List ℕ). (t.0 ∷ [], t.1)) (named_front s))))

-- behind the mark before the weight set
abbrev pub arrow : List ℕ → Option (List ℕ)
arrow s = choose (after (codes ",") s) Some (after (codes "->") s)

-- whether the name is the last piece
abbrev pub is_last : List ℕ → List ℕ → Bool
is_last name s = option_map_or (list_all is_blank) (after name s) false

-- the weight set whose name is the last piece
abbrev pub weights_at : List ℕ → Option Weights
weights_at s =
    if is_last (codes "b") s then Some B
    else (if is_last (codes "f2") s then Some F2
    else (if is_last (codes "z") s then Some Z
    else (if is_last (codes "q") s then Some Q
    else (if is_last (codes "nmin") s then Some Nmin
    else None))))

-- a context, all of the text
abbrev pub context_at : List ℕ → Option (List Tape × Weights)
context_at s = labels_front s >>= (λ found. arrow found.1 >>= (λ rest. option_map (λ w. (found.0, w)) (weights_at rest)))
