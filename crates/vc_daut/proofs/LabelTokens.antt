-- Labels of the canonical text are tokens, and are read as what they say.
use Rattle.std.proofs.Common.{◌≡◌, ℕ, ◌+◌, Bool, true, false, ◌&&◌, ◌||◌, List, [], ◌∷◌, ◌++◌, length, map, codes, refl, ap, ap₂, sym, subst, MatchBool}
use Rattle.std.specs.Prelude.{⊤, if◌then◌else◌}
use Rattle.std.proofs.lemmas.Bool.{and_parts}
use Rattle.std.specs.List.{list_all, flat_map}
use Rattle.vc_label.specs.Letters.{are_letters, is_of_letters}
use Rattle.vc_label.specs.Sets.{IsOverSets}
use Rattle.vc_label.specs.declared.tape_set.TapeSet.{TapeSet}
use Rattle.vc_lex.specs.Grammar.{IsTokenText, EndsBefore}
use Rattle.vc_text.specs.Letters.{is_plain}
use Rattle.vc_text.specs.Blanks.{is_blank}
use Rattle.vc_lex.specs.declared.token.Mode.TheVariants.{Line}
use Rattle.vc_lex.specs.declared.token.TokenKind.{TokenKind}
use Rattle.vc_lex.specs.declared.token.TokenKind.TheVariants.{One, Run, Bar}
use Rattle.vc_model.specs.Words.{Tape, Word}
use Rattle.vc_daut.specs.Canonical.{part_text, label_text}
use Rattle.vc_lex.specs.Labels.{label_words, IsLabelOver, IsClassOver, class_words}
use Rattle.vc_lex.specs.Marks.{Mark}
use Rattle.vc_lex.specs.Parts.{is_part_kind, is_class_kind, are_parts, is_class, is_label, tape_text, parts_word, class_body}
use Rattle.vc_lines.specs.Grammar.{is_weight_kind, is_comma_kind, is_comma}
use Rattle.vc_daut.proofs.LetterTokens.{letters_several, letters_some, letters_ink, letters_read}
use Rattle.vc_daut.proofs.TokenTexts.{Piece, spread, marks_at, AreSet, IsInk, IsClear, run_ends, piece_set}

abbrev pub part_kind : Tape → TokenKind
part_kind [] = One
part_kind (x ∷ a) = Run

abbrev pub part_piece : List ℕ → Tape → Piece
part_piece blanks a = record { blanks = blanks; kind = part_kind a; text = part_text a }

abbrev pub bar_piece : Piece
bar_piece = record { blanks = []; kind = Bar; text = codes "|" }

-- the parts after the first one, with a bar before each
abbrev pub bar_pieces : Word → List Piece
bar_pieces [] = []
bar_pieces (a ∷ w) = bar_piece ∷ part_piece [] a ∷ bar_pieces w

-- the tokens of a label, with blanks before the first
abbrev pub label_pieces : List ℕ → Word → List Piece
label_pieces blanks [] = []
label_pieces blanks (a ∷ w) = part_piece blanks a ∷ bar_pieces w

-- ---- the text

bars_spread : (w : Word) → spread (bar_pieces w) ≡ flat_map (λ t. codes "|" ++ t) (map part_text w)
bars_spread [] = refl
bars_spread (a ∷ w) = ap (λ t. 124 ∷ (part_text a ++ t)) (bars_spread w)

pub label_spread : (blanks : List ℕ) (a : Tape) (w : Word) → spread (label_pieces blanks (a ∷ w)) ≡ blanks ++ label_text (a ∷ w)
label_spread blanks a w = ap (λ t. blanks ++ (part_text a ++ t)) (bars_spread w)

-- ---- the tokens

bar_is_not_plain : is_plain 124 ≡ false
unfolding is_plain
bar_is_not_plain = refl

part_token : (a : Tape) → are_letters a ≡ true → IsTokenText (part_kind a) Line (part_text a)
part_token [] h = refl
part_token (x ∷ a) h = (letters_several (x ∷ a) h, letters_some x a)

part_ink : (a : Tape) → IsInk (part_text a)
part_ink [] rest = refl
part_ink (x ∷ a) rest = letters_ink x a rest

part_ends : (a : Tape) (rest : List ℕ) → IsClear rest → EndsBefore (part_kind a) rest
part_ends [] rest clear = tt
part_ends (x ∷ a) rest clear = run_ends rest clear

bars_clear : (w : Word) (rest : List Piece) → IsClear (spread rest) → IsClear (spread (bar_pieces w ++ rest))
bars_clear [] rest clear = clear
bars_clear (a ∷ w) rest clear = (bar_is_not_plain, refl)

bars_set : (w : Word) (rest : List Piece) → is_of_letters w ≡ true → AreSet rest → IsClear (spread rest) → AreSet (bar_pieces w ++ rest)
bars_set [] rest h set clear = set
bars_set (a ∷ w) rest h set clear =
    let b = and_parts (are_letters a) (is_of_letters w) h in
    let after : List ℕ = spread (bar_pieces w ++ rest) in (
      piece_set [] (codes "|") (part_text a ++ after) Bar refl (λ r. refl) refl tt,
      (piece_set [] (part_text a) after (part_kind a) refl (part_ink a) (part_token a b.0) (part_ends a after (bars_clear w rest clear)), bars_set w rest b.1 set clear),
    )

pub label_set : (blanks : List ℕ) (a : Tape) (w : Word) (rest : List Piece) → list_all is_blank blanks ≡ true → is_of_letters (a ∷ w) ≡ true → AreSet rest → IsClear (spread rest)
    → AreSet (label_pieces blanks (a ∷ w) ++ rest)
label_set blanks a w rest h letters set clear =
    let b = and_parts (are_letters a) (is_of_letters w) letters in
    let after : List ℕ = spread (bar_pieces w ++ rest) in
    (piece_set blanks (part_text a) after (part_kind a) h (part_ink a) (part_token a b.0) (part_ends a after (bars_clear w rest clear)), bars_set w rest b.1 set clear)

-- ---- what is read

kind_is_part : (a : Tape) → is_part_kind (part_kind a) ≡ true
kind_is_part [] = refl
kind_is_part (x ∷ a) = refl

kind_is_no_class : (a : Tape) → is_class_kind (part_kind a) ≡ false
kind_is_no_class [] = refl
kind_is_no_class (x ∷ a) = refl

pub kind_is_no_weight : (a : Tape) → is_weight_kind (part_kind a) ≡ false
kind_is_no_weight [] = refl
kind_is_no_weight (x ∷ a) = refl

tape_read : (a : Tape) → tape_text (part_kind a) (part_text a) ≡ a
tape_read [] = refl
tape_read (x ∷ a) = letters_read (x ∷ a)

pub label_is_parts : (n : ℕ) (blanks : List ℕ) (a : Tape) (w : Word) → are_parts (marks_at n (label_pieces blanks (a ∷ w))) ≡ true
label_is_parts n blanks a [] = kind_is_part a
label_is_parts n blanks a (b ∷ w) = ap₂ (λ x y. x && true && y) (kind_is_part a) (label_is_parts (n + length blanks + length (part_text a) + 0 + 1) [] b w)

label_no_class : (n : ℕ) (blanks : List ℕ) (a : Tape) (w : Word) → is_class (marks_at n (label_pieces blanks (a ∷ w))) ≡ false
label_no_class n blanks a [] = kind_is_no_class a
label_no_class n blanks a (b ∷ w) = refl

label_word : (n : ℕ) (blanks : List ℕ) (a : Tape) (w : Word) → parts_word (marks_at n (label_pieces blanks (a ∷ w))) ≡ a ∷ w
label_word n blanks a [] = ap (λ b. b ∷ []) (tape_read a)
label_word n blanks a (b ∷ w) = ap₂ (λ x y. x ∷ y) (tape_read a) (label_word (n + length blanks + length (part_text a) + 0 + 1) [] b w)

pub label_is_label : (n : ℕ) (blanks : List ℕ) (a : Tape) (w : Word) → is_label (marks_at n (label_pieces blanks (a ∷ w))) ≡ true
label_is_label n blanks a w = ap₂ (λ x y. x || y) (label_no_class n blanks a w) (label_is_parts n blanks a w)

pub label_over : (sets : List TapeSet) (n : ℕ) (blanks : List ℕ) (a : Tape) (w : Word) → IsOverSets sets (a ∷ w) → IsLabelOver sets (marks_at n (label_pieces blanks (a ∷ w)))
label_over sets n blanks a w over = go (is_class ms) (parts_word ms) (label_no_class n blanks a w) (label_word n blanks a w)
  where
    ms : List Mark
    ms = marks_at n (label_pieces blanks (a ∷ w))

    go : (b : Bool) (v : Word) → b ≡ false → v ≡ a ∷ w → MatchBool b (IsClassOver sets (class_body ms)) (IsOverSets sets v)
    go true v e f = absurd (cc)
    go false v e f = subst (IsOverSets sets) (sym f) over

pub label_is_words : (sets : List TapeSet) (n : ℕ) (blanks : List ℕ) (a : Tape) (w : Word) → label_words sets (marks_at n (label_pieces blanks (a ∷ w))) ≡ (a ∷ w) ∷ []
label_is_words sets n blanks a w =
    ap₂ (λ b v. if b then class_words sets (class_body (marks_at n (label_pieces blanks (a ∷ w)))) else v ∷ []) (label_no_class n blanks a w) (label_word n blanks a w)

-- no comma is among the marks
abbrev pub AreNoCommas : List Mark → Type 0
AreNoCommas [] = ⊤
AreNoCommas (m ∷ ms) = (is_comma m ≡ false) × AreNoCommas ms

kind_is_no_comma : (a : Tape) → is_comma_kind (part_kind a) ≡ false
kind_is_no_comma [] = refl
kind_is_no_comma (x ∷ a) = refl

pub labels_without_comma : (n : ℕ) (blanks : List ℕ) (a : Tape) (w : Word) → AreNoCommas (marks_at n (label_pieces blanks (a ∷ w)))
labels_without_comma n blanks a [] = (kind_is_no_comma a, tt)
labels_without_comma n blanks a (b ∷ w) = (kind_is_no_comma a, (refl, labels_without_comma (n + length blanks + length (part_text a) + 0 + 1) [] b w))
