-- The context line of the canonical text is read as the context.
use Rattle.std.proofs.Common.{◌≡◌, ℕ, ◌+◌, ◌↔◌, Bool, true, false, not, ◌&&◌, ◌==◌, List, [], ◌∷◌, ◌++◌, length, take, drop, codes, Some, None, refl, ap, ap₂, ◌∙◌, inl, inr, arith, append_assoc, length-append, add-zero}
use Rattle.std.specs.Prelude.{IsTrue, nat_le, nat_lt, if◌then◌else◌}
use Rattle.std.specs.Option.{option_map, option_map_or}
use Rattle.std.specs.List.{list_all, flat_map}
use Rattle.std.proofs.Math.Seq.{take-append_seam, drop-append-add}
use Rattle.std.proofs.lemmas.Bool.{and_parts, lt-ltb}
use Rattle.vc_text.specs.Letters.{is_escaped, is_plain, letter_text}
use Rattle.vc_context.specs.Canonical.{kind_name, tape_text, comma_text, labels_text, context_text}
use Rattle.vc_context.specs.Spelling.{weights_name}
use Rattle.vc_context.specs.declared.context.Weights.{Weights}
use Rattle.vc_context.specs.declared.context.Weights.TheVariants.{B, F2, Z, Q, Nmin}
use Rattle.vc_label.specs.Alphabets.{has_letter, letters_of}
use Rattle.vc_label.specs.Letters.{is_letter}
use Rattle.vc_label.specs.declared.alphabet.Alphabet.{Alphabet}
use Rattle.vc_label.specs.declared.tape_set.TapeKind.{TapeKind}
use Rattle.vc_label.specs.declared.tape_set.TapeKind.TheVariants.{Letters, Nullable, Words}
use Rattle.vc_label.specs.declared.tape_set.TapeSet.{TapeSet}
use Rattle.vc_text.specs.declared.letters.LetterAt.{LetterAt}
use Rattle.vc_lex.specs.Fronts.{front}
use Rattle.vc_lex.specs.Scans.{letter_width, line_token}
use Rattle.vc_lex.specs.declared.scan.Scan.TheVariants.{Found}
use Rattle.vc_lex.specs.declared.token.TokenKind.TheVariants.{Run}
use Rattle.vc_model.specs.Lists.{In}
use Rattle.vc_lines.specs.Contexts.{before, begins_quote, quoted}
use Rattle.vc_lines.specs.Contexts as contexts
use Rattle.vc_lines.specs.Heads.{is_end, is_blank_line}
use Rattle.vc_daut.proofs.LetterTokens.{plain_differs, plain_no_slash, escaped}
use Rattle.vc_daut.proofs.ShownBytes.{is_shown, AreShown, shown_append, letter_shown}

-- a text that stands in double quotes: the closing quote is not found in it
pub record IsQuotable (s : List ℕ) : Type 0 where
  pub shown : AreShown s
  pub passed : (rest : List ℕ) → before begins_quote (s ++ rest) ≡ length s + before begins_quote rest

quotable_none : IsQuotable []
quotable_none = record { shown = refl; passed = λ rest. omega arith }

quotable_append : (a b : List ℕ) → IsQuotable a → IsQuotable b → IsQuotable (a ++ b)
quotable_append a b h k = record {
  shown = shown_append a b h.shown k.shown;
  passed = λ rest.
      let f = h.passed (b ++ rest) in
      let g = k.passed rest in
      ap (before begins_quote) (append_assoc a b rest) ∙ omega (arith, f, g, length-append a b);
}

-- a byte that is no double quote and no backslash
abbrev is_open : ℕ → Bool
is_open x = nat_le 32 x && (not (x == 34) && not (x == 92))

open_passed : (x : ℕ) (rest : List ℕ) → (x == 34) ≡ false → (x == 92) ≡ false → before begins_quote (x ∷ rest) ≡ 1 + before begins_quote rest
open_passed x [] e f = ap (λ b. if b then 0 else 1) e
open_passed x (y ∷ s) e f =
    ap₂ (λ b c. if b then 0 else (if c && is_escaped y then 2 + before begins_quote s else 1 + before begins_quote (y ∷ s))) e f

open_parts : (a b c : Bool) → a && (not b && not c) ≡ true → (a ≡ true) × (b ≡ false) × (c ≡ false)
open_parts true false false h = (refl, refl, refl)
open_parts true false true h = absurd (cc)
open_parts true true c h = absurd (cc)
open_parts false b c h = absurd (cc)

one_quotable : (x : ℕ) → is_shown x ≡ true → (x == 34) ≡ false → (x == 92) ≡ false → IsQuotable (x ∷ [])
one_quotable x s e f = record { shown = ap (λ b. b && true) s; passed = λ rest. open_passed x rest e f }

open_quotable : (s : List ℕ) → list_all is_open s ≡ true → IsQuotable s
open_quotable [] h = quotable_none
open_quotable (x ∷ s) h =
    let b = and_parts (is_open x) (list_all is_open s) h in
    let t = open_parts (nat_le 32 x) (x == 34) (x == 92) b.0 in
    quotable_append (x ∷ []) s (one_quotable x t.0 t.1 t.2) (open_quotable s b.1)

-- ---- letters

quote_is_not_plain : is_plain 34 ≡ false
unfolding is_plain
quote_is_not_plain = refl

pair_passed : (x : ℕ) (rest : List ℕ) → is_escaped x ≡ true → before begins_quote (92 ∷ x ∷ rest) ≡ 2 + before begins_quote rest
pair_passed x rest e = ap (λ b. if b then 2 + before begins_quote rest else 1 + before begins_quote (x ∷ rest)) e

letter_quotable : (x : ℕ) → is_letter x ≡ true → IsQuotable (letter_text x)
letter_quotable x h = record { shown = letter_shown x h; passed = go (is_plain x) refl }
  where
    go : (b : Bool) → is_plain x ≡ b → (rest : List ℕ) → before begins_quote ((if b then x ∷ [] else 92 ∷ x ∷ []) ++ rest) ≡ length (if b then x ∷ [] else 92 ∷ x ∷ []) + before begins_quote rest
    go true e rest = open_passed x rest (plain_differs x 34 quote_is_not_plain e) (plain_no_slash x e)
    go false e rest = pair_passed x rest (escaped x h e)

letters_quotable : (xs : List ℕ) → ((x : ℕ) → In x xs → is_letter x ≡ true) → IsQuotable (flat_map letter_text xs)
letters_quotable [] h = quotable_none
letters_quotable (x ∷ xs) h =
    quotable_append (letter_text x) (flat_map letter_text xs) (letter_quotable x (h x (inl refl))) (letters_quotable xs (λ y i. h y (inr i)))

-- ---- contexts

weights_quotable : (w : Weights) → IsQuotable (weights_name w)
weights_quotable B = open_quotable (codes "b") refl
weights_quotable F2 = open_quotable (codes "f2") refl
weights_quotable Z = open_quotable (codes "z") refl
weights_quotable Q = open_quotable (codes "q") refl
weights_quotable Nmin = open_quotable (codes "nmin") refl

kind_quotable : (k : TapeKind) → IsQuotable (kind_name k)
kind_quotable Letters = open_quotable (codes "lal_char") refl
kind_quotable Nullable = open_quotable (codes "lan_char") refl
kind_quotable Words = open_quotable (codes "law_char") refl

module _ (letter : (s : Alphabet) (x : ℕ) → has_letter s x ≡ true → IsTrue (is_letter x))
    (listed : (s : Alphabet) (x : ℕ) → In x (letters_of s) ↔ (has_letter s x ≡ true)) where
  tape_quotable : (s : TapeSet) → IsQuotable (tape_text s)
  tape_quotable s =
      let xs : List ℕ = flat_map letter_text (letters_of s.alphabet) in
      quotable_append (kind_name s.kind) (codes "(" ++ (xs ++ codes ")")) (kind_quotable s.kind)
      (quotable_append (codes "(") (xs ++ codes ")") (open_quotable (codes "(") refl)
      (quotable_append xs (codes ")") (letters_quotable (letters_of s.alphabet) (λ x i. letter s.alphabet x ((listed s.alphabet x).0 i))) (open_quotable (codes ")") refl)))

  commas_quotable : (ss : List TapeSet) → IsQuotable (flat_map comma_text ss)
  commas_quotable [] = quotable_none
  commas_quotable (s ∷ ss) =
      quotable_append (comma_text s) (flat_map comma_text ss) (quotable_append (codes ", ") (tape_text s) (open_quotable (codes ", ") refl) (tape_quotable s)) (commas_quotable ss)

  labels_quotable : (ss : List TapeSet) → IsQuotable (labels_text ss)
  labels_quotable [] = quotable_none
  labels_quotable (s ∷ []) = tape_quotable s
  labels_quotable (s ∷ next ∷ ss) =
      let more : List ℕ = flat_map comma_text (next ∷ ss) in
      quotable_append (codes "lat<") (tape_text s ++ (more ++ codes ">")) (open_quotable (codes "lat<") refl)
      (quotable_append (tape_text s) (more ++ codes ">") (tape_quotable s) (quotable_append more (codes ">") (commas_quotable (next ∷ ss)) (open_quotable (codes ">") refl)))

  pub context_quotable : (ss : List TapeSet) (weights : Weights) → IsQuotable (context_text ss weights)
  context_quotable ss weights =
      quotable_append (labels_text ss) (codes ", " ++ weights_name weights) (labels_quotable ss)
      (quotable_append (codes ", ") (weights_name weights) (open_quotable (codes ", ") refl) (weights_quotable weights))

-- ---- the context line

quoted_read : (s : List ℕ) → IsQuotable s → quoted (s ++ 34 ∷ []) ≡ Some s
quoted_read s h =
    let text : List ℕ = s ++ 34 ∷ [] in
    let end : before begins_quote text ≡ length s = h.passed (34 ∷ []) ∙ add-zero (length s) in
    let within : nat_lt (length s) (length text) ≡ true = lt-ltb (length s) (length text) (omega (arith, length-append s (34 ∷ []))) in
    let after : drop (length s + 1) text ≡ [] = drop-append-add s (34 ∷ []) 1 in
    ap (λ n. if nat_lt n (length text) && is_blank_line (drop (n + 1) text) then Some (take n text) else None) end
    ∙ ap₂ (λ b t. if b && is_blank_line t then Some (take (length s) text) else None) within after
    ∙ ap Some (take-append_seam s (34 ∷ []))

-- the context is read from its line
pub context_line_read : (s : List ℕ) → IsQuotable s → contexts.context_in_line (codes "context = \"" ++ (s ++ codes "\"")) ≡ Some s
context_line_read s h = quoted_read s h

first_is_plain : is_plain 99 ≡ true
unfolding is_plain
first_is_plain = refl

-- a letter begins it
first_begins : (s : List ℕ) → letter_width (99 ∷ s) ≡ Some 1
first_begins [] = ap (λ b. option_map (λ (l : LetterAt). l.after) (if b then Some (record { letter = 99; after = 0 + 1 }) else None)) first_is_plain
first_begins (y ∷ s) = ap (λ b. option_map (λ (l : LetterAt). l.after) (if b then Some (record { letter = 99; after = 0 + 1 }) else None)) first_is_plain

-- and that line is not blank
pub context_line_stands : (s : List ℕ) → is_blank_line (codes "context = \"" ++ s) ≡ false
context_line_stands s =
    let after : List ℕ = codes "ontext = \"" ++ s in
    ap (λ o. is_end (option_map_or (λ width. Found Run (front letter_width (99 ∷ after))) o (line_token 99 after)))
    (first_begins after)
