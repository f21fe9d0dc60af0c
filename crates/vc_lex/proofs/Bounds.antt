-- Tokens lie within their texts.
use Rattle.std.proofs.Common.{◌≡◌, ℕ, ◌+◌, ◌-◌, ◌<◌, ◌≤◌, ◌&&◌, Bool, true, false, List, [], ◌∷◌, length, take, drop, Option, Some, None, refl, sym, ◌∙◌, subst, arith, length-drop, length-take}
use Rattle.std.proofs.lemmas.Grind.{common_steps}
use Rattle.std.specs.Prelude.{◌==◌}
use Rattle.std.specs.Option.{option_map_or}
use Rattle.std.specs.List.{prefix_len}
use Rattle.vc_lex.specs.Grammar.{is_weight_byte}
use Rattle.vc_lex.specs.Fronts.{front}
use Rattle.vc_lex.specs.Scans.{begins_with, letter_width, name_width, positive, class_body, enclosed, common_token, expression_token, line_token, token_at, width_found}
use Rattle.vc_lex.specs.declared.token.Mode.{Mode}
use Rattle.vc_lex.specs.declared.token.Mode.TheVariants.{Expression, Line}
use Rattle.vc_lex.specs.declared.token.TokenKind.{TokenKind}
use Rattle.vc_lex.specs.declared.token.TokenKind.TheVariants.{Zero, One, Quoted, Class, Weight, Arrow, Name, Letter, Run}
use Rattle.vc_lex.specs.declared.scan.Scan.{Scan}
use Rattle.vc_lex.specs.declared.scan.Scan.TheVariants.{Bad, Found}
use Rattle.vc_lex.proofs.Choices.{chosen, at_common, at_expression, at_line}
use Rattle.vc_lex.proofs.Pieces.{front-le}
use Rattle.vc_lex.proofs.Widths.{letters_shrink}

-- a text that begins with a byte is not empty
pub begins_some : (x : ℕ) (s : List ℕ) → begins_with x s ≡ true → 0 < length s
begins_some x [] e = grind (arith, common_steps)
begins_some x (y ∷ s) e = omega arith

-- the answer lies within this many bytes
abbrev Within : ℕ → Scan → Type 0
Within n scan = width_found scan ≤ n

two_within : (kind : TokenKind) (x : ℕ) (s : List ℕ) (b : Bool) → (b && begins_with x s) ≡ true → Within (1 + length s) (Found kind 2)
two_within kind x [] true e = grind (arith, common_steps)
two_within kind x [] false e = grind (arith, common_steps)
two_within kind x (y ∷ s) b e = omega arith

enclosed_within : (kind : TokenKind) (body : Option ℕ) (last : ℕ) (s : List ℕ) → Within (1 + length s) (enclosed kind body last s)
enclosed_within kind None last s = omega arith
enclosed_within kind (Some n) last s =
    chosen (Within (1 + length s)) (begins_with last (drop n s)) (Found kind (n + 2)) Bad
    (λ e. omega (arith, begins_some last (drop n s) e, length-drop n s))
    (λ e. omega arith)

common_within : (x : ℕ) (s : List ℕ) → Within (1 + length s) (common_token x s)
common_within x s = at_common (Within (1 + length s)) x s (record {
  bar = λ e. omega arith;
  quoted = λ e. enclosed_within Quoted (Some (front letter_width s)) 39 s;
  class = λ e. enclosed_within Class (class_body s) 93 s;
  weight = λ e. enclosed_within Weight (positive (prefix_len is_weight_byte s)) 62 s;
  one = λ e. two_within One 101 s (x == 92) e;
  bad = omega arith;
})

expression_within : (x : ℕ) (s : List ℕ) → Within (1 + length s) (expression_token x s)
expression_within x s = at_expression (Within (1 + length s)) x s (record {
  star = λ e. omega arith;
  both = λ e. omega arith;
  shuffle = λ e. omega arith;
  plus = λ e. omega arith;
  left = λ e. omega arith;
  right = λ e. omega arith;
  zero = λ e. two_within Zero 122 s (x == 92) e;
  common = common_within x s;
})

line_within : (x : ℕ) (s : List ℕ) → Within (1 + length s) (line_token x s)
line_within x s = at_line (Within (1 + length s)) x s (record {
  comma = λ e. omega arith;
  dollar = λ e. omega arith;
  equals = λ e. omega arith;
  name = λ e. enclosed_within Name (Some (front name_width s)) 34 s;
  arrow = λ e. two_within Arrow 62 s (x == 45) e;
  comment = λ e. omega arith;
  slashes = λ e. omega arith;
  common = common_within x s;
})

letter_or_within : (s : List ℕ) (rest : Scan) → Within (length s) rest → (o : Option ℕ) → letter_width s ≡ o → Within (length s) (option_map_or (λ width. Found Letter width) o rest)
letter_or_within s rest within None e = within
letter_or_within s rest within (Some w) e = letters_shrink.within s w e

run_or_within : (s : List ℕ) (rest : Scan) → Within (length s) rest → (o : Option ℕ) → Within (length s) (option_map_or (λ width. Found Run (front letter_width s)) o rest)
run_or_within s rest within None = within
run_or_within s rest within (Some w) = front-le letter_width s letters_shrink

-- a token lies within the text at whose front it stands
pub width_found-token_at : (mode : Mode) (s : List ℕ) → width_found (token_at mode s) ≤ length s
width_found-token_at mode [] = omega arith
width_found-token_at Expression (x ∷ s) =
    let rest : Within (length (x ∷ s)) (expression_token x s) = omega (arith, expression_within x s) in
    letter_or_within (x ∷ s) (expression_token x s) rest (letter_width (x ∷ s)) refl
width_found-token_at Line (x ∷ s) =
    let rest : Within (length (x ∷ s)) (line_token x s) = omega (arith, line_within x s) in
    run_or_within (x ∷ s) (line_token x s) rest (letter_width (x ∷ s))

pub found_within : (mode : Mode) (s : List ℕ) (scan : Scan) (kind : TokenKind) (width : ℕ) → scan ≡ token_at mode s → scan ≡ Found kind width → width ≤ length s
found_within mode s scan kind width e f =
    subst (λ (v : Scan). width_found v ≤ length s) (sym e ∙ f) (width_found-token_at mode s)

-- a count of bytes of the rest of a text
pub count_within : (s : List ℕ) (at n : ℕ) → at ≤ length s → n ≤ length (take (length s - at) (drop at s)) → at + n ≤ length s
count_within s at n below within = omega (arith, length-take {A = ℕ}, length-drop {A = ℕ})
