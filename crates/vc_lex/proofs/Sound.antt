-- What the scanner answers follows the grammar.
use Rattle.std.proofs.Common.{◌≡◌, ℕ, suc, ◌+◌, ◌<◌, ◌&&◌, Bool, true, false, List, [], ◌∷◌, ◌++◌, length, take, drop, Option, Some, None, refl, ap, sym, ◌∙◌, subst, inl, inr, arith, length-drop}
use Rattle.std.proofs.lemmas.Bool.{eqb-true}
use Rattle.std.specs.Prelude.{◌==◌}
use Rattle.std.specs.Option.{option_map_or}
use Rattle.std.specs.List.{prefix_len}
use Rattle.vc_lex.specs.Fronts.{front}
use Rattle.vc_lex.specs.Grammar.{IsLetter, Several, Between, IsClassBody, IsWeightBody, IsNamePart, IsTokenText, EndsBefore, BeginsToken, is_weight_byte}
use Rattle.vc_lex.specs.Scans.{begins_with, letter_width, name_width, positive, class_body, enclosed, common_token, expression_token, line_token, token_at, Follows}
use Rattle.vc_lex.specs.declared.token.Mode.{Mode}
use Rattle.vc_lex.specs.declared.token.Mode.TheVariants.{Expression, Line}
use Rattle.vc_lex.specs.declared.token.TokenKind.{TokenKind}
use Rattle.vc_lex.specs.declared.token.TokenKind.TheVariants.{Zero, One, Letter, Run, Quoted, Class, Weight, Star, And, Shuffle, Plus, Left, Right, Bar, Arrow, Comma, Dollar, Equals, Name}
use Rattle.vc_lex.specs.declared.scan.Scan.{Scan}
use Rattle.vc_lex.specs.declared.scan.Scan.TheVariants.{Bad, Found}
use Rattle.vc_lex.proofs.Choices.{chosen, at_common, at_expression, at_line}
use Rattle.vc_lex.proofs.Pieces.{front-some, front-le}
use Rattle.vc_lex.proofs.Widths.{letters_shrink}
use Rattle.vc_lex.proofs.Bounds.{begins_some}
use Rattle.vc_lex.proofs.Spelled.{take_sum, front_several, taken_some, reads_letter, reads_name, reads_weight, reads_class}
use Rattle.vc_lex.proofs.Begun.{front_stops, letter_begins}

first_is : (x : ℕ) (s : List ℕ) → begins_with x s ≡ true → take 1 s ≡ x ∷ []
first_is x [] e = absurd (cc)
first_is x (y ∷ s) e = ap (λ z. z ∷ []) (eqb-true y x e)

-- a token of one byte
one_byte : (mode : Mode) (kind : TokenKind) (c x : ℕ) (s : List ℕ) → (x == c) ≡ true
    → ((text : List ℕ) → text ≡ c ∷ [] → IsTokenText kind mode text) → EndsBefore kind s → BeginsToken mode (x ∷ s) kind 1
one_byte mode kind c x s e is ends = record {
  within = omega arith;
  is_token = is (x ∷ []) (ap (λ z. z ∷ []) (eqb-true x c e));
  ends = ends;
}

both_bytes : (c d x : ℕ) (s : List ℕ) (b : Bool) → (x == c) ≡ b → (b && begins_with d s) ≡ true → take 2 (x ∷ s) ≡ c ∷ d ∷ []
both_bytes c d x s true e f = ap (λ z. z ∷ take 1 s) (eqb-true x c e) ∙ ap (λ t. c ∷ t) (first_is d s f)
both_bytes c d x s false e f = absurd (cc)

second_some : (d : ℕ) (s : List ℕ) (b : Bool) → (b && begins_with d s) ≡ true → 0 < length s
second_some d s true e = begins_some d s e
second_some d s false e = absurd (cc)

-- a token of two bytes
two_bytes : (mode : Mode) (kind : TokenKind) (c d x : ℕ) (s : List ℕ) → (x == c && begins_with d s) ≡ true
    → ((text : List ℕ) → text ≡ c ∷ d ∷ [] → IsTokenText kind mode text) → ((rest : List ℕ) → EndsBefore kind rest) → BeginsToken mode (x ∷ s) kind 2
two_bytes mode kind c d x s e is ends =
    let some : 0 < length s = second_some d s (x == c) e in
    record {
      within = omega arith;
      is_token = is (take 2 (x ∷ s)) (both_bytes c d x s (x == c) refl e);
      ends = ends (drop 2 (x ∷ s));
    }

closed_text : (first last n x : ℕ) (s : List ℕ) → x ≡ first → begins_with last (drop n s) ≡ true → take (n + 2) (x ∷ s) ≡ first ∷ (take n s ++ last ∷ [])
closed_text first last n x s e f =
    let sum : n + 2 ≡ suc (n + 1) = omega arith in
    ap (λ k. take k (x ∷ s)) sum ∙ ap (λ z. z ∷ take (n + 1) s) e
    ∙ ap (λ t. first ∷ t) (take_sum n 1 s ∙ ap (λ t. take n s ++ t) (first_is last (drop n s) f))

-- a token between two bytes
enclosed_follows : (mode : Mode) (kind : TokenKind) (first last x : ℕ) (s : List ℕ) (P : List ℕ → Type 0) (body : Option ℕ) → (x == first) ≡ true
    → ((n : ℕ) → body ≡ Some n → P (take n s)) → ((text : List ℕ) → Between first P last text → IsTokenText kind mode text)
    → ((rest : List ℕ) → EndsBefore kind rest) → Follows mode (x ∷ s) (enclosed kind body last s)
enclosed_follows mode kind first last x s P None e reads is ends = tt
enclosed_follows mode kind first last x s P (Some n) e reads is ends =
    chosen (Follows mode (x ∷ s)) (begins_with last (drop n s)) (Found kind (n + 2)) Bad
    (λ f.
    let some : 0 < length (drop n s) = begins_some last (drop n s) f in
    record {
      within = omega (arith, length-drop n s);
      is_token = is (take (n + 2) (x ∷ s)) (take n s, closed_text first last n x s (eqb-true x first e) f, reads n refl);
      ends = ends (drop (n + 2) (x ∷ s));
    })
    (λ f. tt)

of_some : (P : List ℕ → Type 0) (s : List ℕ) (m n : ℕ) → P (take m s) → Some m ≡ Some n → P (take n s)
of_some P s m n holds e =
    let same : m ≡ n = cc in
    subst (λ (k : ℕ). P (take k s)) same holds

common_follows : (mode : Mode) (x : ℕ) (s : List ℕ) → Follows mode (x ∷ s) (common_token x s)
common_follows mode x s = at_common (Follows mode (x ∷ s)) x s (record {
  bar = λ e. one_byte mode Bar 124 x s e (λ t f. f) tt;
  quoted = λ e. enclosed_follows mode Quoted 39 39 x s (Several IsLetter) (Some (front letter_width s)) e (λ n. of_some (Several IsLetter) s (front letter_width s) n (front_several IsLetter letter_width reads_letter s)) (λ t f. f) (λ r. tt);
  class = λ e. enclosed_follows mode Class 91 93 x s IsClassBody (class_body s) e (reads_class s) (λ t f. f) (λ r. tt);
  weight = λ e. enclosed_follows mode Weight 60 62 x s IsWeightBody (positive (prefix_len is_weight_byte s)) e (reads_weight s) (λ t f. f) (λ r. tt);
  one = λ e. two_bytes mode One 92 101 x s e (λ t f. f) (λ r. tt);
  bad = tt;
})

expression_follows : (x : ℕ) (s : List ℕ) → Follows Expression (x ∷ s) (expression_token x s)
expression_follows x s = at_expression (Follows Expression (x ∷ s)) x s (record {
  star = λ e. one_byte Expression Star 42 x s e (λ t f. f) tt;
  both = λ e. one_byte Expression And 38 x s e (λ t f. f) tt;
  shuffle = λ e. one_byte Expression Shuffle 58 x s e (λ t f. f) tt;
  plus = λ e. one_byte Expression Plus 43 x s e (λ t f. f) tt;
  left = λ e. one_byte Expression Left 40 x s e (λ t f. f) tt;
  right = λ e. one_byte Expression Right 41 x s e (λ t f. f) tt;
  zero = λ e. two_bytes Expression Zero 92 122 x s e (λ t f. f) (λ r. tt);
  common = common_follows Expression x s;
})

two_front : (c d x : ℕ) (s : List ℕ) → (x == c && begins_with d s) ≡ true → x ∷ s ≡ c ∷ d ∷ drop 1 s
two_front c d x [] e = absurd (not_empty c d x (x == c) e)
  where
    not_empty : (c d x : ℕ) (b : Bool) → (b && begins_with d []) ≡ true → ⊥
    not_empty c d x true e = cc
    not_empty c d x false e = cc
two_front c d x (y ∷ s) e = both_front c d x y s (x == c) refl e
  where
    both_front : (c d x y : ℕ) (s : List ℕ) (b : Bool) → (x == c) ≡ b → (b && (y == d)) ≡ true → x ∷ y ∷ s ≡ c ∷ d ∷ s
    both_front c d x y s true e f = ap (λ z. z ∷ y ∷ s) (eqb-true x c e) ∙ ap (λ z. c ∷ z ∷ s) (eqb-true y d f)
    both_front c d x y s false e f = absurd (cc)

line_follows : (x : ℕ) (s : List ℕ) → Follows Line (x ∷ s) (line_token x s)
line_follows x s = at_line (Follows Line (x ∷ s)) x s (record {
  comma = λ e. one_byte Line Comma 44 x s e (λ t f. f) tt;
  dollar = λ e. one_byte Line Dollar 36 x s e (λ t f. f) tt;
  equals = λ e. one_byte Line Equals 61 x s e (λ t f. f) tt;
  name = λ e. enclosed_follows Line Name 34 34 x s (Several IsNamePart) (Some (front name_width s)) e (λ n. of_some (Several IsNamePart) s (front name_width s) n (front_several IsNamePart name_width reads_name s)) (λ t f. f) (λ r. tt);
  arrow = λ e. two_bytes Line Arrow 45 62 x s e (λ t f. f) (λ r. tt);
  comment = λ e. inr (s, inl (ap (λ z. z ∷ s) (eqb-true x 35 e)));
  slashes = λ e. inr (drop 1 s, inr (two_front 47 47 x s e));
  common = common_follows Line x s;
})

letter_follows : (s : List ℕ) (rest : Scan) → Follows Expression s rest → (o : Option ℕ) → letter_width s ≡ o → Follows Expression s (option_map_or (λ width. Found Letter width) o rest)
letter_follows s rest follows None e = follows
letter_follows s rest follows (Some w) e = record { within = letters_shrink.within s w e; is_token = reads_letter s w e; ends = tt }

-- behind a run no letter begins
run_ends : (s rest : List ℕ) → letter_width rest ≡ None → EndsBefore Run rest
run_ends s rest none text back e is =
    let begun : letter_width rest ≡ Some (length text) = ap letter_width e ∙ letter_begins text back is in
    absurd (apart (length text) (sym none ∙ begun))
  where
    apart : (n : ℕ) → None ≡ Some n → ⊥
    apart n e = cc

run_follows : (s : List ℕ) (rest : Scan) → Follows Line s rest → (o : Option ℕ) → letter_width s ≡ o → Follows Line s (option_map_or (λ width. Found Run (front letter_width s)) o rest)
run_follows s rest follows None e = follows
run_follows s rest follows (Some w) e =
    let first = letters_shrink.some s w e in
    let sum : front letter_width s ≡ w + front letter_width (drop w s) = front-some letter_width s w letters_shrink e in
    let some : 0 < front letter_width s = omega arith in
    let within = front-le letter_width s letters_shrink in
    record {
      within = within;
      is_token = (front_several IsLetter letter_width reads_letter s, taken_some (front letter_width s) s some within);
      ends = run_ends s (drop (front letter_width s) s) (front_stops letter_width s letters_shrink);
    }

-- the scanner follows the grammar
pub follows : (mode : Mode) (s : List ℕ) → Follows mode s (token_at mode s)
follows mode [] = inl refl
follows Expression (x ∷ s) = letter_follows (x ∷ s) (expression_token x s) (expression_follows x s) (letter_width (x ∷ s)) refl
follows Line (x ∷ s) = run_follows (x ∷ s) (line_token x s) (line_follows x s) (letter_width (x ∷ s)) refl
