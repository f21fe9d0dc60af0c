-- Texts that are tokens with blanks before them.
use Rattle.std.proofs.Common.{◌≡◌, ℕ, ◌+◌, ◌-◌, Bool, true, false, ◌&&◌, ◌==◌, cond, List, [], ◌∷◌, ◌++◌, length, take, drop, Ok, refl, ap, sym, ◌∙◌, subst, inl, inr, arith, add-zero, append_assoc, length-append}
use Rattle.std.specs.Prelude.{⊤}
use Rattle.std.specs.List.{prefix_len, list_all}
use Rattle.std.proofs.Math.Seq.{take-append_seam, drop-append_seam}
use Rattle.std.proofs.lemmas.Grind.{common_steps}
use Rattle.vc_lex.specs.Grammar.{IsTokenText, EndsBefore, BeginsToken}
use Rattle.vc_text.specs.Letters.{is_plain}
use Rattle.vc_text.specs.Blanks.{is_blank}
use Rattle.vc_lex.specs.declared.token.Mode.TheVariants.{Line}
use Rattle.vc_lex.specs.declared.token.TokenKind.{TokenKind}
use Rattle.vc_lex.specs.declared.token.TokenKind.TheVariants.{Run}
use Rattle.vc_lex.specs.Marks.{Mark, IsNext, HasMarks, next_at, marks_of}

-- a token, with the blanks before it
pub record Piece : Type 0 where
  pub blanks : List ℕ
  pub kind : TokenKind
  pub text : List ℕ

-- the text of tokens one after another
abbrev pub spread : List Piece → List ℕ
spread [] = []
spread (p ∷ ps) = p.blanks ++ (p.text ++ spread ps)

-- their marks, where the text stands at this place of its line
abbrev pub marks_at : ℕ → List Piece → List Mark
marks_at n [] = []
marks_at n (p ∷ ps) = record { kind = p.kind; text = p.text; at = n + length p.blanks } ∷ marks_at (n + length p.blanks + length p.text) ps

-- the place after them
abbrev pub place_after : ℕ → List Piece → ℕ
place_after n [] = n
place_after n (p ∷ ps) = place_after (n + length p.blanks + length p.text) ps

-- blanks alone stand before the token, it is one, and no token goes on after it
pub record IsSet (p : Piece) (rest : List ℕ) : Type 0 where
  pub blanks : prefix_len is_blank (p.blanks ++ (p.text ++ rest)) ≡ length p.blanks
  pub token : IsTokenText p.kind Line p.text
  pub ends : EndsBefore p.kind rest

abbrev pub AreSet : List Piece → Type 0
AreSet [] = ⊤
AreSet (p ∷ ps) = IsSet p (spread ps) × AreSet ps

drop_twice : (i j : ℕ) (s : List ℕ) → drop j (drop i s) ≡ drop (i + j) s
drop_twice i j s = grind (arith, common_steps)

after : (line a b : List ℕ) (n : ℕ) → drop n line ≡ a ++ b → drop (n + length a) line ≡ b
after line a b n e = sym (drop_twice n (length a) line) ∙ ap (drop (length a)) e ∙ drop-append_seam a b

begins_with_it : (text rest : List ℕ) (kind : TokenKind) → IsTokenText kind Line text → EndsBefore kind rest → BeginsToken Line (text ++ rest) kind (length text)
begins_with_it text rest kind token ends = record {
  within = omega (arith, length-append text rest);
  is_token = subst (IsTokenText kind Line) (sym (take-append_seam text rest)) token;
  ends = subst (EndsBefore kind) (sym (drop-append_seam text rest)) ends;
}

next_is : (line : List ℕ) (at : ℕ) (p : Piece) (rest : List ℕ) → drop at line ≡ p.blanks ++ (p.text ++ rest) → IsSet p rest
    → IsNext Line line at (record { kind = p.kind; text = p.text; at = at + length p.blanks })
next_is line at p rest e is =
    let place : next_at line at ≡ at + length p.blanks = ap (λ s. at + prefix_len is_blank s) e ∙ ap (λ n. at + n) is.blanks in
    let here : drop (at + length p.blanks) line ≡ p.text ++ rest = after line p.blanks (p.text ++ rest) at e in
    let width : (at + length p.blanks + length p.text) - (at + length p.blanks) ≡ length p.text = omega arith in
    record {
      place = sym place;
      begins = subst (λ s. BeginsToken Line s p.kind (length p.text)) (sym (ap (λ n. drop n line) place ∙ here)) (begins_with_it p.text rest p.kind is.token is.ends);
      slice = sym (ap (λ n. take n (drop (at + length p.blanks) line)) width ∙ ap (take (length p.text)) here ∙ take-append_seam p.text rest);
    }

-- a line has the marks of the tokens that stand in it
pub marks_laid : (line : List ℕ) (at : ℕ) (ps : List Piece) → drop at line ≡ spread ps → AreSet ps → HasMarks Line line at (marks_at at ps)
marks_laid line at [] e h =
    inl (ap (λ s. drop (at + prefix_len is_blank s) line) e ∙ ap (λ n. drop n line) (add-zero at) ∙ e)
marks_laid line at (p ∷ ps) e (is, h) =
    let here : drop (at + length p.blanks) line ≡ p.text ++ spread ps = after line p.blanks (p.text ++ spread ps) at e in
    let next : drop (at + length p.blanks + length p.text) line ≡ spread ps = after line p.text (spread ps) (at + length p.blanks) here in
    (next_is line at p (spread ps) e is, marks_laid line (at + length p.blanks + length p.text) ps next h)

-- and they are the tokens of the line
pub line_marks : ((line : List ℕ) (ms : List Mark) → HasMarks Line line 0 ms → marks_of Line line ≡ Ok ms)
    → (line : List ℕ) (ps : List Piece) → line ≡ spread ps → AreSet ps → marks_of Line line ≡ Ok (marks_at 0 ps)
line_marks complete line ps e h = complete line (marks_at 0 ps) (marks_laid line 0 ps e h)

-- ---- tokens one after another

pub spread_append : (ps qs : List Piece) → spread (ps ++ qs) ≡ spread ps ++ spread qs
spread_append [] qs = refl
spread_append (p ∷ ps) qs =
    ap (λ t. p.blanks ++ (p.text ++ t)) (spread_append ps qs) ∙ ap (λ t. p.blanks ++ t) (sym (append_assoc p.text (spread ps) (spread qs)))
    ∙ sym (append_assoc p.blanks (p.text ++ spread ps) (spread qs))

pub marks_append : (n : ℕ) (ps qs : List Piece) → marks_at n (ps ++ qs) ≡ marks_at n ps ++ marks_at (place_after n ps) qs
marks_append n [] qs = refl
marks_append n (p ∷ ps) qs =
    ap (λ ms. record { kind = p.kind; text = p.text; at = n + length p.blanks } ∷ ms) (marks_append (n + length p.blanks + length p.text) ps qs)

-- ---- blanks

-- no blank stands at the front of the text, whatever is after it
abbrev pub IsInk : List ℕ → Type 0
IsInk text = (rest : List ℕ) → prefix_len is_blank (text ++ rest) ≡ 0

pub ink_at : (x : ℕ) (s : List ℕ) → is_blank x ≡ false → IsInk (x ∷ s)
ink_at x s e rest = ap (λ b. cond b (1 + prefix_len is_blank (s ++ rest)) 0) e

pub blanks_counted : (blanks text : List ℕ) → list_all is_blank blanks ≡ true → prefix_len is_blank text ≡ 0 → prefix_len is_blank (blanks ++ text) ≡ length blanks
blanks_counted [] text h e = e
blanks_counted (x ∷ s) text h e = go (is_blank x) (list_all is_blank s) h (λ k. blanks_counted s text k e)
  where
    go : (b c : Bool) → b && c ≡ true → (c ≡ true → prefix_len is_blank (s ++ text) ≡ length s) → cond b (1 + prefix_len is_blank (s ++ text)) 0 ≡ length (x ∷ s)
    go true true k r = let q = r refl in omega (arith, q)
    go true false k r = absurd (cc)
    go false c k r = absurd (cc)

-- ---- the end of a run

-- no letter begins at the front of the text
abbrev pub IsClear : List ℕ → Type 0
IsClear [] = ⊤
IsClear (x ∷ s) = (is_plain x ≡ false) × ((x == 92) ≡ false)

pub run_ends : (text : List ℕ) → IsClear text → EndsBefore Run text
run_ends [] clear front back e (x, inl (plain, is)) = let f : [] ≡ (x ∷ []) ++ back = e ∙ ap (λ t. t ++ back) is in absurd (cc)
run_ends [] clear front back e (x, inr (escaped, is)) = let f : [] ≡ (92 ∷ x ∷ []) ++ back = e ∙ ap (λ t. t ++ back) is in absurd (cc)
run_ends (y ∷ s) clear front back e (x, inl (plain, is)) =
    let f : y ∷ s ≡ x ∷ back = e ∙ ap (λ t. t ++ back) is in
    let same : y ≡ x = cc in
    let both : false ≡ true = sym clear.0 ∙ ap is_plain same ∙ plain in
    absurd (cc)
run_ends (y ∷ s) clear front back e (x, inr (escaped, is)) =
    let f : y ∷ s ≡ 92 ∷ x ∷ back = e ∙ ap (λ t. t ++ back) is in
    let same : y ≡ 92 = cc in
    let both : false ≡ true = sym clear.1 ∙ ap (λ z. z == 92) same in
    absurd (cc)

-- a token after blanks
pub piece_set : (blanks text rest : List ℕ) (kind : TokenKind) → list_all is_blank blanks ≡ true → IsInk text → IsTokenText kind Line text → EndsBefore kind rest
    → IsSet (record { blanks = blanks; kind = kind; text = text }) rest
piece_set blanks text rest kind h ink token ends = record { blanks = blanks_counted blanks (text ++ rest) h (ink rest); token = token; ends = ends }
