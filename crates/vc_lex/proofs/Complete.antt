-- Each token of the grammar is found where it begins.
use Rattle.std.proofs.Common.{◌≡◌, ◌≢◌, ℕ, ◌+◌, ◌&&◌, ◌⊎◌, true, false, List, [], ◌∷◌, ◌++◌, length, take, drop, Option, Some, None, refl, ap, sym, ◌∙◌, subst, inl, inr, arith, append_assoc, length-append}
use Rattle.std.proofs.lemmas.List.{take-append-drop}
use Rattle.std.proofs.Math.Seq.{drop-append_seam}
use Rattle.std.specs.Prelude.{if◌then◌else◌, ◌==◌}
use Rattle.std.specs.Option.{option_map, option_map_or, option_and_then}
use Rattle.std.specs.List.{prefix_len}
use Rattle.vc_text.specs.Letters.{is_plain, is_escaped, letter_in}
use Rattle.vc_lex.specs.Fronts.{front}
use Rattle.vc_lex.specs.Grammar.{IsLetter, joined, Each, Several, Between, IsClassBody, IsWeightBody, IsNamePart, IsTokenText, EndsBefore, IsComment, is_weight_byte}
use Rattle.vc_lex.specs.Scans.{begins_with, letter_width, item_width, item_behind, name_width, positive, class_body, enclosed, common_token, expression_token, line_token, token_at}
use Rattle.vc_text.specs.declared.letters.LetterAt.{LetterAt}
use Rattle.vc_lex.specs.declared.token.Mode.{Mode}
use Rattle.vc_lex.specs.declared.token.Mode.TheVariants.{Expression, Line}
use Rattle.vc_lex.specs.declared.token.TokenKind.{TokenKind}
use Rattle.vc_lex.specs.declared.token.TokenKind.TheVariants.{Zero, One, Letter, Run, Quoted, Class, Weight, Star, And, Shuffle, Plus, Left, Right, Bar, Arrow, Comma, Dollar, Equals, Name}
use Rattle.vc_lex.specs.declared.scan.Scan.{Scan}
use Rattle.vc_lex.specs.declared.scan.Scan.TheVariants.{End, Bad, Found}
use Rattle.vc_lex.proofs.Widths.{letters_shrink, names_shrink}
use Rattle.vc_lex.proofs.Spelled.{reads_letter}
use Rattle.vc_lex.proofs.Begun.{letter_begins, slash_is_not_plain}
use Rattle.vc_lex.proofs.Fitting.{letters_fit, names_fit, several_read, weight_read, positive_some, class_read}

-- a mark is neither a plain letter nor a backslash
abbrev IsMark : ℕ → Type 0
IsMark x = (is_plain x ≡ false) × ((x == 92) ≡ false)

no_letter : (at x : ℕ) (s : List ℕ) → IsMark x → letter_in at (x ∷ s) ≡ None
no_letter at x [] mark = ap (λ b. if b then Some (record { letter = x; after = at + 1 }) else None) mark.0
no_letter at x (y ∷ s) mark =
    ap (λ b. if b then Some (record { letter = x; after = at + 1 }) else (if x == 92 && is_escaped y then Some (record { letter = y; after = at + 2 }) else None)) mark.0
    ∙ ap (λ b. if b && is_escaped y then Some (record { letter = y; after = at + 2 }) else None) mark.1

no_width : (x : ℕ) (s : List ℕ) → IsMark x → letter_width (x ∷ s) ≡ None
no_width x s mark = ap (λ o. option_map (λ (l : LetterAt). l.after) o) (no_letter 0 x s mark)

at_mark : (x : ℕ) (s : List ℕ) → IsMark x → token_at Expression (x ∷ s) ≡ expression_token x s
at_mark x s mark = ap (λ o. option_map_or (λ width. Found Letter width) o (expression_token x s)) (no_width x s mark)

at_line_mark : (x : ℕ) (s : List ℕ) → IsMark x → token_at Line (x ∷ s) ≡ line_token x s
at_line_mark x s mark = ap (λ o. option_map_or (λ width. Found Run (front letter_width (x ∷ s))) o (line_token x s)) (no_width x s mark)

-- a backslash before a plain letter is no letter
no_escape : (x : ℕ) (s : List ℕ) → is_escaped x ≡ false → letter_width (92 ∷ x ∷ s) ≡ None
no_escape x s plain =
    ap (λ b. option_map (λ (l : LetterAt). l.after) (if b then Some (record { letter = 92; after = 0 + 1 }) else (if is_escaped x then Some (record { letter = x; after = 0 + 2 }) else None))) slash_is_not_plain
    ∙ ap (λ b. option_map (λ (l : LetterAt). l.after) (if b then Some (record { letter = x; after = 0 + 2 }) else None)) plain

e_is_plain : is_escaped 101 ≡ false
unfolding is_escaped is_plain
e_is_plain = refl

z_is_plain : is_escaped 122 ≡ false
unfolding is_escaped is_plain
z_is_plain = refl

marks : IsMark 42 × IsMark 38 × IsMark 58 × IsMark 43 × IsMark 40 × IsMark 41
unfolding is_plain
marks = ((refl, refl), (refl, refl), (refl, refl), (refl, refl), (refl, refl), (refl, refl))

line_marks : IsMark 44 × IsMark 36 × IsMark 61 × IsMark 34 × IsMark 45 × IsMark 35 × IsMark 47
unfolding is_plain
line_marks = ((refl, refl), (refl, refl), (refl, refl), (refl, refl), (refl, refl), (refl, refl), (refl, refl))

common_marks : IsMark 124 × IsMark 39 × IsMark 91 × IsMark 60 × IsMark 93
unfolding is_plain
common_marks = ((refl, refl), (refl, refl), (refl, refl), (refl, refl), (refl, refl))

-- the token of this text is found, whatever stands behind it
abbrev IsFound : Mode → TokenKind → List ℕ → List ℕ → Type 0
IsFound mode kind text back = token_at mode (text ++ back) ≡ Found kind (length text)

by_text : (mode : Mode) (kind : TokenKind) (text same back : List ℕ) → text ≡ same → IsFound mode kind same back → IsFound mode kind text back
by_text mode kind text same back e found = subst (λ (t : List ℕ). IsFound mode kind t back) (sym e) found

-- a mark begins a common token in both modes, where neither mode has it
mark_found : (mode : Mode) (x : ℕ) (s : List ℕ) → IsMark x → expression_token x s ≡ common_token x s → line_token x s ≡ common_token x s → token_at mode (x ∷ s) ≡ common_token x s
mark_found Expression x s mark e f = at_mark x s mark ∙ e
mark_found Line x s mark e f = at_line_mark x s mark ∙ f

one_found : (mode : Mode) (back : List ℕ) → token_at mode (92 ∷ 101 ∷ back) ≡ Found One 2
one_found Expression back = ap (λ o. option_map_or (λ width. Found Letter width) o (expression_token 92 (101 ∷ back))) (no_escape 101 back e_is_plain)
one_found Line back = ap (λ o. option_map_or (λ width. Found Run (front letter_width (92 ∷ 101 ∷ back))) o (line_token 92 (101 ∷ back))) (no_escape 101 back e_is_plain)

zero_found : (back : List ℕ) → token_at Expression (92 ∷ 122 ∷ back) ≡ Found Zero 2
zero_found back = ap (λ o. option_map_or (λ width. Found Letter width) o (expression_token 92 (122 ∷ back))) (no_escape 122 back z_is_plain)

-- a body with its closing byte behind it
closed_found : (kind : TokenKind) (first last : ℕ) (inside back : List ℕ) (body : Option ℕ) → body ≡ Some (length inside) → (last == last) ≡ true
    → enclosed kind body last (inside ++ last ∷ back) ≡ Found kind (length (first ∷ (inside ++ last ∷ [])))
closed_found kind first last inside back body e same =
    let count : length inside + 2 ≡ length (first ∷ (inside ++ last ∷ [])) = omega (arith, length-append inside (last ∷ [])) in
    ap (λ o. option_map_or (λ n. if begins_with last (drop n (inside ++ last ∷ back)) then Found kind (n + 2) else Bad) o Bad) e
    ∙ ap (λ t. if begins_with last t then Found kind (length inside + 2) else Bad) (drop-append_seam inside (last ∷ back))
    ∙ ap (λ b. if b then Found kind (length inside + 2) else Bad) same
    ∙ ap (Found kind) count

between_text : (first last : ℕ) (inside back : List ℕ) → (first ∷ (inside ++ last ∷ [])) ++ back ≡ first ∷ (inside ++ last ∷ back)
between_text first last inside back = ap (λ t. first ∷ t) (append_assoc inside (last ∷ []) back)

between_found : (mode : Mode) (kind : TokenKind) (first last : ℕ) (P : List ℕ → Type 0) (body : List ℕ → Option ℕ) (text back : List ℕ) → Between first P last text
    → ((inside : List ℕ) → P inside → body (inside ++ last ∷ back) ≡ Some (length inside)) → (last == last) ≡ true
    → ((s : List ℕ) → token_at mode (first ∷ s) ≡ enclosed kind (body s) last s) → IsFound mode kind text back
between_found mode kind first last P body text back (inside, e, is) reads same starts =
    by_text mode kind text (first ∷ (inside ++ last ∷ [])) back e
    (ap (token_at mode) (between_text first last inside back) ∙ starts (inside ++ last ∷ back)
    ∙ closed_found kind first last inside back (body (inside ++ last ∷ back)) (reads inside is) same)

quoted_found : (mode : Mode) (text back : List ℕ) → Between 39 (Several IsLetter) 39 text → IsFound mode Quoted text back
quoted_found mode text back between =
    between_found mode Quoted 39 39 (Several IsLetter) (λ s. Some (front letter_width s)) text back between
    (λ inside is. ap Some (several_read letters_fit letters_shrink inside (39 ∷ back) is tt (no_width 39 back common_marks.1))) refl
    (λ s. mark_found mode 39 s common_marks.1 refl refl)

no_item : (back : List ℕ) → item_width (93 ∷ back) ≡ None
no_item back = ap (λ o. option_and_then (λ (first : LetterAt). item_behind first (drop first.after (93 ∷ back))) o) (no_letter 0 93 back common_marks.4)

class_found : (mode : Mode) (text back : List ℕ) → Between 91 IsClassBody 93 text → IsFound mode Class text back
class_found mode text back between =
    between_found mode Class 91 93 IsClassBody class_body text back between
    (λ inside is. class_read inside (93 ∷ back) is refl (no_item back)) refl
    (λ s. mark_found mode 91 s common_marks.2 refl refl)

weight_found : (mode : Mode) (text back : List ℕ) → Between 60 IsWeightBody 62 text → IsFound mode Weight text back
weight_found mode text back between =
    between_found mode Weight 60 62 IsWeightBody (λ s. positive (prefix_len is_weight_byte s)) text back between
    (λ inside is. positive_some inside (prefix_len is_weight_byte (inside ++ 62 ∷ back)) (weight_read inside (62 ∷ back) is.0 refl) is.1) refl
    (λ s. mark_found mode 60 s common_marks.3 refl refl)

no_part : (back : List ℕ) → name_width (34 ∷ back) ≡ None
no_part [] = refl
no_part (y ∷ back) = refl

name_found : (text back : List ℕ) → Between 34 (Several IsNamePart) 34 text → IsFound Line Name text back
name_found text back between =
    between_found Line Name 34 34 (Several IsNamePart) (λ s. Some (front name_width s)) text back between
    (λ inside is. ap Some (several_read names_fit names_shrink inside (34 ∷ back) is tt (no_part back))) refl
    (λ s. at_line_mark 34 s line_marks.3)

-- a letter, in expressions
letter_at_front : (s : List ℕ) (w : ℕ) → letter_width s ≡ Some w → token_at Expression s ≡ Found Letter w
letter_at_front [] w e = absurd (cc)
letter_at_front (x ∷ s) w e = ap (λ o. option_map_or (λ width. Found Letter width) o (expression_token x s)) e

-- a run, in lines
run_at_front : (s : List ℕ) (w : ℕ) → letter_width s ≡ Some w → token_at Line s ≡ Found Run (front letter_width s)
run_at_front [] w e = absurd (cc)
run_at_front (x ∷ s) w e = ap (λ o. option_map_or (λ width. Found Run (front letter_width (x ∷ s))) o (line_token x s)) e

first_letter : (pieces : List (List ℕ)) (back : List ℕ) → Each IsLetter pieces → joined pieces ≢ [] → (w : ℕ) × (letter_width (joined pieces ++ back) ≡ Some w)
first_letter [] back each some = absurd (some refl)
first_letter (a ∷ pieces) back each some = (length a, ap letter_width (append_assoc a (joined pieces) back) ∙ letter_begins a (joined pieces ++ back) each.0)

-- where letters begin, a run begins
run_begins : (text back : List ℕ) → Several IsLetter text × (text ≢ []) → token_at Line (text ++ back) ≡ Found Run (front letter_width (text ++ back))
run_begins text back is =
    let same : text ≡ joined is.0.0 = is.0.1 in
    let first = first_letter is.0.0 back is.0.2 (λ e. is.1 (same ∙ e)) in
    run_at_front (text ++ back) first.0 (ap (λ t. letter_width (t ++ back)) same ∙ first.1)

-- where no letter begins, none is read
unread : (back : List ℕ) → EndsBefore Run back → (o : Option ℕ) → letter_width back ≡ o → o ≡ None
unread back ends None e = refl
unread back ends (Some w) e = absurd (ends (take w back) (drop w back) (sym (take-append-drop w back)) (reads_letter back w e))

run_found : (text back : List ℕ) → Several IsLetter text × (text ≢ []) → EndsBefore Run back → IsFound Line Run text back
run_found text back is ends =
    run_begins text back is ∙ ap (Found Run) (several_read letters_fit letters_shrink text back is.0 tt (unread back ends (letter_width back) refl))

-- each token of the grammar is found
pub found : (kind : TokenKind) (mode : Mode) (text back : List ℕ) → IsTokenText kind mode text → EndsBefore kind back → IsFound mode kind text back
found Zero Expression text back is ends = by_text Expression Zero text (92 ∷ 122 ∷ []) back is (zero_found back)
found Zero Line text back is ends = absurd is
found One mode text back is ends = by_text mode One text (92 ∷ 101 ∷ []) back is (one_found mode back)
found Letter Expression text back is ends = letter_at_front (text ++ back) (length text) (letter_begins text back is)
found Letter Line text back is ends = absurd is
found Run Line text back is ends = run_found text back is ends
found Run Expression text back is ends = absurd is
found Quoted mode text back is ends = quoted_found mode text back is
found Class mode text back is ends = class_found mode text back is
found Weight mode text back is ends = weight_found mode text back is
found Star Expression text back is ends = by_text Expression Star text (42 ∷ []) back is (at_mark 42 back marks.0)
found Star Line text back is ends = absurd is
found And Expression text back is ends = by_text Expression And text (38 ∷ []) back is (at_mark 38 back marks.1)
found And Line text back is ends = absurd is
found Shuffle Expression text back is ends = by_text Expression Shuffle text (58 ∷ []) back is (at_mark 58 back marks.2)
found Shuffle Line text back is ends = absurd is
found Plus Expression text back is ends = by_text Expression Plus text (43 ∷ []) back is (at_mark 43 back marks.3)
found Plus Line text back is ends = absurd is
found Left Expression text back is ends = by_text Expression Left text (40 ∷ []) back is (at_mark 40 back marks.4)
found Left Line text back is ends = absurd is
found Right Expression text back is ends = by_text Expression Right text (41 ∷ []) back is (at_mark 41 back marks.5)
found Right Line text back is ends = absurd is
found Bar mode text back is ends = by_text mode Bar text (124 ∷ []) back is (mark_found mode 124 back common_marks.0 refl refl)
found Arrow Line text back is ends = by_text Line Arrow text (45 ∷ 62 ∷ []) back is (at_line_mark 45 (62 ∷ back) line_marks.4)
found Arrow Expression text back is ends = absurd is
found Comma Line text back is ends = by_text Line Comma text (44 ∷ []) back is (at_line_mark 44 back line_marks.0)
found Comma Expression text back is ends = absurd is
found Dollar Line text back is ends = by_text Line Dollar text (36 ∷ []) back is (at_line_mark 36 back line_marks.1)
found Dollar Expression text back is ends = absurd is
found Equals Line text back is ends = by_text Line Equals text (61 ∷ []) back is (at_line_mark 61 back line_marks.2)
found Equals Expression text back is ends = absurd is
found Name Line text back is ends = name_found text back is
found Name Expression text back is ends = absurd is

-- where the scanner answers that none begins, none does
differs : (kind : TokenKind) (w : ℕ) (scan : Scan) → scan ≡ Found kind w → scan ≡ Bad → ⊥
differs kind w scan e f = cc

pub none_begins : (kind : TokenKind) (mode : Mode) (text back : List ℕ) → token_at mode (text ++ back) ≡ Bad → IsTokenText kind mode text → ⊥
none_begins Run Line text back bad is = differs Run _ _ (run_begins text back is) bad
none_begins Run Expression text back bad is = is
none_begins kind mode text back bad is = differs kind _ _ (found kind mode text back is tt) bad

-- the end is found where nothing stands, and where a comment begins
pub end_found : (mode : Mode) (text : List ℕ) → (text ≡ []) ⊎ IsComment mode text → token_at mode text ≡ End
end_found mode text (inl e) = ap (token_at mode) e
end_found Expression text (inr is) = absurd is
end_found Line text (inr (rest, inl e)) = ap (token_at Line) e ∙ at_line_mark 35 rest line_marks.5
end_found Line text (inr (rest, inr e)) = ap (token_at Line) e ∙ at_line_mark 47 (47 ∷ rest) line_marks.6
