-- What the scanner answers at a place, from the bytes from there on.
use Rattle.std.specs.Prelude.{◌≡◌, ◌⊎◌, ℕ, ◌+◌, Bool, false, ◌||◌, ◌&&◌, nat_le, ◌==◌, List, [], ◌∷◌, drop, Option, Some, None, if◌then◌else◌}
use Rattle.std.specs.Option.{option_map, option_map_or, option_and_then}
use Rattle.std.specs.List.{prefix_len}
use Rattle.vc_lex.specs.Fronts.{front}
use Rattle.vc_lex.specs.Grammar.{is_weight_byte, is_name_byte, BeginsToken, IsComment}
use Rattle.vc_lex.specs.declared.token.Mode.{Mode}
use Rattle.vc_lex.specs.declared.token.Mode.TheVariants.{Expression, Line}
use Rattle.vc_lex.specs.declared.token.TokenKind.{TokenKind}
use Rattle.vc_lex.specs.declared.token.TokenKind.TheVariants.{Zero, One, Letter, Run, Quoted, Class, Weight, Star, And, Shuffle, Plus, Left, Right, Bar, Arrow, Comma, Dollar, Equals, Name}
use Rattle.vc_lex.specs.declared.scan.Scan.{Scan}
use Rattle.vc_lex.specs.declared.scan.Scan.TheVariants.{End, Bad, Found}
use Rattle.vc_text.specs.Letters.{letter_in}
use Rattle.vc_text.specs.declared.letters.LetterAt.{LetterAt}

-- whether a text begins with this byte
abbrev pub begins_with : ℕ → List ℕ → Bool
begins_with c [] = false
begins_with c (x ∷ s) = x == c

-- how many bytes the letter has that begins a text
abbrev pub letter_width : List ℕ → Option ℕ
letter_width s = option_map (λ l. l.after) (letter_in 0 s)

-- the width of a range from a letter, where this text stands behind its `-`
abbrev pub range_width : LetterAt → List ℕ → Option ℕ
range_width first s = option_and_then (λ (last : LetterAt). if nat_le first.letter last.letter then Some last.after else None) (letter_in (first.after + 1) s)

-- the width of an item that begins with a letter, where this text stands behind the letter
abbrev pub item_behind : LetterAt → List ℕ → Option ℕ
item_behind first [] = Some first.after
item_behind first (x ∷ s) = if x == 45 then range_width first s else Some first.after

-- how many bytes the item has that begins a text
abbrev pub item_width : List ℕ → Option ℕ
item_width s = option_and_then (λ (first : LetterAt). item_behind first (drop first.after s)) (letter_in 0 s)

-- how many bytes the part of a name has that begins a text
abbrev pub name_width : List ℕ → Option ℕ
name_width [] = None
name_width (x ∷ []) = if is_name_byte x then Some 1 else None
name_width (x ∷ y ∷ s) = if is_name_byte x then Some 1 else (if x == 92 && (y == 34 || y == 92) then Some 2 else None)

-- a width, where it is not 0
abbrev pub positive : ℕ → Option ℕ
positive n = if n == 0 then None else Some n

-- how many bytes the body of a class has that begins a text
abbrev pub class_body : List ℕ → Option ℕ
class_body [] = None
class_body (x ∷ s) = if x == 94 then Some (1 + front item_width s) else positive (front item_width (x ∷ s))

-- the token of a body of this width, where the closing byte stands behind it; the text stands behind the opening byte
abbrev pub enclosed : TokenKind → Option ℕ → ℕ → List ℕ → Scan
enclosed kind body close s = option_map_or (λ n. if begins_with close (drop n s) then Found kind (n + 2) else Bad) body Bad

-- a token that both modes have
abbrev pub common_token : ℕ → List ℕ → Scan
common_token x s =
    if x == 124 then Found Bar 1
    else (if x == 39 then enclosed Quoted (Some (front letter_width s)) 39 s
    else (if x == 91 then enclosed Class (class_body s) 93 s
    else (if x == 60 then enclosed Weight (positive (prefix_len is_weight_byte s)) 62 s
    else (if x == 92 && begins_with 101 s then Found One 2
    else Bad))))

-- a token of expressions that is no letter
abbrev pub expression_token : ℕ → List ℕ → Scan
expression_token x s =
    if x == 42 then Found Star 1
    else (if x == 38 then Found And 1
    else (if x == 58 then Found Shuffle 1
    else (if x == 43 then Found Plus 1
    else (if x == 40 then Found Left 1
    else (if x == 41 then Found Right 1
    else (if x == 92 && begins_with 122 s then Found Zero 2
    else common_token x s))))))

-- a token of lines that is no run; a comment ends a line
abbrev pub line_token : ℕ → List ℕ → Scan
line_token x s =
    if x == 44 then Found Comma 1
    else (if x == 36 then Found Dollar 1
    else (if x == 61 then Found Equals 1
    else (if x == 34 then enclosed Name (Some (front name_width s)) 34 s
    else (if x == 45 && begins_with 62 s then Found Arrow 2
    else (if x == 35 then End
    else (if x == 47 && begins_with 47 s then End
    else common_token x s))))))

-- what begins a text that is not empty
abbrev pub token_from : Mode → ℕ → List ℕ → Scan
token_from Expression x s = option_map_or (λ width. Found Letter width) (letter_width (x ∷ s)) (expression_token x s)
token_from Line x s = option_map_or (λ width. Found Run (front letter_width (x ∷ s))) (letter_width (x ∷ s)) (line_token x s)

-- what begins a text: the end, a token of this kind and width, or neither
abbrev pub token_at : Mode → List ℕ → Scan
token_at mode [] = End
token_at mode (x ∷ s) = token_from mode x s

-- how many bytes the token has that was found, or 0
abbrev pub width_found : Scan → ℕ
width_found End = 0
width_found Bad = 0
width_found (Found kind width) = width

-- a token that was found begins the text by the grammar, and where the end was found there is nothing or a comment
abbrev pub Follows : Mode → List ℕ → Scan → Type 0
Follows mode s End = (s ≡ []) ⊎ IsComment mode s
Follows mode s Bad = Unit {0}
Follows mode s (Found kind width) = BeginsToken mode s kind width
