-- What holds of each answer of the scanner where it is chosen.
use Rattle.std.proofs.Common.{◌≡◌, ℕ, ◌&&◌, Bool, true, false, List, Some, refl}
use Rattle.std.specs.Prelude.{if◌then◌else◌, ◌==◌}
use Rattle.std.specs.List.{prefix_len}
use Rattle.vc_lex.specs.Fronts.{front}
use Rattle.vc_lex.specs.Grammar.{is_weight_byte}
use Rattle.vc_lex.specs.Scans.{begins_with, letter_width, name_width, positive, class_body, enclosed, common_token, expression_token, line_token}
use Rattle.vc_lex.specs.declared.token.TokenKind.TheVariants.{Zero, One, Quoted, Class, Weight, Star, And, Shuffle, Plus, Left, Right, Bar, Arrow, Comma, Dollar, Equals, Name}
use Rattle.vc_lex.specs.declared.scan.Scan.{Scan}
use Rattle.vc_lex.specs.declared.scan.Scan.TheVariants.{End, Bad, Found}

chosen_by : (P : Scan → Type 0) (b c : Bool) (x y : Scan) → b ≡ c → (b ≡ true → P x) → (b ≡ false → P y) → P (if c then x else y)
chosen_by P b true x y e p q = p e
chosen_by P b false x y e p q = q e

-- a choice has what both sides have where they are chosen
pub chosen : (P : Scan → Type 0) (b : Bool) (x y : Scan) → (b ≡ true → P x) → (b ≡ false → P y) → P (if b then x else y)
chosen P b x y p q = chosen_by P b b x y refl p q

-- the answers at a token that both modes have
pub record OfCommon (P : Scan → Type 0) (x : ℕ) (s : List ℕ) : Type 0 where
  pub bar : (x == 124) ≡ true → P (Found Bar 1)
  pub quoted : (x == 39) ≡ true → P (enclosed Quoted (Some (front letter_width s)) 39 s)
  pub class : (x == 91) ≡ true → P (enclosed Class (class_body s) 93 s)
  pub weight : (x == 60) ≡ true → P (enclosed Weight (positive (prefix_len is_weight_byte s)) 62 s)
  pub one : (x == 92 && begins_with 101 s) ≡ true → P (Found One 2)
  pub bad : P Bad

pub at_common : (P : Scan → Type 0) (x : ℕ) (s : List ℕ) → OfCommon P x s → P (common_token x s)
at_common P x s each =
    let y5 : Scan = if x == 92 && begins_with 101 s then Found One 2 else Bad in
    let y4 : Scan = if x == 60 then enclosed Weight (positive (prefix_len is_weight_byte s)) 62 s else y5 in
    let y3 : Scan = if x == 91 then enclosed Class (class_body s) 93 s else y4 in
    let y2 : Scan = if x == 39 then enclosed Quoted (Some (front letter_width s)) 39 s else y3 in
    chosen P (x == 124) (Found Bar 1) y2 each.bar (λ _.
    chosen P (x == 39) (enclosed Quoted (Some (front letter_width s)) 39 s) y3 each.quoted (λ _.
    chosen P (x == 91) (enclosed Class (class_body s) 93 s) y4 each.class (λ _.
    chosen P (x == 60) (enclosed Weight (positive (prefix_len is_weight_byte s)) 62 s) y5 each.weight (λ _.
    chosen P (x == 92 && begins_with 101 s) (Found One 2) Bad each.one (λ _. each.bad)))))

-- the answers at a token of expressions that is no letter
pub record OfExpression (P : Scan → Type 0) (x : ℕ) (s : List ℕ) : Type 0 where
  pub star : (x == 42) ≡ true → P (Found Star 1)
  pub both : (x == 38) ≡ true → P (Found And 1)
  pub shuffle : (x == 58) ≡ true → P (Found Shuffle 1)
  pub plus : (x == 43) ≡ true → P (Found Plus 1)
  pub left : (x == 40) ≡ true → P (Found Left 1)
  pub right : (x == 41) ≡ true → P (Found Right 1)
  pub zero : (x == 92 && begins_with 122 s) ≡ true → P (Found Zero 2)
  pub common : P (common_token x s)

pub at_expression : (P : Scan → Type 0) (x : ℕ) (s : List ℕ) → OfExpression P x s → P (expression_token x s)
at_expression P x s each =
    let y7 : Scan = if x == 92 && begins_with 122 s then Found Zero 2 else common_token x s in
    let y6 : Scan = if x == 41 then Found Right 1 else y7 in
    let y5 : Scan = if x == 40 then Found Left 1 else y6 in
    let y4 : Scan = if x == 43 then Found Plus 1 else y5 in
    let y3 : Scan = if x == 58 then Found Shuffle 1 else y4 in
    let y2 : Scan = if x == 38 then Found And 1 else y3 in
    chosen P (x == 42) (Found Star 1) y2 each.star (λ _.
    chosen P (x == 38) (Found And 1) y3 each.both (λ _.
    chosen P (x == 58) (Found Shuffle 1) y4 each.shuffle (λ _.
    chosen P (x == 43) (Found Plus 1) y5 each.plus (λ _.
    chosen P (x == 40) (Found Left 1) y6 each.left (λ _.
    chosen P (x == 41) (Found Right 1) y7 each.right (λ _.
    chosen P (x == 92 && begins_with 122 s) (Found Zero 2) (common_token x s) each.zero (λ _. each.common)))))))

-- the answers at a token of lines that is no run, and at a comment
pub record OfLine (P : Scan → Type 0) (x : ℕ) (s : List ℕ) : Type 0 where
  pub comma : (x == 44) ≡ true → P (Found Comma 1)
  pub dollar : (x == 36) ≡ true → P (Found Dollar 1)
  pub equals : (x == 61) ≡ true → P (Found Equals 1)
  pub name : (x == 34) ≡ true → P (enclosed Name (Some (front name_width s)) 34 s)
  pub arrow : (x == 45 && begins_with 62 s) ≡ true → P (Found Arrow 2)
  pub comment : (x == 35) ≡ true → P End
  pub slashes : (x == 47 && begins_with 47 s) ≡ true → P End
  pub common : P (common_token x s)

pub at_line : (P : Scan → Type 0) (x : ℕ) (s : List ℕ) → OfLine P x s → P (line_token x s)
at_line P x s each =
    let y7 : Scan = if x == 47 && begins_with 47 s then End else common_token x s in
    let y6 : Scan = if x == 35 then End else y7 in
    let y5 : Scan = if x == 45 && begins_with 62 s then Found Arrow 2 else y6 in
    let y4 : Scan = if x == 34 then enclosed Name (Some (front name_width s)) 34 s else y5 in
    let y3 : Scan = if x == 61 then Found Equals 1 else y4 in
    let y2 : Scan = if x == 36 then Found Dollar 1 else y3 in
    chosen P (x == 44) (Found Comma 1) y2 each.comma (λ _.
    chosen P (x == 36) (Found Dollar 1) y3 each.dollar (λ _.
    chosen P (x == 61) (Found Equals 1) y4 each.equals (λ _.
    chosen P (x == 34) (enclosed Name (Some (front name_width s)) 34 s) y5 each.name (λ _.
    chosen P (x == 45 && begins_with 62 s) (Found Arrow 2) y6 each.arrow (λ _.
    chosen P (x == 35) End y7 each.comment (λ _.
    chosen P (x == 47 && begins_with 47 s) End (common_token x s) each.slashes (λ _. each.common)))))))
