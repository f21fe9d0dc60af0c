-- The one canonical text of each expression, by its tokens.
use Rattle.std.specs.Prelude.{ℕ, Bool, true, false, List, [], ◌∷◌, ◌++◌, codes, if◌then◌else◌}
use Rattle.std.specs.List.{flat_map}
use Rattle.vc_label.specs.Sets.{IsOverSets}
use Rattle.vc_label.specs.declared.tape_set.TapeSet.{TapeSet}
use Rattle.vc_text.specs.Letters.{letter_text}
use Rattle.vc_lex.specs.declared.token.TokenKind.{TokenKind}
use Rattle.vc_lex.specs.declared.token.TokenKind.TheVariants as kinds
use Rattle.vc_terms.specs.Forms.{HasRootLabel}
use Rattle.vc_terms.specs.Terms.{Term, Terms, Zero, One, Atom, Sum, Product, Star, Weight, Both, Shuffle, NoTerms, MoreTerms}
use Rattle.vc_model.specs.Words.{Word, Tape}

-- a token without its place
pub record Piece : Type 0 where
  pub kind : TokenKind
  pub text : List ℕ

-- a part of a label: `\e` where it is empty, a letter where it is one, else its letters in single quotes
abbrev pub part_piece : Tape → Piece
part_piece [] = record { kind = kinds.One; text = codes "\\e" }
part_piece (x ∷ []) = record { kind = kinds.Letter; text = letter_text x }
part_piece (x ∷ y ∷ a) = record { kind = kinds.Quoted; text = codes "'" ++ (flat_map letter_text (x ∷ y ∷ a) ++ codes "'") }

-- further parts with bars before them
abbrev pub bar_pieces : Word → List Piece
bar_pieces [] = []
bar_pieces (a ∷ w) = record { kind = kinds.Bar; text = codes "|" } ∷ part_piece a ∷ bar_pieces w

abbrev pub label_pieces : Word → List Piece
label_pieces [] = []
label_pieces (a ∷ w) = part_piece a ∷ bar_pieces w

-- of what an expression is an operand
pub data Place : Type 0 where
  of_star : Place
  of_weight : Place
  of_product : Place
  left_of_and : Place
  right_of_and : Place
  left_of_shuffle : Place
  right_of_shuffle : Place

-- where an operand has parentheses
abbrev pub has_parentheses : {V : Type 0} → Place → Term V → Bool
-- of a star: anything but zero, one, an atom or a star
has_parentheses of_star Zero = false
has_parentheses of_star One = false
has_parentheses of_star (Atom a) = false
has_parentheses of_star (Star t) = false
has_parentheses of_star t = true
-- of a weight: a sum, a product, `&` or `:`
has_parentheses of_weight (Sum ts) = true
has_parentheses of_weight (Product ts) = true
has_parentheses of_weight (Both t u) = true
has_parentheses of_weight (Shuffle t u) = true
has_parentheses of_weight t = false
-- of a product: a sum, `&` or `:`
has_parentheses of_product (Sum ts) = true
has_parentheses of_product (Both t u) = true
has_parentheses of_product (Shuffle t u) = true
has_parentheses of_product t = false
-- of `&`: a sum or `:`; on the right also `&`
has_parentheses left_of_and (Sum ts) = true
has_parentheses left_of_and (Shuffle t u) = true
has_parentheses left_of_and t = false
has_parentheses right_of_and (Sum ts) = true
has_parentheses right_of_and (Both t u) = true
has_parentheses right_of_and (Shuffle t u) = true
has_parentheses right_of_and t = false
-- of `:`: a sum; on the right also `:`
has_parentheses left_of_shuffle (Sum ts) = true
has_parentheses left_of_shuffle t = false
has_parentheses right_of_shuffle (Sum ts) = true
has_parentheses right_of_shuffle (Shuffle t u) = true
has_parentheses right_of_shuffle t = false

abbrev pub in_parentheses : List Piece → List Piece
in_parentheses ps = record { kind = kinds.Left; text = codes "(" } ∷ (ps ++ record { kind = kinds.Right; text = codes ")" } ∷ [])

-- an operand with these tokens at its place
abbrev pub operand : {V : Type 0} → Place → Term V → List Piece → List Piece
operand place t ps = if has_parentheses place t then in_parentheses ps else ps

module _ {V : Type 0} (canonical : V → List ℕ) where
  abbrev pub weight_piece : V → Piece
  weight_piece k = record { kind = kinds.Weight; text = codes "<" ++ (canonical k ++ codes ">") }

  abbrev mutual
    -- the tokens of the canonical text
    pub pieces_of : Term V → List Piece
    pieces_of Zero = record { kind = kinds.Zero; text = codes "\\z" } ∷ []
    pieces_of One = record { kind = kinds.One; text = codes "\\e" } ∷ []
    pieces_of (Atom a) = label_pieces a
    pieces_of (Sum ts) = sum_pieces ts
    pieces_of (Product ts) = product_pieces ts
    pieces_of (Star t) = operand of_star t (pieces_of t) ++ record { kind = kinds.Star; text = codes "*" } ∷ []
    pieces_of (Weight k t) = weight_piece k ∷ operand of_weight t (pieces_of t)
    pieces_of (Both t u) = operand left_of_and t (pieces_of t) ++ record { kind = kinds.And; text = codes "&" } ∷ operand right_of_and u (pieces_of u)
    pieces_of (Shuffle t u) = operand left_of_shuffle t (pieces_of t) ++ record { kind = kinds.Shuffle; text = codes ":" } ∷ operand right_of_shuffle u (pieces_of u)

    -- members with `+` between them
    pub sum_pieces : Terms V → List Piece
    sum_pieces NoTerms = []
    sum_pieces (MoreTerms t ts) = pieces_of t ++ more_pieces ts

    pub more_pieces : Terms V → List Piece
    more_pieces NoTerms = []
    more_pieces (MoreTerms t ts) = record { kind = kinds.Plus; text = codes "+" } ∷ (pieces_of t ++ more_pieces ts)

    -- factors one behind the other
    pub product_pieces : Terms V → List Piece
    product_pieces NoTerms = []
    product_pieces (MoreTerms t ts) = operand of_product t (pieces_of t) ++ product_pieces ts

  -- the canonical text: these tokens with no blanks
  abbrev pub expression_text : Term V → List ℕ
  expression_text t = flat_map (λ p. p.text) (pieces_of t)

-- a label at the root is over the sets
abbrev pub IsRootOver : {V : Type 0} → List TapeSet → Term V → Type 0
IsRootOver sets t = HasRootLabel (IsOverSets sets) t
