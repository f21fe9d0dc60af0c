-- Trees of tokens: what a text of an expression says, with every token at its place.
use Rattle.std.specs.Prelude.{List, [], ◌∷◌, ◌++◌}
use Rattle.vc_lex.specs.Marks.{Mark}

-- a bar, and the part of a label behind it
pub record Barred : Type 0 where
  pub bar : Mark
  pub part : Mark

pub data Tree : Type 0 where
  zero_tree : Mark → Tree  -- `\z`
  label : Mark → List Barred → Tree  -- a part, and further ones with bars between them
  class : Mark → Tree
  group : Mark → Tree → Mark → Tree  -- in parentheses
  star : Tree → Mark → Tree
  weight_behind : Tree → Mark → Tree  -- an operand, and its weight
  weight_before : Mark → Tree → Tree  -- a weight, and its operand
  times : Tree → Tree → Tree
  both : Tree → Mark → Tree → Tree  -- two operands of `&`
  shuffle : Tree → Mark → Tree → Tree  -- two operands of `:`
  plus : Tree → Mark → Tree → Tree  -- two operands of `+`

abbrev pub barred_tokens : List Barred → List Mark
barred_tokens [] = []
barred_tokens (b ∷ bs) = b.bar ∷ b.part ∷ barred_tokens bs

-- the tokens of a tree, from left to right
abbrev pub tokens_of : Tree → List Mark
tokens_of (zero_tree m) = m ∷ []
tokens_of (label m bs) = m ∷ barred_tokens bs
tokens_of (class m) = m ∷ []
tokens_of (group opening t closing) = opening ∷ (tokens_of t ++ closing ∷ [])
tokens_of (star t m) = tokens_of t ++ m ∷ []
tokens_of (weight_behind t m) = tokens_of t ++ m ∷ []
tokens_of (weight_before m t) = m ∷ tokens_of t
tokens_of (times t u) = tokens_of t ++ tokens_of u
tokens_of (both t m u) = tokens_of t ++ m ∷ tokens_of u
tokens_of (shuffle t m u) = tokens_of t ++ m ∷ tokens_of u
tokens_of (plus t m u) = tokens_of t ++ m ∷ tokens_of u
