-- The grammar of expressions, over their tokens.
use Rattle.std.specs.Prelude.{◌≡◌, Bool, true, false, List, [], ◌∷◌, ⊤}
use Rattle.vc_lex.specs.declared.token.TokenKind.{TokenKind}
use Rattle.vc_lex.specs.declared.token.TokenKind.TheVariants.{Zero, One, Letter, Quoted, Class, Weight, Star, And, Shuffle, Plus, Left, Right, Bar}
use Rattle.vc_lex.specs.Marks.{Mark}
use Rattle.vc_exprio.specs.Trees.{Tree, Barred, zero_tree, label, class, group, star, weight_behind, weight_before, times, both, shuffle, plus, tokens_of}

-- The forms, from the tightest to the loosest, by what stands at the root: each form has the one before it too.
abbrev pub is_atom : Tree → Bool
is_atom (zero_tree m) = true
is_atom (label m bs) = true
is_atom (class m) = true
is_atom (group opening t closing) = true
is_atom t = false

abbrev pub is_postfixed : Tree → Bool
is_postfixed (star t m) = true
is_postfixed (weight_behind t m) = true
is_postfixed t = is_atom t

abbrev pub is_prefixed : Tree → Bool
is_prefixed (weight_before m t) = true
is_prefixed t = is_postfixed t

abbrev pub is_product : Tree → Bool
is_product (times t u) = true
is_product t = is_prefixed t

abbrev pub is_conjunction : Tree → Bool
is_conjunction (both t m u) = true
is_conjunction t = is_product t

abbrev pub is_shuffle : Tree → Bool
is_shuffle (shuffle t m u) = true
is_shuffle t = is_conjunction t

abbrev pub is_sum : Tree → Bool
is_sum (plus t m u) = true
is_sum t = is_shuffle t

-- a part of a label
abbrev pub is_part_kind : TokenKind → Bool
is_part_kind Letter = true
is_part_kind Quoted = true
is_part_kind One = true
is_part_kind kind = false

abbrev pub IsPart : Mark → Type 0
IsPart m = is_part_kind m.kind ≡ true

-- parts with bars before them
abbrev pub AreBarred : List Barred → Type 0
AreBarred [] = ⊤
AreBarred (b ∷ bs) = (b.bar.kind ≡ Bar) × IsPart b.part × AreBarred bs

module _ (is_weight : Mark → Bool) where
  -- a weight of the weight set
  abbrev pub IsWeight : Mark → Type 0
  IsWeight m = (m.kind ≡ Weight) × (is_weight m ≡ true)

  -- the tree is one of the grammar
  abbrev pub InGrammar : Tree → Type 0
  -- an atom is `\z`, a label, a class, or a sum in parentheses
  InGrammar (zero_tree m) = m.kind ≡ Zero
  InGrammar (label m bs) = IsPart m × AreBarred bs
  InGrammar (class m) = m.kind ≡ Class
  InGrammar (group opening t closing) = (opening.kind ≡ Left) × ((is_sum t ≡ true) × InGrammar t) × (closing.kind ≡ Right)
  -- postfixed: an atom, then any number of `*` and weights
  InGrammar (star t m) = ((is_postfixed t ≡ true) × InGrammar t) × (m.kind ≡ Star)
  InGrammar (weight_behind t m) = ((is_postfixed t ≡ true) × InGrammar t) × IsWeight m
  -- prefixed: a weight and then a prefixed, or a postfixed
  InGrammar (weight_before m t) = IsWeight m × ((is_prefixed t ≡ true) × InGrammar t)
  -- a product: one prefixed, then any number of postfixed
  InGrammar (times t u) = ((is_product t ≡ true) × InGrammar t) × ((is_postfixed u ≡ true) × InGrammar u)
  -- a conjunction: one or more products with `&` between them, grouped from the left
  InGrammar (both t m u) = ((is_conjunction t ≡ true) × InGrammar t) × (m.kind ≡ And) × ((is_product u ≡ true) × InGrammar u)
  -- a shuffle: one or more conjunctions with `:` between them, grouped from the left
  InGrammar (shuffle t m u) = ((is_shuffle t ≡ true) × InGrammar t) × (m.kind ≡ Shuffle) × ((is_conjunction u ≡ true) × InGrammar u)
  -- a sum: one or more shuffles with `+` between them
  InGrammar (plus t m u) = ((is_sum t ≡ true) × InGrammar t) × (m.kind ≡ Plus) × ((is_shuffle u ≡ true) × InGrammar u)

  -- a tree of the grammar in a form
  abbrev pub HasForm : (Tree → Bool) → Tree → Type 0
  HasForm is_form t = (is_form t ≡ true) × InGrammar t

  -- an expression is a sum
  pub record SpellsTree (ms : List Mark) (t : Tree) : Type 0 where
    pub tokens : tokens_of t ≡ ms
    pub grammar : InGrammar t
