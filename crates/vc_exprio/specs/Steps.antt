-- How an expression is made from its tree: the parts before the whole, and from the left to the right.
use Rattle.std.specs.Prelude.{ℕ, ◌+◌, List, [], ◌∷◌, ◌++◌, map, if◌then◌else◌}
use Rattle.vc_lex.specs.Marks.{Mark}
use Rattle.vc_exprio.specs.Trees.{Tree, zero_tree, label, class, group, star, weight_behind, weight_before, times, both, shuffle, plus}
use Rattle.vc_exprio.specs.Meaning.{is_times, is_plus}

-- one step: a part of its own, or what is made of the last parts
pub data Op : Type 0 where
  zero_op : Op
  part_op : Mark → Op  -- a label with this part
  more_op : Mark → Op  -- and one more part of the label
  class_op : Mark → Op
  group_op : Op
  star_op : Op
  weight_op : Mark → Op
  product_op : ℕ → Op  -- the product of so many
  and_op : Op
  shuffle_op : Op
  sum_op : ℕ → Op

-- how many factors or members a tree brings into a product or a sum to which it is the left side
abbrev pub factor_count : Tree → ℕ
factor_count (times t u) = factor_count t + 1
factor_count t = 1

abbrev pub member_count : Tree → ℕ
member_count (plus t m u) = member_count t + 1
member_count t = 1

-- the last step
abbrev pub last_of : Tree → List Op
last_of (zero_tree m) = zero_op ∷ []
last_of (label m bs) = []
last_of (class m) = class_op m ∷ []
last_of (group opening t closing) = group_op ∷ []
last_of (star t m) = star_op ∷ []
last_of (weight_behind t m) = weight_op m ∷ []
last_of (weight_before m t) = weight_op m ∷ []
last_of (times t u) = product_op (factor_count (times t u)) ∷ []
last_of (both t m u) = and_op ∷ []
last_of (shuffle t m u) = shuffle_op ∷ []
last_of (plus t m u) = sum_op (member_count (plus t m u)) ∷ []

-- the steps before the last one: those of the parts
abbrev pub open_of : Tree → List Op
open_of (zero_tree m) = []
open_of (label m bs) = part_op m ∷ map (λ b. more_op b.part) bs
open_of (class m) = []
open_of (group opening t closing) = open_of t ++ last_of t
open_of (star t m) = open_of t ++ last_of t
open_of (weight_behind t m) = open_of t ++ last_of t
open_of (weight_before m t) = open_of t ++ last_of t
open_of (times t u) = (if is_times t then open_of t else open_of t ++ last_of t) ++ (open_of u ++ last_of u)
open_of (both t m u) = (open_of t ++ last_of t) ++ (open_of u ++ last_of u)
open_of (shuffle t m u) = (open_of t ++ last_of t) ++ (open_of u ++ last_of u)
open_of (plus t m u) = (if is_plus t then open_of t else open_of t ++ last_of t) ++ (open_of u ++ last_of u)

-- the steps of a tree
abbrev pub steps_of : Tree → List Op
steps_of t = open_of t ++ last_of t

-- the steps of the factors, or the members, that a tree brings
abbrev pub factor_steps : Tree → List Op
factor_steps t = if is_times t then open_of t else steps_of t

abbrev pub member_steps : Tree → List Op
member_steps t = if is_plus t then open_of t else steps_of t
