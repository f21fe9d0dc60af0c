-- How tokens are read, from left to right.
use Rattle.std.specs.Prelude.{Bool, ℕ, List, [], ◌∷◌, ◌++◌, Option, Some, None, if◌then◌else◌}
use Rattle.std.specs.Option.{option_and_then, option_map_or}
use Rattle.vc_lex.specs.declared.token.TokenKind.{TokenKind}
use Rattle.vc_lex.specs.declared.token.TokenKind.TheVariants.{Zero, One, Letter, Quoted, Class, Weight, Star, And, Shuffle, Plus, Left, Right, Bar}
use Rattle.vc_lex.specs.Marks.{Mark}
use Rattle.vc_exprio.specs.Trees.{Tree, Barred, zero_tree, label, class, group, star, weight_behind, weight_before, times, both, shuffle, plus}
use Rattle.vc_exprio.specs.Grammar.{is_part_kind}

-- a complete operand on the left, and the operator behind it
pub record LeftSide : Type 0 where
  pub tree : Tree
  pub mark : Mark

-- the beginning of a product, in front of the operand that is read: weights, or factors
pub data Head : Type 0 where
  weights : List Mark → Head
  factors : Tree → Head

-- what stands in front of the operand that is read, from the last open parenthesis on
pub record Level : Type 0 where
  pub sum : Option LeftSide
  pub shuffled : Option LeftSide
  pub conjunct : Option LeftSide
  pub head : Head

-- an outer level, and the parenthesis behind it
pub record Outer : Type 0 where
  pub level : Level
  pub opening : Mark

-- an operand is wanted; an operand was read, and may go on; or a part of a label is wanted behind this bar
pub data Phase : Type 0 where
  wanted : Phase
  after : Tree → Phase
  barred : Mark → List Barred → Mark → Phase

pub record State : Type 0 where
  pub outer : List Outer
  pub level : Level
  pub phase : Phase

abbrev pub fresh : Level
fresh = record { sum = None; shuffled = None; conjunct = None; head = weights [] }

abbrev pub start : State
start = record { outer = []; level = fresh; phase = wanted }

-- ---- what the level makes together with an operand

abbrev pub weighed : List Mark → Tree → Tree
weighed [] t = t
weighed (m ∷ ms) t = weight_before m (weighed ms t)

abbrev pub product_with : Head → Tree → Tree
product_with (weights ms) t = weighed ms t
product_with (factors u) t = times u t

abbrev pub joined : (Tree → Mark → Tree → Tree) → Option LeftSide → Tree → Tree
joined operation None u = u
joined operation (Some l) u = operation l.tree l.mark u

abbrev pub conjunction_with : Level → Tree → Tree
conjunction_with l t = joined both l.conjunct (product_with l.head t)

abbrev pub shuffle_with : Level → Tree → Tree
shuffle_with l t = joined shuffle l.shuffled (conjunction_with l t)

abbrev pub sum_with : Level → Tree → Tree
sum_with l t = joined plus l.sum (shuffle_with l t)

-- ---- the level behind an operand and an operator

abbrev pub behind_factor : Level → Tree → Level
behind_factor l t = record { sum = l.sum; shuffled = l.shuffled; conjunct = l.conjunct; head = factors (product_with l.head t) }

abbrev pub behind_and : Level → Tree → Mark → Level
behind_and l t m = record { sum = l.sum; shuffled = l.shuffled; conjunct = Some (record { tree = conjunction_with l t; mark = m }); head = weights [] }

abbrev pub behind_shuffle : Level → Tree → Mark → Level
behind_shuffle l t m = record { sum = l.sum; shuffled = Some (record { tree = shuffle_with l t; mark = m }); conjunct = None; head = weights [] }

abbrev pub behind_plus : Level → Tree → Mark → Level
behind_plus l t m = record { sum = Some (record { tree = sum_with l t; mark = m }); shuffled = None; conjunct = None; head = weights [] }

-- ---- one token

-- the state of an operand that was read
abbrev pub read : List Outer → Level → Tree → State
read o l t = record { outer = o; level = l; phase = after t }

-- the state where an operand is wanted
abbrev pub want : List Outer → Level → State
want o l = record { outer = o; level = l; phase = wanted }

-- a token begins an operand
abbrev pub begin : List Outer → Level → Mark → TokenKind → Option State
begin o l m Zero = Some (read o l (zero_tree m))
begin o l m One = Some (read o l (label m []))
begin o l m Letter = Some (read o l (label m []))
begin o l m Quoted = Some (read o l (label m []))
begin o l m Class = Some (read o l (class m))
begin o l m Left = Some (want (record { level = l; opening = m } ∷ o) fresh)
begin o l m kind = None

-- a weight before the first operand of a product
abbrev pub with_weight : Level → Mark → Head → Option Level
with_weight l m (weights ms) = Some (record { sum = l.sum; shuffled = l.shuffled; conjunct = l.conjunct; head = weights (ms ++ m ∷ []) })
with_weight l m (factors t) = None

-- the parenthesis that closes a level
abbrev pub closed : List Outer → Tree → Mark → Option State
closed [] t m = None
closed (x ∷ o) t m = Some (read o x.level (group x.opening t m))

-- a bar behind a label
abbrev pub with_bar : List Outer → Level → Tree → Mark → Option State
with_bar o l (label p bs) m = Some (record { outer = o; level = l; phase = barred p bs m })
with_bar o l t m = None

module _ (is_weight : Mark → Bool) where
  abbrev pub step_wanted : List Outer → Level → Mark → TokenKind → Option State
  step_wanted o l m Weight = if is_weight m then option_and_then (λ h. Some (want o h)) (with_weight l m l.head) else None
  step_wanted o l m kind = begin o l m kind

  abbrev pub step_after : List Outer → Level → Tree → Mark → TokenKind → Option State
  step_after o l t m Star = Some (read o l (star t m))
  step_after o l t m Weight = if is_weight m then Some (read o l (weight_behind t m)) else None
  step_after o l t m And = Some (want o (behind_and l t m))
  step_after o l t m Shuffle = Some (want o (behind_shuffle l t m))
  step_after o l t m Plus = Some (want o (behind_plus l t m))
  step_after o l t m Right = closed o (sum_with l t) m
  step_after o l t m Bar = with_bar o l t m
  step_after o l t m kind = begin o (behind_factor l t) m kind

  abbrev pub step_in : List Outer → Level → Phase → Mark → Option State
  step_in o l wanted m = step_wanted o l m m.kind
  step_in o l (after t) m = step_after o l t m m.kind
  step_in o l (barred p bs bar) m = if is_part_kind m.kind then Some (read o l (label p (bs ++ record { bar = bar; part = m } ∷ []))) else None

  -- the state behind a token; none where it cannot stand here
  abbrev pub step : State → Mark → Option State
  step s m = step_in s.outer s.level s.phase m

  -- the state behind tokens
  abbrev pub run : State → List Mark → Option State
  run s [] = Some s
  run s (m ∷ ms) = option_and_then (λ next. run next ms) (step s m)

  -- the tree, where the tokens end here
  abbrev pub finish_in : List Outer → Level → Phase → Option Tree
  finish_in [] l (after t) = Some (sum_with l t)
  finish_in o l phase = None

  abbrev pub finish : State → Option Tree
  finish s = finish_in s.outer s.level s.phase

  -- the tree of tokens
  abbrev pub tree_of : List Mark → Option Tree
  tree_of ms = option_and_then finish (run start ms)

  -- the first token that cannot stand at its place
  abbrev pub stuck_from : State → List Mark → Option Mark
  stuck_from s [] = None
  stuck_from s (m ∷ ms) = option_map_or (λ next. stuck_from next ms) (step s m) (Some m)

  -- its place, or this one where each token can stand at its place
  abbrev pub fault_place : ℕ → List Mark → ℕ
  fault_place end ms = option_map_or (λ m. m.at) (stuck_from start ms) end
