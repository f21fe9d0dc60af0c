-- The machine with steps in place of trees.
use Rattle.std.specs.Prelude.{ℕ, ◌+◌, Bool, true, false, ◌==◌, List, [], ◌∷◌, ◌++◌, map, take, drop, length, reverse, Option, Some, None, if◌then◌else◌}
use Rattle.vc_lex.specs.declared.token.TokenKind.{TokenKind}
use Rattle.vc_lex.specs.declared.token.TokenKind.TheVariants as kinds
use Rattle.vc_exprio.specs.declared.state.Level.{Level}
use Rattle.vc_exprio.specs.declared.state.Phase.{Phase}
use Rattle.vc_exprio.specs.declared.state.Phase.TheVariants.{Wanted, Label, Operand, Barred}
use Rattle.vc_exprio.specs.declared.state.Parser.{Parser}
use Rattle.vc_lex.specs.Marks.{Mark}
use Rattle.vc_lex.specs.Views.{seen}
use Rattle.vc_exprio.specs.Views.{step_seen}
use Rattle.vc_exprio.specs.Grammar.{is_part_kind}
use Rattle.vc_exprio.specs.Steps.{Op, zero_op, part_op, more_op, class_op, group_op, star_op, weight_op, product_op, and_op, shuffle_op, sum_op}

-- the steps so far, the outer levels, the weights that wait for their operands, the level, and what may come next
pub record Flat : Type 0 where
  pub steps : List Op
  pub outer : List Level
  pub pending : List Mark
  pub level : Level
  pub phase : Phase

-- what the parser of the code stands for
abbrev pub parser_seen : Parser → Flat
parser_seen p = record { steps = map step_seen p.steps.items; outer = p.outer.items; pending = map seen p.pending.items; level = p.level; phase = p.phase }

-- these steps are made
abbrev pub with_steps : Flat → List Op → Flat
with_steps f ops = record { steps = f.steps ++ ops; outer = f.outer; pending = f.pending; level = f.level; phase = f.phase }

-- the weights of the level are given to its first factor
abbrev pub weights_closed : Flat → Flat
weights_closed f = record {
  steps = f.steps ++ map weight_op (reverse (drop f.level.weights f.pending));
  outer = f.outer;
  pending = take f.level.weights f.pending;
  level = f.level;
  phase = f.phase;
}

-- the product of the level is made, the conjunction, the shuffle, the sum
abbrev pub product_closed : Flat → Flat
product_closed f = with_steps (weights_closed f) (if f.level.factors == 0 then [] else product_op (f.level.factors + 1) ∷ [])

abbrev pub conjunction_closed : Flat → Flat
conjunction_closed f = with_steps (product_closed f) (if f.level.conjunct then and_op ∷ [] else [])

abbrev pub shuffle_closed : Flat → Flat
shuffle_closed f = with_steps (conjunction_closed f) (if f.level.shuffled then shuffle_op ∷ [] else [])

abbrev pub sum_closed : Flat → Flat
sum_closed f = with_steps (shuffle_closed f) (if f.level.members == 0 then [] else sum_op (f.level.members + 1) ∷ [])

-- the level and the phase change
abbrev pub moved : Flat → Level → Phase → Flat
moved f l p = record { steps = f.steps; outer = f.outer; pending = f.pending; level = l; phase = p }

abbrev pub level_with : ℕ → Bool → Bool → ℕ → ℕ → Level
level_with members shuffled conjunct weights factors = record { members = members; shuffled = shuffled; conjunct = conjunct; weights = weights; factors = factors }

abbrev pub fresh_level : ℕ → Level
fresh_level weights = level_with 0 false false weights 0

abbrev pub flat_start : Flat
flat_start = record { steps = []; outer = []; pending = []; level = fresh_level 0; phase = Wanted }

-- an operand of one step is read
abbrev pub put : Flat → Op → Phase → Flat
put f op p = moved (with_steps f (op ∷ [])) f.level p

abbrev pub opened : Flat → Flat
opened f = record { steps = f.steps; outer = f.outer ++ f.level ∷ []; pending = f.pending; level = fresh_level (length f.pending); phase = Wanted }

abbrev pub flat_begin : Flat → Mark → TokenKind → Option Flat
flat_begin f m kinds.Zero = Some (put f zero_op Operand)
flat_begin f m kinds.One = Some (put f (part_op m) Label)
flat_begin f m kinds.Letter = Some (put f (part_op m) Label)
flat_begin f m kinds.Quoted = Some (put f (part_op m) Label)
flat_begin f m kinds.Class = Some (put f (class_op m) Operand)
flat_begin f m kinds.Left = Some (opened f)
flat_begin f m kind = None

-- the factor that was read is one more of its product
abbrev pub with_factor : Flat → Flat
with_factor f = moved (weights_closed f) (level_with f.level.members f.level.shuffled f.level.conjunct f.level.weights (f.level.factors + 1)) Wanted

-- the last outer level, and those before it
abbrev pub last_level : List Level → Option (List Level × Level)
last_level [] = None
last_level (l ∷ []) = Some ([], l)
last_level (l ∷ k ∷ ls) = elim (last_level (k ∷ ls)) as (λ _. Option (List Level × Level)) [ None ↦ None | Some x ↦ Some (l ∷ x.0, x.1) ]

abbrev pub flat_closed_in : Flat → Option (List Level × Level) → Option Flat
flat_closed_in f None = None
flat_closed_in f (Some x) = Some (record { steps = f.steps ++ group_op ∷ []; outer = x.0; pending = f.pending; level = x.1; phase = Operand })

module _ (is_weight : Mark → Bool) where
  abbrev pub flat_wanted : Flat → Mark → TokenKind → Option Flat
  flat_wanted f m kinds.Weight = if is_weight m then Some (record { steps = f.steps; outer = f.outer; pending = f.pending ++ m ∷ []; level = f.level; phase = Wanted }) else None
  flat_wanted f m kind = flat_begin f m kind

  abbrev pub flat_operand : Flat → Bool → Mark → TokenKind → Option Flat
  flat_operand f is_label m kinds.Star = Some (put f star_op Operand)
  flat_operand f is_label m kinds.Weight = if is_weight m then Some (put f (weight_op m) Operand) else None
  flat_operand f is_label m kinds.And = Some (moved (conjunction_closed f) (level_with f.level.members f.level.shuffled true f.level.weights 0) Wanted)
  flat_operand f is_label m kinds.Shuffle = Some (moved (shuffle_closed f) (level_with f.level.members true false f.level.weights 0) Wanted)
  flat_operand f is_label m kinds.Plus = Some (moved (shuffle_closed f) (level_with (f.level.members + 1) false false f.level.weights 0) Wanted)
  flat_operand f is_label m kinds.Right = flat_closed_in (sum_closed f) (last_level f.outer)
  flat_operand f is_label m kinds.Bar = if is_label then Some (moved f f.level Barred) else None
  flat_operand f is_label m kind = flat_begin (with_factor f) m kind

  abbrev pub flat_in : Flat → Phase → Mark → Option Flat
  flat_in f Wanted m = flat_wanted f m m.kind
  flat_in f Label m = flat_operand f true m m.kind
  flat_in f Operand m = flat_operand f false m m.kind
  flat_in f Barred m = if is_part_kind m.kind then Some (put f (more_op m) Label) else None

  -- the state after a token; none where it cannot stand here
  abbrev pub flat_step : Flat → Mark → Option Flat
  flat_step f m = flat_in f f.phase m

-- an operand was read
abbrev pub is_read : Phase → Bool
is_read Label = true
is_read Operand = true
is_read phase = false
