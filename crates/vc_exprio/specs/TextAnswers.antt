-- What the reader of expressions answers on a text.
use Rattle.std.specs.Prelude.{◌≡◌, ◌⊎◌, ◌<◌, ◌≤◌, ℕ, Bool, false, List, length, Option, Some, None, Result, Ok, Err, ⊤}
use Rattle.vc_expr.specs.Names.{Has, tree_of}
use Rattle.vc_expr.specs.declared.expr.Expr.{Expr}
use Rattle.vc_label.specs.declared.tape_set.TapeSet.{TapeSet}
use Rattle.vc_lex.specs.Marks.{BreaksAt, Mark}
use Rattle.vc_lex.specs.declared.token.Mode.TheVariants.{Expression}
use Rattle.vc_ring.specs.Texts.{WeightTexts}
use Rattle.vc_ring.specs.declared.faults.Limit.{Limit as Bound}
use Rattle.vc_ring.specs.declared.faults.Measure.TheVariants.{Bytes, Depth}
use Rattle.vc_ring.specs.declared.faults.Overflow.{Overflow as Step}
use Rattle.vc_ring.specs.declared.faults.Overflow.TheVariants.{Numeral}
use Rattle.vc_terms.specs.Terms.{Term}
use Rattle.vc_exprio.specs.Building.{BuildRefusal, unfit, no_star, building}
use Rattle.vc_exprio.specs.Meaning.{depth, occurrences}
use Rattle.vc_exprio.specs.Occurring.{AreOccurrencesOver, IsFirstOutside, letters_over}
use Rattle.vc_exprio.specs.Places.{first_place, is_operator, is_unfit}
use Rattle.vc_exprio.specs.Readings.{IsNoExpression}
use Rattle.vc_exprio.specs.Spelling.{SpellsText, is_weight_of, weight_of_mark}
use Rattle.vc_exprio.specs.Trees.{Tree, tokens_of}
use Rattle.vc_exprio.specs.declared.fault.TextFault.{TextFault}
use Rattle.vc_exprio.specs.declared.fault.TextFault.TheVariants.{Limit, BadByte, NotAnExpression, NotALabel, NotInContext, InvalidStar, Overflow, Memory}

-- why a text gives no expression, in the order in which the causes count
pub data TextRefusal (V : Type 0) : Type 0 where
  too_long : TextRefusal V
  bad_byte : ℕ → TextRefusal V
  no_expression : ℕ → TextRefusal V
  too_deep : TextRefusal V
  no_label : ℕ → TextRefusal V
  not_in_context : ℕ → TextRefusal V
  overflow : Step V → TextRefusal V
  invalid_star : Term V → V → TextRefusal V

-- the place of the first `&` or `:` where labels are not of single letters
abbrev pub IsOperatorOutside : Bool → List Mark → Option ℕ → Type 0
IsOperatorOutside single ms None = single ≡ false → first_place is_operator ms ≡ None
IsOperatorOutside single ms (Some at) = (single ≡ false) × (first_place is_operator ms ≡ Some at)

module _ {V : Type 0} (T : WeightTexts V) (single : Bool) (sets : List TapeSet) where
  -- what is built of a tree
  abbrev pub tree_building : Tree → Result (Term V) (BuildRefusal V)
  tree_building t = building T.set T.same (weight_of_mark T.set T.spelled) (letters_over sets) t

  -- the place of the first weight in which a number is past its range
  abbrev pub first_unfit : Tree → Option ℕ
  first_unfit t = first_place (is_unfit T.spelled T.numbers_fit) (tokens_of t)

  -- the text is short, and spells the tree, which is flat
  pub record IsSpelled (text : List ℕ) (t : Tree) : Type 0 where
    pub short : length text ≤ 65536
    pub spells : SpellsText (is_weight_of T.spelled) text t
    pub flat : depth t ≤ 1000

  -- and its labels and operators are those of the context
  pub record IsInContext (text : List ℕ) (t : Tree) : Type 0 where
    pub spelled : IsSpelled text t
    pub labels : AreOccurrencesOver sets (occurrences t)
    pub operators : IsOperatorOutside single (tokens_of t) None

  -- and its numbers are in their ranges
  pub record IsFit (text : List ℕ) (t : Tree) : Type 0 where
    pub context : IsInContext text t
    pub numbers : first_unfit t ≡ None

  -- a number past its range, and with none a step of the first call that refuses
  abbrev pub IsUnfitBy : List ℕ → Tree → Step V → Option ℕ → Type 0
  IsUnfitBy text t o (Some at) = IsInContext text t × (o ≡ Numeral at)
  IsUnfitBy text t o None = IsInContext text t × (tree_building t ≡ Err (unfit o))

  -- each answer by its whole cause: what the text spells is built to the tree, or this is the first cause that stands
  abbrev pub IsRead : List ℕ → Result (Term V) (TextRefusal V) → Type 0
  IsRead text (Ok u) = (t : Tree) × IsFit text t × (tree_building t ≡ Ok u)
  IsRead text (Err too_long) = 65536 < length text
  IsRead text (Err (bad_byte at)) = (length text ≤ 65536) × (ms : List Mark) × BreaksAt Expression text 0 ms at
  IsRead text (Err (no_expression at)) = (length text ≤ 65536) × IsNoExpression (is_weight_of T.spelled) text at
  IsRead text (Err too_deep) = (length text ≤ 65536) × (t : Tree) × SpellsText (is_weight_of T.spelled) text t × (1000 < depth t)
  IsRead text (Err (no_label at)) = (t : Tree) × IsSpelled text t × IsFirstOutside sets (occurrences t) at
  IsRead text (Err (not_in_context at)) = (t : Tree) × IsSpelled text t × AreOccurrencesOver sets (occurrences t) × IsOperatorOutside single (tokens_of t) (Some at)
  IsRead text (Err (overflow o)) = (t : Tree) × IsUnfitBy text t o (first_unfit t)
  IsRead text (Err (invalid_star u c)) = (t : Tree) × IsFit text t × (tree_building t ≡ Err (no_star u c))

  -- the limit that was passed
  abbrev pub IsPastLimit : List ℕ → Bound → Type 0
  IsPastLimit text l =
      ((l ≡ record { what = Bytes; most = 65536 }) × IsRead text (Err too_long))
      ⊎ ((l ≡ record { what = Depth; most = 1000 }) × IsRead text (Err too_deep))

  -- the same with names of the store; want of memory is free
  abbrev pub IsTextAnswer : List ℕ → List (Term V) → Result Expr (TextFault V) → Type 0
  IsTextAnswer text s (Ok e) = Has s e × IsRead text (Ok (tree_of s e))
  IsTextAnswer text s (Err (Limit l)) = IsPastLimit text l
  IsTextAnswer text s (Err (BadByte at)) = IsRead text (Err (bad_byte at))
  IsTextAnswer text s (Err (NotAnExpression at)) = IsRead text (Err (no_expression at))
  IsTextAnswer text s (Err (NotALabel at)) = IsRead text (Err (no_label at))
  IsTextAnswer text s (Err (NotInContext at)) = IsRead text (Err (not_in_context at))
  IsTextAnswer text s (Err (InvalidStar e c)) = Has s e × IsRead text (Err (invalid_star (tree_of s e) c))
  IsTextAnswer text s (Err (Overflow o)) = IsRead text (Err (overflow o))
  IsTextAnswer text s (Err (Memory e)) = ⊤
