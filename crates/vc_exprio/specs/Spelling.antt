-- What the text of an expression spells.
use Rattle.std.specs.Prelude.{◌≡◌, ℕ, Bool, List, Option, unwrap_or}
use Rattle.std.specs.Option.{is_some}
use Rattle.vc_terms.specs.Terms.{Term}
use Rattle.vc_model.specs.WeightSet.{WeightSet}
use Rattle.vc_lex.specs.declared.token.Mode.TheVariants.{Expression}
use Rattle.vc_lex.specs.Marks.{Mark, HasMarks}
use Rattle.vc_exprio.specs.Trees.{Tree}
use Rattle.vc_exprio.specs.Grammar.{SpellsTree}
use Rattle.vc_text.specs.Escapes.{inside}
use Rattle.vc_exprio.specs.Meaning.{term_of}
use Rattle.vc_terms.specs.Identities.{built_of}

-- the text of a token between `<` and `>` is one of the weight set
abbrev pub is_weight_of : {V : Type 0} → (List ℕ → Option V) → Mark → Bool
is_weight_of spelled m = is_some (spelled (inside m.text))

-- the weight that a token is; zero where it is none
abbrev pub weight_of_mark : {V : Type 0} → WeightSet V → (List ℕ → Option V) → Mark → V
weight_of_mark R spelled m = unwrap_or (spelled (inside m.text)) R.zero

-- the text spells the tree: it is cut into tokens, and these are the tree's
pub record SpellsText (is_weight : Mark → Bool) (text : List ℕ) (tree : Tree) : Type 0 where
  pub marks : List Mark
  pub has : HasMarks Expression text 0 marks
  pub spells : SpellsTree is_weight marks tree

-- the text spells a tree that is built to the expression
pub record SpellsBuilt {V : Type 0} (R : WeightSet V) (same : V → V → Bool) (spelled : List ℕ → Option V) (class_letters : Mark → List ℕ) (text : List ℕ) (t : Term V) : Type 0 where
  pub tree : Tree
  pub spells : SpellsText (is_weight_of spelled) text tree
  pub is : built_of R same (term_of (weight_of_mark R spelled) class_letters tree) ≡ t
