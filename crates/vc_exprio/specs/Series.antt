-- The series of a text of an expression.
use Rattle.std.specs.Prelude.{ℕ, List, length}
use Rattle.vc_label.specs.declared.tape_set.TapeSet.{TapeSet}
use Rattle.vc_model.specs.Series.{SameOn}
use Rattle.vc_ring.specs.Texts.{WeightTexts}
use Rattle.vc_terms.specs.Terms.{Term, coefficient_of}
use Rattle.vc_exprio.specs.Meaning.{term_of}
use Rattle.vc_exprio.specs.Occurring.{letters_over}
use Rattle.vc_exprio.specs.Spelling.{SpellsText, is_weight_of, weight_of_mark}
use Rattle.vc_exprio.specs.Trees.{Tree}

-- the text spells a tree whose expression, with no identity applied, has at each word with the tapes of the context the coefficient of this one
pub record HasSeriesOf {V : Type 0} (T : WeightTexts V) (sets : List TapeSet) (text : List ℕ) (t : Term V) : Type 0 where
  pub tree : Tree
  pub spells : SpellsText (is_weight_of T.spelled) text tree
  pub series : SameOn (length sets) (coefficient_of T.set t) (coefficient_of T.set (term_of (weight_of_mark T.set T.spelled) (letters_over sets) tree))
