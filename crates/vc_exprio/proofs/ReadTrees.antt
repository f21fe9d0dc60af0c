-- What is read is built of the tree that the text spells.
use Rattle.std.proofs.Common.{ℕ, Bool, List, Ok, sym}
use Rattle.vc_label.specs.declared.tape_set.TapeSet.{TapeSet}
use Rattle.vc_ring.specs.Texts.{WeightTexts}
use Rattle.vc_terms.specs.Terms.{Term}
use Rattle.vc_exprio.specs.Occurring.{letters_over}
use Rattle.vc_exprio.specs.Spelling.{SpellsBuilt, weight_of_mark}
use Rattle.vc_exprio.specs.TextAnswers.{IsRead}
use Rattle.vc_exprio.proofs.BuiltTrees.{building_built}

pub read_built : {V : Type 0} (T : WeightTexts V) (single : Bool) (sets : List TapeSet) (text : List ℕ) (t : Term V) → IsRead T single sets text (Ok t)
    → SpellsBuilt T.set T.same T.spelled (letters_over sets) text t
read_built T single sets text t (tree, fit, made) = record {
  tree = tree;
  spells = fit.context.spelled.spells;
  is = sym (building_built T.set T.same (weight_of_mark T.set T.spelled) (letters_over sets) tree t made);
}
