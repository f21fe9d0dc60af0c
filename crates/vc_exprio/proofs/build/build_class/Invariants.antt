use Rattle.std.proofs.Common.{◌≡◌, ◌++◌, ◌∷◌, [], ℕ, All}
use Rattle.vc_expr.specs.Names.{Has, trees_of, Grows}
use Rattle.vc_label.specs.Sets.{IsOverSets}
use Rattle.vc_model.specs.Lists.{In}
use Rattle.vc_exprio.specs.Building.{atoms_of}
use Rattle.vc_exprio.specs.Occurring.{letters_over}
use Rattle.vc_lex.specs.Views.{seen}
use Rattle.vc_exprio.proofs.build.build_class.Given as goal

-- the atoms that are there, and those of the letters that are left, are all; and each letter is a label
abbrev pub invariant-loop-letter : goal.invariant-loop-letter
invariant-loop-letter g l = record {
  atoms : trees_of l.exprs l.atoms.items ++ atoms_of l.letter-iterator ≡ atoms_of (letters_over (g.L.LabelSet.sets l.labels) (seen l.class));
  names : All (Has l.exprs) l.atoms.items;
  grows : Grows l.initial.exprs l.exprs;
  over : (x : ℕ) → In x l.letter-iterator → IsOverSets (g.L.LabelSet.sets l.labels) ((x ∷ []) ∷ []);
}
