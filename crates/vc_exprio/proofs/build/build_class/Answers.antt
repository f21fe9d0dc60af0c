use Rattle.std.proofs.Common.{rules, ◌≡◌, ◌∙◌, ◌∷◌, ◌++◌, ap, inr, subst, sym}
use Rattle.vc_expr.specs.Names.{trees_of}
use Rattle.vc_lex.specs.Views.{seen}
use Rattle.vc_model.specs.Lists.{In}
use Rattle.vc_exprio.specs.Building.{atoms_of}
use Rattle.vc_exprio.specs.Occurring.{letters_over}
use Rattle.vc_exprio.proofs.LetterAtoms.{atom_more}
use Rattle.vc_exprio.proofs.StackNames.{has_more}
use Rattle.vc_exprio.proofs.RootsOver.{class_letter_over}
use Rattle.vc_exprio.proofs.build.build_class.Goals as goal

pub loop-letter-init : goal.loop-letter-init
loop-letter-init g c =
    let sets = g.L.LabelSet.sets c.args.labels.now in
    let all : c.into_iter-letter-iterator.result ≡ letters_over sets (seen c.args.class) =
    c.into_iter-letter-iterator.ensures.into_iter_gives ∙ c.letters-letter-items.ensures ∙ c.in-Some.ensures.1 in
    record {
      atoms = rw c.new-atoms.ensures.items (ap atoms_of all);
      names = search rules;
      grows = c.names_keep_their_trees.ensures.same _;
      over = λ x i. class_letter_over c.alphabets_are_sets.ensures.listed sets (seen c.args.class) c.in-Some.ensures.0 x (subst (In x) all i);
    }

pub loop-letter-preserved : goal.loop-letter-preserved
loop-letter-preserved g c =
    let steps : c.loop-letter.letter-iterator ≡ c.in-Some-letter.letter ∷ c.next.new.self = c.in-Some-letter.ensures.steps in
    record {
      atoms = rw c.in_ok-push.ensures (atom_more c.loop-letter.exprs c.build_letter.new.exprs c.loop-letter.atoms.items c.in_ok-atom.atom c.in-Some-letter.letter c.next.new.self
          (letters_over (g.L.LabelSet.sets c.args.labels.now) (seen c.args.class)) c.in_ok-atom.ensures.grows c.loop-letter.invariant.names c.in_ok-atom.ensures.answer.1
          (subst (λ xs. trees_of c.loop-letter.exprs c.loop-letter.atoms.items ++ atoms_of xs ≡ atoms_of (letters_over (g.L.LabelSet.sets c.args.labels.now) (seen c.args.class))) steps c.loop-letter.invariant.atoms));
      names = rw c.in_ok-push.ensures (has_more c.loop-letter.exprs c.build_letter.new.exprs c.loop-letter.atoms.items c.in_ok-atom.atom c.in_ok-atom.ensures.grows c.loop-letter.invariant.names c.in_ok-atom.ensures.answer.0);
      grows = c.names_keep_their_trees.ensures.further _ _ _ c.loop-letter.invariant.grows c.in_ok-atom.ensures.grows;
      over = λ x i. c.loop-letter.invariant.over x (subst (In x) (sym steps) (inr i));
    }
