-- A text spells at most one tree, and the canonical text of an expression of a store spells this expression.
use Rattle.std.proofs.Common.{◌≡◌, ℕ, Bool, List, Option, Result, Ok, sym, ◌∙◌, subst}
use Rattle.vc_model.specs.Lists.{IsEqualityTest}
use Rattle.vc_terms.specs.Terms.{Term}
use Rattle.vc_model.specs.WeightSet.{WeightSet, SemiringLaws}
use Rattle.vc_label.specs.Letters.{is_of_letters}
use Rattle.vc_label.specs.Sets.{IsOverSets}
use Rattle.vc_label.specs.declared.tape_set.TapeSet.{TapeSet}
use Rattle.vc_model.specs.Words.{Word}
use Rattle.std.specs.Prelude.{IsTrue}
use Rattle.vc_ring.specs.Texts.{TextLaws}
use Rattle.vc_lex.specs.declared.token.Mode.TheVariants.{Expression}
use Rattle.vc_lex.specs.Marks.{Mark, HasMarks, marks_of}
use Rattle.vc_exprio.specs.Trees.{Tree}
use Rattle.vc_exprio.specs.Grammar.{SpellsTree}
use Rattle.vc_expr.specs.Facts.{HasRootValues}
use Rattle.vc_terms.specs.Forms.{Everywhere, IsBuilt}
use Rattle.vc_exprio.specs.Canonical.{pieces_of, expression_text, IsRootOver}
use Rattle.vc_exprio.specs.Spelling.{SpellsText, SpellsBuilt}
use Rattle.vc_exprio.proofs.Complete.{one_tree}
use Rattle.vc_exprio.proofs.CanonicalTrees.{written}
use Rattle.vc_exprio.proofs.CanonicalTokens.{marks_at, marks_pieces, canonical_marks}

pub one_text : ((text : List ℕ) (ms : List Mark) → HasMarks Expression text 0 ms → marks_of Expression text ≡ Ok ms)
    → (is_weight : Mark → Bool) (text : List ℕ) (t u : Tree) → SpellsText is_weight text t → SpellsText is_weight text u → t ≡ u
one_text complete is_weight text t u h k =
    let e = complete text h.marks h.has in
    let f = complete text k.marks k.has in
    let both : ◌≡◌ {A = Result (List Mark) ℕ} (Ok h.marks) (Ok k.marks) = sym e ∙ f in
    let same : h.marks ≡ k.marks = cc in
    one_tree is_weight k.marks t u (subst (λ ms. SpellsTree is_weight ms t) same h.spells) k.spells

pub canonical_read : {V : Type 0} (R : WeightSet V) → SemiringLaws R → (same : V → V → Bool) → IsEqualityTest same
    → (spelled : List ℕ → Option V) (fit : List ℕ → Bool) (canonical : V → List ℕ) → TextLaws R spelled fit canonical → (sets : List TapeSet) → ((w : Word) → IsOverSets sets w → IsTrue (is_of_letters w)) → (class_letters : Mark → List ℕ)
    → (t : Term V) → IsBuilt R same t → Everywhere (HasRootValues R) t → Everywhere (IsRootOver sets) t → SpellsBuilt R same spelled class_letters (expression_text canonical t) t
canonical_read R L same test spelled fit canonical laws sets letters class_letters t h v k =
    let w = written R L same test spelled canonical laws.written class_letters t h v (marks_at 0 (pieces_of canonical t)) (marks_pieces 0 (pieces_of canonical t)) in
    record {
      tree = w.tree;
      spells = record {
        marks = marks_at 0 (pieces_of canonical t);
        has = canonical_marks R spelled fit canonical laws sets letters t v k;
        spells = record { tokens = w.tokens; grammar = w.grammar };
      };
      is = w.is;
    }
