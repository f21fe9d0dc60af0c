-- What is read of a text has the series of what the text spells.
use Rattle.std.proofs.Common.{◌≡◌, ℕ, Bool, true, false, List, length, Ok, refl, sym, subst, inl, inr}
use Rattle.vc_label.specs.declared.tape_set.TapeSet.{TapeSet}
use Rattle.vc_model.specs.Series.{SameOn}
use Rattle.vc_ring.specs.Texts.{WeightTexts}
use Rattle.vc_terms.specs.Identities.{built_of}
use Rattle.vc_terms.specs.Terms.{Term, coefficient_of, IsOnTapes}
use Rattle.vc_exprio.specs.Meaning.{term_of}
use Rattle.vc_exprio.specs.Occurring.{letters_over}
use Rattle.vc_exprio.specs.Series.{HasSeriesOf}
use Rattle.vc_exprio.specs.Spelling.{weight_of_mark, is_weight_of}
use Rattle.vc_exprio.specs.TextAnswers.{IsRead, IsInContext}
use Rattle.vc_exprio.specs.Trees.{Tree}
use Rattle.vc_exprio.proofs.BuiltTrees.{building_built}
use Rattle.vc_exprio.proofs.ReadTapes.{raw_on_tapes}

module _ {V : Type 0} (T : WeightTexts V) (single : Bool) (sets : List TapeSet) where
  abbrev raw : Tree → Term V
  raw t = term_of (weight_of_mark T.set T.spelled) (letters_over sets) t

  -- a tree in the context has its tapes
  pub on_tapes : (single ≡ true → length sets ≡ 1) → (text : List ℕ) (t : Tree) → IsInContext T single sets text t → IsOnTapes (length sets) (raw t)
  on_tapes one text t c = go single refl
    where
      go : (b : Bool) → single ≡ b → IsOnTapes (length sets) (raw t)
      go true e = raw_on_tapes (weight_of_mark T.set T.spelled) sets (is_weight_of T.spelled) t c.spelled.spells.spells.grammar c.labels (inl (one e))
      go false e = raw_on_tapes (weight_of_mark T.set T.spelled) sets (is_weight_of T.spelled) t c.spelled.spells.spells.grammar c.labels (inr (c.operators e))

  pub read_series : (one : single ≡ true → length sets ≡ 1) → ((n : ℕ) (u : Term V) → IsOnTapes n u → SameOn n (coefficient_of T.set (built_of T.set T.same u)) (coefficient_of T.set u))
      → (text : List ℕ) (t : Term V) → IsRead T single sets text (Ok t) → HasSeriesOf T sets text t
  read_series one series text t r = record {
    tree = r.0;
    spells = r.1.context.spelled.spells;
    series =
        subst (λ u. SameOn (length sets) (coefficient_of T.set u) (coefficient_of T.set (raw r.0)))
        (sym (building_built T.set T.same (weight_of_mark T.set T.spelled) (letters_over sets) r.0 t r.2))
        (series (length sets) (raw r.0) (on_tapes one text r.0 r.1.context));
  }
