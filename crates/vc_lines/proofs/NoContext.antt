-- A first line that spells no context.
use Rattle.std.proofs.Common.{◌≡◌, ℕ, List, Option, None, Some, Err, refl, sym, ◌∙◌, subst}
use Rattle.vc_context.specs.Spelling.{SpellsContext}
use Rattle.vc_context.specs.declared.context.Weights.{Weights}
use Rattle.vc_label.specs.declared.tape_set.TapeSet.{TapeSet}
use Rattle.vc_lines.specs.ContextLines.{IsContextLine}
use Rattle.vc_lines.specs.Contexts.{IsContextOf, context_in_line}
use Rattle.vc_lines.specs.Heads.{HeadLine}
use Rattle.vc_lines.specs.declared.fault.HeadFault.TheVariants.{Syntax}

some_same : {X : Type 0} (x y : X) → Some x ≡ Some y → x ≡ y
some_same x y h = cc h

module _ (complete : (line text : List ℕ) → IsContextLine line text → context_in_line line ≡ Some text) where
  pub not_context : (last : ℕ) (o : Option HeadLine) (h : HeadLine) (text : List ℕ) → o ≡ Some h → Some text ≡ context_in_line h.line
      → ((sets : List TapeSet) (weights : Weights) → ¬ SpellsContext text sets weights) → IsContextOf last o (Err (Syntax h.number))
  not_context last o h text e q n =
      subst (λ p. IsContextOf last p (Err (Syntax h.number))) (sym e)
      (refl, λ t sets weights r s. n sets weights (subst (λ x. SpellsContext x sets weights) (some_same t text (sym (complete h.line t r) ∙ sym q)) s))

  -- a first line that is no context line
  pub no_context_line : (last : ℕ) (o : Option HeadLine) (h : HeadLine) → o ≡ Some h → None ≡ context_in_line h.line → IsContextOf last o (Err (Syntax h.number))
  no_context_line last o h e q =
      subst (λ p. IsContextOf last p (Err (Syntax h.number))) (sym e) (refl, λ t sets weights r s. cc (q ∙ complete h.line t r))
