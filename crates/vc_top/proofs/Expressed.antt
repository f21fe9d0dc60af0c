-- What the commands over a context and an expression answer.
use Rattle.std.proofs.Common.{◌≡◌, ◌++◌, ◌∷◌, [], List, true, length, Ok, Err, refl, sym, ◌∙◌, ap, subst, inl, inr}
use Rattle.std.specs.Prelude.{String, string_bytes}
use Rattle.std.specs.Global.{Global}
use Rattle.vc_context.specs.Spelling.{SpellsContext}
use Rattle.vc_context.specs.Sets.{tapes_of}
use Rattle.vc_context.specs.declared.context.AnyLabels.{AnyLabels}
use Rattle.vc_context.specs.declared.context.Weights.{Weights}
use Rattle.vc_expr.specs.Names.{tree_of}
use Rattle.vc_expr.specs.declared.expr.Expr.{Expr}
use Rattle.vc_exprio.specs.Canonical.{expression_text}
use Rattle.vc_exprio.specs.Occurring.{letters_over}
use Rattle.vc_exprio.specs.Series.{HasSeriesOf}
use Rattle.vc_exprio.specs.Spelling.{SpellsBuilt}
use Rattle.vc_exprio.specs.TextAnswers.{IsRead, IsTextAnswer, too_long, bad_byte, no_expression, too_deep, no_label as foreign, not_in_context, overflow as unfit, invalid_star}
use Rattle.vc_exprio.specs.declared.fault.TextFault.{TextFault}
use Rattle.vc_exprio.specs.declared.fault.TextFault.TheVariants.{Limit, BadByte, NotAnExpression, NotALabel, NotInContext, InvalidStar, Overflow, Memory}
use Rattle.vc_files.specs.Files.{Bytes}
use Rattle.vc_label.specs.declared.tape_set.TapeSet.{TapeSet}
use Rattle.vc_ring.specs.Texts.{WeightTexts}
use Rattle.vc_terms.specs.Terms.{Term}
use Rattle.vc_top.specs.Expressions.{AnswersExpr, AnswersExprOver, PrintsExpression, ReadsExpression, are_single}
use Rattle.vc_top.specs.Outcomes.{Answer, OrMemory}
use Rattle.vc_top.specs.Reasons.{Reason, in_context, limit, syntax}
use Rattle.vc_top.specs.Sets.{texts_of}
use Rattle.vc_top.specs.Views.{text_fault_reason}
use Rattle.vc_top.specs.declared.refusal.Bound.TheVariants.{Of}
use Rattle.vc_top.proofs.Outcomes.{then_given, then_refused}

-- single labels have one tape
pub single_tape : (sets : List TapeSet) → are_single sets ≡ true → length sets ≡ 1
single_tape [] e = absurd (cc e)
single_tape (s ∷ []) e = refl
single_tape (s ∷ t ∷ sets) e = absurd (cc e)

module _ {V : Type 0} (T : WeightTexts V) (sets : List TapeSet) (text : Bytes) where
  -- what the reader answers
  pub expression_read : (s : List (Term V)) (e : Expr) → (IsRead T (are_single sets) sets text (Ok (tree_of s e)) → HasSeriesOf T sets text (tree_of s e))
      → IsTextAnswer T (are_single sets) sets text s (Ok e) → OrMemory (ReadsExpression T sets text) (Ok (tree_of s e))
  expression_read s e series p = inr (p.1, series p.1)

  pub expression_refused : (s : List (Term V)) (f : TextFault V) → IsTextAnswer T (are_single sets) sets text s (Err f) → OrMemory (ReadsExpression T sets text) (Err (text_fault_reason f))
  expression_refused s (Limit l) (inl p) = inr (too_long, p.1, ap (λ m. limit (Of m.what)) p.0)
  expression_refused s (Limit l) (inr p) = inr (too_deep, p.1, ap (λ m. limit (Of m.what)) p.0)
  expression_refused s (BadByte at) p = inr (bad_byte at, p, refl)
  expression_refused s (NotAnExpression at) p = inr (no_expression at, p, refl)
  expression_refused s (NotALabel at) p = inr (foreign at, p, refl)
  expression_refused s (NotInContext at) p = inr (not_in_context at, p, refl)
  expression_refused s (InvalidStar e c) p = inr (invalid_star (tree_of s e) c, p.1, refl)
  expression_refused s (Overflow o) p = inr (unfit o, p, refl)
  expression_refused s (Memory e) p = inl refl

  -- its canonical text and a line feed are printed
  pub expression_printed : (t : Term V) (line : String Global) → OrMemory (ReadsExpression T sets text) (Ok t) → string_bytes line ≡ expression_text T.canonical t ++ 10 ∷ []
      → SpellsBuilt T.set T.same T.spelled (letters_over sets) (expression_text T.canonical t) t → OrMemory (AnswersExprOver T sets text) (Ok (string_bytes line))
  expression_printed t line p e s =
      then_given (ReadsExpression T sets text) (PrintsExpression T sets) t (Ok (string_bytes line)) p (inr (expression_text T.canonical t, record { canonical = refl; spells = s }, ap Ok e))

  pub expression_not : (reason : Reason) → OrMemory (ReadsExpression T sets text) (Err reason) → OrMemory (AnswersExprOver T sets text) (Err reason)
  expression_not reason p = then_refused (ReadsExpression T sets text) (PrintsExpression T sets) reason p

-- the same over labels of the code, and over the weight set of a name
pub over_labels : {V : Type 0} {sets : List TapeSet} (T : WeightTexts V) (l m : AnyLabels) (text : Bytes) (b : Answer) → l ≡ m → tapes_of m ≡ sets → OrMemory (AnswersExprOver T sets text) b → OrMemory (AnswersExprOver T (tapes_of l) text) b
over_labels T l m text b e f p = subst (λ (s : List TapeSet). OrMemory (AnswersExprOver T s text) b) (sym (ap tapes_of e ∙ f)) p

over_weights : (sets : List TapeSet) (w v : Weights) (text : Bytes) (b : Answer) → w ≡ v → OrMemory (AnswersExprOver (texts_of v) sets text) b → OrMemory (AnswersExprOver (texts_of w) sets text) b
over_weights sets w v text b e p = subst (λ (x : Weights). OrMemory (AnswersExprOver (texts_of x) sets text) b) (sym e) p

-- a context, and what is answered in it
pub context_answered : (over text : Bytes) (sets : List TapeSet) (weights : Weights) (b : Answer) → SpellsContext over sets weights → OrMemory (AnswersExprOver (texts_of weights) sets text) b → OrMemory (AnswersExpr over text) b
context_answered over text sets weights b s (inl m) = inl m
context_answered over text sets weights b s (inr p) = inr (inr ((sets, weights), s, p))

pub no_context : (over text : Bytes) → ((sets : List TapeSet) (weights : Weights) → ¬ SpellsContext over sets weights) → OrMemory (AnswersExpr over text) (Err (syntax in_context))
no_context over text n = inr (inl (λ c. n c.0 c.1, refl))

pub context_named : (over text : Bytes) (sets : List TapeSet) (w v : Weights) (b : Answer) → w ≡ v → SpellsContext over sets w → OrMemory (AnswersExprOver (texts_of v) sets text) b → OrMemory (AnswersExpr over text) b
context_named over text sets w v b e s p = context_answered over text sets w b s (over_weights sets w v text b e p)
