-- What commands over a context and the text of an expression answer, in the order of refusals.
use Rattle.std.specs.Prelude.{◌≡◌, List, [], ◌∷◌, ◌++◌, Bool, true, false, Ok, Err}
use Rattle.vc_exprio.specs.Canonical.{expression_text}
use Rattle.vc_exprio.specs.Occurring.{letters_over}
use Rattle.vc_exprio.specs.Series.{HasSeriesOf}
use Rattle.vc_exprio.specs.Spelling.{SpellsBuilt}
use Rattle.vc_exprio.specs.TextAnswers.{IsRead, TextRefusal, too_long, bad_byte, no_expression, too_deep, no_label as foreign, not_in_context, overflow as unfit, invalid_star}
use Rattle.vc_files.specs.Files.{Bytes}
use Rattle.vc_label.specs.declared.tape_set.TapeKind.{TapeKind}
use Rattle.vc_label.specs.declared.tape_set.TapeKind.TheVariants.{Letters, Nullable, Words}
use Rattle.vc_label.specs.declared.tape_set.TapeSet.{TapeSet}
use Rattle.vc_ring.specs.Texts.{WeightTexts}
use Rattle.vc_ring.specs.declared.faults.Measure.TheVariants.{Bytes as BytesOf, Depth}
use Rattle.vc_terms.specs.Terms.{Term}
use Rattle.vc_top.specs.Contexts.{IsContext}
use Rattle.vc_top.specs.Outcomes.{ForSuch, Gives, Outcome, Then, WithOne}
use Rattle.vc_top.specs.Reasons.{Reason, contexts, in_context, in_expression, limit, no_label, no_star, overflow, syntax}
use Rattle.vc_top.specs.Sets.{texts_of}
use Rattle.vc_top.specs.declared.refusal.Bound.TheVariants.{Of}

-- labels have one tape, and on it at most one letter; so `&` and `:` have a meaning
abbrev pub is_short : TapeKind → Bool
is_short Letters = true
is_short Nullable = true
is_short Words = false

abbrev pub are_single : List TapeSet → Bool
are_single [] = false
are_single (s ∷ []) = is_short s.kind
are_single (s ∷ t ∷ sets) = false

-- why a text gives no expression
abbrev pub text_reason : {V : Type 0} → TextRefusal V → Reason
text_reason too_long = limit (Of BytesOf)
text_reason (bad_byte at) = syntax (in_expression at)
text_reason (no_expression at) = syntax (in_expression at)
text_reason too_deep = limit (Of Depth)
text_reason (foreign at) = no_label (in_expression at)
text_reason (not_in_context at) = contexts
text_reason (unfit of) = overflow
text_reason (invalid_star operand constant) = no_star

module _ {V : Type 0} (T : WeightTexts V) (sets : List TapeSet) where
  -- the text is read as this expression, which has the series of what the text spells; or there is none, for this reason
  abbrev pub ReadsExpression : Bytes → Outcome (Term V)
  ReadsExpression text (Ok t) = IsRead T (are_single sets) sets text (Ok t) × HasSeriesOf T sets text t
  ReadsExpression text (Err reason) = (refusal : TextRefusal V) × IsRead T (are_single sets) sets text (Err refusal) × (reason ≡ text_reason refusal)

  -- the text of an expression: the canonical one, which spells a tree that is built to this expression
  pub record IsExpressionText (t : Term V) (text : Bytes) : Type 0 where
    pub canonical : text ≡ expression_text T.canonical t
    pub spells : SpellsBuilt T.set T.same T.spelled (letters_over sets) text t

  -- the text of the expression, and a line feed
  abbrev pub PrintsExpression : Term V → Outcome Bytes
  PrintsExpression t = ForSuch (IsExpressionText t) (λ text. Gives (text ++ 10 ∷ []))

  -- the text of the expression of a text
  abbrev pub AnswersExprOver : Bytes → Outcome Bytes
  AnswersExprOver text = Then (ReadsExpression text) PrintsExpression

-- `expr`: `Syntax` where the first text spells no context, and else the text of the expression of the second, in this context
abbrev pub AnswersExpr : Bytes → Bytes → Outcome Bytes
AnswersExpr over text = WithOne (IsContext over) (syntax in_context) (λ c. AnswersExprOver (texts_of c.1) c.0 text)
