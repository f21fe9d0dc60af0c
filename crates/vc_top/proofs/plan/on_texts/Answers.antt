use Rattle.std.proofs.Common.{subst}
use Rattle.vc_top.specs.Contexts.{AnswersContext}
use Rattle.vc_top.specs.Expressions.{AnswersExpr}
use Rattle.vc_top.specs.Outcomes.{OrMemory}
use Rattle.vc_top.specs.Standards.{AnswersEvalText, AnswersStandard}
use Rattle.vc_top.specs.Views.{answer_of}
use Rattle.vc_top.proofs.plan.on_texts.Goals as goal

pub returns-in-Context : goal.returns-in-Context
returns-in-Context c = rw c.in-Context.is (subst (λ t. OrMemory (AnswersContext t) (answer_of c.context.result)) c.as_bytes.ensures.value c.context.ensures)

pub returns-in-Expr : goal.returns-in-Expr
returns-in-Expr c = rw c.in-Expr.is (subst (λ t. OrMemory (AnswersExpr t c.in-Expr.text.now) (answer_of c.expr.result)) c.as_bytes-in-Expr.ensures.value c.expr.ensures)

pub returns-in-Eval : goal.returns-in-Eval
returns-in-Eval c =
    rw c.in-Eval.is (subst (λ t. OrMemory (AnswersEvalText t c.in-Eval.text.now c.in-Eval.word.now) (answer_of c.eval_text.result)) c.as_bytes-in-Eval.ensures.value c.eval_text.ensures)

pub returns-in-Standard : goal.returns-in-Standard
returns-in-Standard c =
    rw c.in-Standard.is (subst (λ t. OrMemory (AnswersStandard t c.in-Standard.text.now c.in-Standard.limit) (answer_of c.standard.result)) c.as_bytes-in-Standard.ensures.value c.standard.ensures)
