use Rattle.std.proofs.Common.{subst, sym}
use Rattle.std.specs.Prelude.{string_bytes}
use Rattle.vc_top.specs.Contexts.{AnswersContext}
use Rattle.vc_top.specs.Evaluations.{AnswersEval}
use Rattle.vc_top.specs.Expressions.{AnswersExpr}
use Rattle.vc_top.specs.Standards.{AnswersEvalText, AnswersStandard}
use Rattle.vc_top.proofs.plan.plan_of.Goals as goal

pub returns-in-Context-clause-plan : goal.returns-in-Context-clause-plan
returns-in-Context-clause-plan c = rw c.in-Context.is (λ a p. subst (λ t. AnswersContext t a) c.deref.ensures p)

pub returns-in-EvalFile-clause-plan : goal.returns-in-EvalFile-clause-plan
returns-in-EvalFile-clause-plan c = rw c.in-EvalFile.is (sym c.deref-in-EvalFile.ensures, λ x a p. subst (λ t. AnswersEval t x a) c.deref-in-EvalFile-2.ensures p)

pub returns-in-Expr-clause-plan : goal.returns-in-Expr-clause-plan
returns-in-Expr-clause-plan c =
    rw c.in-Expr.is (λ a p. subst (λ t. AnswersExpr t (string_bytes c.in-Expr.text) a) c.deref-in-Expr.ensures (subst (λ t. AnswersExpr c.deref-in-Expr.result.now t a) c.deref-in-Expr-2.ensures p))

pub returns-in-EvalExpr-clause-plan : goal.returns-in-EvalExpr-clause-plan
returns-in-EvalExpr-clause-plan c =
    let over = c.deref-in-EvalExpr.result.now in
    let text = c.deref-in-EvalExpr-2.result.now in
    rw c.in-EvalExpr.is (λ a p.
    subst (λ t. AnswersEvalText t (string_bytes c.in-EvalExpr.text) (string_bytes c.in-EvalExpr.word) a) c.deref-in-EvalExpr.ensures
    (subst (λ t. AnswersEvalText over t (string_bytes c.in-EvalExpr.word) a) c.deref-in-EvalExpr-2.ensures (subst (λ t. AnswersEvalText over text t a) c.deref-in-EvalExpr-3.ensures p)))

pub returns-in-Standard-clause-plan : goal.returns-in-Standard-clause-plan
returns-in-Standard-clause-plan c =
    rw c.in-Standard.is (λ a p.
    subst (λ t. AnswersStandard t (string_bytes c.in-Standard.text) c.in-Standard.limit a) c.deref-in-Standard.ensures
    (subst (λ t. AnswersStandard c.deref-in-Standard.result.now t c.in-Standard.limit a) c.deref-in-Standard-2.ensures p))
