use Rattle.std.proofs.Common.{sym, ◌∙◌}
use Rattle.std.proofs.lemmas.Result.{IfOk-weaker}
use Rattle.vc_eval.proofs.runs.runs_unless.Goals as goal

pub returns-then-single-clause-over : goal.returns-then-single-clause-over
returns-then-single-clause-over g c = λ e. absurd (cc (sym c.if-single.true ∙ e))

pub returns-then-single-clause-moves : goal.returns-then-single-clause-moves
returns-then-single-clause-moves g c = λ e. absurd (cc (sym c.if-single.true ∙ e))

pub returns-clause-over : goal.returns-clause-over
returns-clause-over g c = IfOk-weaker c.runs_of.result _ _ (λ r h e. h) c.runs_of.ensures.over

pub returns-clause-moves : goal.returns-clause-moves
returns-clause-moves g c = IfOk-weaker c.runs_of.result _ _ (λ r h e. h) c.runs_of.ensures.moves
