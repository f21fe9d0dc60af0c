use Rattle.std.proofs.Common.{◌≡◌, Err, ◌∙◌, rules}
use Rattle.vc_rat.proofs.Splitting.{split-ok, split-err}
use Rattle.vc_rat.proofs.splits.QSplit.split.Goals as goal

pub returns-in_err-multiply-clause-steps : goal.returns-in_err-multiply-clause-steps
returns-in_err-multiply-clause-steps c =
    let same : c.from_residual.result ≡ Err c.in_err-multiply.field-0.0 = search rules in
    same ∙ split-err c.args.row.now c.first_other-factor.result c.inverse.result c.multiply.result c.in_err-multiply.field-0.0 c.first_other-factor.ensures.value c.inverse.ensures c.multiply.ensures.steps c.in_err-multiply.was

pub returns-clause-steps : goal.returns-clause-steps
returns-clause-steps c = split-ok c.args.row.now c.first_other-factor.result c.inverse.result c.multiply.result _ c.first_other-factor.ensures.value c.inverse.ensures c.multiply.ensures.steps c.in_ok-multiply.was
