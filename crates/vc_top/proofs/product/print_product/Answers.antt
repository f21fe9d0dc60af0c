use Rattle.vc_top.specs.Products.{AnswersProduct}
use Rattle.vc_top.specs.Views.{answer_of, input_of}
use Rattle.vc_top.proofs.Joined.{at_two}
use Rattle.vc_top.proofs.product.print_product.Goals as goal

pub returns-in-B-B : goal.returns-in-B-B
returns-in-B-B c =
    at_two (λ x y. AnswersProduct c.args.product c.args.limit (input_of x) (input_of y)) c.args.first.now _ c.args.second.now _ (answer_of c.product_over.result) c.in-B-B.is-0 c.in-B-B.is-1 c.product_over.ensures

pub returns-in-F2-F2 : goal.returns-in-F2-F2
returns-in-F2-F2 c =
    at_two (λ x y. AnswersProduct c.args.product c.args.limit (input_of x) (input_of y)) c.args.first.now _ c.args.second.now _ (answer_of c.product_over-in-F2-F2.result) c.in-F2-F2.is-0 c.in-F2-F2.is-1 c.product_over-in-F2-F2.ensures

pub returns-in-Z-Z : goal.returns-in-Z-Z
returns-in-Z-Z c =
    at_two (λ x y. AnswersProduct c.args.product c.args.limit (input_of x) (input_of y)) c.args.first.now _ c.args.second.now _ (answer_of c.product_over-in-Z-Z.result) c.in-Z-Z.is-0 c.in-Z-Z.is-1 c.product_over-in-Z-Z.ensures

pub returns-in-Q-Q : goal.returns-in-Q-Q
returns-in-Q-Q c =
    at_two (λ x y. AnswersProduct c.args.product c.args.limit (input_of x) (input_of y)) c.args.first.now _ c.args.second.now _ (answer_of c.product_over-in-Q-Q.result) c.in-Q-Q.is-0 c.in-Q-Q.is-1 c.product_over-in-Q-Q.ensures

pub returns-in-Nmin-Nmin : goal.returns-in-Nmin-Nmin
returns-in-Nmin-Nmin c =
    at_two (λ x y. AnswersProduct c.args.product c.args.limit (input_of x) (input_of y)) c.args.first.now _ c.args.second.now _ (answer_of c.product_over-in-Nmin-Nmin.result) c.in-Nmin-Nmin.is-0 c.in-Nmin-Nmin.is-1 c.product_over-in-Nmin-Nmin.ensures
