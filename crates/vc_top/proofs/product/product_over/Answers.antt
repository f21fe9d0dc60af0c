use Rattle.vc_ring.specs.Weighed.{weighed}
use Rattle.vc_top.specs.Products.{AnswersProductOver}
use Rattle.vc_top.specs.Views.{answer_of, labelled_of}
use Rattle.vc_top.proofs.Joined.{at_two}
use Rattle.vc_top.proofs.product.product_over.Goals as goal

pub returns-in-Letters-Letters : goal.returns-in-Letters-Letters
returns-in-Letters-Letters g c =
    let T = weighed g.S.Semiring g.S.Value.PartialEq in
    at_two (λ x y. AnswersProductOver T c.args.product c.args.limit g.S.Semiring.ABSORBS c.args.weights (labelled_of x) (labelled_of y)) c.args.first.now _ c.args.second.now _ (answer_of c.product_of_letters.result)
    c.in-Letters-Letters.is-0 c.in-Letters-Letters.is-1 c.product_of_letters.ensures

pub returns-in-Letters-Nullable : goal.returns-in-Letters-Nullable
returns-in-Letters-Nullable g c =
    let T = weighed g.S.Semiring g.S.Value.PartialEq in
    at_two (λ x y. AnswersProductOver T c.args.product c.args.limit g.S.Semiring.ABSORBS c.args.weights (labelled_of x) (labelled_of y)) c.args.first.now _ c.args.second.now _ (answer_of c.product_of_nullable.result)
    c.in-Letters-Nullable.is-0 c.in-Letters-Nullable.is-1 c.product_of_nullable.ensures

pub returns-in-Nullable-Letters : goal.returns-in-Nullable-Letters
returns-in-Nullable-Letters g c =
    let T = weighed g.S.Semiring g.S.Value.PartialEq in
    at_two (λ x y. AnswersProductOver T c.args.product c.args.limit g.S.Semiring.ABSORBS c.args.weights (labelled_of x) (labelled_of y)) c.args.first.now _ c.args.second.now _ (answer_of c.product_of_nullable-in-Nullable-Letters.result)
    c.in-Nullable-Letters.is-0 c.in-Nullable-Letters.is-1 c.product_of_nullable-in-Nullable-Letters.ensures

pub returns-in-Nullable-Nullable : goal.returns-in-Nullable-Nullable
returns-in-Nullable-Nullable g c =
    let T = weighed g.S.Semiring g.S.Value.PartialEq in
    at_two (λ x y. AnswersProductOver T c.args.product c.args.limit g.S.Semiring.ABSORBS c.args.weights (labelled_of x) (labelled_of y)) c.args.first.now _ c.args.second.now _ (answer_of c.product_of_nullable-in-Nullable-Nullable.result)
    c.in-Nullable-Nullable.is-0 c.in-Nullable-Nullable.is-1 c.product_of_nullable-in-Nullable-Nullable.ensures
