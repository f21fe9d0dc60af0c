use Rattle.std.proofs.Common.{◌+◌, map, drop, IsTrue}
use Rattle.vc_label.specs.Borrowed.{word_of}
use Rattle.vc_model.specs.Sums.{sum_over}
use Rattle.vc_model.specs.Words.{cuts, size}
use Rattle.vc_ring.specs.Steps.{outcome}
use Rattle.vc_series.specs.Answers.{coefficient_answer}
use Rattle.vc_series.specs.Steps.{adding_steps, coefficient_steps, product_steps, factor_steps}
use Rattle.vc_series.specs.Trees.{term_of}
use Rattle.vc_terms.specs.Terms.{Sum, Product, Shuffle, MoreTerms, terms_of, coefficient_of, product_coefficient}
use Rattle.vc_series.proofs.Work.{work, works}
use Rattle.vc_series.proofs.Summing.{IsLeft}
use Rattle.vc_series.proofs.StarSteps.{own_cut, value_cut}
use Rattle.vc_series.proofs.by_definition.+values.Given as goal

-- parts take less, and so do the pieces of a word
abbrev pub decreases-value : goal.decreases-value
decreases-value g l = work (term_of g.L.LabelSet.parts l.tree.now) (size (word_of l.word))

abbrev pub decreases-sum_value : goal.decreases-sum_value
decreases-sum_value g l = works (terms_of (map (term_of g.L.LabelSet.parts) l.parts.now)) (size (word_of l.word))

abbrev pub decreases-product_value : goal.decreases-product_value
decreases-product_value g l = works (terms_of (map (term_of g.L.LabelSet.parts) l.parts.now)) (size (word_of l.word))

abbrev pub decreases-star_value : goal.decreases-star_value
decreases-star_value g l = work (term_of g.L.LabelSet.parts l.part.now) (size (word_of l.word)) + size (word_of l.word) + 1

abbrev pub decreases-shuffle_value : goal.decreases-shuffle_value
decreases-shuffle_value g l = work (term_of g.L.LabelSet.parts l.a.now) (size (word_of l.word)) + work (term_of g.L.LabelSet.parts l.b.now) (size (word_of l.word)) + 1

-- what is left of the sum, onto the total
abbrev pub invariant-sum_value-loop-part : goal.invariant-sum_value-loop-part
invariant-sum_value-loop-part g l =
    let R = g.S.Semiring.set in
    let term = term_of g.L.LabelSet.parts in
    let w = word_of l.word in
    IsLeft R (λ t. coefficient_steps R (term t) w) (λ t. coefficient_of R (term t) w)
    (coefficient_of R (Sum (terms_of (map term l.parts))) w) (coefficient_answer R (Sum (terms_of (map term l.parts))) w) l.total (drop l.part-index l.parts)
    × IsTrue (R.in_range l.total)

abbrev pub invariant-product_value-loop-u : goal.invariant-product_value-loop-u
invariant-product_value-loop-u g l =
    let R = g.S.Semiring.set in
    let t = term_of g.L.LabelSet.parts l.first in
    let ts = terms_of (map (term_of g.L.LabelSet.parts) l.rest) in
    let w = word_of l.word in
    IsLeft R (factor_steps (coefficient_of R t) (coefficient_steps R t) (product_coefficient R ts) (product_steps R ts)) (λ c. R.times (coefficient_of R t c.0) (product_coefficient R ts c.1))
    (coefficient_of R (Product (MoreTerms t ts)) w) (coefficient_answer R (Product (MoreTerms t ts)) w) l.total (drop l.u-index l.u-items)
    × IsTrue (R.in_range l.total)

abbrev pub invariant-star_value-loop-u : goal.invariant-star_value-loop-u
invariant-star_value-loop-u g l =
    let R = g.S.Semiring.set in
    let f = coefficient_of R (term_of g.L.LabelSet.parts l.part) in
    let fs = coefficient_steps R (term_of g.L.LabelSet.parts l.part) in
    let w = word_of l.word in
    IsLeft R (own_cut R f fs) (value_cut R f fs) (sum_over R (value_cut R f fs) (cuts w))
    (outcome R (adding_steps R (own_cut R f fs) (value_cut R f fs) R.zero (cuts w)) (sum_over R (value_cut R f fs) (cuts w))) l.total (drop l.u-index l.u-items)
    × IsTrue (R.in_range l.total)

abbrev pub invariant-shuffle_value-loop-u : goal.invariant-shuffle_value-loop-u
invariant-shuffle_value-loop-u g l =
    let R = g.S.Semiring.set in
    let t = term_of g.L.LabelSet.parts l.a in
    let u = term_of g.L.LabelSet.parts l.b in
    let w = word_of l.word in
    IsLeft R (factor_steps (coefficient_of R t) (coefficient_steps R t) (coefficient_of R u) (coefficient_steps R u)) (λ c. R.times (coefficient_of R t c.0) (coefficient_of R u c.1))
    (coefficient_of R (Shuffle t u) w) (coefficient_answer R (Shuffle t u) w) l.total (drop l.u-index l.u-items)
    × IsTrue (R.in_range l.total)
