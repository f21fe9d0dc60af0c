use Rattle.std.proofs.Common.{rules, arith, ◌≡◌, ◌+◌, ◌<◌, ◌≤◌, ◌∷◌, [], map, drop, length, slice_index_or, IsTrue, true, false, Ok, Err, refl, sym, ap, ◌∙◌, subst}
use Rattle.std.proofs.lemmas.Result.{err_from_is_err_and}
use Rattle.vc_label.specs.Borrowed.{word_of}
use Rattle.vc_model.specs.Series.{star_series}
use Rattle.vc_model.specs.Sums.{sum_over}
use Rattle.vc_model.specs.WordLaws.{length-empty_word}
use Rattle.vc_model.specs.Words.{cuts, emptied, empty_word, is_empty, size}
use Rattle.vc_ring.specs.Steps.{outcome}
use Rattle.vc_series.specs.Answers.{coefficient_answer, IsSlowAnswer, star_answer}
use Rattle.vc_series.specs.Conditions.{HasCoefficient, HaveCoefficients}
use Rattle.vc_series.specs.Steps.{adding_steps, coefficient_steps, factor_steps, product_steps, star_steps, tape_pairs}
use Rattle.vc_series.specs.Trees.{term_of}
use Rattle.vc_series.specs.declared.fault.SlowFault.TheVariants.{Overflow as Unfit}
use Rattle.vc_terms.specs.Terms.{Sum, Product, Star, Weight, Both, Shuffle, MoreTerms, terms_of, coefficient_of, product_coefficient}
use Rattle.vc_series.proofs.Arms.{handed_on, weight_refused, weight_answer, both_first, both_second, both_answer, sum_in, empty_size}
use Rattle.vc_series.proofs.Loops.{started, left_at, left_none, sum_begins, product_begins, shuffle_begins, constant_refused, star_unfit, star_of_empty, sum_refused, star_multiplied, product_at, member_steps_at, member_at}
use Rattle.vc_series.proofs.TermOf.{term_of-Sum, term_of-Product, term_of-Star, term_of-Weight, term_of-Both, term_of-Shuffle}
use Rattle.vc_series.proofs.Parts.{part_has, cut_pair, shuffle_pair, first_size, second_size, later_size, sum_has, product_has, weight_has, both_has, star_has, shuffle_has, first_has}
use Rattle.vc_series.proofs.StarSteps.{own_cut, value_cut, full_cut, empty_cut}
use Rattle.vc_series.proofs.Summing.{IsLeft, all_left, value_is, left_added, left_unfit, left_refused, pair_added, pair_unfit, pair_first, pair_second, left_skipped}
use Rattle.vc_series.proofs.Work.{work, works, part_less, sum_less, product_less, star_less, weight_less, both_less, shuffle_less, first_less, star_part_less, star_later_less, shuffle_parts_less}
use Rattle.vc_series.proofs.by_definition.+values.Goals as goal
use Rattle.vc_series.proofs.by_definition.+values.Goals.{star_value-then-not-is_empty+in_ok-of_part+in_ok-of_star+in_ok-total, star_value-else-not-is_empty}

pub product_value-loop-u-init : goal.product_value-loop-u-init
product_value-loop-u-init g t c =
    let R = g.S.Semiring.set in
    let L = g.met.S.Semiring.laws in
    let G = g.met.S.Semiring.ranges in
    let term = term_of g.L.LabelSet.parts in
    let w = word_of c.args.word in
    let ps = c.args.parts.now in
    let first = term c.in-Some.first.now in
    let rest = terms_of (map term c.in-Some.rest.now) in
    let parts_are : ps ≡ c.in-Some.first.now ∷ c.in-Some.rest.now = c.in-Some.ensures.cases.0 in
    let f = coefficient_of R first in
    let fs = coefficient_steps R first in
    let h = product_coefficient R rest in
    let hs = product_steps R rest in
    let own = factor_steps f fs h hs in
    let val = product_at R f h in
    let whole = Product (MoreTerms first rest) in
    let z = coefficient_of R whole w in
    let answer = coefficient_answer R whole w in
    let cs = c.deref-u-items.result.now in
    let cuts_are : cs ≡ cuts w = c.deref-u-items.ensures.value ∙ c.in_ok-cuts.ensures in
    started R own val z answer G c.zero-total.result cs c.zero-total.ensures (product_begins R first rest w L cs cuts_are)

pub product_value-value-requires : goal.product_value-value-requires
product_value-value-requires g t c κs within =
    let R = g.S.Semiring.set in
    let L = g.met.S.Semiring.laws in
    let G = g.met.S.Semiring.ranges in
    let term = term_of g.L.LabelSet.parts in
    let w = word_of c.args.word in
    let ps = c.args.parts.now in
    let first = term c.in-Some.first.now in
    let rest = terms_of (map term c.in-Some.rest.now) in
    let parts_are : ps ≡ c.in-Some.first.now ∷ c.in-Some.rest.now = c.in-Some.ensures.cases.0 in
    let f = coefficient_of R first in
    let fs = coefficient_steps R first in
    let h = product_coefficient R rest in
    let hs = product_steps R rest in
    let own = factor_steps f fs h hs in
    let val = product_at R f h in
    let whole = Product (MoreTerms first rest) in
    let z = coefficient_of R whole w in
    let answer = coefficient_answer R whole w in
    let cs = c.deref-u-items.result.now in
    let cuts_are : cs ≡ cuts w = c.deref-u-items.ensures.value ∙ c.in_ok-cuts.ensures in
    let i = c.loop-u.u-index in
    let x = c.loop-u-item.result in
    let lt : i < length cs = c.loop-u-test.true in
    let pair = cut_pair w cs cuts_are i x c.loop-u-item.is lt in
    let u : word_of c.word.result ≡ x.0 = c.word.ensures in
    let H : HaveCoefficients R (length w) (MoreTerms first rest) = subst (λ ys. HaveCoefficients R (length w) (terms_of (map term ys))) parts_are c.requires in
    let D : works (terms_of (map term ps)) (size w) ≡ works (MoreTerms first rest) (size w) = ap (λ ys. works (terms_of (map term ys)) (size w)) parts_are in
    let s = first_size w x (word_of c.word.result) pair u in
    let less = (first_less first rest (size (word_of c.word.result)) (size w) s.0).0 in
    (omega (arith, less, D, c.decreases), (within.0, (within.1.0, (within.1.1.0, (within.1.1.1, subst (λ n. HasCoefficient R n first) (sym s.1) (first_has R (length w) first rest H).0)))))

pub product_value-returns-in_err-of_first-clause-answer : goal.product_value-returns-in_err-of_first-clause-answer
product_value-returns-in_err-of_first-clause-answer g t c =
    let R = g.S.Semiring.set in
    let L = g.met.S.Semiring.laws in
    let G = g.met.S.Semiring.ranges in
    let term = term_of g.L.LabelSet.parts in
    let w = word_of c.args.word in
    let ps = c.args.parts.now in
    let first = term c.in-Some.first.now in
    let rest = terms_of (map term c.in-Some.rest.now) in
    let parts_are : ps ≡ c.in-Some.first.now ∷ c.in-Some.rest.now = c.in-Some.ensures.cases.0 in
    let f = coefficient_of R first in
    let fs = coefficient_steps R first in
    let h = product_coefficient R rest in
    let hs = product_steps R rest in
    let own = factor_steps f fs h hs in
    let val = product_at R f h in
    let whole = Product (MoreTerms first rest) in
    let z = coefficient_of R whole w in
    let answer = coefficient_answer R whole w in
    let cs = c.deref-u-items.result.now in
    let cuts_are : cs ≡ cuts w = c.deref-u-items.ensures.value ∙ c.in_ok-cuts.ensures in
    let i = c.loop-u.u-index in
    let x = c.loop-u-item.result in
    let lt : i < length cs = c.loop-u-test.true in
    let l = left_at R own val z answer c.loop-u.total cs i x c.loop-u-item.is lt c.loop-u.invariant.0 in
    let u : word_of c.word.result ≡ x.0 = c.word.ensures in
    let r = err_from_is_err_and c.from_residual-in_err-of_first.result c.from_residual-in_err-of_first.ensures.1 in
    subst (λ ys. IsSlowAnswer (coefficient_answer R (Product (terms_of (map term ys))) w) c.from_residual-in_err-of_first.result) (sym parts_are)
    (handed_on R answer c.from_residual-in_err-of_first.result r.0 c.in_err-of_first.field-0.0 r.1 r.2
    (pair_first R f fs h hs own val z answer c.loop-u.total x (drop (i + 1) cs) c.in_err-of_first.field-0.0 (refl, refl) l (subst (λ y. IsSlowAnswer (coefficient_answer R first y) (Err c.in_err-of_first.field-0.0)) u c.in_err-of_first.ensures.answer)))

pub product_value-product_value-requires : goal.product_value-product_value-requires
product_value-product_value-requires g t c κs within =
    let R = g.S.Semiring.set in
    let L = g.met.S.Semiring.laws in
    let G = g.met.S.Semiring.ranges in
    let term = term_of g.L.LabelSet.parts in
    let w = word_of c.args.word in
    let ps = c.args.parts.now in
    let first = term c.in-Some.first.now in
    let rest = terms_of (map term c.in-Some.rest.now) in
    let parts_are : ps ≡ c.in-Some.first.now ∷ c.in-Some.rest.now = c.in-Some.ensures.cases.0 in
    let f = coefficient_of R first in
    let fs = coefficient_steps R first in
    let h = product_coefficient R rest in
    let hs = product_steps R rest in
    let own = factor_steps f fs h hs in
    let val = product_at R f h in
    let whole = Product (MoreTerms first rest) in
    let z = coefficient_of R whole w in
    let answer = coefficient_answer R whole w in
    let cs = c.deref-u-items.result.now in
    let cuts_are : cs ≡ cuts w = c.deref-u-items.ensures.value ∙ c.in_ok-cuts.ensures in
    let i = c.loop-u.u-index in
    let x = c.loop-u-item.result in
    let lt : i < length cs = c.loop-u-test.true in
    let pair = cut_pair w cs cuts_are i x c.loop-u-item.is lt in
    let v : word_of c.word-in-loop-u.result ≡ x.1 = c.word-in-loop-u.ensures in
    let H : HaveCoefficients R (length w) (MoreTerms first rest) = subst (λ ys. HaveCoefficients R (length w) (terms_of (map term ys))) parts_are c.requires in
    let D : works (terms_of (map term ps)) (size w) ≡ works (MoreTerms first rest) (size w) = ap (λ ys. works (terms_of (map term ys)) (size w)) parts_are in
    let s = second_size w x (word_of c.word-in-loop-u.result) pair v in
    let less = (first_less first rest (size (word_of c.word-in-loop-u.result)) (size w) s.0).1 in
    (omega (arith, less, D, c.decreases), (within.0, (within.1.0, (within.1.1.0, (within.1.1.1, subst (λ n. HaveCoefficients R n rest) (sym s.1) (first_has R (length w) first rest H).1)))))

pub product_value-returns-in_err-of_rest-clause-answer : goal.product_value-returns-in_err-of_rest-clause-answer
product_value-returns-in_err-of_rest-clause-answer g t c =
    let R = g.S.Semiring.set in
    let L = g.met.S.Semiring.laws in
    let G = g.met.S.Semiring.ranges in
    let term = term_of g.L.LabelSet.parts in
    let w = word_of c.args.word in
    let ps = c.args.parts.now in
    let first = term c.in-Some.first.now in
    let rest = terms_of (map term c.in-Some.rest.now) in
    let parts_are : ps ≡ c.in-Some.first.now ∷ c.in-Some.rest.now = c.in-Some.ensures.cases.0 in
    let f = coefficient_of R first in
    let fs = coefficient_steps R first in
    let h = product_coefficient R rest in
    let hs = product_steps R rest in
    let own = factor_steps f fs h hs in
    let val = product_at R f h in
    let whole = Product (MoreTerms first rest) in
    let z = coefficient_of R whole w in
    let answer = coefficient_answer R whole w in
    let cs = c.deref-u-items.result.now in
    let cuts_are : cs ≡ cuts w = c.deref-u-items.ensures.value ∙ c.in_ok-cuts.ensures in
    let i = c.loop-u.u-index in
    let x = c.loop-u-item.result in
    let lt : i < length cs = c.loop-u-test.true in
    let l = left_at R own val z answer c.loop-u.total cs i x c.loop-u-item.is lt c.loop-u.invariant.0 in
    let u : word_of c.word.result ≡ x.0 = c.word.ensures in
    let v : word_of c.word-in-loop-u.result ≡ x.1 = c.word-in-loop-u.ensures in
    let r = err_from_is_err_and c.from_residual-in_err-of_rest.result c.from_residual-in_err-of_rest.ensures.1 in
    subst (λ ys. IsSlowAnswer (coefficient_answer R (Product (terms_of (map term ys))) w) c.from_residual-in_err-of_rest.result) (sym parts_are)
    (handed_on R answer c.from_residual-in_err-of_rest.result r.0 c.in_err-of_rest.field-0.0 r.1 r.2
    (pair_second R f fs h hs own val z answer c.loop-u.total c.in_ok-of_first.of_first x (drop (i + 1) cs) c.in_err-of_rest.field-0.0 (refl, refl) l (ap (coefficient_answer R first) (sym u) ∙ c.in_ok-of_first.ensures.answer) (subst (λ y. IsSlowAnswer (coefficient_answer R (Product rest) y) (Err c.in_err-of_rest.field-0.0)) v c.in_err-of_rest.ensures.answer)))

pub product_value-returns-in_err-total-clause-answer : goal.product_value-returns-in_err-total-clause-answer
product_value-returns-in_err-total-clause-answer g t c =
    let R = g.S.Semiring.set in
    let L = g.met.S.Semiring.laws in
    let G = g.met.S.Semiring.ranges in
    let term = term_of g.L.LabelSet.parts in
    let w = word_of c.args.word in
    let ps = c.args.parts.now in
    let first = term c.in-Some.first.now in
    let rest = terms_of (map term c.in-Some.rest.now) in
    let parts_are : ps ≡ c.in-Some.first.now ∷ c.in-Some.rest.now = c.in-Some.ensures.cases.0 in
    let f = coefficient_of R first in
    let fs = coefficient_steps R first in
    let h = product_coefficient R rest in
    let hs = product_steps R rest in
    let own = factor_steps f fs h hs in
    let val = product_at R f h in
    let whole = Product (MoreTerms first rest) in
    let z = coefficient_of R whole w in
    let answer = coefficient_answer R whole w in
    let cs = c.deref-u-items.result.now in
    let cuts_are : cs ≡ cuts w = c.deref-u-items.ensures.value ∙ c.in_ok-cuts.ensures in
    let i = c.loop-u.u-index in
    let x = c.loop-u-item.result in
    let lt : i < length cs = c.loop-u-test.true in
    let l = left_at R own val z answer c.loop-u.total cs i x c.loop-u-item.is lt c.loop-u.invariant.0 in
    let u : word_of c.word.result ≡ x.0 = c.word.ensures in
    let v : word_of c.word-in-loop-u.result ≡ x.1 = c.word-in-loop-u.ensures in
    let r = err_from_is_err_and c.from_residual-in_err-total.result c.from_residual-in_err-total.ensures.1 in
    subst (λ ys. IsSlowAnswer (coefficient_answer R (Product (terms_of (map term ys))) w) c.from_residual-in_err-total.result) (sym parts_are)
    (handed_on R answer c.from_residual-in_err-total.result r.0 (Unfit c.in_err-total.field-0.0) r.1 r.2
    (pair_unfit R f fs h hs own val z answer c.loop-u.total c.in_ok-of_first.of_first c.in_ok-of_rest.of_rest c.in_err-total.field-0.0 x (drop (i + 1) cs) (refl, refl) l (ap (coefficient_answer R first) (sym u) ∙ c.in_ok-of_first.ensures.answer) (ap (coefficient_answer R (Product rest)) (sym v) ∙ c.in_ok-of_rest.ensures.answer) c.in_err-total.ensures.value))

pub product_value-loop-u-preserved : goal.product_value-loop-u-preserved
product_value-loop-u-preserved g t c =
    let R = g.S.Semiring.set in
    let L = g.met.S.Semiring.laws in
    let G = g.met.S.Semiring.ranges in
    let term = term_of g.L.LabelSet.parts in
    let w = word_of c.args.word in
    let ps = c.args.parts.now in
    let first = term c.in-Some.first.now in
    let rest = terms_of (map term c.in-Some.rest.now) in
    let parts_are : ps ≡ c.in-Some.first.now ∷ c.in-Some.rest.now = c.in-Some.ensures.cases.0 in
    let f = coefficient_of R first in
    let fs = coefficient_steps R first in
    let h = product_coefficient R rest in
    let hs = product_steps R rest in
    let own = factor_steps f fs h hs in
    let val = product_at R f h in
    let whole = Product (MoreTerms first rest) in
    let z = coefficient_of R whole w in
    let answer = coefficient_answer R whole w in
    let cs = c.deref-u-items.result.now in
    let cuts_are : cs ≡ cuts w = c.deref-u-items.ensures.value ∙ c.in_ok-cuts.ensures in
    let i = c.loop-u.u-index in
    let x = c.loop-u-item.result in
    let lt : i < length cs = c.loop-u-test.true in
    let l = left_at R own val z answer c.loop-u.total cs i x c.loop-u-item.is lt c.loop-u.invariant.0 in
    let u : word_of c.word.result ≡ x.0 = c.word.ensures in
    let v : word_of c.word-in-loop-u.result ≡ x.1 = c.word-in-loop-u.ensures in
    (pair_added R f fs h hs own val z answer L c.loop-u.total c.in_ok-of_first.of_first c.in_ok-of_rest.of_rest c.in_ok-total.total x (drop (i + 1) cs) (refl, refl) l (ap (coefficient_answer R first) (sym u) ∙ c.in_ok-of_first.ensures.answer) (ap (coefficient_answer R (Product rest)) (sym v) ∙ c.in_ok-of_rest.ensures.answer) c.in_ok-total.ensures.value, c.in_ok-total.ensures.in_range)

pub product_value-returns-clause-answer : goal.product_value-returns-clause-answer
product_value-returns-clause-answer g t c =
    let R = g.S.Semiring.set in
    let L = g.met.S.Semiring.laws in
    let G = g.met.S.Semiring.ranges in
    let term = term_of g.L.LabelSet.parts in
    let w = word_of c.args.word in
    let ps = c.args.parts.now in
    let first = term c.in-Some.first.now in
    let rest = terms_of (map term c.in-Some.rest.now) in
    let parts_are : ps ≡ c.in-Some.first.now ∷ c.in-Some.rest.now = c.in-Some.ensures.cases.0 in
    let f = coefficient_of R first in
    let fs = coefficient_steps R first in
    let h = product_coefficient R rest in
    let hs = product_steps R rest in
    let own = factor_steps f fs h hs in
    let val = product_at R f h in
    let whole = Product (MoreTerms first rest) in
    let z = coefficient_of R whole w in
    let answer = coefficient_answer R whole w in
    let cs = c.deref-u-items.result.now in
    let cuts_are : cs ≡ cuts w = c.deref-u-items.ensures.value ∙ c.in_ok-cuts.ensures in
    let done : c.loop-u.u-index ≡ length cs = search rules in
    let all = left_none R own val z answer L c.loop-u.total cs c.loop-u.u-index done c.loop-u.invariant.0 in
    ap (λ ys. coefficient_answer R (Product (terms_of (map term ys))) w) parts_are ∙ all

pub shuffle_value-loop-u-init : goal.shuffle_value-loop-u-init
shuffle_value-loop-u-init g t c =
    let R = g.S.Semiring.set in
    let L = g.met.S.Semiring.laws in
    let G = g.met.S.Semiring.ranges in
    let term = term_of g.L.LabelSet.parts in
    let w = word_of c.args.word in
    let first = term c.args.a.now in
    let second = term c.args.b.now in
    let f = coefficient_of R first in
    let fs = coefficient_steps R first in
    let h = coefficient_of R second in
    let hs = coefficient_steps R second in
    let own = factor_steps f fs h hs in
    let val = product_at R f h in
    let whole = Shuffle first second in
    let z = coefficient_of R whole w in
    let answer = coefficient_answer R whole w in
    let cs = c.deref-u-items.result.now in
    let has = shuffle_has R (length w) first second c.requires in
    let pairs_are : cs ≡ tape_pairs (slice_index_or w 0 []) = c.deref-u-items.ensures.value ∙ c.in_ok-tape_pairs.ensures ∙ ap tape_pairs c.tape.ensures.value in
    started R own val z answer G c.zero-total.result cs c.zero-total.ensures (shuffle_begins R first second w L cs pairs_are)

pub shuffle_value-value-requires : goal.shuffle_value-value-requires
shuffle_value-value-requires g t c κs within =
    let R = g.S.Semiring.set in
    let L = g.met.S.Semiring.laws in
    let G = g.met.S.Semiring.ranges in
    let term = term_of g.L.LabelSet.parts in
    let w = word_of c.args.word in
    let first = term c.args.a.now in
    let second = term c.args.b.now in
    let f = coefficient_of R first in
    let fs = coefficient_steps R first in
    let h = coefficient_of R second in
    let hs = coefficient_steps R second in
    let own = factor_steps f fs h hs in
    let val = product_at R f h in
    let whole = Shuffle first second in
    let z = coefficient_of R whole w in
    let answer = coefficient_answer R whole w in
    let cs = c.deref-u-items.result.now in
    let has = shuffle_has R (length w) first second c.requires in
    let pairs_are : cs ≡ tape_pairs (slice_index_or w 0 []) = c.deref-u-items.ensures.value ∙ c.in_ok-tape_pairs.ensures ∙ ap tape_pairs c.tape.ensures.value in
    let i = c.loop-u.u-index in
    let x = c.loop-u-item.result in
    let lt : i < length cs = c.loop-u-test.true in
    let pair = shuffle_pair w cs has.0 pairs_are i x c.loop-u-item.is lt in
    let u : word_of c.word.result ≡ x.0 = c.word.ensures in
    let s = first_size w x (word_of c.word.result) pair u in
    let less = (shuffle_parts_less first second (size (word_of c.word.result)) (size w) s.0).0 in
    (omega (arith, less, c.decreases), (within.0, (within.1.0, (within.1.1.0, (within.1.1.1, subst (λ n. HasCoefficient R n first) (sym s.1) has.1.0)))))

pub shuffle_value-returns-in_err-first-clause-answer : goal.shuffle_value-returns-in_err-first-clause-answer
shuffle_value-returns-in_err-first-clause-answer g t c =
    let R = g.S.Semiring.set in
    let L = g.met.S.Semiring.laws in
    let G = g.met.S.Semiring.ranges in
    let term = term_of g.L.LabelSet.parts in
    let w = word_of c.args.word in
    let first = term c.args.a.now in
    let second = term c.args.b.now in
    let f = coefficient_of R first in
    let fs = coefficient_steps R first in
    let h = coefficient_of R second in
    let hs = coefficient_steps R second in
    let own = factor_steps f fs h hs in
    let val = product_at R f h in
    let whole = Shuffle first second in
    let z = coefficient_of R whole w in
    let answer = coefficient_answer R whole w in
    let cs = c.deref-u-items.result.now in
    let has = shuffle_has R (length w) first second c.requires in
    let pairs_are : cs ≡ tape_pairs (slice_index_or w 0 []) = c.deref-u-items.ensures.value ∙ c.in_ok-tape_pairs.ensures ∙ ap tape_pairs c.tape.ensures.value in
    let i = c.loop-u.u-index in
    let x = c.loop-u-item.result in
    let lt : i < length cs = c.loop-u-test.true in
    let l = left_at R own val z answer c.loop-u.total cs i x c.loop-u-item.is lt c.loop-u.invariant.0 in
    let u : word_of c.word.result ≡ x.0 = c.word.ensures in
    let r = err_from_is_err_and c.from_residual-in_err-first.result c.from_residual-in_err-first.ensures.1 in
    handed_on R answer c.from_residual-in_err-first.result r.0 c.in_err-first.field-0.0 r.1 r.2
    (pair_first R f fs h hs own val z answer c.loop-u.total x (drop (i + 1) cs) c.in_err-first.field-0.0 (refl, refl) l (subst (λ y. IsSlowAnswer (coefficient_answer R first y) (Err c.in_err-first.field-0.0)) u c.in_err-first.ensures.answer))

pub shuffle_value-value-requires-in-loop-u : goal.shuffle_value-value-requires-in-loop-u
shuffle_value-value-requires-in-loop-u g t c κs within =
    let R = g.S.Semiring.set in
    let L = g.met.S.Semiring.laws in
    let G = g.met.S.Semiring.ranges in
    let term = term_of g.L.LabelSet.parts in
    let w = word_of c.args.word in
    let first = term c.args.a.now in
    let second = term c.args.b.now in
    let f = coefficient_of R first in
    let fs = coefficient_steps R first in
    let h = coefficient_of R second in
    let hs = coefficient_steps R second in
    let own = factor_steps f fs h hs in
    let val = product_at R f h in
    let whole = Shuffle first second in
    let z = coefficient_of R whole w in
    let answer = coefficient_answer R whole w in
    let cs = c.deref-u-items.result.now in
    let has = shuffle_has R (length w) first second c.requires in
    let pairs_are : cs ≡ tape_pairs (slice_index_or w 0 []) = c.deref-u-items.ensures.value ∙ c.in_ok-tape_pairs.ensures ∙ ap tape_pairs c.tape.ensures.value in
    let i = c.loop-u.u-index in
    let x = c.loop-u-item.result in
    let lt : i < length cs = c.loop-u-test.true in
    let pair = shuffle_pair w cs has.0 pairs_are i x c.loop-u-item.is lt in
    let v : word_of c.word-in-loop-u.result ≡ x.1 = c.word-in-loop-u.ensures in
    let s = second_size w x (word_of c.word-in-loop-u.result) pair v in
    let less = (shuffle_parts_less first second (size (word_of c.word-in-loop-u.result)) (size w) s.0).1 in
    (omega (arith, less, c.decreases), (within.0, (within.1.0, (within.1.1.0, (within.1.1.1, subst (λ n. HasCoefficient R n second) (sym s.1) has.1.1)))))

pub shuffle_value-returns-in_err-second-clause-answer : goal.shuffle_value-returns-in_err-second-clause-answer
shuffle_value-returns-in_err-second-clause-answer g t c =
    let R = g.S.Semiring.set in
    let L = g.met.S.Semiring.laws in
    let G = g.met.S.Semiring.ranges in
    let term = term_of g.L.LabelSet.parts in
    let w = word_of c.args.word in
    let first = term c.args.a.now in
    let second = term c.args.b.now in
    let f = coefficient_of R first in
    let fs = coefficient_steps R first in
    let h = coefficient_of R second in
    let hs = coefficient_steps R second in
    let own = factor_steps f fs h hs in
    let val = product_at R f h in
    let whole = Shuffle first second in
    let z = coefficient_of R whole w in
    let answer = coefficient_answer R whole w in
    let cs = c.deref-u-items.result.now in
    let has = shuffle_has R (length w) first second c.requires in
    let pairs_are : cs ≡ tape_pairs (slice_index_or w 0 []) = c.deref-u-items.ensures.value ∙ c.in_ok-tape_pairs.ensures ∙ ap tape_pairs c.tape.ensures.value in
    let i = c.loop-u.u-index in
    let x = c.loop-u-item.result in
    let lt : i < length cs = c.loop-u-test.true in
    let l = left_at R own val z answer c.loop-u.total cs i x c.loop-u-item.is lt c.loop-u.invariant.0 in
    let u : word_of c.word.result ≡ x.0 = c.word.ensures in
    let v : word_of c.word-in-loop-u.result ≡ x.1 = c.word-in-loop-u.ensures in
    let r = err_from_is_err_and c.from_residual-in_err-second.result c.from_residual-in_err-second.ensures.1 in
    handed_on R answer c.from_residual-in_err-second.result r.0 c.in_err-second.field-0.0 r.1 r.2
    (pair_second R f fs h hs own val z answer c.loop-u.total c.in_ok-first.first x (drop (i + 1) cs) c.in_err-second.field-0.0 (refl, refl) l (ap (coefficient_answer R first) (sym u) ∙ c.in_ok-first.ensures.answer) (subst (λ y. IsSlowAnswer (coefficient_answer R second y) (Err c.in_err-second.field-0.0)) v c.in_err-second.ensures.answer))

pub shuffle_value-returns-in_err-total-clause-answer : goal.shuffle_value-returns-in_err-total-clause-answer
shuffle_value-returns-in_err-total-clause-answer g t c =
    let R = g.S.Semiring.set in
    let L = g.met.S.Semiring.laws in
    let G = g.met.S.Semiring.ranges in
    let term = term_of g.L.LabelSet.parts in
    let w = word_of c.args.word in
    let first = term c.args.a.now in
    let second = term c.args.b.now in
    let f = coefficient_of R first in
    let fs = coefficient_steps R first in
    let h = coefficient_of R second in
    let hs = coefficient_steps R second in
    let own = factor_steps f fs h hs in
    let val = product_at R f h in
    let whole = Shuffle first second in
    let z = coefficient_of R whole w in
    let answer = coefficient_answer R whole w in
    let cs = c.deref-u-items.result.now in
    let has = shuffle_has R (length w) first second c.requires in
    let pairs_are : cs ≡ tape_pairs (slice_index_or w 0 []) = c.deref-u-items.ensures.value ∙ c.in_ok-tape_pairs.ensures ∙ ap tape_pairs c.tape.ensures.value in
    let i = c.loop-u.u-index in
    let x = c.loop-u-item.result in
    let lt : i < length cs = c.loop-u-test.true in
    let l = left_at R own val z answer c.loop-u.total cs i x c.loop-u-item.is lt c.loop-u.invariant.0 in
    let u : word_of c.word.result ≡ x.0 = c.word.ensures in
    let v : word_of c.word-in-loop-u.result ≡ x.1 = c.word-in-loop-u.ensures in
    let r = err_from_is_err_and c.from_residual-in_err-total.result c.from_residual-in_err-total.ensures.1 in
    handed_on R answer c.from_residual-in_err-total.result r.0 (Unfit c.in_err-total.field-0.0) r.1 r.2
    (pair_unfit R f fs h hs own val z answer c.loop-u.total c.in_ok-first.first c.in_ok-second.second c.in_err-total.field-0.0 x (drop (i + 1) cs) (refl, refl) l (ap (coefficient_answer R first) (sym u) ∙ c.in_ok-first.ensures.answer) (ap (coefficient_answer R second) (sym v) ∙ c.in_ok-second.ensures.answer) c.in_err-total.ensures.value)

pub shuffle_value-loop-u-preserved : goal.shuffle_value-loop-u-preserved
shuffle_value-loop-u-preserved g t c =
    let R = g.S.Semiring.set in
    let L = g.met.S.Semiring.laws in
    let G = g.met.S.Semiring.ranges in
    let term = term_of g.L.LabelSet.parts in
    let w = word_of c.args.word in
    let first = term c.args.a.now in
    let second = term c.args.b.now in
    let f = coefficient_of R first in
    let fs = coefficient_steps R first in
    let h = coefficient_of R second in
    let hs = coefficient_steps R second in
    let own = factor_steps f fs h hs in
    let val = product_at R f h in
    let whole = Shuffle first second in
    let z = coefficient_of R whole w in
    let answer = coefficient_answer R whole w in
    let cs = c.deref-u-items.result.now in
    let has = shuffle_has R (length w) first second c.requires in
    let pairs_are : cs ≡ tape_pairs (slice_index_or w 0 []) = c.deref-u-items.ensures.value ∙ c.in_ok-tape_pairs.ensures ∙ ap tape_pairs c.tape.ensures.value in
    let i = c.loop-u.u-index in
    let x = c.loop-u-item.result in
    let lt : i < length cs = c.loop-u-test.true in
    let l = left_at R own val z answer c.loop-u.total cs i x c.loop-u-item.is lt c.loop-u.invariant.0 in
    let u : word_of c.word.result ≡ x.0 = c.word.ensures in
    let v : word_of c.word-in-loop-u.result ≡ x.1 = c.word-in-loop-u.ensures in
    (pair_added R f fs h hs own val z answer L c.loop-u.total c.in_ok-first.first c.in_ok-second.second c.in_ok-total.total x (drop (i + 1) cs) (refl, refl) l (ap (coefficient_answer R first) (sym u) ∙ c.in_ok-first.ensures.answer) (ap (coefficient_answer R second) (sym v) ∙ c.in_ok-second.ensures.answer) c.in_ok-total.ensures.value, c.in_ok-total.ensures.in_range)

pub shuffle_value-returns-clause-answer : goal.shuffle_value-returns-clause-answer
shuffle_value-returns-clause-answer g t c =
    let R = g.S.Semiring.set in
    let L = g.met.S.Semiring.laws in
    let G = g.met.S.Semiring.ranges in
    let term = term_of g.L.LabelSet.parts in
    let w = word_of c.args.word in
    let first = term c.args.a.now in
    let second = term c.args.b.now in
    let f = coefficient_of R first in
    let fs = coefficient_steps R first in
    let h = coefficient_of R second in
    let hs = coefficient_steps R second in
    let own = factor_steps f fs h hs in
    let val = product_at R f h in
    let whole = Shuffle first second in
    let z = coefficient_of R whole w in
    let answer = coefficient_answer R whole w in
    let cs = c.deref-u-items.result.now in
    let has = shuffle_has R (length w) first second c.requires in
    let pairs_are : cs ≡ tape_pairs (slice_index_or w 0 []) = c.deref-u-items.ensures.value ∙ c.in_ok-tape_pairs.ensures ∙ ap tape_pairs c.tape.ensures.value in
    let done : c.loop-u.u-index ≡ length cs = search rules in
    let all = left_none R own val z answer L c.loop-u.total cs c.loop-u.u-index done c.loop-u.invariant.0 in
    all

pub star_value-value-requires : goal.star_value-value-requires
star_value-value-requires g t c κs within =
    let R = g.S.Semiring.set in
    let L = g.met.S.Semiring.laws in
    let G = g.met.S.Semiring.ranges in
    let term = term_of g.L.LabelSet.parts in
    let w = word_of c.args.word in
    let part = term c.args.part.now in
    let f = coefficient_of R part in
    let fs = coefficient_steps R part in
    let has = star_has R (length w) part c.requires in
    let empty : word_of c.word.result ≡ emptied w = c.word.ensures ∙ c.new-empty.ensures ∙ ap empty_word c.tapes.ensures.value in
    let le : size (word_of c.word.result) ≤ size w = subst (λ y. size y ≤ size w) (sym empty) (empty_size w) in
    let less = star_part_less part (size (word_of c.word.result)) (size w) le in
    let n : length (word_of c.word.result) ≡ length w = ap length empty ∙ length-empty_word (length w) in
    (omega (arith, less, c.decreases), (within.0, (within.1.0, (within.1.1.0, (within.1.1.1, subst (λ m. HasCoefficient R m part) (sym n) has.0)))))

pub star_value-returns-in_err-constant-clause-answer : goal.star_value-returns-in_err-constant-clause-answer
star_value-returns-in_err-constant-clause-answer g t c =
    let R = g.S.Semiring.set in
    let L = g.met.S.Semiring.laws in
    let G = g.met.S.Semiring.ranges in
    let term = term_of g.L.LabelSet.parts in
    let w = word_of c.args.word in
    let part = term c.args.part.now in
    let f = coefficient_of R part in
    let fs = coefficient_steps R part in
    let has = star_has R (length w) part c.requires in
    let empty : word_of c.word.result ≡ emptied w = c.word.ensures ∙ c.new-empty.ensures ∙ ap empty_word c.tapes.ensures.value in
    let r = err_from_is_err_and c.from_residual.result c.from_residual.ensures.1 in
    handed_on R (coefficient_answer R (Star part) w) c.from_residual.result r.0 c.in_err-constant.field-0.0 r.1 r.2
    (constant_refused R f fs w c.in_err-constant.field-0.0 (subst (λ y. IsSlowAnswer (coefficient_answer R part y) (Err c.in_err-constant.field-0.0)) empty c.in_err-constant.ensures.answer))

pub star_value-valid_star-requires-clause-has_star : goal.star_value-valid_star-requires-clause-has_star
star_value-valid_star-requires-clause-has_star g t c =
    let R = g.S.Semiring.set in
    let L = g.met.S.Semiring.laws in
    let G = g.met.S.Semiring.ranges in
    let term = term_of g.L.LabelSet.parts in
    let w = word_of c.args.word in
    let part = term c.args.part.now in
    let f = coefficient_of R part in
    let fs = coefficient_steps R part in
    let has = star_has R (length w) part c.requires in
    let empty : word_of c.word.result ≡ emptied w = c.word.ensures ∙ c.new-empty.ensures ∙ ap empty_word c.tapes.ensures.value in
    let k = c.in_ok-constant.constant in
    let constant : coefficient_answer R part (emptied w) ≡ Ok k = ap (coefficient_answer R part) (sym empty) ∙ c.in_ok-constant.ensures.answer in
    let starred : IsTrue (R.has_star k) = subst (λ y. IsTrue (R.has_star y)) (value_is R (fs (emptied w)) (f (emptied w)) k constant) has.1 in
    starred

pub star_value-returns-in_err-star-clause-answer : goal.star_value-returns-in_err-star-clause-answer
star_value-returns-in_err-star-clause-answer g t c =
    let R = g.S.Semiring.set in
    let L = g.met.S.Semiring.laws in
    let G = g.met.S.Semiring.ranges in
    let term = term_of g.L.LabelSet.parts in
    let w = word_of c.args.word in
    let part = term c.args.part.now in
    let f = coefficient_of R part in
    let fs = coefficient_steps R part in
    let has = star_has R (length w) part c.requires in
    let empty : word_of c.word.result ≡ emptied w = c.word.ensures ∙ c.new-empty.ensures ∙ ap empty_word c.tapes.ensures.value in
    let k = c.in_ok-constant.constant in
    let constant : coefficient_answer R part (emptied w) ≡ Ok k = ap (coefficient_answer R part) (sym empty) ∙ c.in_ok-constant.ensures.answer in
    let starred : IsTrue (R.has_star k) = subst (λ y. IsTrue (R.has_star y)) (value_is R (fs (emptied w)) (f (emptied w)) k constant) has.1 in
    let r = err_from_is_err_and c.from_residual-in_err-star.result c.from_residual-in_err-star.ensures.1 in
    handed_on R (coefficient_answer R (Star part) w) c.from_residual-in_err-star.result r.0 (Unfit c.in_err-star.field-0.0) r.1 r.2
    (star_unfit R f fs w k constant c.in_err-star.field-0.0 c.in_err-star.ensures.value)

pub star_value-returns-then-is_empty-clause-answer : goal.star_value-returns-then-is_empty-clause-answer
star_value-returns-then-is_empty-clause-answer g t c =
    let R = g.S.Semiring.set in
    let L = g.met.S.Semiring.laws in
    let G = g.met.S.Semiring.ranges in
    let term = term_of g.L.LabelSet.parts in
    let w = word_of c.args.word in
    let part = term c.args.part.now in
    let f = coefficient_of R part in
    let fs = coefficient_steps R part in
    let has = star_has R (length w) part c.requires in
    let empty : word_of c.word.result ≡ emptied w = c.word.ensures ∙ c.new-empty.ensures ∙ ap empty_word c.tapes.ensures.value in
    let k = c.in_ok-constant.constant in
    let constant : coefficient_answer R part (emptied w) ≡ Ok k = ap (coefficient_answer R part) (sym empty) ∙ c.in_ok-constant.ensures.answer in
    let starred : IsTrue (R.has_star k) = subst (λ y. IsTrue (R.has_star y)) (value_is R (fs (emptied w)) (f (emptied w)) k constant) has.1 in
    let s = c.in_ok-star.star in
    let star : Ok s ≡ star_answer R k = c.in_ok-star.ensures.value in
    star_of_empty R f fs w k constant s star starred (sym c.is_empty.ensures ∙ c.if-is_empty.true)

pub star_value-loop-u-init : goal.star_value-loop-u-init
star_value-loop-u-init g t c =
    let R = g.S.Semiring.set in
    let L = g.met.S.Semiring.laws in
    let G = g.met.S.Semiring.ranges in
    let term = term_of g.L.LabelSet.parts in
    let w = word_of c.args.word in
    let part = term c.args.part.now in
    let f = coefficient_of R part in
    let fs = coefficient_steps R part in
    let has = star_has R (length w) part c.requires in
    let empty : word_of c.word.result ≡ emptied w = c.word.ensures ∙ c.new-empty.ensures ∙ ap empty_word c.tapes.ensures.value in
    let not_empty : is_empty w ≡ false = sym c.is_empty.ensures ∙ c.if-is_empty.false in
    let own = own_cut R f fs in
    let val = value_cut R f fs in
    let z = sum_over R val (cuts w) in
    let answer = outcome R (adding_steps R own val R.zero (cuts w)) z in
    let h = star_series R f in
    let hs = star_steps R f fs in
    let cs = c.deref-u-items.result.now in
    let cuts_are : cs ≡ cuts w = c.deref-u-items.ensures.value ∙ c.in_ok-cuts.ensures in
    started R own val z answer G c.zero-total.result cs c.zero-total.ensures (subst (λ ds. IsLeft R own val z answer R.zero ds) (sym cuts_are) (all_left R own val L (cuts w)))

pub star_value-value-requires-then-not-is_empty : goal.star_value-value-requires-then-not-is_empty
star_value-value-requires-then-not-is_empty g t c κs within =
    let R = g.S.Semiring.set in
    let L = g.met.S.Semiring.laws in
    let G = g.met.S.Semiring.ranges in
    let term = term_of g.L.LabelSet.parts in
    let w = word_of c.args.word in
    let part = term c.args.part.now in
    let f = coefficient_of R part in
    let fs = coefficient_steps R part in
    let has = star_has R (length w) part c.requires in
    let empty : word_of c.word.result ≡ emptied w = c.word.ensures ∙ c.new-empty.ensures ∙ ap empty_word c.tapes.ensures.value in
    let not_empty : is_empty w ≡ false = sym c.is_empty.ensures ∙ c.if-is_empty.false in
    let own = own_cut R f fs in
    let val = value_cut R f fs in
    let z = sum_over R val (cuts w) in
    let answer = outcome R (adding_steps R own val R.zero (cuts w)) z in
    let h = star_series R f in
    let hs = star_steps R f fs in
    let cs = c.deref-u-items.result.now in
    let cuts_are : cs ≡ cuts w = c.deref-u-items.ensures.value ∙ c.in_ok-cuts.ensures in
    let i = c.loop-u.u-index in
    let x = c.loop-u-item.result in
    let lt : i < length cs = c.loop-u-test.true in
    let pair = cut_pair w cs cuts_are i x c.loop-u-item.is lt in
    let u : word_of c.word-then-not-is_empty.result ≡ x.0 = c.word-then-not-is_empty.ensures in
    let s = first_size w x (word_of c.word-then-not-is_empty.result) pair u in
    let less = star_part_less part (size (word_of c.word-then-not-is_empty.result)) (size w) s.0 in
    (omega (arith, less, c.decreases), (within.0, (within.1.0, (within.1.1.0, (within.1.1.1, subst (λ n. HasCoefficient R n part) (sym s.1) has.0)))))

pub star_value-returns-in_err-of_part-clause-answer : goal.star_value-returns-in_err-of_part-clause-answer
star_value-returns-in_err-of_part-clause-answer g t c =
    let R = g.S.Semiring.set in
    let L = g.met.S.Semiring.laws in
    let G = g.met.S.Semiring.ranges in
    let term = term_of g.L.LabelSet.parts in
    let w = word_of c.args.word in
    let part = term c.args.part.now in
    let f = coefficient_of R part in
    let fs = coefficient_steps R part in
    let has = star_has R (length w) part c.requires in
    let empty : word_of c.word.result ≡ emptied w = c.word.ensures ∙ c.new-empty.ensures ∙ ap empty_word c.tapes.ensures.value in
    let k = c.in_ok-constant.constant in
    let constant : coefficient_answer R part (emptied w) ≡ Ok k = ap (coefficient_answer R part) (sym empty) ∙ c.in_ok-constant.ensures.answer in
    let starred : IsTrue (R.has_star k) = subst (λ y. IsTrue (R.has_star y)) (value_is R (fs (emptied w)) (f (emptied w)) k constant) has.1 in
    let s = c.in_ok-star.star in
    let star : Ok s ≡ star_answer R k = c.in_ok-star.ensures.value in
    let not_empty : is_empty w ≡ false = sym c.is_empty.ensures ∙ c.if-is_empty.false in
    let own = own_cut R f fs in
    let val = value_cut R f fs in
    let z = sum_over R val (cuts w) in
    let answer = outcome R (adding_steps R own val R.zero (cuts w)) z in
    let h = star_series R f in
    let hs = star_steps R f fs in
    let cs = c.deref-u-items.result.now in
    let cuts_are : cs ≡ cuts w = c.deref-u-items.ensures.value ∙ c.in_ok-cuts.ensures in
    let i = c.loop-u.u-index in
    let x = c.loop-u-item.result in
    let lt : i < length cs = c.loop-u-test.true in
    let l = left_at R own val z answer c.loop-u.total cs i x c.loop-u-item.is lt c.loop-u.invariant.0 in
    let full : is_empty x.0 ≡ false = search (rules, c.is_empty-in-loop-u.ensures, c.word-in-loop-u.ensures, c.if-not-is_empty.true) in
    let same : (own x ≡ factor_steps f fs h hs x) × (val x ≡ R.times (f x.0) (h x.1)) = full_cut R f fs x full in
    let u : word_of c.word-then-not-is_empty.result ≡ x.0 = c.word-then-not-is_empty.ensures in
    let r = err_from_is_err_and c.from_residual-in_err-of_part.result c.from_residual-in_err-of_part.ensures.1 in
    handed_on R (coefficient_answer R (Star part) w) c.from_residual-in_err-of_part.result r.0 c.in_err-of_part.field-0.0 r.1 r.2
    (sum_refused R f fs w k constant s star starred c.in_err-of_part.field-0.0 not_empty (pair_first R f fs h hs own val z answer c.loop-u.total x (drop (i + 1) cs) c.in_err-of_part.field-0.0 same l (subst (λ y. IsSlowAnswer (coefficient_answer R part y) (Err c.in_err-of_part.field-0.0)) u c.in_err-of_part.ensures.answer)))

pub star_value-star_value-requires : goal.star_value-star_value-requires
star_value-star_value-requires g t c κs within =
    let R = g.S.Semiring.set in
    let L = g.met.S.Semiring.laws in
    let G = g.met.S.Semiring.ranges in
    let term = term_of g.L.LabelSet.parts in
    let w = word_of c.args.word in
    let part = term c.args.part.now in
    let f = coefficient_of R part in
    let fs = coefficient_steps R part in
    let has = star_has R (length w) part c.requires in
    let empty : word_of c.word.result ≡ emptied w = c.word.ensures ∙ c.new-empty.ensures ∙ ap empty_word c.tapes.ensures.value in
    let not_empty : is_empty w ≡ false = sym c.is_empty.ensures ∙ c.if-is_empty.false in
    let own = own_cut R f fs in
    let val = value_cut R f fs in
    let z = sum_over R val (cuts w) in
    let answer = outcome R (adding_steps R own val R.zero (cuts w)) z in
    let h = star_series R f in
    let hs = star_steps R f fs in
    let cs = c.deref-u-items.result.now in
    let cuts_are : cs ≡ cuts w = c.deref-u-items.ensures.value ∙ c.in_ok-cuts.ensures in
    let i = c.loop-u.u-index in
    let x = c.loop-u-item.result in
    let lt : i < length cs = c.loop-u-test.true in
    let pair = cut_pair w cs cuts_are i x c.loop-u-item.is lt in
    let full : is_empty x.0 ≡ false = search (rules, c.is_empty-in-loop-u.ensures, c.word-in-loop-u.ensures, c.if-not-is_empty.true) in
    let v : word_of c.word-then-not-is_empty-2.result ≡ x.1 = c.word-then-not-is_empty-2.ensures in
    let s = second_size w x (word_of c.word-then-not-is_empty-2.result) pair v in
    let less = star_later_less part (size (word_of c.word-then-not-is_empty-2.result)) (size w) (later_size w x (word_of c.word-then-not-is_empty-2.result) pair v full) in
    (omega (arith, less, c.decreases), (within.0, (within.1.0, (within.1.1.0, (within.1.1.1, subst (λ n. HasCoefficient R n (Star part)) (sym s.1) c.requires)))))

pub star_value-returns-in_err-of_star-clause-answer : goal.star_value-returns-in_err-of_star-clause-answer
star_value-returns-in_err-of_star-clause-answer g t c =
    let R = g.S.Semiring.set in
    let L = g.met.S.Semiring.laws in
    let G = g.met.S.Semiring.ranges in
    let term = term_of g.L.LabelSet.parts in
    let w = word_of c.args.word in
    let part = term c.args.part.now in
    let f = coefficient_of R part in
    let fs = coefficient_steps R part in
    let has = star_has R (length w) part c.requires in
    let empty : word_of c.word.result ≡ emptied w = c.word.ensures ∙ c.new-empty.ensures ∙ ap empty_word c.tapes.ensures.value in
    let k = c.in_ok-constant.constant in
    let constant : coefficient_answer R part (emptied w) ≡ Ok k = ap (coefficient_answer R part) (sym empty) ∙ c.in_ok-constant.ensures.answer in
    let starred : IsTrue (R.has_star k) = subst (λ y. IsTrue (R.has_star y)) (value_is R (fs (emptied w)) (f (emptied w)) k constant) has.1 in
    let s = c.in_ok-star.star in
    let star : Ok s ≡ star_answer R k = c.in_ok-star.ensures.value in
    let not_empty : is_empty w ≡ false = sym c.is_empty.ensures ∙ c.if-is_empty.false in
    let own = own_cut R f fs in
    let val = value_cut R f fs in
    let z = sum_over R val (cuts w) in
    let answer = outcome R (adding_steps R own val R.zero (cuts w)) z in
    let h = star_series R f in
    let hs = star_steps R f fs in
    let cs = c.deref-u-items.result.now in
    let cuts_are : cs ≡ cuts w = c.deref-u-items.ensures.value ∙ c.in_ok-cuts.ensures in
    let i = c.loop-u.u-index in
    let x = c.loop-u-item.result in
    let lt : i < length cs = c.loop-u-test.true in
    let l = left_at R own val z answer c.loop-u.total cs i x c.loop-u-item.is lt c.loop-u.invariant.0 in
    let full : is_empty x.0 ≡ false = search (rules, c.is_empty-in-loop-u.ensures, c.word-in-loop-u.ensures, c.if-not-is_empty.true) in
    let same : (own x ≡ factor_steps f fs h hs x) × (val x ≡ R.times (f x.0) (h x.1)) = full_cut R f fs x full in
    let u : word_of c.word-then-not-is_empty.result ≡ x.0 = c.word-then-not-is_empty.ensures in
    let v : word_of c.word-then-not-is_empty-2.result ≡ x.1 = c.word-then-not-is_empty-2.ensures in
    let r = err_from_is_err_and c.from_residual-in_err-of_star.result c.from_residual-in_err-of_star.ensures.1 in
    handed_on R (coefficient_answer R (Star part) w) c.from_residual-in_err-of_star.result r.0 c.in_err-of_star.field-0.0 r.1 r.2
    (sum_refused R f fs w k constant s star starred c.in_err-of_star.field-0.0 not_empty (pair_second R f fs h hs own val z answer c.loop-u.total c.in_ok-of_part.of_part x (drop (i + 1) cs) c.in_err-of_star.field-0.0 same l (ap (coefficient_answer R part) (sym u) ∙ c.in_ok-of_part.ensures.answer) (subst (λ y. IsSlowAnswer (coefficient_answer R (Star part) y) (Err c.in_err-of_star.field-0.0)) v c.in_err-of_star.ensures.answer)))

pub star_value-returns-in_err-total-clause-answer : goal.star_value-returns-in_err-total-clause-answer
star_value-returns-in_err-total-clause-answer g t c =
    let R = g.S.Semiring.set in
    let L = g.met.S.Semiring.laws in
    let G = g.met.S.Semiring.ranges in
    let term = term_of g.L.LabelSet.parts in
    let w = word_of c.args.word in
    let part = term c.args.part.now in
    let f = coefficient_of R part in
    let fs = coefficient_steps R part in
    let has = star_has R (length w) part c.requires in
    let empty : word_of c.word.result ≡ emptied w = c.word.ensures ∙ c.new-empty.ensures ∙ ap empty_word c.tapes.ensures.value in
    let k = c.in_ok-constant.constant in
    let constant : coefficient_answer R part (emptied w) ≡ Ok k = ap (coefficient_answer R part) (sym empty) ∙ c.in_ok-constant.ensures.answer in
    let starred : IsTrue (R.has_star k) = subst (λ y. IsTrue (R.has_star y)) (value_is R (fs (emptied w)) (f (emptied w)) k constant) has.1 in
    let s = c.in_ok-star.star in
    let star : Ok s ≡ star_answer R k = c.in_ok-star.ensures.value in
    let not_empty : is_empty w ≡ false = sym c.is_empty.ensures ∙ c.if-is_empty.false in
    let own = own_cut R f fs in
    let val = value_cut R f fs in
    let z = sum_over R val (cuts w) in
    let answer = outcome R (adding_steps R own val R.zero (cuts w)) z in
    let h = star_series R f in
    let hs = star_steps R f fs in
    let cs = c.deref-u-items.result.now in
    let cuts_are : cs ≡ cuts w = c.deref-u-items.ensures.value ∙ c.in_ok-cuts.ensures in
    let i = c.loop-u.u-index in
    let x = c.loop-u-item.result in
    let lt : i < length cs = c.loop-u-test.true in
    let l = left_at R own val z answer c.loop-u.total cs i x c.loop-u-item.is lt c.loop-u.invariant.0 in
    let full : is_empty x.0 ≡ false = search (rules, c.is_empty-in-loop-u.ensures, c.word-in-loop-u.ensures, c.if-not-is_empty.true) in
    let same : (own x ≡ factor_steps f fs h hs x) × (val x ≡ R.times (f x.0) (h x.1)) = full_cut R f fs x full in
    let u : word_of c.word-then-not-is_empty.result ≡ x.0 = c.word-then-not-is_empty.ensures in
    let v : word_of c.word-then-not-is_empty-2.result ≡ x.1 = c.word-then-not-is_empty-2.ensures in
    let r = err_from_is_err_and c.from_residual-in_err-total.result c.from_residual-in_err-total.ensures.1 in
    handed_on R (coefficient_answer R (Star part) w) c.from_residual-in_err-total.result r.0 (Unfit c.in_err-total.field-0.0) r.1 r.2
    (sum_refused R f fs w k constant s star starred (Unfit c.in_err-total.field-0.0) not_empty (pair_unfit R f fs h hs own val z answer c.loop-u.total c.in_ok-of_part.of_part c.in_ok-of_star.of_star c.in_err-total.field-0.0 x (drop (i + 1) cs) same l (ap (coefficient_answer R part) (sym u) ∙ c.in_ok-of_part.ensures.answer) (ap (coefficient_answer R (Star part)) (sym v) ∙ c.in_ok-of_star.ensures.answer) c.in_err-total.ensures.value))

pub star_value-loop-u-preserved : goal.star_value-loop-u-preserved
star_value-loop-u-preserved g t c =
    let R = g.S.Semiring.set in
    let L = g.met.S.Semiring.laws in
    let G = g.met.S.Semiring.ranges in
    let term = term_of g.L.LabelSet.parts in
    let w = word_of c.args.word in
    let part = term c.args.part.now in
    let f = coefficient_of R part in
    let fs = coefficient_steps R part in
    let has = star_has R (length w) part c.requires in
    let empty : word_of c.word.result ≡ emptied w = c.word.ensures ∙ c.new-empty.ensures ∙ ap empty_word c.tapes.ensures.value in
    let not_empty : is_empty w ≡ false = sym c.is_empty.ensures ∙ c.if-is_empty.false in
    let own = own_cut R f fs in
    let val = value_cut R f fs in
    let z = sum_over R val (cuts w) in
    let answer = outcome R (adding_steps R own val R.zero (cuts w)) z in
    let h = star_series R f in
    let hs = star_steps R f fs in
    let cs = c.deref-u-items.result.now in
    let cuts_are : cs ≡ cuts w = c.deref-u-items.ensures.value ∙ c.in_ok-cuts.ensures in
    let i = c.loop-u.u-index in
    let x = c.loop-u-item.result in
    let lt : i < length cs = c.loop-u-test.true in
    let l = left_at R own val z answer c.loop-u.total cs i x c.loop-u-item.is lt c.loop-u.invariant.0 in
    elim c.if-not-is_empty.branch [
      | star_value-then-not-is_empty+in_ok-of_part+in_ok-of_star+in_ok-total b ↦
          let full : is_empty x.0 ≡ false = search (rules, c.is_empty-in-loop-u.ensures, c.word-in-loop-u.ensures, b.if-not-is_empty.true) in
          let same : (own x ≡ factor_steps f fs h hs x) × (val x ≡ R.times (f x.0) (h x.1)) = full_cut R f fs x full in
          let u : word_of b.word-then-not-is_empty.result ≡ x.0 = b.word-then-not-is_empty.ensures in
          let v : word_of b.word-then-not-is_empty-2.result ≡ x.1 = b.word-then-not-is_empty-2.ensures in
          let t : c.if-not-is_empty.total ≡ b.in_ok-total.total = search rules in
          subst (λ y. IsLeft R own val z answer y (drop (i + 1) cs) × IsTrue (R.in_range y)) (sym t)
          (pair_added R f fs h hs own val z answer L c.loop-u.total b.in_ok-of_part.of_part b.in_ok-of_star.of_star b.in_ok-total.total x (drop (i + 1) cs) same l (ap (coefficient_answer R part) (sym u) ∙ b.in_ok-of_part.ensures.answer) (ap (coefficient_answer R (Star part)) (sym v) ∙ b.in_ok-of_star.ensures.answer) b.in_ok-total.ensures.value, b.in_ok-total.ensures.in_range)
      | star_value-else-not-is_empty b ↦
          let none : is_empty x.0 ≡ true = search (rules, c.is_empty-in-loop-u.ensures, c.word-in-loop-u.ensures, b.if-not-is_empty.false) in
          let t : c.if-not-is_empty.total ≡ c.loop-u.total = search rules in
          let e = empty_cut R f fs x none in
          subst (λ y. IsLeft R own val z answer y (drop (i + 1) cs) × IsTrue (R.in_range y)) (sym t)
          (left_skipped R own val z answer L G c.loop-u.total x (drop (i + 1) cs) c.loop-u.invariant.1 e.0 e.1 l, c.loop-u.invariant.1)
    ]

pub star_value-returns-in_err-mul-clause-answer : goal.star_value-returns-in_err-mul-clause-answer
star_value-returns-in_err-mul-clause-answer g t c =
    let R = g.S.Semiring.set in
    let L = g.met.S.Semiring.laws in
    let G = g.met.S.Semiring.ranges in
    let term = term_of g.L.LabelSet.parts in
    let w = word_of c.args.word in
    let part = term c.args.part.now in
    let f = coefficient_of R part in
    let fs = coefficient_steps R part in
    let has = star_has R (length w) part c.requires in
    let empty : word_of c.word.result ≡ emptied w = c.word.ensures ∙ c.new-empty.ensures ∙ ap empty_word c.tapes.ensures.value in
    let k = c.in_ok-constant.constant in
    let constant : coefficient_answer R part (emptied w) ≡ Ok k = ap (coefficient_answer R part) (sym empty) ∙ c.in_ok-constant.ensures.answer in
    let starred : IsTrue (R.has_star k) = subst (λ y. IsTrue (R.has_star y)) (value_is R (fs (emptied w)) (f (emptied w)) k constant) has.1 in
    let s = c.in_ok-star.star in
    let star : Ok s ≡ star_answer R k = c.in_ok-star.ensures.value in
    let not_empty : is_empty w ≡ false = sym c.is_empty.ensures ∙ c.if-is_empty.false in
    let own = own_cut R f fs in
    let val = value_cut R f fs in
    let z = sum_over R val (cuts w) in
    let answer = outcome R (adding_steps R own val R.zero (cuts w)) z in
    let h = star_series R f in
    let hs = star_steps R f fs in
    let cs = c.deref-u-items.result.now in
    let cuts_are : cs ≡ cuts w = c.deref-u-items.ensures.value ∙ c.in_ok-cuts.ensures in
    let done : c.loop-u.u-index ≡ length cs = search rules in
    let sum = left_none R own val z answer L c.loop-u.total cs c.loop-u.u-index done c.loop-u.invariant.0 in
    let r = err_from_is_err_and c.from_residual-in_err-mul.result c.from_residual-in_err-mul.ensures.1 in
    handed_on R (coefficient_answer R (Star part) w) c.from_residual-in_err-mul.result r.0 (Unfit c.in_err-mul.field-0.0) r.1 r.2
    (star_multiplied R f fs w k constant s star starred c.loop-u.total not_empty sum ∙ sym c.in_err-mul.ensures)

pub star_value-returns-clause-answer : goal.star_value-returns-clause-answer
star_value-returns-clause-answer g t c =
    let R = g.S.Semiring.set in
    let L = g.met.S.Semiring.laws in
    let G = g.met.S.Semiring.ranges in
    let term = term_of g.L.LabelSet.parts in
    let w = word_of c.args.word in
    let part = term c.args.part.now in
    let f = coefficient_of R part in
    let fs = coefficient_steps R part in
    let has = star_has R (length w) part c.requires in
    let empty : word_of c.word.result ≡ emptied w = c.word.ensures ∙ c.new-empty.ensures ∙ ap empty_word c.tapes.ensures.value in
    let k = c.in_ok-constant.constant in
    let constant : coefficient_answer R part (emptied w) ≡ Ok k = ap (coefficient_answer R part) (sym empty) ∙ c.in_ok-constant.ensures.answer in
    let starred : IsTrue (R.has_star k) = subst (λ y. IsTrue (R.has_star y)) (value_is R (fs (emptied w)) (f (emptied w)) k constant) has.1 in
    let s = c.in_ok-star.star in
    let star : Ok s ≡ star_answer R k = c.in_ok-star.ensures.value in
    let not_empty : is_empty w ≡ false = sym c.is_empty.ensures ∙ c.if-is_empty.false in
    let own = own_cut R f fs in
    let val = value_cut R f fs in
    let z = sum_over R val (cuts w) in
    let answer = outcome R (adding_steps R own val R.zero (cuts w)) z in
    let h = star_series R f in
    let hs = star_steps R f fs in
    let cs = c.deref-u-items.result.now in
    let cuts_are : cs ≡ cuts w = c.deref-u-items.ensures.value ∙ c.in_ok-cuts.ensures in
    let done : c.loop-u.u-index ≡ length cs = search rules in
    let sum = left_none R own val z answer L c.loop-u.total cs c.loop-u.u-index done c.loop-u.invariant.0 in
    star_multiplied R f fs w k constant s star starred c.loop-u.total not_empty sum ∙ sym c.in_ok-mul.ensures

pub sum_value-loop-part-init : goal.sum_value-loop-part-init
sum_value-loop-part-init g t c =
    let R = g.S.Semiring.set in
    let L = g.met.S.Semiring.laws in
    let G = g.met.S.Semiring.ranges in
    let term = term_of g.L.LabelSet.parts in
    let w = word_of c.args.word in
    let ps = c.args.parts.now in
    let own = member_steps_at R term w in
    let f = member_at R term w in
    let whole = Sum (terms_of (map term ps)) in
    let z = coefficient_of R whole w in
    let answer = coefficient_answer R whole w in
    started R own f z answer G c.zero-total.result ps c.zero-total.ensures (sum_begins R term w L ps)

pub sum_value-value-requires : goal.sum_value-value-requires
sum_value-value-requires g t c κs within =
    let R = g.S.Semiring.set in
    let L = g.met.S.Semiring.laws in
    let G = g.met.S.Semiring.ranges in
    let term = term_of g.L.LabelSet.parts in
    let w = word_of c.args.word in
    let ps = c.args.parts.now in
    let i = c.loop-part.part-index in
    let x = c.part-item.result in
    let h : i < length ps = c.loop-part-test.true in
    let f : work (term x) (size w) < works (terms_of (map term ps)) (size w) = subst (λ y. work (term y) (size w) < works (terms_of (map term ps)) (size w)) (sym c.part-item.is) (part_less term ps i x (size w) h) in
    let H : HasCoefficient R (length w) (term x) = subst (λ y. HasCoefficient R (length w) (term y)) (sym c.part-item.is) (part_has R (length w) term ps i x h c.requires) in
    (omega (arith, f, c.decreases), (within.0, (within.1.0, (within.1.1.0, (within.1.1.1, H)))))

pub sum_value-returns-in_err-of_part-clause-answer : goal.sum_value-returns-in_err-of_part-clause-answer
sum_value-returns-in_err-of_part-clause-answer g t c =
    let R = g.S.Semiring.set in
    let L = g.met.S.Semiring.laws in
    let G = g.met.S.Semiring.ranges in
    let term = term_of g.L.LabelSet.parts in
    let w = word_of c.args.word in
    let ps = c.args.parts.now in
    let own = member_steps_at R term w in
    let f = member_at R term w in
    let whole = Sum (terms_of (map term ps)) in
    let z = coefficient_of R whole w in
    let answer = coefficient_answer R whole w in
    let i = c.loop-part.part-index in
    let x = c.part-item.result in
    let h : i < length ps = c.loop-part-test.true in
    let l = left_at R own f z answer c.loop-part.total ps i x c.part-item.is h c.loop-part.invariant.0 in
    let r = err_from_is_err_and c.from_residual.result c.from_residual.ensures.1 in
    handed_on R answer c.from_residual.result r.0 c.in_err-of_part.field-0.0 r.1 r.2
    (left_refused R own f z answer c.loop-part.total x (drop (i + 1) ps) c.in_err-of_part.field-0.0 l c.in_err-of_part.ensures.answer)

pub sum_value-returns-in_err-total-clause-answer : goal.sum_value-returns-in_err-total-clause-answer
sum_value-returns-in_err-total-clause-answer g t c =
    let R = g.S.Semiring.set in
    let L = g.met.S.Semiring.laws in
    let G = g.met.S.Semiring.ranges in
    let term = term_of g.L.LabelSet.parts in
    let w = word_of c.args.word in
    let ps = c.args.parts.now in
    let own = member_steps_at R term w in
    let f = member_at R term w in
    let whole = Sum (terms_of (map term ps)) in
    let z = coefficient_of R whole w in
    let answer = coefficient_answer R whole w in
    let i = c.loop-part.part-index in
    let x = c.part-item.result in
    let h : i < length ps = c.loop-part-test.true in
    let l = left_at R own f z answer c.loop-part.total ps i x c.part-item.is h c.loop-part.invariant.0 in
    let r = err_from_is_err_and c.from_residual-in_err-total.result c.from_residual-in_err-total.ensures.1 in
    handed_on R answer c.from_residual-in_err-total.result r.0 (Unfit c.in_err-total.field-0.0) r.1 r.2
    (left_unfit R own f z answer c.loop-part.total c.in_ok-of_part.of_part c.in_err-total.field-0.0 x (drop (i + 1) ps) l c.in_ok-of_part.ensures.answer c.in_err-total.ensures)

pub sum_value-loop-part-preserved : goal.sum_value-loop-part-preserved
sum_value-loop-part-preserved g t c =
    let R = g.S.Semiring.set in
    let L = g.met.S.Semiring.laws in
    let G = g.met.S.Semiring.ranges in
    let term = term_of g.L.LabelSet.parts in
    let w = word_of c.args.word in
    let ps = c.args.parts.now in
    let own = member_steps_at R term w in
    let f = member_at R term w in
    let whole = Sum (terms_of (map term ps)) in
    let z = coefficient_of R whole w in
    let answer = coefficient_answer R whole w in
    let i = c.loop-part.part-index in
    let x = c.part-item.result in
    let h : i < length ps = c.loop-part-test.true in
    let l = left_at R own f z answer c.loop-part.total ps i x c.part-item.is h c.loop-part.invariant.0 in
    let q : IsTrue (R.in_range c.in_ok-total.total) = sum_in R G c.loop-part.total c.in_ok-of_part.of_part c.in_ok-total.total c.loop-part.invariant.1 c.in_ok-of_part.ensures.in_range c.in_ok-total.ensures in
    (left_added R own f z answer L c.loop-part.total c.in_ok-of_part.of_part c.in_ok-total.total x (drop (i + 1) ps) l c.in_ok-of_part.ensures.answer c.in_ok-total.ensures, q)

pub sum_value-returns-clause-answer : goal.sum_value-returns-clause-answer
sum_value-returns-clause-answer g t c =
    let R = g.S.Semiring.set in
    let L = g.met.S.Semiring.laws in
    let G = g.met.S.Semiring.ranges in
    let term = term_of g.L.LabelSet.parts in
    let w = word_of c.args.word in
    let ps = c.args.parts.now in
    let own = member_steps_at R term w in
    let f = member_at R term w in
    let whole = Sum (terms_of (map term ps)) in
    let z = coefficient_of R whole w in
    let answer = coefficient_answer R whole w in
    let h : c.loop-part.part-index ≡ length ps = search rules in
    left_none R own f z answer L c.loop-part.total ps c.loop-part.part-index h c.loop-part.invariant.0

pub value-sum_value-requires : goal.value-sum_value-requires
value-sum_value-requires g t c κs within =
    let R = g.S.Semiring.set in
    let L = g.met.S.Semiring.laws in
    let G = g.met.S.Semiring.ranges in
    let term = term_of g.L.LabelSet.parts in
    let w = word_of c.args.word in
    let ts = terms_of (map term c.deref.result.now) in
    let e : term c.args.tree.now ≡ Sum ts = ap term c.in-Sum.is ∙ term_of-Sum g.L.LabelSet.parts c.in-Sum.parts ∙ ap (λ xs. Sum (terms_of (map term xs))) (sym c.deref.ensures.value) in
    let f = sum_less ts (term c.args.tree.now) (size w) e in
    (omega (arith, f, c.decreases), (within.0, (within.1.0, (within.1.1.0, (within.1.1.1, sum_has R (length w) ts (term c.args.tree.now) e c.requires)))))

pub value-product_value-requires : goal.value-product_value-requires
value-product_value-requires g t c κs within =
    let R = g.S.Semiring.set in
    let L = g.met.S.Semiring.laws in
    let G = g.met.S.Semiring.ranges in
    let term = term_of g.L.LabelSet.parts in
    let w = word_of c.args.word in
    let ts = terms_of (map term c.deref-in-Product.result.now) in
    let e : term c.args.tree.now ≡ Product ts = ap term c.in-Product.is ∙ term_of-Product g.L.LabelSet.parts c.in-Product.parts ∙ ap (λ xs. Product (terms_of (map term xs))) (sym c.deref-in-Product.ensures.value) in
    let f = product_less ts (term c.args.tree.now) (size w) e in
    (omega (arith, f, c.decreases), (within.0, (within.1.0, (within.1.1.0, (within.1.1.1, product_has R (length w) ts (term c.args.tree.now) e c.requires)))))

pub value-star_value-requires : goal.value-star_value-requires
value-star_value-requires g t c κs within =
    let R = g.S.Semiring.set in
    let L = g.met.S.Semiring.laws in
    let G = g.met.S.Semiring.ranges in
    let term = term_of g.L.LabelSet.parts in
    let w = word_of c.args.word in
    let p = term c.deref-in-Star.result.now in
    let e : term c.args.tree.now ≡ Star p = ap term c.in-Star.is ∙ term_of-Star g.L.LabelSet.parts c.in-Star.part ∙ ap (λ x. Star (term x)) (sym c.deref-in-Star.ensures) in
    let f = star_less p (term c.args.tree.now) (size w) e in
    (omega (arith, f, c.decreases), (within.0, (within.1.0, (within.1.1.0, (within.1.1.1, subst (HasCoefficient R (length w)) e c.requires)))))

pub value-value-requires : goal.value-value-requires
value-value-requires g t c κs within =
    let R = g.S.Semiring.set in
    let L = g.met.S.Semiring.laws in
    let G = g.met.S.Semiring.ranges in
    let term = term_of g.L.LabelSet.parts in
    let w = word_of c.args.word in
    let p = term c.deref-in-Weight.result.now in
    let e : term c.args.tree.now ≡ Weight c.in-Weight.k p = ap term c.in-Weight.is ∙ term_of-Weight g.L.LabelSet.parts c.in-Weight.k c.in-Weight.part ∙ ap (λ x. Weight c.in-Weight.k (term x)) (sym c.deref-in-Weight.ensures) in
    let f = weight_less c.in-Weight.k p (term c.args.tree.now) (size w) e in
    (omega (arith, f, c.decreases), (within.0, (within.1.0, (within.1.1.0, (within.1.1.1, (weight_has R (length w) c.in-Weight.k p (term c.args.tree.now) e c.requires).1)))))

pub value-returns-in_err-of_part-in-Weight-clause-answer : goal.value-returns-in_err-of_part-in-Weight-clause-answer
value-returns-in_err-of_part-in-Weight-clause-answer g t c =
    let R = g.S.Semiring.set in
    let L = g.met.S.Semiring.laws in
    let G = g.met.S.Semiring.ranges in
    let term = term_of g.L.LabelSet.parts in
    let w = word_of c.args.word in
    let p = term c.deref-in-Weight.result.now in
    let e : term c.args.tree.now ≡ Weight c.in-Weight.k p = ap term c.in-Weight.is ∙ term_of-Weight g.L.LabelSet.parts c.in-Weight.k c.in-Weight.part ∙ ap (λ x. Weight c.in-Weight.k (term x)) (sym c.deref-in-Weight.ensures) in
    let r = err_from_is_err_and c.from_residual.result c.from_residual.ensures.1 in
    handed_on R (coefficient_answer R (term c.args.tree.now) w) c.from_residual.result r.0 c.in_err-of_part-in-Weight.field-0.0 r.1 r.2
    (weight_refused R c.in-Weight.k p (term c.args.tree.now) w c.in_err-of_part-in-Weight.field-0.0 e c.in_err-of_part-in-Weight.ensures.answer)

pub value-returns-in_err-mul-in-Weight-clause-answer : goal.value-returns-in_err-mul-in-Weight-clause-answer
value-returns-in_err-mul-in-Weight-clause-answer g t c =
    let R = g.S.Semiring.set in
    let L = g.met.S.Semiring.laws in
    let G = g.met.S.Semiring.ranges in
    let term = term_of g.L.LabelSet.parts in
    let w = word_of c.args.word in
    let p = term c.deref-in-Weight.result.now in
    let e : term c.args.tree.now ≡ Weight c.in-Weight.k p = ap term c.in-Weight.is ∙ term_of-Weight g.L.LabelSet.parts c.in-Weight.k c.in-Weight.part ∙ ap (λ x. Weight c.in-Weight.k (term x)) (sym c.deref-in-Weight.ensures) in
    let r = err_from_is_err_and c.from_residual-in_err-mul-in-Weight.result c.from_residual-in_err-mul-in-Weight.ensures.1 in
    handed_on R (coefficient_answer R (term c.args.tree.now) w) c.from_residual-in_err-mul-in-Weight.result r.0 (Unfit c.in_err-mul-in-Weight.field-0.0) r.1 r.2
    (weight_answer R c.in-Weight.k p (term c.args.tree.now) w c.in_ok-of_part-in-Weight.of_part e c.in_ok-of_part-in-Weight.ensures.answer ∙ sym c.in_err-mul-in-Weight.ensures)

pub value-returns-in-Weight-clause-answer : goal.value-returns-in-Weight-clause-answer
value-returns-in-Weight-clause-answer g t c =
    let R = g.S.Semiring.set in
    let L = g.met.S.Semiring.laws in
    let G = g.met.S.Semiring.ranges in
    let term = term_of g.L.LabelSet.parts in
    let w = word_of c.args.word in
    let p = term c.deref-in-Weight.result.now in
    let e : term c.args.tree.now ≡ Weight c.in-Weight.k p = ap term c.in-Weight.is ∙ term_of-Weight g.L.LabelSet.parts c.in-Weight.k c.in-Weight.part ∙ ap (λ x. Weight c.in-Weight.k (term x)) (sym c.deref-in-Weight.ensures) in
    weight_answer R c.in-Weight.k p (term c.args.tree.now) w c.in_ok-of_part-in-Weight.of_part e c.in_ok-of_part-in-Weight.ensures.answer ∙ sym c.in_ok-mul-in-Weight.ensures

pub value-value-requires-in-Both : goal.value-value-requires-in-Both
value-value-requires-in-Both g t c κs within =
    let R = g.S.Semiring.set in
    let L = g.met.S.Semiring.laws in
    let G = g.met.S.Semiring.ranges in
    let term = term_of g.L.LabelSet.parts in
    let w = word_of c.args.word in
    let a = term c.deref-in-Both.result.now in
    let b = term c.in-Both.b.value in
    let e : term c.args.tree.now ≡ Both a b = ap term c.in-Both.is ∙ term_of-Both g.L.LabelSet.parts c.in-Both.a c.in-Both.b ∙ ap (λ x. Both (term x) b) (sym c.deref-in-Both.ensures) in
    let f = (both_less a b (term c.args.tree.now) (size w) e).0 in
    (omega (arith, f, c.decreases), (within.0, (within.1.0, (within.1.1.0, (within.1.1.1, (both_has R (length w) a b (term c.args.tree.now) e c.requires).0)))))

pub value-returns-in_err-first-in-Both-clause-answer : goal.value-returns-in_err-first-in-Both-clause-answer
value-returns-in_err-first-in-Both-clause-answer g t c =
    let R = g.S.Semiring.set in
    let L = g.met.S.Semiring.laws in
    let G = g.met.S.Semiring.ranges in
    let term = term_of g.L.LabelSet.parts in
    let w = word_of c.args.word in
    let a = term c.deref-in-Both.result.now in
    let b = term c.in-Both.b.value in
    let e : term c.args.tree.now ≡ Both a b = ap term c.in-Both.is ∙ term_of-Both g.L.LabelSet.parts c.in-Both.a c.in-Both.b ∙ ap (λ x. Both (term x) b) (sym c.deref-in-Both.ensures) in
    let r = err_from_is_err_and c.from_residual-in_err-first-in-Both.result c.from_residual-in_err-first-in-Both.ensures.1 in
    handed_on R (coefficient_answer R (term c.args.tree.now) w) c.from_residual-in_err-first-in-Both.result r.0 c.in_err-first-in-Both.field-0.0 r.1 r.2
    (both_first R a b (term c.args.tree.now) w c.in_err-first-in-Both.field-0.0 e c.in_err-first-in-Both.ensures.answer)

pub value-value-requires-in-Both-2 : goal.value-value-requires-in-Both-2
value-value-requires-in-Both-2 g t c κs within =
    let R = g.S.Semiring.set in
    let L = g.met.S.Semiring.laws in
    let G = g.met.S.Semiring.ranges in
    let term = term_of g.L.LabelSet.parts in
    let w = word_of c.args.word in
    let a = term c.deref-in-Both.result.now in
    let b = term c.deref-in-Both-2.result.now in
    let e : term c.args.tree.now ≡ Both a b = ap term c.in-Both.is ∙ term_of-Both g.L.LabelSet.parts c.in-Both.a c.in-Both.b ∙ ap (λ x. Both (term x) (term c.in-Both.b.value)) (sym c.deref-in-Both.ensures) ∙ ap (λ x. Both a (term x)) (sym c.deref-in-Both-2.ensures) in
    let f = (both_less a b (term c.args.tree.now) (size w) e).1 in
    (omega (arith, f, c.decreases), (within.0, (within.1.0, (within.1.1.0, (within.1.1.1, (both_has R (length w) a b (term c.args.tree.now) e c.requires).1)))))

pub value-returns-in_err-second-in-Both-clause-answer : goal.value-returns-in_err-second-in-Both-clause-answer
value-returns-in_err-second-in-Both-clause-answer g t c =
    let R = g.S.Semiring.set in
    let L = g.met.S.Semiring.laws in
    let G = g.met.S.Semiring.ranges in
    let term = term_of g.L.LabelSet.parts in
    let w = word_of c.args.word in
    let a = term c.deref-in-Both.result.now in
    let b = term c.deref-in-Both-2.result.now in
    let e : term c.args.tree.now ≡ Both a b = ap term c.in-Both.is ∙ term_of-Both g.L.LabelSet.parts c.in-Both.a c.in-Both.b ∙ ap (λ x. Both (term x) (term c.in-Both.b.value)) (sym c.deref-in-Both.ensures) ∙ ap (λ x. Both a (term x)) (sym c.deref-in-Both-2.ensures) in
    let r = err_from_is_err_and c.from_residual-in_err-second-in-Both.result c.from_residual-in_err-second-in-Both.ensures.1 in
    handed_on R (coefficient_answer R (term c.args.tree.now) w) c.from_residual-in_err-second-in-Both.result r.0 c.in_err-second-in-Both.field-0.0 r.1 r.2
    (both_second R a b (term c.args.tree.now) w c.in_ok-first-in-Both.first c.in_err-second-in-Both.field-0.0 e c.in_ok-first-in-Both.ensures.answer c.in_err-second-in-Both.ensures.answer)

pub value-returns-in_err-mul-in-Both-clause-answer : goal.value-returns-in_err-mul-in-Both-clause-answer
value-returns-in_err-mul-in-Both-clause-answer g t c =
    let R = g.S.Semiring.set in
    let L = g.met.S.Semiring.laws in
    let G = g.met.S.Semiring.ranges in
    let term = term_of g.L.LabelSet.parts in
    let w = word_of c.args.word in
    let a = term c.deref-in-Both.result.now in
    let b = term c.deref-in-Both-2.result.now in
    let e : term c.args.tree.now ≡ Both a b = ap term c.in-Both.is ∙ term_of-Both g.L.LabelSet.parts c.in-Both.a c.in-Both.b ∙ ap (λ x. Both (term x) (term c.in-Both.b.value)) (sym c.deref-in-Both.ensures) ∙ ap (λ x. Both a (term x)) (sym c.deref-in-Both-2.ensures) in
    let r = err_from_is_err_and c.from_residual-in_err-mul-in-Both.result c.from_residual-in_err-mul-in-Both.ensures.1 in
    handed_on R (coefficient_answer R (term c.args.tree.now) w) c.from_residual-in_err-mul-in-Both.result r.0 (Unfit c.in_err-mul-in-Both.field-0.0) r.1 r.2
    (both_answer R a b (term c.args.tree.now) w c.in_ok-first-in-Both.first c.in_ok-second-in-Both.second e c.in_ok-first-in-Both.ensures.answer c.in_ok-second-in-Both.ensures.answer ∙ sym c.in_err-mul-in-Both.ensures)

pub value-returns-in-Both-clause-answer : goal.value-returns-in-Both-clause-answer
value-returns-in-Both-clause-answer g t c =
    let R = g.S.Semiring.set in
    let L = g.met.S.Semiring.laws in
    let G = g.met.S.Semiring.ranges in
    let term = term_of g.L.LabelSet.parts in
    let w = word_of c.args.word in
    let a = term c.deref-in-Both.result.now in
    let b = term c.deref-in-Both-2.result.now in
    let e : term c.args.tree.now ≡ Both a b = ap term c.in-Both.is ∙ term_of-Both g.L.LabelSet.parts c.in-Both.a c.in-Both.b ∙ ap (λ x. Both (term x) (term c.in-Both.b.value)) (sym c.deref-in-Both.ensures) ∙ ap (λ x. Both a (term x)) (sym c.deref-in-Both-2.ensures) in
    both_answer R a b (term c.args.tree.now) w c.in_ok-first-in-Both.first c.in_ok-second-in-Both.second e c.in_ok-first-in-Both.ensures.answer c.in_ok-second-in-Both.ensures.answer ∙ sym c.in_ok-mul-in-Both.ensures

pub value-shuffle_value-requires : goal.value-shuffle_value-requires
value-shuffle_value-requires g t c κs within =
    let R = g.S.Semiring.set in
    let L = g.met.S.Semiring.laws in
    let G = g.met.S.Semiring.ranges in
    let term = term_of g.L.LabelSet.parts in
    let w = word_of c.args.word in
    let a = term c.deref-in-Shuffle.result.now in
    let b = term c.deref-in-Shuffle-2.result.now in
    let e : term c.args.tree.now ≡ Shuffle a b = ap term c.in-Shuffle.is ∙ term_of-Shuffle g.L.LabelSet.parts c.in-Shuffle.a c.in-Shuffle.b ∙ ap (λ x. Shuffle (term x) (term c.in-Shuffle.b.value)) (sym c.deref-in-Shuffle.ensures) ∙ ap (λ x. Shuffle a (term x)) (sym c.deref-in-Shuffle-2.ensures) in
    let f = shuffle_less a b (term c.args.tree.now) (size w) e in
    (omega (arith, f, c.decreases), (within.0, (within.1.0, (within.1.1.0, (within.1.1.1, subst (HasCoefficient R (length w)) e c.requires)))))

pub value-returns-in-Shuffle-clause-answer : goal.value-returns-in-Shuffle-clause-answer
value-returns-in-Shuffle-clause-answer g t c =
    let R = g.S.Semiring.set in
    let L = g.met.S.Semiring.laws in
    let G = g.met.S.Semiring.ranges in
    let term = term_of g.L.LabelSet.parts in
    let w = word_of c.args.word in
    let a = term c.deref-in-Shuffle.result.now in
    let b = term c.deref-in-Shuffle-2.result.now in
    let e : term c.args.tree.now ≡ Shuffle a b = ap term c.in-Shuffle.is ∙ term_of-Shuffle g.L.LabelSet.parts c.in-Shuffle.a c.in-Shuffle.b ∙ ap (λ x. Shuffle (term x) (term c.in-Shuffle.b.value)) (sym c.deref-in-Shuffle.ensures) ∙ ap (λ x. Shuffle a (term x)) (sym c.deref-in-Shuffle-2.ensures) in
    subst (λ x. IsSlowAnswer (coefficient_answer R x w) c.shuffle_value.result) (sym e) c.shuffle_value.ensures.answer
