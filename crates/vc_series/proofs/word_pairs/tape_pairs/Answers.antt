use Rattle.std.proofs.Common.{rules, ◌≡◌, ◌<◌, ◌≤◌, ◌-◌, arith, ◌++◌, map, length, drop, get_or, All, subst, sym}
use Rattle.vc_model.specs.Words.{Word}
use Rattle.vc_series.specs.Steps.{tape_pairs}
use Rattle.vc_series.proofs.Pairs.{letter_at, pairs_tapes, pairs_before, in_first, in_second}
use Rattle.vc_series.proofs.word_pairs.tape_pairs.Goals as goal

pub pairs_with-requires-clause-letter : goal.pairs_with-requires-clause-letter
pairs_with-requires-clause-letter c =
    let h : c.loop-at.at - 1 < length c.args.letters.now = search rules in
    letter_at (c.loop-at.at - 1) c.args.letters.now 0 h c.requires

pub pairs_with-requires-clause-tapes : goal.pairs_with-requires-clause-tapes
pairs_with-requires-clause-tapes c =
    let e : c.deref.result.now ≡ tape_pairs (drop c.loop-at.at c.args.letters.now) = search rules in
    subst (λ xs. All (λ (d : Word × Word). (length d.0 ≡ 1) × (length d.1 ≡ 1)) xs) (sym e) (pairs_tapes (drop c.loop-at.at c.args.letters.now))

pub loop-at-preserved : goal.loop-at-preserved
loop-at-preserved c =
    let a = c.args.letters.now in
    let k = c.loop-at.at in
    let p : 0 < k = search rules in
    let h : k ≤ length a = c.loop-at.invariant.0 in
    let d : c.deref.result.now ≡ tape_pairs (drop k a) = search rules in
    let e : c.in_ok-pairs.pairs.items ≡ map (in_first (get_or a (k - 1) 0)) (tape_pairs (drop k a)) ++ map (in_second (get_or a (k - 1) 0)) (tape_pairs (drop k a)) = search (rules, d, c.in_ok-pairs.ensures) in
    (omega (arith, h), pairs_before k a c.in_ok-pairs.pairs.items p h e)
