use Rattle.std.proofs.Common.{◌≡◌, ℕ, ◌<◌, [], get_or, length, map, ap, sym, ◌∙◌, inl, inr, subst, arith}
use Rattle.std.proofs.lemmas.Bool.{cases_lt}
use Rattle.std.proofs.lemmas.List.{get_or-map}
use Rattle.vc_eval.specs.Positions.{place_of}
use Rattle.vc_label.specs.Borrowed.{word_of}
use Rattle.vc_eval.proofs.Pushes.{All-item}
use Rattle.vc_eval.proofs.size.rows_wanted.Goals as goal

pub more_rows-wanted-requires-clause-tapes : goal.more_rows-wanted-requires-clause-tapes
more_rows-wanted-requires-clause-tapes c =
    All-item (λ l. length l ≡ length (word_of c.args.word)) word_of c.args.labels.now c.loop-number.number c.index-labels-number.result c.requires.tapes c.loop-number-test.true c.index-labels-number.is

pub loop-number-preserved : goal.loop-number-preserved
loop-number-preserved c =
    let w = word_of c.args.word in
    let words = map word_of c.args.labels.now in
    let i = c.loop-number.number in
    let x = c.index-labels-number.result in
    let v = c.loop-number.invariant in
    let kept = c.more_rows-wanted.ensures.kept in
    let some = v.some in
    let read : word_of x ≡ get_or words i [] = ap word_of c.index-labels-number.is ∙ sym (get_or-map word_of c.args.labels.now i x [] c.loop-number-test.true) in
    record {
      some = omega (arith, some, kept);
      most = c.more_rows-wanted.ensures.most;
      window = λ k l b. elim (cases_lt k i) [
        | inl a ↦ let m = v.window k a b in omega (arith, m, kept)
        | inr a ↦
            let e : i ≡ k = omega (arith, a, l) in
            let here : word_of x ≡ get_or words k [] = read ∙ ap (λ (j : ℕ). get_or words j []) e in
            subst (λ u. place_of w u < c.more_rows-wanted.result) here (c.more_rows-wanted.ensures.enough (subst (λ u. place_of w u < c.args.positions) (sym here) b))
      ];
    }
