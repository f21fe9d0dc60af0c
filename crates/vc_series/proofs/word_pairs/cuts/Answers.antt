use Rattle.std.proofs.Common.{rules, ◌≡◌, ◌<◌, ◌≤◌, ◌-◌, arith, [], ◌∷◌, map, length, drop, get_or, All, subst, sym, length-drop}
use Rattle.std.specs.List.{flat_map}
use Rattle.vc_label.specs.Borrowed.{word_of}
use Rattle.vc_model.specs.Words.{Word, Tape, cuts, tape_cuts}
use Rattle.vc_series.proofs.Pairs.{cuts_tapes, cuts_before}
use Rattle.vc_series.proofs.word_pairs.cuts.Goals as goal

pub cuts_with-requires-clause-tapes : goal.cuts_with-requires-clause-tapes
cuts_with-requires-clause-tapes c =
    let w = word_of c.args.word in
    let k = c.loop-tape.tape in
    let p : 0 < k = search rules in
    let few : length w ≤ 4 = search rules in
    let h : k < length w = c.loop-tape.invariant.0 in
    let e : c.deref.result.now ≡ cuts (drop k w) = search rules in
    subst (λ xs. All (λ (d : Word × Word). (length d.0 < 4) × (length d.1 < 4)) xs) (sym e) (cuts_tapes 4 (drop k w) (omega (arith, length-drop k w, p, few, h)))

pub loop-tape-preserved : goal.loop-tape-preserved
loop-tape-preserved c =
    let w = word_of c.args.word in
    let k = c.loop-tape.tape in
    let p : 0 < k = search rules in
    let h : k < length w = c.loop-tape.invariant.0 in
    let d : c.deref.result.now ≡ cuts (drop k w) = search rules in
    let t : c.tape-in-loop-tape.result.now ≡ get_or w (k - 1) [] = search rules in
    let e : c.in_ok-pairs-2.pairs.items ≡ flat_map (λ (x : Tape × Tape). map (λ (d : Word × Word). (x.0 ∷ d.0, x.1 ∷ d.1)) (cuts (drop k w))) (tape_cuts (get_or w (k - 1) [])) = search (rules, d, t, c.in_ok-pairs-2.ensures) in
    (omega (arith, h), cuts_before k w c.in_ok-pairs-2.pairs.items p h e)
