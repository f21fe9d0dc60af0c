use Rattle.std.proofs.Common.{◌≡◌, ◌+◌, ◌*◌, ℕ, get_or, length, drop, [], ap, ap₂, arith}
use Rattle.vc_eval.specs.Positions.{place_onto, place_of}
use Rattle.vc_eval.proofs.Places.{place_step, place_least}
use Rattle.vc_label.specs.Borrowed.{word_of}
use Rattle.vc_eval.proofs.words.place.Goals as goal

pub overflow_add-place-in-loop-tape : goal.overflow_add-place-in-loop-tape
overflow_add-place-in-loop-tape c =
    let w = word_of c.args.word in
    let u = word_of c.args.label in
    let i = c.loop-tape.tape in
    let n = c.loop-tape.place in
    let next : ℕ = n * (length (get_or w i []) + 1) + length (get_or u i []) in
    let e = place_step w u i n (omega arith) c.requires.tapes in
    let m = place_least next (drop (i + 1) w) (drop (i + 1) u) in
    let a : n * (length c.tape.result.now + 1) + length c.tape-in-loop-tape.result.now ≡ next = ap₂ (λ (x y : ℕ). n * (x + 1) + y) (ap length c.tape.ensures.value) (ap length c.tape-in-loop-tape.ensures.value) in
    let s = c.requires.small in
    let v : place_onto n (drop i w) (drop i u) ≡ place_of w u = c.loop-tape.invariant in
    omega (arith, e, m, a, s, v)
