use Rattle.std.proofs.Common.{◌≡◌, ◌+◌, ◌*◌, ℕ, get_or, length, drop, [], ap, ap₂, sym, ◌∙◌, arith}
use Rattle.vc_eval.specs.Positions.{place_onto}
use Rattle.vc_eval.proofs.Places.{place_onto-is, place_step}
use Rattle.vc_eval.proofs.Sizes.{last_place}
use Rattle.vc_label.specs.Borrowed.{word_of}
use Rattle.vc_eval.proofs.size.more_rows.Goals as goal

pub loop-tape-init : goal.loop-tape-init
loop-tape-init c =
    let e = place_onto-is 0 (word_of c.args.word) (word_of c.args.label) c.requires.tapes in
    record { place = omega (arith, e); below = c.requires.some }

pub loop-tape-preserved : goal.loop-tape-preserved
loop-tape-preserved c =
    let w = word_of c.args.word in
    let u = word_of c.args.label in
    let i = c.loop-tape.tape in
    let n = c.loop-tape.place in
    let more : n * (length c.tape.result.now + 1) + length c.tape-in-loop-tape.result.now ≡ n * (length (get_or w i []) + 1) + length (get_or u i [])
    = ap₂ (λ (x y : ℕ). n * (x + 1) + y) (ap length c.tape.ensures.value) (ap length c.tape-in-loop-tape.ensures.value) in
    let below = c.if-next-positions.false in
    record {
      place = ap (λ (x : ℕ). place_onto x (drop (i + 1) w) (drop (i + 1) u)) more ∙ sym (place_step w u i n (omega arith) c.requires.tapes) ∙ c.loop-tape.invariant.place;
      below = omega (arith, below);
    }

pub returns-clause-enough : goal.returns-clause-enough
returns-clause-enough c = λ b.
    let e = last_place (word_of c.args.word) (word_of c.args.label) c.loop-tape.tape c.loop-tape.place (omega arith) c.loop-tape.invariant.place in
    omega (arith, e)
