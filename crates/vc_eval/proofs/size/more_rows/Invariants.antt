use Rattle.std.proofs.Common.{◌≡◌, ◌<◌, drop}
use Rattle.vc_eval.specs.Positions.{place_of, place_onto}
use Rattle.vc_label.specs.Borrowed.{word_of}
use Rattle.vc_eval.proofs.size.more_rows.Given as goal

-- with the tapes that are left the number becomes that of all tapes
abbrev pub invariant-loop-tape : goal.invariant-loop-tape
invariant-loop-tape l =
    let w = word_of l.word in
    let u = word_of l.label in (
    record {
      place : place_onto l.place (drop l.tape w) (drop l.tape u) ≡ place_of w u;
      below : l.place < l.positions;
    }
    )
