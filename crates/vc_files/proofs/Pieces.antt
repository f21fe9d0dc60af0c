-- Pieces that are written in turn.
use Rattle.std.proofs.Common.{◌+◌, List, ℕ, ◌++◌, length, take, Option, subst, sym}
use Rattle.std.proofs.Math.Seq.{take-append-add}
use Rattle.std.proofs.KnownBytes.{Appends-trans}
use Rattle.std.specs.Io.KnownBytes.{Appends}
use Rattle.vc_files.specs.Sink.{AppendsFront}

-- a piece is written, and then a front of the next
pub front_in_turn : (old middle new : Option (List ℕ)) (first second : List ℕ) → Appends old middle first → AppendsFront middle new second → AppendsFront old new (first ++ second)
front_in_turn old middle new first second p (n, q) =
    (length first + n, subst (Appends old new) (sym (take-append-add first second n)) (Appends-trans old middle new first (take n second) p q))
