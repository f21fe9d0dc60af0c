use Rattle.std.proofs.Common.{◌≡◌, drop}
use Rattle.vc_model.specs.Words.{is_empty}
use Rattle.vc_exprio.specs.WordParts.{tapes_of}
use Rattle.vc_exprio.proofs.labels.are_empty.Given as goal

abbrev pub invariant-loop-letters : goal.invariant-loop-letters
invariant-loop-letters l = is_empty (tapes_of l.parts) ≡ is_empty (tapes_of (drop l.letters-index l.parts))
