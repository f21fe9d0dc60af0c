use Rattle.std.proofs.Common.{◌≡◌, ◌≤◌, length}
use Rattle.vc_exprio.specs.WordParts.{after_letters}
use Rattle.vc_exprio.proofs.parts.after_letters.Given as goal

abbrev pub invariant-loop-after : goal.invariant-loop-after
invariant-loop-after l = record {
  text : after_letters l.rest ≡ after_letters l.text;
  within : length l.rest ≤ length l.text;
}

abbrev pub decreases-loop-after : goal.decreases-loop-after
decreases-loop-after l = length l.rest
