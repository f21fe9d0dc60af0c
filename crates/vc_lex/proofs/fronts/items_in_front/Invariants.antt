use Rattle.std.proofs.Common.{◌≡◌, ◌≤◌, ◌+◌, ◌-◌, length, drop}
use Rattle.vc_lex.specs.Fronts.{front}
use Rattle.vc_lex.specs.Scans.{item_width}
use Rattle.vc_lex.proofs.fronts.items_in_front.Given as goal

abbrev pub invariant-loop-width : goal.invariant-loop-width
invariant-loop-width l = record {
  within : l.end ≤ length l.text;
  rest : l.end + front item_width (drop l.end l.text) ≡ front item_width l.text;
}

abbrev pub decreases-loop-width : goal.decreases-loop-width
decreases-loop-width l = length l.text - l.end
