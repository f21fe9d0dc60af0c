use Rattle.std.proofs.Common.{◌≡◌, ◌<◌, ◌≤◌, ◌+◌, ◌-◌, ◌/◌, ℕ, true}
use Rattle.vc_eval.specs.Marks.{mark, AreKept}
use Rattle.vc_eval.proofs.marks.mark_row.Given as goal

-- the blocks of the cells before the cell are marked
abbrev pub invariant-loop-cell : goal.invariant-loop-cell
invariant-loop-cell l = record {
  after : l.at ≤ l.cell;
  row : (t : ℕ) → l.at + t < l.cell → mark l.marks ((l.at + t) / 64) ≡ true;
  kept : AreKept l.initial.marks l.marks;
}

abbrev pub decreases-loop-cell : goal.decreases-loop-cell
decreases-loop-cell l = l.at + l.states - l.cell
