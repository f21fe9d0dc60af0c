use Rattle.std.proofs.Common.{ℕ, map, drop}
use Rattle.std.specs.Prelude.{Option}
use Rattle.vc_exprio.specs.LabelAnswers.{IsOutsideAt}
use Rattle.vc_exprio.specs.Making.{occurrences_in}
use Rattle.vc_exprio.specs.Views.{step_seen}
use Rattle.vc_exprio.proofs.labels.first_outside.Given as goal

-- what is first outside in the steps that are left is first in all
abbrev pub invariant-loop-at : goal.invariant-loop-at
invariant-loop-at g l = (place : Option ℕ) → IsOutsideAt (g.L.LabelSet.sets l.labels) (occurrences_in (drop l.at (map step_seen l.steps))) place
    → IsOutsideAt (g.L.LabelSet.sets l.labels) (occurrences_in (map step_seen l.steps)) place
