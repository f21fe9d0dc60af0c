use Rattle.std.proofs.Common.{drop}
use Rattle.vc_label.specs.Sets.{IsOverSets}
use Rattle.vc_exprio.specs.WordParts.{tapes_of}
use Rattle.vc_exprio.proofs.over.are_over.Given as goal

-- the word is over the label set exactly where the tapes that are left are
abbrev pub invariant-loop-tape : goal.invariant-loop-tape
invariant-loop-tape g l = record {
  over : IsOverSets (drop l.tape (g.L.LabelSet.sets l.labels)) (drop l.tape (tapes_of l.parts)) → IsOverSets (g.L.LabelSet.sets l.labels) (tapes_of l.parts);
  none : IsOverSets (g.L.LabelSet.sets l.labels) (tapes_of l.parts) → IsOverSets (drop l.tape (g.L.LabelSet.sets l.labels)) (drop l.tape (tapes_of l.parts));
}
