use Rattle.std.proofs.Common.{◌≡◌, ◌++◌, string_bytes}
use Rattle.vc_expr.specs.Names.{tree_of}
use Rattle.vc_exprio.specs.Canonical.{expression_text}
use Rattle.vc_exprio.specs.Writing.{left, ArePending, work_left}
use Rattle.vc_text.specs.Growing.{IsFront}
use Rattle.vc_exprio.proofs.writer.push_expr.Given as goal

-- what is written, and then what is left to write, is the text
abbrev pub invariant-loop-item : goal.invariant-loop-item
invariant-loop-item g l = record {
  text : string_bytes l.into ++ left g.S.Semiring.canonical l.exprs l.pending.items ≡ string_bytes l.fn.into ++ expression_text g.S.Semiring.canonical (tree_of l.exprs l.fn.e);
  pending : ArePending (g.L.LabelSet.sets l.labels) l.exprs l.pending.items;
  front : IsFront (string_bytes l.fn.into) (string_bytes l.into);
}

abbrev pub decreases-loop-item : goal.decreases-loop-item
decreases-loop-item g l = work_left l.exprs l.pending.items
