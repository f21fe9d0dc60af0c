use Rattle.std.proofs.Common.{sym, map}
use Rattle.vc_lex.specs.Views.{seen}
use Rattle.vc_lines.specs.Views.{line_seen}
use Rattle.vc_reader.proofs.EntryLabels.{labels_of}
use Rattle.vc_reader.proofs.check.check_line.Goals as goal

pub outside_line-requires-clause-labels : goal.outside_line-requires-clause-labels
outside_line-requires-clause-labels g c = labels_of g.S.Semiring.spelled (map seen c.deref.result.now) (line_seen c.in-Some.line) (sym c.in-Some.ensures.line)
