use Rattle.std.proofs.Common.{◌≡◌, Ok, map, sym, subst, rules}
use Rattle.vc_model.specs.Lists.{In}
use Rattle.vc_lex.specs.Marks.{marks_of}
use Rattle.vc_lex.specs.declared.token.Mode.TheVariants as mode
use Rattle.vc_lex.specs.Views.{seen}
use Rattle.vc_lines.specs.Names.{line_names}
use Rattle.vc_lines.specs.Views.{line_seen}
use Rattle.vc_reader.proofs.EntryLabels.{labels_of}
use Rattle.vc_reader.proofs.AddedLines.{line_is}
use Rattle.vc_reader.proofs.read.add_text.Goals as goal

pub add_line-requires-clause-named : goal.add_line-requires-clause-named
add_line-requires-clause-named g c a h =
    let e : marks_of mode.Line c.args.text.now ≡ Ok (map seen c.deref.result.now) = search rules in
    c.requires.named a (subst (λ l. In a (line_names l)) (sym (line_is g.S.Semiring.spelled c.args.text.now (map seen c.deref.result.now) (line_seen c.in-Some.line) e c.in-Some.ensures.line)) h)

pub add_line-requires-clause-labels : goal.add_line-requires-clause-labels
add_line-requires-clause-labels g c = labels_of g.S.Semiring.spelled (map seen c.deref.result.now) (line_seen c.in-Some.line) (sym c.in-Some.ensures.line)
