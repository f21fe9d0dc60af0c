use Rattle.std.proofs.Common.{◌≡◌, None, Some, length, rules}
use Rattle.vc_lines.specs.Contexts.{context_in_line}
use Rattle.vc_lines.specs.Heads.{HeadLine, head_line}
use Rattle.vc_lines.specs.Lines.{lines_of, more_lines}
use Rattle.vc_lines.proofs.NoContext.{no_context_line, not_context}
use Rattle.vc_lines.proofs.context.daut_context.Goals as goal

pub returns-in-Err : goal.returns-in-Err
returns-in-Err c =
    let h : HeadLine = record { number = c.in-Line.number; line = c.in-Line.line.now; after = more_lines c.in-Line.field-2.now } in
    let e : head_line 1 (lines_of c.args.bytes.now) ≡ Some h = search rules in
    let t : Some c.in-Some.text.now ≡ context_in_line c.in-Line.line.now = c.in-Some.ensures in
    not_context c.context_lines_have_one_text.ensures.complete (length (lines_of c.args.bytes.now)) (head_line 1 (lines_of c.args.bytes.now)) h c.in-Some.text.now e t c.in-Err.ensures.none

pub returns-in_default : goal.returns-in_default
returns-in_default c =
    let h : HeadLine = record { number = c.in-Line.number; line = c.in-Line.line.now; after = more_lines c.in-Line.field-2.now } in
    let e : head_line 1 (lines_of c.args.bytes.now) ≡ Some h = search rules in
    let t : None ≡ context_in_line c.in-Line.line.now = c.in_default.ensures in
    no_context_line c.context_lines_have_one_text.ensures.complete (length (lines_of c.args.bytes.now)) (head_line 1 (lines_of c.args.bytes.now)) h e t
