use Rattle.std.proofs.Common.{arith, drop}
use Rattle.vc_lex.specs.Scans.{name_width}
use Rattle.vc_lex.proofs.Pieces.{piece_at, end_within, end_more, end_all}
use Rattle.vc_lex.proofs.Widths.{names_shrink}
use Rattle.vc_lex.proofs.fronts.name_in_front.Goals as goal

pub loop-width-preserved : goal.loop-width-preserved
loop-width-preserved c =
    let piece = piece_at name_width c.args.text.now c.loop-width.end c.name_width.result _ c.name_width.ensures c.in-Some.is in
    record {
      within = end_within name_width c.args.text.now c.loop-width.end c.in-Some.width names_shrink c.loop-width.invariant.within piece;
      rest = end_more name_width c.args.text.now c.loop-width.end c.in-Some.width _ names_shrink piece c.loop-width.invariant.rest;
    }

pub loop-width-smaller : goal.loop-width-smaller
loop-width-smaller c =
    let piece = piece_at name_width c.args.text.now c.loop-width.end c.name_width.result _ c.name_width.ensures c.in-Some.is in
    let some = names_shrink.some (drop c.loop-width.end c.args.text.now) c.in-Some.width piece in
    let within = end_within name_width c.args.text.now c.loop-width.end c.in-Some.width names_shrink c.loop-width.invariant.within piece in
    omega arith

pub returns-clause-value : goal.returns-clause-value
returns-clause-value c =
    end_all name_width c.args.text.now c.loop-width.end _ (piece_at name_width c.args.text.now c.loop-width.end c.name_width.result _ c.name_width.ensures c.in_default.is) c.loop-width.invariant.rest
