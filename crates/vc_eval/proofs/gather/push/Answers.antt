use Rattle.std.proofs.Common.{◌≡◌, Some, get_or, inr, length, map, ap, sym, ◌∙◌, arith}
use Rattle.std.proofs.lemmas.List.{get_or_default}
use Rattle.vc_aut.specs.Stored.{transition_of}
use Rattle.vc_eval.specs.LetterMoves.{IsMoveInto}
use Rattle.vc_eval.specs.Moves.{entry}
use Rattle.vc_eval.specs.Runs.{at_cell}
use Rattle.vc_eval.proofs.LetterSources.{idle_moved, idle_steps}
use Rattle.vc_eval.proofs.Sources.{In_all}
use Rattle.vc_eval.proofs.gather.push.Goals as goal

pub returns-then-eq-clause-steps : goal.returns-then-eq-clause-steps
returns-then-eq-clause-steps g c =
    let R = g.S.Semiring.set in
    let rows = c.args.rows.now in
    let us = map (transition_of g.L.LabelSet.parts) c.args.transitions.now in
    let v = c.index-rows-cell.result in
    let none = (g.met.S.Semiring.same (get_or rows c.args.cell v) c.zero.result).0 (sym c.eq.ensures ∙ c.if-eq.true) ∙ c.zero.ensures in
    let z : entry R rows c.args.cell ≡ R.zero = sym (get_or_default rows c.args.cell v R.zero (omega arith)) ∙ none in
    sym (idle_steps g.met.S.Semiring.laws g.met.S.Semiring.ranges c.args.at (at_cell R (Some c.args.cell)) us rows c.requires.rows_in
    (λ u j. let m = In_all (IsMoveInto R c.args.at (length rows)) us c.requires.moves u j in (m.to, m.weight))
    (λ u j. inr (ap Some z)))

pub returns-then-eq-clause-rows : goal.returns-then-eq-clause-rows
returns-then-eq-clause-rows g c =
    let R = g.S.Semiring.set in
    let rows = c.args.rows.now in
    let us = map (transition_of g.L.LabelSet.parts) c.args.transitions.now in
    let v = c.index-rows-cell.result in
    let none = (g.met.S.Semiring.same (get_or rows c.args.cell v) c.zero.result).0 (sym c.eq.ensures ∙ c.if-eq.true) ∙ c.zero.ensures in
    let z : entry R rows c.args.cell ≡ R.zero = sym (get_or_default rows c.args.cell v R.zero (omega arith)) ∙ none in
    sym (idle_moved g.met.S.Semiring.laws g.met.S.Semiring.ranges c.args.at (at_cell R (Some c.args.cell)) us rows (λ u j. inr (ap Some z)))
