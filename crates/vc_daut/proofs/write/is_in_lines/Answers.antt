use Rattle.std.proofs.Common.{rules, ◌≡◌, false, map, not}
use Rattle.vc_aut.specs.Stored.{transition_of}
use Rattle.vc_model.specs.Automata.{initial_weight, final_weight}
use Rattle.vc_daut.proofs.MarkedStates.{named_target, named_last, length_mapped}
use Rattle.vc_daut.proofs.write.is_in_lines.Goals as goal

pub returns-then-is_target : goal.returns-then-is_target
returns-then-is_target g c = named_target _ _ c.args.is_target c.args.state c.args.aut.now.automaton.transitions c.if-is_target.true c.requires.target

pub returns : goal.returns
returns g c =
    let R = g.S.Semiring.set in
    let A = c.args.aut.now.automaton in
    let same = g.S.Value.PartialEq.eq in
    let x : not (same (initial_weight R A c.args.state) R.zero) ≡ false = search rules in
    let y : not (same (final_weight R A c.args.state) R.zero) ≡ false = search rules in
    named_last _ _ c.args.is_target c.is_empty.result c.args.state A.transitions (map (transition_of g.L.LabelSet.parts) c.transitions_from.result.now) x y c.if-is_target.false c.requires.target
    (length_mapped (transition_of g.L.LabelSet.parts) c.transitions_from.result.now c.is_empty.result c.is_empty.ensures) c.transitions_from.ensures
