use Rattle.std.proofs.Common.{string_bytes, ◌++◌, ◌∙◌, sym, ap, subst, length, ◌<◌}
use Rattle.std.specs.List.{flat_map}
use Rattle.std.specs.Prelude.{All}
use Rattle.std.specs.List.Sorted.{IsNonDecreasingBy}
use Rattle.vc_daut.specs.Canonical.{line_text, lines_by_target}
use Rattle.vc_daut.specs.Growing.{lent, IsEntry}
use Rattle.vc_daut.proofs.TargetGroups.{entries_from, same_lines}
use Rattle.vc_daut.proofs.write.push_transitions.Goals as goal

pub push_by_target-requires-clause-sorted : goal.push_by_target-requires-clause-sorted
push_by_target-requires-clause-sorted g c = subst (IsNonDecreasingBy (λ b. b.now.to)) (sym c.deref.ensures.value) c.in_ok-by_target.ensures.sorted

pub push_by_target-requires-clause-entries : goal.push_by_target-requires-clause-entries
push_by_target-requires-clause-entries g c =
    let A = c.args.aut.now.automaton in
    subst (λ bs. All (IsEntry g.S.Semiring.set (length c.args.aut.now.sets)) (lent g.L.LabelSet.parts bs)) (sym c.deref.ensures.value)
    (entries_from g.S.Semiring.set c.args.aut.now.sets A.states c.args.state A.transitions _ _ c.automata_are_valid.ensures.labelled.drawn.moves c.transitions_from.ensures c.in_ok-by_target.ensures.same).0

pub push_by_target-requires-clause-targets : goal.push_by_target-requires-clause-targets
push_by_target-requires-clause-targets g c =
    let A = c.args.aut.now.automaton in
    subst (λ bs. All (λ t. t.to < A.states) (lent g.L.LabelSet.parts bs)) (sym c.deref.ensures.value)
    (entries_from g.S.Semiring.set c.args.aut.now.sets A.states c.args.state A.transitions _ _ c.automata_are_valid.ensures.labelled.drawn.moves c.transitions_from.ensures c.in_ok-by_target.ensures.same).1

pub returns-clause-ok : goal.returns-clause-ok
returns-clause-ok g c =
    let A = c.args.aut.now.automaton in
    let parts = g.L.LabelSet.parts in
    c.in_ok-push_by_target.ensures.ok
    ∙ ap (λ bs. string_bytes c.args.into.now ++ flat_map (line_text g.S.Semiring.set g.S.Value.PartialEq.eq g.S.Semiring.canonical) (lines_by_target A.states c.args.state (lent parts bs))) c.deref.ensures.value
    ∙ ap (λ ls. string_bytes c.args.into.now ++ flat_map (line_text g.S.Semiring.set g.S.Value.PartialEq.eq g.S.Semiring.canonical) ls) (same_lines A.states c.args.state _ _ c.in_ok-by_target.ensures.stable ∙ ap (lines_by_target A.states c.args.state) c.transitions_from.ensures)
