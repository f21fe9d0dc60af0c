use Rattle.std.proofs.Common.{string_bytes, ◌++◌, ◌∙◌, sym, ap, subst, length, take, get_or}
use Rattle.std.specs.List.{flat_map}
use Rattle.std.specs.Prelude.{All}
use Rattle.vc_daut.specs.Canonical.{line_text, lines_by_target}
use Rattle.vc_daut.specs.Growing.{lent, IsEntry}
use Rattle.vc_daut.proofs.GrowingTexts.{short_tail}
use Rattle.vc_daut.proofs.TargetGroups.{front_some, entries_front, left_next, left_end, tail_is, not_none, is_none}
use Rattle.vc_daut.proofs.write.push_by_target.Goals as goal

pub push_moves-requires-clause-some : goal.push_moves-requires-clause-some
push_moves-requires-clause-some g c =
    front_some g.S.Semiring.set g.L.LabelSet.parts (length c.args.aut.now.sets) c.args.aut.now.automaton.states c.args.from (line_text g.S.Semiring.set g.S.Value.PartialEq.eq g.S.Semiring.canonical) (string_bytes c.args.into.now) (string_bytes c.args.into.now ++ flat_map (line_text g.S.Semiring.set g.S.Value.PartialEq.eq g.S.Semiring.canonical) (lines_by_target c.args.aut.now.automaton.states c.args.from (lent g.L.LabelSet.parts c.args.entries.now)))
    (get_or c.loop-rest.rest.now 0 c.index-rest-0.result).now.to c.front_to-width.result c.loop-rest.rest.now c.index-rest-0.result (not_none (length c.loop-rest.rest.now) c.is_empty.result c.is_empty.ensures c.loop-rest-test.true)
    c.index-rest-0.is (ap (λ x. x.now.to) (sym c.index-rest-0.is)) c.front_to-width.ensures.value

pub push_moves-requires-clause-entries : goal.push_moves-requires-clause-entries
push_moves-requires-clause-entries g c =
    subst (λ m. All (IsEntry g.S.Semiring.set m) (lent g.L.LabelSet.parts (take c.front_to-width.result c.loop-rest.rest.now))) (sym (c.tapes-tapes.ensures.value ∙ ap length c.labels.ensures))
    (entries_front g.S.Semiring.set g.L.LabelSet.parts (length c.args.aut.now.sets) c.args.aut.now.automaton.states c.args.from (line_text g.S.Semiring.set g.S.Value.PartialEq.eq g.S.Semiring.canonical) (string_bytes c.args.into.now) (string_bytes c.args.into.now ++ flat_map (line_text g.S.Semiring.set g.S.Value.PartialEq.eq g.S.Semiring.canonical) (lines_by_target c.args.aut.now.automaton.states c.args.from (lent g.L.LabelSet.parts c.args.entries.now)))
    c.front_to-width.result c.loop-rest.rest.now c.loop-rest.invariant.left.entries)

pub loop-rest-preserved : goal.loop-rest-preserved
loop-rest-preserved g c = record {
  left =
      left_next g.S.Semiring.set g.L.LabelSet.parts (length c.args.aut.now.sets) c.args.aut.now.automaton.states c.args.from (line_text g.S.Semiring.set g.S.Value.PartialEq.eq g.S.Semiring.canonical) (string_bytes c.args.into.now) (string_bytes c.args.into.now ++ flat_map (line_text g.S.Semiring.set g.S.Value.PartialEq.eq g.S.Semiring.canonical) (lines_by_target c.args.aut.now.automaton.states c.args.from (lent g.L.LabelSet.parts c.args.entries.now)))
      (string_bytes c.loop-rest.into) (string_bytes c.push_moves.new.into) c.loop-rest.rest.now _ c.index-rest-0.result (get_or c.loop-rest.rest.now 0 c.index-rest-0.result).now.to c.front_to-width.result c.loop-rest.invariant.left
      (not_none (length c.loop-rest.rest.now) c.is_empty.result c.is_empty.ensures c.loop-rest-test.true) c.index-rest-0.is (ap (λ x. x.now.to) (sym c.index-rest-0.is)) c.front_to-width.ensures.value
      (tail_is c.loop-rest.rest.now c.front_to-width.result) c.in_ok-push_moves.ensures.ok;
  short = short_tail c.loop-rest.rest.now c.args.entries.now _ c.front_to-width.result (tail_is c.loop-rest.rest.now c.front_to-width.result) c.loop-rest.invariant.short;
}

pub returns-clause-ok : goal.returns-clause-ok
returns-clause-ok g c =
    left_end g.S.Semiring.set g.L.LabelSet.parts (length c.args.aut.now.sets) c.args.aut.now.automaton.states c.args.from (line_text g.S.Semiring.set g.S.Value.PartialEq.eq g.S.Semiring.canonical) (string_bytes c.args.into.now) (string_bytes c.args.into.now ++ flat_map (line_text g.S.Semiring.set g.S.Value.PartialEq.eq g.S.Semiring.canonical) (lines_by_target c.args.aut.now.automaton.states c.args.from (lent g.L.LabelSet.parts c.args.entries.now)))
    (string_bytes c.loop-rest.into) c.loop-rest.rest.now c.loop-rest.invariant.left (is_none (length c.loop-rest.rest.now) c.is_empty.result c.is_empty.ensures c.loop-rest-test.false)
