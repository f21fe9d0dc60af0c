use Rattle.std.proofs.Common.{string_bytes}
use Rattle.std.specs.Prelude.{codes}
use Rattle.vc_aut.specs.Stored.{transition_of}
use Rattle.vc_daut.specs.Canonical.{entry_text}
use Rattle.vc_daut.specs.Growing.{IsEntry}
use Rattle.vc_daut.proofs.TargetGroups.{lent_at}
use Rattle.vc_daut.proofs.ListTexts.{listed_next, text_step}
use Rattle.vc_daut.proofs.append.push_entries.Goals as goal

pub push_entry-requires-clause-tapes : goal.push_entry-requires-clause-tapes
push_entry-requires-clause-tapes g c =
    (lent_at g.L.LabelSet.parts (IsEntry g.S.Semiring.set c.args.tapes) c.args.entries.now 0 c.index-entries-0.result c.requires.some c.index-entries-0.is c.requires.entries).parts

pub push_entry-requires-clause-in_range : goal.push_entry-requires-clause-in_range
push_entry-requires-clause-in_range g c =
    (lent_at g.L.LabelSet.parts (IsEntry g.S.Semiring.set c.args.tapes) c.args.entries.now 0 c.index-entries-0.result c.requires.some c.index-entries-0.is c.requires.entries).weight

pub push_next_entry-requires-clause-tapes : goal.push_next_entry-requires-clause-tapes
push_next_entry-requires-clause-tapes g c =
    (lent_at g.L.LabelSet.parts (IsEntry g.S.Semiring.set c.args.tapes) c.args.entries.now c.loop-place.place c.index-entries-place.result c.loop-place-test.true c.index-entries-place.is c.requires.entries).parts

pub push_next_entry-requires-clause-in_range : goal.push_next_entry-requires-clause-in_range
push_next_entry-requires-clause-in_range g c =
    (lent_at g.L.LabelSet.parts (IsEntry g.S.Semiring.set c.args.tapes) c.args.entries.now c.loop-place.place c.index-entries-place.result c.loop-place-test.true c.index-entries-place.is c.requires.entries).weight

pub loop-place-preserved : goal.loop-place-preserved
loop-place-preserved g c =
    text_step (string_bytes c.args.into.now) (string_bytes c.loop-place.into) (string_bytes c.push_next_entry.new.into) _ _ _
    c.loop-place.invariant c.in_ok-push_next_entry.ensures.ok
    (listed_next (codes ", ") (entry_text g.S.Semiring.set g.S.Value.PartialEq.eq g.S.Semiring.canonical) (λ b. transition_of g.L.LabelSet.parts b.now) c.args.entries.now c.loop-place.place
    c.index-entries-place.result c.loop-place.auto.place c.loop-place-test.true c.index-entries-place.is)
