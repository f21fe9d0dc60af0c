use Rattle.std.proofs.Common.{◌∙◌, ap, map}
use Rattle.vc_reader.specs.NameSets.{names_seen}
use Rattle.vc_reader.proofs.NameOrder.{sorted_names, sorted_count, all_added}
use Rattle.vc_reader.proofs.names.in_order.Goals as goal

pub returns-clause-order : goal.returns-clause-order
returns-clause-order c =
    sorted_names (names_seen c.args.found.now) (names_seen c.loop-entry.names) c.in_ok-keyed.keyed.items c.sort.new.self.items
    (c.in_ok-keyed.ensures.names ∙ ap (map (λ b. b.now)) c.as_slice.ensures.keys)
    c.in_ok-keyed.ensures.keys c.in_ok-sort.ensures.permutation c.in_ok-sort.ensures.sorted c.requires
    (all_added (names_seen c.loop-entry.names) c.deref-entry-items.result.now c.sort.new.self.items c.loop-entry.entry-index c.loop-entry-test.false c.deref-entry-items.ensures.value c.loop-entry.invariant)

pub returns-clause-count : goal.returns-clause-count
returns-clause-count c =
    sorted_count (names_seen c.args.found.now) (names_seen c.loop-entry.names) c.in_ok-keyed.keyed.items c.sort.new.self.items
    (c.in_ok-keyed.ensures.names ∙ ap (map (λ b. b.now)) c.as_slice.ensures.keys)
    c.in_ok-sort.ensures.permutation c.requires
    (all_added (names_seen c.loop-entry.names) c.deref-entry-items.result.now c.sort.new.self.items c.loop-entry.entry-index c.loop-entry-test.false c.deref-entry-items.ensures.value c.loop-entry.invariant)
