use Rattle.std.proofs.Common.{◌≡◌, [], map, drop}
use Rattle.vc_lines.specs.Names.{with_names}
use Rattle.vc_reader.specs.NameSets.{names_seen}
use Rattle.vc_reader.proofs.names.in_order.Given as goal

abbrev pub invariant-loop-entry : goal.invariant-loop-entry
invariant-loop-entry l = with_names (names_seen l.names) (map (λ p. p.2.now) (drop l.entry-index l.entry-items)) ≡ with_names [] (map (λ p. p.2.now) l.entry-items)
