use Rattle.std.proofs.Common.{sym, subst, slice_set, true, rules}
use Rattle.vc_reader.specs.NameSets.{AreMarked, names_seen}
use Rattle.vc_reader.proofs.MarkedNumbers.{marked_kept, marked_more}
use Rattle.vc_reader.proofs.names.Found.add_number.Goals as goal

pub returns-then-value-len-clause-marked : goal.returns-then-value-len-clause-marked
returns-then-value-len-clause-marked c =
    subst (AreMarked c.args.self.now.marks.items) (sym c.in_ok-add_name.ensures)
    (marked_kept c.args.self.now.marks.items (names_seen c.args.self.now.names) c.args.name.now c.requires.marked)

pub returns-clause-marked : goal.returns-clause-marked
returns-clause-marked c =
    subst (AreMarked (slice_set c.args.self.now.marks.items c.value_of-value.result true)) (sym c.in_ok-add_name-2.ensures)
    (marked_more c.args.self.now.marks.items (names_seen c.args.self.now.names) c.args.name.now c.value_of-value.result c.requires.marked c.requires.number c.value_of-value.ensures.value (search rules))
