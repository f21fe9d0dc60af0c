use Rattle.std.proofs.Common.{sym, subst}
use Rattle.vc_reader.specs.NameSets.{AreMarked, names_seen}
use Rattle.vc_reader.proofs.MarkedNumbers.{marked_kept}
use Rattle.vc_reader.proofs.names.Found.add_state.Goals as goal

pub returns-clause-marked : goal.returns-clause-marked
returns-clause-marked c =
    subst (AreMarked c.args.self.now.marks.items) (sym c.in_ok-add_name.ensures)
    (marked_kept c.args.self.now.marks.items (names_seen c.args.self.now.names) c.args.name.now c.requires)
