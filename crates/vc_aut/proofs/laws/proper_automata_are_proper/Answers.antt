use Rattle.vc_aut.proofs.laws.proper_automata_are_proper.Goals as goal

pub returns-clause-moves : goal.returns-clause-moves
returns-clause-moves g c = rw (← c.aut.view_is) c.automata_are_valid.ensures.moves
