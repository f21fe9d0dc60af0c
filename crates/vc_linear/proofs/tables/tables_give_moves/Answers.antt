use Rattle.vc_linear.proofs.TableLaws.{table_moves, table_steps, step_by_moves}
use Rattle.vc_linear.proofs.tables.tables_give_moves.Goals as goal

pub returns-clause-moves : goal.returns-clause-moves
returns-clause-moves g c R L = table_moves L

pub returns-clause-letters : goal.returns-clause-letters
returns-clause-letters g c R L = table_steps L

pub returns-clause-steps : goal.returns-clause-steps
returns-clause-steps g c R L = step_by_moves L
