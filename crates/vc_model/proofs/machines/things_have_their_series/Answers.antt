use Rattle.vc_model.proofs.MachineLaws.{stands_future, first_alone, machine_coefficient}
use Rattle.vc_model.proofs.machines.things_have_their_series.Goals as goal

pub returns-clause-future : goal.returns-clause-future
returns-clause-future g c R L tapes B b f state final items F X h i w l e = stands_future L tapes B b f state final items F X h i w l e

pub returns-clause-first : goal.returns-clause-first
returns-clause-first g c R L B l one others w = first_alone L B l one others w

pub returns-clause-machine : goal.returns-clause-machine
returns-clause-machine g c R L same final items d t ts w = machine_coefficient L same final items d t ts w
