use Rattle.vc_model.proofs.MachineLaws.{machine_stands, machine_is_automaton, machine_full, gathered_stands, gathered_automaton, place_at, at_place}
use Rattle.vc_model.proofs.machines.machines_stand_for_things.Goals as goal

pub returns-clause-stands : goal.returns-clause-stands
returns-clause-stands g c R L same Q final items d ts C = machine_stands L same Q final items d ts C

pub returns-clause-automaton : goal.returns-clause-automaton
returns-clause-automaton g c R L same Q tapes final items d ts C N H =
    (machine_is_automaton L same Q tapes final items d ts C N H, machine_full L same Q tapes final items d ts C N H)

pub returns-clause-gathered : goal.returns-clause-gathered
returns-clause-gathered g c R L same Q final items d ts C B b f G = gathered_stands L same Q final items d ts C B b f G

pub returns-clause-gathered_automaton : goal.returns-clause-gathered_automaton
returns-clause-gathered_automaton g c R L same Q tapes final items d ts C H B b i f G = gathered_automaton L same Q final items d ts C tapes H B b i f G

pub returns-clause-places : goal.returns-clause-places
returns-clause-places g c same Q d ts i n l = place_at same Q d ts i n l

pub returns-clause-things : goal.returns-clause-things
returns-clause-things g c same Q d t ts i = at_place same Q d t ts i
