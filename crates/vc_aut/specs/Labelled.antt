-- Automata with the sets of their labels.
use Rattle.std.specs.Prelude.{List, refl}
use Rattle.std.specs.Coded.{Coded, code_by, coded×, coded_list}
use Rattle.vc_label.specs.declared.tape_set.TapeSet.{TapeSet}
use Rattle.vc_model.specs.Automata.{Automaton}
use Rattle.vc_model.specs.Codes.{automaton_code}

-- an automaton, and the set of each tape of its labels
pub record Labelled (V : Type 0) : Type 0 where
  pub sets : List TapeSet
  pub automaton : Automaton V

-- the code of an automaton with its sets, from the codes of a set and of a weight
abbrev pub labelled_code : {V : Type 0} → Coded TapeSet → Coded V → Coded (Labelled V)
labelled_code {V} t c =
    code_by (List TapeSet × Automaton V)
    (coded× (coded_list t) (automaton_code c))
    (λ a. (a.sets, a.automaton))
    (λ p. record { sets = p.0; automaton = p.1 })
    (λ _. refl)
