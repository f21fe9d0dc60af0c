-- What is printed of an automaton.
use Rattle.std.specs.Prelude.{◌≡◌}
use Rattle.vc_aut.specs.Labelled.{Labelled}
use Rattle.vc_context.specs.declared.context.Weights.{Weights}
use Rattle.vc_daut.specs.Canonical.{automaton_text}
use Rattle.vc_reader.specs.Spelling.{SpellsAutomaton}
use Rattle.vc_files.specs.Files.{Bytes}
use Rattle.vc_ring.specs.Texts.{WeightTexts}
use Rattle.vc_top.specs.Outcomes.{ForSuch, Gives, Outcome}

-- the text of an automaton over a weight set, whose name is given: the canonical one, which spells the automaton
pub record IsTextOf {V : Type 0} (T : WeightTexts V) (weights : Weights) (a : Labelled V) (text : Bytes) : Type 0 where
  pub canonical : text ≡ automaton_text T a.sets weights a.automaton
  pub spells : SpellsAutomaton T text a.sets weights a.automaton

-- the text of the automaton
abbrev pub Prints : {V : Type 0} → WeightTexts V → Weights → Labelled V → Outcome Bytes
Prints T weights a = ForSuch (IsTextOf T weights a) Gives
