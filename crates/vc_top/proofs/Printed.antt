-- Contexts and automata are printed by their canonical texts.
use Rattle.std.proofs.Common.{◌≡◌, ◌++◌, ◌∷◌, [], List, Ok, Err, refl, sym, ap, subst, inl, inr}
use Rattle.std.specs.Prelude.{String, string_bytes}
use Rattle.std.specs.Global.{Global}
use Rattle.vc_aut.specs.Labelled.{Labelled}
use Rattle.vc_context.specs.Canonical.{context_text}
use Rattle.vc_context.specs.Spelling.{SpellsContext}
use Rattle.vc_context.specs.declared.context.Weights.{Weights}
use Rattle.vc_daut.specs.Canonical.{automaton_text}
use Rattle.vc_reader.specs.Spelling.{SpellsAutomaton}
use Rattle.vc_files.specs.Files.{Bytes}
use Rattle.vc_label.specs.declared.tape_set.TapeSet.{TapeSet}
use Rattle.vc_ring.specs.Texts.{WeightTexts}
use Rattle.vc_top.specs.Automata.{Prints}
use Rattle.vc_top.specs.Contexts.{AnswersContext}
use Rattle.vc_top.specs.Outcomes.{OrMemory}
use Rattle.vc_top.specs.Reasons.{in_context, syntax}

pub context_printed : (text : Bytes) (sets : List TapeSet) (weights : Weights) (line : String Global) → SpellsContext text sets weights
    → string_bytes line ≡ context_text sets weights ++ 10 ∷ [] → OrMemory (AnswersContext text) (Ok (string_bytes line))
context_printed text sets weights line s e = inr (inr ((sets, weights), s, ap Ok e))

pub no_context : (text : Bytes) → ((sets : List TapeSet) (weights : Weights) → ¬ SpellsContext text sets weights) → OrMemory (AnswersContext text) (Err (syntax in_context))
no_context text n = inr (inl (λ c. n c.0 c.1, refl))

pub automaton_printed : {V : Type 0} (T : WeightTexts V) (weights : Weights) (a : Labelled V) (text : String Global)
    → string_bytes text ≡ automaton_text T a.sets weights a.automaton
    → SpellsAutomaton T (automaton_text T a.sets weights a.automaton) a.sets weights a.automaton → OrMemory (Prints T weights a) (Ok (string_bytes text))
automaton_printed T weights a text e s = inr (string_bytes text, record { canonical = e; spells = subst (λ t. SpellsAutomaton T t a.sets weights a.automaton) (sym e) s }, refl)
