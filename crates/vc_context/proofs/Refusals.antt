-- A text that is refused spells no context.
use Rattle.std.proofs.Common.{◌≡◌, ℕ, List, Option, None, Result, Ok, Err, ap, sym, ◌∙◌}
use Rattle.std.specs.Prelude.{map, OnErr}
use Rattle.std.specs.Option.{option_map}
use Rattle.std.specs.Result.{result_ok}
use Rattle.vc_context.specs.Reading.{Tape, tape_of, context_at}
use Rattle.vc_context.specs.Sets.{tapes_of}
use Rattle.vc_context.specs.Spelling.{SpellsContext}
use Rattle.vc_context.specs.declared.context.AnyContext.{AnyContext}
use Rattle.vc_context.specs.declared.context.ContextFault.{ContextFault}
use Rattle.vc_context.specs.declared.context.Weights.{Weights}
use Rattle.vc_context.proofs.Whole.{context_of, context_read}
use Rattle.vc_label.specs.declared.tape_set.TapeSet.{TapeSet}

abbrev seen : AnyContext → List Tape × Weights
seen c = (map tape_of (tapes_of c.labels), c.weights)

pub refused : (text : List ℕ) (o : Option AnyContext) (r : Result AnyContext ContextFault) → o ≡ result_ok r → option_map seen o ≡ context_at text
    → OnErr r ((sets : List TapeSet) (weights : Weights) → ¬ SpellsContext text sets weights)
refused text o (Ok c) e f = tt
refused text o (Err fault) e f = λ sets weights spells.
    let none : None ≡ context_at text = ap (option_map seen) (sym e) ∙ f in
    let some : context_at text ≡ context_of (map tape_of sets) weights = context_read text sets weights spells in
    absurd (cc)
