use Rattle.vc_context.proofs.Written.{one_context, context_written}
use Rattle.vc_context.proofs.laws.contexts_have_texts.Goals as goal

pub returns-clause-one : goal.returns-clause-one
returns-clause-one c = one_context c.alphabets_are_sets.ensures.listed c.alphabets_are_sets.ensures.same

pub returns-clause-written : goal.returns-clause-written
returns-clause-written c = context_written c.alphabets_are_sets.ensures.listed c.alphabets_are_sets.ensures.letters
