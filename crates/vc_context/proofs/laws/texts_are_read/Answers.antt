use Rattle.vc_context.proofs.Whole.{context_read, context_sound}
use Rattle.vc_context.proofs.laws.texts_are_read.Goals as goal

pub returns-clause-sound : goal.returns-clause-sound
returns-clause-sound c = context_sound c.alphabets_are_sets.ensures.listed

pub returns-clause-complete : goal.returns-clause-complete
returns-clause-complete c = context_read
