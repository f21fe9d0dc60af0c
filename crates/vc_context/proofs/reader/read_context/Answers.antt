use Rattle.vc_context.proofs.Refusals.{refused}
use Rattle.vc_context.proofs.reader.read_context.Goals as goal

pub returns-clause-none : goal.returns-clause-none
returns-clause-none c = refused c.args.text.now c.context_at.result c.ok_or.result c.ok_or.ensures.ok_part c.context_at.ensures
