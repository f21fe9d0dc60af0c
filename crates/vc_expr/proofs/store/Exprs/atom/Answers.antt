use Rattle.std.proofs.Common.{rules}
use Rattle.vc_expr.proofs.LetterLaws.{letter_of}
use Rattle.vc_expr.proofs.store.Exprs.atom.Goals as goal

pub put-requires-clause-letters : goal.put-requires-clause-letters
put-requires-clause-letters g c s = letter_of (g.L.LabelSet.parts c.args.label) (g.met.L.LabelSet.single_parts s c.args.label) (search rules)
