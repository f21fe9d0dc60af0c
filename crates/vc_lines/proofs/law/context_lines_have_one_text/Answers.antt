use Rattle.vc_lex.specs.declared.token.Mode.TheVariants.{Line}
use Rattle.vc_lines.proofs.ContextLines.{context_complete, context_sound}
use Rattle.vc_lines.proofs.law.context_lines_have_one_text.Goals as goal

pub returns-clause-sound : goal.returns-clause-sound
returns-clause-sound c = context_sound (c.tokens_follow_the_grammar.ensures.sound Line)

pub returns-clause-complete : goal.returns-clause-complete
returns-clause-complete c = context_complete (c.tokens_follow_the_grammar.ensures.end Line)
