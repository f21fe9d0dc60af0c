use Rattle.vc_lex.specs.declared.token.Mode.TheVariants.{Expression}
use Rattle.vc_exprio.proofs.SpelledTrees.{one_text}
use Rattle.vc_exprio.proofs.laws.texts_spell_one_tree.Goals as goal

pub returns : goal.returns
returns c = one_text (c.texts_have_their_tokens.ensures.complete Expression)
