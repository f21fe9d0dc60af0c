use Rattle.std.proofs.Common.{length}
use Rattle.vc_lex.specs.declared.token.Mode.TheVariants.{Expression}
use Rattle.vc_exprio.specs.Spelling.{is_weight_of}
use Rattle.vc_exprio.proofs.OneAnswer.{one_answer}
use Rattle.vc_exprio.proofs.text_laws.texts_have_one_answer.Goals as goal

pub returns : goal.returns
returns g c T single sets text a b h k =
    one_answer T single sets text (c.texts_have_their_tokens.ensures.complete Expression) (c.texts_have_their_tokens.ensures.breaks Expression text)
    (c.faults_have_one_place.ensures.only (is_weight_of T.spelled) (length text)) a b h k
