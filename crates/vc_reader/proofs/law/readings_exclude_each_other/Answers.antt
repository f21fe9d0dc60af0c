use Rattle.vc_reader.proofs.ExclusiveReadings.{exclude}
use Rattle.vc_reader.proofs.LineNames.{names_once}
use Rattle.vc_lex.specs.declared.token.Mode.TheVariants.{Line}
use Rattle.vc_reader.proofs.law.readings_exclude_each_other.Goals as goal

pub returns : goal.returns
returns g c T sets h x y = exclude T sets h (names_once T.spelled (c.texts_have_their_tokens.ensures.sound Line) h.after) x y
