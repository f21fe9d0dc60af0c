use Rattle.vc_exprio.proofs.SpelledWords.{word_read}
use Rattle.vc_exprio.proofs.word_laws.word_texts_are_read.Goals as goal

pub returns : goal.returns
returns c = word_read
