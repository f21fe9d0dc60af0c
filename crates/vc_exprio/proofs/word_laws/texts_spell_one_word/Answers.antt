use Rattle.vc_exprio.proofs.SpelledWords.{one_word}
use Rattle.vc_exprio.proofs.word_laws.texts_spell_one_word.Goals as goal

pub returns : goal.returns
returns c = one_word
