-- What a borrowed word stands for.
use Rattle.vc_label.specs.declared.word.Word.{Word as Borrowed}
use Rattle.vc_label.specs.Tapes.{word_on}
use Rattle.vc_model.specs.Words.{Word}

-- the word that is borrowed
abbrev pub word_of : Borrowed → Word
word_of w = word_on w.tapes
