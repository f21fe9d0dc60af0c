use Rattle.std.proofs.Common.{ap, ◌∙◌}
use Rattle.vc_model.specs.Words.{is_empty, empty_word}
use Rattle.vc_model.specs.WordLaws.{size-is_empty, is_empty-size, is_empty-join, empty_from_size, is_empty-empty_word}
use Rattle.vc_model.proofs.words.empty_words_are_tested.Goals as goal

pub returns-clause-length : goal.returns-clause-length
returns-clause-length c w = (size-is_empty w, is_empty-size w)

pub returns-clause-word : goal.returns-clause-word
returns-clause-word c tapes w e = (λ h. empty_from_size w (size-is_empty w h) ∙ ap empty_word e, λ q. ap is_empty q ∙ is_empty-empty_word tapes)

pub returns-clause-parts : goal.returns-clause-parts
returns-clause-parts c v w e = is_empty-join v w e
