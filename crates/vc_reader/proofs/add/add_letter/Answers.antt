use Rattle.vc_reader.proofs.TokenWeights.{one_letter}
use Rattle.vc_reader.proofs.add.add_letter.Goals as goal

pub one-requires : goal.one-requires
one-requires g c = one_letter c.args.letter c.from_ref.result.now c.from_ref.ensures.value (c.words_are_over_sets.ensures.letters _ _ c.requires.letter)
