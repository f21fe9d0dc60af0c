use Rattle.vc_daut.proofs.ListTexts.{letter_below}
use Rattle.vc_daut.proofs.append.push_part.Goals as goal

pub push_letter-requires : goal.push_letter-requires
push_letter-requires c = letter_below c.args.part.now c.loop-letter.letter-index c.requires c.loop-letter-test.true
