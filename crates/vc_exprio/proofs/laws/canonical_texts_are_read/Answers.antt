use Rattle.vc_exprio.proofs.SpelledTrees.{canonical_read}
use Rattle.vc_exprio.proofs.laws.canonical_texts_are_read.Goals as goal

pub returns : goal.returns
returns g c R L same test spelled fit canonical laws sets class_letters t h v k = canonical_read R L same test spelled fit canonical laws sets (c.words_are_over_sets.ensures.letters sets) class_letters t h v k
