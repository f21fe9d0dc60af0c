use Rattle.vc_products.proofs.LetterProducts.{conjunction_future, conjunction_coefficient}
use Rattle.vc_products.proofs.letter_products.conjunctions_have_their_series.Goals as goal

pub returns-clause-future : goal.returns-clause-future
returns-clause-future g c R L A B P a b p hA hB hP left right C u i l = conjunction_future L A B P a b p hA hB hP left right C u i l

pub returns-clause-coefficient : goal.returns-clause-coefficient
returns-clause-coefficient g c R L A B P a b p hA hB hP left right C u = conjunction_coefficient L A B P a b p hA hB hP left right C u
