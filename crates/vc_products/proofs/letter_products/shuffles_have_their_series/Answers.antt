use Rattle.vc_products.proofs.LetterProducts.{shuffle_future, shuffle_coefficient}
use Rattle.vc_products.proofs.letter_products.shuffles_have_their_series.Goals as goal

pub returns-clause-future : goal.returns-clause-future
returns-clause-future g c R L A B P a b p hA hB hP left right C u i l = shuffle_future L A B P a b p hA hB hP left right C u i l

pub returns-clause-coefficient : goal.returns-clause-coefficient
returns-clause-coefficient g c R L A B P a b p hA hB hP left right C u = shuffle_coefficient L A B P a b p hA hB hP left right C u
