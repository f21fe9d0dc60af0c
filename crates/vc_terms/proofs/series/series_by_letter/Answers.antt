use Rattle.vc_terms.proofs.TapeSeries.{product_letter, star_letter, atom_letter, shuffle_letter}
use Rattle.vc_terms.proofs.series.series_by_letter.Goals as goal

pub returns-clause-atom : goal.returns-clause-atom
returns-clause-atom g c R L = atom_letter L

pub returns-clause-product : goal.returns-clause-product
returns-clause-product g c R L = product_letter L

pub returns-clause-star : goal.returns-clause-star
returns-clause-star g c R L = star_letter L

pub returns-clause-shuffle : goal.returns-clause-shuffle
returns-clause-shuffle g c R L = shuffle_letter L
