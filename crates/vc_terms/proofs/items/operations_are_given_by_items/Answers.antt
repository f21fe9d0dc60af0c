use Rattle.std.proofs.Common.{refl}
use Rattle.vc_terms.proofs.GivenLaws.{zero_given, one_given, times_given, product_given, star_given, met_brought, shuffle_given, given_full}
use Rattle.vc_terms.proofs.items.operations_are_given_by_items.Goals as goal

pub returns-clause-zero : goal.returns-clause-zero
returns-clause-zero g c R L tapes X = zero_given L tapes X

pub returns-clause-one : goal.returns-clause-one
returns-clause-one g c R L tapes X = one_given L tapes X

pub returns-clause-multiple : goal.returns-clause-multiple
returns-clause-multiple g c R L tapes k f d X xs F w l = times_given L tapes k f d X xs F w l

pub returns-clause-product : goal.returns-clause-product
returns-clause-product g c R L tapes f h a b X Y xs ys F H G w l = product_given L tapes f h a b X Y xs ys F H G w l

pub returns-clause-star : goal.returns-clause-star
returns-clause-star g c R L tapes f a X xs F H w l = star_given L tapes f a X xs F H w l

pub returns-clause-both : goal.returns-clause-both
returns-clause-both g c R L pair X Y Z h xs ys p q w l = met_brought L 1 pair X Y Z h xs ys p q w l

pub returns-clause-shuffle : goal.returns-clause-shuffle
returns-clause-shuffle g c R L f h a b X Y xs ys p q F G w l e =
    shuffle_given L 1 f h X Y xs ys p q refl (given_full L 1 f a X xs F) (given_full L 1 h b Y ys G) w l e
