use Rattle.vc_model.proofs.TrimLaws.{trim_within, trim_free, trim_future, trim_coefficient}
use Rattle.vc_model.proofs.trims.trims_keep_series.Goals as goal

pub returns-clause-within : goal.returns-clause-within
returns-clause-within g c R L same Z tapes A T a t kept M k i w l e = trim_within L same Z tapes A T a t kept M k i w l e

pub returns-clause-circuits : goal.returns-clause-circuits
returns-clause-circuits g c R L same Z tapes A T a t kept M N = trim_free L same Z tapes A T a t kept M N

pub returns-clause-future : goal.returns-clause-future
returns-clause-future g c R L same Z tapes A T a t kept M s i w l e = trim_future L same Z tapes A T a t kept M s i w l e

pub returns-clause-coefficient : goal.returns-clause-coefficient
returns-clause-coefficient g c R L same Z tapes A T a t kept M s w e = trim_coefficient L same Z tapes A T a t kept M s w e
