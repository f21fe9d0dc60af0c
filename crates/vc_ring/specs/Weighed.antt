-- The texts of a weight set in generic code.
use Rattle.std.specs.declared.cmp.PartialEq.{Ghosts as Compared}
use Rattle.vc_ring.specs.Texts.{WeightTexts}
use Rattle.vc_ring.specs.declared.semiring.Semiring.{Ghosts}

-- those that a semiring has
abbrev pub weighed : {S V : Type 0} → Ghosts S V → Compared V → WeightTexts V
weighed s c = record { set = s.set; same = c.eq; spelled = s.spelled; numbers_fit = s.numbers_fit; canonical = s.canonical }
