use Rattle.std.proofs.Common.{◌≡◌, ℕ, suc, List, take, drop, length, refl, arith, ◌+◌, ◌-◌, ◌∙◌, sym}
use Rattle.std.proofs.lemmas.Grind.{common_steps}
use Rattle.vc_rat.proofs.Readings.{read-some, read-none}
use Rattle.vc_rat.proofs.texts.read_fraction.Goals as goal

behind : (text : List ℕ) (at : ℕ) → take (length text - (at + 1)) (drop (at + 1) text) ≡ drop (suc at) text
behind text at = grind (arith, common_steps)

pub returns-in-Some : goal.returns-in-Some
returns-in-Some c = read-some c.args.text.now _ _ c.in-Some.at _ _ _ (sym c.slash.ensures.place ∙ c.in-Some.is) refl (behind c.args.text.now c.in-Some.at) c.read_whole.ensures.value c.read_magnitude.ensures.value c.quotient.ensures

pub returns-in-None : goal.returns-in-None
returns-in-None c = read-none c.args.text.now _ _ _ (sym c.slash.ensures.place ∙ c.in-None.is) c.read_whole-in-None.ensures.value refl c.quotient-in-None.ensures
