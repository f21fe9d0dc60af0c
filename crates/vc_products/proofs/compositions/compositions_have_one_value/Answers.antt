use Rattle.vc_products.proofs.CompositionLaws.{composition_one}
use Rattle.vc_products.proofs.compositions.compositions_have_one_value.Goals as goal

pub returns : goal.returns
returns g c R = composition_one R
