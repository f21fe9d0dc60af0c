use Rattle.vc_products.proofs.Composed.{joined_future, joined}
use Rattle.vc_products.proofs.compositions.joins_have_their_series.Goals as goal

pub returns-clause-future : goal.returns-clause-future
returns-clause-future g c R L = joined_future L

pub returns-clause-coefficient : goal.returns-clause-coefficient
returns-clause-coefficient g c R L = joined L
