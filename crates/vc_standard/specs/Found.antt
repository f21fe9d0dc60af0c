-- Where an equal transition stands.
use Rattle.std.specs.Prelude.{◌≡◌, ◌<◌, ℕ, [], ◌∷◌, length, slice_index_or, slice_set}
use Rattle.vc_model.specs.Items.{Item}
use Rattle.vc_model.specs.WeightSet.{WeightSet}
use Rattle.vc_ring.specs.declared.faults.Overflow.TheVariants.{Add}
use Rattle.vc_terms.specs.ItemLists.{put_item}
use Rattle.vc_standard.specs.Steps.{put_steps}
use Rattle.vc_standard.specs.Structures.{Moves, same_place}

-- where e is put to the transitions, its weight is added at place i
pub record IsFound {V : Type 0} (R : WeightSet V) (ds : Moves V) (e : Item V ℕ) (i : ℕ) : Type 0 where
  pub inside : i < length ds
  pub put : put_item R same_place e ds ≡ slice_set ds i (record { label = e.label; weight = R.plus (slice_index_or ds i e).weight e.weight; to = e.to })
  pub steps : put_steps e ds ≡ Add (slice_index_or ds i e).weight e.weight ∷ []
