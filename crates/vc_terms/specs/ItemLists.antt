-- Lists of items: with other targets, multiplied, met, and put together.
use Rattle.std.specs.Prelude.{List, [], ◌∷◌, map, Bool, not, ◌&&◌, if◌then◌else◌}
use Rattle.std.specs.List.{flat_map, filter}
use Rattle.vc_model.specs.Items.{Item}
use Rattle.vc_model.specs.WeightSet.{WeightSet}
use Rattle.vc_model.specs.Words.{same_word}

-- the items with other targets
abbrev pub mapped : {V T U : Type 0} → (T → U) → List (Item V T) → List (Item V U)
mapped f xs = map (λ e. record { label = e.label; weight = e.weight; to = f e.to }) xs

-- the items with k before each weight
abbrev pub scaled_items : {V T : Type 0} → WeightSet V → V → List (Item V T) → List (Item V T)
scaled_items R k xs = map (λ e. record { label = e.label; weight = R.times k e.weight; to = e.to }) xs

-- for any two with the same label, the item to both targets
abbrev pub met_items : {V T U S : Type 0} → WeightSet V → (T → U → S) → List (Item V T) → List (Item V U) → List (Item V S)
met_items R f xs ys = flat_map (λ e. map (λ d. record { label = e.label; weight = R.times e.weight d.weight; to = f e.to d.to }) (filter (λ d. same_word e.label d.label) ys)) xs

-- the items have the same label and the same target
abbrev pub same_item : {V T : Type 0} → (T → T → Bool) → Item V T → Item V T → Bool
same_item same d e = same_word d.label e.label && same d.to e.to

-- the item is added to the first with the same label and target, or stands at the end
abbrev pub put_item : {V T : Type 0} → WeightSet V → (T → T → Bool) → Item V T → List (Item V T) → List (Item V T)
put_item R same e [] = e ∷ []
put_item R same e (d ∷ ds) = if same_item same d e then record { label = d.label; weight = R.plus d.weight e.weight; to = d.to } ∷ ds else d ∷ put_item R same e ds

-- each of the second items is put to the first ones
abbrev pub grouped_items : {V T : Type 0} → WeightSet V → (T → T → Bool) → List (Item V T) → List (Item V T) → List (Item V T)
grouped_items R same ds [] = ds
grouped_items R same ds (e ∷ es) = grouped_items R same (put_item R same e ds) es

-- items with the same label and target are added, in order, and those of weight zero dropped
abbrev pub collected_items : {V T : Type 0} → WeightSet V → (V → V → Bool) → (T → T → Bool) → List (Item V T) → List (Item V T)
collected_items R equal same xs = filter (λ e. not (equal e.weight R.zero)) (grouped_items R same [] xs)
