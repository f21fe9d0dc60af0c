-- Why a word has no label.
use Rattle.std.specs.Prelude.{Result, Ok, Err, ⊤}
use Rattle.vc_label.specs.declared.label_set.LabelFault.{LabelFault}
use Rattle.vc_label.specs.declared.label_set.LabelFault.TheVariants.{NotHere, Memory}

-- the word is no label of the set
abbrev pub IsOutside : LabelFault → Type 0
IsOutside NotHere = ⊤
IsOutside (Memory e) = ⊥

-- the answer is that the word is no label of the set
abbrev pub IsNotHere : {T : Type 0} → Result T LabelFault → Type 0
IsNotHere (Ok v) = ⊥
IsNotHere (Err e) = IsOutside e
