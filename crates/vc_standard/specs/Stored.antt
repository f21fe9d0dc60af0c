-- What stored transitions and positions stand for.
use Rattle.std.specs.Prelude.{ℕ, List, map}
use Rattle.std.specs.declared.cmp.Ord as ord
use Rattle.std.specs.declared.cmp.PartialEq as partial_eq
use Rattle.std.specs.declared.cmp.PartialOrd as partial_ord
use Rattle.std.specs.declared.hash.Hash as hash
use Rattle.vc_label.specs.declared.label_set.LabelSet as label_set
use Rattle.vc_ring.specs.declared.semiring.Semiring as semiring
use Rattle.vc_model.specs.Words.{Word}
use Rattle.vc_model.specs.Items.{Item}
use Rattle.vc_standard.specs.declared.shape.Move.{Move}
use Rattle.vc_standard.specs.declared.shape.Position.{Position as StoredPosition}
use Rattle.vc_standard.specs.Structures.{Moves, Position}

module _ {L S B V : Type 0} {a : label_set.Ghosts L B} {b : ord.Ghosts B} {c : partial_eq.Ghosts B} {d : partial_ord.Ghosts B} {e : hash.Ghosts B} {f : semiring.Ghosts S V} {g : partial_eq.Ghosts V} {h : hash.Ghosts V} where
  -- the transition that a stored one stands for, where the parts of a label are its word
  abbrev pub item_of : (B → Word) → Move L S B V a b c d e f g h → Item V ℕ
  item_of parts m = record { label = parts m.label; weight = m.weight; to = m.to }

  -- the transitions
  abbrev pub items_of : (B → Word) → List (Move L S B V a b c d e f g h) → Moves V
  items_of parts ms = map (item_of parts) ms

  -- the state
  abbrev pub position_of : (B → Word) → StoredPosition L S B V a b c d e f g h → Position V
  position_of parts p = record { final = p.last; moves = items_of parts p.moves.items }
