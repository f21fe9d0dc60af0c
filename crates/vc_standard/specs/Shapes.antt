-- What stored structures stand for.
use Rattle.std.specs.Prelude.{List, ◌++◌, map}
use Rattle.std.specs.declared.cmp.Ord as ord
use Rattle.std.specs.declared.cmp.PartialEq as partial_eq
use Rattle.std.specs.declared.cmp.PartialOrd as partial_ord
use Rattle.std.specs.declared.hash.Hash as hash
use Rattle.vc_label.specs.declared.label_set.LabelSet as label_set
use Rattle.vc_ring.specs.declared.semiring.Semiring as semiring
use Rattle.vc_model.specs.Words.{Word}
use Rattle.vc_standard.specs.declared.positions.Positions.{Positions}
use Rattle.vc_standard.specs.declared.shapes.Shape.{Shape}
use Rattle.vc_standard.specs.declared.chain.Chain.{Chain}
use Rattle.vc_standard.specs.Stored.{position_of}
use Rattle.vc_standard.specs.Structures.{Position, Standard}

module _ {L S B V : Type 0} {a : label_set.Ghosts L B} {b : ord.Ghosts B} {c : partial_eq.Ghosts B} {d : partial_ord.Ghosts B} {e : hash.Ghosts B} {f : semiring.Ghosts S V} {g : partial_eq.Ghosts V} {h : hash.Ghosts V} where
  -- the positions
  abbrev pub positions_of : (B → Word) → Positions L S B V a b c d e f g h → List (Position V)
  positions_of parts ps = map (position_of parts) ps.list.items

  -- the structure
  abbrev pub shape_of : (B → Word) → Shape L S B V a b c d e f g h → Standard V
  shape_of parts s = record { start = position_of parts s.start; positions = positions_of parts s.positions }

  -- the structure of a product that is being made
  abbrev pub chain_of : (B → Word) → Chain L S B V a b c d e f g h → Standard V
  chain_of parts k = record { start = position_of parts k.start; positions = positions_of parts k.closed ++ positions_of parts k.ready }
