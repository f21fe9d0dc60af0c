-- The standard construction: structures of a start and positions, and the one of a tree.
use Rattle.std.specs.Prelude.{ℕ, ◌+◌, ◌*◌, ◌==◌, List, [], ◌∷◌, ◌++◌, length, map, Bool, if◌then◌else◌}
use Rattle.std.specs.List.{flat_map, filter}
use Rattle.vc_model.specs.WeightSet.{WeightSet}
use Rattle.vc_model.specs.Words.{Word, same_word}
use Rattle.vc_model.specs.Series.{star_or_zero}
use Rattle.vc_model.specs.Items.{Item}
use Rattle.vc_terms.specs.ItemLists.{mapped, scaled_items, met_items, grouped_items}
use Rattle.vc_terms.specs.Terms.{Term, Terms, NoTerms, MoreTerms, Zero, One, Atom, Sum, Product, Star, Weight, Both, Shuffle}

-- transitions to positions, each of which is told by its place from 0
abbrev pub Moves : Type 0 → Type 0
Moves V = List (Item V ℕ)

-- a state: its final weight and its transitions
pub record Position (V : Type 0) : Type 0 where
  pub final : V
  pub moves : Moves V

-- the start and the positions
pub record Standard (V : Type 0) : Type 0 where
  pub start : Position V
  pub positions : List (Position V)

-- the number of positions
abbrev pub size_of : {V : Type 0} → Standard V → ℕ
size_of A = length A.positions

-- the places are the same
abbrev pub same_place : ℕ → ℕ → Bool
same_place i j = i == j

-- behind n other positions
abbrev pub moved : {V : Type 0} → ℕ → Moves V → Moves V
moved n xs = mapped (λ i. n + i) xs

-- the position behind n others
abbrev pub moved_position : {V : Type 0} → ℕ → Position V → Position V
moved_position n p = record { final = p.final; moves = moved n p.moves }

-- no position, and this final weight at the start
abbrev pub bare : {V : Type 0} → V → Standard V
bare c = record { start = record { final = c; moves = [] }; positions = [] }

-- one position, to which the label leads
abbrev pub labelled : {V : Type 0} → WeightSet V → Word → Standard V
labelled R a = record {
  start = record { final = R.zero; moves = record { label = a; weight = R.one; to = 0 } ∷ [] };
  positions = record { final = R.one; moves = [] } ∷ [];
}

-- k before the transitions from the start and its final weight
abbrev pub weighted : {V : Type 0} → WeightSet V → V → Standard V → Standard V
weighted R k A = record { start = record { final = R.times k A.start.final; moves = scaled_items R k A.start.moves }; positions = A.positions }

-- the positions side by side
abbrev pub beside : {V : Type 0} → WeightSet V → Standard V → Standard V → Standard V
beside R A B = record {
  start = record { final = R.plus A.start.final B.start.final; moves = A.start.moves ++ moved (size_of A) B.start.moves };
  positions = A.positions ++ map (moved_position (size_of A)) B.positions;
}

-- the transitions with a final weight before them, none where this is zero
abbrev pub copied : {V : Type 0} → WeightSet V → (V → V → Bool) → V → Moves V → Moves V
copied R equal t xs = if equal t R.zero then [] else scaled_items R t xs

-- a state before a structure with these transitions from its start and this final weight of it
abbrev pub followed : {V : Type 0} → WeightSet V → (V → V → Bool) → Moves V → V → Position V → Position V
followed R equal xs c p = record { final = R.times p.final c; moves = p.moves ++ copied R equal p.final xs }

-- the first before the second
abbrev pub chained : {V : Type 0} → WeightSet V → (V → V → Bool) → Standard V → Standard V → Standard V
chained R equal A B = record {
  start = followed R equal (moved (size_of A) B.start.moves) B.start.final A.start;
  positions = map (followed R equal (moved (size_of A) B.start.moves) B.start.final) A.positions ++ map (moved_position (size_of A)) B.positions;
}

-- a position that may go on as the start does, where these are the transitions from the start and h is its final weight; of equal triples the old weight comes first
abbrev pub again : {V : Type 0} → WeightSet V → (V → V → Bool) → Moves V → V → Position V → Position V
again R equal xs h p = record { final = R.times p.final h; moves = grouped_items R same_place p.moves (copied R equal p.final xs) }

-- the star, where h is the star of the final weight of the start
abbrev pub looped : {V : Type 0} → WeightSet V → (V → V → Bool) → V → Standard V → Standard V
looped R equal h A = record {
  start = record { final = h; moves = scaled_items R h A.start.moves };
  positions = map (again R equal (scaled_items R h A.start.moves) h) A.positions;
}

-- the transitions of one with each of the others that has the same label, where the second structure has m positions
abbrev pub meetings : {V : Type 0} → WeightSet V → ℕ → Item V ℕ → Moves V → Moves V
meetings R m e ys = map (λ d. record { label = e.label; weight = R.times e.weight d.weight; to = e.to * m + d.to }) (filter (λ d. same_word e.label d.label) ys)

-- the state of two states that read the same letters, where the second structure has m positions
abbrev pub met : {V : Type 0} → WeightSet V → ℕ → Position V → Position V → Position V
met R m p q = record { final = R.times p.final q.final; moves = met_items R (λ i j. i * m + j) p.moves q.moves }

-- the pairs of positions, ordered by the first and then by the second
abbrev pub conjoined : {V : Type 0} → WeightSet V → Standard V → Standard V → Standard V
conjoined R A B = record {
  start = met R (size_of B) A.start B.start;
  positions = flat_map (λ p. map (met R (size_of B) p) B.positions) A.positions;
}

-- the state of the states with the numbers i and j, of which one moves at a time, where the second structure has m positions; of equal triples the weight of the first comes first
abbrev pub mixed : {V : Type 0} → WeightSet V → ℕ → ℕ → ℕ → Position V → Position V → Position V
mixed R m i j p q = record {
  final = R.times p.final q.final;
  moves = grouped_items R same_place (mapped (λ k. k * (m + 1) + m + j) p.moves) (mapped (λ k. i * (m + 1) + k) q.moves);
}

-- of one state with the states from number j on
abbrev pub mixed_row : {V : Type 0} → WeightSet V → ℕ → ℕ → ℕ → Position V → List (Position V) → List (Position V)
mixed_row R m i j p [] = []
mixed_row R m i j p (q ∷ qs) = mixed R m i j p q ∷ mixed_row R m i (j + 1) p qs

-- of the states from number i on with all
abbrev pub mixed_rows : {V : Type 0} → WeightSet V → ℕ → ℕ → List (Position V) → List (Position V) → List (Position V)
mixed_rows R m i [] qs = []
mixed_rows R m i (p ∷ ps) qs = mixed_row R m i 0 p qs ++ mixed_rows R m (i + 1) ps qs

-- the pairs of states but that of both starts, ordered by the first and then by the second
abbrev pub shuffled : {V : Type 0} → WeightSet V → Standard V → Standard V → Standard V
shuffled R A B = record {
  start = mixed R (size_of B) 0 0 A.start B.start;
  positions = mixed_row R (size_of B) 0 1 A.start B.positions ++ mixed_rows R (size_of B) 1 A.positions (B.start ∷ B.positions);
}

abbrev mutual
  -- the structure of a tree
  pub standard_of : {V : Type 0} → WeightSet V → (V → V → Bool) → Term V → Standard V
  standard_of R equal Zero = bare R.zero
  standard_of R equal One = bare R.one
  standard_of R equal (Atom a) = labelled R a
  standard_of R equal (Sum ts) = beside_all R equal (bare R.zero) ts
  standard_of R equal (Product ts) = chained_all R equal (bare R.one) ts
  standard_of R equal (Star t) = looped R equal (star_or_zero R (standard_of R equal t).start.final) (standard_of R equal t)
  standard_of R equal (Weight k t) = weighted R k (standard_of R equal t)
  standard_of R equal (Both t u) = conjoined R (standard_of R equal t) (standard_of R equal u)
  standard_of R equal (Shuffle t u) = shuffled R (standard_of R equal t) (standard_of R equal u)

  -- of a structure beside those of the members
  pub beside_all : {V : Type 0} → WeightSet V → (V → V → Bool) → Standard V → Terms V → Standard V
  beside_all R equal A NoTerms = A
  beside_all R equal A (MoreTerms t ts) = beside_all R equal (beside R A (standard_of R equal t)) ts

  -- of a structure before those of the members, from left to right
  pub chained_all : {V : Type 0} → WeightSet V → (V → V → Bool) → Standard V → Terms V → Standard V
  chained_all R equal A NoTerms = A
  chained_all R equal A (MoreTerms t ts) = chained_all R equal (chained R equal A (standard_of R equal t)) ts
