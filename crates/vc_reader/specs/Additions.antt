-- Which additions reading makes, and which it refuses.
use Rattle.std.specs.Prelude.{◌≡◌, ◌<◌, ◌+◌, ℕ, false, List, ◌∷◌, ◌++◌, length, map}
use Rattle.std.specs.List.{flat_map}
use Rattle.vc_label.specs.declared.tape_set.TapeSet.{TapeSet}
use Rattle.vc_model.specs.Automata.{triple}
use Rattle.vc_model.specs.Gathered.{weight_at}
use Rattle.vc_model.specs.Lists.{In, NoRepeat}
use Rattle.vc_model.specs.Sums.{sum_over}
use Rattle.vc_model.specs.WeightSet.{WeightSet}
use Rattle.vc_ring.specs.Texts.{WeightTexts}
use Rattle.vc_model.specs.Words.{Word}
use Rattle.vc_lines.specs.Grammar.{Line}
use Rattle.vc_lines.specs.Heads.{HeadLine}
use Rattle.vc_reader.specs.Meaning.{Given, begins, ends, moves_by, beginning, ending, moving, given_by, number_of}
use Rattle.vc_lines.specs.Names.{AreNames}
use Rattle.vc_reader.specs.Spelling.{lines_in}

module _ {V : Type 0} where
  -- the weight that is given
  abbrev pub given_weight : Given V → V
  given_weight (begins p w) = w
  given_weight (ends p w) = w
  given_weight (moves_by t) = t.weight

  -- g is given by the line of this number, after all that is given in front of it, where the first line has the number n
  pub record IsGivenAt (by_line : Line → List (Given V)) (n : ℕ) (lines : List Line) (line : ℕ) (front : List (Given V)) (g : Given V) : Type 0 where
    pub before : List Line
    pub giver : Line
    pub after : List Line
    pub earlier : List (Given V)
    pub later : List (Given V)
    pub lines_are : lines ≡ before ++ giver ∷ after
    pub number : line ≡ n + length before
    pub gives : by_line giver ≡ earlier ++ g ∷ later
    pub front_is : front ≡ flat_map by_line before ++ earlier

module _ {V : Type 0} (R : WeightSet V) where
  -- the sum of the weights that were given to the same thing as g: to a state as an initial weight, to a state as a final weight, or to a source, a label and a target
  abbrev pub sum_standing : List (Given V) → Given V → V
  sum_standing front (begins p w) = sum_over R (beginning R p) front
  sum_standing front (ends p w) = sum_over R (ending R p) front
  sum_standing front (moves_by t) = weight_at R (flat_map (moving R) front) (triple t)

  -- the line of this number adds the weight w to the sum v of what was given in front to the same thing
  pub record IsAddition (by_line : Line → List (Given V)) (n : ℕ) (lines : List Line) (line : ℕ) (v w : V) : Type 0 where
    pub front : List (Given V)
    pub addend : Given V
    pub rest : List (Given V)
    pub all : flat_map by_line lines ≡ front ++ addend ∷ rest
    pub place : IsGivenAt by_line n lines line front addend
    pub left : v ≡ sum_standing front addend
    pub right : w ≡ given_weight addend

  -- the given transitions have more than so many sources, labels and targets
  pub record HasMoreTriples (most : ℕ) (given : List (Given V)) : Type 0 where
    pub triples : List (ℕ × Word × ℕ)
    pub once : NoRepeat triples
    pub named : (d : ℕ × Word × ℕ) → In d triples → In d (map triple (flat_map (moving R) given))
    pub more : most < length triples

module _ {V : Type 0} (T : WeightTexts V) (sets : List TapeSet) (h : HeadLine) where
  -- the line of this number after the head makes an addition that does not fit
  abbrev pub IsUnfitAddition : ℕ → V → V → Type 0
  IsUnfitAddition line v w =
      (names : List (List ℕ)) × AreNames (lines_in T.spelled h.after) names
      × IsAddition T.set (given_by T.set T.spelled sets (number_of names)) (h.number + 1) (lines_in T.spelled h.after) line v w
      × (T.set.fits_plus v w ≡ false)

  -- the lines after the head have transitions of more than 4,000,000 sources, labels and targets
  abbrev pub HasManyTriples : Type 0
  HasManyTriples =
      (names : List (List ℕ)) × AreNames (lines_in T.spelled h.after) names
      × HasMoreTriples T.set 4000000 (flat_map (given_by T.set T.spelled sets (number_of names)) (lines_in T.spelled h.after))
