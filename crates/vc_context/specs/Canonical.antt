-- The one canonical text of each context.
use Rattle.std.specs.Prelude.{ℕ, List, [], ◌∷◌, ◌++◌, codes}
use Rattle.std.specs.List.{flat_map}
use Rattle.vc_context.specs.Spelling.{weights_name}
use Rattle.vc_context.specs.declared.context.Weights.{Weights}
use Rattle.vc_label.specs.Alphabets.{letters_of}
use Rattle.vc_label.specs.declared.tape_set.TapeKind.{TapeKind}
use Rattle.vc_label.specs.declared.tape_set.TapeKind.TheVariants.{Letters, Nullable, Words}
use Rattle.vc_label.specs.declared.tape_set.TapeSet.{TapeSet}
use Rattle.vc_text.specs.Letters.{letter_text}

-- the name of each kind
abbrev pub kind_name : TapeKind → List ℕ
kind_name Letters = codes "lal_char"
kind_name Nullable = codes "lan_char"
kind_name Words = codes "law_char"

-- a name, and the letters ascending in parentheses
abbrev pub tape_text : TapeSet → List ℕ
tape_text set = kind_name set.kind ++ (codes "(" ++ (flat_map letter_text (letters_of set.alphabet) ++ codes ")"))

-- a tape behind a comma and a blank
abbrev pub comma_text : TapeSet → List ℕ
comma_text set = codes ", " ++ tape_text set

-- one tape alone, or several in `lat<` and `>`
abbrev pub labels_text : List TapeSet → List ℕ
labels_text [] = []
labels_text (set ∷ []) = tape_text set
labels_text (set ∷ next ∷ sets) = codes "lat<" ++ (tape_text set ++ (flat_map comma_text (next ∷ sets) ++ codes ">"))

-- the label set, a comma and a blank, and the weight set
abbrev pub context_text : List TapeSet → Weights → List ℕ
context_text sets weights = labels_text sets ++ (codes ", " ++ weights_name weights)
