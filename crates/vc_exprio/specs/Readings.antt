-- What the parser and the reader of texts answer, in the order of refusals.
use Rattle.std.specs.Prelude.{◌≡◌, ◌<◌, ◌≤◌, ℕ, Bool, List, length, map}
use Rattle.vc_lex.specs.Marks.{Mark, HasMarks, BreaksAt}
use Rattle.vc_lex.specs.Views.{seen}
use Rattle.vc_lex.specs.declared.token.Mode.TheVariants.{Expression}
use Rattle.vc_lex.specs.declared.token.Token.{Token}
use Rattle.vc_exprio.specs.declared.parser.Parsed.{Parsed}
use Rattle.vc_exprio.specs.declared.parser.Parsed.TheVariants as parsed
use Rattle.vc_exprio.specs.declared.read.Reading.{Reading}
use Rattle.vc_exprio.specs.declared.read.Reading.TheVariants.{TooLong, BadByte, NotAnExpression, TooDeep, Steps}
use Rattle.vc_exprio.specs.declared.step.Step.{Step}
use Rattle.vc_exprio.specs.Trees.{Tree}
use Rattle.vc_exprio.specs.Grammar.{SpellsTree}
use Rattle.vc_exprio.specs.Fronts.{IsFaultAt}
use Rattle.vc_exprio.specs.Meaning.{depth}
use Rattle.vc_exprio.specs.Spelling.{SpellsText}
use Rattle.vc_exprio.specs.Steps.{steps_of}
use Rattle.vc_exprio.specs.Views.{step_seen}

-- the steps of the tree that the tokens spell; or the place of the fault, where they spell none
abbrev pub IsParsed : (Mark → Bool) → ℕ → List Mark → Parsed → Type 0
IsParsed is_weight end ms (parsed.Steps steps) = (t : Tree) × SpellsTree is_weight ms t × (map step_seen steps.items ≡ steps_of t)
IsParsed is_weight end ms (parsed.Fault at) = ((t : Tree) → SpellsTree is_weight ms t → ⊥) × IsFaultAt is_weight end ms at

-- the tokens of the text spell no tree, and have their fault at this place
pub record IsNoExpression (is_weight : Mark → Bool) (text : List ℕ) (at : ℕ) : Type 0 where
  pub marks : List Mark
  pub has : HasMarks Expression text 0 marks
  pub none : (t : Tree) → SpellsTree is_weight marks t → ⊥
  pub fault : IsFaultAt is_weight (length text) marks at

-- these are the tokens of the text, and the steps of the tree that they spell
pub record HasSteps (is_weight : Mark → Bool) (text : List ℕ) (tokens : List Token) (steps : List Step) : Type 0 where
  pub has : HasMarks Expression text 0 (map seen tokens)
  pub tree : Tree
  pub spells : SpellsTree is_weight (map seen tokens) tree
  pub shallow : depth tree ≤ 1000
  pub makes : map step_seen steps ≡ steps_of tree

-- each answer by its cause
abbrev pub IsReading : (Mark → Bool) → List ℕ → Reading → Type 0
IsReading is_weight text TooLong = 65536 < length text
IsReading is_weight text (BadByte at) = (length text ≤ 65536) × (ms : List Mark) × BreaksAt Expression text 0 ms at
IsReading is_weight text (NotAnExpression at) = (length text ≤ 65536) × IsNoExpression is_weight text at
IsReading is_weight text TooDeep = (length text ≤ 65536) × (t : Tree) × SpellsText is_weight text t × (1000 < depth t)
IsReading is_weight text (Steps tokens steps) = (length text ≤ 65536) × HasSteps is_weight text tokens.items steps.items
