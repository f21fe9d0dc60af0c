-- With which tokens an expression can begin, and the place of the fault where tokens are no expression.
use Rattle.std.specs.Prelude.{◌≡◌, ◌⊎◌, ℕ, Bool, List, [], ◌∷◌, ◌++◌, ⊤}
use Rattle.vc_lex.specs.Grammar.{IsTokenText}
use Rattle.vc_lex.specs.declared.token.Mode.TheVariants.{Expression}
use Rattle.vc_lex.specs.Marks.{Mark}
use Rattle.vc_exprio.specs.Trees.{Tree}
use Rattle.vc_exprio.specs.Grammar.{SpellsTree}

-- the texts are those of tokens
abbrev pub AreTokens : List Mark → Type 0
AreTokens [] = ⊤
AreTokens (m ∷ ms) = IsTokenText m.kind Expression m.text × AreTokens ms

module _ (is_weight : Mark → Bool) where
  -- some tokens behind these make an expression
  pub record IsFront (ms : List Mark) : Type 0 where
    pub rest : List Mark
    pub are : AreTokens rest
    pub tree : Tree
    pub spells : SpellsTree is_weight (ms ++ rest) tree

  -- an expression can begin with the tokens in front of this one, and with none that are more
  pub record IsFirstBad (ms : List Mark) (m : Mark) : Type 0 where
    pub front : List Mark
    pub behind : List Mark
    pub is : ms ≡ front ++ m ∷ behind
    pub before : IsFront front
    pub bad : IsFront (front ++ m ∷ []) → ⊥

  -- where tokens that are no expression have their fault: at the first token behind the longest front with which an expression can begin, or at the end of the text
  abbrev pub IsFaultAt : ℕ → List Mark → ℕ → Type 0
  IsFaultAt end ms at = ((m : Mark) × IsFirstBad ms m × (at ≡ m.at)) ⊎ (IsFront ms × (at ≡ end))
