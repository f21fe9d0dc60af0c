-- The first token of some kind.
use Rattle.std.specs.Prelude.{ℕ, Bool, true, false, ◌&&◌, not, List, [], ◌∷◌, Option, Some, None, if◌then◌else◌}
use Rattle.std.specs.Option.{is_some}
use Rattle.vc_lex.specs.declared.token.TokenKind.{TokenKind}
use Rattle.vc_lex.specs.declared.token.TokenKind.TheVariants.{And, Shuffle, Weight}
use Rattle.vc_lex.specs.Marks.{Mark}
use Rattle.vc_text.specs.Escapes.{inside}

-- the place of the first token that passes the test
abbrev pub first_place : (Mark → Bool) → List Mark → Option ℕ
first_place test [] = None
first_place test (m ∷ ms) = if test m then Some m.at else first_place test ms

abbrev pub is_operator_kind : TokenKind → Bool
is_operator_kind And = true
is_operator_kind Shuffle = true
is_operator_kind kind = false

-- `&` or `:`
abbrev pub is_operator : Mark → Bool
is_operator m = is_operator_kind m.kind

abbrev pub is_weight_kind : TokenKind → Bool
is_weight_kind Weight = true
is_weight_kind kind = false

-- a weight of the weight set in which a number is past its range
abbrev pub is_unfit : {V : Type 0} → (List ℕ → Option V) → (List ℕ → Bool) → Mark → Bool
is_unfit spelled fit m = is_weight_kind m.kind && (is_some (spelled (inside m.text)) && not (fit (inside m.text)))
