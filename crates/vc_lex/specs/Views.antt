-- What tokens of the code stand for.
use Rattle.std.specs.Prelude.{◌+◌, ◌<◌, ◌^◌, ⊤, List, [], ◌∷◌, length}
use Rattle.vc_lex.specs.Marks.{Mark}
use Rattle.vc_lex.specs.declared.token.Token.{Token}

-- the token, without where its text lies in memory
abbrev pub seen : Token → Mark
seen t = record { kind = t.kind; text = t.text.now; at = t.at }

-- the place after each token is a number of 64 bits
abbrev pub AreFit : List Token → Type 0
AreFit [] = ⊤
AreFit (t ∷ ts) = (t.at + length t.text.now < 2 ^ 64) × AreFit ts
