-- Parts with bars between them.
use Rattle.std.proofs.Common.{◌≡◌, ◌≢◌, ◌≤◌, ◌+◌, ◌*◌, suc, Bool, true, false, ◌&&◌, List, [], ◌∷◌, length, map, get_or, refl, ap, arith}
use Rattle.vc_label.specs.declared.tape_set.TapeSet.{TapeSet}
use Rattle.vc_label.specs.Sets.{IsOverSets}
use Rattle.vc_model.specs.Words.{Word}
use Rattle.vc_lex.specs.declared.token.Token.{Token}
use Rattle.vc_lex.specs.Marks.{Mark}
use Rattle.vc_lex.specs.Parts.{are_parts, is_part_kind, is_bar_kind, tape_of, parts_word}
use Rattle.vc_lex.specs.Views.{seen}

-- four parts
pub seven_parts : (ts : List Token) (d e f g : Token) → length ts ≡ 7
    → (tape_of (seen (get_or ts 0 d)) ∷ tape_of (seen (get_or ts 2 e)) ∷ tape_of (seen (get_or ts 4 f)) ∷ tape_of (seen (get_or ts 6 g)) ∷ []) ≡ parts_word (map seen ts)
seven_parts (a ∷ b ∷ c ∷ x ∷ y ∷ z ∷ w ∷ []) d e f g h = refl
seven_parts (a ∷ b ∷ c ∷ x ∷ y ∷ z ∷ w ∷ v ∷ ts) d e f g h = absurd (omega arith)
seven_parts (a ∷ b ∷ c ∷ x ∷ y ∷ z ∷ []) d e f g h = absurd (omega arith)
seven_parts (a ∷ b ∷ c ∷ x ∷ y ∷ []) d e f g h = absurd (omega arith)
seven_parts (a ∷ b ∷ c ∷ x ∷ []) d e f g h = absurd (omega arith)
seven_parts (a ∷ b ∷ c ∷ []) d e f g h = absurd (omega arith)
seven_parts (a ∷ b ∷ []) d e f g h = absurd (omega arith)
seven_parts (a ∷ []) d e f g h = absurd (omega arith)
seven_parts [] d e f g h = absurd (omega arith)

last_of : (a b c : Bool) → a && b && c ≡ true → c ≡ true
last_of true true c h = h
last_of true false c h = absurd (cc)
last_of false b c h = absurd (cc)

-- there is a bar less than there are parts
parts_counted : (ms : List Mark) → are_parts ms ≡ true → length ms + 1 ≡ 2 * length (parts_word ms)
parts_counted [] h = absurd (cc)
parts_counted (m ∷ []) h = refl
parts_counted (m ∷ b ∷ ms) h = let e = parts_counted ms (last_of (is_part_kind m.kind) (is_bar_kind b.kind) (are_parts ms) h) in omega (arith, e)

map-length : (ts : List Token) → length (map seen ts) ≡ length ts
map-length [] = refl
map-length (t ∷ ts) = ap suc (map-length ts)

-- no label has five parts or more
pub many_parts : (sets : List TapeSet) (ts : List Token) → length sets ≤ 4 → ((w : Word) → IsOverSets sets w → length w ≡ length sets) → are_parts (map seen ts) ≡ true
    → length ts ≢ 1 → length ts ≢ 3 → length ts ≢ 5 → length ts ≢ 7 → IsOverSets sets (parts_word (map seen ts)) → ⊥
many_parts sets ts few tapes h n1 n3 n5 n7 over =
    let e = parts_counted (map seen ts) h in
    let l = map-length ts in
    let t = tapes (parts_word (map seen ts)) over in
    omega (arith, e, l, t, few, n1, n3, n5, n7)
