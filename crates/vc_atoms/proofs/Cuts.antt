-- Cuts of words of one tape, by prefixes.
use Rattle.std.proofs.Common.{◌≡◌, true, false, [], ◌∷◌, length, take, drop, cond, nat_eq, Some, None, refl, ◌∙◌, arith, slice_index_or}
use Rattle.std.specs.Cmp.Lexicographic.{pointwise}
use Rattle.vc_model.specs.Words.{Word, Tape, rest_after, put_front, cut}

cut_one : (a : Tape) (w : Word) → 1 ≡ length w → cut (a ∷ []) w ≡ put_front (rest_after a (slice_index_or w 0 [])) (Some [])
cut_one a [] h = absurd (omega arith)
cut_one a (b ∷ []) h = refl
cut_one a (b ∷ c ∷ w) h = absurd (omega arith)

abbrev IsByPrefix : Tape → Tape → Type 0
IsByPrefix a b = rest_after a b ≡ cond (pointwise nat_eq (take (length a) b) a) (Some (drop (length a) b)) None

pub cut_found : (a p b r : Tape) (w v : Word) → IsByPrefix p b → 1 ≡ length w → b ≡ slice_index_or w 0 [] → p ≡ a → pointwise nat_eq (take (length p) b) p ≡ true → r ≡ drop (length p) b → v ≡ r ∷ [] → Some v ≡ cut (a ∷ []) w
cut_found a p b r w v l h e f t d g =
    let k : cut (a ∷ []) w ≡ put_front (rest_after p b) (Some []) = rw (e, f) (cut_one a w h) in
    let m : rest_after p b ≡ Some (drop (length p) b) = l ∙ rw t refl in
    rw (k, m, g, d) refl

pub cut_not_found : (a p b : Tape) (w : Word) → IsByPrefix p b → 1 ≡ length w → b ≡ slice_index_or w 0 [] → p ≡ a → pointwise nat_eq (take (length p) b) p ≡ false → None ≡ cut (a ∷ []) w
cut_not_found a p b w l h e f t =
    let k : cut (a ∷ []) w ≡ put_front (rest_after p b) (Some []) = rw (e, f) (cut_one a w h) in
    let m : rest_after p b ≡ None = l ∙ rw t refl in
    rw (k, m) refl
