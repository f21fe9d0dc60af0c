-- Cuts of words of several tapes.
use Rattle.std.proofs.Common.{cond, ◌≡◌, ℕ, zero, suc, ◌<◌, true, false, List, [], ◌∷◌, length, take, drop, refl, ◌∙◌, IsTrue, arith, slice_index_or, Option, Some, None, nat_eq, Bor, MatchOption}
use Rattle.std.specs.Prelude.{IfSome, ◌+◌}
use Rattle.std.specs.Cmp.Lexicographic.{pointwise}
use Rattle.vc_label.specs.Letters.{are_letters}
use Rattle.vc_model.specs.Words.{Word, Tape, rest_after, put_front, cut}

abbrev Stripped : Tape → Tape → Option (Bor (List ℕ)) → Type 0
Stripped p t r = MatchOption r (pointwise nat_eq (take (length p) t) p ≡ false) (λ x. (pointwise nat_eq (take (length p) t) p ≡ true) × (x.now ≡ drop (length p) t) × (length x.now + length p ≡ length t))

pub rest_is : (p t : Tape) (r : Option (Bor (List ℕ))) → rest_after p t ≡ cond (pointwise nat_eq (take (length p) t) p) (Some (drop (length p) t)) None → Stripped p t r → MatchOption r (rest_after p t ≡ None) (λ x. rest_after p t ≡ Some x.now)
rest_is p t None l h = l ∙ rw h refl
rest_is p t (Some x) l h = l ∙ rw (h.0, h.1) refl

pub rest_of_letters : (p t : Tape) (r : Option (Bor (List ℕ))) → IsTrue (are_letters (drop (length p) t)) → Stripped p t r → IfSome r (λ x. IsTrue (are_letters x.now))
rest_of_letters p t None l h = tt
rest_of_letters p t (Some x) l h = rw h.1 l

abbrev pub at : Word → ℕ → Tape
at w i = slice_index_or w i []

put_none : (r : Option Tape) → None ≡ put_front r None
put_none None = refl
put_none (Some a) = refl

-- a tape that does not begin so
pub cut_stops : (v w : Word) (i : ℕ) → length v ≡ length w → i < length w → rest_after (at v i) (at w i) ≡ None → None ≡ cut v w
cut_stops [] [] i h l e = absurd (omega arith)
cut_stops [] (b ∷ w) i h l e = absurd (omega arith)
cut_stops (a ∷ v) [] i h l e = absurd (omega arith)
cut_stops (a ∷ v) (b ∷ w) zero h l e = rw e refl
cut_stops (a ∷ v) (b ∷ w) (suc i) h l e =
    let k : None ≡ cut v w = cut_stops v w i (omega arith) (omega arith) e in
    rw (← k) (put_none (rest_after a b))

cut_first : (v w r : Word) (a : Tape) → length v ≡ length w → 0 < length w → rest_after (at v 0) (at w 0) ≡ Some a → Some r ≡ cut (drop 1 v) (drop 1 w) → Some (a ∷ r) ≡ cut v w
cut_first [] [] r a h l e f = absurd (omega arith)
cut_first [] (y ∷ w) r a h l e f = absurd (omega arith)
cut_first (x ∷ v) [] r a h l e f = absurd (omega arith)
cut_first (x ∷ v) (y ∷ w) r a h l e f = let k : Some r ≡ cut v w = f in rw (e, ← k) refl

at_next : (w : Word) (i : ℕ) → at (drop 1 w) i ≡ at w (suc i)
at_next [] i = refl
at_next (a ∷ w) i = refl

length_next : (w : Word) (n : ℕ) → length w ≡ suc n → length (drop 1 w) ≡ n
length_next [] n h = absurd (omega arith)
length_next (a ∷ w) n h = omega arith

next : (v w : Word) (i : ℕ) (a : Tape) → rest_after (at v (suc i)) (at w (suc i)) ≡ Some a → rest_after (at (drop 1 v) i) (at (drop 1 w) i) ≡ Some a
next v w i a e = rw (at_next v i, at_next w i) e

pub cut_none : (v w : Word) → length v ≡ 0 → length w ≡ 0 → Some [] ≡ cut v w
cut_none [] [] h k = refl
cut_none [] (b ∷ w) h k = absurd (omega arith)
cut_none (a ∷ v) [] h k = absurd (omega arith)
cut_none (a ∷ v) (b ∷ w) h k = absurd (omega arith)

pub cut_one : (v w : Word) (a : Tape) → length v ≡ 1 → length w ≡ 1 → rest_after (at v 0) (at w 0) ≡ Some a → Some (a ∷ []) ≡ cut v w
cut_one v w a h k e = cut_first v w [] a (omega arith) (omega arith) e (cut_none (drop 1 v) (drop 1 w) (length_next v 0 h) (length_next w 0 k))

pub cut_two : (v w : Word) (a b : Tape) → length v ≡ 2 → length w ≡ 2 → rest_after (at v 0) (at w 0) ≡ Some a → rest_after (at v 1) (at w 1) ≡ Some b → Some (a ∷ b ∷ []) ≡ cut v w
cut_two v w a b h k e f = cut_first v w (b ∷ []) a (omega arith) (omega arith) e (cut_one (drop 1 v) (drop 1 w) b (length_next v 1 h) (length_next w 1 k) (next v w 0 b f))

pub cut_three : (v w : Word) (a b c : Tape) → length v ≡ 3 → length w ≡ 3 → rest_after (at v 0) (at w 0) ≡ Some a → rest_after (at v 1) (at w 1) ≡ Some b → rest_after (at v 2) (at w 2) ≡ Some c → Some (a ∷ b ∷ c ∷ []) ≡ cut v w
cut_three v w a b c h k e f g = cut_first v w (b ∷ c ∷ []) a (omega arith) (omega arith) e (cut_two (drop 1 v) (drop 1 w) b c (length_next v 2 h) (length_next w 2 k) (next v w 0 b f) (next v w 1 c g))

pub cut_four : (v w : Word) (a b c d : Tape) → length v ≡ 4 → length w ≡ 4 → rest_after (at v 0) (at w 0) ≡ Some a → rest_after (at v 1) (at w 1) ≡ Some b → rest_after (at v 2) (at w 2) ≡ Some c → rest_after (at v 3) (at w 3) ≡ Some d → Some (a ∷ b ∷ c ∷ d ∷ []) ≡ cut v w
cut_four v w a b c d h k e f g i = cut_first v w (b ∷ c ∷ d ∷ []) a (omega arith) (omega arith) e (cut_three (drop 1 v) (drop 1 w) b c d (length_next v 3 h) (length_next w 3 k) (next v w 0 b f) (next v w 1 c g) (next v w 2 d i))
