-- Words to which letters are appended, and the alphabets that they are over.
use Rattle.std.proofs.Common.{◌≢◌, ◌-◌, suc, take, drop, Some, arith, drop-cons, ◌≡◌, ℕ, false, subst, ◌+◌, ◌<◌, true, Bool, List, [], ◌∷◌, ◌++◌, length, get_or, set, refl, ap, sym, ◌∙◌, append_assoc, append-nil}
use Rattle.std.proofs.lemmas.List.{set-set, set-get_or, get_or-set_same, length-set, set_at, get_or-map, take_more, length-map, length-take-le}
use Rattle.std.specs.Borrow.{Bor}
use Rattle.std.specs.Prelude.{All, slice_get}
use Rattle.std.proofs.lemmas.Option.{get_or_from_slice_get}
use Rattle.vc_exprio.specs.WordParts.{tapes_of}
use Rattle.vc_text.specs.Escapes.{unescaped}
use Rattle.vc_exprio.specs.Words.{IsOverAlphabets}
use Rattle.vc_label.specs.declared.tape_set.TapeSet.{TapeSet}
use Rattle.std.proofs.lemmas.List.Elements.{All-cons, All-head, All-tail}
use Rattle.std.proofs.lemmas.Bool.{false≢true}
use Rattle.vc_label.specs.Alphabets.{has_letter}
use Rattle.vc_label.specs.Growth.{grown}
use Rattle.vc_label.specs.declared.alphabet.Alphabet.{Alphabet}
use Rattle.vc_model.specs.Words.{Word, Tape, empty_word}

pub grown_none : (w : Word) (i : ℕ) → grown w i [] ≡ w
grown_none w i = ap (set w i) (append-nil (get_or w i [])) ∙ set-get_or w i []

pub grown_more : (w : Word) (i x : ℕ) (a : Tape) → i < length w → grown (grown w i (x ∷ [])) i a ≡ grown w i (x ∷ a)
grown_more w i x a l =
    set-set w i (get_or w i [] ++ x ∷ []) (get_or (set w i (get_or w i [] ++ x ∷ [])) i [] ++ a)
    ∙ ap (λ b. set w i (b ++ a)) (get_or-set_same w i (get_or w i [] ++ x ∷ []) [] l)
    ∙ ap (set w i) (append_assoc (get_or w i []) (x ∷ []) a)

-- each letter is in the alphabet
abbrev pub AreIn : Alphabet → Tape → Type 0
AreIn s a = All (λ x. has_letter s x ≡ true) a

pub first_in : (s : Alphabet) (x : ℕ) (a b : Tape) → b ≡ x ∷ a → AreIn s b → has_letter s x ≡ true
first_in s x a b e h = All-head (λ y. has_letter s y ≡ true) x a (subst (AreIn s) e h)

pub others_in : (s : Alphabet) (x : ℕ) (a b : Tape) → b ≡ x ∷ a → AreIn s b → AreIn s a
others_in s x a b e h = All-tail (λ y. has_letter s y ≡ true) x a (subst (AreIn s) e h)

pub more_in : (s : Alphabet) (x : ℕ) (a b : Tape) → b ≡ x ∷ a → has_letter s x ≡ true → AreIn s a → AreIn s b
more_in s x a b e k h = subst (AreIn s) (sym e) (All-cons (λ y. has_letter s y ≡ true) x a k h)

-- a letter that is not in the alphabet
pub first_out : (s : Alphabet) (x : ℕ) (a b : Tape) (over : Bool) → b ≡ x ∷ a → over ≡ has_letter s x → over ≡ false → AreIn s b → ⊥
first_out s x a b over e h f k = false≢true (sym f ∙ h ∙ first_in s x a b e k)

pub grown_tape : (w v : Word) (i : ℕ) (a : Tape) → v ≡ grown w i a → i < length w → i < length v
grown_tape w v i a e l = subst (λ u. i < length u) (sym e) (subst (λ n. i < n) (sym (length-set w i (get_or w i [] ++ a))) l)

-- ---- the tapes, one by one

pub part_on : (parts : List (Bor (List ℕ))) (i : ℕ) (d : Bor (List ℕ)) → i < length parts → unescaped (get_or parts i d).now ≡ get_or (tapes_of parts) i []
part_on parts i d l = sym (get_or-map (λ p. unescaped p.now) parts i d [] l)

-- the tapes so far, and the empty ones, with one more
pub grown_at : (w : Word) (v u : Word) (n i : ℕ) (a : Tape) → v ≡ take i w ++ empty_word (n - i) → i < n → length w ≡ n → get_or w i [] ≡ a → u ≡ grown v i a → u ≡ take (i + 1) w ++ empty_word (n - (i + 1))
grown_at w v u n i a e l m g h =
    let k : n - i ≡ suc (n - (i + 1)) = omega (arith, l) in
    let t : length (take i w) ≡ i = length-take-le i w (omega (arith, l, m)) in
    let v2 : v ≡ take i w ++ [] ∷ empty_word (n - (i + 1)) = e ∙ ap (λ j. take i w ++ empty_word j) k in
    let old : get_or v i [] ≡ [] = ap (λ x. get_or x i []) v2 ∙ get_or_seam (take i w) [] (empty_word (n - (i + 1))) i t in
    h ∙ ap (λ b. set v i (b ++ a)) old ∙ ap (λ x. set x i a) v2 ∙ set_at (take i w) [] (empty_word (n - (i + 1))) a i t
    ∙ sym (ap (λ b. take i w ++ b ∷ empty_word (n - (i + 1))) g) ∙ sym (append_assoc (take i w) (get_or w i [] ∷ []) (empty_word (n - (i + 1))))
    ∙ ap (λ x. x ++ empty_word (n - (i + 1))) (sym (take_more w i [] (omega (arith, l, m))))
  where
    get_or_seam : (p : Word) (y : Tape) (ys : Word) (i : ℕ) → length p ≡ i → get_or (p ++ y ∷ ys) i [] ≡ y
    get_or_seam p y ys i e = subst (λ j. get_or (p ++ y ∷ ys) j [] ≡ y) e (go p)
      where
        go : (p : Word) → get_or (p ++ y ∷ ys) (length p) [] ≡ y
        go [] = refl
        go (x ∷ p) = go p

pub record TapeStep (sets : List TapeSet) (w : Word) (i : ℕ) (s : TapeSet) : Type 0 where
  pub sets_at : drop i sets ≡ s ∷ drop (i + 1) sets
  pub word_at : drop i w ≡ get_or w i [] ∷ drop (i + 1) w

pub tape_step : (sets : List TapeSet) (w : Word) (i : ℕ) (s : TapeSet) → i < length sets → length w ≡ length sets → slice_get sets i ≡ Some s → TapeStep sets w i s
tape_step sets w i s l m e =
    let k : suc i ≡ i + 1 = omega arith in
    record {
      sets_at = drop-cons sets i s l ∙ ap (λ j. get_or sets i s ∷ drop j sets) k ∙ ap (λ x. x ∷ drop (i + 1) sets) (get_or_from_slice_get sets i s s e);
      word_at = drop-cons w i [] (omega (arith, l, m)) ∙ ap (λ j. get_or w i [] ∷ drop j w) k;
    }

pub over_more : (sets : List TapeSet) (w : Word) (i : ℕ) (s : TapeSet) → TapeStep sets w i s → AreIn s.alphabet (get_or w i []) → IsOverAlphabets (drop (i + 1) sets) (drop (i + 1) w) → IsOverAlphabets (drop i sets) (drop i w)
over_more sets w i s t h k = subst (λ x. IsOverAlphabets x (drop i w)) (sym t.sets_at) (subst (λ x. IsOverAlphabets (s ∷ drop (i + 1) sets) x) (sym t.word_at) (h, k))

over_here : (sets : List TapeSet) (w : Word) (i : ℕ) (s : TapeSet) → TapeStep sets w i s → IsOverAlphabets (drop i sets) (drop i w) → IsOverAlphabets (s ∷ drop (i + 1) sets) (get_or w i [] ∷ drop (i + 1) w)
over_here sets w i s t h = subst (λ x. IsOverAlphabets (s ∷ drop (i + 1) sets) x) t.word_at (subst (λ x. IsOverAlphabets x (drop i w)) t.sets_at h)

pub over_rest : (sets : List TapeSet) (w : Word) (i : ℕ) (s : TapeSet) → TapeStep sets w i s → IsOverAlphabets (drop i sets) (drop i w) → IsOverAlphabets (drop (i + 1) sets) (drop (i + 1) w)
over_rest sets w i s t h = (over_here sets w i s t h).1

pub over_first : (sets : List TapeSet) (w : Word) (i : ℕ) (s : TapeSet) → TapeStep sets w i s → IsOverAlphabets (drop i sets) (drop i w) → AreIn s.alphabet (get_or w i [])
over_first sets w i s t h = (over_here sets w i s t h).0

-- a word over a label set has as many tapes
pub over_tapes : (sets : List TapeSet) (w : Word) → IsOverAlphabets sets w → length w ≡ length sets
over_tapes [] [] h = refl
over_tapes [] (a ∷ w) h = absurd h
over_tapes (s ∷ sets) [] h = absurd h
over_tapes (s ∷ sets) (a ∷ w) h = ap suc (over_tapes sets w h.1)

pub too_many : (sets : List TapeSet) (parts : List (Bor (List ℕ))) (n m : ℕ) → n ≡ length parts → m ≡ length sets → n ≢ m → IsOverAlphabets sets (tapes_of parts) → ⊥
too_many sets parts n m e f d h = d (e ∙ sym (length-map parts (λ p. unescaped p.now)) ∙ over_tapes sets (tapes_of parts) h ∙ sym f)
