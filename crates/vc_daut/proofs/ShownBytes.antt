-- The bytes of the canonical text stand on one line: no line feed and no carriage return is among them.
use Rattle.std.proofs.Common.{◌≡◌, ℕ, ◌≤◌, Bool, true, false, ◌&&◌, ◌||◌, ◌==◌, List, [], ◌∷◌, ◌++◌, map, codes, All, refl, ap, ◌∙◌, arith}
use Rattle.std.specs.Prelude.{IsTrue, nat_le, if◌then◌else◌}
use Rattle.std.specs.Fmt.{decimal}
use Rattle.std.specs.List.{list_all, flat_map}
use Rattle.std.proofs.lemmas.Bool.{and_parts, eqb-true, leb-true, le-leb}
use Rattle.std.proofs.lemmas.List.Elements.{All-head, All-tail}
use Rattle.vc_text.specs.Letters.{is_plain, letter_text}
use Rattle.vc_label.specs.Letters.{is_letter, are_letters, is_of_letters}
use Rattle.vc_label.specs.Sets.{IsOverSets}
use Rattle.vc_label.specs.declared.tape_set.TapeSet.{TapeSet}
use Rattle.vc_model.specs.Automata.{Transition}
use Rattle.vc_model.specs.WeightSet.{WeightSet}
use Rattle.vc_model.specs.Words.{Tape, Word}
use Rattle.vc_ring.specs.Texts.{IsWeightByte}
use Rattle.vc_daut.specs.Canonical.{TextLine, begins_line, moves_line, ends_line, state_line, part_text, label_text, weight_text, before_label, after_state, entry_text, entries_text}
use Rattle.vc_daut.proofs.LetterTokens.{number_plain}
use Rattle.vc_daut.proofs.LineTokens.{body}
use Rattle.vc_daut.proofs.ReadBack.{AreEntriesOf, IsTextLine}

-- a byte from 0x20 on
abbrev pub is_shown : ℕ → Bool
is_shown x = nat_le 32 x

abbrev pub AreShown : List ℕ → Type 0
AreShown s = list_all is_shown s ≡ true

pub shown_cons : (x : ℕ) (s : List ℕ) → is_shown x ≡ true → AreShown s → AreShown (x ∷ s)
shown_cons x s e h = ap (λ b. b && list_all is_shown s) e ∙ h

pub shown_first : (x : ℕ) (s : List ℕ) → AreShown (x ∷ s) → (is_shown x ≡ true) × AreShown s
shown_first x s h = and_parts (is_shown x) (list_all is_shown s) h

pub shown_append : (a b : List ℕ) → AreShown a → AreShown b → AreShown (a ++ b)
shown_append [] b h k = k
shown_append (x ∷ a) b h k = let p = shown_first x a h in shown_cons x (a ++ b) p.0 (shown_append a b p.1 k)

-- ---- letters

four : (P : Type 0) (a b c d : Bool) → a || b || c || d ≡ true → (a ≡ true → P) → (b ≡ true → P) → (c ≡ true → P) → (d ≡ true → P) → P
four P true b c d e f g h i = f refl
four P false true c d e f g h i = g refl
four P false false true d e f g h i = h refl
four P false false false true e f g h i = i refl
four P false false false false e f g h i = absurd (cc)

from_low : (low x : ℕ) (b : Bool) → 32 ≤ low → nat_le low x && b ≡ true → is_shown x ≡ true
from_low low x b h e = let below = leb-true low x (and_parts (nat_le low x) b e).0 in le-leb 32 x (omega (arith, h, below))

plain_shown : (x : ℕ) → is_plain x ≡ true → is_shown x ≡ true
unfolding is_plain
plain_shown x h =
    four (is_shown x ≡ true) (nat_le 97 x && nat_le x 122) (nat_le 65 x && nat_le x 90) (nat_le 48 x && nat_le x 57) (x == 95) h
    (from_low 97 x (nat_le x 122) (omega arith)) (from_low 65 x (nat_le x 90) (omega arith)) (from_low 48 x (nat_le x 57) (omega arith))
    (λ e. ap is_shown (eqb-true x 95 e))

plains_shown : (s : List ℕ) → list_all is_plain s ≡ true → AreShown s
plains_shown [] h = refl
plains_shown (x ∷ s) h = let b = and_parts (is_plain x) (list_all is_plain s) h in shown_cons x s (plain_shown x b.0) (plains_shown s b.1)

pub number_shown : (n : ℕ) → AreShown (decimal n)
number_shown n = plains_shown (decimal n) (number_plain n)

pub letter_shown : (x : ℕ) → is_letter x ≡ true → AreShown (letter_text x)
letter_shown x h = go (is_plain x)
  where
    one : is_shown x ≡ true
    one = from_low 33 x (nat_le x 0x7e) (omega arith) h

    go : (b : Bool) → AreShown (if b then x ∷ [] else 92 ∷ x ∷ [])
    go true = shown_cons x [] one refl
    go false = shown_cons x [] one refl

pub letters_shown : (a : Tape) → are_letters a ≡ true → AreShown (flat_map letter_text a)
letters_shown [] h = refl
letters_shown (x ∷ a) h =
    let b = and_parts (is_letter x) (are_letters a) h in
    shown_append (letter_text x) (flat_map letter_text a) (letter_shown x b.0) (letters_shown a b.1)

part_shown : (a : Tape) → are_letters a ≡ true → AreShown (part_text a)
part_shown [] h = refl
part_shown (x ∷ a) h = letters_shown (x ∷ a) h

parts_shown : (w : Word) → is_of_letters w ≡ true → AreShown (flat_map (λ t. codes "|" ++ t) (map part_text w))
parts_shown [] h = refl
parts_shown (a ∷ w) h =
    let b = and_parts (are_letters a) (is_of_letters w) h in
    shown_append (codes "|" ++ part_text a) (flat_map (λ t. codes "|" ++ t) (map part_text w)) (shown_append (codes "|") (part_text a) refl (part_shown a b.0)) (parts_shown w b.1)

label_shown : (w : Word) → is_of_letters w ≡ true → AreShown (label_text w)
label_shown [] h = refl
label_shown (a ∷ w) h =
    let b = and_parts (are_letters a) (is_of_letters w) h in
    shown_append (part_text a) (flat_map (λ t. codes "|" ++ t) (map part_text w)) (part_shown a b.0) (parts_shown w b.1)

-- ---- weights

bytes_shown : (s : List ℕ) → All IsWeightByte s → AreShown s
bytes_shown [] h = refl
bytes_shown (x ∷ s) h =
    let low = (All-head IsWeightByte x s h).low in
    shown_cons x s (le-leb 32 x (omega (arith, low))) (bytes_shown s (All-tail IsWeightByte x s h))

module _ {V : Type 0} (R : WeightSet V) (same : V → V → Bool) (canonical : V → List ℕ) (bytes : (w : V) → All IsWeightByte (canonical w)) where
  weight_shown : (w : V) → AreShown (weight_text canonical w)
  weight_shown w = shown_append (codes "<") (canonical w ++ codes ">") refl (shown_append (canonical w) (codes ">") (bytes_shown (canonical w) (bytes w)) refl)

  before_shown : (w : V) → AreShown (before_label R same canonical w)
  before_shown w = go (same w R.one)
    where
      go : (b : Bool) → AreShown (if b then [] else weight_text canonical w)
      go true = refl
      go false = weight_shown w

  after_shown : (w : V) → AreShown (after_state R same canonical w)
  after_shown w = go (same w R.one)
    where
      go : (b : Bool) → AreShown (if b then [] else codes " " ++ weight_text canonical w)
      go true = refl
      go false = shown_append (codes " ") (weight_text canonical w) refl (weight_shown w)

  module _ (sets : List TapeSet) (letters : (ss : List TapeSet) (w : Word) → IsOverSets ss w → IsTrue (is_of_letters w)) where
    entry_shown : (t : Transition V) → IsOverSets sets t.label → AreShown (entry_text R same canonical t)
    entry_shown t h = shown_append (before_label R same canonical t.weight) (label_text t.label) (before_shown t.weight) (label_shown t.label (letters sets t.label h))

    more_shown : (ts : List (Transition V)) → AreEntriesOf R sets ts → AreShown (flat_map (λ t. codes ", " ++ t) (map (entry_text R same canonical) ts))
    more_shown [] h = refl
    more_shown (t ∷ ts) h =
        shown_append (codes ", " ++ entry_text R same canonical t) (flat_map (λ u. codes ", " ++ u) (map (entry_text R same canonical) ts))
        (shown_append (codes ", ") (entry_text R same canonical t) refl (entry_shown t h.0.label)) (more_shown ts h.1)

    entries_shown : (ts : List (Transition V)) → AreEntriesOf R sets ts → AreShown (entries_text R same canonical ts)
    entries_shown [] h = refl
    entries_shown (t ∷ ts) h =
        shown_append (entry_text R same canonical t) (flat_map (λ u. codes ", " ++ u) (map (entry_text R same canonical) ts)) (entry_shown t h.0.label) (more_shown ts h.1)

    pub body_shown : (t : TextLine V) → IsTextLine R sets t → AreShown (body R same canonical t)
    body_shown (begins_line p w) h =
        shown_append (codes "$ -> ") (decimal p ++ after_state R same canonical w) refl (shown_append (decimal p) (after_state R same canonical w) (number_shown p) (after_shown w))
    body_shown (moves_line p q ts) h =
        let es : List ℕ = codes " " ++ entries_text R same canonical ts in
        let shown : AreShown es = shown_append (codes " ") (entries_text R same canonical ts) refl (entries_shown ts h.1) in
        shown_append (decimal p) (codes " -> " ++ (decimal q ++ es)) (number_shown p)
        (shown_append (codes " -> ") (decimal q ++ es) refl (shown_append (decimal q) es (number_shown q) shown))
    body_shown (ends_line p w) h =
        shown_append (decimal p) (codes " -> $" ++ after_state R same canonical w) (number_shown p) (shown_append (codes " -> $") (after_state R same canonical w) refl (after_shown w))
    body_shown (state_line p) h = number_shown p
