-- Letters, items and parts of names have at least one byte, and lie within their texts.
use Rattle.std.proofs.Common.{◌≡◌, ℕ, ◌+◌, ◌<◌, ◌≤◌, List, [], ◌∷◌, length, Some, arith}
use Rattle.std.proofs.lemmas.Grind.{common_steps}
use Rattle.vc_text.specs.Letters.{letter_in}
use Rattle.vc_lex.specs.Scans.{letter_width, item_width, item_behind, name_width}
use Rattle.vc_text.specs.declared.letters.LetterAt.{LetterAt}
use Rattle.vc_lex.proofs.Pieces.{Shrinks}

-- the place behind a letter is behind its first byte, and within the text
pub letter_some : (at : ℕ) (s : List ℕ) (l : LetterAt) → letter_in at s ≡ Some l → at < l.after
letter_some at [] l e = grind (arith, common_steps)
letter_some at (x ∷ []) l e = grind (arith, common_steps)
letter_some at (x ∷ y ∷ s) l e = grind (arith, common_steps)

pub letter_within : (at : ℕ) (s : List ℕ) (l : LetterAt) → letter_in at s ≡ Some l → l.after ≤ at + length s
letter_within at [] l e = grind (arith, common_steps)
letter_within at (x ∷ []) l e = grind (arith, common_steps)
letter_within at (x ∷ y ∷ s) l e = grind (arith, common_steps)

pub letters_shrink : Shrinks letter_width
letters_shrink = record {
  some = λ s w e. grind (arith, common_steps, letter_some);
  within = λ s w e. grind (arith, common_steps, letter_within);
}

name_some : (s : List ℕ) (w : ℕ) → name_width s ≡ Some w → 0 < w
name_some [] w e = grind (arith, common_steps)
name_some (x ∷ []) w e = grind (arith, common_steps)
name_some (x ∷ y ∷ s) w e = grind (arith, common_steps)

name_within : (s : List ℕ) (w : ℕ) → name_width s ≡ Some w → w ≤ length s
name_within [] w e = grind (arith, common_steps)
name_within (x ∷ []) w e = grind (arith, common_steps)
name_within (x ∷ y ∷ s) w e = grind (arith, common_steps)

pub names_shrink : Shrinks name_width
names_shrink = record { some = name_some; within = name_within }

-- the item behind a letter that has this many bytes, where the text behind it has this length
behind_within : (first : LetterAt) (s : List ℕ) (w : ℕ) → item_behind first s ≡ Some w → w ≤ first.after + length s
behind_within first [] w e = grind (arith, common_steps)
behind_within first (x ∷ s) w e = grind (arith, common_steps, letter_within)

behind_some : (first : LetterAt) (s : List ℕ) (w : ℕ) → 0 < first.after → item_behind first s ≡ Some w → 0 < w
behind_some first [] w some e = grind (arith, common_steps)
behind_some first (x ∷ s) w some e = grind (arith, common_steps, letter_some)

item_some : (s : List ℕ) (w : ℕ) → item_width s ≡ Some w → 0 < w
item_some s w e = grind (arith, common_steps, letter_some, behind_some)

item_within : (s : List ℕ) (w : ℕ) → item_width s ≡ Some w → w ≤ length s
item_within s w e = grind (arith, common_steps, letter_within, behind_within)

pub items_shrink : Shrinks item_width
items_shrink = record { some = item_some; within = item_within }
