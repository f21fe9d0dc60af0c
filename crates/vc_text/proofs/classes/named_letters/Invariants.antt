use Rattle.std.proofs.Common.{◌≡◌, ◌&&◌, ◌||◌, ℕ, length}
use Rattle.vc_label.specs.Alphabets.{has_letter}
use Rattle.vc_text.specs.Classes.{names_letter, has_singles, items_of, symbols}
use Rattle.vc_text.proofs.classes.named_letters.Given as goal

-- the letters that the items so far name, and those that the others name
abbrev pub invariant-loop-item : goal.invariant-loop-item
invariant-loop-item l =
    ((x : ℕ) → (has_letter l.named x || (has_letter l.alphabet x && names_letter (items_of (symbols l.rest)) x)) ≡ (has_letter l.alphabet x && names_letter (items_of (symbols l.items)) x))
    × (has_singles l.alphabet (items_of (symbols l.rest)) ≡ has_singles l.alphabet (items_of (symbols l.items)))

abbrev pub decreases-loop-item : goal.decreases-loop-item
decreases-loop-item l = length l.rest
