-- What a tree of tokens means: its depth, its labels, and the expression that it is.
use Rattle.std.specs.Prelude.{ℕ, ◌+◌, max, Bool, true, false, List, [], ◌∷◌, ◌++◌, map, if◌then◌else◌}
use Rattle.vc_lex.specs.Parts.{tape_of}
use Rattle.vc_terms.specs.Terms.{Term, Terms, Zero, One, Atom, Sum, Product, Star, Weight, Both, Shuffle, NoTerms, MoreTerms}
use Rattle.vc_model.specs.Words.{Word, is_empty}
use Rattle.vc_lex.specs.Marks.{Mark}
use Rattle.vc_exprio.specs.Trees.{Tree, Barred, zero_tree, label, class, group, star, weight_behind, weight_before, times, both, shuffle, plus}

-- a product of two or more factors, a sum of two or more members
abbrev pub is_times : Tree → Bool
is_times (times t u) = true
is_times t = false

abbrev pub is_plus : Tree → Bool
is_plus (plus t m u) = true
is_plus t = false

-- the depth of two or more parts, where those on the left are one part, or already such parts
abbrev pub deeper : Bool → ℕ → ℕ → ℕ
deeper true left last = max left (last + 1)
deeper false left last = max left last + 1

-- an atom has depth 1. Parentheses, each weight, `*`, `&` and `:`, a product of two or more and a sum of two or more are one deeper than the deepest of their parts
abbrev pub depth : Tree → ℕ
depth (zero_tree m) = 1
depth (label m bs) = 1
depth (class m) = 1
depth (group opening t closing) = depth t + 1
depth (star t m) = depth t + 1
depth (weight_behind t m) = depth t + 1
depth (weight_before m t) = depth t + 1
depth (times t u) = deeper (is_times t) (depth t) (depth u)
depth (both t m u) = max (depth t) (depth u) + 1
depth (shuffle t m u) = max (depth t) (depth u) + 1
depth (plus t m u) = deeper (is_plus t) (depth t) (depth u)

-- ---- labels

abbrev pub label_word : Mark → List Barred → Word
label_word m bs = tape_of m ∷ map (λ b. tape_of b.part) bs

-- a label, by its parts, or a class, that stands in a text
pub data Occurrence : Type 0 where
  parts : Mark → List Mark → Occurrence
  letters : Mark → Occurrence

-- the labels and classes of a tree, from left to right
abbrev pub occurrences : Tree → List Occurrence
occurrences (zero_tree m) = []
occurrences (label m bs) = parts m (map (λ b. b.part) bs) ∷ []
occurrences (class m) = letters m ∷ []
occurrences (group opening t closing) = occurrences t
occurrences (star t m) = occurrences t
occurrences (weight_behind t m) = occurrences t
occurrences (weight_before m t) = occurrences t
occurrences (times t u) = occurrences t ++ occurrences u
occurrences (both t m u) = occurrences t ++ occurrences u
occurrences (shuffle t m u) = occurrences t ++ occurrences u
occurrences (plus t m u) = occurrences t ++ occurrences u

-- where it begins
abbrev pub place_of : Occurrence → ℕ
place_of (parts m ms) = m.at
place_of (letters m) = m.at

-- ---- the expression

abbrev pub append : {V : Type 0} → Terms V → Terms V → Terms V
append NoTerms us = us
append (MoreTerms t ts) us = MoreTerms t (append ts us)

-- the members of a sum that is meant as a sum of two or more, or one member
abbrev pub summands : {V : Type 0} → Bool → Term V → Terms V
summands true (Sum ts) = ts
summands is t = MoreTerms t NoTerms

abbrev pub factors : {V : Type 0} → Bool → Term V → Terms V
factors true (Product ts) = ts
factors is t = MoreTerms t NoTerms

-- the word of a label; the empty one is one
abbrev pub label_term : {V : Type 0} → Word → Term V
label_term w = if is_empty w then One else Atom w

-- the sum of the letters of a class, and zero for none
abbrev pub letter_terms : {V : Type 0} → List ℕ → Terms V
letter_terms [] = NoTerms
letter_terms (x ∷ xs) = MoreTerms (Atom ((x ∷ []) ∷ [])) (letter_terms xs)

abbrev pub class_term : {V : Type 0} → List ℕ → Term V
class_term [] = Zero
class_term (x ∷ xs) = Sum (letter_terms (x ∷ xs))

module _ {V : Type 0} (value : Mark → V) (class_letters : Mark → List ℕ) where
  -- the expression, with no identity applied: parentheses vanish, a weight stands before its operand, and a class is the sum of its letters
  abbrev pub term_of : Tree → Term V
  term_of (zero_tree m) = Zero
  term_of (label m bs) = label_term (label_word m bs)
  term_of (class m) = class_term (class_letters m)
  term_of (group opening t closing) = term_of t
  term_of (star t m) = Star (term_of t)
  term_of (weight_behind t m) = Weight (value m) (term_of t)
  term_of (weight_before m t) = Weight (value m) (term_of t)
  term_of (times t u) = Product (append (factors (is_times t) (term_of t)) (MoreTerms (term_of u) NoTerms))
  term_of (both t m u) = Both (term_of t) (term_of u)
  term_of (shuffle t m u) = Shuffle (term_of t) (term_of u)
  term_of (plus t m u) = Sum (append (summands (is_plus t) (term_of t)) (MoreTerms (term_of u) NoTerms))
