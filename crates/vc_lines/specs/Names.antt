-- The names of states, and their order.
use Rattle.std.specs.Prelude.{◌≡◌, ◌↔◌, ℕ, ◌+◌, ◌*◌, ◌-◌, Bool, true, false, ◌&&◌, nat_le, ◌==◌, not, List, [], ◌∷◌, ◌++◌, length, fold, if◌then◌else◌, ⊤}
use Rattle.std.specs.List.{list_all, list_any, flat_map}
use Rattle.std.specs.Str.{bytes_eq}
use Rattle.std.specs.Ordering.{nat_cmp, is_lt}
use Rattle.std.specs.Cmp.Lexicographic.{slice_cmp}
use Rattle.std.specs.declared.cmp.Ordering.{Ordering}
use Rattle.std.specs.declared.cmp.Ordering.TheVariants.{Less, Greater}
use Rattle.vc_model.specs.Lists.{In, NoRepeat}
use Rattle.vc_text.specs.Escapes.{unescaped}
use Rattle.vc_lines.specs.Grammar.{Line, blank, initial_at, final_at, moves, state, name_of}

abbrev pub is_digit : ℕ → Bool
is_digit x = nat_le 48 x && nat_le x 57

-- no digit 0 stands in front of other digits
abbrev pub has_no_zero_in_front : List ℕ → Bool
has_no_zero_in_front [] = true
has_no_zero_in_front (x ∷ []) = true
has_no_zero_in_front (x ∷ y ∷ s) = not (x == 48)

-- a number of 1 to 18 digits without a leading zero, or `0`
abbrev pub is_number : List ℕ → Bool
is_number name = nat_le 1 (length name) && nat_le (length name) 18 && list_all is_digit name && has_no_zero_in_front name

-- the value of digits
abbrev pub value_of : List ℕ → ℕ
value_of name = fold (λ n x. n * 10 + (x - 48)) 0 name

-- numbers come first, by their values, and other names follow, by their bytes
abbrev pub order_by : Bool → Bool → List ℕ → List ℕ → Ordering
order_by true true a b = nat_cmp (value_of a) (value_of b)
order_by true false a b = Less
order_by false true a b = Greater
order_by false false a b = slice_cmp nat_cmp (unescaped a) (unescaped b)

abbrev pub name_order : List ℕ → List ℕ → Ordering
name_order a b = order_by (is_number a) (is_number b) a b

-- the states that a line names
abbrev pub line_names : Line → List (List ℕ)
line_names blank = []
line_names (initial_at s w) = name_of s ∷ []
line_names (final_at s w) = name_of s ∷ []
line_names (moves s t es) = name_of s ∷ name_of t ∷ []
line_names (state s) = name_of s ∷ []

-- no name stands before the one in front of it
abbrev pub AreOrdered : List (List ℕ) → Type 0
AreOrdered [] = ⊤
AreOrdered (a ∷ []) = ⊤
AreOrdered (a ∷ b ∷ names) = (is_lt (name_order b a) ≡ false) × AreOrdered (b ∷ names)

-- the new names are those that were found, each once, in their order
pub record AreInOrder (found names : List (List ℕ)) : Type 0 where
  pub once : NoRepeat names
  pub order : AreOrdered names
  pub named : (a : List ℕ) → In a names ↔ In a found

-- the names of the states of these lines, each once, in their order
abbrev pub AreNames : List Line → List (List ℕ) → Type 0
AreNames lines names = AreInOrder (flat_map line_names lines) names

-- the names with one more, where it is new
abbrev pub with_name : List (List ℕ) → List ℕ → List (List ℕ)
with_name names name = if list_any (bytes_eq name) names then names else names ++ name ∷ []

abbrev pub with_names : List (List ℕ) → List (List ℕ) → List (List ℕ)
with_names names [] = names
with_names names (a ∷ more) = with_names (with_name names a) more
