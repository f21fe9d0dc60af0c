-- What is true of a tree where it is true of its parts, as being over some tapes, or being valid.
use Rattle.vc_terms.specs.Terms.{Term, Terms, NoTerms, MoreTerms, Zero, One, Sum, Product, Weight}

-- P of a tree, and PS of the members of a sum or a product, go from parts to the whole, and from the whole to parts
pub record IsKept {V : Type 0} (P : Term V → Type 0) (PS : Terms V → Type 0) : Type 0 where
  pub zero : P Zero
  pub one : P One
  pub none : PS NoTerms
  pub more : (t : Term V) (ts : Terms V) → P t → PS ts → PS (MoreTerms t ts)
  pub first : (t : Term V) (ts : Terms V) → PS (MoreTerms t ts) → P t
  pub others : (t : Term V) (ts : Terms V) → PS (MoreTerms t ts) → PS ts
  pub sum : (ts : Terms V) → PS ts → P (Sum ts)
  pub members : (ts : Terms V) → P (Sum ts) → PS ts
  pub product : (ts : Terms V) → PS ts → P (Product ts)
  pub factors : (ts : Terms V) → P (Product ts) → PS ts
  pub weight : (k : V) (t : Term V) → P t → P (Weight k t)
  pub body : (k : V) (t : Term V) → P (Weight k t) → P t
