-- What is still to be written of an expression.
use Rattle.std.specs.Prelude.{◌<◌, ◌+◌, ℕ, nat_lt, List, [], ◌∷◌, ◌++◌, if◌then◌else◌, All, ⊤}
use Rattle.std.specs.List.{flat_map}
use Rattle.vc_expr.specs.Names.{Has, tree_of, trees_of}
use Rattle.vc_label.specs.declared.tape_set.TapeSet.{TapeSet}
use Rattle.vc_model.specs.Words.{Word}
use Rattle.vc_terms.specs.Forms.{Everywhere, EverywhereIn}
use Rattle.vc_terms.specs.Terms.{Term, Terms, Sum, Product, Star, Weight, Both, Shuffle, NoTerms, MoreTerms, terms_of}
use Rattle.vc_exprio.specs.Canonical.{part_piece, expression_text, IsRootOver}
use Rattle.vc_exprio.specs.declared.form.Form.{Form}
use Rattle.vc_exprio.specs.declared.form.Form.TheVariants as form
use Rattle.vc_exprio.specs.declared.writer.Pending.{Pending}
use Rattle.vc_exprio.specs.declared.writer.Pending.TheVariants.{Byte, Operand, Members, Factors}

-- the forms, from the loosest to the tightest
abbrev pub rank : Form → ℕ
rank form.Sum = 0
rank form.Shuffle = 1
rank form.Conjunction = 2
rank form.Product = 3
rank form.Prefixed = 4
rank form.Postfixed = 5

-- the rank of the form that the text of an expression has
abbrev pub rank_of : {V : Type 0} → Term V → ℕ
rank_of (Sum ts) = 0
rank_of (Shuffle t u) = 1
rank_of (Both t u) = 2
rank_of (Product ts) = 3
rank_of (Weight k t) = 4
rank_of t = 5

-- the text of a part of a label
abbrev pub label_part : List ℕ → List ℕ
label_part a = (part_piece a).text

-- the parts of a label, with bars between them
abbrev pub label_text : Word → List ℕ
label_text [] = []
label_text (a ∷ w) = label_part a ++ flat_map (λ b. 124 ∷ label_part b) w

module _ {V : Type 0} (canonical : V → List ℕ) where
  -- an operand where a form of this rank or a tighter one may stand: any other one has parentheses
  abbrev pub operand_text : ℕ → Term V → List ℕ
  operand_text least t = if nat_lt (rank_of t) least then 40 ∷ (expression_text canonical t ++ 41 ∷ []) else expression_text canonical t

  module _ (s : List (Term V)) where
    abbrev pub item_text : Pending → List ℕ
    item_text (Byte b) = b ∷ []
    item_text (Operand least e) = operand_text (rank least) (tree_of s e)
    item_text (Members es) = flat_map (λ e. 43 ∷ expression_text canonical (tree_of s e)) es.now
    item_text (Factors es) = flat_map (λ e. operand_text 3 (tree_of s e)) es.now

    -- what is still to be written, the last item first
    abbrev pub left : List Pending → List ℕ
    left [] = []
    left (x ∷ items) = left items ++ item_text x

-- the names are those of the store, and the labels of their trees are over the sets
abbrev pub IsPending : {V : Type 0} → List TapeSet → List (Term V) → Pending → Type 0
IsPending sets s (Byte b) = b < 128
IsPending sets s (Operand least e) = Has s e × Everywhere (IsRootOver sets) (tree_of s e)
IsPending sets s (Members es) = All (Has s) es.now × EverywhereIn (IsRootOver sets) (terms_of (trees_of s es.now))
IsPending sets s (Factors es) = All (Has s) es.now × EverywhereIn (IsRootOver sets) (terms_of (trees_of s es.now))

abbrev pub ArePending : {V : Type 0} → List TapeSet → List (Term V) → List Pending → Type 0
ArePending sets s [] = ⊤
ArePending sets s (x ∷ items) = IsPending sets s x × ArePending sets s items

-- ---- how much is left to do: more than so many items are not taken

abbrev mutual
  pub work : {V : Type 0} → Term V → ℕ
  work (Sum ts) = work_all ts + 3
  work (Product ts) = work_all ts + 3
  work (Star t) = work t + 3
  work (Weight k t) = work t + 3
  work (Both t u) = work t + work u + 4
  work (Shuffle t u) = work t + work u + 4
  work t = 3

  pub work_all : {V : Type 0} → Terms V → ℕ
  work_all NoTerms = 0
  work_all (MoreTerms t ts) = work t + 1 + work_all ts

abbrev pub item_work : {V : Type 0} → List (Term V) → Pending → ℕ
item_work s (Byte b) = 1
item_work s (Operand least e) = work (tree_of s e)
item_work s (Members es) = work_all (terms_of (trees_of s es.now)) + 1
item_work s (Factors es) = work_all (terms_of (trees_of s es.now)) + 1

abbrev pub work_left : {V : Type 0} → List (Term V) → List Pending → ℕ
work_left s [] = 0
work_left s (x ∷ items) = item_work s x + work_left s items
