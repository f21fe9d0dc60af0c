-- The code of a tree, for models whose value has trees: the tree as marks, parts before the whole, which a stack reads.
use Rattle.std.proofs.Common.{◌≡◌, ℕ, List, [], ◌∷◌, ◌++◌, refl, ap, ◌∙◌}
use Rattle.std.specs.Prelude.{slice_index_or}
use Rattle.std.specs.Coded.{Coded, code_by, coded×, coded_ℕ, coded_list}
use Rattle.vc_model.specs.Codes.{word_code}
use Rattle.vc_model.specs.Words.{Word}
use Rattle.vc_terms.specs.Terms.{Term, Terms, NoTerms, MoreTerms, Zero, One, Atom, Sum, Product, Star, Weight, Both, Shuffle}

-- a step of the stack: trees are put on it, or taken from it and put together; a sum is made member by member
pub data Mark (V : Type 0) : Type 0 where
  PutZero : Mark V
  PutOne : Mark V
  PutAtom : Word → Mark V
  PutNone : Mark V
  AddMember : Mark V
  MakeProduct : Mark V
  MakeStar : Mark V
  MakeWeight : V → Mark V
  MakeBoth : Mark V
  MakeShuffle : Mark V

-- a mark as a number, a word and elements
abbrev pub plain_mark : {V : Type 0} → Mark V → ℕ × (Word × List V)
plain_mark PutZero = (0, ([], []))
plain_mark PutOne = (1, ([], []))
plain_mark (PutAtom a) = (2, (a, []))
plain_mark PutNone = (3, ([], []))
plain_mark AddMember = (4, ([], []))
plain_mark MakeProduct = (5, ([], []))
plain_mark MakeStar = (6, ([], []))
plain_mark (MakeWeight k) = (7, ([], k ∷ []))
plain_mark MakeBoth = (8, ([], []))
plain_mark MakeShuffle = (9, ([], []))

-- the mark of the weight that is listed
abbrev pub weight_mark : {V : Type 0} → List V → Mark V
weight_mark [] = PutZero
weight_mark (k ∷ ks) = MakeWeight k

-- the mark whose number and parts these are
abbrev pub mark_of : {V : Type 0} → ℕ × (Word × List V) → Mark V
mark_of p = slice_index_or (PutZero ∷ PutOne ∷ PutAtom p.1.0 ∷ PutNone ∷ AddMember ∷ MakeProduct ∷ MakeStar ∷ weight_mark p.1.1 ∷ MakeBoth ∷ MakeShuffle ∷ []) p.0 PutZero

pub mark_of-plain : {V : Type 0} (m : Mark V) → mark_of (plain_mark m) ≡ m
mark_of-plain PutZero = refl
mark_of-plain PutOne = refl
mark_of-plain (PutAtom a) = refl
mark_of-plain PutNone = refl
mark_of-plain AddMember = refl
mark_of-plain MakeProduct = refl
mark_of-plain MakeStar = refl
mark_of-plain (MakeWeight k) = refl
mark_of-plain MakeBoth = refl
mark_of-plain MakeShuffle = refl

abbrev mutual
  -- the marks that make the tree
  pub marks : {V : Type 0} → Term V → List (Mark V)
  marks Zero = PutZero ∷ []
  marks One = PutOne ∷ []
  marks (Atom a) = PutAtom a ∷ []
  marks (Sum ts) = all_marks ts
  marks (Product ts) = all_marks ts ++ MakeProduct ∷ []
  marks (Star t) = marks t ++ MakeStar ∷ []
  marks (Weight k t) = marks t ++ MakeWeight k ∷ []
  marks (Both t u) = marks t ++ (marks u ++ MakeBoth ∷ [])
  marks (Shuffle t u) = marks t ++ (marks u ++ MakeShuffle ∷ [])

  -- the marks that make the sum of the trees
  pub all_marks : {V : Type 0} → Terms V → List (Mark V)
  all_marks NoTerms = PutNone ∷ []
  all_marks (MoreTerms t ts) = marks t ++ (all_marks ts ++ AddMember ∷ [])

-- the members of a sum
abbrev pub members_in : {V : Type 0} → Term V → Terms V
members_in (Sum ts) = ts
members_in t = NoTerms

-- what a mark does to two trees on the stack, the upper one first
abbrev pub put_together : {V : Type 0} → Mark V → Term V → Term V → Term V
put_together AddMember u t = Sum (MoreTerms t (members_in u))
put_together MakeBoth u t = Both t u
put_together MakeShuffle u t = Shuffle t u
put_together m u t = Zero

-- what a mark does to the stack
abbrev pub pair_step : {V : Type 0} → Mark V → List (Term V) → List (Term V)
pair_step m [] = []
pair_step m (u ∷ []) = []
pair_step m (u ∷ t ∷ s) = put_together m u t ∷ s

abbrev pub top_step : {V : Type 0} → (Term V → Term V) → List (Term V) → List (Term V)
top_step f [] = []
top_step f (t ∷ s) = f t ∷ s

abbrev pub stack_step : {V : Type 0} → Mark V → List (Term V) → List (Term V)
stack_step PutZero s = Zero ∷ s
stack_step PutOne s = One ∷ s
stack_step (PutAtom a) s = Atom a ∷ s
stack_step PutNone s = Sum NoTerms ∷ s
stack_step MakeProduct s = top_step (λ t. Product (members_in t)) s
stack_step MakeStar s = top_step Star s
stack_step (MakeWeight k) s = top_step (Weight k) s
stack_step m s = pair_step m s

abbrev pub stack_after : {V : Type 0} → List (Mark V) → List (Term V) → List (Term V)
stack_after [] s = s
stack_after (m ∷ ms) s = stack_after ms (stack_step m s)

abbrev pub top_of : {V : Type 0} → List (Term V) → Term V
top_of [] = Zero
top_of (t ∷ s) = t

module _ {V : Type 0} where
  after-append : (ms ns : List (Mark V)) (s : List (Term V)) → stack_after (ms ++ ns) s ≡ stack_after ns (stack_after ms s)
  after-append [] ns s = refl
  after-append (m ∷ ms) ns s = after-append ms ns (stack_step m s)

  mutual
    after-marks : (t : Term V) (s : List (Term V)) → stack_after (marks t) s ≡ t ∷ s
    after-marks Zero s = refl
    after-marks One s = refl
    after-marks (Atom a) s = refl
    after-marks (Sum ts) s = after-all ts s
    after-marks (Product ts) s = after-append (all_marks ts) (MakeProduct ∷ []) s ∙ ap (stack_after (MakeProduct ∷ [])) (after-all ts s)
    after-marks (Star t) s = after-append (marks t) (MakeStar ∷ []) s ∙ ap (stack_after (MakeStar ∷ [])) (after-marks t s)
    after-marks (Weight k t) s = after-append (marks t) (MakeWeight k ∷ []) s ∙ ap (stack_after (MakeWeight k ∷ [])) (after-marks t s)
    after-marks (Both t u) s =
        after-append (marks t) (marks u ++ MakeBoth ∷ []) s ∙ ap (stack_after (marks u ++ MakeBoth ∷ [])) (after-marks t s)
        ∙ after-append (marks u) (MakeBoth ∷ []) (t ∷ s) ∙ ap (stack_after (MakeBoth ∷ [])) (after-marks u (t ∷ s))
    after-marks (Shuffle t u) s =
        after-append (marks t) (marks u ++ MakeShuffle ∷ []) s ∙ ap (stack_after (marks u ++ MakeShuffle ∷ [])) (after-marks t s)
        ∙ after-append (marks u) (MakeShuffle ∷ []) (t ∷ s) ∙ ap (stack_after (MakeShuffle ∷ [])) (after-marks u (t ∷ s))

    after-all : (ts : Terms V) (s : List (Term V)) → stack_after (all_marks ts) s ≡ Sum ts ∷ s
    after-all NoTerms s = refl
    after-all (MoreTerms t ts) s =
        after-append (marks t) (all_marks ts ++ AddMember ∷ []) s ∙ ap (stack_after (all_marks ts ++ AddMember ∷ [])) (after-marks t s)
        ∙ after-append (all_marks ts) (AddMember ∷ []) (t ∷ s) ∙ ap (stack_after (AddMember ∷ [])) (after-all ts (t ∷ s))

  pub made_again : (t : Term V) → top_of (stack_after (marks t) []) ≡ t
  made_again t = ap top_of (after-marks t [])

-- the code of a mark, from a code of the elements
abbrev pub mark_code : {V : Type 0} → Coded V → Coded (Mark V)
mark_code {V} c = code_by (ℕ × (Word × List V)) (coded× coded_ℕ (coded× word_code (coded_list c))) plain_mark mark_of mark_of-plain

-- the code of a tree, from a code of the elements
abbrev pub term_code : {V : Type 0} → Coded V → Coded (Term V)
term_code {V} c = code_by (List (Mark V)) (coded_list (mark_code c)) marks (λ ms. top_of (stack_after ms [])) made_again
