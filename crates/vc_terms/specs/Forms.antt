-- The form of the trees that the operations build.
use Rattle.std.specs.Prelude.{◌≡◌, Bool, false}
use Rattle.vc_model.specs.WeightSet.{WeightSet}
use Rattle.vc_model.specs.Words.{Word, is_empty}
use Rattle.vc_terms.specs.Terms.{Term, Terms, NoTerms, MoreTerms, Zero, One, Atom, Sum, Product, Star, Weight, Both, Shuffle}

-- neither Zero nor a sum
abbrev pub IsMember : {V : Type 0} → Term V → Type 0
IsMember Zero = ⊥
IsMember (Sum ts) = ⊥
IsMember t = Unit {0}

-- each of the trees is
abbrev pub AreMembers : {V : Type 0} → Terms V → Type 0
AreMembers NoTerms = Unit {0}
AreMembers (MoreTerms t ts) = IsMember t × AreMembers ts

-- neither Zero nor One, and no product and no weight
abbrev pub IsFactor : {V : Type 0} → Term V → Type 0
IsFactor Zero = ⊥
IsFactor One = ⊥
IsFactor (Product ts) = ⊥
IsFactor (Weight k t) = ⊥
IsFactor t = Unit {0}

-- each of the trees is
abbrev pub AreFactors : {V : Type 0} → Terms V → Type 0
AreFactors NoTerms = Unit {0}
AreFactors (MoreTerms t ts) = IsFactor t × AreFactors ts

-- two or more
abbrev pub AreMany : {V : Type 0} → Terms V → Type 0
AreMany NoTerms = ⊥
AreMany (MoreTerms t NoTerms) = ⊥
AreMany (MoreTerms t (MoreTerms u us)) = Unit {0}

-- neither Zero nor a weight
abbrev pub IsBody : {V : Type 0} → Term V → Type 0
IsBody Zero = ⊥
IsBody (Weight k t) = ⊥
IsBody t = Unit {0}

-- not Zero
abbrev pub IsSome : {V : Type 0} → Term V → Type 0
IsSome Zero = ⊥
IsSome t = Unit {0}

-- neither Zero nor One
abbrev pub IsMore : {V : Type 0} → Term V → Type 0
IsMore Zero = ⊥
IsMore One = ⊥
IsMore t = Unit {0}

-- the root of the tree and its parts are as the operations build them
abbrev pub IsBuiltRoot : {V : Type 0} → WeightSet V → (V → V → Bool) → Term V → Type 0
IsBuiltRoot R equal Zero = Unit {0}
IsBuiltRoot R equal One = Unit {0}
IsBuiltRoot R equal (Atom a) = is_empty a ≡ false
IsBuiltRoot R equal (Sum ts) = AreMembers ts × AreMany ts
IsBuiltRoot R equal (Product ts) = AreFactors ts × AreMany ts
IsBuiltRoot R equal (Star t) = IsSome t
IsBuiltRoot R equal (Weight k t) = (equal k R.zero ≡ false) × (equal k R.one ≡ false) × IsBody t
IsBuiltRoot R equal (Both t u) = IsSome t × IsSome u
IsBuiltRoot R equal (Shuffle t u) = IsMore t × IsMore u

abbrev mutual
  -- something is true of each tree that stands in the tree, itself among them
  pub Everywhere : {V : Type 0} → (Term V → Type 0) → Term V → Type 0
  Everywhere P Zero = P Zero
  Everywhere P One = P One
  Everywhere P (Atom a) = P (Atom a)
  Everywhere P (Sum ts) = P (Sum ts) × EverywhereIn P ts
  Everywhere P (Product ts) = P (Product ts) × EverywhereIn P ts
  Everywhere P (Star t) = P (Star t) × Everywhere P t
  Everywhere P (Weight k t) = P (Weight k t) × Everywhere P t
  Everywhere P (Both t u) = P (Both t u) × Everywhere P t × Everywhere P u
  Everywhere P (Shuffle t u) = P (Shuffle t u) × Everywhere P t × Everywhere P u

  -- in each of the trees
  pub EverywhereIn : {V : Type 0} → (Term V → Type 0) → Terms V → Type 0
  EverywhereIn P NoTerms = Unit {0}
  EverywhereIn P (MoreTerms t ts) = Everywhere P t × EverywhereIn P ts

-- the tree is as the operations build it
abbrev pub IsBuilt : {V : Type 0} → WeightSet V → (V → V → Bool) → Term V → Type 0
IsBuilt R equal t = Everywhere (IsBuiltRoot R equal) t

-- a label at the root has the property
abbrev pub HasRootLabel : {V : Type 0} → (Word → Type 0) → Term V → Type 0
HasRootLabel P (Atom a) = P a
HasRootLabel P t = Unit {0}
