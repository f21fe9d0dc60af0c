-- Expansions: a list of items, each with a label, a weight and a tree, that bring the coefficient at the words that are not empty.
use Rattle.std.specs.Prelude.{◌≡◌, ℕ, List, [], ◌∷◌, ◌++◌, Bool, if◌then◌else◌}
use Rattle.vc_model.specs.WeightSet.{WeightSet}
use Rattle.vc_model.specs.Words.{Word, IsLetter}
use Rattle.vc_model.specs.Series.{star_or_zero}
use Rattle.vc_model.specs.Items.{Item}
use Rattle.vc_terms.specs.ItemLists.{mapped, scaled_items, met_items, collected_items}
use Rattle.vc_terms.specs.Terms.{Term, Terms, NoTerms, MoreTerms, list_of, constant_of, Zero, One, Atom, Sum, Product, Star, Weight, Both, Shuffle}
use Rattle.vc_terms.specs.Identities.{product_of, product_of_factors, both_of, shuffle_of}
use Rattle.vc_terms.specs.Same.{same_term}

-- an item that leads to a tree
abbrev pub Entry : Type 0 → Type 0
Entry V = Item V (Term V)

-- entries with equal label and tree added, in order, and those of weight zero dropped
abbrev pub collected : {V : Type 0} → WeightSet V → (V → V → Bool) → List (Entry V) → List (Entry V)
collected R equal xs = collected_items R equal (same_term equal) xs

-- the product of two
abbrev pub product_of_two : {V : Type 0} → WeightSet V → (V → V → Bool) → Term V → Term V → Term V
product_of_two R equal t u = product_of R equal (t ∷ u ∷ [])

abbrev mutual
  -- the expansion of a tree
  pub expand : {V : Type 0} → WeightSet V → (V → V → Bool) → Term V → List (Entry V)
  expand R equal Zero = []
  expand R equal One = []
  expand R equal (Atom a) = record { label = a; weight = R.one; to = One } ∷ []
  expand R equal (Sum ts) = collected R equal (expand_sum R equal ts)
  expand R equal (Product ts) = expand_product R equal ts
  expand R equal (Star t) = collected R equal (scaled_items R (star_or_zero R (constant_of R t)) (mapped (λ v. product_of_two R equal v (Star t)) (expand R equal t)))
  expand R equal (Weight k t) = collected R equal (scaled_items R k (expand R equal t))
  expand R equal (Both t u) = collected R equal (met_items R both_of (expand R equal t) (expand R equal u))
  expand R equal (Shuffle t u) = collected R equal (mapped (λ v. shuffle_of v u) (expand R equal t) ++ mapped (λ v. shuffle_of t v) (expand R equal u))

  -- of all members, one behind the other
  pub expand_sum : {V : Type 0} → WeightSet V → (V → V → Bool) → Terms V → List (Entry V)
  expand_sum R equal NoTerms = []
  expand_sum R equal (MoreTerms t ts) = expand R equal t ++ expand_sum R equal ts

  -- of a product: the entries of the first factor before the others, and where its constant term is not zero, this before the entries of the others
  pub expand_product : {V : Type 0} → WeightSet V → (V → V → Bool) → Terms V → List (Entry V)
  expand_product R equal NoTerms = []
  expand_product R equal (MoreTerms t NoTerms) = expand R equal t
  expand_product R equal (MoreTerms t (MoreTerms u us)) =
      collected R equal
      (mapped (λ v. product_of_two R equal v (product_of_factors (list_of (MoreTerms u us)))) (expand R equal t)
      ++ (if equal (constant_of R t) R.zero then [] else scaled_items R (constant_of R t) (expand_product R equal (MoreTerms u us))))

abbrev mutual
  -- something is true of each label
  pub AtomsAre : {V : Type 0} → (Word → Type 0) → Term V → Type 0
  AtomsAre Q Zero = Unit {0}
  AtomsAre Q One = Unit {0}
  AtomsAre Q (Atom a) = Q a
  AtomsAre Q (Sum ts) = AllAtomsAre Q ts
  AtomsAre Q (Product ts) = AllAtomsAre Q ts
  AtomsAre Q (Star t) = AtomsAre Q t
  AtomsAre Q (Weight k t) = AtomsAre Q t
  AtomsAre Q (Both t u) = AtomsAre Q t × AtomsAre Q u
  AtomsAre Q (Shuffle t u) = AtomsAre Q t × AtomsAre Q u

  -- in each of the trees
  pub AllAtomsAre : {V : Type 0} → (Word → Type 0) → Terms V → Type 0
  AllAtomsAre Q NoTerms = Unit {0}
  AllAtomsAre Q (MoreTerms t ts) = AtomsAre Q t × AllAtomsAre Q ts

abbrev mutual
  -- conjunctions and shuffles stand over single letters of one tape alone
  pub JoinsLetters : {V : Type 0} → ℕ → Term V → Type 0
  JoinsLetters tapes Zero = Unit {0}
  JoinsLetters tapes One = Unit {0}
  JoinsLetters tapes (Atom a) = Unit {0}
  JoinsLetters tapes (Sum ts) = AllJoinLetters tapes ts
  JoinsLetters tapes (Product ts) = AllJoinLetters tapes ts
  JoinsLetters tapes (Star t) = JoinsLetters tapes t
  JoinsLetters tapes (Weight k t) = JoinsLetters tapes t
  JoinsLetters tapes (Both t u) = (tapes ≡ 1) × AtomsAre IsLetter t × AtomsAre IsLetter u × JoinsLetters tapes t × JoinsLetters tapes u
  JoinsLetters tapes (Shuffle t u) = (tapes ≡ 1) × AtomsAre IsLetter t × AtomsAre IsLetter u × JoinsLetters tapes t × JoinsLetters tapes u

  -- in each of the trees
  pub AllJoinLetters : {V : Type 0} → ℕ → Terms V → Type 0
  AllJoinLetters tapes NoTerms = Unit {0}
  AllJoinLetters tapes (MoreTerms t ts) = JoinsLetters tapes t × AllJoinLetters tapes ts
