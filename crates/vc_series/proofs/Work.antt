-- The work that a coefficient takes, by which the recursion ends.
use Rattle.std.proofs.Common.{◌≡◌, subst, sym, ℕ, ◌+◌, ◌≤◌, ◌<◌, arith, List, [], ◌∷◌, map, length, get_or, zero, suc, le_refl}
use Rattle.vc_terms.specs.Terms.{Term, Terms, NoTerms, MoreTerms, terms_of, Zero, One, Atom, Sum, Product, Star, Weight, Both, Shuffle}

abbrev mutual
  -- at a word of n letters
  pub work : {V : Type 0} → Term V → ℕ → ℕ
  work Zero n = 1
  work One n = 1
  work (Atom a) n = 1
  work (Sum ts) n = works ts n + 1
  work (Product ts) n = works ts n + 1
  work (Star t) n = work t n + n + 2
  work (Weight k t) n = work t n + 1
  work (Both t u) n = work t n + work u n + 1
  work (Shuffle t u) n = work t n + work u n + 2

  -- of all members
  pub works : {V : Type 0} → Terms V → ℕ → ℕ
  works NoTerms n = 0
  works (MoreTerms t ts) n = work t n + works ts n + 1

mutual
  -- a shorter word takes no more
  pub work_grows : {V : Type 0} (t : Term V) (m n : ℕ) → m ≤ n → work t m ≤ work t n
  work_grows Zero m n h = le_refl 1
  work_grows One m n h = le_refl 1
  work_grows (Atom a) m n h = le_refl 1
  work_grows (Sum ts) m n h = let r = works_grow ts m n h in omega (arith, r)
  work_grows (Product ts) m n h = let r = works_grow ts m n h in omega (arith, r)
  work_grows (Star t) m n h = let r = work_grows t m n h in omega (arith, r, h)
  work_grows (Weight k t) m n h = let r = work_grows t m n h in omega (arith, r)
  work_grows (Both t u) m n h = let r = work_grows t m n h in let s = work_grows u m n h in omega (arith, r, s)
  work_grows (Shuffle t u) m n h = let r = work_grows t m n h in let s = work_grows u m n h in omega (arith, r, s)

  pub works_grow : {V : Type 0} (ts : Terms V) (m n : ℕ) → m ≤ n → works ts m ≤ works ts n
  works_grow NoTerms m n h = le_refl 0
  works_grow (MoreTerms t ts) m n h = let r = work_grows t m n h in let s = works_grow ts m n h in omega (arith, r, s)

-- a member takes less than all
pub part_less : {V X : Type 0} (term : X → Term V) (xs : List X) (i : ℕ) (d : X) (n : ℕ) → i < length xs → work (term (get_or xs i d)) n < works (terms_of (map term xs)) n
part_less term [] i d n h = absurd (omega arith)
part_less term (x ∷ xs) zero d n h = omega arith
part_less term (x ∷ xs) (suc i) d n h = let r = part_less term xs i d n (omega arith) in omega (arith, r)

module _ {V : Type 0} where
  -- the parts of each kind of tree take less
  pub sum_less : (ts : Terms V) (whole : Term V) (n : ℕ) → whole ≡ Sum ts → works ts n < work whole n
  sum_less ts whole n e = subst (λ x. works ts n < work x n) (sym e) (omega arith)

  pub product_less : (ts : Terms V) (whole : Term V) (n : ℕ) → whole ≡ Product ts → works ts n < work whole n
  product_less ts whole n e = subst (λ x. works ts n < work x n) (sym e) (omega arith)

  pub star_less : (t whole : Term V) (n : ℕ) → whole ≡ Star t → work t n + n + 1 < work whole n
  star_less t whole n e = subst (λ x. work t n + n + 1 < work x n) (sym e) (omega arith)

  pub weight_less : (k : V) (t whole : Term V) (n : ℕ) → whole ≡ Weight k t → work t n < work whole n
  weight_less k t whole n e = subst (λ x. work t n < work x n) (sym e) (omega arith)

  pub both_less : (t u whole : Term V) (n : ℕ) → whole ≡ Both t u → (work t n < work whole n) × (work u n < work whole n)
  both_less t u whole n e = subst (λ x. (work t n < work x n) × (work u n < work x n)) (sym e) (omega arith, omega arith)

  pub shuffle_less : (t u whole : Term V) (n : ℕ) → whole ≡ Shuffle t u → work t n + work u n + 1 < work whole n
  shuffle_less t u whole n e = subst (λ x. work t n + work u n + 1 < work x n) (sym e) (omega arith)

  -- at words that are no longer
  pub first_less : (t : Term V) (ts : Terms V) (m n : ℕ) → m ≤ n → (work t m < works (MoreTerms t ts) n) × (works ts m < works (MoreTerms t ts) n)
  first_less t ts m n h = let r = work_grows t m n h in let s = works_grow ts m n h in (omega (arith, r), omega (arith, s))

  pub star_part_less : (t : Term V) (m n : ℕ) → m ≤ n → work t m < work t n + n + 1
  star_part_less t m n h = let r = work_grows t m n h in omega (arith, r)

  pub star_later_less : (t : Term V) (m n : ℕ) → m < n → work t m + m + 1 < work t n + n + 1
  star_later_less t m n h = let k : m ≤ n = omega (arith, h) in let r = work_grows t m n k in omega (arith, r, h)

  pub shuffle_parts_less : (t u : Term V) (m n : ℕ) → m ≤ n → (work t m < work t n + work u n + 1) × (work u m < work t n + work u n + 1)
  shuffle_parts_less t u m n h = let r = work_grows t m n h in let s = work_grows u m n h in (omega (arith, r), omega (arith, s))
