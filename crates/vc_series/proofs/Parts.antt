-- What holds of parts: their conditions, and the pairs of words that they are computed at.
use Rattle.std.proofs.Common.{◌≡◌, ◌≢◌, IsTrue, ℕ, ◌+◌, ◌≤◌, ◌<◌, arith, List, [], ◌∷◌, ◌++◌, map, length, get_or, zero, suc, true, false, All, refl, sym, ap, ◌∙◌, le_refl, subst}
use Rattle.vc_model.specs.WeightSet.{WeightSet}
use Rattle.vc_model.specs.Sums.{sum_over}
use Rattle.vc_model.specs.Words.{Word, Tape, empty_word, size, cuts, letters_at, letters_off, position_sets, is_empty}
use Rattle.vc_model.specs.Cuts.{cuts-In}
use Rattle.vc_model.specs.WordLaws.{size-join, is_empty-size}
use Rattle.std.proofs.Common.{Bool, slice_index_or}
use Rattle.std.proofs.lemmas.List.Elements.{All-map}
use Rattle.vc_terms.specs.Terms.{Term, Terms, MoreTerms, Sum, Product, Star, Weight, Both, Shuffle, terms_of, coefficient_of, sum_coefficient}
use Rattle.vc_ring.specs.declared.faults.Overflow.TheVariants.{Add}
use Rattle.vc_series.specs.Conditions.{HasCoefficient, HaveCoefficients}
use Rattle.vc_series.specs.Steps.{adding_steps, member_steps, coefficient_steps, tape_pairs}
use Rattle.vc_series.proofs.Pairs.{at_places}

-- the conditions of a member
pub part_has : {V X : Type 0} (R : WeightSet V) (n : ℕ) (term : X → Term V) (xs : List X) (i : ℕ) (d : X) → i < length xs → HaveCoefficients R n (terms_of (map term xs)) → HasCoefficient R n (term (get_or xs i d))
part_has R n term [] i d l h = absurd (omega arith)
part_has R n term (x ∷ xs) zero d l h = (h.0.0, h.1.0, h.2.0)
part_has R n term (x ∷ xs) (suc i) d l h = part_has R n term xs i d (omega arith) (h.0.1, h.1.1, h.2.1)

module _ {V X : Type 0} (R : WeightSet V) (term : X → Term V) (w : Word) where
  -- the steps and the value of a sum
  pub members_are : (a : V) (xs : List X) → member_steps R a (terms_of (map term xs)) w ≡ adding_steps R (λ x. coefficient_steps R (term x) w) (λ x. coefficient_of R (term x) w) a xs
  members_are a [] = refl
  members_are a (x ∷ xs) = ap (λ ss. coefficient_steps R (term x) w ++ (Add a (coefficient_of R (term x) w) ∷ ss)) (members_are (R.plus a (coefficient_of R (term x) w)) xs)

  pub sum_is : (xs : List X) → sum_coefficient R (terms_of (map term xs)) w ≡ sum_over R (λ x. coefficient_of R (term x) w) xs
  sum_is [] = refl
  sum_is (x ∷ xs) = ap (R.plus (coefficient_of R (term x) w)) (sum_is xs)

-- two words of as many tapes as a word, and together of no more letters
pub record IsPair (w : Word) (c : Word × Word) : Type 0 where
  pub first : length c.0 ≡ length w
  pub second : length c.1 ≡ length w
  pub letters : size c.0 + size c.1 ≤ size w

pub cuts_are_pairs : (w : Word) → All (IsPair w) (cuts w)
cuts_are_pairs w = at_places (IsPair w) (cuts w) (λ c i. let r = cuts-In w c i in let s : size w ≡ size c.0 + size c.1 = ap size (sym r.0) ∙ size-join c.0 c.1 (r.1 ∙ sym r.2) in record { first = r.1; second = r.2; letters = omega (arith, s) })

letters_few : (I : List Bool) (a : Tape) → length (letters_at I a) + length (letters_off I a) ≤ length a
letters_few [] a = omega arith
letters_few (b ∷ I) [] = le_refl 0
letters_few (true ∷ I) (x ∷ a) = let r = letters_few I a in omega (arith, r)
letters_few (false ∷ I) (x ∷ a) = let r = letters_few I a in omega (arith, r)

pub shuffles_are_pairs : (w : Word) → length w ≡ 1 → All (IsPair w) (tape_pairs (slice_index_or w 0 []))
shuffles_are_pairs [] h = absurd (omega arith)
shuffles_are_pairs (a ∷ []) h = All-map (IsPair (a ∷ [])) (λ I. (letters_at I a ∷ [], letters_off I a ∷ [])) (position_sets (length a)) (λ k d l. let r = letters_few (get_or (position_sets (length a)) k d) a in record { first = refl; second = refl; letters = omega (arith, r) })
shuffles_are_pairs (a ∷ b ∷ w) h = absurd (omega arith)

-- the pair at a place
pub pair_at : (w : Word) (cs : List (Word × Word)) → All (IsPair w) cs → (i : ℕ) (c : Word × Word) → c ≡ get_or cs i c → i < length cs → IsPair w c
pair_at w cs h i c e l = subst (IsPair w) (sym e) (h i c l)

pub cut_pair : (w : Word) (cs : List (Word × Word)) → cs ≡ cuts w → (i : ℕ) (c : Word × Word) → c ≡ get_or cs i c → i < length cs → IsPair w c
cut_pair w cs q i c e l = pair_at w cs (subst (λ ds. All (IsPair w) ds) (sym q) (cuts_are_pairs w)) i c e l

pub shuffle_pair : (w : Word) (cs : List (Word × Word)) → length w ≡ 1 → cs ≡ tape_pairs (slice_index_or w 0 []) → (i : ℕ) (c : Word × Word) → c ≡ get_or cs i c → i < length cs → IsPair w c
shuffle_pair w cs o q i c e l = pair_at w cs (subst (λ ds. All (IsPair w) ds) (sym q) (shuffles_are_pairs w o)) i c e l

-- the sizes of both words of a pair
pub first_size : (w : Word) (c : Word × Word) (u : Word) → IsPair w c → u ≡ c.0 → (size u ≤ size w) × (length u ≡ length w)
first_size w c u p e = subst (λ x. (size x ≤ size w) × (length x ≡ length w)) (sym e) (let h = p.letters in omega (arith, h), p.first)

pub second_size : (w : Word) (c : Word × Word) (v : Word) → IsPair w c → v ≡ c.1 → (size v ≤ size w) × (length v ≡ length w)
second_size w c v p e = subst (λ x. (size x ≤ size w) × (length x ≡ length w)) (sym e) (let h = p.letters in omega (arith, h), p.second)

pub later_size : (w : Word) (c : Word × Word) (v : Word) → IsPair w c → v ≡ c.1 → is_empty c.0 ≡ false → size v < size w
later_size w c v p e f =
    let n : size c.0 ≢ 0 = λ q. absurd (not_both (is_empty c.0) (is_empty-size c.0 q) f) in
    subst (λ x. size x < size w) (sym e) (let h = p.letters in omega (arith, h, n))
  where
    not_both : (b : Bool) → b ≡ true → b ≡ false → ⊥
    not_both b x y = cc

module _ {V : Type 0} (R : WeightSet V) (n : ℕ) where
  -- the conditions of the parts of each kind of tree
  pub sum_has : (ts : Terms V) (whole : Term V) → whole ≡ Sum ts → HasCoefficient R n whole → HaveCoefficients R n ts
  sum_has ts whole e h = let k = subst (HasCoefficient R n) e h in (k.0, k.1, k.2.1)

  pub product_has : (ts : Terms V) (whole : Term V) → whole ≡ Product ts → HasCoefficient R n whole → HaveCoefficients R n ts
  product_has ts whole e h = let k = subst (HasCoefficient R n) e h in (k.0, k.1, k.2.1)

  pub weight_has : (a : V) (t whole : Term V) → whole ≡ Weight a t → HasCoefficient R n whole → IsTrue (R.in_range a) × HasCoefficient R n t
  weight_has a t whole e h = let k = subst (HasCoefficient R n) e h in (k.2.0, (k.0, k.1, k.2.1))

  pub both_has : (t u whole : Term V) → whole ≡ Both t u → HasCoefficient R n whole → HasCoefficient R n t × HasCoefficient R n u
  both_has t u whole e h = let k = subst (HasCoefficient R n) e h in ((k.0.0, k.1.0, k.2.1), (k.0.1, k.1.1, k.2.2))

  pub star_has : (t : Term V) → HasCoefficient R n (Star t) → HasCoefficient R n t × IsTrue (R.has_star (coefficient_of R t (empty_word n)))
  star_has t k = ((k.0, k.1.0, k.2.1), k.1.1)

  pub shuffle_has : (t u : Term V) → HasCoefficient R n (Shuffle t u) → (n ≡ 1) × (HasCoefficient R n t × HasCoefficient R n u)
  shuffle_has t u k = (k.0.0, ((k.0.1, k.1.0, k.2.1), (k.0.2, k.1.1, k.2.2)))

  pub first_has : (t : Term V) (ts : Terms V) → HaveCoefficients R n (MoreTerms t ts) → HasCoefficient R n t × HaveCoefficients R n ts
  first_has t ts k = ((k.0.0, k.1.0, k.2.0), (k.0.1, k.1.1, k.2.1))
