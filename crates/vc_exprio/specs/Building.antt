-- How an expression is built of its tree by calls of the store: the parts before the whole and from left to right, up to the first call that refuses.
use Rattle.std.specs.Prelude.{ℕ, Bool, List, [], ◌∷◌, ◌++◌, map, Result, Ok, Err}
use Rattle.vc_expr.specs.Answers.{sum_answer, product_answer, weight_answer, star_answer, both_answer, shuffle_answer}
use Rattle.vc_lex.specs.Marks.{Mark}
use Rattle.vc_model.specs.WeightSet.{WeightSet}
use Rattle.vc_ring.specs.declared.faults.Overflow.{Overflow}
use Rattle.vc_ring.specs.declared.faults.StarFault.{StarFault}
use Rattle.vc_ring.specs.declared.faults.StarFault.TheVariants.{NoStar, Overflow as UnfitStar}
use Rattle.vc_terms.specs.Identities.{atom_of}
use Rattle.vc_terms.specs.Terms.{Term, Zero}
use Rattle.vc_exprio.specs.Meaning.{label_word}
use Rattle.vc_exprio.specs.Trees.{Tree, zero_tree, label, class, group, star, weight_behind, weight_before, times, both, shuffle, plus}

-- why a call refuses: a step that does not fit, or an operand without a star, with its constant term
pub data BuildRefusal (V : Type 0) : Type 0 where
  unfit : Overflow V → BuildRefusal V
  no_star : Term V → V → BuildRefusal V

-- ---- one after the other: the first refusal wins

abbrev pub and_then : {X Y E : Type 0} → (X → Result Y E) → Result X E → Result Y E
and_then f (Ok x) = f x
and_then f (Err e) = Err e

-- a list, and one more behind it
abbrev pub with_last : {X E : Type 0} → Result (List X) E → Result X E → Result (List X) E
with_last xs x = and_then (λ front. and_then (λ last. Ok (front ++ last ∷ [])) x) xs

-- ---- the calls

abbrev pub unless_unfit : {X V : Type 0} → Result X (Overflow V) → Result X (BuildRefusal V)
unless_unfit (Ok x) = Ok x
unless_unfit (Err step) = Err (unfit step)

-- a star with this operand
abbrev pub unless_no_star : {V : Type 0} → Term V → Result (Term V) (StarFault V) → Result (Term V) (BuildRefusal V)
unless_no_star t (Ok u) = Ok u
unless_no_star t (Err (NoStar c)) = Err (no_star t c)
unless_no_star t (Err (UnfitStar step)) = Err (unfit step)

-- the atoms of letters
abbrev pub atoms_of : {V : Type 0} → List ℕ → List (Term V)
atoms_of xs = map (λ x. atom_of ((x ∷ []) ∷ [])) xs

module _ {V : Type 0} (R : WeightSet V) (same : V → V → Bool) where
  abbrev pub sum_call : List (Term V) → Result (Term V) (BuildRefusal V)
  sum_call ts = unless_unfit (sum_answer R ts)

  abbrev pub product_call : List (Term V) → Result (Term V) (BuildRefusal V)
  product_call ts = unless_unfit (product_answer R same ts)

  abbrev pub weight_call : V → Term V → Result (Term V) (BuildRefusal V)
  weight_call k t = unless_unfit (weight_answer R same k t)

  abbrev pub star_call : Term V → Result (Term V) (BuildRefusal V)
  star_call t = unless_no_star t (star_answer R t)

  abbrev pub both_call : Term V → Term V → Result (Term V) (BuildRefusal V)
  both_call t u = unless_unfit (both_answer R t u)

  abbrev pub shuffle_call : Term V → Term V → Result (Term V) (BuildRefusal V)
  shuffle_call t u = unless_unfit (shuffle_answer R t u)

module _ {V : Type 0} (R : WeightSet V) (same : V → V → Bool) (value : Mark → V) (class_letters : Mark → List ℕ) where
  abbrev mutual
    -- what is built of a tree; parentheses add nothing
    pub building : Tree → Result (Term V) (BuildRefusal V)
    building (zero_tree m) = Ok Zero
    building (label m bs) = Ok (atom_of (label_word m bs))
    building (class m) = sum_call R same (atoms_of (class_letters m))
    building (group opening t closing) = building t
    building (star t m) = and_then (star_call R same) (building t)
    building (weight_behind t m) = and_then (weight_call R same (value m)) (building t)
    building (weight_before m t) = and_then (weight_call R same (value m)) (building t)
    building (times t u) = and_then (product_call R same) (with_last (factors_built t (building t)) (building u))
    building (both t m u) = and_then (λ a. and_then (both_call R same a) (building u)) (building t)
    building (shuffle t m u) = and_then (λ a. and_then (shuffle_call R same a) (building u)) (building t)
    building (plus t m u) = and_then (sum_call R same) (with_last (members_built t (building t)) (building u))

    -- the factors of a product; another tree is one factor, which is built so
    pub factors_built : Tree → Result (Term V) (BuildRefusal V) → Result (List (Term V)) (BuildRefusal V)
    factors_built (times t u) whole = with_last (factors_built t (building t)) (building u)
    factors_built t whole = and_then (λ a. Ok (a ∷ [])) whole

    -- the members of a sum; another tree is one member, which is built so
    pub members_built : Tree → Result (Term V) (BuildRefusal V) → Result (List (Term V)) (BuildRefusal V)
    members_built (plus t m u) whole = with_last (members_built t (building t)) (building u)
    members_built t whole = and_then (λ a. Ok (a ∷ [])) whole
