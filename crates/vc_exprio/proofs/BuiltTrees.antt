-- What is built of a tree is what the identities build of its expression.
use Rattle.std.proofs.Common.{◌≡◌, ℕ, Bool, true, false, List, [], ◌∷◌, ◌++◌, Result, Ok, Err, refl, ap, ap₂, sym, ◌∙◌, subst}
use Rattle.std.specs.Prelude.{if◌then◌else◌, ⊤}
use Rattle.vc_lex.specs.Marks.{Mark}
use Rattle.vc_model.specs.WeightSet.{WeightSet}
use Rattle.vc_model.specs.Words.{Word, is_empty}
use Rattle.vc_ring.specs.Steps.{fits, outcome}
use Rattle.vc_ring.specs.declared.faults.Overflow.{Overflow}
use Rattle.vc_ring.specs.declared.faults.Overflow.TheVariants.{Star as StarStep}
use Rattle.vc_ring.specs.declared.faults.StarFault.TheVariants.{NoStar, Overflow as UnfitStar}
use Rattle.vc_terms.specs.Identities.{atom_of, sum_of, product_of, weight_of, both_of, shuffle_of, star_of, built_of, built_all}
use Rattle.vc_terms.specs.Terms.{Term, Terms, NoTerms, MoreTerms, One, Atom, Star, constant_of}
use Rattle.vc_terms.specs.Trees.{is_zero}
use Rattle.vc_expr.specs.Steps.{sum_of_steps, product_of_steps, weight_of_steps, both_of_steps, shuffle_of_steps}
use Rattle.vc_exprio.specs.Building.{BuildRefusal, and_then, with_last, atoms_of, unless_unfit, unless_no_star, sum_call, product_call, weight_call, star_call, both_call, shuffle_call, building, factors_built, members_built}
use Rattle.vc_exprio.specs.Meaning.{is_times, is_plus, label_word, label_term, letter_terms, class_term, append, summands, term_of}
use Rattle.vc_exprio.specs.Meaning as meaning
use Rattle.vc_exprio.specs.Trees.{Tree, zero_tree, label, class, group, star, weight_behind, weight_before, times, both, shuffle, plus}

-- where there is a value, it is this one
abbrev Gives : {X E : Type 0} → X → Result X E → Type 0
Gives a (Ok b) = b ≡ a
Gives a (Err e) = ⊤

given : {X E : Type 0} (a b : X) (x : Result X E) → Gives a x → x ≡ Ok b → b ≡ a
given a b (Ok c) g e = let same : c ≡ b = cc in sym same ∙ g
given a b (Err f) g e = absurd (cc)

gives_then : {X Y E : Type 0} (call : X → Result Y E) (a : X) (b : Y) (x : Result X E) → Gives a x → Gives b (call a) → Gives b (and_then call x)
gives_then call a b (Ok c) g h = subst (λ z. Gives b (call z)) (sym g) h
gives_then call a b (Err f) g h = tt

gives_one : {X E : Type 0} (a : X) (x : Result X E) → Gives a x → Gives (a ∷ []) (and_then (λ b. Ok (b ∷ [])) x)
gives_one a (Ok b) g = ap (λ z. z ∷ []) g
gives_one a (Err f) g = tt

gives_last : {X E : Type 0} (ls : List X) (a : X) (xs : Result (List X) E) (x : Result X E) → Gives ls xs → Gives a x → Gives (ls ++ a ∷ []) (with_last xs x)
gives_last ls a (Ok bs) (Ok b) g h = ap₂ (λ y z. y ++ z ∷ []) g h
gives_last ls a (Ok bs) (Err f) g h = tt
gives_last ls a (Err f) x g h = tt

gives_two : {X Y E : Type 0} (call : X → X → Result Y E) (a b : X) (c : Y) (x y : Result X E) → Gives a x → Gives b y → Gives c (call a b) → Gives c (and_then (λ z. and_then (call z) y) x)
gives_two call a b c x y g h k = gives_then (λ z. and_then (call z) y) a c x g (gives_then (call a) b c y h k)

module _ {V : Type 0} (R : WeightSet V) (same : V → V → Bool) where
  outcome_gives : {W : Type 0} (list : List (Overflow V)) (v : W) → Gives v (unless_unfit (outcome R list v))
  outcome_gives [] v = refl
  outcome_gives (o ∷ list) v = go (fits R o) (outcome_gives list v)
    where
      go : (b : Bool) → Gives v (unless_unfit (outcome R list v)) → Gives v (unless_unfit (if b then outcome R list v else Err o))
      go true more = more
      go false more = tt

  star_gives : (t : Term V) → Gives (star_of t) (star_call R same t)
  star_gives t = go (is_zero t) (R.has_star (constant_of R t)) (R.fits_star (constant_of R t))
    where
      go : (z h f : Bool) → Gives (if z then One else Star t) (unless_no_star t (if z then Ok One else if h then (if f then Ok (Star t) else Err (UnfitStar (StarStep (constant_of R t)))) else Err (NoStar (constant_of R t))))
      go true h f = refl
      go false true true = refl
      go false true false = tt
      go false false f = tt

  sum_gives : (ts : List (Term V)) → Gives (sum_of ts) (sum_call R same ts)
  sum_gives ts = outcome_gives (sum_of_steps R ts) (sum_of ts)

  product_gives : (ts : List (Term V)) → Gives (product_of R same ts) (product_call R same ts)
  product_gives ts = outcome_gives (product_of_steps R same ts) (product_of R same ts)

  weight_gives : (k : V) (t : Term V) → Gives (weight_of R same k t) (weight_call R same k t)
  weight_gives k t = outcome_gives (weight_of_steps R same k t) (weight_of R same k t)

  both_gives : (t u : Term V) → Gives (both_of t u) (both_call R same t u)
  both_gives t u = outcome_gives (both_of_steps R t u) (both_of t u)

  shuffle_gives : (t u : Term V) → Gives (shuffle_of t u) (shuffle_call R same t u)
  shuffle_gives t u = outcome_gives (shuffle_of_steps R t u) (shuffle_of t u)

  label_built : (w : Word) → atom_of w ≡ built_of R same (label_term w)
  label_built w = go (is_empty w) refl
    where
      go : (b : Bool) → is_empty w ≡ b → atom_of w ≡ built_of R same (if b then One else Atom w)
      go true e = ap (λ b. if b then One else Atom w) e
      go false e = refl

  letters_built : (xs : List ℕ) → atoms_of xs ≡ built_all R same (letter_terms xs)
  letters_built [] = refl
  letters_built (x ∷ xs) = ap (λ ts. atom_of ((x ∷ []) ∷ []) ∷ ts) (letters_built xs)

  class_built : (xs : List ℕ) → sum_of (atoms_of xs) ≡ built_of R same (class_term xs)
  class_built [] = refl
  class_built (x ∷ xs) = ap sum_of (letters_built (x ∷ xs))

  all_append : (ts us : Terms V) → built_all R same (append ts us) ≡ built_all R same ts ++ built_all R same us
  all_append NoTerms us = refl
  all_append (MoreTerms t ts) us = ap (λ x. built_of R same t ∷ x) (all_append ts us)

  module _ (value : Mark → V) (class_letters : Mark → List ℕ) where
    abbrev shown : Tree → Term V
    shown t = term_of value class_letters t

    abbrev whole_of : Tree → Term V
    whole_of t = built_of R same (shown t)

    abbrev factors_of : Tree → List (Term V)
    factors_of t = built_all R same (meaning.factors (is_times t) (shown t))

    abbrev members_of : Tree → List (Term V)
    members_of t = built_all R same (summands (is_plus t) (shown t))

    abbrev made : Tree → Result (Term V) (BuildRefusal V)
    made t = building R same value class_letters t

    -- what is built of the tree, of its factors and of its members
    record Built (t : Tree) : Type 0 where
      whole : Gives (whole_of t) (made t)
      factors : Gives (factors_of t) (factors_built R same value class_letters t (made t))
      members : Gives (members_of t) (members_built R same value class_letters t (made t))

    alone : (t : Tree) → Gives (whole_of t) (made t) → Gives (whole_of t ∷ []) (and_then (λ a. Ok (a ∷ [])) (made t))
    alone t g = gives_one (whole_of t) (made t) g

    built : (t : Tree) → Built t
    built (zero_tree m) =
        let w : Gives (whole_of (zero_tree m)) (made (zero_tree m)) = refl in
        record { whole = w; factors = alone (zero_tree m) w; members = alone (zero_tree m) w }
    built (label m bs) =
        let w : Gives (whole_of (label m bs)) (made (label m bs)) = label_built (label_word m bs) in
        record { whole = w; factors = alone (label m bs) w; members = alone (label m bs) w }
    built (class m) =
        let w : Gives (whole_of (class m)) (made (class m)) = subst (λ x. Gives x (made (class m))) (class_built (class_letters m)) (sum_gives (atoms_of (class_letters m))) in
        record { whole = w; factors = alone (class m) w; members = alone (class m) w }
    built (group opening t closing) =
        let w : Gives (whole_of (group opening t closing)) (made (group opening t closing)) = (built t).whole in
        record { whole = w; factors = alone (group opening t closing) w; members = alone (group opening t closing) w }
    built (star t m) =
        let w : Gives (whole_of (star t m)) (made (star t m)) = gives_then (star_call R same) (whole_of t) (star_of (whole_of t)) (made t) (built t).whole (star_gives (whole_of t)) in
        record { whole = w; factors = alone (star t m) w; members = alone (star t m) w }
    built (weight_behind t m) =
        let w : Gives (whole_of (weight_behind t m)) (made (weight_behind t m)) = gives_then (weight_call R same (value m)) (whole_of t) (weight_of R same (value m) (whole_of t)) (made t) (built t).whole (weight_gives (value m) (whole_of t)) in
        record { whole = w; factors = alone (weight_behind t m) w; members = alone (weight_behind t m) w }
    built (weight_before m t) =
        let w : Gives (whole_of (weight_before m t)) (made (weight_before m t)) = gives_then (weight_call R same (value m)) (whole_of t) (weight_of R same (value m) (whole_of t)) (made t) (built t).whole (weight_gives (value m) (whole_of t)) in
        record { whole = w; factors = alone (weight_before m t) w; members = alone (weight_before m t) w }
    built (times t u) =
        let fs : Gives (factors_of (times t u)) (factors_built R same value class_letters (times t u) (made (times t u))) =
        subst (λ x. Gives x (factors_built R same value class_letters (times t u) (made (times t u)))) (sym (all_append (meaning.factors (is_times t) (shown t)) (MoreTerms (shown u) NoTerms)))
        (gives_last (factors_of t) (whole_of u) (factors_built R same value class_letters t (made t)) (made u) (built t).factors (built u).whole) in
        let w : Gives (whole_of (times t u)) (made (times t u)) =
        gives_then (product_call R same) (factors_of (times t u)) (product_of R same (factors_of (times t u))) (factors_built R same value class_letters (times t u) (made (times t u))) fs (product_gives (factors_of (times t u))) in
        record { whole = w; factors = fs; members = alone (times t u) w }
    built (both t m u) =
        let w : Gives (whole_of (both t m u)) (made (both t m u)) = gives_two (both_call R same) (whole_of t) (whole_of u) (both_of (whole_of t) (whole_of u)) (made t) (made u) (built t).whole (built u).whole (both_gives (whole_of t) (whole_of u)) in
        record { whole = w; factors = alone (both t m u) w; members = alone (both t m u) w }
    built (shuffle t m u) =
        let w : Gives (whole_of (shuffle t m u)) (made (shuffle t m u)) = gives_two (shuffle_call R same) (whole_of t) (whole_of u) (shuffle_of (whole_of t) (whole_of u)) (made t) (made u) (built t).whole (built u).whole (shuffle_gives (whole_of t) (whole_of u)) in
        record { whole = w; factors = alone (shuffle t m u) w; members = alone (shuffle t m u) w }
    built (plus t m u) =
        let ms : Gives (members_of (plus t m u)) (members_built R same value class_letters (plus t m u) (made (plus t m u))) =
        subst (λ x. Gives x (members_built R same value class_letters (plus t m u) (made (plus t m u)))) (sym (all_append (summands (is_plus t) (shown t)) (MoreTerms (shown u) NoTerms)))
        (gives_last (members_of t) (whole_of u) (members_built R same value class_letters t (made t)) (made u) (built t).members (built u).whole) in
        let w : Gives (whole_of (plus t m u)) (made (plus t m u)) =
        gives_then (sum_call R same) (members_of (plus t m u)) (sum_of (members_of (plus t m u))) (members_built R same value class_letters (plus t m u) (made (plus t m u))) ms (sum_gives (members_of (plus t m u))) in
        record { whole = w; factors = alone (plus t m u) w; members = ms }

    -- what is built of a tree is the built expression
    pub building_built : (t : Tree) (u : Term V) → building R same value class_letters t ≡ Ok u → u ≡ built_of R same (term_of value class_letters t)
    building_built t u e = given (whole_of t) u (made t) (built t).whole e
