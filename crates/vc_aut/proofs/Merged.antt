-- Of transitions in order, those of equal triples are neighbours.
use Rattle.std.proofs.Common.{◌≡◌, ◌∙◌, sym, ap, subst, refl, ◌<◌, ◌≤◌, true, false, List, [], ◌∷◌, ◌++◌, length, cond, None, Some, Ok, Err, Less, Equal, Greater, inl, inr}
use Rattle.std.specs.Prelude.{◌↔◌, Result}
use Rattle.std.specs.List.{filter}
use Rattle.std.specs.Ordering.{match_ordering, ordering_reverse, is_eq, is_lt}
use Rattle.std.specs.Cmp.{IsTotalOrder}
use Rattle.std.specs.declared.cmp.Ordering.{Ordering}
use Rattle.vc_label.specs.Order.{word_order}
use Rattle.vc_model.specs.Automata.{Transition}
use Rattle.vc_model.specs.Lists.{In}
use Rattle.vc_model.specs.OutcomeLaws.{outcome-is}
use Rattle.vc_model.specs.WeightSet.{WeightSet}
use Rattle.vc_model.specs.Words.{Word}
use Rattle.vc_ring.specs.Steps.{fits, AllFit, IsOutcome, outcome}
use Rattle.vc_ring.specs.declared.faults.MakeFault.{MakeFault}
use Rattle.vc_ring.specs.declared.faults.MakeFault.TheVariants.{Overflow as Unfit, Limit as PastLimit, Memory}
use Rattle.vc_ring.specs.declared.faults.Overflow.{Overflow}
use Rattle.vc_ring.specs.declared.faults.Overflow.TheVariants.{Add}
use Rattle.vc_aut.specs.Additions.{addition_to, additions, IsSumAnswer}
use Rattle.vc_aut.specs.Order.{triple_order}
use Rattle.vc_aut.specs.Runs.{runs, runs_from, run_additions, run_additions_from, with_weight_of, IsRunAnswer}
use Rattle.vc_aut.specs.Sums.{insert_transition, insert_all, standing}
use Rattle.vc_aut.proofs.Groups.{at, same_additions, same_sums}
use Rattle.vc_aut.proofs.Order.{triple_order_total, order_of_same}

-- no transition comes before one that stands in front of it
abbrev pub IsRising : {V : Type 0} → List (Transition V) → Type 0
IsRising [] = Unit {0}
IsRising {V} (t ∷ ts) = ((u : Transition V) → In u ts → is_lt (triple_order u t) ≡ false) × IsRising ts

module _ {V : Type 0} (order : IsTotalOrder (triple_order {V = V})) where
  below : (t u : Transition V) → triple_order u t ≡ Greater → triple_order t u ≡ Less
  below t u h = order.antisymm t u ∙ ap ordering_reverse h

  above : (t u : Transition V) → triple_order u t ≡ Less → triple_order t u ≡ Greater
  above t u h = order.antisymm t u ∙ ap ordering_reverse h

  greater_by : (x u t : Transition V) → triple_order u t ≡ Greater → (o : Ordering) → triple_order x u ≡ o → is_lt o ≡ false → triple_order x t ≡ Greater
  greater_by x u t h Less q k = cc
  greater_by x u t h Equal q k = order.congr x u t q ∙ h
  greater_by x u t h Greater q k = above x t (order.trans t u x (below t u h) (below u x q))

  greater : (x u t : Transition V) → triple_order u t ≡ Greater → is_lt (triple_order x u) ≡ false → triple_order x t ≡ Greater
  greater x u t h k = greater_by x u t h (triple_order x u) refl k

  module _ (R : WeightSet V) where
    -- what comes after v is inserted after it
    insert_past : (v : Transition V) (ts : List (Transition V)) (u : Transition V) → triple_order u v ≡ Greater → insert_transition R (v ∷ ts) u ≡ v ∷ insert_transition R ts u
    insert_past v ts u q = ap (λ o. match_ordering o (u ∷ v ∷ ts) (record v { weight = R.plus v.weight u.weight } ∷ ts) (v ∷ insert_transition R ts u)) q

    pub all_past : (v : Transition V) (ts us : List (Transition V)) → ((u : Transition V) → In u us → triple_order u v ≡ Greater) → insert_all R (v ∷ ts) us ≡ v ∷ insert_all R ts us
    all_past v ts [] k = refl
    all_past v ts (u ∷ us) k =
        ap (λ l. insert_all R l us) (insert_past v ts u (k u (inl refl))) ∙ all_past v (insert_transition R ts u) us (λ x i. k x (inr i))

    pub additions_past : (v : Transition V) (ts us : List (Transition V)) → ((u : Transition V) → In u us → triple_order u v ≡ Greater) → additions R (v ∷ ts) us ≡ additions R ts us
    additions_past v ts [] k = refl
    additions_past v ts (u ∷ us) k =
        ap (λ o. addition_to (cond (is_eq o) (Some v.weight) (standing ts u)) u.weight ++ additions R (insert_transition R (v ∷ ts) u) us) (k u (inl refl))
        ∙ ap (λ l. addition_to (standing ts u) u.weight ++ additions R l us) (insert_past v ts u (k u (inl refl)))
        ∙ ap (λ l. addition_to (standing ts u) u.weight ++ l) (additions_past v (insert_transition R ts u) us (λ x i. k x (inr i)))

    sums_by : (t u : Transition V) (us : List (Transition V)) → IsRising (t ∷ u ∷ us)
        → insert_all R (with_weight_of R t u ∷ []) us ≡ runs_from R (with_weight_of R t u) us → insert_all R (u ∷ []) us ≡ runs_from R u us
        → (o : Ordering) → triple_order u t ≡ o
        → insert_all R (match_ordering o (u ∷ t ∷ []) (with_weight_of R t u ∷ []) (t ∷ u ∷ [])) us ≡ cond (is_eq o) (runs_from R (with_weight_of R t u) us) (t ∷ runs_from R u us)
    sums_by t u us h e f Less q = let n : is_lt (triple_order u t) ≡ false = h.0 u (inl refl) in cc
    sums_by t u us h e f Equal q = e
    sums_by t u us h e f Greater q = all_past t (u ∷ []) us (λ x i. greater x u t q (h.1.0 x i)) ∙ ap (λ l. t ∷ l) f

    sums_from : (t : Transition V) (us : List (Transition V)) → IsRising (t ∷ us) → insert_all R (t ∷ []) us ≡ runs_from R t us
    sums_from t [] h = refl
    sums_from t (u ∷ us) h =
        sums_by t u us h (sums_from (with_weight_of R t u) us ((λ x i. h.0 x (inr i)), h.1.1)) (sums_from u us h.1) (triple_order u t) refl

    pub sums_are_runs : (ts : List (Transition V)) → IsRising ts → insert_all R [] ts ≡ runs R ts
    sums_are_runs [] h = refl
    sums_are_runs (t ∷ ts) h = sums_from t ts h

    steps_by : (t u : Transition V) (us : List (Transition V)) → IsRising (t ∷ u ∷ us)
        → additions R (with_weight_of R t u ∷ []) us ≡ run_additions_from R (with_weight_of R t u) us → additions R (u ∷ []) us ≡ run_additions_from R u us
        → (o : Ordering) → triple_order u t ≡ o
        → addition_to (cond (is_eq o) (Some t.weight) None) u.weight ++ additions R (match_ordering o (u ∷ t ∷ []) (with_weight_of R t u ∷ []) (t ∷ u ∷ [])) us
        ≡ cond (is_eq o) (Add t.weight u.weight ∷ run_additions_from R (with_weight_of R t u) us) (run_additions_from R u us)
    steps_by t u us h e f Less q = let n : is_lt (triple_order u t) ≡ false = h.0 u (inl refl) in cc
    steps_by t u us h e f Equal q = ap (λ l. Add t.weight u.weight ∷ l) e
    steps_by t u us h e f Greater q = additions_past t (u ∷ []) us (λ x i. greater x u t q (h.1.0 x i)) ∙ f

    steps_from : (t : Transition V) (us : List (Transition V)) → IsRising (t ∷ us) → additions R (t ∷ []) us ≡ run_additions_from R t us
    steps_from t [] h = refl
    steps_from t (u ∷ us) h =
        steps_by t u us h (steps_from (with_weight_of R t u) us ((λ x i. h.0 x (inr i)), h.1.1)) (steps_from u us h.1) (triple_order u t) refl

    additions_are_runs : (ts : List (Transition V)) → IsRising ts → additions R [] ts ≡ run_additions R ts
    additions_are_runs [] h = refl
    additions_are_runs (t ∷ ts) h = steps_from t ts h

member_fits : {V : Type 0} (R : WeightSet V) (o : Overflow V) (list : List (Overflow V)) → AllFit R list → In o list → fits R o ≡ true
member_fits R o [] h i = absurd i
member_fits R o (s ∷ list) h (inl e) = ap (fits R) e ∙ h.0
member_fits R o (s ∷ list) h (inr i) = member_fits R o list h.1 i

all_fit : {V : Type 0} (R : WeightSet V) (list : List (Overflow V)) → ((o : Overflow V) → In o list → fits R o ≡ true) → AllFit R list
all_fit R [] k = tt
all_fit R (s ∷ list) k = (k s (inl refl), all_fit R list (λ o i. k o (inr i)))

module _ (total : IsTotalOrder word_order) (equal : (v w : Word) → (word_order v w ≡ Equal) ↔ (v ≡ w)) {V : Type 0} (R : WeightSet V) where
  -- what a list in another order comes to, in which the transitions of each triple keep theirs, and are neighbours
  pub sums_of_sorted : (xs ys : List (Transition V)) → ((t : Transition V) → filter (at t) xs ≡ filter (at t) ys) → IsRising ys → insert_all R [] xs ≡ runs R ys
  sums_of_sorted xs ys e up = same_sums total equal R xs ys e ∙ sums_are_runs (triple_order_total total equal) R ys up

module _ (total : IsTotalOrder word_order) (equal : (v w : Word) → (word_order v w ≡ Equal) ↔ (v ≡ w)) {V T : Type 0} (R : WeightSet V) where
  -- the answer for a list in another order, in which the transitions of each triple keep theirs, and are neighbours
  pub sum_answer : (xs ys : List (Transition V)) → ((t : Transition V) → filter (at t) xs ≡ filter (at t) ys) → IsRising ys
      → (result : Result T (MakeFault V)) → IsRunAnswer R ys result → IsSumAnswer R xs result
  sum_answer xs ys e up result a = by result a
    where
      order : IsTotalOrder (triple_order {V = V})
      order = triple_order_total total equal

      steps : additions R [] ys ≡ run_additions R ys
      steps = additions_are_runs order R ys up

      self : (t : Transition V) → triple_order t t ≡ Equal
      self t = order_of_same total equal t t refl

      sums : insert_all R [] xs ≡ runs R ys
      sums = sums_of_sorted total equal R xs ys e up

      decided : (r : Result (Unit {0}) (Overflow V)) → outcome R (run_additions R ys) (tt {0}) ≡ r → IsOutcome R (run_additions R ys) (tt {0}) r
      decided r h = subst (λ q. IsOutcome R (run_additions R ys) (tt {0}) q) h (outcome-is (fits R) (run_additions R ys) (tt {0}))

      by : (result : Result T (MakeFault V)) → IsRunAnswer R ys result → IsSumAnswer R xs result
      by (Ok v) a =
          let all : AllFit R (additions R [] ys) = subst (AllFit R) (sym steps) (decided (Ok (tt {0})) a.0).1 in
          (all_fit R (additions R [] xs) (λ o i. member_fits R o (additions R [] ys) all (same_additions order R self o xs ys e i)), subst (λ ts. length ts ≤ 4000000) (sym sums) a.1)
      by (Err (Unfit o)) a =
          let one = decided (Err o) a in
          (same_additions order R self o ys xs (λ t. sym (e t)) (subst (λ l. In o l) (sym steps) one.0), one.1)
      by (Err (PastLimit l)) a = (a.0, subst (λ ts. 4000000 < length ts) (sym sums) a.1)
      by (Err (Memory f)) a = tt
