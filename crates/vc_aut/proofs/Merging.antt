-- How neighbours of equal triples are added up, one transition after the other.
use Rattle.std.proofs.Common.{◌≡◌, ◌∙◌, sym, ap, refl, ℕ, suc, ◌+◌, ◌<◌, ◌≤◌, Bool, true, false, List, [], ◌∷◌, ◌++◌, length, cond, Ok, Err, arith, append_assoc}
use Rattle.std.specs.Prelude.{not}
use Rattle.std.specs.List.{filter}
use Rattle.std.specs.Ordering.{is_eq}
use Rattle.vc_model.specs.Automata.{Transition}
use Rattle.vc_model.specs.WeightSet.{WeightSet}
use Rattle.vc_ring.specs.Steps.{outcome}
use Rattle.vc_ring.specs.declared.faults.Overflow.TheVariants.{Add}
use Rattle.vc_aut.specs.Drafts.{without_zeros}
use Rattle.vc_aut.specs.Order.{triple_order}
use Rattle.vc_aut.specs.Runs.{runs, runs_from, run_additions, run_additions_from, with_weight_of}

-- what is kept, and what t and the rest come to, make the whole; n triples were met, and the rest decides whether all additions fit
pub record IsMerging {V : Type 0} (R : WeightSet V) (same : V → V → Bool) (kept : List (Transition V)) (n : ℕ) (t : Transition V) (rest all : List (Transition V)) : Type 0 where
  pub whole : kept ++ without_zeros R same (runs_from R t rest) ≡ without_zeros R same (runs R all)
  pub steps : outcome R (run_additions_from R t rest) (tt {0}) ≡ outcome R (run_additions R all) (tt {0})
  pub count : n + length (runs_from R t rest) ≡ 1 + length (runs R all)
  pub few : n ≤ 4000000

module _ {V : Type 0} (R : WeightSet V) (same : V → V → Bool) where
  some_by : (t u : Transition V) (us : List (Transition V)) → 1 ≤ length (runs_from R (with_weight_of R t u) us)
      → (b : Bool) → 1 ≤ length (cond b (runs_from R (with_weight_of R t u) us) (t ∷ runs_from R u us))
  some_by t u us h true = h
  some_by t u us h false = omega arith

  some : (t : Transition V) (us : List (Transition V)) → 1 ≤ length (runs_from R t us)
  some t [] = omega arith
  some t (u ∷ us) = some_by t u us (some (with_weight_of R t u) us) (is_eq (triple_order u t))

  same_run : (t u : Transition V) (us : List (Transition V)) → is_eq (triple_order u t) ≡ true → runs_from R t (u ∷ us) ≡ runs_from R (with_weight_of R t u) us
  same_run t u us e = ap (λ b. cond b (runs_from R (with_weight_of R t u) us) (t ∷ runs_from R u us)) e

  next_run : (t u : Transition V) (us : List (Transition V)) → is_eq (triple_order u t) ≡ false → runs_from R t (u ∷ us) ≡ t ∷ runs_from R u us
  next_run t u us e = ap (λ b. cond b (runs_from R (with_weight_of R t u) us) (t ∷ runs_from R u us)) e

  same_steps : (t u : Transition V) (us : List (Transition V)) → is_eq (triple_order u t) ≡ true → run_additions_from R t (u ∷ us) ≡ Add t.weight u.weight ∷ run_additions_from R (with_weight_of R t u) us
  same_steps t u us e = ap (λ b. cond b (Add t.weight u.weight ∷ run_additions_from R (with_weight_of R t u) us) (run_additions_from R u us)) e

  next_steps : (t u : Transition V) (us : List (Transition V)) → is_eq (triple_order u t) ≡ false → run_additions_from R t (u ∷ us) ≡ run_additions_from R u us
  next_steps t u us e = ap (λ b. cond b (Add t.weight u.weight ∷ run_additions_from R (with_weight_of R t u) us) (run_additions_from R u us)) e

  one_more : (t : Transition V) (ts : List (Transition V)) (b : Bool) → cond b (t ∷ filter (λ t. not (same t.weight R.zero)) ts) (filter (λ t. not (same t.weight R.zero)) ts) ≡ cond b (t ∷ []) [] ++ filter (λ t. not (same t.weight R.zero)) ts
  one_more t ts true = refl
  one_more t ts false = refl

  pub merging_start : (t : Transition V) (rest : List (Transition V)) → IsMerging R same [] 1 t rest (t ∷ rest)
  merging_start t rest = record { whole = refl; steps = refl; count = refl; few = omega arith }

  module _ (kept : List (Transition V)) (n : ℕ) (t u : Transition V) (rest all : List (Transition V)) (h : IsMerging R same kept n t (u ∷ rest) all) where
    decided : (b : Bool) → R.fits_plus t.weight u.weight ≡ b → is_eq (triple_order u t) ≡ true
        → cond b (outcome R (run_additions_from R (with_weight_of R t u) rest) (tt {0})) (Err (Add t.weight u.weight)) ≡ outcome R (run_additions R all) (tt {0})
    decided b f e =
        ap (λ b. cond b (outcome R (run_additions_from R (with_weight_of R t u) rest) (tt {0})) (Err (Add t.weight u.weight))) (sym f)
        ∙ ap (λ l. outcome R l (tt {0})) (sym (same_steps t u rest e)) ∙ h.steps

    pub merging_same : is_eq (triple_order u t) ≡ true → R.fits_plus t.weight u.weight ≡ true → IsMerging R same kept n (with_weight_of R t u) rest all
    merging_same e f = record {
      whole = ap (λ l. kept ++ without_zeros R same l) (sym (same_run t u rest e)) ∙ h.whole;
      steps = decided true f e;
      count = ap (λ l. n + length l) (sym (same_run t u rest e)) ∙ h.count;
      few = h.few;
    }

    pub merging_unfit : is_eq (triple_order u t) ≡ true → R.fits_plus t.weight u.weight ≡ false → outcome R (run_additions R all) (tt {0}) ≡ Err (Add t.weight u.weight)
    merging_unfit e f = sym (decided false f e)

    pub merging_next : is_eq (triple_order u t) ≡ false → n < 4000000 → IsMerging R same (kept ++ without_zeros R same (t ∷ [])) (n + 1) u rest all
    merging_next e f = record {
      whole =
          append_assoc kept (without_zeros R same (t ∷ [])) (without_zeros R same (runs_from R u rest))
          ∙ ap (λ l. kept ++ l) (sym (one_more t (runs_from R u rest) (not (same t.weight R.zero))))
          ∙ ap (λ l. kept ++ without_zeros R same l) (sym (next_run t u rest e)) ∙ h.whole;
      steps = ap (λ l. outcome R l (tt {0})) (sym (next_steps t u rest e)) ∙ h.steps;
      count = let c : n + length (runs_from R t (u ∷ rest)) ≡ 1 + length (runs R all) = h.count in let r : length (runs_from R t (u ∷ rest)) ≡ suc (length (runs_from R u rest)) = ap (λ l. length l) (next_run t u rest e) in omega (arith, c, r);
      few = omega arith;
    }

    pub merging_full : is_eq (triple_order u t) ≡ false → 4000000 ≤ n → 4000000 < length (runs R all)
    merging_full e f =
        let c : n + length (runs_from R t (u ∷ rest)) ≡ 1 + length (runs R all) = h.count in
        let r : length (runs_from R t (u ∷ rest)) ≡ suc (length (runs_from R u rest)) = ap (λ l. length l) (next_run t u rest e) in
        let s : 1 ≤ length (runs_from R u rest) = some u rest in
        omega (arith, c, r, s)

  pub merging_end : (kept : List (Transition V)) (n : ℕ) (t : Transition V) (all : List (Transition V)) → IsMerging R same kept n t [] all
      → (kept ++ without_zeros R same (t ∷ []) ≡ without_zeros R same (runs R all)) × (outcome R (run_additions R all) (tt {0}) ≡ Ok (tt {0})) × (length (runs R all) ≤ 4000000)
  merging_end kept n t all h =
      (h.whole, sym h.steps, (let c : n + 1 ≡ 1 + length (runs R all) = h.count in let f : n ≤ 4000000 = h.few in omega (arith, c, f)))
