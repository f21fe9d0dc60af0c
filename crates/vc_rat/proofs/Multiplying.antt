-- Multiplying a row entry by entry.
use Rattle.std.proofs.Common.{◌≡◌, ℕ, suc, ◌+◌, ◌<◌, List, [], ◌∷◌, ◌++◌, take, drop, set, get_or, length, Bool, true, false, IsTrue, cond, Result, Ok, Err, OnErr, refl, sym, ap, ◌∙◌, subst, arith, add-one}
use Rattle.std.proofs.Math.Nat.{add-zero}
use Rattle.std.proofs.Math.Seq.{drop-cons}
use Rattle.std.proofs.lemmas.Grind.{drop_more_same}
use Rattle.std.proofs.lemmas.List.{get_or-drop, take_more, take_more_set, take-map, drop-set-lt, map-append, set-get_or}
use Rattle.vc_model.specs.WeightSet.{InRange}
use Rattle.vc_ring.specs.Splits.{IsSplitInFront}
use Rattle.vc_ring.specs.Steps.{AllFit, outcome, multiplied}
use Rattle.vc_ring.specs.declared.faults.Overflow.{Overflow}
use Rattle.vc_ring.specs.declared.faults.Overflow.TheVariants.{Mul}
use Rattle.vc_rat.specs.Rationals.{times, holds, rationals}
use Rattle.vc_rat.specs.Rows.{row_times}
use Rattle.vc_rat.specs.Splits.{product_steps}
use Rattle.vc_rat.specs.declared.fraction.Fraction.{Fraction}

-- where the rests agree, so does the entry
entry-kept : (xs ys : List Fraction) (i : ℕ) (d : Fraction) → drop i xs ≡ drop i ys → get_or xs i d ≡ get_or ys i d
entry-kept xs ys i d e =
    let at : (zs : List Fraction) → get_or (drop i zs) 0 d ≡ get_or zs i d = λ zs. get_or-drop i zs 0 d ∙ ap (λ k. get_or zs k d) (add-zero i) in
    sym (at xs) ∙ ap (λ r. get_or r 0 d) e ∙ at ys

pub entry-in : (xs ys : List Fraction) (i : ℕ) (d : Fraction) → i < length ys → drop i xs ≡ drop i ys → InRange rationals ys → IsTrue (holds (get_or xs i d))
entry-in xs ys i d h e p = subst (λ x. IsTrue (holds x)) (sym (entry-kept xs ys i d e)) (p i d h)

product-ok : (b : Bool) (v w : Fraction) (e : Overflow Fraction) → ◌≡◌ {A = Result Fraction (Overflow Fraction)} (cond b (Ok v) (Err e)) (Ok w) → (b ≡ true) × (w ≡ v)
product-ok true v w e h = (refl, cc)
product-ok false v w e h = absurd (cc)

product-err : (b : Bool) (v : Fraction) (e f : Overflow Fraction) → ◌≡◌ {A = Result Fraction (Overflow Fraction)} (cond b (Ok v) (Err e)) (Err f) → b ≡ true → ⊥
product-err true v e f h t = absurd (cc)
product-err false v e f h t = absurd (cc)

fits-more : (by : Fraction) (xs : List Fraction) (y : Fraction) → AllFit rationals (product_steps by xs) → holds (times y by) ≡ true → AllFit rationals (product_steps by (xs ++ (y ∷ [])))
fits-more by [] y p h = (h, tt)
fits-more by (x ∷ xs) y p h = (p.0, fits-more by xs y p.1 h)

fits-last : (by : Fraction) (xs : List Fraction) (y : Fraction) → AllFit rationals (product_steps by (xs ++ (y ∷ []))) → holds (times y by) ≡ true
fits-last by [] y p = p.0
fits-last by (x ∷ xs) y p = fits-last by xs y p.1

-- the row in front of the place is multiplied, and the others are as before
pub record IsAt (by : Fraction) (old new : List Fraction) (i : ℕ) : Type 0 where
  pub front : take i new ≡ row_times rationals by (take i old)
  pub rest : drop i new ≡ drop i old
  pub fit : AllFit rationals (product_steps by (take i old))
  pub steps : outcome rationals (product_steps by (drop i old)) (tt {0}) ≡ outcome rationals (product_steps by old) (tt {0})

pub at-start : (by : Fraction) (entries : List Fraction) → IsAt by entries entries 0
at-start by entries = record { front = refl; rest = refl; fit = tt; steps = refl }

steps-more : (by : Fraction) (old : List Fraction) (i : ℕ) (d : Fraction) → i < length old → holds (times (get_or old i d) by) ≡ true → outcome rationals (product_steps by (drop (i + 1) old)) (tt {0}) ≡ outcome rationals (product_steps by (drop i old)) (tt {0})
steps-more by old i d h f =
    let later = outcome rationals (product_steps by (drop (suc i) old)) (tt {0}) in
    let first : outcome rationals (product_steps by (get_or old i d ∷ drop (suc i) old)) (tt {0}) ≡ later = ap (λ b. cond b later (Err (Mul (get_or old i d) by))) f in
    ap (λ k. outcome rationals (product_steps by (drop k old)) (tt {0})) (add-one i) ∙ sym first ∙ ap (λ l. outcome rationals (product_steps by l) (tt {0})) (sym (drop-cons old i d h))

pub at-more : (by : Fraction) (old new : List Fraction) (i : ℕ) (d v : Fraction) (r : Result Fraction (Overflow Fraction)) → IsAt by old new i → i < length old → i < length new → r ≡ multiplied rationals (get_or new i d) by → r ≡ Ok v → IsAt by old (set new i v) (i + 1)
at-more by old new i d v r at h k e o =
    let same = entry-kept new old i d at.rest in
    let came = product-ok (holds (times (get_or new i d) by)) (times (get_or new i d) by) v (Mul (get_or new i d) by) (sym e ∙ o) in
    let fits : holds (times (get_or old i d) by) ≡ true = subst (λ x. holds (times x by) ≡ true) same came.0 in
    let value : v ≡ times (get_or old i d) by = came.1 ∙ ap (λ x. times x by) same in
    let last = times (get_or old i d) by in
    record {
      front = take_more_set new i v k ∙ ap (λ l. l ++ (v ∷ [])) at.front ∙ ap (λ y. row_times rationals by (take i old) ++ (y ∷ [])) value ∙ sym (ap (row_times rationals by) (take_more old i d h) ∙ map-append (λ x. times x by) (take i old) (get_or old i d ∷ []));
      rest = drop-set-lt (i + 1) new i v (omega arith) ∙ drop_more_same new old i at.rest;
      fit = subst (λ l. AllFit rationals (product_steps by l)) (sym (take_more old i d h)) (fits-more by (take i old) (get_or old i d) at.fit fits);
      steps = steps-more by old i d h fits ∙ at.steps;
    }

pub at-failure : (by : Fraction) (old new : List Fraction) (i : ℕ) (d : Fraction) (r : Result Fraction (Overflow Fraction)) (e : Overflow Fraction) → IsAt by old new i → i < length old → r ≡ multiplied rationals (get_or new i d) by → r ≡ Err e
    → IsSplitInFront rationals (product_steps by old) (row_times rationals by old) old (set new i (get_or new i d))
at-failure by old new i d r e at h came failed =
    let same : set new i (get_or new i d) ≡ new = set-get_or new i d in
    let kept = entry-kept new old i d at.rest in
    record {
      place = i;
      inside = h;
      fit = subst (AllFit rationals) (sym (take-map (λ x. Mul x by) i old)) at.fit;
      unfit = λ p. product-err (holds (times (get_or new i d) by)) (times (get_or new i d) by) (Mul (get_or new i d) by) e (sym came ∙ failed)
          (subst (λ x. holds (times x by) ≡ true) (sym kept) (fits-last by (take i old) (get_or old i d)
          (subst (λ l. AllFit rationals (product_steps by l)) (take_more old i d h) (subst (AllFit rationals) (take-map (λ x. Mul x by) (i + 1) old) p))));
      front = ap (take i) same ∙ at.front ∙ sym (take-map (λ x. times x by) i old);
      rest = ap (drop i) same ∙ at.rest;
    }

pub failed : {P : Type 0} (r : Result (Unit {0}) (Overflow Fraction)) → P → OnErr r P
failed (Ok u) h = tt
failed (Err e) h = h
