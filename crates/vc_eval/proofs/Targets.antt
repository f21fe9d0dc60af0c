-- What a row step does at each target: a sum of products, with its steps.
use Rattle.std.proofs.Common.{◌≡◌, ◌≢◌, ℕ, ◌<◌, ◌+◌, ◌==◌, IsTrue, List, [], ◌∷◌, ◌++◌, Bool, true, false, Option, None, Some, cond, set, length, map, refl, sym, ap, ◌∙◌, inl, inr, subst, arith}
use Rattle.std.specs.List.{flat_map}
use Rattle.std.proofs.lemmas.List.{get_or-set_same, get_or-set_other, length-set}
use Rattle.std.proofs.lemmas.Bool.{eq-eqb}
use Rattle.std.proofs.lemmas.Bool.Decides.{eqb_tells}
use Rattle.vc_model.specs.WeightSet.{WeightSet}
use Rattle.vc_model.specs.Automata.{Transition}
use Rattle.vc_model.specs.Lists.{In}
use Rattle.vc_model.specs.Sums.{sum_onto}
use Rattle.vc_model.specs.Members.{In-append_left, In-append_right, In-append_cases}
use Rattle.vc_model.specs.OutcomeLaws.{AllFit-append, AllFit-append_from}
use Rattle.vc_ring.specs.Steps.{fits, AllFit}
use Rattle.vc_ring.specs.Sums.{sum_steps}
use Rattle.vc_ring.specs.declared.faults.Overflow.{Overflow}
use Rattle.vc_ring.specs.declared.faults.Overflow.TheVariants.{Add, Mul}
use Rattle.vc_eval.specs.Forward.{products, products_steps}
use Rattle.vc_eval.specs.Moves.{entry, moved, move_steps, moved_once, once_steps}

module _ {V : Type 0} (R : WeightSet V) where
  -- the steps of one product more in front
  pub cons_fit : (a v w : V) (ps : List (V × V)) → IsTrue (fits R (Mul v w)) → IsTrue (fits R (Add a (R.times v w))) → AllFit R (products_steps R (R.plus a (R.times v w)) ps) → AllFit R (products_steps R a ((v, w) ∷ ps))
  cons_fit a v w ps m f h =
      let r = AllFit-append_from (fits R) (map (λ (p : V × V). Mul p.0 p.1) ps) (sum_steps R (R.plus a (R.times v w)) (products R ps)) h in
      (m, AllFit-append (fits R) (map (λ (p : V × V). Mul p.0 p.1) ps) (Add a (R.times v w) ∷ sum_steps R (R.plus a (R.times v w)) (products R ps)) r.0 (f, r.1))

  pub cons_Mul : (a v w : V) (ps : List (V × V)) → In (Mul v w) (products_steps R a ((v, w) ∷ ps))
  cons_Mul a v w ps = inl refl

  pub cons_Add : (a v w : V) (ps : List (V × V)) → In (Add a (R.times v w)) (products_steps R a ((v, w) ∷ ps))
  cons_Add a v w ps = inr (In-append_right (Add a (R.times v w)) (map (λ (p : V × V). Mul p.0 p.1) ps) (Add a (R.times v w) ∷ sum_steps R (R.plus a (R.times v w)) (products R ps)) (inl refl))

  pub cons_rest : (a v w : V) (ps : List (V × V)) (e : Overflow V) → In e (products_steps R (R.plus a (R.times v w)) ps) → In e (products_steps R a ((v, w) ∷ ps))
  cons_rest a v w ps e i =
      let muls = map (λ (p : V × V). Mul p.0 p.1) ps in
      let adds = sum_steps R (R.plus a (R.times v w)) (products R ps) in
      elim (In-append_cases e muls adds i) [
        | inl j ↦ inr (In-append_left e muls (Add a (R.times v w) ∷ adds) j)
        | inr j ↦ inr (In-append_right e muls (Add a (R.times v w) ∷ adds) (inr j))
      ]

-- what a transition multiplies, if anything
abbrev pub factor : {V : Type 0} → Transition V → Option V → List (V × V)
factor u None = []
factor u (Some v) = (v, u.weight) ∷ []

module _ {V : Type 0} (R : WeightSet V) (h : Transition V → Option V) (at : ℕ) where
  -- what is multiplied does not depend on the rows
  abbrev pub fixed : List V → Transition V → Option V
  fixed rows u = h u

  -- what the transitions multiply at a target
  abbrev pub factors_to : ℕ → List (Transition V) → List (V × V)
  factors_to t us = flat_map (λ u. cond (u.to == t) (factor u (h u)) []) us

  -- the rows after one product more
  abbrev added : V → Transition V → List V → List V
  added v u rows = set rows (at + u.to) (R.plus (entry R rows (at + u.to)) (R.times v u.weight))

  added_same : (v : V) (u : Transition V) (rows : List V) (t : ℕ) → at + t < length rows → u.to ≡ t → entry R (added v u rows) (at + t) ≡ R.plus (entry R rows (at + t)) (R.times v u.weight)
  added_same v u rows t l e = subst (λ k. entry R (set rows (at + k) (R.plus (entry R rows (at + k)) (R.times v u.weight))) (at + t) ≡ R.plus (entry R rows (at + t)) (R.times v u.weight)) (sym e) (get_or-set_same rows (at + t) (R.plus (entry R rows (at + t)) (R.times v u.weight)) R.zero l)

  added_other : (v : V) (u : Transition V) (rows : List V) (t : ℕ) → u.to ≢ t → entry R (added v u rows) (at + t) ≡ entry R rows (at + t)
  added_other v u rows t n = get_or-set_other rows (at + u.to) (at + t) (R.plus (entry R rows (at + u.to)) (R.times v u.weight)) R.zero (λ e. n (omega (arith, e)))

  pub moved_once-length : (o : Option V) (u : Transition V) (rows : List V) → length (moved_once R at o u rows) ≡ length rows
  moved_once-length None u rows = refl
  moved_once-length (Some v) u rows = length-set rows (at + u.to) (R.plus (entry R rows (at + u.to)) (R.times v u.weight))

  pub moved-length : (us : List (Transition V)) (rows : List V) → length (moved R fixed at us rows) ≡ length rows
  moved-length [] rows = refl
  moved-length (u ∷ us) rows = moved-length us (moved_once R at (h u) u rows) ∙ moved_once-length (h u) u rows

  longer : (u : Transition V) (rows : List V) (k : ℕ) → k < length rows → k < length (moved_once R at (h u) u rows)
  longer u rows k l = subst (λ n. k < n) (sym (moved_once-length (h u) u rows)) l

  -- each entry is the sum of the products that arrive there
  pub moved-entry : (us : List (Transition V)) (rows : List V) (t : ℕ) → at + t < length rows → entry R (moved R fixed at us rows) (at + t) ≡ sum_onto R (entry R rows (at + t)) (products R (factors_to t us))
  moved-entry [] rows t l = refl
  moved-entry (u ∷ us) rows t l = moved-entry us (moved_once R at (h u) u rows) t (longer u rows (at + t) l) ∙ go (h u)
    where
      go : (o : Option V) → sum_onto R (entry R (moved_once R at o u rows) (at + t)) (products R (factors_to t us)) ≡ sum_onto R (entry R rows (at + t)) (products R (cond (u.to == t) (factor u o) [] ++ factors_to t us))
      go (Some v) = elim (eqb_tells u.to t) [
        | inl e ↦
            ap (λ a. sum_onto R a (products R (factors_to t us))) (added_same v u rows t l e.1)
            ∙ sym (ap (λ c. sum_onto R (entry R rows (at + t)) (products R (cond c ((v, u.weight) ∷ []) [] ++ factors_to t us))) e.0)
        | inr n ↦
            ap (λ a. sum_onto R a (products R (factors_to t us))) (added_other v u rows t n.1)
            ∙ sym (ap (λ c. sum_onto R (entry R rows (at + t)) (products R (cond c ((v, u.weight) ∷ []) [] ++ factors_to t us))) n.0)
      ]
      go None = idle (u.to == t)
        where
          idle : (c : Bool) → sum_onto R (entry R rows (at + t)) (products R (factors_to t us)) ≡ sum_onto R (entry R rows (at + t)) (products R (cond c [] [] ++ factors_to t us))
          idle true = refl
          idle false = refl

  -- the entries of other rows stay
  pub moved-other : (us : List (Transition V)) (rows : List V) (k : ℕ) → ((u : Transition V) → In u us → k ≢ at + u.to) → entry R (moved R fixed at us rows) k ≡ entry R rows k
  moved-other [] rows k n = refl
  moved-other (u ∷ us) rows k n = moved-other us (moved_once R at (h u) u rows) k (λ t i. n t (inr i)) ∙ go (h u)
    where
      go : (o : Option V) → entry R (moved_once R at o u rows) k ≡ entry R rows k
      go None = refl
      go (Some v) = get_or-set_other rows (at + u.to) k (R.plus (entry R rows (at + u.to)) (R.times v u.weight)) R.zero (n u (inl refl))

  -- where all steps fit, those at a target do
  pub moved-fits : (us : List (Transition V)) (rows : List V) (t : ℕ) → at + t < length rows → AllFit R (move_steps R fixed at us rows) → AllFit R (products_steps R (entry R rows (at + t)) (factors_to t us))
  moved-fits [] rows t l k = tt
  moved-fits (u ∷ us) rows t l k =
      let r = AllFit-append_from (fits R) (once_steps R at (h u) u rows) (move_steps R fixed at us (moved_once R at (h u) u rows)) k in
      go (h u) r.0 (moved-fits us (moved_once R at (h u) u rows) t (longer u rows (at + t) l) r.1)
    where
      go : (o : Option V) → AllFit R (once_steps R at o u rows)
          → AllFit R (products_steps R (entry R (moved_once R at o u rows) (at + t)) (factors_to t us))
          → AllFit R (products_steps R (entry R rows (at + t)) (cond (u.to == t) (factor u o) [] ++ factors_to t us))
      go (Some v) f k = elim (eqb_tells u.to t) [
        | inl e ↦
            subst (λ c. AllFit R (products_steps R (entry R rows (at + t)) (cond c ((v, u.weight) ∷ []) [] ++ factors_to t us))) (sym e.0)
            (cons_fit R (entry R rows (at + t)) v u.weight (factors_to t us) f.0
            (subst (λ i. IsTrue (fits R (Add (entry R rows (at + i)) (R.times v u.weight)))) e.1 f.1.0)
            (subst (λ a. AllFit R (products_steps R a (factors_to t us))) (added_same v u rows t l e.1) k))
        | inr n ↦
            subst (λ c. AllFit R (products_steps R (entry R rows (at + t)) (cond c ((v, u.weight) ∷ []) [] ++ factors_to t us))) (sym n.0)
            (subst (λ a. AllFit R (products_steps R a (factors_to t us))) (added_other v u rows t n.1) k)
      ]
      go None f k = idle (u.to == t)
        where
          idle : (c : Bool) → AllFit R (products_steps R (entry R rows (at + t)) (cond c [] [] ++ factors_to t us))
          idle true = k
          idle false = k

  -- a step is one of the steps at some target
  abbrev pub IsAtTarget : Overflow V → List (Transition V) → List V → Type 0
  IsAtTarget e us rows = (t : ℕ) × (at + t < length rows) × In e (products_steps R (entry R rows (at + t)) (factors_to t us)) × (u : Transition V) × In u us × (u.to ≡ t)

  -- with a transition in front that multiplies o
  abbrev IsAtOne : Overflow V → Option V → Transition V → List (Transition V) → List V → Type 0
  IsAtOne e o u us rows = (t : ℕ) × (at + t < length rows) × In e (products_steps R (entry R rows (at + t)) (cond (u.to == t) (factor u o) [] ++ factors_to t us)) × (s : Transition V) × In s (u ∷ us) × (s.to ≡ t)

  pub moved-In : (us : List (Transition V)) (rows : List V) (e : Overflow V) → ((u : Transition V) → In u us → at + u.to < length rows) → In e (move_steps R fixed at us rows) → IsAtTarget e us rows
  moved-In [] rows e w i = absurd i
  moved-In (u ∷ us) rows e w i = elim (In-append_cases e (once_steps R at (h u) u rows) (move_steps R fixed at us (moved_once R at (h u) u rows)) i) [
    | inl j ↦ first (h u) j
    | inr j ↦ later (h u) (moved-In us (moved_once R at (h u) u rows) e (λ t k. longer u rows (at + t.to) (w t (inr k))) j)
  ]
    where
      own : (v : V) → In e (products_steps R (entry R rows (at + u.to)) ((v, u.weight) ∷ factors_to u.to us)) → IsAtOne e (Some v) u us rows
      own v j = (u.to, w u (inl refl), subst (λ c. In e (products_steps R (entry R rows (at + u.to)) (cond c ((v, u.weight) ∷ []) [] ++ factors_to u.to us))) (sym (eq-eqb u.to u.to refl)) j, u, inl refl, refl)

      first : (o : Option V) → In e (once_steps R at o u rows) → IsAtOne e o u us rows
      first (Some v) (inl q) = own v (subst (λ s. In s (products_steps R (entry R rows (at + u.to)) ((v, u.weight) ∷ factors_to u.to us))) (sym q) (cons_Mul R (entry R rows (at + u.to)) v u.weight (factors_to u.to us)))
      first (Some v) (inr (inl q)) = own v (subst (λ s. In s (products_steps R (entry R rows (at + u.to)) ((v, u.weight) ∷ factors_to u.to us))) (sym q) (cons_Add R (entry R rows (at + u.to)) v u.weight (factors_to u.to us)))
      first (Some v) (inr (inr j)) = absurd j
      first None j = absurd j

      later : (o : Option V) → (t : ℕ) × (at + t < length (moved_once R at o u rows)) × In e (products_steps R (entry R (moved_once R at o u rows) (at + t)) (factors_to t us)) × (s : Transition V) × In s us × (s.to ≡ t) → IsAtOne e o u us rows
      later (Some v) (t, l, j, s, i, q) =
          let k : at + t < length rows = subst (λ n. at + t < n) (length-set rows (at + u.to) (R.plus (entry R rows (at + u.to)) (R.times v u.weight))) l in (
            t,
            k,
            elim (eqb_tells u.to t) [
              | inl q ↦
                  subst (λ c. In e (products_steps R (entry R rows (at + t)) (cond c ((v, u.weight) ∷ []) [] ++ factors_to t us))) (sym q.0)
                  (cons_rest R (entry R rows (at + t)) v u.weight (factors_to t us) e (subst (λ a. In e (products_steps R a (factors_to t us))) (added_same v u rows t k q.1) j))
              | inr n ↦
                  subst (λ c. In e (products_steps R (entry R rows (at + t)) (cond c ((v, u.weight) ∷ []) [] ++ factors_to t us))) (sym n.0)
                  (subst (λ a. In e (products_steps R a (factors_to t us))) (added_other v u rows t n.1) j)
            ],
            s,
            inr i,
            q,
          )
      later None (t, l, j, s, i, q) = (t, l, idle (u.to == t), s, inr i, q)
        where
          idle : (c : Bool) → In e (products_steps R (entry R rows (at + t)) (cond c [] [] ++ factors_to t us))
          idle true = j
          idle false = j
