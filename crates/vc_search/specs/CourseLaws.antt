-- What courses come to, and how a loop over members or items goes on or stops.
use Rattle.std.proofs.Common.{◌≡◌, ◌<◌, ◌≤◌, ◌+◌, ℕ, List, [], ◌∷◌, ◌++◌, Bool, refl, sym, ap, ◌∙◌, arith, length, length-append, inl, inr}
use Rattle.vc_model.specs.Items.{Item}
use Rattle.vc_model.specs.Numbering.{with_new}
use Rattle.vc_ring.specs.declared.faults.MakeFault.{MakeFault}
use Rattle.vc_ring.specs.declared.faults.MakeFault.TheVariants.{Overflow as Unfit, Limit as PastLimit, Memory}
use Rattle.vc_ring.specs.declared.faults.Measure.TheVariants.{States}
use Rattle.vc_ring.specs.declared.faults.Overflow.{Overflow}
use Rattle.vc_search.specs.Courses.{Course, IsStopped, NoStep, begun, begun_all, led, led_all, step_of, targets}
use Rattle.vc_search.specs.FoundLaws.{with_key-alone, with_key-new, with_new-append, with_new-behind}

-- how many members there are does not fall
no_fewer : {K : Type 0} (same : K → K → Bool) (ks more : List K) → length ks ≤ length (with_new same ks more)
no_fewer same ks more = let l = with_new-behind same ks more in omega (arith, ap length l.is, length-append ks l.more)

module _ {V K : Type 0} (same : K → K → Bool) where
  -- what a course is once it was led on by items
  pub record IsLed (c d : Course V K) (es : List (Item V K)) : Type 0 where
    pub most : d.most ≡ c.most
    pub sets : d.sets ≡ c.sets
    pub members : d.members ≡ with_new same c.members (targets es)
    pub length : length d.transitions ≡ length c.transitions + length es

  pub led_all-is : (from : ℕ) (c : Course V K) (es : List (Item V K)) → IsLed c (led_all same from c es) es
  led_all-is from c [] = record { most = refl; sets = refl; members = refl; length = omega arith }
  led_all-is from c (e ∷ es) =
      let i = led_all-is from (led same from c e) es in
      record {
        most = i.most;
        sets = i.sets;
        members = i.members ∙ sym (with_key-new same c.members e.to (targets es));
        length = omega (arith, i.length, length-append c.transitions (step_of same c.members from e ∷ []));
      }

  pub led_all-append : (from : ℕ) (c : Course V K) (es more : List (Item V K)) → led_all same from c (es ++ more) ≡ led_all same from (led_all same from c es) more
  led_all-append from c [] more = refl
  led_all-append from c (e ∷ es) more = led_all-append from (led same from c e) es more

  -- members that are begun with, and more of them
  pub begun_all-append : (c : Course V K) (ks more : List K) → begun_all same c (ks ++ more) ≡ begun_all same (begun_all same c ks) more
  begun_all-append c ks more = ap (λ ms. record c { members = ms }) (with_new-append same c.members ks more)

  pub begun-alone : (c : Course V K) (k : K) → begun same c k ≡ begun_all same c (k ∷ [])
  begun-alone c k = ap (λ ms. record c { members = ms }) (with_key-alone same c.members k)

  -- a stop on the way is one of the whole
  module _ (P Q : Overflow V → Type 0) (weaken : (o : Overflow V) → P o → Q o) where
    stopped : (c d : Course V K) (ks all : List K) (n m : ℕ) → c.most ≡ d.most → length (with_new same c.members ks) ≤ length (with_new same d.members all) → length c.transitions + n ≤ length d.transitions + m
        → (f : MakeFault V) → IsStopped same P c ks n f → IsStopped same Q d all m f
    stopped c d ks all n m a b t (Unfit o) h = weaken o h
    stopped c d ks all n m a b t (PastLimit l) h = elim h [
      | inl s ↦ let x = s.1 in inl (s.0 ∙ ap (λ k. record { what = States; most = k }) a, omega (arith, a, b, x))
      | inr s ↦ let x = s.1 in inr (s.0, omega (arith, t, x))
    ]
    stopped c d ks all n m a b t (Memory e) h = tt

    -- where members are begun with
    pub begin_stops : (c d : Course V K) (ks rest all : List K) → begun_all same (begun_all same c ks) rest ≡ begun_all same d all → (f : MakeFault V) → IsStopped same P c ks 0 f → IsStopped same Q d all 0 f
    begin_stops c d ks rest all e f h =
        let a : c.most ≡ d.most = ap (λ (z : Course V K). z.most) e in
        let ms = ap (λ (z : Course V K). length z.members) e in
        let ts = ap (λ (z : Course V K). length z.transitions) e in
        let n = no_fewer same (with_new same c.members ks) rest in
        stopped c d ks all 0 0 a (omega (arith, ms, n)) (omega (arith, ts)) f h

    -- where a member leads on by items
    pub lead_stops : (from : ℕ) (c d : Course V K) (es rest all : List (Item V K)) → led_all same from (led_all same from c es) rest ≡ led_all same from d all
        → (f : MakeFault V) → IsStopped same P c (targets es) (length es) f → IsStopped same Q d (targets all) (length all) f
    lead_stops from c d es rest all e f h =
        let c' : Course V K = led_all same from c es in
        let i = led_all-is from c es in
        let j = led_all-is from c' rest in
        let k = led_all-is from d all in
        let a : c.most ≡ d.most = sym i.most ∙ sym j.most ∙ ap (λ (z : Course V K). z.most) e ∙ k.most in
        let ms = ap (λ (z : Course V K). length z.members) e in
        let ts = ap (λ (z : Course V K). length z.transitions) e in
        let n = no_fewer same c'.members (targets rest) in
        stopped c d (targets es) (targets all) (length es) (length all) a
        (omega (arith, ms, n, ap length i.members, ap length j.members, ap length k.members))
        (omega (arith, ts, i.length, j.length, k.length)) f h

  -- a member that has no room, and a transition that has none
  pub find_stops : (c : Course V K) (k : K) (f : MakeFault V) → IsStopped same NoStep c (k ∷ []) 0 f → IsStopped same NoStep c (k ∷ []) 1 f
  find_stops c k f h = stopped NoStep NoStep (λ o a. a) c c (k ∷ []) (k ∷ []) 0 1 refl (omega arith) (omega arith) f h

  pub add_stops : (c : Course V K) (k : K) (f : MakeFault V) → IsStopped same NoStep (begun same c k) [] 1 f → IsStopped same NoStep c (k ∷ []) 1 f
  add_stops c k f h = stopped NoStep NoStep (λ o a. a) (begun same c k) c [] (k ∷ []) 1 1 refl (let e = ap length (with_key-alone same c.members k) in omega (arith, e)) (omega arith) f h

  -- a course that is led on has the sets and the number of the state that it is led on from
  pub led_keeps : (from : ℕ) (c d : Course V K) (es : List (Item V K)) → d ≡ led_all same from c es → from < length c.members → (d.sets ≡ c.sets) × (from < length d.members)
  led_keeps from c d es e h =
      let i = led_all-is from c es in
      let n = no_fewer same c.members (targets es) in
      let m = ap (λ (z : Course V K). length z.members) e in
      (ap (λ (z : Course V K). z.sets) e ∙ i.sets, omega (arith, h, n, m, ap length i.members))
