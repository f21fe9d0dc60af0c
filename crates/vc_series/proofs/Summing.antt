-- What a sum comes to whose members have steps of their own.
use Rattle.std.proofs.Common.{◌≡◌, List, [], ◌∷◌, ◌++◌, Bool, true, false, cond, IsTrue, Result, Ok, Err, refl, sym, ap, ap₂, ◌∙◌, subst}
use Rattle.vc_model.specs.WeightSet.{WeightSet, SemiringLaws, RangeLaws}
use Rattle.vc_model.specs.Sums.{sum_over}
use Rattle.vc_model.specs.OutcomeLaws.{outcome-append_ok, outcome-append_err, outcome-ok}
use Rattle.vc_model.specs.Rearranged.{zero_plus}
use Rattle.vc_model.specs.Words.{Word}
use Rattle.vc_model.specs.Series.{Series}
use Rattle.vc_ring.specs.Steps.{outcome, fits, added, multiplied}
use Rattle.vc_ring.specs.declared.faults.Overflow.{Overflow}
use Rattle.vc_ring.specs.declared.faults.Overflow.TheVariants.{Add, Mul}
use Rattle.vc_series.specs.Steps.{StepsAt, adding_steps, factor_steps}
use Rattle.vc_series.specs.Answers.{IsSlowAnswer, product_onto}
use Rattle.vc_series.specs.declared.fault.SlowFault.{SlowFault}
use Rattle.vc_series.specs.declared.fault.SlowFault.TheVariants.{Overflow as Unfit, Memory}

module _ {V : Type 0} (R : WeightSet V) where
  -- where the first part has a value, the rest decides
  pub after_value : (ss ts : List (Overflow V)) (x a z : V) → outcome R ss x ≡ Ok a → outcome R (ss ++ ts) z ≡ outcome R ts z
  after_value ss ts x a z h =
      let v : x ≡ a = outcome-ok (fits R) ss x a h in
      outcome-append_ok (fits R) ss ts x z (h ∙ ap Ok (sym v))

  pub value_is : (ss : List (Overflow V)) (x a : V) → outcome R ss x ≡ Ok a → x ≡ a
  value_is ss x a h = outcome-ok (fits R) ss x a h

  -- where the first part is refused, all is
  pub refused : (ss ts : List (Overflow V)) (x z : V) (fault : SlowFault V) → IsSlowAnswer (outcome R ss x) (Err fault) → IsSlowAnswer (outcome R (ss ++ ts) z) (Err fault)
  refused ss ts x z (Unfit o) h = outcome-append_err (fits R) ss ts x z o h
  refused ss ts x z (Memory e) h = tt

  -- a second part that is refused behind a first one
  pub refused_second : (ss ts us : List (Overflow V)) (x a y z : V) (fault : SlowFault V) → outcome R ss x ≡ Ok a → IsSlowAnswer (outcome R ts y) (Err fault) → IsSlowAnswer (outcome R (ss ++ (ts ++ us)) z) (Err fault)
  refused_second ss ts us x a y z (Unfit o) h k = after_value ss (ts ++ us) x a z h ∙ outcome-append_err (fits R) ts us y z o k
  refused_second ss ts us x a y z (Memory e) h k = tt

  -- the product of two values
  pub multiplied_values : (ss ts : List (Overflow V)) (x y a b : V) → outcome R ss x ≡ Ok a → outcome R ts y ≡ Ok b → outcome R (ss ++ (ts ++ Mul x y ∷ [])) (R.times x y) ≡ multiplied R a b
  multiplied_values ss ts x y a b h k =
      after_value ss (ts ++ Mul x y ∷ []) x a (R.times x y) h ∙ after_value ts (Mul x y ∷ []) y b (R.times x y) k
      ∙ ap (λ v. multiplied R v y) (value_is ss x a h) ∙ ap (multiplied R a) (value_is ts y b k)

  -- a left multiple of a value
  pub multiplied_value : (ss : List (Overflow V)) (k x a : V) → outcome R ss x ≡ Ok a → outcome R (ss ++ Mul k x ∷ []) (R.times k x) ≡ multiplied R k a
  multiplied_value ss k x a h = after_value ss (Mul k x ∷ []) x a (R.times k x) h ∙ ap (multiplied R k) (value_is ss x a h)

  -- what the rest of a sum, onto a total, makes is the answer, and the sum is z
  pub record IsLeft {X : Type 0} (own : X → List (Overflow V)) (f : X → V) (z : V) (answer : Result V (Overflow V)) (total : V) (rest : List X) : Type 0 where
    pub going : outcome R (adding_steps R own f total rest) z ≡ answer
    pub value : R.plus total (sum_over R f rest) ≡ z

  module _ {X : Type 0} (own : X → List (Overflow V)) (f : X → V) (z : V) (answer : Result V (Overflow V)) where
    sum_ok : (a b : V) (t : V) (c : Bool) (r : Result V (Overflow V)) → ◌≡◌ {A = Result V (Overflow V)} (Ok t) (cond c (Ok (R.plus a b)) (Err (Add a b))) → (t ≡ R.plus a b) × (cond c r (Err (Add a b)) ≡ r)
    sum_ok a b t true r e = (cc, refl)
    sum_ok a b t false r e = absurd (cc)

    sum_err : (a b : V) (o : Overflow V) (c : Bool) (r : Result V (Overflow V)) → ◌≡◌ {A = Result V (Overflow V)} (Err o) (cond c (Ok (R.plus a b)) (Err (Add a b))) → cond c r (Err (Add a b)) ≡ Err o
    sum_err a b o true r e = absurd (cc)
    sum_err a b o false r e = sym e

    -- a member is added
    pub left_added : SemiringLaws R → (total v t : V) (x : X) (rest : List X) → IsLeft own f z answer total (x ∷ rest) → outcome R (own x) (f x) ≡ Ok v → Ok t ≡ added R total v → IsLeft own f z answer t rest
    left_added L total v t x rest l h e =
        let q : f x ≡ v = value_is (own x) (f x) v h in
        let s = sum_ok total v t (R.fits_plus total v) (outcome R (adding_steps R own f (R.plus total v) rest) z) e in
        let g : outcome R (Add total v ∷ adding_steps R own f (R.plus total v) rest) z ≡ answer =
        ap (λ y. outcome R (Add total y ∷ adding_steps R own f (R.plus total y) rest) z) (sym q)
        ∙ sym (after_value (own x) (Add total (f x) ∷ adding_steps R own f (R.plus total (f x)) rest) (f x) v z h) ∙ l.going in
        record {
          going = ap (λ y. outcome R (adding_steps R own f y rest) z) s.0 ∙ sym s.1 ∙ g;
          value = ap (λ y. R.plus y (sum_over R f rest)) s.0 ∙ ap (λ y. R.plus (R.plus total y) (sum_over R f rest)) (sym q) ∙ L.plus_assoc total (f x) (sum_over R f rest) ∙ l.value;
        }

    -- the addition does not fit
    pub left_unfit : (total v : V) (o : Overflow V) (x : X) (rest : List X) → IsLeft own f z answer total (x ∷ rest) → outcome R (own x) (f x) ≡ Ok v → Err o ≡ added R total v → answer ≡ Err o
    left_unfit total v o x rest l h e =
        let q : f x ≡ v = value_is (own x) (f x) v h in
        sym l.going ∙ after_value (own x) (Add total (f x) ∷ adding_steps R own f (R.plus total (f x)) rest) (f x) v z h
        ∙ ap (λ y. outcome R (Add total y ∷ adding_steps R own f (R.plus total y) rest) z) q
        ∙ sum_err total v o (R.fits_plus total v) (outcome R (adding_steps R own f (R.plus total v) rest) z) e

    -- a member is refused
    pub left_refused : (total : V) (x : X) (rest : List X) (fault : SlowFault V) → IsLeft own f z answer total (x ∷ rest) → IsSlowAnswer (outcome R (own x) (f x)) (Err fault) → IsSlowAnswer answer (Err fault)
    left_refused total x rest (Unfit o) l h = sym l.going ∙ refused (own x) (Add total (f x) ∷ adding_steps R own f (R.plus total (f x)) rest) (f x) z (Unfit o) h
    left_refused total x rest (Memory e) l h = tt

    -- a member that is zero without a step
    pub left_skipped : SemiringLaws R → RangeLaws R → (total : V) (x : X) (rest : List X) → IsTrue (R.in_range total) → own x ≡ [] → f x ≡ R.zero → IsLeft own f z answer total (x ∷ rest) → IsLeft own f z answer total rest
    left_skipped L G total x rest i o e l =
        let p : R.plus total (f x) ≡ total = ap (R.plus total) e ∙ L.plus_zero total in
        let t : R.fits_plus total (f x) ≡ true = ap (R.fits_plus total) e ∙ G.plus_zero_fits total i in
        record {
          going = ap (λ y. outcome R (adding_steps R own f y rest) z) (sym p)
              ∙ sym (ap (λ b. cond b (outcome R (adding_steps R own f (R.plus total (f x)) rest) z) (Err (Add total (f x)))) t)
              ∙ sym (ap (λ ss. outcome R (ss ++ (Add total (f x) ∷ adding_steps R own f (R.plus total (f x)) rest)) z) o) ∙ l.going;
          value = ap (λ y. R.plus y (sum_over R f rest)) (sym p) ∙ L.plus_assoc total (f x) (sum_over R f rest) ∙ l.value;
        }

    -- nothing is left
    pub left_done : SemiringLaws R → (total : V) → IsLeft own f z answer total [] → answer ≡ Ok total
    left_done L total l = sym l.going ∙ ap Ok (sym l.value ∙ L.plus_zero total)

  -- all is left
  pub all_left : {X : Type 0} (own : X → List (Overflow V)) (f : X → V) → SemiringLaws R → (xs : List X) → IsLeft own f (sum_over R f xs) (outcome R (adding_steps R own f R.zero xs) (sum_over R f xs)) R.zero xs
  all_left own f L xs = record { going = refl; value = zero_plus L (sum_over R f xs) }

  -- products over pairs of words
  module _ (f : Series V) (fs : StepsAt V) (g : Series V) (gs : StepsAt V) (own : Word × Word → List (Overflow V)) (f' : Word × Word → V) (z : V) (answer : Result V (Overflow V)) where
    -- the steps and the value at a pair are those of a product
    abbrev IsProductAt : Word × Word → Type 0
    IsProductAt c = (own c ≡ factor_steps f fs g gs c) × (f' c ≡ R.times (f c.0) (g c.1))

    product_ok : (total a b t : V) (c : Bool) → ◌≡◌ {A = Result V (Overflow V)} (Ok t) (cond c (added R total (R.times a b)) (Err (Mul a b)))
        → (◌≡◌ {A = Result V (Overflow V)} (cond c (Ok (R.times a b)) (Err (Mul a b))) (Ok (R.times a b))) × (Ok t ≡ added R total (R.times a b))
    product_ok total a b t true e = (refl, e)
    product_ok total a b t false e = absurd (cc)

    pub pair_added : SemiringLaws R → (total a b t : V) (c : Word × Word) (rest : List (Word × Word)) → IsProductAt c → IsLeft own f' z answer total (c ∷ rest)
        → outcome R (fs c.0) (f c.0) ≡ Ok a → outcome R (gs c.1) (g c.1) ≡ Ok b → Ok t ≡ product_onto R total a b → IsLeft own f' z answer t rest
    pair_added L total a b t c rest q l h k e =
        let p = product_ok total a b t (R.fits_times a b) e in
        left_added own f' z answer L total (R.times a b) t c rest l (ap₂ (outcome R) q.0 q.1 ∙ multiplied_values (fs c.0) (gs c.1) (f c.0) (g c.1) a b h k ∙ p.0) p.1

    pub pair_unfit : (total a b : V) (o : Overflow V) (c : Word × Word) (rest : List (Word × Word)) → IsProductAt c → IsLeft own f' z answer total (c ∷ rest)
        → outcome R (fs c.0) (f c.0) ≡ Ok a → outcome R (gs c.1) (g c.1) ≡ Ok b → Err o ≡ product_onto R total a b → answer ≡ Err o
    pair_unfit total a b o c rest q l h k e = go (R.fits_times a b) (ap₂ (outcome R) q.0 q.1 ∙ multiplied_values (fs c.0) (gs c.1) (f c.0) (g c.1) a b h k) e
      where
        go : (d : Bool) → outcome R (own c) (f' c) ≡ cond d (Ok (R.times a b)) (Err (Mul a b)) → ◌≡◌ {A = Result V (Overflow V)} (Err o) (cond d (added R total (R.times a b)) (Err (Mul a b))) → answer ≡ Err o
        go true m r = left_unfit own f' z answer total (R.times a b) o c rest l m r
        go false m r = left_refused own f' z answer total c rest (Unfit o) l (m ∙ sym r)

    pub pair_first : (total : V) (c : Word × Word) (rest : List (Word × Word)) (fault : SlowFault V) → IsProductAt c → IsLeft own f' z answer total (c ∷ rest)
        → IsSlowAnswer (outcome R (fs c.0) (f c.0)) (Err fault) → IsSlowAnswer answer (Err fault)
    pair_first total c rest fault q l h =
        left_refused own f' z answer total c rest fault l
        (subst (λ r. IsSlowAnswer r (Err fault)) (sym (ap₂ (outcome R) q.0 q.1)) (refused (fs c.0) (gs c.1 ++ Mul (f c.0) (g c.1) ∷ []) (f c.0) (R.times (f c.0) (g c.1)) fault h))

    pub pair_second : (total a : V) (c : Word × Word) (rest : List (Word × Word)) (fault : SlowFault V) → IsProductAt c → IsLeft own f' z answer total (c ∷ rest)
        → outcome R (fs c.0) (f c.0) ≡ Ok a → IsSlowAnswer (outcome R (gs c.1) (g c.1)) (Err fault) → IsSlowAnswer answer (Err fault)
    pair_second total a c rest fault q l h k =
        left_refused own f' z answer total c rest fault l
        (subst (λ r. IsSlowAnswer r (Err fault)) (sym (ap₂ (outcome R) q.0 q.1)) (refused_second (fs c.0) (gs c.1) (Mul (f c.0) (g c.1) ∷ []) (f c.0) a (g c.1) (R.times (f c.0) (g c.1)) fault h k))
