-- Sums that are added up at states, and the rows that they make.
use Rattle.std.proofs.Common.{◌≡◌, ◌≢◌, ℕ, ◌<◌, ◌≤◌, ◌+◌, IsTrue, List, [], ◌∷◌, ◌++◌, Bool, true, false, not, cond, eqb, All, length, map, replicate, set, take, get_or, refl, sym, ap, ap₂, ◌∙◌, inl, inr, subst, zero, suc, arith, Ok, Err}
use Rattle.std.specs.Prelude.{◌↔◌}
use Rattle.std.specs.Global.{Vec}
use Rattle.std.proofs.lemmas.Bool.{eqb-true, eq-eqb, false≢true}
use Rattle.std.proofs.lemmas.List.{get_or-set_other, get_or-set_same, length-set, map-append}
use Rattle.std.specs.List.Sorted.{IsNonDecreasing, IsPermutation}
use Rattle.std.proofs.lemmas.List.Sorted.{All-permutation, IsPermutation-sym}
use Rattle.std.proofs.lemmas.List.Elements.{All-cons, All-head, All-nil, All-tail}
use Rattle.vc_model.specs.Automata.{Transition}
use Rattle.vc_model.specs.Choices.{times-cond}
use Rattle.vc_model.specs.Lists.{In, IsIncreasing}
use Rattle.vc_model.specs.Members.{In-append_cases, In-append_left, In-append_right, In-map_from}
use Rattle.vc_model.specs.Rearranged.{zero_plus}
use Rattle.vc_model.specs.SumLaws.{sum-append}
use Rattle.vc_model.specs.Sums.{sum_over}
use Rattle.vc_model.specs.WeightSet.{WeightSet, SemiringLaws, RangeLaws, InRange}
use Rattle.vc_model.specs.Words.{is_empty}
use Rattle.vc_ring.specs.Steps.{added, fits, multiplied}
use Rattle.vc_ring.specs.declared.faults.Overflow.{Overflow}
use Rattle.vc_ring.specs.declared.faults.Overflow.TheVariants.{Add, Mul}
use Rattle.vc_closure.specs.Rows.{AreClear, AreSums, IsRow, entries_at, moves_part, row_at, sum_at}
use Rattle.vc_closure.specs.declared.rows.Entry.{Entry}

pub all_set : {X : Type 0} (P : X → Type 0) (xs : List X) (i : ℕ) (x : X) → All P xs → P x → All P (set xs i x)
all_set P [] i x h p = All-nil P
all_set P (y ∷ ys) zero x h p = All-cons P x ys p (All-tail P y ys h)
all_set P (y ∷ ys) (suc i) x h p = All-cons P y (set ys i x) (All-head P y ys h) (all_set P ys i x (All-tail P y ys h) p)

pub all_read : {X : Type 0} (P : X → Type 0) (xs : List X) (i : ℕ) (d : X) → All P xs → P d → P (get_or xs i d)
all_read P [] i d h p = p
all_read P (y ∷ ys) zero d h p = All-head P y ys h
all_read P (y ∷ ys) (suc i) d h p = all_read P ys i d (All-tail P y ys h) p

-- the row at a place that is read
pub entries_at-read : {S V : Type 0} (vs : List (Vec (Entry S V))) (p : ℕ) (d : Vec (Entry S V)) → p < length vs → (get_or vs p d).items ≡ entries_at vs p
entries_at-read [] p d l = absurd (omega arith)
entries_at-read (v ∷ vs) zero d l = refl
entries_at-read (v ∷ vs) (suc p) d l = entries_at-read vs p d (omega arith)

pub entries_at-push : {S V : Type 0} (vs : List (Vec (Entry S V))) (v : Vec (Entry S V)) → v.items ≡ [] → ((p : ℕ) → entries_at vs p ≡ []) → (p : ℕ) → entries_at (vs ++ v ∷ []) p ≡ []
entries_at-push [] v e h zero = e
entries_at-push [] v e h (suc p) = refl
entries_at-push (w ∷ ws) v e h zero = h 0
entries_at-push (w ∷ ws) v e h (suc p) = entries_at-push ws v e (λ q. h (suc q)) p

pub entries_at-same : {S V : Type 0} (vs : List (Vec (Entry S V))) (i : ℕ) (v : Vec (Entry S V)) → i < length vs → entries_at (set vs i v) i ≡ v.items
entries_at-same [] i v l = absurd (omega arith)
entries_at-same (w ∷ ws) zero v l = refl
entries_at-same (w ∷ ws) (suc i) v l = entries_at-same ws i v (omega arith)

pub entries_at-other : {S V : Type 0} (vs : List (Vec (Entry S V))) (i p : ℕ) (v : Vec (Entry S V)) → p ≢ i → entries_at (set vs i v) p ≡ entries_at vs p
entries_at-other [] i p v n = refl
entries_at-other (w ∷ ws) zero zero v n = absurd (n refl)
entries_at-other (w ∷ ws) zero (suc p) v n = refl
entries_at-other (w ∷ ws) (suc i) zero v n = refl
entries_at-other (w ∷ ws) (suc i) (suc p) v n = entries_at-other ws i p v (λ e. n (ap suc e))

module _ {S V : Type 0} {R : WeightSet V} (L : SemiringLaws R) where
  -- a row with an entry more
  pub row_at-push : (row : List (Entry S V)) (e : Entry S V) (q : ℕ) → row_at R (row ++ e ∷ []) q ≡ R.plus (row_at R row q) (cond (eqb e.state q) e.weight R.zero)
  row_at-push row e q = sum-append L (λ (x : Entry S V). cond (eqb x.state q) x.weight R.zero) row (e ∷ []) ∙ ap (R.plus (row_at R row q)) (L.plus_zero (cond (eqb e.state q) e.weight R.zero))

module _ {V : Type 0} {R : WeightSet V} (L : SemiringLaws R) where
  -- a product more
  pub product_more : (a w x e : V) (b : Bool) → R.plus (R.plus a (R.times w x)) (cond b (R.times w e) R.zero) ≡ R.plus a (R.times w (R.plus x (cond b e R.zero)))
  product_more a w x e b = L.plus_assoc a (R.times w x) (cond b (R.times w e) R.zero) ∙ ap (R.plus a) (ap (R.plus (R.times w x)) (sym (times-cond L w b e)) ∙ sym (L.times_plus w x (cond b e R.zero)))

  -- a sum that is set to itself and a weight more
  pub sum_set : (sums : List V) (s q : ℕ) (w v : V) → s < length sums → v ≡ R.plus (sum_at R sums s) w → sum_at R (set sums s v) q ≡ R.plus (sum_at R sums q) (cond (eqb s q) w R.zero)
  sum_set sums s q w v l e = go (eqb s q) refl
    where
      go : (b : Bool) → eqb s q ≡ b → sum_at R (set sums s v) q ≡ R.plus (sum_at R sums q) (cond b w R.zero)
      go true h = subst (λ k. sum_at R (set sums s v) k ≡ R.plus (sum_at R sums k) w) (eqb-true s q h) (get_or-set_same sums s v R.zero l ∙ e)
      go false h = get_or-set_other sums s q v R.zero (λ k. false≢true (sym h ∙ eq-eqb s q (sym k))) ∙ sym (L.plus_zero (sum_at R sums q))

  pub sums_set : (n : ℕ) (sums : List V) (touched : List ℕ) (s : ℕ) (v : V) → AreSums R n sums touched → In s touched → IsTrue (R.in_range v) → AreSums R n (set sums s v) touched
  sums_set n sums touched s v h i r =
      record {
        count = length-set sums s v ∙ h.count;
        in_range = all_set (λ x. IsTrue (R.in_range x)) sums s v h.in_range r;
        held = λ q k. go q (eqb q s) refl k;
        inside = h.inside;
      }
    where
      go : (q : ℕ) (b : Bool) → eqb q s ≡ b → sum_at R (set sums s v) q ≢ R.zero → In q touched
      go q true e k = subst (λ x. In x touched) (sym (eqb-true q s e)) i
      go q false e k = h.held q (λ z. k (get_or-set_other sums s q v R.zero (λ x. false≢true (sym e ∙ eq-eqb q s x)) ∙ z))

pub sums_touch : {V : Type 0} (R : WeightSet V) (n : ℕ) (sums : List V) (touched : List ℕ) (s : ℕ) → AreSums R n sums touched → s < n → AreSums R n sums (touched ++ s ∷ [])
sums_touch R n sums touched s h l =
    record {
      count = h.count;
      in_range = h.in_range;
      held = λ q k. In-append_left q touched (s ∷ []) (h.held q k);
      inside = λ q i. elim (In-append_cases q touched (s ∷ []) i) [
        | inl j ↦ h.inside q j
        | inr (inl e) ↦ subst (λ x. x < n) (sym e) l
        | inr (inr j) ↦ absurd j
      ];
    }

-- what a product or a sum that fits answers
pub mul_ok : {V : Type 0} (R : WeightSet V) (a b v : V) → Ok v ≡ multiplied R a b → (v ≡ R.times a b) × (R.fits_times a b ≡ true)
mul_ok {V} R a b v e = go (R.fits_times a b) e
  where
    go : (f : Bool) → Ok v ≡ cond f (Ok (R.times a b)) (Err (Mul a b)) → (v ≡ R.times a b) × (f ≡ true)
    go true e = (grind arith, refl)
    go false e = absurd (cc)

pub add_ok : {V : Type 0} (R : WeightSet V) (a b v : V) → Ok v ≡ added R a b → (v ≡ R.plus a b) × (R.fits_plus a b ≡ true)
add_ok {V} R a b v e = go (R.fits_plus a b) e
  where
    go : (f : Bool) → Ok v ≡ cond f (Ok (R.plus a b)) (Err (Add a b)) → (v ≡ R.plus a b) × (f ≡ true)
    go true e = (grind arith, refl)
    go false e = absurd (cc)

-- what one that does not fit answers
pub mul_err : {V : Type 0} (R : WeightSet V) (a b : V) (o : Overflow V) → Err o ≡ multiplied R a b → (o ≡ Mul a b) × (fits R o ≡ false)
mul_err {V} R a b o e = go (R.fits_times a b) refl e
  where
    go : (f : Bool) → R.fits_times a b ≡ f → Err o ≡ cond f (Ok (R.times a b)) (Err (Mul a b)) → (o ≡ Mul a b) × (fits R o ≡ false)
    go true q h = absurd (cc)
    go false q h = let k : o ≡ Mul a b = grind arith in (k, ap (fits R) k ∙ q)

pub add_err : {V : Type 0} (R : WeightSet V) (a b : V) (o : Overflow V) → Err o ≡ added R a b → (o ≡ Add a b) × (fits R o ≡ false)
add_err {V} R a b o e = go (R.fits_plus a b) refl e
  where
    go : (f : Bool) → R.fits_plus a b ≡ f → Err o ≡ cond f (Ok (R.plus a b)) (Err (Add a b)) → (o ≡ Add a b) × (fits R o ≡ false)
    go true q h = absurd (cc)
    go false q h = let k : o ≡ Add a b = grind arith in (k, ap (fits R) k ∙ q)

-- what one transition more brings
pub parts_more : {S V : Type 0} {R : WeightSet V} (L : SemiringLaws R) (rows : List (Vec (Entry S V))) (ts : List (Transition V)) (t : Transition V) (q : ℕ)
    → moves_part R rows (ts ++ t ∷ []) q ≡ R.plus (moves_part R rows ts q) (cond (is_empty t.label) (R.times t.weight (row_at R (entries_at rows t.to) q)) R.zero)
parts_more {S} {V} {R} L rows ts t q =
    let f : Transition V → V = λ u. cond (is_empty u.label) (R.times u.weight (row_at R (entries_at rows u.to) q)) R.zero in
    sum-append L f ts (t ∷ []) ∙ ap (R.plus (sum_over R f ts)) (L.plus_zero (f t))

pub increasing_push : (xs : List ℕ) (y : ℕ) → IsIncreasing xs → ((x : ℕ) → In x xs → x < y) → IsIncreasing (xs ++ y ∷ [])
increasing_push [] y h l = ((λ x i. absurd i), tt)
increasing_push (x ∷ xs) y h l = ((λ z i. elim (In-append_cases z xs (y ∷ []) i) [ inl j ↦ h.0 z j | inr (inl e) ↦ subst (λ k. x < k) (sym e) (l x (inl refl)) | inr (inr j) ↦ absurd j ]), increasing_push xs y h.1 (λ z i. l z (inr i)))

read_of_taken : (xs : List ℕ) (i q : ℕ) → In q (take i xs) → (j : ℕ) × (j < i) × (get_or xs j 0 ≡ q)
read_of_taken xs zero q k = absurd k
read_of_taken [] (suc i) q k = absurd k
read_of_taken (x ∷ xs) (suc i) q (inl e) = (0, omega arith, sym e)
read_of_taken (x ∷ xs) (suc i) q (inr k) = let r = read_of_taken xs i q k in (suc r.0, (let l : r.0 < i = r.1 in omega arith), r.2)

-- numbers before a place of a list that does not fall
pub taken_low : (xs : List ℕ) (i q : ℕ) → IsNonDecreasing xs → i < length xs → In q (take i xs) → q ≤ get_or xs i 0
taken_low xs i q h l k =
    let r = read_of_taken xs i q k in
    let m : r.0 < i = r.1 in
    subst (λ x. x ≤ get_or xs i 0) r.2 (h r.0 i 0 (omega arith) l)

pub not_not : (b : Bool) → not b ≡ false → b ≡ true
not_not true h = refl
not_not false h = absurd (false≢true (sym h))

-- sums that are moved into a row, one state after the other
pub record IsTaking {S V : Type 0} (R : WeightSet V) (n : ℕ) (before : List V) (touched : List ℕ) (done : List ℕ) (sums : List V) (row : List (Entry S V)) : Type 0 where
  pub count : length sums ≡ n
  pub in_range : InRange R sums
  pub held : (q : ℕ) → sum_at R sums q ≢ R.zero → In q touched
  pub inside : (q : ℕ) → In q touched → q < n
  pub balance : (q : ℕ) → R.plus (row_at R row q) (sum_at R sums q) ≡ sum_at R before q
  pub gone : (q : ℕ) → In q done → sum_at R sums q ≡ R.zero
  pub is_row : IsRow R n row
  pub known : (e : Entry S V) → In e row → In e.state done

module _ {S V : Type 0} {R : WeightSet V} (L : SemiringLaws R) (Z : RangeLaws R) (n : ℕ) (before : List V) (touched : List ℕ) where
  pub taking_none : AreSums R n before touched → IsTaking {S = S} {V = V} R n before touched [] before []
  taking_none h =
      record {
        count = h.count;
        in_range = h.in_range;
        held = h.held;
        inside = h.inside;
        balance = λ q. zero_plus L (sum_at R before q);
        gone = λ q i. absurd i;
        is_row = record { inside = λ e i. absurd i; in_range = λ e i. absurd i; weight = λ e i. absurd i; order = tt };
        known = λ e i. absurd i;
      }

  module _ (done : List ℕ) (sums : List V) (row : List (Entry S V)) (s : ℕ) (h : IsTaking R n before touched done sums row) (i : In s touched) where
    here : s < length sums
    here = subst (λ k. s < k) (sym h.count) (h.inside s i)

    cleared : (q : ℕ) → sum_at R (set sums s R.zero) q ≡ cond (eqb s q) R.zero (sum_at R sums q)
    cleared q = go (eqb s q) refl
      where
        go : (b : Bool) → eqb s q ≡ b → sum_at R (set sums s R.zero) q ≡ cond b R.zero (sum_at R sums q)
        go true e = subst (λ k. sum_at R (set sums s R.zero) k ≡ R.zero) (eqb-true s q e) (get_or-set_same sums s R.zero R.zero here)
        go false e = get_or-set_other sums s q R.zero R.zero (λ k. false≢true (sym e ∙ eq-eqb s q (sym k)))

    still_held : (q : ℕ) → sum_at R (set sums s R.zero) q ≢ R.zero → In q touched
    still_held q k = go (eqb s q) (cleared q)
      where
        go : (b : Bool) → sum_at R (set sums s R.zero) q ≡ cond b R.zero (sum_at R sums q) → In q touched
        go true e = absurd (k e)
        go false e = h.held q (λ z. k (e ∙ z))

    still_gone : (q : ℕ) → In q (done ++ s ∷ []) → sum_at R (set sums s R.zero) q ≡ R.zero
    still_gone q j = cleared q ∙ elim (In-append_cases q done (s ∷ []) j) [
      | inl d ↦ same (eqb s q) (h.gone q d)
      | inr (inl e) ↦ ap (λ b. cond b R.zero (sum_at R sums q)) (eq-eqb s q (sym e))
      | inr (inr d) ↦ absurd d
    ]
      where
        same : (b : Bool) → sum_at R sums q ≡ R.zero → cond b R.zero (sum_at R sums q) ≡ R.zero
        same true e = refl
        same false e = e

    pub taking_zero : sum_at R sums s ≡ R.zero → IsTaking R n before touched (done ++ s ∷ []) (set sums s R.zero) row
    taking_zero z =
        record {
          count = length-set sums s R.zero ∙ h.count;
          in_range = all_set (λ x. IsTrue (R.in_range x)) sums s R.zero h.in_range Z.zero_in;
          held = still_held;
          inside = h.inside;
          balance = λ q. ap (R.plus (row_at R row q)) (cleared q ∙ same q (eqb s q) refl) ∙ h.balance q;
          gone = still_gone;
          is_row = h.is_row;
          known = λ x j. In-append_left x.state done (s ∷ []) (h.known x j);
        }
      where
        same : (q : ℕ) (b : Bool) → eqb s q ≡ b → cond b R.zero (sum_at R sums q) ≡ sum_at R sums q
        same q true e = sym (subst (λ k. sum_at R sums k ≡ R.zero) (eqb-true s q e) z)
        same q false e = refl

    pub taking_more : (w : V) (e : Entry S V) → w ≡ sum_at R sums s → e.state ≡ s → e.weight ≡ w → w ≢ R.zero → ((q : ℕ) → In q done → q ≤ s) → IsTaking R n before touched (done ++ s ∷ []) (set sums s R.zero) (row ++ e ∷ [])
    taking_more w e v f g z low =
        record {
          count = length-set sums s R.zero ∙ h.count;
          in_range = all_set (λ x. IsTrue (R.in_range x)) sums s R.zero h.in_range Z.zero_in;
          held = still_held;
          inside = h.inside;
          balance = λ q. ap₂ R.plus (row_at-push L row e q ∙ ap₂ (λ k x. R.plus (row_at R row q) (cond (eqb k q) x R.zero)) f (g ∙ v)) (cleared q) ∙ move q (eqb s q) refl ∙ h.balance q;
          gone = still_gone;
          is_row = record {
            inside = λ x j. elim (In-append_cases x row (e ∷ []) j) [
              | inl k ↦ h.is_row.inside x k
              | inr (inl q) ↦ subst (λ k. k < n) (sym (ap (λ (y : Entry S V). y.state) q ∙ f)) (h.inside s i)
              | inr (inr k) ↦ absurd k
            ];
            in_range = λ x j. elim (In-append_cases x row (e ∷ []) j) [
              | inl k ↦ h.is_row.in_range x k
              | inr (inl q) ↦ subst (λ y. IsTrue (R.in_range y)) (sym (ap (λ (y : Entry S V). y.weight) q ∙ g ∙ v)) (all_read (λ y. IsTrue (R.in_range y)) sums s R.zero h.in_range Z.zero_in)
              | inr (inr k) ↦ absurd k
            ];
            weight = λ x j. elim (In-append_cases x row (e ∷ []) j) [
              | inl k ↦ h.is_row.weight x k
              | inr (inl q) ↦ (λ y. z (sym g ∙ ap (λ (y : Entry S V). y.weight) (sym q) ∙ y))
              | inr (inr k) ↦ absurd k
            ];
            order = subst (λ xs. IsIncreasing xs) (sym (map-append (λ (x : Entry S V). x.state) row (e ∷ []))) (increasing_push (map (λ (x : Entry S V). x.state) row) e.state h.is_row.order (λ q j.
                let m = In-map_from (λ (x : Entry S V). x.state) q row j in
                subst (λ k. k < e.state) (sym m.2) (subst (λ k. m.0.state < k) (sym f) (earlier m.0 m.1))));
          };
          known = λ x j. elim (In-append_cases x row (e ∷ []) j) [
            | inl k ↦ In-append_left x.state done (s ∷ []) (h.known x k)
            | inr (inl q) ↦ In-append_right x.state done (s ∷ []) (inl (ap (λ (y : Entry S V). y.state) q ∙ f))
            | inr (inr k) ↦ absurd k
          ];
        }
      where
        earlier : (x : Entry S V) → In x row → x.state < s
        earlier x j =
            let k = h.known x j in
            let l : x.state ≤ s = low x.state k in
            let n : x.state ≢ s = λ q. z (v ∙ ap (sum_at R sums) (sym q) ∙ h.gone x.state k) in
            omega arith

        move : (q : ℕ) (b : Bool) → eqb s q ≡ b → R.plus (R.plus (row_at R row q) (cond b (sum_at R sums s) R.zero)) (cond b R.zero (sum_at R sums q)) ≡ R.plus (row_at R row q) (sum_at R sums q)
        move q true d = L.plus_zero _ ∙ ap (λ k. R.plus (row_at R row q) (sum_at R sums k)) (eqb-true s q d)
        move q false d = ap (λ x. R.plus x (sum_at R sums q)) (L.plus_zero (row_at R row q))

  pub taken_all : (same : V → V → Bool) → ((a b : V) → (same a b ≡ true) ↔ (a ≡ b)) → (done : List ℕ) (sums : List V) (row : List (Entry S V)) → IsTaking R n before touched done sums row → ((q : ℕ) → In q touched → In q done)
      → AreClear R n sums [] × ((q : ℕ) → row_at R row q ≡ sum_at R before q)
  taken_all same test done sums row h all = (
    record { are = record { count = h.count; in_range = h.in_range; held = λ q k. absurd (k (zero_at q)); inside = λ q i. absurd i }; cleared = zero_at },
    (λ q. sym (L.plus_zero (row_at R row q)) ∙ ap (R.plus (row_at R row q)) (sym (zero_at q)) ∙ h.balance q),
  )
    where
      zero_at : (q : ℕ) → sum_at R sums q ≡ R.zero
      zero_at q = go (same (sum_at R sums q) R.zero) refl
        where
          go : (b : Bool) → same (sum_at R sums q) R.zero ≡ b → sum_at R sums q ≡ R.zero
          go true e = (test (sum_at R sums q) R.zero).0 e
          go false e = h.gone q (all q (h.held q (λ z. false≢true (sym e ∙ (test (sum_at R sums q) R.zero).1 z))))

-- a row of zeros
pub clear_zeros : {V : Type 0} {R : WeightSet V} → RangeLaws R → (n : ℕ) → AreClear R n (replicate n R.zero) []
clear_zeros {V} {R} Z n = record { are = record { count = len n; in_range = all n; held = λ q k. absurd (k (at n q)); inside = λ q i. absurd i }; cleared = at n }
  where
    len : (n : ℕ) → length (replicate n R.zero) ≡ n
    len zero = refl
    len (suc n) = ap suc (len n)

    at : (n q : ℕ) → sum_at R (replicate n R.zero) q ≡ R.zero
    at zero q = refl
    at (suc n) zero = refl
    at (suc n) (suc q) = at n q

    all : (n : ℕ) → All (λ x. IsTrue (R.in_range x)) (replicate n R.zero)
    all zero = All-nil (λ x. IsTrue (R.in_range x))
    all (suc n) = All-cons (λ x. IsTrue (R.in_range x)) R.zero (replicate n R.zero) Z.zero_in (all n)

-- the states that were touched in another order
pub sums_permuted : {V : Type 0} (R : WeightSet V) (n : ℕ) (sums : List V) (xs ys : List ℕ) → IsPermutation xs ys → AreSums R n sums xs → AreSums R n sums ys
sums_permuted R n sums xs ys p h =
    record {
      count = h.count;
      in_range = h.in_range;
      held = λ q k. of_all (λ x. In x ys) q xs (All-permutation (λ x. In x ys) ys xs (IsPermutation-sym xs ys p) (all_in ys (λ x i. i))) (h.held q k);
      inside = λ q i. of_all (λ x. x < n) q ys (All-permutation (λ x. x < n) xs ys p (all_in xs h.inside)) i;
    }
  where
    of_all : (P : ℕ → Type 0) (x : ℕ) (xs : List ℕ) → All P xs → In x xs → P x
    of_all P x [] h i = absurd i
    of_all P x (y ∷ ys) h (inl e) = subst P (sym e) (All-head P y ys h)
    of_all P x (y ∷ ys) h (inr i) = of_all P x ys (All-tail P y ys h) i

    all_in : {P : ℕ → Type 0} (xs : List ℕ) → ((x : ℕ) → In x xs → P x) → All P xs
    all_in {P} [] h = All-nil P
    all_in {P} (x ∷ xs) h = All-cons P x xs (h x (inl refl)) (all_in xs (λ y i. h y (inr i)))

pub replicate_more : {X : Type 0} (x : X) (n : ℕ) → replicate n x ++ x ∷ [] ≡ replicate (n + 1) x
replicate_more x zero = refl
replicate_more x (suc n) = let e : suc (n + 1) ≡ suc n + 1 = omega arith in ap (λ xs. x ∷ xs) (replicate_more x n) ∙ ap (λ k. replicate k x) e
