-- Matrices of the closure that are made one after the other.
use Rattle.std.proofs.Common.{◌≡◌, ℕ, ◌<◌, ◌≤◌, ◌+◌, ◌-◌, List, [], ◌∷◌, ◌++◌, true, cond, eqb, length, take, get_or, refl, sym, ap, ap₂, ◌∙◌, inl, inr, ◌⊎◌, subst, suc, zero, arith}
use Rattle.std.specs.Global.{Vec}
use Rattle.std.proofs.lemmas.List.{length-append, take_more}
use Rattle.vc_model.specs.Automata.{Automaton, Transition}
use Rattle.vc_model.specs.Lists.{In, below}
use Rattle.vc_model.specs.SumLaws.{sum_same}
use Rattle.vc_model.specs.Sums.{sum_over}
use Rattle.vc_model.specs.WeightSet.{WeightSet, SemiringLaws, RangeLaws}
use Rattle.vc_closure.specs.Closing.{matrix, next_entry, silent_weight, unit_entry}
use Rattle.vc_closure.specs.Formula.{IsEntryStep}
use Rattle.vc_closure.specs.Rows.{AreRows, AreRowsOf, IsRow, entries_at, matrix_of, row_at, silent_part}
use Rattle.vc_closure.specs.declared.rows.Entry.{Entry}
use Rattle.vc_closure.proofs.Closings.{less, silent}
use Rattle.vc_closure.proofs.Ordered.{unit_turned}
use Rattle.vc_closure.proofs.RowSums.{row_at-push}
use Rattle.vc_ring.specs.declared.faults.Overflow.{Overflow}
use Rattle.vc_ring.specs.declared.faults.Overflow.TheVariants.{Add, Mul}

-- a fact of the rows that are there and of one that is added is one of all
pub rows_push : {S V : Type 0} (P : ℕ → List (Entry S V) → Type 0) (vs : List (Vec (Entry S V))) (v : Vec (Entry S V)) (n : ℕ) → length vs ≡ n → ((p : ℕ) → p < n → P p (entries_at vs p)) → P n v.items
    → (p : ℕ) → p < n + 1 → P p (entries_at (vs ++ v ∷ []) p)
rows_push {S} {V} P [] v n e h x zero l = subst (λ k. P k v.items) (sym e) x
rows_push {S} {V} P [] v n e h x (suc p) l = absurd (omega (arith, e))
rows_push {S} {V} P (w ∷ ws) v n e h x zero l = h zero (omega (arith, e))
rows_push {S} {V} P (w ∷ ws) v n e h x (suc p) l = rows_push (λ k row. P (suc k) row) ws v (length ws) refl (λ q m. h (suc q) (omega (arith, e))) (subst (λ k. P k v.items) (sym e) x) p (omega (arith, e))

-- nothing stands past the last row
pub past_rows : {S V : Type 0} (vs : List (Vec (Entry S V))) (p : ℕ) → length vs ≤ p → entries_at vs p ≡ []
past_rows [] p l = refl
past_rows (v ∷ vs) zero l = absurd (omega arith)
past_rows (v ∷ vs) (suc p) l = past_rows vs p (omega arith)

-- the same of rows that are those and one more
pub push_is : {S V : Type 0} (P : ℕ → List (Entry S V) → Type 0) (vs ws : List (Vec (Entry S V))) (v : Vec (Entry S V)) (n : ℕ) → ws ≡ vs ++ v ∷ [] → length vs ≡ n → ((p : ℕ) → p < n → P p (entries_at vs p)) → P n v.items
    → (p : ℕ) → p < n + 1 → P p (entries_at ws p)
push_is {S} {V} P vs ws v n w e h x p l = subst (λ (us : List (Vec (Entry S V))). P p (entries_at us p)) (sym w) (rows_push P vs v n e h x p l)

pub push_count : {S V : Type 0} (vs ws : List (Vec (Entry S V))) (v : Vec (Entry S V)) (n : ℕ) → ws ≡ vs ++ v ∷ [] → length vs ≡ n → length ws ≡ n + 1
push_count {S} {V} vs ws v n w e = ap (λ (us : List (Vec (Entry S V))). length us) w ∙ length-append vs (v ∷ []) ∙ ap (λ k. k + 1) e

-- rows that are alike below a bound past both are alike
pub rows_alike : {S V : Type 0} (R : WeightSet V) (vs ws : List (Vec (Entry S V))) (n : ℕ) → length vs ≤ n → length ws ≤ n → ((p t : ℕ) → p < n → row_at R (entries_at vs p) t ≡ row_at R (entries_at ws p) t)
    → (p t : ℕ) → row_at R (entries_at vs p) t ≡ row_at R (entries_at ws p) t
rows_alike {S} {V} R vs ws n a b h p t = elim (split p) [
  | inl l ↦ h p t l
  | inr g ↦ ap (λ (row : List (Entry S V)). row_at R row t) (past_rows vs p (omega arith) ∙ sym (past_rows ws p (omega arith)))
]
  where
    split : (q : ℕ) → (q < n) ⊎ (n ≤ q)
    split q = search arith

-- one entry more of two rows that are alike
pub alike_more : {S V : Type 0} {R : WeightSet V} (L : SemiringLaws R) (vs ws : List (Entry S V)) (i t : ℕ) (v w : Entry S V) → i < length vs → i < length ws → v ≡ get_or vs i v → w ≡ get_or ws i w → v.state ≡ w.state → v.weight ≡ w.weight
    → row_at R (take i vs) t ≡ row_at R (take i ws) t → row_at R (take (i + 1) vs) t ≡ row_at R (take (i + 1) ws) t
alike_more {S} {V} {R} L vs ws i t v w a b c d e f h =
    one vs v a c ∙ ap₂ R.plus h (ap₂ (λ k x. cond (eqb k t) x R.zero) e f) ∙ sym (one ws w b d)
  where
    one : (us : List (Entry S V)) (u : Entry S V) → i < length us → u ≡ get_or us i u → row_at R (take (i + 1) us) t ≡ R.plus (row_at R (take i us) t) (cond (eqb u.state t) u.weight R.zero)
    one us u l r = ap (λ (xs : List (Entry S V)). row_at R xs t) (take_more us i u l ∙ ap (λ x. take i us ++ x ∷ []) (sym r)) ∙ row_at-push L (take i us) u t

-- rows, each of which is one, and nothing past them
pub rows_each : {S V : Type 0} (R : WeightSet V) (n m : ℕ) (vs : List (Vec (Entry S V))) → length vs ≡ m → ((p : ℕ) → p < m → IsRow R n (entries_at vs p)) → (p : ℕ) → IsRow R n (entries_at vs p)
rows_each {S} {V} R n m vs e h p = elim (split p) [ inl l ↦ h p l | inr g ↦ subst (λ (row : List (Entry S V)). IsRow R n row) (sym (past_rows vs p (subst (λ k. k ≤ p) (sym e) g))) none ]
  where
    none : IsRow {S = S} {V = V} R n []
    none = record { inside = λ x i. absurd i; in_range = λ x i. absurd i; weight = λ x i. absurd i; order = tt }

    split : (q : ℕ) → (q < m) ⊎ (m ≤ q)
    split q = search arith

-- n rows, each of which is one
pub are_rows : {S V : Type 0} (R : WeightSet V) (n : ℕ) (vs : List (Vec (Entry S V))) → length vs ≡ n → ((p : ℕ) → p < n → IsRow R n (entries_at vs p)) → AreRows R n vs
are_rows R n vs e h = record { count = e; each = rows_each R n n vs e h }

pub one_entry : {S V : Type 0} {R : WeightSet V} → SemiringLaws R → RangeLaws R → (n s : ℕ) (row : List (Entry S V)) → s < n → row ≡ record { state = s; weight = R.one } ∷ [] → IsRow R n row
one_entry {S} {V} {R} L Z n s row l h = subst (λ (xs : List (Entry S V)). IsRow R n xs) (sym h) it
  where
    it : IsRow {S = S} {V = V} R n (record { state = s; weight = R.one } ∷ [])
    it = record {
      inside = λ e i. elim i [ inl q ↦ subst (λ (x : Entry S V). x.state < n) (sym q) l | inr k ↦ absurd k ];
      in_range = λ e i. elim i [ inl q ↦ subst (λ (x : Entry S V). R.in_range x.weight ≡ true) (sym q) Z.one_in | inr k ↦ absurd k ];
      weight = λ e i. elim i [ inl q ↦ (λ z. L.one_is_not_zero (ap (λ (x : Entry S V). x.weight) (sym q) ∙ z)) | inr k ↦ absurd k ];
      order = ((λ y i. absurd i), tt);
    }

module _ {S V : Type 0} {R : WeightSet V} (L : SemiringLaws R) where
  pub one_entry_at : (s t : ℕ) (row : List (Entry S V)) → row ≡ record { state = s; weight = R.one } ∷ [] → row_at R row t ≡ unit_entry R s t
  one_entry_at s t row h = ap (λ (xs : List (Entry S V)). row_at R xs t) h ∙ L.plus_zero (cond (eqb s t) R.one R.zero) ∙ unit_turned R s t

  module _ (A : Automaton V) (to : (t : Transition V) → In t A.transitions → t.to < A.states) where
    -- what the empty transitions bring, as a sum over the states
    pub over_states : (rows : List (Vec (Entry S V))) (s t : ℕ) → silent_part R A rows s t ≡ sum_over R (λ j. R.times (silent_weight R A s j) (matrix_of R rows j t)) (below A.states)
    over_states rows s t = sym (silent L A to s (λ j. row_at R (entries_at rows j) t))

next_same : {V : Type 0} {R : WeightSet V} (L : SemiringLaws R) (A : Automaton V) (K H : ℕ → ℕ → V) → ((i t : ℕ) → i < A.states → t < A.states → K i t ≡ H i t) → (s t : ℕ) → t < A.states → next_entry R A K s t ≡ next_entry R A H s t
next_same {V} {R} L A K H h s t l = ap (R.plus (unit_entry R s t)) (sum_same L _ _ (below A.states) (λ j i. ap (R.times (silent_weight R A s j)) (h j t (less j A.states i) l)))

module _ {S V : Type 0} {R : WeightSet V} (L : SemiringLaws R) (A : Automaton V) where
  -- the rows of the next matrix
  pub matrix_more : (rows next : List (Vec (Entry S V))) (m : ℕ) → AreRowsOf R A (matrix R A m) rows → AreRowsOf R A (next_entry R A (matrix_of R rows)) next → AreRowsOf R A (matrix R A (suc m)) next
  matrix_more rows next m h n s t k l = n s t k l ∙ next_same L A (matrix_of R rows) (matrix R A m) h s t l

  -- where the next matrix is the same, so are all that come after it
  pub matrix_stays : (rows : List (Vec (Entry S V))) (m : ℕ) → AreRowsOf R A (matrix R A m) rows → AreRowsOf R A (matrix R A (suc m)) rows → (k : ℕ) → AreRowsOf R A (matrix R A (k + m)) rows
  matrix_stays rows m h n zero s t i l = subst (λ x. row_at R (entries_at rows s) t ≡ matrix R A x s t) (let e : m ≡ 0 + m = omega arith in e) (h s t i l)
  matrix_stays rows m h n (suc k) s t i l =
      let e : suc (k + m) ≡ suc k + m = omega arith in
      let same : (p q : ℕ) → p < A.states → q < A.states → matrix R A m p q ≡ matrix R A (k + m) p q = λ p q a b. sym (h p q a b) ∙ matrix_stays rows m h n k p q a b in
      subst (λ x. row_at R (entries_at rows s) t ≡ matrix R A x s t) e (n s t i l ∙ next_same L A (matrix R A m) (matrix R A (k + m)) same s t l)

  pub matrix_until : (rows : List (Vec (Entry S V))) (m n : ℕ) → AreRowsOf R A (matrix R A m) rows → AreRowsOf R A (matrix R A (suc m)) rows → m ≤ n → AreRowsOf R A (matrix R A n) rows
  matrix_until rows m n h k l = subst (λ x. AreRowsOf R A (matrix R A x) rows) (let e : (n - m) + m ≡ n = omega arith in e) (matrix_stays rows m h k (n - m))

-- a step by a matrix is one by another that is the same
pub step_same : {V : Type 0} {R : WeightSet V} (L : SemiringLaws R) (A : Automaton V) (K H : ℕ → ℕ → V) → ((i t : ℕ) → i < A.states → t < A.states → K i t ≡ H i t) → (o : Overflow V) → IsEntryStep R A K o → IsEntryStep R A H o
step_same {V} {R} L A K H h o s =
    let i = s.0 in
    let t = s.1 in
    let j = s.4.0 in
    let e = h j t s.4.1 s.3 in (
      i,
      t,
      s.2,
      s.3,
      (
        j,
        s.4.1,
        elim s.4.2 [
          | inl q ↦ inl (q ∙ ap (Mul (silent_weight R A i j)) e)
          | inr q ↦ inr (q ∙ ap₂ Add (ap (R.plus (unit_entry R i t)) (sum_same L _ _ (below j) (λ k m. ap (R.times (silent_weight R A i k)) (h k t (let l : k < j = less k j m in let n : j < A.states = s.4.1 in omega arith) s.3)))) (ap (R.times (silent_weight R A i j)) e))
        ],
      ),
    )
