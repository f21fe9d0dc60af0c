-- Rows that are made in an order in which silent transitions lead back.
use Rattle.std.proofs.Common.{◌≡◌, ℕ, ◌<◌, List, [], ◌∷◌, ◌++◌, Bool, true, false, cond, eqb, length, set, take, drop, get_or, refl, sym, ap, ◌∙◌, inl, inr, ◌⊎◌, subst, suc, zero, arith}
use Rattle.std.proofs.lemmas.List.{length-set}
use Rattle.std.specs.Global.{Vec}
use Rattle.std.proofs.lemmas.Bool.{eqb-true, eq-eqb, false≢true}
use Rattle.vc_model.specs.Automata.{Automaton, Transition}
use Rattle.vc_model.specs.Lists.{In}
use Rattle.vc_model.specs.Members.{In-append_cases}
use Rattle.vc_model.specs.SumLaws.{sum-filter, sum_same}
use Rattle.vc_model.specs.WeightSet.{WeightSet, SemiringLaws}
use Rattle.vc_model.specs.WordLaws.{bool_same}
use Rattle.vc_model.specs.Words.{is_empty}
use Rattle.vc_closure.specs.Closing.{IsClosed, unit_entry}
use Rattle.vc_closure.proofs.Closings.{silent}
use Rattle.vc_closure.specs.Rows.{AreRows, IsRow, entries_at, moves_part, row_at, silent_part}
use Rattle.vc_closure.specs.Searches.{LeadBack, is_silent, moves_from}
use Rattle.vc_closure.specs.declared.rows.Entry.{Entry}
use Rattle.vc_closure.proofs.RowSums.{entries_at-other, entries_at-same}

-- what the transitions from a state bring is what its empty transitions bring
pub moves_silent : {S V : Type 0} {R : WeightSet V} (L : SemiringLaws R) (A : Automaton V) (rows : List (Vec (Entry S V))) (s q : ℕ) → moves_part R rows (moves_from A s) q ≡ silent_part R A rows s q
moves_silent {S} {V} {R} L A rows s q = sum-filter L (λ t. cond (is_empty t.label) (R.times t.weight (row_at R (entries_at rows t.to) q)) R.zero) (λ (t : Transition V). eqb t.from s) A.transitions

pub unit_turned : {V : Type 0} (R : WeightSet V) (s q : ℕ) → cond (eqb s q) R.one R.zero ≡ unit_entry R s q
unit_turned R s q = ap (λ b. cond b R.one R.zero) (bool_same (eqb s q) (eqb q s) (λ e. eq-eqb q s (sym (eqb-true s q e))) (λ e. eq-eqb s q (sym (eqb-true q s e))))

module _ {V : Type 0} (A : Automaton V) (K : List Bool) where
  -- the silent transitions from a state of the order lead to states before it
  back_split : (members front rest : List ℕ) (s p : ℕ) → LeadBack A K members (front ++ s ∷ rest) → In p front ⊎ (p ≡ s) → (t : Transition V) → In t A.transitions → t.from ≡ p → is_silent K t ≡ true → In t.to members ⊎ In t.to front
  back_split members [] rest s p b (inl i) t j f h = absurd i
  back_split members [] rest s p b (inr e) t j f h = inl (b.0 t j (f ∙ e) h)
  back_split members (q ∷ qs) rest s p b (inl (inl e)) t j f h = inl (b.0 t j (f ∙ e) h)
  back_split members (q ∷ qs) rest s p b (inl (inr i)) t j f h = turn (back_split (q ∷ members) qs rest s p b.1 (inl i) t j f h)
    where
      turn : In t.to (q ∷ members) ⊎ In t.to qs → In t.to members ⊎ In t.to (q ∷ qs)
      turn (inl (inl e)) = inr (inl e)
      turn (inl (inr k)) = inl k
      turn (inr k) = inr (inr k)
  back_split members (q ∷ qs) rest s p b (inr e) t j f h = turn (back_split (q ∷ members) qs rest s p b.1 (inr e) t j f h)
    where
      turn : In t.to (q ∷ members) ⊎ In t.to qs → In t.to members ⊎ In t.to (q ∷ qs)
      turn (inl (inl e)) = inr (inl e)
      turn (inl (inr k)) = inl k
      turn (inr k) = inr (inr k)

-- the silent transitions from the next state of the order lead to states before it
pub leads_before : {V : Type 0} (A : Automaton V) (K : List Bool) (front rest : List ℕ) (s : ℕ) → LeadBack A K [] (front ++ s ∷ rest) → (t : Transition V) → In t A.transitions → t.from ≡ s → is_silent K t ≡ true → In t.to front
leads_before A K front rest s b t i e h = elim (back_split A K [] front rest s s b (inr refl) t i e h) [ inl j ↦ absurd j | inr j ↦ j ]

-- the rows of these states are those of K
abbrev pub AreRowsAt : {S V : Type 0} → WeightSet V → Automaton V → (ℕ → ℕ → V) → List ℕ → List (Vec (Entry S V)) → Type 0
AreRowsAt R A K front rows = (p t : ℕ) → In p front → t < A.states → row_at R (entries_at rows p) t ≡ K p t

-- the row of the next state of the order
pub rows_more : {S V : Type 0} {R : WeightSet V} (L : SemiringLaws R) (A : Automaton V) → ((t : Transition V) → In t A.transitions → t.to < A.states) → (K : ℕ → ℕ → V) → IsClosed R A K → (front : List ℕ) (s : ℕ) → s < A.states
    → ((t : Transition V) → In t A.transitions → t.from ≡ s → is_empty t.label ≡ true → In t.to front) → (rows : List (Vec (Entry S V))) (v : Vec (Entry S V)) → s < length rows
    → ((t : ℕ) → row_at R v.items t ≡ R.plus (unit_entry R s t) (silent_part R A rows s t)) → AreRowsAt R A K front rows → AreRowsAt R A K (front ++ s ∷ []) (set rows s v)
rows_more {S} {V} {R} L A to K C front s k leads rows v l n h p t i m = go (eqb p s) refl
  where
    closed : row_at R v.items t ≡ K s t
    closed =
        n t ∙ ap (R.plus (unit_entry R s t)) (sum_same L _ (λ u. cond (eqb u.from s) (cond (is_empty u.label) (R.times u.weight (K u.to t)) R.zero) R.zero) A.transitions (λ u j. each u j (eqb u.from s) refl (is_empty u.label) refl)
        ∙ sym (silent L A to s (λ j. K j t)))
        ∙ sym (C s t k m)
      where
        each : (u : Transition V) → In u A.transitions → (c : Bool) → eqb u.from s ≡ c → (d : Bool) → is_empty u.label ≡ d
            → cond c (cond d (R.times u.weight (row_at R (entries_at rows u.to) t)) R.zero) R.zero ≡ cond c (cond d (R.times u.weight (K u.to t)) R.zero) R.zero
        each u j true e true d = ap (R.times u.weight) (h u.to t (leads u j (eqb-true u.from s e) d) m)
        each u j true e false d = refl
        each u j false e d f = refl

    go : (c : Bool) → eqb p s ≡ c → row_at R (entries_at (set rows s v) p) t ≡ K p t
    go true e =
        let q : p ≡ s = eqb-true p s e in
        ap (λ x. row_at R (entries_at (set rows s v) x) t) q ∙ ap (λ (row : List (Entry S V)). row_at R row t) (entries_at-same rows s v l) ∙ closed ∙ ap (λ x. K x t) (sym q)
    go false e = ap (λ (row : List (Entry S V)). row_at R row t) (entries_at-other rows s p v (λ q. false≢true (sym e ∙ eq-eqb p s q))) ∙ elim (In-append_cases p front (s ∷ []) i) [
      | inl j ↦ h p t j m
      | inr (inl q) ↦ absurd (false≢true (sym e ∙ eq-eqb p s q))
      | inr (inr j) ↦ absurd j
    ]

-- a row is put at its place
pub rows_set : {S V : Type 0} (R : WeightSet V) (n : ℕ) (rows : List (Vec (Entry S V))) (s : ℕ) (v : Vec (Entry S V)) → AreRows R n rows → s < n → IsRow R n v.items → AreRows R n (set rows s v)
rows_set {S} {V} R n rows s v h l r = record { count = length-set rows s v ∙ h.count; each = λ p. pick p (eqb p s) refl }
  where
    pick : (p : ℕ) (c : Bool) → eqb p s ≡ c → IsRow R n (entries_at (set rows s v) p)
    pick p true e =
        subst (λ x. IsRow R n (entries_at (set rows s v) x)) (sym (eqb-true p s e)) (subst (λ (row : List (Entry S V)). IsRow R n row) (sym (entries_at-same rows s v (subst (λ k. s < k) (sym h.count) l))) r)
    pick p false e = subst (λ (row : List (Entry S V)). IsRow R n row) (sym (entries_at-other rows s p v (λ q. false≢true (sym e ∙ eq-eqb p s q)))) (h.each p)

-- a list at one of its places
pub split_at : {X : Type 0} (xs : List X) (i : ℕ) (d : X) → i < length xs → xs ≡ take i xs ++ get_or xs i d ∷ drop (suc i) xs
split_at [] i d l = absurd (omega arith)
split_at (x ∷ xs) zero d l = refl
split_at (x ∷ xs) (suc i) d l = ap (λ ys. x ∷ ys) (split_at xs i d (omega arith))
