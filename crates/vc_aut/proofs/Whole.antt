-- What is left of an automaton of which all states are kept.
use Rattle.std.proofs.Common.{◌≡◌, ℕ, ◌<◌, ◌≤◌, ◌+◌, List, [], ◌∷◌, true, cond, ◌&&◌, eqb, length, map, filter, get_or, Option, refl, sym, ap, ap₂, ◌∙◌, inl, inr, subst, zero, suc, arith}
use Rattle.std.proofs.lemmas.Bool.{cases_lt, eq-eqb}
use Rattle.vc_model.specs.Automata.{Automaton, IsAutomaton, Transition, final_weight, initial_weight}
use Rattle.vc_model.specs.Lists.{In, IsIncreasing, below, up_from}
use Rattle.vc_model.specs.Machines.{place_in}
use Rattle.vc_model.specs.Members.{up_from-In}
use Rattle.vc_model.specs.Trims.{is_between, placed, IsTrim}
use Rattle.vc_model.specs.WeightSet.{WeightSet}
use Rattle.vc_aut.proofs.Kept.{eqb_not}
use Rattle.vc_aut.proofs.Trimmed.{among}
use Rattle.vc_aut.specs.Kept.{AreUseful}

-- n ascending numbers among the n from s on are all of them
all_from : (n s : ℕ) (xs : List ℕ) → IsIncreasing xs → ((x : ℕ) → In x xs → (s ≤ x) × (x < s + n)) → length xs ≡ n → xs ≡ up_from s n
all_from zero s [] h r l = refl
all_from zero s (x ∷ xs) h r l = absurd (omega (arith, l))
all_from (suc n) s [] h r l = absurd (omega (arith, l))
all_from (suc n) s (x ∷ xs) h r l =
    let here : (s ≤ x) × (x < s + suc n) = r x (inl refl) in
    let low : s ≤ x = here.0 in
    let rest : xs ≡ up_from (suc s) n = all_from n (suc s) xs h.1 (λ y i. let a : x < y = h.0 y i in let b : (s ≤ y) × (y < s + suc n) = r y (inr i) in let c : y < s + suc n = b.1 in (omega arith, omega arith)) (omega (arith, l)) in
    let first : x ≡ s = head n rest here.1 in
    ap₂ (λ y ys. y ∷ ys) first rest
  where
    head : (n : ℕ) → xs ≡ up_from (suc s) n → x < s + suc n → x ≡ s
    head zero e u = let low : s ≤ x = (r x (inl refl)).0 in omega arith
    head (suc n) e u =
        let low : s ≤ x = (r x (inl refl)).0 in
        let high : x < suc s = h.0 (suc s) (subst (λ ys. In (suc s) ys) (sym e) (inl refl)) in
        omega arith

-- each stands at its own place
own_place : (n s p : ℕ) → s ≤ p → p < s + n → place_in eqb p (up_from s n) + s ≡ p
own_place zero s p l u = absurd (omega arith)
own_place (suc n) s p l u = elim (cases_lt s p) [
  | inl m ↦
      let ih : place_in eqb p (up_from (suc s) n) + suc s ≡ p = own_place n (suc s) p (omega arith) (omega arith) in
      let z : suc (place_in eqb p (up_from (suc s) n)) + s ≡ p = omega arith in
      ap (λ b. cond b 0 (suc (place_in eqb p (up_from (suc s) n))) + s) (eqb_not s p (omega arith)) ∙ z
  | inr m ↦
      let q : s ≡ p = omega arith in
      let z : 0 + s ≡ p = omega arith in
      ap (λ b. cond b 0 (suc (place_in eqb p (up_from (suc s) n))) + s) (eq-eqb s p q) ∙ z
]

at_own_place : (n s i : ℕ) → i < n → get_or (up_from s n) i 0 ≡ s + i
at_own_place zero s i l = absurd (omega arith)
at_own_place (suc n) s zero l = omega arith
at_own_place (suc n) s (suc i) l = let r : get_or (up_from (suc s) n) i 0 ≡ suc s + i = at_own_place n (suc s) i (omega arith) in omega arith

module _ {V : Type 0} (n : ℕ) where
  placed_same : (t : Transition V) → t.from < n → t.to < n → placed (below n) t ≡ t
  placed_same t f l =
      let a : place_in eqb t.from (below n) + 0 ≡ t.from = own_place n 0 t.from (omega arith) (omega arith) in
      let b : place_in eqb t.to (below n) + 0 ≡ t.to = own_place n 0 t.to (omega arith) (omega arith) in
      let c : place_in eqb t.from (below n) ≡ t.from = omega arith in
      let d : place_in eqb t.to (below n) ≡ t.to = omega arith in
      ap₂ (λ p q. record t { from = p; to = q }) c d

  between_same : (t : Transition V) → t.from < n → t.to < n → is_between (below n) t ≡ true
  between_same t f l = ap₂ (λ a b. a && b) (among t.from (below n) (up_from-In t.from 0 n (omega arith) (omega arith))) (among t.to (below n) (up_from-In t.to 0 n (omega arith) (omega arith)))

  all_between : (ts : List (Transition V)) → ((t : Transition V) → In t ts → t.from < n) → ((t : Transition V) → In t ts → t.to < n) → map (placed (below n)) (filter (is_between (below n)) ts) ≡ ts
  all_between [] f l = refl
  all_between (t ∷ ts) f l =
      let rest : map (placed (below n)) (filter (is_between (below n)) ts) ≡ ts = all_between ts (λ u i. f u (inr i)) (λ u i. l u (inr i)) in
      ap (λ b. map (placed (below n)) (cond b (t ∷ filter (is_between (below n)) ts) (filter (is_between (below n)) ts))) (between_same t (f t (inl refl)) (l t (inl refl)))
      ∙ ap₂ (λ u us. u ∷ us) (placed_same t (f t (inl refl)) (l t (inl refl))) rest

-- an automaton of which each state is useful is its own trim
pub whole : {V : Type 0} (R : WeightSet V) (tapes : ℕ) (A : Automaton V) → IsAutomaton R tapes A → (kept : List ℕ) (places : List (Option ℕ)) → AreUseful R A kept places → length kept ≡ A.states → IsTrim R A A kept
whole R tapes A G kept places u e =
    let all : kept ≡ below A.states = all_from A.states 0 kept u.order (λ x i. let l : x < A.states = ((u.useful x).0 i).0 in (omega arith, omega arith)) e in
    let own : (i : ℕ) → i < length kept → i ≡ get_or kept i 0 = λ i l. let r : get_or (up_from 0 A.states) i 0 ≡ 0 + i = at_own_place A.states 0 i (subst (λ k. i < k) e l) in sym (ap (λ ks. get_or ks i 0) all ∙ omega arith) in
    record {
      useful = u.useful;
      order = u.order;
      states = sym e;
      initial = λ i l. ap (initial_weight R A) (own i l);
      final = λ i l. ap (final_weight R A) (own i l);
      transitions = sym (ap (λ ks. map (placed ks) (filter (is_between ks) A.transitions)) all ∙ all_between A.states A.transitions G.from G.to);
    }
