-- A path of many transitions goes round a circuit that is empty on the tapes of K.
use Rattle.std.proofs.Common.{◌≡◌, ℕ, List, [], ◌∷◌, ◌++◌, Bool, refl, sym, ap, ◌∙◌, inl, inr, ◌⊎◌, subst, suc, ◌<◌, ◌≤◌, ◌+◌, ◌*◌, arith, length}
use Rattle.vc_model.specs.Lists.{In, NoRepeat}
use Rattle.vc_model.specs.Words.{empty_word, size, on}
use Rattle.vc_model.specs.Automata.{Transition, Automaton, IsPath, end_of, path_label}
use Rattle.vc_model.specs.PathLaws.{length-path_label, end_below, IsPath-split}
use Rattle.vc_model.specs.Pigeons.{find, no_more_than, same_place}
use Rattle.vc_model.specs.TapeSets.{size-on-join}

-- a piece of a path that leads back to where it begins, and is empty on K
pub record Circuit {V : Type 0} (tapes : ℕ) (K : List Bool) (p : ℕ) (ts : List (Transition V)) : Type 0 where
  pub before : List (Transition V)
  pub first : Transition V
  pub more : List (Transition V)
  pub after : List (Transition V)
  pub is : ts ≡ before ++ ((first ∷ more) ++ after)
  pub back : end_of (end_of p before) (first ∷ more) ≡ end_of p before
  pub nothing : size (on K (path_label tapes (first ∷ more))) ≡ 0

module _ {V : Type 0} (A : Automaton V) (tapes : ℕ) (K : List Bool) (labels : (t : Transition V) → In t A.transitions → length t.label ≡ tapes) (to : (t : Transition V) → In t A.transitions → t.to < A.states) where
  -- after each prefix of a path, how many letters were read on K, and the state, as one number
  abbrev pub visits : ℕ → ℕ → List (Transition V) → List ℕ
  visits u p [] = (u * A.states + p) ∷ []
  visits u p (t ∷ ts) = (u * A.states + p) ∷ visits (u + size (on K t.label)) t.to ts

  length-visits : (u p : ℕ) (ts : List (Transition V)) → length (visits u p ts) ≡ suc (length ts)
  length-visits u p [] = refl
  length-visits u p (t ∷ ts) = ap suc (length-visits (u + size (on K t.label)) t.to ts)

  size-step : (t : Transition V) (ts : List (Transition V)) → In t A.transitions → IsPath A t.to ts → size (on K (path_label tapes (t ∷ ts))) ≡ size (on K t.label) + size (on K (path_label tapes ts))
  size-step t ts i h = size-on-join K t.label (path_label tapes ts) (labels t i ∙ sym (length-path_label A tapes labels t.to ts h))

  visits-below : (u p n : ℕ) (ts : List (Transition V)) → IsPath A p ts → p < A.states → u + size (on K (path_label tapes ts)) < n → (x : ℕ) → In x (visits u p ts) → x < n * A.states
  visits-below u p n [] h l b x (inl e) = below u p n A.states x e l (omega arith)
    where
      below : (u p n s x : ℕ) → x ≡ u * s + p → p < s → u < n → x < n * s
      below u p n s x e l b = grind arith
  visits-below u p n [] h l b x (inr i) = absurd i
  visits-below u p n (t ∷ ts) h l b x (inl e) = below u p n A.states x e l (omega arith)
    where
      below : (u p n s x : ℕ) → x ≡ u * s + p → p < s → u < n → x < n * s
      below u p n s x e l b = grind arith
  visits-below u p n (t ∷ ts) h l b x (inr i) = let s = size-step t ts h.0 h.2 in visits-below (u + size (on K t.label)) t.to n ts h.2 (to t h.0) (omega arith) x i

  -- a number among the visits is that of a prefix
  record Prefix (u p x : ℕ) (ts : List (Transition V)) : Type 0 where
    front : List (Transition V)
    rest : List (Transition V)
    is : ts ≡ front ++ rest
    visit : x ≡ (u + size (on K (path_label tapes front))) * A.states + end_of p front

  prefix_of : (u p x : ℕ) (ts : List (Transition V)) → size (on K (empty_word tapes)) ≡ 0 → IsPath A p ts → In x (visits u p ts) → Prefix u p x ts
  prefix_of u p x [] z h (inl e) = record { front = []; rest = []; is = refl; visit = e ∙ ap (λ m. m * A.states + p) (omega arith) }
  prefix_of u p x [] z h (inr i) = absurd i
  prefix_of u p x (t ∷ ts) z h (inl e) = record { front = []; rest = t ∷ ts; is = refl; visit = e ∙ ap (λ m. m * A.states + p) (omega arith) }
  prefix_of u p x (t ∷ ts) z h (inr i) =
      let r = prefix_of (u + size (on K t.label)) t.to x ts z h.2 i in
      let g = IsPath-split A t.to r.front r.rest (subst (IsPath A t.to) r.is h.2) in
      let s = size-step t r.front h.0 g.0 in
      record { front = t ∷ r.front; rest = r.rest; is = ap (λ us. t ∷ us) r.is; visit = r.visit ∙ ap (λ m. m * A.states + end_of t.to r.front) (omega arith) }

  circuit_or_once : (u p : ℕ) (ts : List (Transition V)) → size (on K (empty_word tapes)) ≡ 0 → IsPath A p ts → p < A.states → NoRepeat (visits u p ts) ⊎ Circuit tapes K p ts
  circuit_or_once u p [] z h l = inl ((λ i. i), tt)
  circuit_or_once u p (t ∷ ts) z h l = elim (find (u * A.states + p) (visits (u + size (on K t.label)) t.to ts)) [
    | inl i ↦
        let r = prefix_of (u + size (on K t.label)) t.to (u * A.states + p) ts z h.2 i in
        let g = IsPath-split A t.to r.front r.rest (subst (IsPath A t.to) r.is h.2) in
        let s = size-step t r.front h.0 g.0 in
        let e : u * A.states + p ≡ (u + size (on K (path_label tapes (t ∷ r.front)))) * A.states + end_of t.to r.front = r.visit ∙ ap (λ m. m * A.states + end_of t.to r.front) (omega arith) in
        let q = same_place A.states u (size (on K (path_label tapes (t ∷ r.front)))) p (end_of t.to r.front) l (end_below A to t.to r.front g.0 (to t h.0)) e in
        inr (record { before = []; first = t; more = r.front; after = r.rest; is = ap (λ us. t ∷ us) r.is; back = sym q.1; nothing = q.0 })
    | inr absent ↦ elim (circuit_or_once (u + size (on K t.label)) t.to ts z h.2 (to t h.0)) [
      | inl n ↦ inl (absent, n)
      | inr c ↦ inr (record { before = t ∷ c.before; first = c.first; more = c.more; after = c.after; is = ap (λ us. t ∷ us) c.is; back = c.back; nothing = c.nothing })
    ]
  ]

  pub circuit_of : (p m : ℕ) (ts : List (Transition V)) → size (on K (empty_word tapes)) ≡ 0 → IsPath A p ts → p < A.states → size (on K (path_label tapes ts)) ≡ m → (m + 1) * A.states ≤ length ts → Circuit tapes K p ts
  circuit_of p m ts z h l e b = elim (circuit_or_once 0 p ts z h l) [
    | inl n ↦
        let k = no_more_than ((m + 1) * A.states) (visits 0 p ts) n (visits-below 0 p (m + 1) ts h l (omega arith)) in
        let v = length-visits 0 p ts in
        absurd (omega arith)
    | inr c ↦ c
  ]
