-- An empty circuit of a join is one of the first automaton or one of the second.
use Rattle.std.proofs.Common.{◌≡◌, ℕ, List, [], ◌∷◌, refl, sym, ap, ap₂, ◌∙◌, inl, inr, ◌⊎◌, subst, ◌+◌, arith, length}
use Rattle.vc_model.specs.Lists.{In}
use Rattle.vc_model.specs.Words.{Tape, size, join}
use Rattle.vc_model.specs.Automata.{Transition, Automaton, IsPath, end_of, path_label, NoEmptyCircuit, IsEmptyCircuit}
use Rattle.vc_model.specs.WordLaws.{size-join, size-empty_word, is_empty-size, size-is_empty}
use Rattle.vc_model.specs.PathLaws.{length-path_label}
use Rattle.vc_model.specs.CircuitLaws.{NoEmptyCircuit-from, NoEmptyCircuit-not}
use Rattle.vc_products.specs.Joins.{part}
use Rattle.vc_products.specs.JoinMoves.{MovesTogether, MovesFirst, MovesSecond, HasMoves}

-- a path with an empty label has empty labels alone
empty_labels : {V : Type 0} (tapes : ℕ) (A : Automaton V) → ((t : Transition V) → In t A.transitions → length t.label ≡ tapes) → (p : ℕ) (t : Transition V) (ts : List (Transition V)) → IsPath A p (t ∷ ts)
    → size (path_label tapes (t ∷ ts)) ≡ 0 → (size t.label ≡ 0) × (size (path_label tapes ts) ≡ 0)
empty_labels tapes A labels p t ts h e =
    let s : size (join t.label (path_label tapes ts)) ≡ size t.label + size (path_label tapes ts) = size-join t.label (path_label tapes ts) (labels t h.0 ∙ sym (length-path_label A tapes labels t.to ts h.2)) in
    (omega (arith, s, e), omega (arith, s, e))

nil_of : (a : Tape) → length a ≡ 0 → a ≡ []
nil_of [] e = refl
nil_of (x ∷ a) e = absurd (omega (arith, e))

-- a path and one move before it, where the move's label is empty
before : {V : Type 0} (A : Automaton V) → ((t : Transition V) → In t A.transitions → length t.label ≡ 2) → (t : Transition V) (ts : List (Transition V)) → In t A.transitions → IsPath A t.to ts → size t.label ≡ 0
    → size (path_label 2 ts) ≡ 0 → size (path_label 2 (t ∷ ts)) ≡ 0
before A labels t ts i h z e =
    let s : size (join t.label (path_label 2 ts)) ≡ size t.label + size (path_label 2 ts) = size-join t.label (path_label 2 ts) (labels t i ∙ sym (length-path_label A 2 labels t.to ts h)) in
    omega (arith, s, z, e)

module _ {V : Type 0} (A B J : Automaton V) (lA : (t : Transition V) → In t A.transitions → t.label ≡ part t 0 ∷ part t 1 ∷ []) (lB : (t : Transition V) → In t B.transitions → t.label ≡ part t 0 ∷ part t 1 ∷ [])
    (lJ : (t : Transition V) → In t J.transitions → length t.label ≡ 3) (left right : ℕ → ℕ) (M : HasMoves A B J left right) where
  two_a : (t : Transition V) → In t A.transitions → length t.label ≡ 2
  two_a t i = ap length (lA t i)

  two_b : (t : Transition V) → In t B.transitions → length t.label ≡ 2
  two_b t i = ap length (lB t i)

  -- the moves of both along a path whose label is empty
  record Parted (p : ℕ) (ts : List (Transition V)) : Type 0 where
    first : List (Transition V)
    second : List (Transition V)
    is_a : IsPath A (left p) first
    is_b : IsPath B (right p) second
    end_a : end_of (left p) first ≡ left (end_of p ts)
    end_b : end_of (right p) second ≡ right (end_of p ts)
    empty_a : size (path_label 2 first) ≡ 0
    empty_b : size (path_label 2 second) ≡ 0
    count : length first + length second ≡ length ts

  parted : (p : ℕ) (ts : List (Transition V)) → IsPath J p ts → size (path_label 3 ts) ≡ 0 → Parted p ts
  parted p [] h e = record { first = []; second = []; is_a = tt; is_b = tt; end_a = refl; end_b = refl; empty_a = size-empty_word 2; empty_b = size-empty_word 2; count = refl }
  parted p (t ∷ ts) h e =
      let z = empty_labels 3 J lJ p t ts h e in
      go z.0 (M t h.0) (parted t.to ts h.2 z.1)
    where
      go : size t.label ≡ 0 → MovesTogether A B left right t ⊎ (MovesFirst A left right t ⊎ MovesSecond B left right t) → Parted t.to ts → Parted p (t ∷ ts)
      go z (inl m) r = let s : size t.label ≡ size (part m.first 0 ∷ (m.letter ∷ []) ∷ part m.second 1 ∷ []) = ap (λ w. size w) m.label in absurd (omega (arith, s, z))
      go z (inr (inl m)) r =
          let s : size t.label ≡ size (part m.first 0 ∷ [] ∷ [] ∷ []) = ap (λ w. size w) m.label in
          let n : part m.first 0 ≡ [] = nil_of (part m.first 0) (omega (arith, s, z)) in
          let l : size m.first.label ≡ 0 = ap (λ w. size w) (lA m.first m.first_in ∙ ap₂ (λ x y. x ∷ y ∷ []) n m.first_label) in
          let q : right t.to ≡ right p = m.stays ∙ ap right h.1 in
          let g : IsPath A m.first.to r.first = subst (λ q. IsPath A q r.first) (sym m.first_to) r.is_a in
          record {
            first = m.first ∷ r.first;
            second = r.second;
            is_a = (m.first_in, m.first_from ∙ ap left h.1, g);
            is_b = subst (λ q. IsPath B q r.second) q r.is_b;
            end_a = ap (λ q. end_of q r.first) m.first_to ∙ r.end_a;
            end_b = ap (λ q. end_of q r.second) (sym q) ∙ r.end_b;
            empty_a = before A two_a m.first r.first m.first_in g l r.empty_a;
            empty_b = r.empty_b;
            count = omega (arith, r.count);
          }
      go z (inr (inr m)) r =
          let s : size t.label ≡ size ([] ∷ [] ∷ part m.second 1 ∷ []) = ap (λ w. size w) m.label in
          let n : part m.second 1 ≡ [] = nil_of (part m.second 1) (omega (arith, s, z)) in
          let l : size m.second.label ≡ 0 = ap (λ w. size w) (lB m.second m.second_in ∙ ap₂ (λ x y. x ∷ y ∷ []) m.second_label n) in
          let q : left t.to ≡ left p = m.stays ∙ ap left h.1 in
          let g : IsPath B m.second.to r.second = subst (λ q. IsPath B q r.second) (sym m.second_to) r.is_b in
          record {
            first = r.first;
            second = m.second ∷ r.second;
            is_a = subst (λ q. IsPath A q r.first) q r.is_a;
            is_b = (m.second_in, m.second_from ∙ ap right h.1, g);
            end_a = ap (λ q. end_of q r.first) (sym q) ∙ r.end_a;
            end_b = ap (λ q. end_of q r.second) m.second_to ∙ r.end_b;
            empty_a = r.empty_a;
            empty_b = before B two_b m.second r.second m.second_in g l r.empty_b;
            count = omega (arith, r.count);
          }

  no_circuit : (C : Automaton V) → ((t : Transition V) → In t C.transitions → length t.label ≡ 2) → NoEmptyCircuit 2 C → (p : ℕ) (t : Transition V) (ts : List (Transition V)) → IsPath C p (t ∷ ts) → end_of p (t ∷ ts) ≡ p → size (path_label 2 (t ∷ ts)) ≡ 0 → ⊥
  no_circuit C labels N p t ts h b e = NoEmptyCircuit-not 2 C labels N p (t ∷ ts) (record { some = λ q. absurd (cc); path = h; back = b; empty = is_empty-size (path_label 2 (t ∷ ts)) e })

  pub join_free : NoEmptyCircuit 2 A → NoEmptyCircuit 2 B → NoEmptyCircuit 3 J
  join_free NA NB = NoEmptyCircuit-from 3 J lJ (λ p ts c. none p ts c (parted p ts c.path (size-is_empty (path_label 3 ts) c.empty)))
    where
      go : (p : ℕ) (us vs : List (Transition V)) → IsPath A (left p) us → IsPath B (right p) vs → end_of (left p) us ≡ left p → end_of (right p) vs ≡ right p → size (path_label 2 us) ≡ 0 → size (path_label 2 vs) ≡ 0 → (length us + length vs ≡ 0 → ⊥) → ⊥
      go p (u ∷ us) vs ga gb ea eb na nb c = no_circuit A two_a NA (left p) u us ga ea na
      go p [] (v ∷ vs) ga gb ea eb na nb c = no_circuit B two_b NB (right p) v vs gb eb nb
      go p [] [] ga gb ea eb na nb c = c refl

      none : (p : ℕ) (ts : List (Transition V)) → IsEmptyCircuit 3 J p ts → Parted p ts → ⊥
      none p ts c r = go p r.first r.second r.is_a r.is_b (r.end_a ∙ ap left c.back) (r.end_b ∙ ap right c.back) r.empty_a r.empty_b (λ e. c.some (nothing ts (sym r.count ∙ e)))
        where
          nothing : (us : List (Transition V)) → length us ≡ 0 → us ≡ []
          nothing [] e = refl
          nothing (u ∷ us) e = absurd (omega (arith, e))
