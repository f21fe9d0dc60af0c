-- What transitions come to that are inserted one after the other.
use Rattle.std.proofs.Common.{◌≡◌, ◌∙◌, sym, ap, subst, refl, ℕ, Bool, true, false, List, [], ◌∷◌, map, cond, Some, Less, Equal, Greater, inl, inr}
use Rattle.std.specs.Prelude.{◌↔◌, ◌⊎◌, not}
use Rattle.std.specs.List.{filter}
use Rattle.std.specs.Ordering.{match_ordering, is_eq}
use Rattle.std.specs.Cmp.{IsTotalOrder}
use Rattle.std.specs.declared.cmp.Ordering.{Ordering}
use Rattle.std.proofs.lemmas.List.Elements.{filter_passes}
use Rattle.std.proofs.lemmas.List.Kept.{IsStrictlySortedBy-filter}
use Rattle.std.proofs.lemmas.Map.Keys.{sorted_head, sorted_tail}
use Rattle.vc_label.specs.Order.{word_order}
use Rattle.vc_model.specs.Automata.{Transition, triple}
use Rattle.vc_model.specs.Gathered.{IsGathered, same_triple, weight_at}
use Rattle.vc_model.specs.Lists.{In, IsEqualityTest}
use Rattle.vc_model.specs.WeightSet.{WeightSet, SemiringLaws}
use Rattle.vc_model.specs.Words.{Word}
use Rattle.vc_aut.specs.Drafts.{without_zeros}
use Rattle.vc_aut.specs.Order.{triple_order, AreInOrder}
use Rattle.vc_aut.specs.Sums.{insert_transition, insert_all, standing}
use Rattle.vc_aut.proofs.Inserted.{in_order-none, in_order-inserted}
use Rattle.vc_aut.proofs.Order.{triple_order_total, same_triples, order_of_same, not_after, once_in_order}
use Rattle.vc_aut.proofs.Valid.{of_member}

In-triple : {V : Type 0} (t : Transition V) (ts : List (Transition V)) → In t ts → In (triple t) (map triple ts)
In-triple t [] i = i
In-triple t (u ∷ us) i = elim i [ inl e ↦ inl (ap triple e) | inr j ↦ inr (In-triple t us j) ]

abbrev made : {V : Type 0} → ℕ × Word × ℕ → V → Transition V
made d w = record { from = d.0; label = d.1; to = d.2; weight = w }

same_transition : {V : Type 0} (t u : Transition V) (w : V) → triple t ≡ triple u → u.weight ≡ w → record t { weight = w } ≡ u
same_transition t u w e h = ap (λ d. made d w) e ∙ ap (made (triple u)) (sym h)

module _ (total : IsTotalOrder word_order) (equal : (v w : Word) → (word_order v w ≡ Equal) ↔ (v ≡ w)) {V : Type 0} where
  stands_by : (u : Transition V) (us : List (Transition V)) (t : Transition V) (w : V) → AreInOrder (u ∷ us) → ((standing us t ≡ Some w) ↔ In (record t { weight = w }) us)
      → (o : Ordering) → triple_order t u ≡ o → (cond (is_eq o) (Some u.weight) (standing us t) ≡ Some w) ↔ In (record t { weight = w }) (u ∷ us)
  stands_by u us t w h k Equal q =
      let same : triple t ≡ triple u = same_triples total equal t u q in (
        (λ e. let x : u.weight ≡ w = cc in inl (same_transition t u w same x)),
        (λ i. elim i [
          | inl e ↦ ap (λ (x : Transition V). Some x.weight) (sym e)
          | inr j ↦ absurd (not_after total equal u us (sorted_head triple_order u us h) (subst (λ d. In d (map triple us)) same (In-triple (record t { weight = w }) us j)))
        ]),
      )
  stands_by u us t w h k Less q = (
    (λ e. inr (k.0 e)),
    (λ i. elim i [
      | inl e ↦ (let d : triple_order t u ≡ Equal = order_of_same total equal t u (ap triple e) in cc)
      | inr j ↦ k.1 j
    ]),
  )
  stands_by u us t w h k Greater q = (
    (λ e. inr (k.0 e)),
    (λ i. elim i [
      | inl e ↦ (let d : triple_order t u ≡ Equal = order_of_same total equal t u (ap triple e) in cc)
      | inr j ↦ k.1 j
    ]),
  )

  pub standing-member : (ts : List (Transition V)) (t : Transition V) (w : V) → AreInOrder ts → (standing ts t ≡ Some w) ↔ In (record t { weight = w }) ts
  standing-member [] t w h = ((λ e. cc), (λ i. absurd i))
  standing-member (u ∷ us) t w h = stands_by u us t w h (standing-member us t w (sorted_tail triple_order u us h)) (triple_order t u) refl

module _ (total : IsTotalOrder word_order) (equal : (v w : Word) → (word_order v w ≡ Equal) ↔ (v ≡ w)) {V : Type 0} (R : WeightSet V) where
  triples_by : (d : ℕ × Word × ℕ) (u : Transition V) (us vs : List (Transition V)) (t : Transition V) → (In d (map triple vs) ↔ ((d ≡ triple t) ⊎ In d (map triple us)))
      → (o : Ordering) → triple_order t u ≡ o
      → In d (map triple (match_ordering o (t ∷ u ∷ us) (record u { weight = R.plus u.weight t.weight } ∷ us) (u ∷ vs))) ↔ ((d ≡ triple t) ⊎ In d (map triple (u ∷ us)))
  triples_by d u us vs t h Less q = ((λ i. i), (λ i. i))
  triples_by d u us vs t h Equal q =
      ((λ i. inr i), (λ i. elim i [ inl e ↦ inl (e ∙ same_triples total equal t u q) | inr j ↦ j ]))
  triples_by d u us vs t h Greater q = (
    (λ i. elim i [ inl e ↦ inr (inl e) | inr j ↦ elim (h.0 j) [ inl e ↦ inl e | inr k ↦ inr (inr k) ] ]),
    (λ i. elim i [ inl e ↦ inr (h.1 (inl e)) | inr j ↦ elim j [ inl e ↦ inl e | inr k ↦ inr (h.1 (inr k)) ] ]),
  )

  pub triples-inserted : (ts : List (Transition V)) (t : Transition V) (d : ℕ × Word × ℕ) → In d (map triple (insert_transition R ts t)) ↔ ((d ≡ triple t) ⊎ In d (map triple ts))
  triples-inserted [] t d = ((λ i. i), (λ i. i))
  triples-inserted (u ∷ us) t d = triples_by d u us (insert_transition R us t) t (triples-inserted us t d) (triple_order t u) refl

  pub in_order-inserted_all : (ts added : List (Transition V)) → AreInOrder ts → AreInOrder (insert_all R ts added)
  in_order-inserted_all ts [] h = h
  in_order-inserted_all ts (t ∷ added) h = in_order-inserted_all (insert_transition R ts t) added (in_order-inserted R (triple_order_total total equal) ts t h)

  module _ (L : SemiringLaws R) where
    merged : (b : Bool) (x y W : V) → R.plus (cond b (R.plus x y) R.zero) W ≡ R.plus (R.plus (cond b x R.zero) W) (cond b y R.zero)
    merged true x y W = L.plus_assoc x y W ∙ ap (R.plus x) (L.plus_comm y W) ∙ sym (L.plus_assoc x W y)
    merged false x y W = sym (L.plus_zero (R.plus R.zero W))

    weight_by : (d : ℕ × Word × ℕ) (u : Transition V) (us vs : List (Transition V)) (t : Transition V)
        → weight_at R vs d ≡ R.plus (weight_at R us d) (cond (same_triple (triple t) d) t.weight R.zero)
        → (o : Ordering) → triple_order t u ≡ o
        → weight_at R (match_ordering o (t ∷ u ∷ us) (record u { weight = R.plus u.weight t.weight } ∷ us) (u ∷ vs)) d
        ≡ R.plus (weight_at R (u ∷ us) d) (cond (same_triple (triple t) d) t.weight R.zero)
    weight_by d u us vs t h Less q = L.plus_comm _ _
    weight_by d u us vs t h Equal q =
        let same : triple t ≡ triple u = same_triples total equal t u q in
        merged (same_triple (triple u) d) u.weight t.weight (weight_at R us d) ∙ ap (λ x. R.plus (weight_at R (u ∷ us) d) (cond (same_triple x d) t.weight R.zero)) (sym same)
    weight_by d u us vs t h Greater q = ap (R.plus (cond (same_triple (triple u) d) u.weight R.zero)) h ∙ sym (L.plus_assoc _ _ _)

    pub weight-inserted : (ts : List (Transition V)) (t : Transition V) (d : ℕ × Word × ℕ) → weight_at R (insert_transition R ts t) d ≡ R.plus (weight_at R ts d) (cond (same_triple (triple t) d) t.weight R.zero)
    weight-inserted [] t d = L.plus_comm _ _
    weight-inserted (u ∷ us) t d = weight_by d u us (insert_transition R us t) t (weight-inserted us t d) (triple_order t u) refl

    pub weight-inserted_all : (ts added : List (Transition V)) (d : ℕ × Word × ℕ) → weight_at R (insert_all R ts added) d ≡ R.plus (weight_at R ts d) (weight_at R added d)
    weight-inserted_all ts [] d = sym (L.plus_zero (weight_at R ts d))
    weight-inserted_all ts (t ∷ added) d =
        weight-inserted_all (insert_transition R ts t) added d
        ∙ ap (λ x. R.plus x (weight_at R added d)) (weight-inserted ts t d)
        ∙ L.plus_assoc (weight_at R ts d) _ (weight_at R added d)

    -- from no transition on, the sums are those of what was inserted
    pub weight-of_inserted : (added : List (Transition V)) (d : ℕ × Word × ℕ) → weight_at R (insert_all R [] added) d ≡ weight_at R added d
    weight-of_inserted added d = weight-inserted_all [] added d ∙ L.plus_comm R.zero (weight_at R added d) ∙ L.plus_zero (weight_at R added d)

    module _ (same : V → V → Bool) (tells : IsEqualityTest same) where
      kept_by : (d : ℕ × Word × ℕ) (t : Transition V) (us vs : List (Transition V)) → weight_at R us d ≡ weight_at R vs d → (b : Bool) → same t.weight R.zero ≡ b
          → weight_at R (cond (not b) (t ∷ us) us) d ≡ weight_at R (t ∷ vs) d
      kept_by d t us vs h false q = ap (R.plus (cond (same_triple (triple t) d) t.weight R.zero)) h
      kept_by d t us vs h true q =
          let z : t.weight ≡ R.zero = (tells t.weight R.zero).0 q in
          h ∙ sym (ap (λ x. R.plus x (weight_at R vs d)) (nothing (same_triple (triple t) d) t.weight z) ∙ L.plus_comm R.zero (weight_at R vs d) ∙ L.plus_zero (weight_at R vs d))
        where
          nothing : (b : Bool) (x : V) → x ≡ R.zero → cond b x R.zero ≡ R.zero
          nothing true x e = e
          nothing false x e = refl

      -- transitions of weight zero add nothing
      pub weight-without_zeros : (ts : List (Transition V)) (d : ℕ × Word × ℕ) → weight_at R (without_zeros R same ts) d ≡ weight_at R ts d
      weight-without_zeros [] d = refl
      weight-without_zeros (t ∷ ts) d = kept_by d t (without_zeros R same ts) ts (weight-without_zeros ts d) (same t.weight R.zero) refl

      -- what is left of the inserted transitions gathers them
      pub inserted_are_gathered : (added : List (Transition V)) → IsGathered R added (without_zeros R same (insert_all R [] added))
      inserted_are_gathered added =
          let ts : List (Transition V) = insert_all R [] added in
          let kept : Transition V → Bool = λ t. not (same t.weight R.zero) in
          let order : AreInOrder (filter kept ts) = IsStrictlySortedBy-filter triple_order kept ts (in_order-inserted_all [] added (in_order-none [] refl)) in
          record {
            triples = once_in_order total equal (filter kept ts) order;
            weight = λ t i e. (let k : kept t ≡ true = of_member (λ (u : Transition V). kept u ≡ true) t (filter kept ts) (filter_passes kept ts) i in let z : same t.weight R.zero ≡ true = (tells t.weight R.zero).1 e in cc);
            sums = λ d. weight-without_zeros ts d ∙ weight-of_inserted added d;
          }
