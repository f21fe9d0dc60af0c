-- Gathering: distinct keys, sums over gathered transitions, and what gather gives.
use Rattle.std.proofs.Common.{◌≡◌, ℕ, List, [], ◌∷◌, ◌++◌, map, cond, Bool, true, false, not, eqb, refl, sym, ap, ◌∙◌, inl, inr, subst, length}
use Rattle.std.specs.List.{filter}
use Rattle.std.proofs.lemmas.Bool.{false≢true}
use Rattle.vc_model.specs.WeightSet.{WeightSet, SemiringLaws}
use Rattle.vc_model.specs.Lists.{In, NoRepeat, IsEqualityTest}
use Rattle.vc_model.specs.Sums.{sum_over}
use Rattle.vc_model.specs.Words.{Word}
use Rattle.vc_model.specs.Automata.{Transition, triple}
use Rattle.vc_model.specs.Gathered.{same_triple, weight_at, IsGathered, distinct, gather}
use Rattle.vc_model.specs.Rearranged.{zero_times}
use Rattle.vc_model.specs.SumLaws.{sum-map, sum-filter, sum_same, sum_zero, sum-times_right}
use Rattle.vc_model.specs.Members.{In-append_left, In-append_right, In-map, In-map_from, In-filter, In-filter_from, NoRepeat-map, NoRepeat-filter}
use Rattle.vc_model.specs.Keys.{sum_by_key, sum_at}
use Rattle.vc_model.specs.Choices.{times-cond}
use Rattle.vc_model.specs.GatheredLaws.{triple_tells, triple_self, member_weight, part_or_none}

not-true : (b : Bool) → not b ≡ true → b ≡ true → ⊥
not-true true h e = false≢true h
not-true false h e = false≢true e

pub distinct-NoRepeat : {X : Type 0} (same : X → X → Bool) (self : (a : X) → same a a ≡ true) (xs : List X) → NoRepeat (distinct same xs)
distinct-NoRepeat same self [] = tt
distinct-NoRepeat same self (x ∷ xs) = ((λ i. not-true (same x x) (In-filter_from (λ y. not (same x y)) x (distinct same xs) i).1 (self x)), NoRepeat-filter (λ y. not (same x y)) (distinct same xs) (distinct-NoRepeat same self xs))

pub In-distinct : {X : Type 0} (same : X → X → Bool) (tells : (a b : X) → same a b ≡ true → a ≡ b) (y : X) (xs : List X) → In y xs → In y (distinct same xs)
In-distinct same tells y [] i = absurd i
In-distinct same tells y (x ∷ xs) (inl e) = inl e
In-distinct same tells y (x ∷ xs) (inr i) = go (same x y) refl (In-distinct same tells y xs i)
  where
    go : (b : Bool) → same x y ≡ b → In y (distinct same xs) → In y (distinct same (x ∷ xs))
    go true e j = inl (sym (tells x y e))
    go false e j = inr (In-filter (λ z. not (same x z)) y (distinct same xs) j (ap not e))

pub In-distinct_from : {X : Type 0} (same : X → X → Bool) (y : X) (xs : List X) → In y (distinct same xs) → In y xs
In-distinct_from same y [] i = absurd i
In-distinct_from same y (x ∷ xs) (inl e) = inl e
In-distinct_from same y (x ∷ xs) (inr i) = inr (In-distinct_from same y xs (In-filter_from (λ z. not (same x z)) y (distinct same xs) i).0)

module _ {V : Type 0} {R : WeightSet V} (L : SemiringLaws R) where
  -- one key's part of a sum
  key_part : (h : ℕ → Word → ℕ → V) (d : ℕ × Word × ℕ) (ts : List (Transition V)) → sum_over R (λ t. cond (same_triple (triple t) d) (R.times t.weight (h t.from t.label t.to)) R.zero) ts ≡ R.times (weight_at R ts d) (h d.0 d.1 d.2)
  key_part h d ts = sum_same L _ (λ t. R.times (cond (same_triple (triple t) d) t.weight R.zero) (h d.0 d.1 d.2)) ts (λ t i. go t (same_triple (triple t) d) refl) ∙ sum-times_right L (h d.0 d.1 d.2) (λ t. cond (same_triple (triple t) d) t.weight R.zero) ts
    where
      go : (t : Transition V) (b : Bool) → same_triple (triple t) d ≡ b → cond b (R.times t.weight (h t.from t.label t.to)) R.zero ≡ R.times (cond b t.weight R.zero) (h d.0 d.1 d.2)
      go t true e = ap (λ (z : ℕ × Word × ℕ). R.times t.weight (h z.0 z.1 z.2)) (triple_tells (triple t) d e)
      go t false e = sym (zero_times L _)

  -- a sum over gathered transitions is that over the raw ones
  pub gathered_sum : (raw ts : List (Transition V)) → ((d : ℕ × Word × ℕ) → weight_at R ts d ≡ weight_at R raw d) → (h : ℕ → Word → ℕ → V) → sum_over R (λ t. R.times t.weight (h t.from t.label t.to)) ts ≡ sum_over R (λ t. R.times t.weight (h t.from t.label t.to)) raw
  gathered_sum raw ts sums h =
      let all = map triple (ts ++ raw) in
      let keys = distinct same_triple all in
      let n = distinct-NoRepeat same_triple triple_self all in
      sum_by_key L same_triple triple_tells triple_self triple (λ t. R.times t.weight (h t.from t.label t.to)) ts keys n (λ t i. In-distinct same_triple triple_tells (triple t) all (In-map triple t (ts ++ raw) (In-append_left t ts raw i)))
      ∙ sum_same L _ _ keys (λ d i. key_part h d ts ∙ ap (λ x. R.times x (h d.0 d.1 d.2)) (sums d) ∙ sym (key_part h d raw))
      ∙ sym (sum_by_key L same_triple triple_tells triple_self triple (λ t. R.times t.weight (h t.from t.label t.to)) raw keys n (λ t i. In-distinct same_triple triple_tells (triple t) all (In-map triple t (ts ++ raw) (In-append_right t ts raw i))))

  -- the transitions from a state
  pub gathered_steps : (raw ts : List (Transition V)) → ((d : ℕ × Word × ℕ) → weight_at R ts d ≡ weight_at R raw d) → (p : ℕ) (h : Word → ℕ → V)
      → sum_over R (λ t. cond (eqb t.from p) (R.times t.weight (h t.label t.to)) R.zero) ts ≡ sum_over R (λ t. cond (eqb t.from p) (R.times t.weight (h t.label t.to)) R.zero) raw
  gathered_steps raw ts sums p h =
      sum_same L _ _ ts (λ t i. sym (times-cond L t.weight (eqb t.from p) (h t.label t.to)))
      ∙ gathered_sum raw ts sums (λ f a q. cond (eqb f p) (h a q) R.zero)
      ∙ sum_same L _ _ raw (λ t i. times-cond L t.weight (eqb t.from p) (h t.label t.to))

  -- each gathered transition has a raw one
  pub gathered_from : (raw ts : List (Transition V)) → IsGathered R raw ts → (t : Transition V) → In t ts → (r : Transition V) × In r raw × (triple r ≡ triple t)
  gathered_from raw ts G t i = elim (part_or_none L raw (triple t)) [
    | inl r ↦ r
    | inr e ↦ absurd (G.weight t i (sym (member_weight L ts G.triples t i) ∙ G.sums (triple t) ∙ e))
  ]

  pub gathered_labels : (tapes : ℕ) (raw ts : List (Transition V)) → IsGathered R raw ts → ((t : Transition V) → In t raw → length t.label ≡ tapes) → (t : Transition V) → In t ts → length t.label ≡ tapes
  gathered_labels tapes raw ts G labels t i = let r = gathered_from raw ts G t i in subst (λ (z : ℕ × Word × ℕ). length z.1 ≡ tapes) r.2 (labels r.0 r.1)

  -- gather gathers
  pub gather_is : (same : V → V → Bool) → IsEqualityTest same → (raw : List (Transition V)) → IsGathered R raw (gather R same raw)
  gather_is same T raw =
      let keys = distinct same_triple (map triple raw) in
      let made : ℕ × Word × ℕ → Transition V = λ d. record { from = d.0; label = d.1; to = d.2; weight = weight_at R raw d } in
      let full : Transition V → Bool = λ t. not (same t.weight R.zero) in
      let n = distinct-NoRepeat same_triple triple_self (map triple raw) in
      record {
        triples = NoRepeat-map triple (filter full (map made keys)) (λ t u i k e.
            let a = In-map_from made t keys (In-filter_from full t (map made keys) i).0 in
            let b = In-map_from made u keys (In-filter_from full u (map made keys) k).0 in
            a.2 ∙ ap made (ap (λ v. triple v) (sym a.2) ∙ e ∙ ap (λ v. triple v) b.2) ∙ sym b.2)
            (NoRepeat-filter full (map made keys) (NoRepeat-map made keys (λ a b i k e. ap (λ v. triple v) e) n));
        weight = λ t i e. not-true (same t.weight R.zero) (In-filter_from full t (map made keys) i).1 ((T t.weight R.zero).1 e);
        sums = λ d.
            sum-filter L (λ t. cond (same_triple (triple t) d) t.weight R.zero) full (map made keys)
            ∙ sum-map L (λ t. cond (full t) (cond (same_triple (triple t) d) t.weight R.zero) R.zero) made keys
            ∙ sum_same L _ (λ c. cond (same_triple d c) (weight_at R raw d) R.zero) keys (λ c i. kept c d (same (weight_at R raw c) R.zero) (same_triple c d) (same_triple d c) refl refl refl)
            ∙ elim (part_or_none L raw d) [
              | inl r ↦ sum_at L same_triple triple_tells triple_self (weight_at R raw d) d keys n (In-distinct same_triple triple_tells d (map triple raw) (subst (λ z. In z (map triple raw)) r.2 (In-map triple r.0 raw r.1)))
              | inr e ↦ sum_zero L _ keys (λ c i. nothing (same_triple d c) d e) ∙ sym e
            ];
      }
    where
      nothing : (b : Bool) (d : ℕ × Word × ℕ) → weight_at R raw d ≡ R.zero → cond b (weight_at R raw d) R.zero ≡ R.zero
      nothing true d e = e
      nothing false d e = refl

      kept : (c d : ℕ × Word × ℕ) (z b b' : Bool) → same (weight_at R raw c) R.zero ≡ z → same_triple c d ≡ b → same_triple d c ≡ b' → cond (not z) (cond b (weight_at R raw c) R.zero) R.zero ≡ cond b' (weight_at R raw d) R.zero
      kept c d true true true q e e' = sym (ap (weight_at R raw) (triple_tells d c e') ∙ (T (weight_at R raw c) R.zero).0 q)
      kept c d true true false q e e' = refl
      kept c d true false true q e e' = absurd (false≢true (sym e ∙ (ap (λ x. same_triple x d) (sym (triple_tells d c e')) ∙ triple_self d)))
      kept c d true false false q e e' = refl
      kept c d false true true q e e' = ap (weight_at R raw) (triple_tells c d e)
      kept c d false true false q e e' = absurd (false≢true (sym e' ∙ (ap (λ x. same_triple d x) (triple_tells c d e) ∙ triple_self d)))
      kept c d false false true q e e' = absurd (false≢true (sym e ∙ (ap (λ x. same_triple x d) (sym (triple_tells d c e')) ∙ triple_self d)))
      kept c d false false false q e e' = refl
