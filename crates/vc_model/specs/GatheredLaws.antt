-- Gathered transitions: their members, and the list that has them in order.
use Rattle.std.proofs.Common.{◌≡◌, ◌≢◌, ℕ, List, [], ◌∷◌, map, cond, Bool, true, false, ◌&&◌, eqb, refl, sym, ap, ap₂, ◌∙◌, inl, inr, ◌⊎◌, subst}
use Rattle.std.proofs.lemmas.Bool.{eqb-true, eq-eqb, false≢true}
use Rattle.vc_model.specs.WeightSet.{WeightSet, SemiringLaws}
use Rattle.vc_model.specs.Lists.{In, NoRepeat}
use Rattle.vc_model.specs.Words.{Word, same_word}
use Rattle.vc_model.specs.Automata.{Transition, triple}
use Rattle.vc_model.specs.Gathered.{same_triple, weight_at, IsGathered, IsAscending}
use Rattle.vc_model.specs.Rearranged.{zero_plus}
use Rattle.vc_model.specs.SumLaws.{sum_zero}
use Rattle.vc_model.specs.Members.{In-map}
use Rattle.vc_model.specs.WordLaws.{and_parts, and_both, same_word-true, same_word_refl}
use Rattle.vc_model.specs.Choices.{off}

-- triples that pass the test are equal
pub triple_tells : (a b : ℕ × Word × ℕ) → same_triple a b ≡ true → a ≡ b
triple_tells a b e =
    let r = and_parts (eqb a.0 b.0) (same_word a.1 b.1 && eqb a.2 b.2) e in
    let s = and_parts (same_word a.1 b.1) (eqb a.2 b.2) r.1 in
    ap (λ x. (x, a.1, a.2)) (eqb-true a.0 b.0 r.0) ∙ ap (λ y. (b.0, y, a.2)) (same_word-true a.1 b.1 s.0) ∙ ap (λ z. (b.0, b.1, z)) (eqb-true a.2 b.2 s.1)

-- a triple passes the test with itself
pub triple_self : (a : ℕ × Word × ℕ) → same_triple a a ≡ true
triple_self a = and_both _ _ (eq-eqb a.0 a.0 refl) (and_both _ _ (same_word_refl a.1) (eq-eqb a.2 a.2 refl))

-- two lists in the same order with the same members are equal
pub ascending_same : {X : Type 0} (before : X → X → Bool) → ((a b : X) → before a b ≡ true → before b a ≡ false) → (xs ys : List X) → IsAscending before xs → IsAscending before ys
    → ((x : X) → In x xs → In x ys) → ((y : X) → In y ys → In y xs) → xs ≡ ys
ascending_same before one [] [] a b f g = refl
ascending_same before one [] (y ∷ ys) a b f g = absurd (g y (inl refl))
ascending_same before one (x ∷ xs) [] a b f g = absurd (f x (inl refl))
ascending_same {X} before one (x ∷ xs) (y ∷ ys) a b f g =
    let e = head (f x (inl refl)) (g y (inl refl)) in
    ap₂ ◌∷◌ e (ascending_same before one xs ys a.1 b.1 (λ z i. later x y xs ys a z i (f z (inr i)) e) (λ z i. later y x ys xs b z i (g z (inr i)) (sym e)))
  where
    head : In x (y ∷ ys) → In y (x ∷ xs) → x ≡ y
    head (inl e) k = e
    head (inr i) (inl e) = sym e
    head (inr i) (inr k) = absurd (false≢true (sym (one x y (a.0 y k)) ∙ b.0 x i))

    later : (x y : X) (xs ys : List X) → IsAscending before (x ∷ xs) → (z : X) → In z xs → In z (y ∷ ys) → x ≡ y → In z ys
    later x y xs ys a z i (inr k) e = k
    later x y xs ys a z i (inl q) e =
        let h : before x x ≡ true = subst (λ v. before x v ≡ true) (q ∙ sym e) (a.0 z i) in
        absurd (false≢true (sym (one x x h) ∙ h))

module _ {V : Type 0} {R : WeightSet V} (L : SemiringLaws R) where
  -- the weight of a member is the sum at its triple
  pub member_weight : (ts : List (Transition V)) → NoRepeat (map triple ts) → (t : Transition V) → In t ts → weight_at R ts (triple t) ≡ t.weight
  member_weight [] n t i = absurd i
  member_weight (u ∷ ts) n t (inl e) =
      ap₂ R.plus (ap (λ (v : Transition V). cond (same_triple (triple v) (triple t)) v.weight R.zero) (sym e) ∙ ap (λ b. cond b t.weight R.zero) (triple_self (triple t)))
      (sum_zero L _ ts (λ v j. off R.zero (same_triple (triple v) (triple t)) v.weight (λ q. n.0 (subst (λ z. In z (map triple ts)) (triple_tells (triple v) (triple t) q ∙ ap (λ w. triple w) e) (In-map triple v ts j)))))
      ∙ L.plus_zero t.weight
  member_weight (u ∷ ts) n t (inr i) =
      ap (λ x. R.plus x (weight_at R ts (triple t))) (off R.zero (same_triple (triple u) (triple t)) u.weight (λ q. n.0 (subst (λ z. In z (map triple ts)) (sym (triple_tells (triple u) (triple t) q)) (In-map triple t ts i))))
      ∙ zero_plus L _ ∙ member_weight ts n.1 t i

  -- a list has a transition with the triple, or the sum there is zero
  pub part_or_none : (raw : List (Transition V)) (d : ℕ × Word × ℕ) → ((r : Transition V) × In r raw × (triple r ≡ d)) ⊎ (weight_at R raw d ≡ R.zero)
  part_or_none [] d = inr refl
  part_or_none (r ∷ raw) d = go (same_triple (triple r) d) refl (part_or_none raw d)
    where
      go : (b : Bool) → same_triple (triple r) d ≡ b → ((q : Transition V) × In q raw × (triple q ≡ d)) ⊎ (weight_at R raw d ≡ R.zero) → ((q : Transition V) × In q (r ∷ raw) × (triple q ≡ d)) ⊎ (R.plus (cond (same_triple (triple r) d) r.weight R.zero) (weight_at R raw d) ≡ R.zero)
      go true e k = inl (r, inl refl, triple_tells (triple r) d e)
      go false e (inl k) = inl (k.0, inr k.1, k.2)
      go false e (inr k) = inr (ap₂ R.plus (ap (λ b. cond b r.weight R.zero) e) k ∙ L.plus_zero R.zero)

  -- a gathered transition has the sum at its triple as its weight, and it is not zero
  pub gathered_members : (raw ts : List (Transition V)) → IsGathered R raw ts → (t : Transition V) → In t ts → (t.weight ≡ weight_at R raw (triple t)) × (t.weight ≢ R.zero)
  gathered_members raw ts G t i = (sym (member_weight ts G.triples t i) ∙ G.sums (triple t), G.weight t i)

  -- a transition with the sum at its triple, which is not zero, is gathered
  pub members_gathered : (raw ts : List (Transition V)) → IsGathered R raw ts → (t : Transition V) → t.weight ≡ weight_at R raw (triple t) → t.weight ≢ R.zero → In t ts
  members_gathered raw ts G t e n = elim (part_or_none ts (triple t)) [
    | inl r ↦ subst (λ z. In z ts) (same r.0 t r.2 (sym (member_weight ts G.triples r.0 r.1) ∙ ap (weight_at R ts) r.2 ∙ G.sums (triple t) ∙ sym e)) r.1
    | inr z ↦ absurd (n (e ∙ sym (G.sums (triple t)) ∙ z))
  ]
    where
      same : (r t : Transition V) → triple r ≡ triple t → r.weight ≡ t.weight → r ≡ t
      same r t e f = ap₂ (λ (z : ℕ × Word × ℕ) (x : V). record { from = z.0; label = z.1; to = z.2; weight = x }) e f

  -- in an order of the triples the gathered list is one
  pub gathered_alike : (before : ℕ × Word × ℕ → ℕ × Word × ℕ → Bool) → ((a b : ℕ × Word × ℕ) → before a b ≡ true → before b a ≡ false) → (raw other ts us : List (Transition V)) → IsGathered R raw ts → IsGathered R other us
      → ((d : ℕ × Word × ℕ) → weight_at R raw d ≡ weight_at R other d) → IsAscending (λ t u. before (triple t) (triple u)) ts → IsAscending (λ t u. before (triple t) (triple u)) us → ts ≡ us
  gathered_alike before one raw other ts us G H e a b =
      ascending_same (λ t u. before (triple t) (triple u)) (λ t u. one (triple t) (triple u)) ts us a b
      (λ t i. let m = gathered_members raw ts G t i in members_gathered other us H t (m.0 ∙ e (triple t)) m.1)
      (λ t i. let m = gathered_members other us H t i in members_gathered raw ts G t (m.0 ∙ sym (e (triple t))) m.1)
