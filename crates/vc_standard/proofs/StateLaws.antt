-- The transitions of all states.
use Rattle.std.proofs.Common.{◌≡◌, ℕ, suc, List, [], ◌∷◌, ◌++◌, map, length, length-append, ◌+◌, ◌<◌, ◌≤◌, sym, ap, ap₂, ◌∙◌, subst, arith, refl, inl, inr, append_assoc, append-nil, get_or, replicate, zero}
use Rattle.std.specs.Prelude.{All, IsTrue}
use Rattle.std.proofs.lemmas.List.{length-map, map-append}
use Rattle.std.proofs.lemmas.List.Elements.{All-map}
use Rattle.std.specs.Ordering.{match_ordering}
use Rattle.std.specs.declared.cmp.Ordering.{Ordering}
use Rattle.std.specs.declared.cmp.Ordering.TheVariants.{Less, Equal, Greater}
use Rattle.vc_aut.specs.Order.{triple_order}
use Rattle.vc_aut.specs.Sums.{insert_transition, insert_all}
use Rattle.vc_aut.specs.Validity.{IsMove}
use Rattle.vc_label.specs.Sets.{IsOverSets}
use Rattle.vc_label.specs.declared.tape_set.TapeSet.{TapeSet}
use Rattle.vc_model.specs.Automata.{Transition}
use Rattle.vc_model.specs.Items.{Item}
use Rattle.vc_model.specs.Lists.{In}
use Rattle.vc_model.specs.Members.{In-append_cases, In-map_from}
use Rattle.vc_model.specs.WeightSet.{WeightSet}
use Rattle.vc_model.specs.Words.{Word}
use Rattle.vc_standard.specs.Automata.{leaving, leaving_all, states_of}
use Rattle.vc_standard.specs.Counts.{moves_in}
use Rattle.vc_standard.specs.Structures.{Position, Standard, size_of}
use Rattle.vc_standard.specs.Within.{Are, AreAll, IsTo, IsWithin, IsFew}
use Rattle.vc_standard.proofs.Faults.{at_place}
use Rattle.vc_standard.proofs.MoveLaws.{are-in, are-weaker, all-weaker}

-- one more of several equal ones
pub replicate_more : {V : Type 0} (n : ℕ) (x : V) → replicate n x ++ x ∷ [] ≡ replicate (n + 1) x
replicate_more zero x = refl
replicate_more {V} (suc n) x = ap (λ (xs : List V). x ∷ xs) (replicate_more n x) ∙ ap (λ k. replicate k x) (next n)
  where
    next : (n : ℕ) → suc (n + 1) ≡ suc n + 1
    next n = omega arith

few : (n : ℕ) → n < 1000000 → (Q : Word → Type 0) (a : Word) (i : ℕ) → IsTo Q n a i → IsFew a i
few n h Q a i t = let b = t.1 in omega (arith, b, h)

module _ {V : Type 0} where
  pub leaving-append : (i : ℕ) (ps qs : List (Position V)) → leaving_all i (ps ++ qs) ≡ leaving_all i ps ++ leaving_all (i + length ps) qs
  leaving-append i [] qs = ap (λ k. leaving_all k qs) (none i)
    where
      none : (i : ℕ) → i ≡ i + 0
      none i = omega arith
  leaving-append i (p ∷ ps) qs =
      ap (λ ts. leaving i p.moves ++ ts) (leaving-append (suc i) ps qs ∙ ap (λ k. leaving_all (suc i) ps ++ leaving_all k qs) (next i (length ps)))
      ∙ sym (append_assoc (leaving i p.moves) (leaving_all (suc i) ps) (leaving_all (i + length (p ∷ ps)) qs))
    where
      next : (i n : ℕ) → suc i + n ≡ i + suc n
      next i n = omega arith

  -- one state more
  pub leaving_next : {X : Type 0} (f : X → Position V) (xs : List X) (x : X) (number : ℕ) (before so_far now : List (Transition V)) → number ≡ length xs + 1 → so_far ≡ before ++ leaving_all 1 (map f xs)
      → now ≡ so_far ++ leaving number (f x).moves → now ≡ before ++ leaving_all 1 (map f (xs ++ x ∷ []))
  leaving_next f xs x number before so_far now e a b =
      b ∙ ap₂ (λ ts k. ts ++ leaving k (f x).moves) a (e ∙ count)
      ∙ append_assoc before (leaving_all 1 (map f xs)) (leaving (1 + length (map f xs)) (f x).moves)
      ∙ ap (λ ts. before ++ ts) (sym (ap (leaving_all 1) (map-append f xs (x ∷ [])) ∙ leaving-append 1 (map f xs) (f x ∷ [])
      ∙ ap (λ ts. leaving_all 1 (map f xs) ++ ts) (append-nil (leaving (1 + length (map f xs)) (f x).moves))))
    where
      count : length xs + 1 ≡ 1 + length (map f xs)
      count = let h = length-map xs f in omega (arith, h)

  pub all_at : (K : Word → ℕ → Type 0) (ps : List (Position V)) (p : Position V) → In p ps → AreAll K ps → Are K p.moves
  all_at K [] p i h = absurd i
  all_at K (q ∷ ps) p (inl e) h = subst (λ z. Are K z.moves) (sym e) h.0
  all_at K (q ∷ ps) p (inr i) h = all_at K ps p i h.1

  -- each transition begins at one of the states, leads to a position, and has a label that is such
  leaving-over : (Q : Word → Type 0) (n i : ℕ) (ps : List (Position V)) → AreAll (IsTo Q n) ps → (t : Transition V) → In t (leaving_all i ps) → (t.from < i + length ps) × (t.to < suc n) × Q t.label
  leaving-over Q n i [] h t k = absurd k
  leaving-over Q n i (p ∷ ps) h t k = elim (In-append_cases t (leaving i p.moves) (leaving_all (suc i) ps) k) [
    | inl m ↦
        let r = In-map_from (λ (e : Item V ℕ). record { from = i; label = e.label; to = suc e.to; weight = e.weight }) t p.moves m in
        let a = are-in (IsTo Q n) p.moves h.0 r.0 r.1 in
        let b = a.1 in
        let from : t.from ≡ i = ap (λ z. z.from) r.2 in
        let to : t.to ≡ suc r.0.to = ap (λ z. z.to) r.2 in
        (omega (arith, from), omega (arith, to, b), subst Q (sym (ap (λ z. z.label) r.2)) a.0)
    | inr m ↦ let a = leaving-over Q n (suc i) ps h.1 t m in let b = a.0 in (omega (arith, b), a.1, a.2)
  ]

  pub moves_over : (Q : Word → Type 0) (A : Standard V) → IsWithin Q A → (t : Transition V) → In t (leaving_all 0 (states_of A)) → (t.from < suc (size_of A)) × (t.to < suc (size_of A)) × Q t.label
  moves_over Q A h t i = let a = leaving-over Q (size_of A) 0 (states_of A) h t i in let b = a.0 in (omega (arith, b), a.1, a.2)

  pub are_moves : {X : Type 0} (R : WeightSet V) (sets : List TapeSet) (A : Standard V) (f : X → Transition V) (weight : X → V) → ((x : X) → (f x).weight ≡ weight x) → (xs : List X) (n : ℕ) → n ≡ suc (size_of A)
      → IsWithin (λ a. IsOverSets sets a) A → map f xs ≡ leaving_all 0 (states_of A) → All (λ x. IsTrue (R.in_range (weight x))) xs → All (IsMove R sets n) (map f xs)
  are_moves R sets A f weight w xs n e h m a =
      subst (λ k. All (IsMove R sets k) (map f xs)) (sym e)
      (All-map (IsMove R sets (suc (size_of A))) f xs (λ k d l.
      let x = get_or xs k d in
      let i : In (f x) (leaving_all 0 (states_of A)) = subst (In (f x)) m (at_place f xs k d l) in
      let r = moves_over (λ a. IsOverSets sets a) A h (f x) i in
      record { from = r.0; to = r.1; label = r.2; weight = subst (λ v. IsTrue (R.in_range v)) (sym (w x)) (a k d l) }))

  pub few_start : (Q : Word → Type 0) (A : Standard V) → size_of A < 1000000 → IsWithin Q A → Are IsFew A.start.moves
  few_start Q A h w = are-weaker (IsTo Q (size_of A)) IsFew (few (size_of A) h Q) A.start.moves w.0

  pub few_positions : (Q : Word → Type 0) (A : Standard V) → size_of A < 1000000 → IsWithin Q A → AreAll IsFew A.positions
  few_positions Q A h w = all-weaker (IsTo Q (size_of A)) IsFew (few (size_of A) h Q) A.positions w.1

  pub length-leaving : (i : ℕ) (ps : List (Position V)) → length (leaving_all i ps) ≡ moves_in ps
  length-leaving i [] = refl
  length-leaving i (p ∷ ps) =
      length-append (leaving i p.moves) (leaving_all (suc i) ps)
      ∙ ap₂ ◌+◌ (length-map p.moves (λ e. record { from = i; label = e.label; to = suc e.to; weight = e.weight })) (length-leaving (suc i) ps)

  -- the final weights, as they are stored
  pub finals_of : {X : Type 0} (f : X → Position V) (xs : List X) → map (λ x. (f x).final) xs ≡ map (λ p. p.final) (map f xs)
  finals_of f [] = refl
  finals_of f (x ∷ xs) = ap (λ (vs : List V). (f x).final ∷ vs) (finals_of f xs)

  -- no initial weight behind the start
  pub none_behind : (n : ℕ) (x : V) (q : ℕ) → get_or (replicate n x) q x ≡ x
  none_behind zero x q = refl
  none_behind (suc n) x zero = refl
  none_behind (suc n) x (suc q) = none_behind n x q

  -- transitions that are inserted are no more than before and one
  insert-length : (R : WeightSet V) (ts : List (Transition V)) (t : Transition V) → length (insert_transition R ts t) ≤ length ts + 1
  insert-length R [] t = omega arith
  insert-length R (u ∷ us) t = go (triple_order t u) (insert-length R us t)
    where
      go : (o : Ordering) → length (insert_transition R us t) ≤ length us + 1 → length (match_ordering o (t ∷ u ∷ us) (record u { weight = R.plus u.weight t.weight } ∷ us) (u ∷ insert_transition R us t)) ≤ length (u ∷ us) + 1
      go Less h = omega arith
      go Equal h = omega arith
      go Greater h = omega (arith, h)

  pub inserted-length : (R : WeightSet V) (ts added : List (Transition V)) → length (insert_all R ts added) ≤ length ts + length added
  inserted-length R ts [] = omega arith
  inserted-length R ts (t ∷ added) =
      let a = inserted-length R (insert_transition R ts t) added in
      let b = insert-length R ts t in
      omega (arith, a, b)
