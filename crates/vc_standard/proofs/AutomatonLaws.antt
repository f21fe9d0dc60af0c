-- An automaton of a structure has the series that the structure stands for.
use Rattle.std.proofs.Common.{◌≡◌, ℕ, zero, suc, List, [], ◌∷◌, map, cond, Bool, true, false, eqb, refl, sym, ap, ap₂, ◌∙◌, subst, length, get_or, ◌+◌, ◌<◌, arith, inl, inr}
use Rattle.std.proofs.lemmas.Bool.{eqb-true, eq-eqb}
use Rattle.vc_model.specs.WeightSet.{WeightSet, SemiringLaws}
use Rattle.vc_model.specs.Lists.{In}
use Rattle.vc_model.specs.Members.{In-append_cases, In-map_from}
use Rattle.vc_model.specs.Rearranged.{zero_plus, plus_zero}
use Rattle.vc_model.specs.SumLaws.{sum-append, sum-map, sum_zero, sum_same}
use Rattle.vc_model.specs.Sums.{sum_over}
use Rattle.vc_model.specs.Words.{Word}
use Rattle.vc_model.specs.Series.{Series}
use Rattle.vc_model.specs.Items.{IsGiven, taken}
use Rattle.vc_terms.specs.ItemLists.{mapped}
use Rattle.vc_model.specs.Automata.{Transition}
use Rattle.vc_standard.specs.Structures.{Moves, Position, Standard}
use Rattle.vc_standard.specs.Given.{Hold}
use Rattle.vc_standard.specs.Laws.{PlaceLaws}
use Rattle.vc_standard.specs.Automata.{leaving, leaving_all, states_of}
use Rattle.vc_standard.proofs.GivenLaws.{with_start, hold-behind}

-- the transitions of the state with a number, to states
abbrev pub items_at : {V : Type 0} → List (Position V) → ℕ → Moves V
items_at [] i = []
items_at (p ∷ ps) zero = mapped (λ i. suc i) p.moves
items_at (p ∷ ps) (suc i) = items_at ps i

eqb-apart : (i p : ℕ) → (i ≡ p → ⊥) → eqb i p ≡ false
eqb-apart i p h = go (eqb i p) refl
  where
    go : (b : Bool) → eqb i p ≡ b → b ≡ false
    go true e = absurd (h (eqb-true i p e))
    go false e = refl

module _ {V : Type 0} {R : WeightSet V} (L : SemiringLaws R) where
  abbrev From : ℕ → (Word → ℕ → V) → Transition V → V
  From p h t = cond (eqb t.from p) (R.times t.weight (h t.label t.to)) R.zero

  leaving-here : (p i : ℕ) (h : Word → ℕ → V) → i ≡ p → (xs : Moves V) → sum_over R (From p h) (leaving i xs) ≡ taken R h (mapped (λ j. suc j) xs)
  leaving-here p i h e xs =
      sum-map L (From p h) (λ e. record { from = i; label = e.label; to = suc e.to; weight = e.weight }) xs
      ∙ sum_same L _ (λ e. R.times e.weight (h e.label (suc e.to))) xs (λ x j. ap (λ b. cond b (R.times x.weight (h x.label (suc x.to))) R.zero) (eq-eqb i p e))
      ∙ sym (sum-map L (λ e. R.times e.weight (h e.label e.to)) (λ e. record { label = e.label; weight = e.weight; to = suc e.to }) xs)

  leaving-off : (p i : ℕ) (h : Word → ℕ → V) → (i ≡ p → ⊥) → (xs : Moves V) → sum_over R (From p h) (leaving i xs) ≡ R.zero
  leaving-off p i h e xs =
      sum-map L (From p h) (λ e. record { from = i; label = e.label; to = suc e.to; weight = e.weight }) xs
      ∙ sum_zero L _ xs (λ x j. ap (λ b. cond b (R.times x.weight (h x.label (suc x.to))) R.zero) (eqb-apart i p e))

  all-off : (p i : ℕ) (h : Word → ℕ → V) → p < i → (ps : List (Position V)) → sum_over R (From p h) (leaving_all i ps) ≡ R.zero
  all-off p i h l [] = refl
  all-off p i h l (q ∷ qs) =
      sum-append L (From p h) (leaving i q.moves) (leaving_all (suc i) qs)
      ∙ ap₂ R.plus (leaving-off p i h (λ e. absurd (omega (arith, e, l))) q.moves) (all-off p (suc i) h (omega (arith, l)) qs) ∙ plus_zero L R.zero

  pub leaving-sum : (h : Word → ℕ → V) (i k p : ℕ) → k ≡ i + p → (ps : List (Position V)) → sum_over R (From k h) (leaving_all i ps) ≡ taken R h (items_at ps p)
  leaving-sum h i k p e [] = refl
  leaving-sum h i k zero e (q ∷ qs) =
      sum-append L (From k h) (leaving i q.moves) (leaving_all (suc i) qs)
      ∙ ap₂ R.plus (leaving-here k i h (omega (arith, e)) q.moves) (all-off k (suc i) h (omega (arith, e)) qs) ∙ plus_zero L _
  leaving-sum h i k (suc p) e (q ∷ qs) =
      sum-append L (From k h) (leaving i q.moves) (leaving_all (suc i) qs)
      ∙ ap₂ R.plus (leaving-off k i h (λ d. absurd (omega (arith, d, e))) q.moves) (leaving-sum h (suc i) k p (omega (arith, e)) qs) ∙ zero_plus L _

module _ {V : Type 0} {R : WeightSet V} (L : SemiringLaws R) (equal : V → V → Bool) (I : PlaceLaws R equal) (tapes : ℕ) (f : Series V) (X : ℕ → Series V) where
  -- each state's series is given by its final weight and its transitions
  state_given : (k : ℕ) (ps : List (Position V)) (i n : ℕ) → n ≡ k + i → Hold R tapes (with_start f X) X k ps → i < length ps
      → IsGiven R tapes (with_start f X n) (get_or (map (λ s. s.final) ps) i R.zero) (with_start f X) (items_at ps i)
  state_given k [] i n e h l = absurd (omega (arith, l))
  state_given k (p ∷ ps) zero n e h l =
      subst (λ j. IsGiven R tapes (with_start f X j) p.final (with_start f X) (mapped (λ i. suc i) p.moves)) (none k ∙ sym e)
      (λ w m. h.0 w m ∙ ap (R.plus _) (sym (I.led _ (λ i. suc i) p.moves)))
    where
      none : (k : ℕ) → k ≡ k + 0
      none k = omega arith
  state_given k (p ∷ ps) (suc i) n e h l = state_given (suc k) ps i n (omega (arith, e)) h.1 (omega (arith, l))

  pub states_given : (A : Standard V) → IsGiven R tapes f A.start.final X A.start.moves → Hold R tapes X X 0 A.positions → (i : ℕ) → i < length (states_of A)
      → IsGiven R tapes (with_start f X i) (get_or (map (λ s. s.final) (states_of A)) i R.zero) (with_start f X) (items_at (states_of A) i)
  states_given A F G i l = state_given 0 (states_of A) i i (none i) (F, hold-behind L equal I tapes f X 0 A.positions G) l
    where
      none : (k : ℕ) → k ≡ 0 + k
      none k = omega arith

-- no transition leads to the start
pub leaving-later : {V : Type 0} (i : ℕ) (ps : List (Position V)) (t : Transition V) → In t (leaving_all i ps) → (j : ℕ) × (t.to ≡ suc j)
leaving-later i [] t k = absurd k
leaving-later i (p ∷ ps) t k = elim (In-append_cases t (leaving i p.moves) (leaving_all (suc i) ps) k) [
  | inl m ↦ let r = In-map_from (λ e. record { from = i; label = e.label; to = suc e.to; weight = e.weight }) t p.moves m in (r.0.to, ap (λ z. z.to) r.2)
  | inr m ↦ leaving-later (suc i) ps t m
]
