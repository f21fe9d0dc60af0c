-- The sum at the end, and the outcome of all steps.
use Rattle.std.proofs.Common.{◌≡◌, ℕ, ◌<◌, ◌≤◌, ◌+◌, List, [], ◌∷◌, Result, Ok, Err, false, length, map, refl, sym, ap, ap₂, ◌∙◌, inl, inr, subst, arith}
use Rattle.std.specs.List.{flat_map}
use Rattle.vc_model.specs.WeightSet.{WeightSet, SemiringLaws}
use Rattle.vc_model.specs.Automata.{Automaton, IsAutomaton, IsProper, row, final_weight, coefficient}
use Rattle.vc_model.specs.Lists.{In, below}
use Rattle.vc_model.specs.Sums.{sum_over, sum_onto}
use Rattle.vc_model.specs.Words.{Word}
use Rattle.vc_model.specs.Members.{In-up_from, In-append_left, In-append_right, In-flat_map}
use Rattle.vc_model.specs.OutcomeLaws.{AllFit-append, outcome-is}
use Rattle.vc_model.specs.ProperRows.{coefficient-row}
use Rattle.vc_model.specs.Rearranged.{zero_plus}
use Rattle.vc_model.specs.SumLaws.{sum_onto-is, sum-map}
use Rattle.vc_ring.specs.Steps.{fits, AllFit, outcome, IsOutcome}
use Rattle.vc_ring.specs.declared.faults.Overflow.{Overflow}
use Rattle.vc_eval.specs.Forward.{products, products_steps, row_steps, end_steps, prefixes, forward_steps}
use Rattle.vc_eval.specs.Moves.{entry, ends_of, in_turn}
use Rattle.vc_eval.specs.Positions.{positions, prefix_at}
use Rattle.vc_eval.proofs.Targets.{cons_fit, cons_Mul, cons_Add, cons_rest}
use Rattle.vc_eval.proofs.RowSteps.{AllFit-flat_map}
use Rattle.vc_eval.proofs.Prefixes.{prefixes-In, prefixes-In_from}

module _ {V : Type 0} (R : WeightSet V) where
  in_turn-fits : (a : V) (ps : List (V × V)) → AllFit R (in_turn R a ps) → AllFit R (products_steps R a ps)
  in_turn-fits a [] h = tt
  in_turn-fits a ((v, w) ∷ ps) h = cons_fit R a v w ps h.0 h.1.0 (in_turn-fits (R.plus a (R.times v w)) ps h.1.1)

  in_turn-In : (a : V) (ps : List (V × V)) (e : Overflow V) → In e (in_turn R a ps) → In e (products_steps R a ps)
  in_turn-In a [] e i = absurd i
  in_turn-In a ((v, w) ∷ ps) e (inl q) = subst (λ s. In s (products_steps R a ((v, w) ∷ ps))) (sym q) (cons_Mul R a v w ps)
  in_turn-In a ((v, w) ∷ ps) e (inr (inl q)) = subst (λ s. In s (products_steps R a ((v, w) ∷ ps))) (sym q) (cons_Add R a v w ps)
  in_turn-In a ((v, w) ∷ ps) e (inr (inr i)) = cons_rest R a v w ps e (in_turn-In (R.plus a (R.times v w)) ps e i)

pub map_same : {X Y : Type 0} (f h : X → Y) (xs : List X) → ((x : X) → In x xs → f x ≡ h x) → map f xs ≡ map h xs
map_same f h [] e = refl
map_same f h (x ∷ xs) e = ap₂ ◌∷◌ (e x (inl refl)) (map_same f h xs (λ y i. e y (inr i)))

-- a value among the outcomes, and a refusal
pub from_ok : {V W : Type 0} (R : WeightSet V) (ss : List (Overflow V)) (v w : W) → outcome R ss v ≡ Ok w → (w ≡ v) × AllFit R ss
from_ok R ss v w e = subst (IsOutcome R ss v) e (outcome-is (fits R) ss v)

pub from_err : {V W : Type 0} (R : WeightSet V) (ss : List (Overflow V)) (v : W) (o : Overflow V) → outcome R ss v ≡ Err o → In o ss × (fits R o ≡ false)
from_err R ss v o e = subst (IsOutcome R ss v) e (outcome-is (fits R) ss v)

module _ {V : Type 0} {R : WeightSet V} (L : SemiringLaws R) (tapes : ℕ) (A : Automaton V) (G : IsAutomaton R tapes A) (proper : IsProper A) (w : Word) (e : length w ≡ tapes) where
  -- the row of the whole word stands from a cell on
  abbrev pub IsLast : ℕ → List V → Type 0
  IsLast at rows = (t : ℕ) → t < A.states → entry R rows (at + t) ≡ row R A w t

  abbrev last_pairs : List (V × V)
  last_pairs = map (λ (t : ℕ). (row R A w t, final_weight R A t)) (below A.states)

  ends-are : (at : ℕ) (rows : List V) → IsLast at rows → ends_of R A rows at ≡ last_pairs
  ends-are at rows h = map_same (λ (t : ℕ). (entry R rows (at + t), final_weight R A t)) (λ (t : ℕ). (row R A w t, final_weight R A t)) (below A.states) (λ t i. ap (λ v. (v, final_weight R A t)) (h t (omega (arith, (In-up_from t 0 A.states i).1))))

  ends-sum : sum_onto R R.zero (products R last_pairs) ≡ coefficient R A w
  ends-sum =
      sum_onto-is L R.zero (products R last_pairs)
      ∙ zero_plus L (sum_over R (λ y. y) (products R last_pairs))
      ∙ sum-map L (λ y. y) (λ (p : V × V). R.times p.0 p.1) last_pairs
      ∙ sum-map L (λ (p : V × V). R.times p.0 p.1) (λ (t : ℕ). (row R A w t, final_weight R A t)) (below A.states)
      ∙ sym (coefficient-row L tapes A G proper w e)

  -- the steps of the rows of the positions before p fit
  abbrev pub AllBefore : ℕ → Type 0
  AllBefore p = (j : ℕ) → 1 ≤ j → j < p → AllFit R (row_steps R A (prefix_at w j))

  prefixes-fit : AllBefore (positions w) → AllFit R (flat_map (row_steps R A) (prefixes w))
  prefixes-fit h = AllFit-flat_map (fits R) (row_steps R A) (prefixes w) (λ u i.
      let r = prefixes-In_from w u i in
      subst (λ v. AllFit R (row_steps R A v)) (sym r.3) (h r.0 r.1 r.2))

  -- after all positions
  pub finished : (at : ℕ) (rows : List V) → IsLast at rows → AllBefore (positions w)
      → (r : Result V (Overflow V)) → r ≡ outcome R (in_turn R R.zero (ends_of R A rows at)) (sum_onto R R.zero (products R (ends_of R A rows at)))
      → IsOutcome R (forward_steps R A w) (coefficient R A w) r
  finished at rows k h (Ok v) q =
      let o = from_ok R (in_turn R R.zero (ends_of R A rows at)) (sum_onto R R.zero (products R (ends_of R A rows at))) v (sym q) in (
        o.0 ∙ ap (λ ps. sum_onto R R.zero (products R ps)) (ends-are at rows k) ∙ ends-sum,
        AllFit-append (fits R) (flat_map (row_steps R A) (prefixes w)) (end_steps R A w) (prefixes-fit h)
            (subst (λ ps. AllFit R (products_steps R R.zero ps)) (ends-are at rows k) (in_turn-fits R R.zero (ends_of R A rows at) o.1)),
      )
  finished at rows k h (Err s) q =
      let o = from_err R (in_turn R R.zero (ends_of R A rows at)) (sum_onto R R.zero (products R (ends_of R A rows at))) s (sym q) in (
        In-append_right s (flat_map (row_steps R A) (prefixes w)) (end_steps R A w)
            (subst (λ ps. In s (products_steps R R.zero ps)) (ends-are at rows k) (in_turn-In R R.zero (ends_of R A rows at) s o.0)),
        o.1,
      )

  -- a refusal at a position
  pub refused : (p : ℕ) → 1 ≤ p → p < positions w → (o : Overflow V) → In o (row_steps R A (prefix_at w p)) → fits R o ≡ false → IsOutcome R (forward_steps R A w) (coefficient R A w) (Err o)
  refused p some l o i f = (
    In-append_left o (flat_map (row_steps R A) (prefixes w)) (end_steps R A w) (In-flat_map (row_steps R A) o (prefix_at w p) (prefixes w) (prefixes-In w p some l) i),
    f,
  )
