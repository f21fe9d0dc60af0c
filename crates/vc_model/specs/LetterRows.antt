-- Rows along a word, where labels have one letter.
use Rattle.std.proofs.Common.{◌≡◌, ◌≢◌, ℕ, [], ◌∷◌, ◌++◌, cond, Bool, true, false, eqb, refl, sym, ap, ◌∙◌, inl, inr, suc, ◌<◌, ◌≤◌, arith, length, Option, Some, None, length-append}
use Rattle.std.proofs.lemmas.List.{same_from_push}
use Rattle.std.proofs.lemmas.Bool.Decides.{eqb_tells}
use Rattle.vc_model.specs.WeightSet.{WeightSet, SemiringLaws}
use Rattle.vc_model.specs.Lists.{In}
use Rattle.vc_model.specs.Sums.{sum_over}
use Rattle.vc_model.specs.Words.{Tape, Word, size, front_before, put_front, cut_end, is_empty}
use Rattle.vc_model.specs.Automata.{Transition, Automaton, IsAutomaton, IsProper, initial_weight, row, row_within, at_rest, last_step}
use Rattle.vc_model.specs.Letters.{letter_of, HasLetters, arrival_sum}
use Rattle.vc_model.specs.Rearranged.{zero_plus, zero_times}
use Rattle.vc_model.specs.SumLaws.{sum_same}
use Rattle.vc_model.specs.WordEnds.{front_before-append, append-front_before}
use Rattle.vc_model.specs.LastSteps.{row_within-suc, row_within-zero}
use Rattle.vc_model.specs.ProperRows.{row-is}

-- a letter before the end of a tape
front_one : (l x : ℕ) (u : Tape) → front_before (l ∷ []) (u ++ x ∷ []) ≡ cond (eqb l x) (Some u) None
front_one l x u = elim (eqb_tells l x) [
  | inl e ↦ ap (λ y. front_before (l ∷ []) (u ++ y ∷ [])) (sym e.1) ∙ front_before-append (l ∷ []) u ∙ sym (ap (λ b. cond b (Some u) None) e.0)
  | inr n ↦ go (front_before (l ∷ []) (u ++ x ∷ [])) refl (λ e. n.1 e) ∙ sym (ap (λ b. cond b (Some u) None) n.0)
]
  where
    go : (r : Option Tape) → front_before (l ∷ []) (u ++ x ∷ []) ≡ r → l ≢ x → r ≡ None
    go None e n = refl
    go (Some v) e n = absurd (n (same_from_push v u l x (append-front_before (l ∷ []) (u ++ x ∷ []) v e)).1)

not_empty : (u : Tape) (x : ℕ) → is_empty ((u ++ x ∷ []) ∷ []) ≡ false
not_empty [] x = refl
not_empty (y ∷ u) x = refl

-- where each label is a letter, no label is empty
pub HasLetters-IsProper : {V : Type 0} (A : Automaton V) → HasLetters A → IsProper A
HasLetters-IsProper A H t i e = let f : size ((letter_of t ∷ []) ∷ []) ≡ 0 = ap (λ w. size w) (sym (H t i)) ∙ e in absurd (omega arith)

one_letter : {V : Type 0} (t : Transition V) (w : Word) → t.label ≡ w → length w ≡ 1 → size w ≢ 0 → size w ≤ 1 → t.label ≡ (letter_of t ∷ []) ∷ []
one_letter t [] e l n h = absurd (omega (arith, l))
one_letter t (a ∷ b ∷ w) e l n h = absurd (omega (arith, l))
one_letter t ([] ∷ []) e l n h = absurd (n refl)
one_letter t ((x ∷ y ∷ a) ∷ []) e l n h = absurd (omega (arith, h))
one_letter t ((x ∷ []) ∷ []) e l n h = rw e refl

-- where labels have at most one letter and none is empty, each is a letter
pub proper-HasLetters : {V : Type 0} (A : Automaton V) → ((t : Transition V) → In t A.transitions → length t.label ≡ 1) → IsProper A → ((t : Transition V) → In t A.transitions → size t.label ≤ 1) → HasLetters A
proper-HasLetters A tapes full short t i = one_letter t t.label refl (tapes t i) (full t i) (short t i)

module _ {V : Type 0} {R : WeightSet V} (L : SemiringLaws R) (A : Automaton V) (G : IsAutomaton R 1 A) (H : HasLetters A) where
  -- the row of the empty word is the initial weights
  pub row_empty : (t : ℕ) → t < A.states → row R A ([] ∷ []) t ≡ initial_weight R A t
  row_empty t l = row_within-zero L A 1 G.label ([] ∷ []) t refl l

  -- the row of a word with a letter behind it is what arrives with that letter
  pub row_letter : (u : Tape) (x t : ℕ) → t < A.states → row R A ((u ++ x ∷ []) ∷ []) t ≡ arrival_sum R A t x (row R A (u ∷ []))
  row_letter u x t l =
      let n = length-append u (x ∷ []) in
      sym (row-is L 1 A G (HasLetters-IsProper A H) (suc (length u)) ((u ++ x ∷ []) ∷ []) t refl l (omega arith))
      ∙ row_within-suc L A 1 G.label (length u) ((u ++ x ∷ []) ∷ []) t refl l
      ∙ ap (λ b. R.plus (cond b (initial_weight R A t) R.zero) (sum_over R (last_step R A (length u) ((u ++ x ∷ []) ∷ []) t) A.transitions)) (not_empty u x)
      ∙ zero_plus L _
      ∙ sum_same L _ _ A.transitions (λ s i. ap (λ y. cond (eqb s.to t) y R.zero)
      (ap (λ w. R.times (at_rest R.zero (λ v. row_within R A (length u) v s.from) (cut_end w ((u ++ x ∷ []) ∷ []))) s.weight) (H s i)
      ∙ ap (λ r. R.times (at_rest R.zero (λ v. row_within R A (length u) v s.from) (put_front r (Some []))) s.weight) (front_one (letter_of s) x u)
      ∙ pick (eqb (letter_of s) x) s.weight (λ v. row_within R A (length u) v s.from)
      ∙ ap (λ y. cond (eqb (letter_of s) x) (R.times y s.weight) R.zero) (row-is L 1 A G (HasLetters-IsProper A H) (length u) (u ∷ []) s.from refl (G.from s i) (omega arith))))
    where
      pick : (b : Bool) (k : V) (g : Word → V) → R.times (at_rest R.zero g (put_front (cond b (Some u) None) (Some []))) k ≡ cond b (R.times (g (u ∷ [])) k) R.zero
      pick true k g = refl
      pick false k g = zero_times L k
