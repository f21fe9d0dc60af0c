-- The join of two automata on a middle tape, with the filter of two flags: the futures where no circuit is empty.
use Rattle.std.proofs.Common.{◌≡◌, ◌≢◌, ℕ, [], ◌∷◌, cond, Bool, true, false, not, ◌&&◌, eqb, get_or, refl, sym, ap, ◌∙◌, inl, inr, ◌⊎◌, ap₂, subst, ◌<◌, arith, Option, Some, None}
use Rattle.std.proofs.lemmas.Bool.{eq-eqb}
use Rattle.std.proofs.lemmas.Bool.Decides.{eqb_tells}
use Rattle.vc_model.specs.WeightSet.{WeightSet, SemiringLaws, Absorbs}
use Rattle.vc_model.specs.Lists.{In}
use Rattle.vc_model.specs.Sums.{sum_over}
use Rattle.vc_model.specs.Words.{Tape, Word, cut, put_front, rest_after, same_tape, is_empty}
use Rattle.vc_model.specs.Automata.{Transition, Automaton, IsAutomaton, final_weight, future, at_rest, IsSolution, NoEmptyCircuit}
use Rattle.vc_products.specs.Joins.{is_nil, IsShort, IsJoin}
use Rattle.vc_model.specs.Rearranged.{zero_plus, zero_times, plus_times, times_left}
use Rattle.vc_model.specs.SumLaws.{sum_same, sum_zero, sum-plus, sum-times, sum-times_right}
use Rattle.vc_model.specs.OneSolution.{solution_is_future}
use Rattle.vc_model.specs.Solutions.{future_solves}
use Rattle.vc_model.specs.Choices.{cond-times, times-cond}
use Rattle.vc_model.specs.Rests.{at_rest-times}

module _ {V : Type 0} {R : WeightSet V} (L : SemiringLaws R) where
  -- the value at what is left of a tape, zero where nothing is
  abbrev pub on_tape : Option Tape → (Tape → V) → V
  on_tape None g = R.zero
  on_tape (Some u) g = g u

  pub two : (F : Word → V) (a b u m : Tape) → at_rest R.zero F (cut (a ∷ b ∷ []) (u ∷ m ∷ [])) ≡ on_tape (rest_after a u) (λ u'. on_tape (rest_after b m) (λ m'. F (u' ∷ m' ∷ [])))
  two F a b u m = go (rest_after a u) (rest_after b m)
    where
      go : (r s : Option Tape) → at_rest R.zero F (put_front r (put_front s (Some []))) ≡ on_tape r (λ u'. on_tape s (λ m'. F (u' ∷ m' ∷ [])))
      go None s = refl
      go (Some x) None = refl
      go (Some x) (Some y) = refl

  pub three : (F : Word → V) (a b c u m v : Tape) → at_rest R.zero F (cut (a ∷ b ∷ c ∷ []) (u ∷ m ∷ v ∷ [])) ≡ on_tape (rest_after a u) (λ u'. on_tape (rest_after b m) (λ m'. on_tape (rest_after c v) (λ v'. F (u' ∷ m' ∷ v' ∷ []))))
  three F a b c u m v = go (rest_after a u) (rest_after b m) (rest_after c v)
    where
      go : (r s t : Option Tape) → at_rest R.zero F (put_front r (put_front s (put_front t (Some [])))) ≡ on_tape r (λ u'. on_tape s (λ m'. on_tape t (λ v'. F (u' ∷ m' ∷ v' ∷ []))))
      go None s t = refl
      go (Some x) None t = refl
      go (Some x) (Some y) None = refl
      go (Some x) (Some y) (Some z) = refl

  -- both sides read the same letter
  pair : (a b u m v : Tape) (x y : V) (f g : Tape → Tape → V) (ra rb : Option Tape) → IsShort a → IsShort b
      → R.times (cond (is_nil a) R.zero (on_tape ra (λ u'. on_tape (rest_after a m) (λ m'. R.times x (f u' m'))))) (cond (is_nil b) R.zero (on_tape (rest_after b m) (λ m'. on_tape rb (λ v'. R.times y (g m' v')))))
      ≡ cond (not (is_nil a) && same_tape a b) (on_tape ra (λ u'. on_tape (rest_after a m) (λ m'. on_tape rb (λ v'. R.times (R.times x y) (R.times (f u' m') (g m' v')))))) R.zero
  pair [] b u m v x y f g ra rb ha hb = zero_times L _
  pair (l ∷ []) [] u m v x y f g ra rb ha hb = L.times_zero _
  pair (l ∷ []) (k ∷ []) u [] v x y f g ra rb ha hb = L.times_zero _ ∙ nothing (eqb l k) ra
    where
      nothing : (t : Bool) (r : Option Tape) → R.zero ≡ cond (t && true) (on_tape r (λ u'. R.zero)) R.zero
      nothing true None = refl
      nothing true (Some z) = refl
      nothing false r = refl
  pair (l ∷ []) (k ∷ []) u (z ∷ m) v x y f g ra rb ha hb = go (eqb_tells l z) (eqb_tells k z)
    where
      value : (r s : Option Tape) → R.times (on_tape r (λ u'. R.times x (f u' m))) (on_tape s (λ v'. R.times y (g m v'))) ≡ on_tape r (λ u'. on_tape s (λ v'. R.times (R.times x y) (R.times (f u' m) (g m v'))))
      value None s = zero_times L _
      value (Some u') None = L.times_zero _
      value (Some u') (Some v') = L.times_assoc x (f u' m) _ ∙ ap (R.times x) (times_left L (f u' m) y (g m v')) ∙ sym (L.times_assoc x y _)

      empty_a : (r : Option Tape) → R.zero ≡ on_tape r (λ u'. R.zero)
      empty_a None = refl
      empty_a (Some w) = refl

      goal_at : Bool → Bool → Bool → Type 0
      goal_at s t c = R.times (on_tape ra (λ u'. on_tape (cond s (Some m) None) (λ m'. R.times x (f u' m')))) (on_tape (cond t (Some m) None) (λ m'. on_tape rb (λ v'. R.times y (g m' v'))))
          ≡ cond (c && true) (on_tape ra (λ u'. on_tape (cond s (Some m) None) (λ m'. on_tape rb (λ v'. R.times (R.times x y) (R.times (f u' m') (g m' v')))))) R.zero

      cond_zero : (c : Bool) (w : V) → w ≡ R.zero → R.zero ≡ cond c w R.zero
      cond_zero true w e = sym e
      cond_zero false w e = refl

      go : ((eqb l z ≡ true) × (l ≡ z)) ⊎ ((eqb l z ≡ false) × (l ≢ z)) → ((eqb k z ≡ true) × (k ≡ z)) ⊎ ((eqb k z ≡ false) × (k ≢ z)) → goal_at (eqb l z) (eqb k z) (eqb l k)
      go (inl e) (inl d) = subst (λ s. goal_at s (eqb k z) (eqb l k)) (sym e.0) (subst (λ t. goal_at true t (eqb l k)) (sym d.0) (subst (λ c. goal_at true true c) (sym (eq-eqb l k (e.1 ∙ sym d.1))) (value ra rb)))
      go (inl e) (inr d) = subst (λ t. goal_at (eqb l z) t (eqb l k)) (sym d.0) (subst (λ c. goal_at (eqb l z) false c) (sym (no_eqb l k (λ h. d.1 (sym h ∙ e.1)))) (L.times_zero _))
        where
          no_eqb : (i j : ℕ) → (i ≡ j → ⊥) → eqb i j ≡ false
          no_eqb i j n = elim (eqb_tells i j) [ inl h ↦ absurd (n h.1) | inr h ↦ h.0 ]
      go (inr e) d = subst (λ s. goal_at s (eqb k z) (eqb l k)) (sym e.0) (ap (λ w. R.times w (on_tape (cond (eqb k z) (Some m) None) (λ m'. on_tape rb (λ v'. R.times y (g m' v'))))) (sym (empty_a ra)) ∙ zero_times L _ ∙ cond_zero (eqb l k && true) _ (sym (empty_a ra)))
  pair (l ∷ []) (k ∷ j ∷ b) u m v x y f g ra rb ha hb = absurd hb
  pair (l ∷ i ∷ a) b u m v x y f g ra rb ha hb = absurd ha

  times_on : (x : V) (r : Option Tape) (g : Tape → V) → R.times x (on_tape r g) ≡ on_tape r (λ u. R.times x (g u))
  times_on x None g = L.times_zero x
  times_on x (Some u) g = refl

  pub on_same : (r : Option Tape) (f g : Tape → V) → ((u : Tape) → f u ≡ g u) → on_tape r f ≡ on_tape r g
  on_same None f g h = refl
  on_same (Some u) f g h = h u

  on_times : (r : Option Tape) (g : Tape → V) (x : V) → R.times (on_tape r g) x ≡ on_tape r (λ u. R.times (g u) x)
  on_times None g x = zero_times L x
  on_times (Some u) g x = refl

  split_cond : (c b : Bool) (x y : V) → (b ≡ true → x ≡ y) → cond c x R.zero ≡ R.plus (cond c (cond b R.zero x) R.zero) (cond c (cond b y R.zero) R.zero)
  split_cond true true x y h = h refl ∙ sym (zero_plus L y)
  split_cond true false x y h = sym (L.plus_zero x)
  split_cond false b x y h = sym (L.plus_zero R.zero)

  nil_is : (a : Tape) → is_nil a ≡ true → [] ≡ a
  nil_is [] e = refl
  nil_is (x ∷ a) e = absurd (cc)

  -- sums of the letter moves and of the moves alone
  abbrev pub letter_a : Automaton V → ℕ → Tape → Tape → (ℕ → Tape → Tape → V) → V
  letter_a A p u m f = sum_over R (λ a. cond (eqb a.from p) (cond (is_nil (get_or a.label 1 [])) R.zero (on_tape (rest_after (get_or a.label 0 []) u) (λ u'. on_tape (rest_after (get_or a.label 1 []) m) (λ m'. R.times a.weight (f a.to u' m'))))) R.zero) A.transitions

  abbrev pub alone_a : Automaton V → ℕ → Tape → (ℕ → Tape → V) → V
  alone_a A p u f = sum_over R (λ a. cond (eqb a.from p) (cond (is_nil (get_or a.label 1 [])) (on_tape (rest_after (get_or a.label 0 []) u) (λ u'. R.times a.weight (f a.to u'))) R.zero) R.zero) A.transitions

  abbrev pub letter_b : Automaton V → ℕ → Tape → Tape → (ℕ → Tape → Tape → V) → V
  letter_b B q m v g = sum_over R (λ b. cond (eqb b.from q) (cond (is_nil (get_or b.label 0 [])) R.zero (on_tape (rest_after (get_or b.label 0 []) m) (λ m'. on_tape (rest_after (get_or b.label 1 []) v) (λ v'. R.times b.weight (g b.to m' v'))))) R.zero) B.transitions

  abbrev pub alone_b : Automaton V → ℕ → Tape → (ℕ → Tape → V) → V
  alone_b B q v g = sum_over R (λ b. cond (eqb b.from q) (cond (is_nil (get_or b.label 0 [])) (on_tape (rest_after (get_or b.label 1 []) v) (λ v'. R.times b.weight (g b.to v'))) R.zero) R.zero) B.transitions

  -- the moves of a state by letter moves and moves alone
  pub split_a : (A : Automaton V) → ((t : Transition V) → In t A.transitions → t.label ≡ get_or t.label 0 [] ∷ get_or t.label 1 [] ∷ []) → (X : ℕ → Word → V) (p : ℕ) (u m : Tape)
      → sum_over R (λ t. cond (eqb t.from p) (R.times t.weight (at_rest R.zero (X t.to) (cut t.label (u ∷ m ∷ [])))) R.zero) A.transitions ≡ R.plus (letter_a A p u m (λ p' u' m'. X p' (u' ∷ m' ∷ []))) (alone_a A p u (λ p' u'. X p' (u' ∷ m ∷ [])))
  split_a A H X p u m =
      sum_same L _ _ A.transitions (λ t i.
      ap (λ z. cond (eqb t.from p) z R.zero) (sym (at_rest-times L t.weight (X t.to) (cut t.label (u ∷ m ∷ []))) ∙ ap (λ w. at_rest R.zero (λ v. R.times t.weight (X t.to v)) (cut w (u ∷ m ∷ []))) (H t i) ∙ two (λ v. R.times t.weight (X t.to v)) (get_or t.label 0 []) (get_or t.label 1 []) u m)
      ∙ split_cond (eqb t.from p) (is_nil (get_or t.label 1 [])) _ (on_tape (rest_after (get_or t.label 0 []) u) (λ u'. R.times t.weight (X t.to (u' ∷ m ∷ []))))
      (λ n. ap (λ b. on_tape (rest_after (get_or t.label 0 []) u) (λ u'. on_tape (rest_after b m) (λ m'. R.times t.weight (X t.to (u' ∷ m' ∷ []))))) (sym (nil_is (get_or t.label 1 []) n))))
      ∙ sum-plus L _ _ A.transitions

  -- the futures of A by letter moves and moves alone, in the middle tape as its second
  by_moves_a : (A : Automaton V) → IsAutomaton R 2 A → ((t : Transition V) → In t A.transitions → t.label ≡ get_or t.label 0 [] ∷ get_or t.label 1 [] ∷ []) → Absorbs R ⊎ NoEmptyCircuit 2 A → (p : ℕ) (u m : Tape) → p < A.states
      → future R A p (u ∷ m ∷ []) ≡ R.plus (cond (is_empty (u ∷ m ∷ [])) (final_weight R A p) R.zero) (R.plus (letter_a A p u m (λ p' u' m'. future R A p' (u' ∷ m' ∷ []))) (alone_a A p u (λ p' u'. future R A p' (u' ∷ m ∷ []))))
  by_moves_a A a H s p u m l =
      future_solves L 2 A a s p (u ∷ m ∷ []) l refl
      ∙ ap (R.plus (cond (is_empty (u ∷ m ∷ [])) (final_weight R A p) R.zero))
      (split_a A H (future R A) p u m)

  -- the moves of a state by letter moves and moves alone
  pub split_b : (B : Automaton V) → ((t : Transition V) → In t B.transitions → t.label ≡ get_or t.label 0 [] ∷ get_or t.label 1 [] ∷ []) → (X : ℕ → Word → V) (p : ℕ) (u m : Tape)
      → sum_over R (λ t. cond (eqb t.from p) (R.times t.weight (at_rest R.zero (X t.to) (cut t.label (u ∷ m ∷ [])))) R.zero) B.transitions ≡ R.plus (letter_b B p u m (λ q' m' v'. X q' (m' ∷ v' ∷ []))) (alone_b B p m (λ q' v'. X q' (u ∷ v' ∷ [])))
  split_b B H X p u m =
      sum_same L _ _ B.transitions (λ t i.
      ap (λ z. cond (eqb t.from p) z R.zero) (sym (at_rest-times L t.weight (X t.to) (cut t.label (u ∷ m ∷ []))) ∙ ap (λ w. at_rest R.zero (λ v. R.times t.weight (X t.to v)) (cut w (u ∷ m ∷ []))) (H t i) ∙ two (λ v. R.times t.weight (X t.to v)) (get_or t.label 0 []) (get_or t.label 1 []) u m)
      ∙ split_cond (eqb t.from p) (is_nil (get_or t.label 0 [])) _ (on_tape (rest_after (get_or t.label 1 []) m) (λ v'. R.times t.weight (X t.to (u ∷ v' ∷ []))))
      (λ n. ap (λ b. on_tape (rest_after b u) (λ u'. on_tape (rest_after (get_or t.label 1 []) m) (λ m'. R.times t.weight (X t.to (u' ∷ m' ∷ []))))) (sym (nil_is (get_or t.label 0 []) n))))
      ∙ sum-plus L _ _ B.transitions

  by_moves_b : (B : Automaton V) → IsAutomaton R 2 B → ((t : Transition V) → In t B.transitions → t.label ≡ get_or t.label 0 [] ∷ get_or t.label 1 [] ∷ []) → Absorbs R ⊎ NoEmptyCircuit 2 B → (q : ℕ) (m v : Tape) → q < B.states
      → future R B q (m ∷ v ∷ []) ≡ R.plus (cond (is_empty (m ∷ v ∷ [])) (final_weight R B q) R.zero) (R.plus (letter_b B q m v (λ q' m' v'. future R B q' (m' ∷ v' ∷ []))) (alone_b B q v (λ q' v'. future R B q' (m ∷ v' ∷ []))))
  by_moves_b B a H s p u m l =
      future_solves L 2 B a s p (u ∷ m ∷ []) l refl
      ∙ ap (R.plus (cond (is_empty (u ∷ m ∷ [])) (final_weight R B p) R.zero))
      (split_b B H (future R B) p u m)

  -- moves together
  together : (A B : Automaton V) → ((t : Transition V) → In t A.transitions → IsShort (get_or t.label 1 [])) → ((t : Transition V) → In t B.transitions → IsShort (get_or t.label 0 [])) → (p q : ℕ) (u m v : Tape) (f g : ℕ → Tape → Tape → V)
      → sum_over R (λ a. sum_over R (λ b. cond (eqb a.from p) (cond (eqb b.from q) (cond (not (is_nil (get_or a.label 1 [])) && same_tape (get_or a.label 1 []) (get_or b.label 0 []))
      (on_tape (rest_after (get_or a.label 0 []) u) (λ u'. on_tape (rest_after (get_or a.label 1 []) m) (λ m'. on_tape (rest_after (get_or b.label 1 []) v) (λ v'. R.times (R.times a.weight b.weight) (R.times (f a.to u' m') (g b.to m' v')))))) R.zero) R.zero) R.zero) B.transitions) A.transitions
      ≡ R.times (letter_a A p u m f) (letter_b B q m v g)
  together A B sa sb p q u m v f g =
      sum_same L _ _ A.transitions (λ a i.
      sum_same L _ _ B.transitions (λ b j.
      ap (λ z. cond (eqb a.from p) (cond (eqb b.from q) z R.zero) R.zero)
      (sym (pair (get_or a.label 1 []) (get_or b.label 0 []) u m v a.weight b.weight (f a.to) (g b.to) (rest_after (get_or a.label 0 []) u) (rest_after (get_or b.label 1 []) v) (sa a i) (sb b j)))
      ∙ ap (λ z. cond (eqb a.from p) z R.zero) (sym (times-cond L _ (eqb b.from q) _))
      ∙ sym (cond-times L (eqb a.from p) _ _))
      ∙ sum-times L _ _ B.transitions)
      ∙ sum-times_right L _ _ A.transitions

  first_alone : (A : Automaton V) (p : ℕ) (u : Tape) (f : ℕ → Tape → V) (k : V)
      → sum_over R (λ a. cond (eqb a.from p) (cond (is_nil (get_or a.label 1 [])) (on_tape (rest_after (get_or a.label 0 []) u) (λ u'. R.times a.weight (R.times (f a.to u') k))) R.zero) R.zero) A.transitions ≡ R.times (alone_a A p u f) k
  first_alone A p u f k =
      sum_same L _ _ A.transitions (λ a i.
      ap (λ z. cond (eqb a.from p) (cond (is_nil (get_or a.label 1 [])) z R.zero) R.zero) (on_same (rest_after (get_or a.label 0 []) u) _ _ (λ u'. sym (L.times_assoc a.weight (f a.to u') k)) ∙ sym (on_times (rest_after (get_or a.label 0 []) u) (λ u'. R.times a.weight (f a.to u')) k))
      ∙ ap (λ z. cond (eqb a.from p) z R.zero) (sym (cond-times L (is_nil (get_or a.label 1 [])) _ k)) ∙ sym (cond-times L (eqb a.from p) _ k))
      ∙ sum-times_right L k _ A.transitions

  second_alone : (B : Automaton V) (q : ℕ) (v : Tape) (g : ℕ → Tape → V) (k : V)
      → sum_over R (λ b. cond (eqb b.from q) (cond (is_nil (get_or b.label 0 [])) (on_tape (rest_after (get_or b.label 1 []) v) (λ v'. R.times b.weight (R.times k (g b.to v')))) R.zero) R.zero) B.transitions ≡ R.times k (alone_b B q v g)
  second_alone B q v g k =
      sum_same L _ _ B.transitions (λ b i.
      ap (λ z. cond (eqb b.from q) (cond (is_nil (get_or b.label 0 [])) z R.zero) R.zero) (on_same (rest_after (get_or b.label 1 []) v) _ _ (λ v'. times_left L b.weight k (g b.to v')) ∙ sym (times_on k (rest_after (get_or b.label 1 []) v) (λ v'. R.times b.weight (g b.to v'))))
      ∙ ap (λ z. cond (eqb b.from q) z R.zero) (sym (times-cond L k (is_nil (get_or b.label 0 [])) _)) ∙ sym (times-cond L k (eqb b.from q) _))
      ∙ sum-times L k _ B.transitions

  -- no letter is read from an empty middle tape
  no_letter_a : (A : Automaton V) (p : ℕ) (u : Tape) (f : ℕ → Tape → Tape → V) → letter_a A p u [] f ≡ R.zero
  no_letter_a A p u f = sum_zero L _ A.transitions (λ a i. go (eqb a.from p) (get_or a.label 1 []) (rest_after (get_or a.label 0 []) u) a)
    where
      go : (c : Bool) (b : Tape) (r : Option Tape) (a : Transition V) → cond c (cond (is_nil b) R.zero (on_tape r (λ u'. on_tape (rest_after b []) (λ m'. R.times a.weight (f a.to u' m'))))) R.zero ≡ R.zero
      go false b r a = refl
      go true [] r a = refl
      go true (x ∷ b) None a = refl
      go true (x ∷ b) (Some w) a = refl

  no_letter_b : (B : Automaton V) (q : ℕ) (v : Tape) (g : ℕ → Tape → Tape → V) → letter_b B q [] v g ≡ R.zero
  no_letter_b B q v g = sum_zero L _ B.transitions (λ b i. go (eqb b.from q) (get_or b.label 0 []) b)
    where
      go : (c : Bool) (b : Tape) (t : Transition V) → cond c (cond (is_nil b) R.zero (on_tape (rest_after b []) (λ m'. on_tape (rest_after (get_or t.label 1 []) v) (λ v'. R.times t.weight (g t.to m' v'))))) R.zero ≡ R.zero
      go false b t = refl
      go true [] t = refl
      go true (x ∷ b) t = refl

  -- the part of a pair that stops or moves by letters
  pub crossing : (A B : Automaton V) (p q : ℕ) (u m v : Tape) (f g : ℕ → Tape → Tape → V)
      → R.plus (cond (is_empty (u ∷ m ∷ v ∷ [])) (R.times (final_weight R A p) (final_weight R B q)) R.zero) (R.times (letter_a A p u m f) (letter_b B q m v g))
      ≡ R.times (R.plus (cond (is_empty (u ∷ m ∷ [])) (final_weight R A p) R.zero) (letter_a A p u m f)) (R.plus (cond (is_empty (m ∷ v ∷ [])) (final_weight R B q) R.zero) (letter_b B q m v g))
  crossing A B p q u [] v f g =
      ap₂ (λ x y. R.plus (cond (is_empty (u ∷ [] ∷ v ∷ [])) (R.times (final_weight R A p) (final_weight R B q)) R.zero) (R.times x y)) (no_letter_a A p u f) (no_letter_b B q v g)
      ∙ ap (R.plus _) (L.times_zero R.zero) ∙ L.plus_zero _ ∙ stops u v
      ∙ sym (ap₂ R.times (ap (R.plus _) (no_letter_a A p u f) ∙ L.plus_zero _) (ap (R.plus _) (no_letter_b B q v g) ∙ L.plus_zero _))
    where
      stops : (u v : Tape) → cond (is_empty (u ∷ [] ∷ v ∷ [])) (R.times (final_weight R A p) (final_weight R B q)) R.zero ≡ R.times (cond (is_empty (u ∷ [] ∷ [])) (final_weight R A p) R.zero) (cond (is_empty ([] ∷ v ∷ [])) (final_weight R B q) R.zero)
      stops [] [] = refl
      stops [] (y ∷ v) = sym (L.times_zero _)
      stops (y ∷ u) v = sym (zero_times L _)
  crossing A B p q u (x ∷ m) v f g =
      ap (λ y. R.plus y (R.times (letter_a A p u (x ∷ m) f) (letter_b B q (x ∷ m) v g))) (never u) ∙ zero_plus L _
      ∙ sym (ap₂ R.times (ap (λ y. R.plus y (letter_a A p u (x ∷ m) f)) (stop u) ∙ zero_plus L _) (zero_plus L (letter_b B q (x ∷ m) v g)))
    where
      never : (u : Tape) → cond (is_empty (u ∷ (x ∷ m) ∷ v ∷ [])) (R.times (final_weight R A p) (final_weight R B q)) R.zero ≡ R.zero
      never [] = refl
      never (y ∷ u) = refl

      stop : (u : Tape) → cond (is_empty (u ∷ (x ∷ m) ∷ [])) (final_weight R A p) R.zero ≡ R.zero
      stop [] = refl
      stop (y ∷ u) = refl

  -- the algebra of the filter: A stops or moves by letters (A'), or alone (na); B likewise (b'), or alone (nb)
  pub filter_free : (e t na nb a' b' : V) → R.plus e t ≡ R.times a' b' → R.plus e (R.plus (R.plus t (R.times na (R.plus b' nb))) (R.times a' nb)) ≡ R.times (R.plus a' na) (R.plus b' nb)
  filter_free e t na nb a' b' h =
      move e t (R.times na (R.plus b' nb)) (R.times a' nb) ∙ ap (λ y. R.plus (R.plus y (R.times a' nb)) (R.times na (R.plus b' nb))) h
      ∙ ap (λ y. R.plus y (R.times na (R.plus b' nb))) (sym (L.times_plus a' b' nb)) ∙ sym (plus_times L a' na (R.plus b' nb))
    where
      move : (a b c d : V) → R.plus a (R.plus (R.plus b c) d) ≡ R.plus (R.plus (R.plus a b) d) c
      move a b c d = simp (L.plus_assoc, L.plus_comm)

  pub filter_shut : (e t nb a' b' : V) → R.plus e t ≡ R.times a' b' → R.plus e (R.plus (R.plus t R.zero) (R.times a' nb)) ≡ R.times a' (R.plus b' nb)
  filter_shut e t nb a' b' h =
      ap (λ y. R.plus e (R.plus y (R.times a' nb))) (L.plus_zero t) ∙ sym (L.plus_assoc e t (R.times a' nb)) ∙ ap (λ y. R.plus y (R.times a' nb)) h ∙ sym (L.times_plus a' b' nb)

  -- products of values of two sides, by the flag
  abbrev pub pair_value : (ℕ → Tape → Tape → V) → (ℕ → Tape → Tape → V) → (ℕ → Tape → Tape → V) → (ℕ → Tape → Tape → V) → Bool → ℕ → ℕ → Tape → Tape → Tape → V
  pair_value f g h k false p q u m v = R.times (f p u m) (g q m v)
  pair_value f g h k true p q u m v = R.times (h p u m) (k q m v)

  module _ (A B J : Automaton V) (a : IsAutomaton R 2 A) (b : IsAutomaton R 2 B) (j : IsAutomaton R 3 J) (hA : (t : Transition V) → In t A.transitions → t.label ≡ get_or t.label 0 [] ∷ get_or t.label 1 [] ∷ []) (hB : (t : Transition V) → In t B.transitions → t.label ≡ get_or t.label 0 [] ∷ get_or t.label 1 [] ∷ [])
      (sa : (t : Transition V) → In t A.transitions → IsShort (get_or t.label 1 [])) (sb : (t : Transition V) → In t B.transitions → IsShort (get_or t.label 0 [])) (nA : Absorbs R ⊎ NoEmptyCircuit 2 A) (nB : Absorbs R ⊎ NoEmptyCircuit 2 B) (left right : ℕ → ℕ) (flag : ℕ → Bool) (M : IsJoin R A B J left right flag) where
    abbrev pub fA : ℕ → Tape → Tape → V
    fA p u m = future R A p (u ∷ m ∷ [])

    abbrev pub fB : ℕ → Tape → Tape → V
    fB q m v = future R B q (m ∷ v ∷ [])

    -- A stops or moves by a letter
    abbrev pub held : ℕ → Tape → Tape → V
    held p u m = R.plus (cond (is_empty (u ∷ m ∷ [])) (final_weight R A p) R.zero) (letter_a A p u m fA)

    -- the value of a triple
    abbrev pub value : Bool → ℕ → ℕ → Tape → Tape → Tape → V
    value = pair_value fA fB held fB

    -- the value of the state i
    abbrev pub at : ℕ → Word → V
    at i w = value (flag i) (left i) (right i) (get_or w 0 []) (get_or w 1 []) (get_or w 2 [])

    three_times : (x : V) (F : Word → V) (ca cb cc' u m v : Tape) → R.times x (at_rest R.zero F (cut (ca ∷ cb ∷ cc' ∷ []) (u ∷ m ∷ v ∷ []))) ≡ on_tape (rest_after ca u) (λ u'. on_tape (rest_after cb m) (λ m'. on_tape (rest_after cc' v) (λ v'. R.times x (F (u' ∷ m' ∷ v' ∷ [])))))
    three_times x F ca cb cc' u m v = sym (at_rest-times L x F (cut (ca ∷ cb ∷ cc' ∷ []) (u ∷ m ∷ v ∷ []))) ∙ three (λ r. R.times x (F r)) ca cb cc' u m v

    -- what the moves of the join bring, as three parts
    pub moves : (f g h h' : ℕ → Tape → Tape → V) (i : ℕ) (u m v : Tape) → i < J.states
        → sum_over R (λ t. cond (eqb t.from i) (R.times t.weight (at_rest R.zero (λ r. pair_value f g h h' (flag t.to) (left t.to) (right t.to) (get_or r 0 []) (get_or r 1 []) (get_or r 2 [])) (cut t.label (u ∷ m ∷ v ∷ [])))) R.zero) J.transitions
        ≡ R.plus (R.plus (R.times (letter_a A (left i) u m f) (letter_b B (right i) m v g)) (cond (flag i) R.zero (R.times (alone_a A (left i) u (λ p u'. f p u' m)) (g (right i) m v)))) (R.times (h (left i) u m) (alone_b B (right i) v (λ q v'. h' q m v')))
    moves f g h h' i u m v l =
        M.steps i (λ w p q c. at_rest R.zero (λ r. pair_value f g h h' c p q (get_or r 0 []) (get_or r 1 []) (get_or r 2 [])) (cut w (u ∷ m ∷ v ∷ []))) l
        ∙ ap₂ R.plus
        (ap₂ R.plus
        (sum_same L _ _ A.transitions (λ x k. sum_same L _ _ B.transitions (λ y n.
        ap (λ z. cond (eqb x.from (left i)) (cond (eqb y.from (right i)) (cond (not (is_nil (get_or x.label 1 [])) && same_tape (get_or x.label 1 []) (get_or y.label 0 [])) z R.zero) R.zero) R.zero)
        (three_times (R.times x.weight y.weight) (λ r. pair_value f g h h' false x.to y.to (get_or r 0 []) (get_or r 1 []) (get_or r 2 [])) (get_or x.label 0 []) (get_or x.label 1 []) (get_or y.label 1 []) u m v)))
        ∙ together A B sa sb (left i) (right i) u m v f g)
        (ap (λ z. cond (flag i) R.zero z)
        (sum_same L _ _ A.transitions (λ x k.
        ap (λ z. cond (eqb x.from (left i)) (cond (is_nil (get_or x.label 1 [])) z R.zero) R.zero)
        (three_times x.weight (λ r. pair_value f g h h' false x.to (right i) (get_or r 0 []) (get_or r 1 []) (get_or r 2 [])) (get_or x.label 0 []) [] [] u m v))
        ∙ first_alone A (left i) u (λ p u'. f p u' m) (g (right i) m v))))
        (sum_same L _ _ B.transitions (λ y n.
        ap (λ z. cond (eqb y.from (right i)) (cond (is_nil (get_or y.label 0 [])) z R.zero) R.zero)
        (three_times y.weight (λ r. pair_value f g h h' true (left i) y.to (get_or r 0 []) (get_or r 1 []) (get_or r 2 [])) [] [] (get_or y.label 1 []) u m v))
        ∙ second_alone B (right i) v (λ q v'. h' q m v') (h (left i) u m))

    -- the values of the triples solve the equations of futures, in every semiring and with circuits
    pub join_solves : IsSolution R 3 J at
    join_solves i [] l e = absurd (omega arith)
    join_solves i (u ∷ []) l e = absurd (omega arith)
    join_solves i (u ∷ m ∷ []) l e = absurd (omega arith)
    join_solves i (u ∷ m ∷ v ∷ w ∷ ws) l e = absurd (omega arith)
    join_solves i (u ∷ m ∷ v ∷ []) l e =
        go (flag i)
        ∙ sym (ap₂ R.plus (ap (λ z. cond (is_empty (u ∷ m ∷ v ∷ [])) z R.zero) (M.final i l)) (moves fA fB held fB i u m v l))
      where
        p : ℕ
        p = left i

        q : ℕ
        q = right i

        eb : V
        eb = cond (is_empty (m ∷ v ∷ [])) (final_weight R B q) R.zero

        by_b : fB q m v ≡ R.plus (R.plus eb (letter_b B q m v fB)) (alone_b B q v (λ q' v'. fB q' m v'))
        by_b = by_moves_b B b hB nB q m v (M.right_below i l) ∙ sym (L.plus_assoc _ _ _)

        by_a : fA p u m ≡ R.plus (held p u m) (alone_a A p u (λ p' u'. fA p' u' m))
        by_a = by_moves_a A a hA nA p u m (M.left_below i l) ∙ sym (L.plus_assoc _ _ _)

        go : (f : Bool) → value f p q u m v ≡ R.plus (cond (is_empty (u ∷ m ∷ v ∷ [])) (R.times (final_weight R A p) (final_weight R B q)) R.zero)
            (R.plus (R.plus (R.times (letter_a A p u m fA) (letter_b B q m v fB)) (cond f R.zero (R.times (alone_a A p u (λ p' u'. fA p' u' m)) (fB q m v)))) (R.times (held p u m) (alone_b B q v (λ q' v'. fB q' m v'))))
        go true = ap (R.times (held p u m)) by_b ∙ sym (filter_shut _ _ _ _ _ (crossing A B p q u m v fA fB))
        go false =
            ap₂ R.times by_a by_b ∙ sym (filter_free _ _ _ _ _ _ (crossing A B p q u m v fA fB))
            ∙ ap (λ z. R.plus (cond (is_empty (u ∷ m ∷ v ∷ [])) (R.times (final_weight R A p) (final_weight R B q)) R.zero) (R.plus (R.plus (R.times (letter_a A p u m fA) (letter_b B q m v fB)) (R.times (alone_a A p u (λ p' u'. fA p' u' m)) z)) (R.times (held p u m) (alone_b B q v (λ q' v'. fB q' m v'))))) (sym by_b)

    -- from a state with flag 0 each pair of paths counts once
    pub join_future : NoEmptyCircuit 3 J → (i : ℕ) (u m v : Tape) → i < J.states → flag i ≡ false → future R J i (u ∷ m ∷ v ∷ []) ≡ R.times (future R A (left i) (u ∷ m ∷ [])) (future R B (right i) (m ∷ v ∷ []))
    join_future N i u m v l e = sym (solution_is_future L 3 J j N at join_solves i (u ∷ m ∷ v ∷ []) l refl) ∙ ap (λ f. value f (left i) (right i) u m v) e
