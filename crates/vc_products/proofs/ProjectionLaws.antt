-- The futures of an automaton of three tapes without its middle tape.
use Rattle.std.proofs.Common.{◌≡◌, ℕ, List, [], ◌∷◌, map, cond, Bool, true, false, eqb, get_or, refl, sym, ap, ap₂, ◌∙◌, zero, suc, ◌<◌, ◌≤◌, ◌+◌, ◌-◌, ◌*◌, arith, length, Option, Some, None, ◌++◌, ◌⊎◌, inl, inr, subst, length-append}
use Rattle.std.specs.List.{flat_map, filter}
use Rattle.vc_model.specs.WeightSet.{WeightSet, SemiringLaws, Absorbs}
use Rattle.vc_model.specs.Lists.{In, NoRepeat, below}
use Rattle.vc_model.specs.Sums.{sum_over}
use Rattle.vc_model.specs.Words.{Tape, Word, IsOver, cut, rest_after, same_word, tapes_within, size, join, on, is_empty}
use Rattle.vc_model.specs.Automata.{Transition, Automaton, IsAutomaton, final_weight, future_within, at_rest, first_step, IsPath, path_label, paths, path_value, ArePaths, triple, future, coefficient, initial_weight, NoCircuitOn}
use Rattle.vc_products.specs.Joins.{part}
use Rattle.vc_products.specs.Projections.{outer_word, HasMiddles, IsProjection, outer_tapes}
use Rattle.vc_model.specs.Rearranged.{zero_plus}
use Rattle.vc_model.specs.SumLaws.{sum-map, sum-flat_map, sum_same, sum_zero, sum-plus, sum-times, sum_swap}
use Rattle.vc_model.specs.Choices.{cond-sum}
use Rattle.vc_model.specs.Keys.{sum_pick}
use Rattle.vc_model.specs.LastSteps.{eqb_comm}
use Rattle.vc_model.specs.FirstSteps.{future_within-zero, future_within-suc}
use Rattle.vc_products.proofs.JoinLaws.{on_tape, two, three, on_same}
use Rattle.std.proofs.Math.Nat.{mul-le-mul_right}
use Rattle.vc_model.specs.Members.{In-flat_map, In-flat_map_from, In-filter, In-filter_from, NoRepeat-flat_map, NoRepeat-filter, NoRepeat-from_map, In-up_from}
use Rattle.vc_model.specs.PathLaws.{paths-In, In-paths, paths-NoRepeat, length-path_label}
use Rattle.vc_model.specs.WordLaws.{same_word-true, same_word_is}
use Rattle.vc_model.specs.TapeLists.{tapes_within-In, In-tapes_within, tapes_within-NoRepeat}
use Rattle.vc_model.specs.PathLists.{sum-path_lists}
use Rattle.vc_model.specs.Bounds.{future_within-bounds}
use Rattle.vc_model.specs.CircuitLaws.{NoCircuitOn-NoEmptyCircuit}

-- a word of three tapes is its three parts
pub three_parts : (w : Word) → length w ≡ 3 → w ≡ get_or w 0 [] ∷ get_or w 1 [] ∷ get_or w 2 [] ∷ []
three_parts [] e = absurd (omega arith)
three_parts (a ∷ []) e = absurd (omega arith)
three_parts (a ∷ b ∷ []) e = absurd (omega arith)
three_parts (a ∷ b ∷ c ∷ []) e = refl
three_parts (a ∷ b ∷ c ∷ d ∷ w) e = absurd (omega arith)

IsOver-append : (alphabet : List ℕ) (a b : Tape) → IsOver alphabet a → IsOver alphabet b → IsOver alphabet (a ++ b)
IsOver-append alphabet [] b h k = k
IsOver-append alphabet (x ∷ a) b h k = (h.0, IsOver-append alphabet a b h.1 k)

module _ {V : Type 0} {R : WeightSet V} (L : SemiringLaws R) (alphabet : List ℕ) (once : NoRepeat alphabet) where
  -- over the tapes of at most M letters that begin with b, the sum over what follows
  read_front : (b : Tape) (M N : ℕ) (g : Tape → V) → IsOver alphabet b → M ≡ length b + N → sum_over R (λ m. on_tape L (rest_after b m) g) (tapes_within alphabet M) ≡ sum_over R g (tapes_within alphabet N)
  read_front [] M N g h e = let q : M ≡ N = omega (arith, e) in ap (λ n. sum_over R g (tapes_within alphabet n)) q
  read_front (x ∷ b) zero N g h e = absurd (omega arith)
  read_front (x ∷ b) (suc M) N g h e =
      zero_plus L _
      ∙ sum-flat_map L (λ m. on_tape L (rest_after (x ∷ b) m) g) (λ y. map (λ a. y ∷ a) (tapes_within alphabet M)) alphabet
      ∙ sum_same L _ (λ y. cond (eqb y x) (sum_over R (λ m. on_tape L (rest_after b m) g) (tapes_within alphabet M)) R.zero) alphabet (λ y i.
      sum-map L (λ m. on_tape L (rest_after (x ∷ b) m) g) (λ a. y ∷ a) (tapes_within alphabet M)
      ∙ tested (eqb x y)
      ∙ ap (λ t. cond t (sum_over R (λ m. on_tape L (rest_after b m) g) (tapes_within alphabet M)) R.zero) (eqb_comm x y))
      ∙ sum_pick L (λ y. sum_over R (λ m. on_tape L (rest_after b m) g) (tapes_within alphabet M)) x alphabet once h.0
      ∙ read_front b M N g h.1 (omega arith)
    where
      tested : (t : Bool) → sum_over R (λ a. on_tape L (cond t (rest_after b a) None) g) (tapes_within alphabet M) ≡ cond t (sum_over R (λ m. on_tape L (rest_after b m) g) (tapes_within alphabet M)) R.zero
      tested true = refl
      tested false = sum_zero L _ (tapes_within alphabet M) (λ a i. refl)

  on_zero : (r : Option Tape) → on_tape L r (λ m. R.zero) ≡ R.zero
  on_zero None = refl
  on_zero (Some m) = refl

  -- the same between two outer tapes
  read_middle : (ra rc : Option Tape) (b : Tape) (M N : ℕ) (g : Tape → Tape → Tape → V) → IsOver alphabet b → M ≡ length b + N
      → sum_over R (λ m. on_tape L ra (λ u. on_tape L (rest_after b m) (λ m'. on_tape L rc (λ v. g u m' v)))) (tapes_within alphabet M)
      ≡ on_tape L ra (λ u. on_tape L rc (λ v. sum_over R (λ m'. g u m' v) (tapes_within alphabet N)))
  read_middle None rc b M N g h e = sum_zero L _ (tapes_within alphabet M) (λ m i. refl)
  read_middle (Some u) None b M N g h e = sum_zero L _ (tapes_within alphabet M) (λ m i. on_zero (rest_after b m))
  read_middle (Some u) (Some v) b M N g h e = read_front b M N (λ m'. g u m' v) h e

  -- only the empty middle tape stops
  stops : (c : V) (u v : Tape) (M : ℕ) → sum_over R (λ m. cond (is_empty (u ∷ m ∷ v ∷ [])) c R.zero) (tapes_within alphabet M) ≡ cond (is_empty (u ∷ v ∷ [])) c R.zero
  stops c u v zero = L.plus_zero _ ∙ outer u
    where
      outer : (u : Tape) → cond (is_empty (u ∷ [] ∷ v ∷ [])) c R.zero ≡ cond (is_empty (u ∷ v ∷ [])) c R.zero
      outer [] = refl
      outer (x ∷ u) = refl
  stops c u v (suc M) =
      ap₂ R.plus (outer u)
      (sum-flat_map L (λ m. cond (is_empty (u ∷ m ∷ v ∷ [])) c R.zero) (λ y. map (λ a. y ∷ a) (tapes_within alphabet M)) alphabet
      ∙ sum_zero L _ alphabet (λ y i.
      sum-map L (λ m. cond (is_empty (u ∷ m ∷ v ∷ [])) c R.zero) (λ a. y ∷ a) (tapes_within alphabet M)
      ∙ sum_zero L _ (tapes_within alphabet M) (λ a j. never u y a)))
      ∙ L.plus_zero _
    where
      never : (u : Tape) (y : ℕ) (a : Tape) → cond (is_empty (u ∷ (y ∷ a) ∷ v ∷ [])) c R.zero ≡ R.zero
      never [] y a = refl
      never (x ∷ u) y a = refl

      outer : (u : Tape) → cond (is_empty (u ∷ [] ∷ v ∷ [])) c R.zero ≡ cond (is_empty (u ∷ v ∷ [])) c R.zero
      outer [] = refl
      outer (x ∷ u) = refl

  module _ (J F : Automaton V) (j : IsAutomaton R 3 J) (f : IsAutomaton R 2 F) (P : IsProjection R J F) (W : ℕ) (middles : HasMiddles alphabet W J) where
    -- within k transitions: the sum over the middle tapes of at most M letters, for every M from k · W on
    pub projection_within : (k p M : ℕ) (u v : Tape) → p < J.states → k * W ≤ M → future_within R F k p (u ∷ v ∷ []) ≡ sum_over R (λ m. future_within R J k p (u ∷ m ∷ v ∷ [])) (tapes_within alphabet M)
    projection_within zero p M u v l b =
        future_within-zero L F 2 f.label p (u ∷ v ∷ []) refl
        ∙ ap (λ c. cond (is_empty (u ∷ v ∷ [])) c R.zero) (P.final p l)
        ∙ sym (stops (final_weight R J p) u v M)
        ∙ sum_same L _ _ (tapes_within alphabet M) (λ m i. sym (future_within-zero L J 3 j.label p (u ∷ m ∷ v ∷ []) refl))
    projection_within (suc k) p M u v l b =
        future_within-suc L F 2 f.label k p (u ∷ v ∷ []) refl
        ∙ ap₂ R.plus
        (ap (λ c. cond (is_empty (u ∷ v ∷ [])) c R.zero) (P.final p l) ∙ sym (stops (final_weight R J p) u v M))
        (P.steps p (λ a q. at_rest R.zero (future_within R F k q) (cut a (u ∷ v ∷ []))) l
        ∙ sum_same L _ (λ t. sum_over R (λ m. first_step R J k p (u ∷ m ∷ v ∷ []) t) (tapes_within alphabet M)) J.transitions (λ t i. moved (projection_within k) t i)
        ∙ sum_swap L (λ t m. first_step R J k p (u ∷ m ∷ v ∷ []) t) J.transitions (tapes_within alphabet M))
        ∙ sym (sum-plus L _ _ (tapes_within alphabet M))
        ∙ sum_same L _ _ (tapes_within alphabet M) (λ m i. sym (future_within-suc L J 3 j.label k p (u ∷ m ∷ v ∷ []) refl))
      where
        moved : ((q N : ℕ) (a c : Tape) → q < J.states → k * W ≤ N → future_within R F k q (a ∷ c ∷ []) ≡ sum_over R (λ m. future_within R J k q (a ∷ m ∷ c ∷ [])) (tapes_within alphabet N)) → (t : Transition V) → In t J.transitions
            → cond (eqb t.from p) (R.times t.weight (at_rest R.zero (future_within R F k t.to) (cut (outer_word t.label) (u ∷ v ∷ [])))) R.zero ≡ sum_over R (λ m. first_step R J k p (u ∷ m ∷ v ∷ []) t) (tapes_within alphabet M)
        moved again t i =
            let short : length (part t 1) ≤ W = (middles t i).1 in
            let N = M - length (part t 1) in
            let e : M ≡ length (part t 1) + N = enough k W (length (part t 1)) M short b in
            let n : k * W ≤ N = left k W (length (part t 1)) M short b in
            ap (λ y. cond (eqb t.from p) (R.times t.weight y) R.zero)
            (two L (future_within R F k t.to) (part t 0) (part t 2) u v
            ∙ on_same L (rest_after (part t 0) u) _ _ (λ u'. on_same L (rest_after (part t 2) v) _ _ (λ v'. again t.to N u' v' (j.to t i) n))
            ∙ sym (read_middle (rest_after (part t 0) u) (rest_after (part t 2) v) (part t 1) M N (λ u' m' v'. future_within R J k t.to (u' ∷ m' ∷ v' ∷ [])) (middles t i).0 e)
            ∙ sum_same L _ _ (tapes_within alphabet M) (λ m o. sym (ap (λ w. at_rest R.zero (future_within R J k t.to) (cut w (u ∷ m ∷ v ∷ []))) (three_parts t.label (j.label t i)) ∙ three L (future_within R J k t.to) (part t 0) (part t 1) (part t 2) u m v)))
            ∙ ap (λ y. cond (eqb t.from p) y R.zero) (sym (sum-times L t.weight _ (tapes_within alphabet M)))
            ∙ sym (cond-sum L (eqb t.from p) _ (tapes_within alphabet M))
          where
            enough : (k W s M : ℕ) → s ≤ W → suc k * W ≤ M → M ≡ s + (M - s)
            enough k W s M h b = grind arith

            left : (k W s M : ℕ) → s ≤ W → suc k * W ≤ M → k * W ≤ M - s
            left k W s M h b = grind arith

    -- the middle part of a path's label
    middle_part : (p : ℕ) (ts : List (Transition V)) → IsPath J p ts → IsOver alphabet (get_or (path_label 3 ts) 1 []) × (length (get_or (path_label 3 ts) 1 []) ≤ length ts * W)
    middle_part p [] h = (tt, omega arith)
    middle_part p (t ∷ ts) h =
        let r = middle_part t.to ts h.2 in
        let s = middles t h.0 in
        let e : get_or (path_label 3 (t ∷ ts)) 1 [] ≡ part t 1 ++ get_or (path_label 3 ts) 1 [] = joined t.label (path_label 3 ts) (j.label t h.0) (length-path_label J 3 j.label t.to ts h.2) in
        let n = length-append (part t 1) (get_or (path_label 3 ts) 1 []) in
        subst (λ b. IsOver alphabet b × (length b ≤ length (t ∷ ts) * W)) (sym e) (IsOver-append alphabet (part t 1) (get_or (path_label 3 ts) 1 []) s.0 r.0, more (length ts) W (length (part t 1)) (length (get_or (path_label 3 ts) 1 [])) _ n s.1 r.1)
      where
        more : (k W a b c : ℕ) → c ≡ a + b → a ≤ W → b ≤ k * W → c ≤ suc k * W
        more k W a b c e h g = grind arith

        joined : (v w : Word) → length v ≡ 3 → length w ≡ 3 → get_or (join v w) 1 [] ≡ get_or v 1 [] ++ get_or w 1 []
        joined v w e g = ap₂ (λ x y. get_or (join x y) 1 []) (three_parts v e) (three_parts w g)

    module _ (p : ℕ) (l : p < J.states) (u v : Tape) (M : ℕ) (b : (size (u ∷ v ∷ []) + 1) * J.states * W ≤ M) where
      -- the paths of at most k transitions whose label is u, at most M letters, and v
      abbrev listed : ℕ → List (List (Transition V))
      listed k = flat_map (λ m. filter (λ ts. same_word (path_label 3 ts) (u ∷ m ∷ v ∷ [])) (paths J k p)) (tapes_within alphabet M)

      listed_sum : (k : ℕ) → sum_over R (path_value R J p) (listed k) ≡ sum_over R (λ m. future_within R J k p (u ∷ m ∷ v ∷ [])) (tapes_within alphabet M)
      listed_sum k = sum-flat_map L (path_value R J p) (λ m. filter (λ ts. same_word (path_label 3 ts) (u ∷ m ∷ v ∷ [])) (paths J k p)) (tapes_within alphabet M)

      listed_are : (k : ℕ) → (size (u ∷ v ∷ []) + 1) * J.states ≤ k → ArePaths J outer_tapes (u ∷ [] ∷ v ∷ []) p ((size (u ∷ v ∷ []) + 1) * J.states) (listed k)
      listed_are k h = record {
        once = NoRepeat-flat_map piece (tapes_within alphabet M) (tapes_within-NoRepeat alphabet once M)
            (λ m i. NoRepeat-filter (test m) (paths J k p) (paths-NoRepeat J (NoRepeat-from_map triple J.transitions j.triples) k p))
            (λ m m' ts i i' q q'. middle_same m m' (sym (label m ts q) ∙ label m' ts q'));
        path = λ ts i. let r = In-flat_map_from piece ts (tapes_within alphabet M) i in (paths-In J k p ts (In-filter_from (test r.0) ts (paths J k p) r.2).0).0;
        agrees = λ ts i. let r = In-flat_map_from piece ts (tapes_within alphabet M) i in ap (on outer_tapes) (label r.0 ts r.2);
        all = λ ts g a n.
            let c = middle_part p ts g in
            let parts : path_label 3 ts ≡ get_or (path_label 3 ts) 0 [] ∷ get_or (path_label 3 ts) 1 [] ∷ get_or (path_label 3 ts) 2 [] ∷ [] = three_parts (path_label 3 ts) (length-path_label J 3 j.label p ts g) in
            let same : get_or (path_label 3 ts) 0 [] ∷ get_or (path_label 3 ts) 2 [] ∷ [] ≡ u ∷ v ∷ [] = sym (ap (on outer_tapes) parts) ∙ a in
            let whole : path_label 3 ts ≡ u ∷ get_or (path_label 3 ts) 1 [] ∷ v ∷ [] = parts ∙ around _ _ _ same in
            In-flat_map piece ts (get_or (path_label 3 ts) 1 []) (tapes_within alphabet M)
            (In-tapes_within alphabet M (get_or (path_label 3 ts) 1 []) c.0 (bounded (length ts) ((size (u ∷ v ∷ []) + 1) * J.states) W M _ c.1 n b))
            (In-filter (test (get_or (path_label 3 ts) 1 [])) ts (paths J k p) (In-paths J k p ts g (omega (arith, n, h))) (same_word_is (path_label 3 ts) _ whole));
      }
        where
          test : Tape → List (Transition V) → Bool
          test m ts = same_word (path_label 3 ts) (u ∷ m ∷ v ∷ [])

          piece : Tape → List (List (Transition V))
          piece m = filter (λ ts. same_word (path_label 3 ts) (u ∷ m ∷ v ∷ [])) (paths J k p)

          label : (m : Tape) (ts : List (Transition V)) → In ts (piece m) → path_label 3 ts ≡ u ∷ m ∷ v ∷ []
          label m ts i = same_word-true (path_label 3 ts) (u ∷ m ∷ v ∷ []) (In-filter_from (test m) ts (paths J k p) i).1

          middle_same : (m m' : Tape) → u ∷ m ∷ v ∷ [] ≡ u ∷ m' ∷ v ∷ [] → m ≡ m'
          middle_same m m' e = cc

          around : (a c d : Tape) → a ∷ d ∷ [] ≡ u ∷ v ∷ [] → a ∷ c ∷ d ∷ [] ≡ u ∷ c ∷ v ∷ []
          around a c d e = cc

          bounded : (n k W M b : ℕ) → b ≤ n * W → n ≤ k → k * W ≤ M → b ≤ M
          bounded n k W M b g h q = let r = mul-le-mul_right W h in omega arith

      -- the future of F: the sum over the middle tapes of at most M letters
      pub projection_future : Absorbs R ⊎ NoCircuitOn 3 outer_tapes J → future R F p (u ∷ v ∷ []) ≡ sum_over R (λ m. future R J p (u ∷ m ∷ v ∷ [])) (tapes_within alphabet M)
      projection_future s =
          let k = (size (u ∷ v ∷ []) + 1) * J.states in
          let B = (size (u ∷ v ∷ []) + M + 1) * J.states in
          ap (λ n. future_within R F ((size (u ∷ v ∷ []) + 1) * n) p (u ∷ v ∷ [])) P.states
          ∙ projection_within k p M u v l b
          ∙ sym (listed_sum k)
          ∙ sum-path_lists L J 3 outer_tapes j.label j.to (u ∷ [] ∷ v ∷ []) refl p l s k k (omega arith) (omega arith) (listed k) (listed B) (listed_are k (omega arith)) (listed_are B (mul-le-mul_right J.states (omega arith)))
          ∙ listed_sum B
          ∙ sum_same L _ _ (tapes_within alphabet M) (λ m i.
          future_within-bounds L 3 J j B ((size (u ∷ m ∷ v ∷ []) + 1) * J.states) p (u ∷ m ∷ v ∷ []) refl l (elim s [ inl a ↦ inl a | inr N ↦ inr (NoCircuitOn-NoEmptyCircuit 3 J j.label outer_tapes N) ]) (let h = (tapes_within-In alphabet M m i).1 in mul-le-mul_right J.states (omega (arith, h))) (omega arith))

    -- the coefficient of F: the sum over the middle tapes of at most M letters
    pub projection_coefficient : Absorbs R ⊎ NoCircuitOn 3 outer_tapes J → (u v : Tape) (M : ℕ) → (size (u ∷ v ∷ []) + 1) * J.states * W ≤ M → coefficient R F (u ∷ v ∷ []) ≡ sum_over R (λ m. coefficient R J (u ∷ m ∷ v ∷ [])) (tapes_within alphabet M)
    projection_coefficient s u v M b =
        ap (λ n. sum_over R (λ p. R.times (initial_weight R F p) (future R F p (u ∷ v ∷ []))) (below n)) P.states
        ∙ sum_same L _ (λ p. sum_over R (λ m. R.times (initial_weight R J p) (future R J p (u ∷ m ∷ v ∷ []))) (tapes_within alphabet M)) (below J.states) (λ p i.
        let l : p < J.states = omega (arith, (In-up_from p 0 J.states i).1) in
        ap₂ R.times (P.initial p l) (projection_future p l u v M b s) ∙ sym (sum-times L (initial_weight R J p) _ (tapes_within alphabet M)))
        ∙ sum_swap L (λ p m. R.times (initial_weight R J p) (future R J p (u ∷ m ∷ v ∷ []))) (below J.states) (tapes_within alphabet M)
