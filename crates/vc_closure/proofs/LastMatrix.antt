-- The last of as many matrices as there are states is closed, and where one absorbs it is the least.
use Rattle.std.proofs.Common.{◌≡◌, ℕ, map, cond, Bool, true, false, eqb, get_or, refl, sym, ap, ap₂, ◌∙◌, inl, inr, zero, suc, ◌<◌, ◌+◌, ◌-◌, ◌*◌, arith, length, List, [], ◌∷◌, Some, subst}
use Rattle.std.specs.List.{filter}
use Rattle.vc_closure.specs.Closing.{IsClosed, closure, matrix, unit_entry}
use Rattle.vc_closure.proofs.Closings.{acts, silent, unit_acts}
use Rattle.vc_model.specs.Automata.{Transition, Automaton, IsAutomaton, IsPath, IsSound, triple, final_weight, future_within, at_rest}
use Rattle.vc_model.specs.Bounds.{future_within-sharp}
use Rattle.vc_model.specs.Closures.{IsLeast, entries_sum, silent_sum}
use Rattle.vc_model.specs.FirstSteps.{future_within-zero, future_within-suc}
use Rattle.vc_model.specs.Lists.{In, NoRepeat, below, up_from}
use Rattle.vc_model.specs.Members.{In-filter_from, In-map, In-map_from}
use Rattle.vc_model.specs.Order.{below_left, below_right, below_plus, below_times, below_sum, below_cond}
use Rattle.vc_model.specs.SumLaws.{sum-filter, sum_same}
use Rattle.vc_model.specs.WeightSet.{WeightSet, SemiringLaws, Absorbs}
use Rattle.vc_model.specs.WordLaws.{cut-join, empty_from_size, is_empty-empty_word, join-empty_left, length-empty_word, size-empty_word, size-is_empty}
use Rattle.vc_model.specs.Words.{empty_word, size, cut, is_empty}

get_or-map : {V : Type 0} (f : ℕ → V) (s n i : ℕ) (d : V) → i < n → get_or (map f (up_from s n)) i d ≡ f (s + i)
get_or-map f s zero i d l = absurd (omega arith)
get_or-map f s (suc n) zero d l = ap f (omega arith)
get_or-map f s (suc n) (suc i) d l = get_or-map f (suc s) n i d (omega arith) ∙ ap f (omega arith)

length-up_from : {V : Type 0} (f : ℕ → V) (s n : ℕ) → length (map f (up_from s n)) ≡ n
length-up_from f s zero = refl
length-up_from f s (suc n) = ap suc (length-up_from f (suc s) n)

pub NoRepeat-map_filter : {X Y : Type 0} (f : X → Y) (p : X → Bool) (xs : List X) → NoRepeat (map f xs) → NoRepeat (map f (filter p xs))
NoRepeat-map_filter f p [] n = tt
NoRepeat-map_filter {X} {Y} f p (x ∷ xs) n = go (p x) (NoRepeat-map_filter f p xs n.1)
  where
    go : (b : Bool) → NoRepeat (map f (filter p xs)) → NoRepeat (map f (cond b (x ∷ filter p xs) (filter p xs)))
    go true h = ((λ i. let r = In-map_from f (f x) (filter p xs) i in n.0 (subst (λ y. In y (map f xs)) (sym r.2) (In-map f r.0 xs (In-filter_from p r.0 xs r.1).0))), h)
    go false h = h

module _ {V : Type 0} {R : WeightSet V} (L : SemiringLaws R) (tapes : ℕ) (A : Automaton V) (G : IsAutomaton R tapes A) where
  -- the empty transitions alone, where t alone is final
  abbrev silent_to : ℕ → Automaton V
  silent_to t = record { states = A.states; initial = A.initial; final = map (λ i. unit_entry R i t) (below A.states); transitions = filter (λ u. is_empty u.label) A.transitions }

  was : (u : Transition V) (t : ℕ) → In u (silent_to t).transitions → In u A.transitions × (is_empty u.label ≡ true)
  was u t i = In-filter_from (λ u. is_empty u.label) u A.transitions i

  silent_automaton : (t : ℕ) → IsAutomaton R tapes (silent_to t)
  silent_automaton t =
      record {
        initial = G.initial;
        final = length-up_from (λ i. unit_entry R i t) 0 A.states;
        from = λ u i. G.from u (was u t i).0;
        to = λ u i. G.to u (was u t i).0;
        label = λ u i. G.label u (was u t i).0;
        triples = NoRepeat-map_filter triple (λ u. is_empty u.label) A.transitions G.triples;
        weight = λ u i. G.weight u (was u t i).0;
      }

  silent_path : (t p : ℕ) (ts : List (Transition V)) → IsPath (silent_to t) p ts → IsPath A p ts
  silent_path t p [] h = tt
  silent_path t p (u ∷ ts) h = ((was u t h.0).0, h.1, silent_path t u.to ts h.2)

  silent_sound : (t : ℕ) → IsSound R tapes A → IsSound R tapes (silent_to t)
  silent_sound t (inl b) = inl b
  silent_sound t (inr n) = inr (λ p u ts k. n p u ts (silent_path t p (u ∷ ts) k))

  ends_in : (i t : ℕ) → i < A.states → cond (is_empty (empty_word tapes)) (final_weight R (silent_to t) i) R.zero ≡ unit_entry R i t
  ends_in i t l = ap (λ b. cond b (final_weight R (silent_to t) i) R.zero) (is_empty-empty_word tapes) ∙ get_or-map (λ j. unit_entry R j t) 0 A.states i R.zero l ∙ ap (λ j. unit_entry R j t) (omega arith)

  -- its futures at the empty word are the matrices
  future_is : (k i t : ℕ) → i < A.states → future_within R (silent_to t) k i (empty_word tapes) ≡ matrix R A k i t
  future_is zero i t l = future_within-zero L (silent_to t) tapes (silent_automaton t).label i (empty_word tapes) (length-empty_word tapes) ∙ ends_in i t l
  future_is (suc k) i t l =
      future_within-suc L (silent_to t) tapes (silent_automaton t).label k i (empty_word tapes) (length-empty_word tapes)
      ∙ ap₂ R.plus (ends_in i t l)
      (sum-filter L (λ (u : Transition V). cond (eqb u.from i) (R.times u.weight (at_rest R.zero (future_within R (silent_to t) k u.to) (cut u.label (empty_word tapes)))) R.zero) (λ u. is_empty u.label) A.transitions
      ∙ sum_same L _ (λ u. cond (eqb u.from i) (cond (is_empty u.label) (R.times u.weight (matrix R A k u.to t)) R.zero) R.zero) A.transitions (λ u m. each u m (future_is k u.to t (G.to u m)) (is_empty u.label) refl (eqb u.from i))
      ∙ sym (silent L A G.to i (λ j. matrix R A k j t)))
    where
      each : (u : Transition V) → In u A.transitions → future_within R (silent_to t) k u.to (empty_word tapes) ≡ matrix R A k u.to t → (b : Bool) → is_empty u.label ≡ b → (c : Bool)
          → cond b (cond c (R.times u.weight (at_rest R.zero (future_within R (silent_to t) k u.to) (cut u.label (empty_word tapes)))) R.zero) R.zero ≡ cond c (cond b (R.times u.weight (matrix R A k u.to t)) R.zero) R.zero
      each u m ih true q true =
          let n : u.label ≡ empty_word tapes = empty_from_size u.label (size-is_empty u.label q) ∙ ap empty_word (G.label u m) in
          let c : cut u.label (empty_word tapes) ≡ Some (empty_word tapes) = ap (λ a. cut a (empty_word tapes)) n ∙ ap (cut (empty_word tapes)) (sym (join-empty_left tapes (empty_word tapes) (length-empty_word tapes))) ∙ cut-join (empty_word tapes) (empty_word tapes) refl in
          ap (λ r. R.times u.weight (at_rest R.zero (future_within R (silent_to t) k u.to) r)) c ∙ ap (R.times u.weight) ih
      each u m ih true q false = refl
      each u m ih false q true = refl
      each u m ih false q false = refl

  -- the last of n matrices is closed
  pub last_closed : IsSound R tapes A → IsClosed R A (closure R A)
  last_closed s i t l m =
      let b : (size (empty_word tapes) + 1) * A.states ≡ A.states = ap (λ n. (n + 1) * A.states) (size-empty_word tapes) ∙ omega arith in
      sym (future_is (A.states - 1) i t l)
      ∙ future_within-sharp L tapes (silent_to t) (silent_automaton t) (A.states - 1) (suc (A.states - 1)) i (empty_word tapes) (length-empty_word tapes) l (silent_sound t s) (omega arith) (omega arith)
      ∙ future_is (suc (A.states - 1)) i t l

  module _ (absorbing : Absorbs R) where
    -- each matrix adds nothing to what takes in its own empty labels
    matrix_least : (m : ℕ) → IsLeast R A (matrix R A m)
    matrix_least zero g x h p l =
        ap (R.plus (x p)) (unit_acts L A.states p g l) ∙ below_left L absorbing (g p) (silent_sum R A p x) (x p) (h p l)
    matrix_least (suc m) g x h p l =
        ap (R.plus (x p)) (acts L A G.to (matrix R A (suc m)) (matrix R A m) (λ i t a b. refl) p g l)
        ∙ below_plus L absorbing (g p) (silent_sum R A p (λ q. entries_sum R A (matrix R A m) q g)) (x p)
        (below_left L absorbing (g p) (silent_sum R A p x) (x p) (h p l))
        (ap (λ y. R.plus y (silent_sum R A p (λ q. entries_sum R A (matrix R A m) q g))) (sym (below_right L absorbing (g p) (silent_sum R A p x) (x p) (h p l)))
        ∙ L.plus_assoc (x p) (silent_sum R A p x) (silent_sum R A p (λ q. entries_sum R A (matrix R A m) q g))
        ∙ ap (R.plus (x p)) (below_sum L absorbing _ _ A.transitions (λ t i. below_cond L absorbing (eqb t.from p) _ _ (below_cond L absorbing (is_empty t.label) _ _
        (below_times L absorbing t.weight _ _ (matrix_least m g x h t.to (G.to t i))))))
        ∙ below_right L absorbing (g p) (silent_sum R A p x) (x p) (h p l))

    pub last_least : IsLeast R A (closure R A)
    last_least = matrix_least (A.states - 1)
