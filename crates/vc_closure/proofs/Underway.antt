-- A search that is underway: what holds at each of its steps, and what it finds.
use Rattle.std.proofs.Common.{◌≡◌, ◌≢◌, ℕ, ◌<◌, ◌+◌, ◌*◌, List, [], ◌∷◌, ◌++◌, Bool, true, false, length, set, drop, get_or, refl, sym, ap, ◌∙◌, append-nil, inl, inr, ◌⊎◌, subst, arith, suc, zero}
use Rattle.std.proofs.lemmas.Bool.{false≢true}
use Rattle.std.proofs.lemmas.List.{length-set, map-append}
use Rattle.vc_model.specs.Automata.{Transition, Automaton}
use Rattle.vc_model.specs.Lists.{In, NoRepeat}
use Rattle.vc_model.specs.Members.{In-append_cases, In-append_left, In-append_right, NoRepeat-append, NoRepeat-middle}
use Rattle.vc_closure.specs.Circuits.{IsCircuitOn}
use Rattle.vc_closure.specs.Searches.{AreLeft, ArePassed, ArePassedAlong, AreTaken, IsOpen, IsSearched, IsWalk, LeadBack, is_marked, moves_from, states_of, unmarked}
use Rattle.vc_closure.specs.declared.search.Step.{Step}
use Rattle.vc_closure.proofs.Marks.{along_kept, along_pop, along_push, marked_cases, marked_here, marked_kept, passed_kept, states_pop, states_push, unmarked_less}
use Rattle.vc_closure.proofs.Walks.{all_passed, back_push, taken_member, walk_circuit, walk_drop, walk_pop, walk_push, walk_steps}

-- the path leads from the root to the state, what was seen is on it or was left, and what stands before the steps was passed
pub record IsUnderway {V : Type 0} (A : Automaton V) (K : List Bool) (root : ℕ) (first seen done : List Bool) (order : List ℕ) (path : List Step) (state at : ℕ) : Type 0 where
  pub inside : state < A.states
  pub walk : IsWalk A K root path state
  pub searched : IsSearched A K seen done order
  pub kept : (q : ℕ) → is_marked first q ≡ true → is_marked seen q ≡ true
  pub known : is_marked seen root ≡ true
  pub left : (q : ℕ) → is_marked seen q ≡ true → (is_marked done q ≡ true) ⊎ ((q ≡ state) ⊎ In q (states_of path))
  pub along : ArePassedAlong A K done path
  pub here : ArePassed K done (moves_from A state) at
  pub undone : (q : ℕ) → (q ≡ state) ⊎ In q (states_of path) → is_marked done q ≡ false
  pub met : (q : ℕ) → (q ≡ state) ⊎ In q (states_of path) → is_marked seen q ≡ true
  pub apart : NoRepeat (states_of path)
  pub off_path : ¬ In state (states_of path)

not_marked : (b : Bool) → (b ≡ true → ⊥) → b ≡ false
not_marked true h = absurd (h refl)
not_marked false h = refl

once_more : (xs : List ℕ) (x : ℕ) → NoRepeat xs → (¬ In x xs) → NoRepeat (xs ++ x ∷ [])
once_more xs x n h = NoRepeat-append xs (x ∷ []) n ((λ i. i), tt) (λ y i j. elim j [ inl e ↦ h (subst (λ z. In z xs) e i) | inr k ↦ k ])

module _ {V : Type 0} (A : Automaton V) (K : List Bool) (root : ℕ) where
  -- a state more is seen
  with_seen : (seen done : List Bool) (order : List ℕ) (q : ℕ) → IsSearched A K seen done order → IsSearched A K (set seen q true) done order
  with_seen seen done order q h = record { seen_all = length-set seen q true ∙ h.seen_all; done_all = h.done_all; left = h.left; known = h.known; seen_first = λ r m. marked_kept seen q r (h.seen_first r m); once = h.once; inside = h.inside; back = h.back }

  pub begins : (seen done : List Bool) (order : List ℕ) → root < A.states → is_marked seen root ≡ false → IsSearched A K seen done order → AreLeft seen done → IsUnderway A K root seen (set seen root true) done order [] root 0
  begins seen done order l new h f =
      record {
        inside = l;
        walk = refl;
        searched = with_seen seen done order root h;
        kept = λ q m. marked_kept seen root q m;
        known = marked_here seen root (subst (λ n. root < n) (sym h.seen_all) l);
        left = λ q m. elim (marked_cases seen root q m) [ inl e ↦ inr (inl e) | inr k ↦ inl (f q k) ];
        along = tt;
        here = λ k t b. absurd (omega arith);
        undone = λ q o. elim o [ inl e ↦ subst (λ p. is_marked done p ≡ false) (sym e) (not_marked (is_marked done root) (λ d. false≢true (sym new ∙ h.seen_first root d))) | inr i ↦ absurd i ];
        met = λ q o. elim o [ inl e ↦ subst (λ p. is_marked (set seen root true) p ≡ true) (sym e) (marked_here seen root (subst (λ n. root < n) (sym h.seen_all) l)) | inr i ↦ absurd i ];
        apart = tt;
        off_path = λ i. i;
      }

  module _ (first seen done : List Bool) (order : List ℕ) (path : List Step) (state at : ℕ) (U : IsUnderway A K root first seen done order path state at) where
    -- the walk takes one transition more
    pub forward : (place : ℕ) (t : Transition V) (longer : List Step) → longer ≡ path ++ record { state = state; at = place } ∷ [] → IsOpen K done (moves_from A state) place t → ArePassed K done (moves_from A state) place → t.to < A.states → is_marked seen t.to ≡ false
        → IsUnderway A K root first (set seen t.to true) done order longer t.to 0
    forward place t longer is o p l fresh =
        let s : Step = record { state = state; at = place } in
        let old : (q : ℕ) → In q (states_of (path ++ s ∷ [])) → (q ≡ state) ⊎ In q (states_of path) = λ q i. elim (states_pop path s q i) [ inl j ↦ inr j | inr e ↦ inl e ] in
        subst (λ ss. IsUnderway A K root first (set seen t.to true) done order ss t.to 0) (sym is)
        (record {
          inside = l;
          walk = walk_push A K root state place path t U.walk o.at o.silent;
          searched = with_seen seen done order t.to U.searched;
          kept = λ q m. marked_kept seen t.to q (U.kept q m);
          known = marked_kept seen t.to root U.known;
          left = λ q m. elim (marked_cases seen t.to q m) [
            | inl e ↦ inr (inl e)
            | inr k ↦ elim (U.left q k) [
              | inl d ↦ inl d
              | inr (inl e) ↦ inr (inr (states_push path s q (inr e)))
              | inr (inr i) ↦ inr (inr (states_push path s q (inl i)))
            ]
          ];
          along = along_push K A done path s U.along p;
          here = λ k u b. absurd (omega arith);
          undone = λ q i. elim i [ inl e ↦ subst (λ r. is_marked done r ≡ false) (sym e) o.open_ | inr j ↦ U.undone q (old q j) ];
          met = λ q i. elim i [ inl e ↦ subst (λ r. is_marked (set seen t.to true) r ≡ true) (sym e) (marked_here seen t.to (subst (λ n. t.to < n) (sym U.searched.seen_all) l)) | inr j ↦ marked_kept seen t.to q (U.met q (old q j)) ];
          apart = subst (λ xs. NoRepeat xs) (sym (map-append (λ (x : Step). x.state) path (s ∷ []))) (once_more (states_of path) state U.apart U.off_path);
          off_path = λ i. false≢true (sym fresh ∙ U.met t.to (old t.to i));
        })

    -- a state that was seen and is not left is on the longer path
    pub on_path : (place : ℕ) (t : Transition V) (longer : List Step) → longer ≡ path ++ record { state = state; at = place } ∷ [] → IsOpen K done (moves_from A state) place t → is_marked seen t.to ≡ true → In t.to (states_of longer)
    on_path place t longer is o m =
        subst (λ ss. In t.to (states_of ss)) (sym is)
        (elim (U.left t.to m) [
          | inl d ↦ absurd (false≢true (sym o.open_ ∙ d))
          | inr (inl e) ↦ states_push path (record { state = state; at = place }) t.to (inr e)
          | inr (inr i) ↦ states_push path (record { state = state; at = place }) t.to (inl i)
        ])

    pub longer_walk : (place : ℕ) (t : Transition V) (longer : List Step) → longer ≡ path ++ record { state = state; at = place } ∷ [] → IsOpen K done (moves_from A state) place t → IsWalk A K root longer t.to
    longer_walk place t longer is o = subst (λ ss. IsWalk A K root ss t.to) (sym is) (walk_push A K root state place path t U.walk o.at o.silent)

    -- a turn forward makes the measure less
    pub less : (longer : List Step) (q : ℕ) → length longer ≡ length path + 1 → q < A.states → is_marked seen q ≡ false → 2 * unmarked (set seen q true) + length longer < 2 * unmarked seen + length path
    less longer q n l m = let e : unmarked (set seen q true) + 1 ≡ unmarked seen = unmarked_less seen q (subst (λ k. q < k) (sym U.searched.seen_all) l) m in omega arith

    module _ (passed : ArePassed K done (moves_from A state) (length (moves_from A state))) (after : List ℕ) (after_is : after ≡ order ++ state ∷ []) where
      -- the state is left
      leaves : IsSearched A K seen (set done state true) after
      leaves = record {
        seen_all = U.searched.seen_all;
        done_all = length-set done state true ∙ U.searched.done_all;
        left = λ q m. subst (λ xs. In q xs) (sym after_is) (elim (marked_cases done state q m) [
          | inl e ↦ In-append_right q order (state ∷ []) (inl e)
          | inr k ↦ In-append_left q order (state ∷ []) (U.searched.left q k)
        ]);
        known = λ q i. elim (In-append_cases q order (state ∷ []) (subst (λ xs. In q xs) after_is i)) [
          | inl j ↦ marked_kept done state q (U.searched.known q j)
          | inr (inl e) ↦ subst (λ p. is_marked (set done state true) p ≡ true) (sym e) (marked_here done state (subst (λ n. state < n) (sym U.searched.done_all) U.inside))
          | inr (inr j) ↦ absurd j
        ];
        seen_first = λ q m. elim (marked_cases done state q m) [ inl e ↦ U.met q (inl e) | inr k ↦ U.searched.seen_first q k ];
        once = subst (λ xs. NoRepeat xs) (sym after_is) (once_more order state U.searched.once (λ i. false≢true (sym (U.undone state (inl refl)) ∙ U.searched.known state i)));
        inside = λ q i. elim (In-append_cases q order (state ∷ []) (subst (λ xs. In q xs) after_is i)) [
          | inl j ↦ U.searched.inside q j
          | inr (inl e) ↦ subst (λ p. p < A.states) (sym e) U.inside
          | inr (inr j) ↦ absurd j
        ];
        back = subst (λ xs. LeadBack A K [] xs) (sym after_is) (back_push A K [] order state U.searched.back (λ t i f h. inr (U.searched.left t.to (all_passed A K done state passed t i f h))));
      }

      -- where the path is empty, all that was seen was left
      pub ends : path ≡ [] → IsSearched A K seen (set done state true) after × AreLeft seen (set done state true)
      ends e = (
        leaves,
        λ q m. elim (U.left q m) [
          | inl d ↦ marked_kept done state q d
          | inr (inl s) ↦ subst (λ p. is_marked (set done state true) p ≡ true) (sym s) (marked_here done state (subst (λ n. state < n) (sym U.searched.done_all) U.inside))
          | inr (inr i) ↦ absurd (subst (λ ss. In q (states_of ss)) e i)
        ],
      )

      -- the walk goes back by one step
      pub backward : ((t : Transition V) → In t A.transitions → t.from < A.states) → (rest : List Step) (s : Step) → path ≡ rest ++ s ∷ [] → IsUnderway A K root first seen (set done state true) after rest s.state s.at
      backward from rest s is =
          let w : IsWalk A K root (rest ++ s ∷ []) state = subst (λ ss. IsWalk A K root ss state) is U.walk in
          let t = walk_steps A K root state (rest ++ s ∷ []) w s (In-append_right s rest (s ∷ []) (inl refl)) in
          let m = taken_member A s t.0 t.1 in
          let p = along_pop K A done rest s (subst (λ ss. ArePassedAlong A K done ss) is U.along) in
          let was : (q : ℕ) → (q ≡ s.state) ⊎ In q (states_of rest) → In q (states_of path) = λ q o. subst (λ ss. In q (states_of ss)) (sym is) (elim o [ inl e ↦ states_push rest s q (inr e) | inr i ↦ states_push rest s q (inl i) ]) in
          let apart : NoRepeat (states_of rest ++ s.state ∷ []) = subst (λ xs. NoRepeat xs) (ap states_of is ∙ map-append (λ (x : Step). x.state) rest (s ∷ [])) U.apart in
          let parts = NoRepeat-middle s.state (states_of rest) [] apart in
          record {
            inside = subst (λ q. q < A.states) m.1 (from t.0 m.0);
            walk = walk_pop A K root state rest s w;
            searched = leaves;
            kept = U.kept;
            known = U.known;
            left = λ q k. elim (U.left q k) [
              | inl d ↦ inl (marked_kept done state q d)
              | inr (inl e) ↦ inl (subst (λ p. is_marked (set done state true) p ≡ true) (sym e) (marked_here done state (subst (λ n. state < n) (sym U.searched.done_all) U.inside)))
              | inr (inr i) ↦ elim (states_pop rest s q (subst (λ ss. In q (states_of ss)) is i)) [
                | inl j ↦ inr (inr j)
                | inr e ↦ inr (inl e)
              ]
            ];
            along = along_kept K A done state rest p.0;
            here = passed_kept K done state (moves_from A s.state) s.at p.1;
            undone = λ q o. not_marked (is_marked (set done state true) q) (λ m. elim (marked_cases done state q m) [
              | inl e ↦ U.off_path (subst (λ r. In r (states_of path)) e (was q o))
              | inr k ↦ false≢true (sym (U.undone q (inr (was q o))) ∙ k)
            ]);
            met = λ q o. U.met q (inr (was q o));
            apart = subst (λ xs. NoRepeat xs) (append-nil (states_of rest)) parts.1;
            off_path = λ i. parts.0 (In-append_left s.state (states_of rest) [] i);
          }

-- what is left of a walk, from the place of the state that it leads to, is a circuit
pub cut_circuit : {V : Type 0} (A : Automaton V) (K : List Bool) (tapes : ℕ) → ((t : Transition V) → In t A.transitions → length t.label ≡ tapes) → (root q : ℕ) (path : List Step) → IsWalk A K root path q → (k : ℕ) (d : Step) → k < length path → (get_or path k d).state ≡ q
    → (ts : List (Transition V)) → AreTaken A (drop k path) ts → IsCircuitOn tapes K A ts
cut_circuit A K tapes labels root q path w k d l e ts a =
    walk_circuit A K tapes labels q (drop k path) ts (rest_some path k l) (subst (λ p. IsWalk A K p (drop k path) q) e (walk_drop A K root q path k d w l)) a
  where
    rest_some : (ss : List Step) (k : ℕ) → k < length ss → drop k ss ≢ []
    rest_some [] k l e = absurd (omega arith)
    rest_some (s ∷ ss) zero l e = absurd (cc)
    rest_some (s ∷ ss) (suc k) l e = rest_some ss k (omega arith) e
