-- What pairs lead to is in the order of labels and then of pairs.
use Rattle.std.proofs.Common.{◌≡◌, ℕ, List, [], ◌∷◌, ◌++◌, map, Bool, true, false, refl, sym, ap, ◌∙◌, subst, Less, Equal, Greater, inl, inr, arith, cond}
use Rattle.std.specs.Prelude.{◌==◌, ◌↔◌}
use Rattle.std.specs.List.{filter, AllByRecursion}
use Rattle.std.specs.Ordering.{nat_cmp, ordering_then, is_lt}
use Rattle.std.specs.declared.cmp.Ordering.{Ordering}
use Rattle.std.proofs.lemmas.Grind.{common_steps}
use Rattle.std.proofs.lemmas.Map.Keys.{sorted_head, sorted_tail}
use Rattle.std.proofs.lemmas.List.Kept.{IsStrictlySortedBy-filter}
use Rattle.vc_label.specs.Order.{word_order}
use Rattle.vc_model.specs.Automata.{Automaton, Transition}
use Rattle.vc_model.specs.Gathered.{IsAscending}
use Rattle.vc_model.specs.Items.{Item, item_key}
use Rattle.vc_model.specs.Lists.{In, NoRepeat}
use Rattle.vc_model.specs.Members.{In-append_cases, In-map_from, In-flat_map_from, In-filter_from}
use Rattle.vc_model.specs.WeightSet.{WeightSet}
use Rattle.vc_model.specs.WordLaws.{same_word-true}
use Rattle.vc_model.specs.Words.{Word, same_word}
use Rattle.vc_aut.specs.Order.{triple_order, AreInOrder, moves_from}
use Rattle.vc_join.specs.Conjunctions.{both_item, both_items, conjunction_items}
use Rattle.vc_join.specs.Pairs.{Pair}
use Rattle.vc_join.specs.Shuffles.{left_item, right_item}
use Rattle.vc_join.specs.Orders.{item_before}
use Rattle.vc_join.proofs.Alike.{of_state}

-- by label and then by target
abbrev ByMove : {V : Type 0} → Transition V → Transition V → Type 0
ByMove t u = ordering_then (word_order t.label u.label) (nat_cmp t.to u.to) ≡ Less

abbrev AreByMove : {V : Type 0} → List (Transition V) → Type 0
AreByMove [] = Unit {0}
AreByMove {V} (t ∷ ts) = ((u : Transition V) → In u ts → ByMove t u) × AreByMove ts

nat_cmp-self : (x : ℕ) → nat_cmp x x ≡ Equal
nat_cmp-self x = grind (arith, common_steps)

regroup : (a b c : Ordering) → a ≡ Equal → ordering_then (ordering_then a b) c ≡ Less → ordering_then b c ≡ Less
regroup Equal b c e h = h
regroup Less b c e h = absurd (cc)
regroup Greater b c e h = absurd (cc)

all_of : {V : Type 0} (t u : Transition V) (us : List (Transition V)) → AllByRecursion (λ v. triple_order t v ≡ Less) us → In u us → triple_order t u ≡ Less
all_of t u [] a i = absurd i
all_of t u (v ∷ us) a (inl e) = ap (triple_order t) e ∙ a.0
all_of t u (v ∷ us) a (inr j) = all_of t u us a.1 j

by_move : {V : Type 0} (p : ℕ) (ts : List (Transition V)) → AreInOrder ts → ((t : Transition V) → In t ts → t.from ≡ p) → AreByMove ts
by_move p [] o h = tt
by_move p (t ∷ ts) o h = (
  (λ u i.
      let f : t.from ≡ u.from = h t (inl refl) ∙ sym (h u (inr i)) in
      regroup (nat_cmp t.from u.from) (word_order t.label u.label) (nat_cmp t.to u.to) (ap (nat_cmp t.from) (sym f) ∙ nat_cmp-self t.from) (all_of t u ts (sorted_head triple_order t ts o) i)),
  by_move p ts (sorted_tail triple_order t ts o) (λ u i. h u (inr i)),
)

moves_by_move : {V : Type 0} (p : ℕ) (ts : List (Transition V)) → AreInOrder ts → AreByMove (filter (λ t. t.from == p) ts)
moves_by_move p ts o = by_move p (filter (λ t. t.from == p) ts) (IsStrictlySortedBy-filter triple_order (λ t. t.from == p) ts o) (of_state p ts)

ascending_both : {X : Type 0} (before : X → X → Bool) (xs ys : List X) → IsAscending before xs → IsAscending before ys → ((x y : X) → In x xs → In y ys → before x y ≡ true) → IsAscending before (xs ++ ys)
ascending_both before [] ys a b h = b
ascending_both before (x ∷ xs) ys a b h = (
  (λ y i. elim (In-append_cases y xs ys i) [ inl j ↦ a.0 y j | inr j ↦ h x y (inl refl) j ]),
  ascending_both before xs ys a.1 b (λ z y i j. h z y (inr i) j),
)

first_before : (a b c : Ordering) → ordering_then a b ≡ Less → is_lt (ordering_then a (ordering_then b c)) ≡ true
first_before Less b c h = refl
first_before Greater b c h = absurd (cc)
first_before Equal Less c h = refl
first_before Equal Equal c h = absurd (cc)
first_before Equal Greater c h = absurd (cc)

-- the moves of one state, while the other stays
left_sorted : {V : Type 0} (q : ℕ) (ts : List (Transition V)) → AreByMove ts → IsAscending item_before (map (left_item q) ts)
left_sorted q [] s = tt
left_sorted q (t ∷ ts) s = (
  (λ e i.
      let r = In-map_from (left_item q) e ts i in
      subst (λ z. item_before (left_item q t) z ≡ true) (sym r.2) (first_before (word_order t.label r.0.label) (nat_cmp t.to r.0.to) (nat_cmp q q) (s.0 r.0 r.1))),
  left_sorted q ts s.1,
)

behind_equal : (a m c : Ordering) → m ≡ Equal → ordering_then a c ≡ Less → is_lt (ordering_then a (ordering_then m c)) ≡ true
behind_equal a Less c e h = absurd (cc)
behind_equal a Greater c e h = absurd (cc)
behind_equal Less Equal c e h = refl
behind_equal Greater Equal c e h = absurd (cc)
behind_equal Equal Equal c e h = ap is_lt h

right_sorted : {V : Type 0} (p : ℕ) (us : List (Transition V)) → AreByMove us → IsAscending item_before (map (right_item p) us)
right_sorted p [] s = tt
right_sorted p (u ∷ us) s = (
  (λ e i.
      let r = In-map_from (right_item p) e us i in
      subst (λ z. item_before (right_item p u) z ≡ true) (sym r.2) (behind_equal (word_order u.label r.0.label) (nat_cmp p p) (nat_cmp u.to r.0.to) (nat_cmp-self p) (s.0 r.0 r.1))),
  right_sorted p us s.1,
)

pub lefts_sorted : {V : Type 0} (A : Automaton V) (k : Pair) → AreInOrder A.transitions → IsAscending item_before (map (left_item k.1) (moves_from A.transitions k.0))
lefts_sorted A k a = left_sorted k.1 (moves_from A.transitions k.0) (moves_by_move k.0 A.transitions a)

pub rights_sorted : {V : Type 0} (B : Automaton V) (k : Pair) → AreInOrder B.transitions → IsAscending item_before (map (right_item k.0) (moves_from B.transitions k.1))
rights_sorted B k b = right_sorted k.0 (moves_from B.transitions k.1) (moves_by_move k.1 B.transitions b)

module _ (equal : (v w : Word) → (word_order v w ≡ Equal) ↔ (v ≡ w)) {V : Type 0} (R : WeightSet V) where
  same_label : (t u : Transition V) → t.label ≡ u.label → word_order t.label u.label ≡ Equal
  same_label t u e = (equal t.label u.label).1 e

  right_of : (a c : Ordering) → a ≡ Equal → ordering_then a c ≡ Less → c ≡ Less
  right_of Equal c e h = h
  right_of Less c e h = absurd (cc)
  right_of Greater c e h = absurd (cc)

  -- the run of one transition
  run_sorted : (t : Transition V) (us : List (Transition V)) → AreByMove us → ((u : Transition V) → In u us → t.label ≡ u.label) → IsAscending item_before (map (both_item R t) us)
  run_sorted t [] s h = tt
  run_sorted t (u ∷ us) s h = (
    (λ e i.
        let r = In-map_from (both_item R t) e us i in
        let v = r.0 in
        let l : u.label ≡ v.label = sym (h u (inl refl)) ∙ h v (inr r.1) in
        let n : nat_cmp u.to v.to ≡ Less = right_of (word_order u.label v.label) (nat_cmp u.to v.to) (same_label u v l) (s.0 v r.1) in
        let w : word_order t.label t.label ≡ Equal = same_label t t refl in
        subst (λ z. item_before (both_item R t u) z ≡ true) (sym r.2)
        (rw (w, nat_cmp-self t.to, n) refl)),
    run_sorted t us s.1 (λ v i. h v (inr i)),
  )

  kept_by_move : (p : Transition V → Bool) (us : List (Transition V)) → AreByMove us → AreByMove (filter p us)
  kept_by_move p [] s = tt
  kept_by_move p (u ∷ us) s = go (p u) (kept_by_move p us s.1)
    where
      go : (b : Bool) → AreByMove (filter p us) → AreByMove (cond b (u ∷ filter p us) (filter p us))
      go true ih = ((λ v i. s.0 v (In-filter_from p v us i).0), ih)
      go false ih = ih

  items_sorted : (ts us : List (Transition V)) → AreByMove ts → AreByMove us → IsAscending item_before (both_items R ts us)
  items_sorted [] us a b = tt
  items_sorted (t ∷ ts) us a b =
      let run = filter (λ (u : Transition V). same_word t.label u.label) us in
      ascending_both item_before (map (both_item R t) run) (both_items R ts us)
      (run_sorted t run (kept_by_move (λ (u : Transition V). same_word t.label u.label) us b) (λ u i. same_word-true t.label u.label (In-filter_from (λ (u : Transition V). same_word t.label u.label) u us i).1))
      (items_sorted ts us a.1 b)
      (λ d e i j.
      let r = In-map_from (both_item R t) d run i in
      let x = In-flat_map_from (λ t. map (both_item R t) (filter (λ (u : Transition V). same_word t.label u.label) us)) e ts j in
      let y = In-map_from (both_item R x.0) e (filter (λ (u : Transition V). same_word x.0.label u.label) us) x.2 in
      subst (λ z. item_before z e ≡ true) (sym r.2)
      (subst (λ z. item_before (both_item R t r.0) z ≡ true) (sym y.2)
      (first_before (word_order t.label x.0.label) (nat_cmp t.to x.0.to) (nat_cmp r.0.to y.0.to) (a.0 x.0 x.1))))

  -- what a pair leads to, in a conjunction
  pub conjunction_sorted : (A B : Automaton V) (k : Pair) → AreInOrder A.transitions → AreInOrder B.transitions → IsAscending item_before (conjunction_items R A B k)
  conjunction_sorted A B k a b = items_sorted (moves_from A.transitions k.0) (moves_from B.transitions k.1) (moves_by_move k.0 A.transitions a) (moves_by_move k.1 B.transitions b)

  -- what is in order has no label and pair twice
  pub ordered_once : (es : List (Item V Pair)) → IsAscending item_before es → NoRepeat (map item_key es)
  ordered_once [] a = tt
  ordered_once (e ∷ es) a = (
    (λ i.
        let r = In-map_from item_key (item_key e) es i in
        let l : e.label ≡ r.0.label = ap (λ (z : Word × Pair). z.0) r.2 in
        let p : e.to ≡ r.0.to = ap (λ (z : Word × Pair). z.1) r.2 in
        let w : word_order e.label r.0.label ≡ Equal = (equal e.label r.0.label).1 l in
        let m : nat_cmp e.to.0 r.0.to.0 ≡ Equal = subst (λ (z : Pair). nat_cmp e.to.0 z.0 ≡ Equal) p (nat_cmp-self e.to.0) in
        let n : nat_cmp e.to.1 r.0.to.1 ≡ Equal = subst (λ (z : Pair). nat_cmp e.to.1 z.1 ≡ Equal) p (nat_cmp-self e.to.1) in
        let b : item_before e r.0 ≡ true = a.0 r.0 r.1 in
        let f : item_before e r.0 ≡ false = rw (w, m, n) refl in
        absurd (cc)),
    ordered_once es a.1,
  )

  pub conjunction_once : (A B : Automaton V) (k : Pair) → AreInOrder A.transitions → AreInOrder B.transitions → NoRepeat (map item_key (conjunction_items R A B k))
  conjunction_once A B k a b = ordered_once (conjunction_items R A B k) (conjunction_sorted A B k a b)
