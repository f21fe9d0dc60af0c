-- In the order of labels, those that have one stand together.
use Rattle.std.proofs.Common.{◌≡◌, ℕ, List, [], ◌∷◌, ◌++◌, map, Bool, true, false, cond, refl, sym, ap, ap₂, ◌∙◌, subst, Less, Equal, Greater, inl, inr, arith, drop, zero, suc, ◌<◌, ◌+◌, length, get_or, All}
use Rattle.std.specs.Prelude.{◌≢◌, ◌↔◌, ◌==◌}
use Rattle.std.specs.List.{filter, AllByRecursion}
use Rattle.std.specs.Cmp.{IsTotalOrder}
use Rattle.std.specs.Ordering.{is_lt, ordering_then, ordering_reverse, nat_cmp}
use Rattle.std.specs.declared.cmp.Ordering.{Ordering}
use Rattle.std.proofs.lemmas.Cmp.{tied_itself}
use Rattle.std.proofs.lemmas.Bool.{eqb-true}
use Rattle.std.proofs.lemmas.Map.Keys.{sorted_head, sorted_tail}
use Rattle.std.proofs.lemmas.List.Kept.{IsStrictlySortedBy-filter}
use Rattle.std.proofs.lemmas.Grind.{common_steps}
use Rattle.vc_label.specs.Order.{word_order}
use Rattle.vc_model.specs.Automata.{Transition}
use Rattle.vc_model.specs.Lists.{In}
use Rattle.vc_model.specs.Members.{In-filter_from}
use Rattle.vc_model.specs.WordLaws.{same_word-true, same_word_refl}
use Rattle.vc_model.specs.Words.{Word, same_word}
use Rattle.vc_aut.specs.Order.{triple_order, AreInOrder}
use Rattle.std.proofs.lemmas.List.Elements.{All-nil, All-cons, All-head, All-tail}
use Rattle.vc_model.specs.WeightSet.{WeightSet}
use Rattle.vc_join.specs.Conjunctions.{both_item, both_items}
use Rattle.vc_join.proofs.Steps.{next_item}
use Rattle.vc_join.specs.Runs.{AreByLabel, from_label, run_of}

module _ (total : IsTotalOrder word_order) where
  before_not_same : (v w : Word) → word_order v w ≡ Less → same_word w v ≡ false
  before_not_same v w h = go (same_word w v) refl
    where
      go : (b : Bool) → same_word w v ≡ b → b ≡ false
      go false e = refl
      go true e =
          let s : w ≡ v = same_word-true w v e in
          let t : word_order v v ≡ Equal = tied_itself total v in
          let u : word_order v v ≡ Less = subst (λ z. word_order v z ≡ Less) s h in
          absurd (cc)

  after_not_same : (v w : Word) → word_order w v ≡ Less → same_word w v ≡ false
  after_not_same v w h = go (same_word w v) refl
    where
      go : (b : Bool) → same_word w v ≡ b → b ≡ false
      go false e = refl
      go true e =
          let s : w ≡ v = same_word-true w v e in
          let t : word_order v v ≡ Equal = tied_itself total v in
          let u : word_order v v ≡ Less = subst (λ z. word_order z v ≡ Less) s h in
          absurd (cc)

  -- before one that does not come after another is before that other
  before_both : (equal : (v w : Word) → (word_order v w ≡ Equal) ↔ (v ≡ w)) (u v w : Word) → word_order u v ≡ Less → word_order v w ≢ Greater → word_order u w ≡ Less
  before_both equal u v w h k = go (word_order v w) refl
    where
      go : (o : Ordering) → word_order v w ≡ o → word_order u w ≡ Less
      go Less e = total.trans u v w h e
      go Equal e = subst (λ z. word_order u z ≡ Less) ((equal v w).0 e) h
      go Greater e = absurd (k e)

  reversed : (v w : Word) → word_order v w ≡ Greater → word_order w v ≡ Less
  reversed v w e = total.antisymm w v ∙ ap ordering_reverse e

  module _ (equal : (v w : Word) → (word_order v w ≡ Equal) ↔ (v ≡ w)) {V : Type 0} where
    none_after : (w : Word) (ts : List (Transition V)) → ((u : Transition V) → In u ts → word_order w u.label ≡ Less) → filter (λ (u : Transition V). same_word w u.label) ts ≡ []
    none_after w [] h = refl
    none_after w (t ∷ ts) h = ap (λ b. cond b (t ∷ filter (λ (u : Transition V). same_word w u.label) ts) (filter (λ (u : Transition V). same_word w u.label) ts)) (after_not_same t.label w (h t (inl refl))) ∙ none_after w ts (λ u i. h u (inr i))

    -- from the label on, those with the label stand in front
    run_is : (w : Word) (ts : List (Transition V)) → AreByLabel ts → ((u : Transition V) → In u ts → word_order w u.label ≢ Greater) → filter (λ (u : Transition V). same_word w u.label) ts ≡ run_of w ts
    run_is w [] s h = refl
    run_is w (t ∷ ts) s h = go (word_order w t.label) refl (run_is w ts s.1 (λ u i. h u (inr i)))
      where
        same_of : word_order w t.label ≡ Equal → same_word w t.label ≡ true
        same_of e = subst (λ z. same_word w z ≡ true) ((equal w t.label).0 e) (same_word_refl w)

        go : (o : Ordering) → word_order w t.label ≡ o → filter (λ (u : Transition V). same_word w u.label) ts ≡ run_of w ts → filter (λ (u : Transition V). same_word w u.label) (t ∷ ts) ≡ run_of w (t ∷ ts)
        go Greater e ih = absurd (h t (inl refl) e)
        go Equal e ih = rw (same_of e) (ap (λ zs. t ∷ zs) ih)
        go Less e ih = ap (λ b. cond b (t ∷ filter (λ (u : Transition V). same_word w u.label) ts) (filter (λ (u : Transition V). same_word w u.label) ts)) (after_not_same t.label w e)
            ∙ none_after w ts (λ u i. before_both equal w t.label u.label e (s.0 u i))
            ∙ sym (ap (λ b. cond b (t ∷ run_of w ts) []) (after_not_same t.label w e))

    -- those with a label stand in front of what is left from the label on
    pub alike : (w : Word) (ts : List (Transition V)) → AreByLabel ts → filter (λ (u : Transition V). same_word w u.label) ts ≡ run_of w (from_label w ts)
    alike w [] s = refl
    alike w (t ∷ ts) s = go (word_order t.label w) refl (alike w ts s.1)
      where
        go : (o : Ordering) → word_order t.label w ≡ o → filter (λ (u : Transition V). same_word w u.label) ts ≡ run_of w (from_label w ts)
            → filter (λ (u : Transition V). same_word w u.label) (t ∷ ts) ≡ run_of w (cond (is_lt (word_order t.label w)) (from_label w ts) (t ∷ ts))
        go Less e ih =
            ap (λ b. cond b (t ∷ filter (λ (u : Transition V). same_word w u.label) ts) (filter (λ (u : Transition V). same_word w u.label) ts)) (before_not_same t.label w e)
            ∙ ih ∙ sym (ap (λ o. run_of w (cond (is_lt o) (from_label w ts) (t ∷ ts))) e)
        go Equal e ih =
            run_is w (t ∷ ts) s (λ u i. elim i [
              | inl p ↦ (λ q. let a : word_order w t.label ≡ Equal = (equal w t.label).1 (sym ((equal t.label w).0 e)) in let b : word_order w t.label ≡ Greater = ap (λ (z : Transition V). word_order w z.label) (sym p) ∙ q in absurd (cc))
              | inr j ↦ (λ q. s.0 u j (subst (λ z. word_order z u.label ≡ Greater) (sym ((equal t.label w).0 e)) q))
            ])
            ∙ sym (ap (λ o. run_of w (cond (is_lt o) (from_label w ts) (t ∷ ts))) e)
        go Greater e ih =
            let l : word_order w t.label ≡ Less = reversed t.label w e in
            run_is w (t ∷ ts) s (λ u i. elim i [
              | inl p ↦ (λ q. let b : word_order w t.label ≡ Greater = ap (λ (z : Transition V). word_order w z.label) (sym p) ∙ q in absurd (cc))
              | inr j ↦ (λ q. let b : word_order w u.label ≡ Less = before_both equal w t.label u.label l (s.0 u j) in absurd (cc))
            ])
            ∙ sym (ap (λ o. run_of w (cond (is_lt o) (from_label w ts) (t ∷ ts))) e)

    -- no label that is not before w is among those that are left out
    pub left_out : (w x : Word) (ts : List (Transition V)) → word_order w x ≢ Greater → filter (λ (u : Transition V). same_word x u.label) (from_label w ts) ≡ filter (λ (u : Transition V). same_word x u.label) ts
    left_out w x [] h = refl
    left_out w x (t ∷ ts) h = go (word_order t.label w) refl (left_out w x ts h)
      where
        go : (o : Ordering) → word_order t.label w ≡ o → filter (λ (u : Transition V). same_word x u.label) (from_label w ts) ≡ filter (λ (u : Transition V). same_word x u.label) ts
            → filter (λ (u : Transition V). same_word x u.label) (cond (is_lt (word_order t.label w)) (from_label w ts) (t ∷ ts)) ≡ filter (λ (u : Transition V). same_word x u.label) (t ∷ ts)
        go Less e ih =
            ap (λ o. filter (λ (u : Transition V). same_word x u.label) (cond (is_lt o) (from_label w ts) (t ∷ ts))) e ∙ ih
            ∙ sym (ap (λ b. cond b (t ∷ filter (λ (u : Transition V). same_word x u.label) ts) (filter (λ (u : Transition V). same_word x u.label) ts)) (before_not_same t.label x (before_both equal t.label w x e h)))
        go Equal e ih = ap (λ o. filter (λ (u : Transition V). same_word x u.label) (cond (is_lt o) (from_label w ts) (t ∷ ts))) e
        go Greater e ih = ap (λ o. filter (λ (u : Transition V). same_word x u.label) (cond (is_lt o) (from_label w ts) (t ∷ ts))) e

    -- what is left from a label on is in the order of labels
    pub left_by_label : (w : Word) (ts : List (Transition V)) → AreByLabel ts → AreByLabel (from_label w ts)
    left_by_label w [] s = s
    left_by_label w (t ∷ ts) s = go (is_lt (word_order t.label w)) (left_by_label w ts s.1)
      where
        go : (b : Bool) → AreByLabel (from_label w ts) → AreByLabel (cond b (from_label w ts) (t ∷ ts))
        go true ih = ih
        go false ih = s

nat_cmp-self : (x : ℕ) → nat_cmp x x ≡ Equal
nat_cmp-self x = grind (arith, common_steps)

-- the transitions from one state are in the order of their labels
pub from_one_state : {V : Type 0} (p : ℕ) (ts : List (Transition V)) → AreInOrder ts → ((t : Transition V) → In t ts → t.from ≡ p) → AreByLabel ts
from_one_state p [] o h = tt
from_one_state {V} p (t ∷ ts) o h = (λ u i. behind u ts (sorted_head triple_order t ts o) (λ v j. h v (inr j)) i, from_one_state p ts (sorted_tail triple_order t ts o) (λ v j. h v (inr j)))
  where
    behind : (u : Transition V) (us : List (Transition V)) → AllByRecursion (λ v. triple_order t v ≡ Less) us → ((v : Transition V) → In v us → v.from ≡ p) → In u us → word_order t.label u.label ≢ Greater
    behind u [] a k i = absurd i
    behind u (v ∷ us) a k (inr j) = behind u us a.1 (λ x m. k x (inr m)) j
    behind u (v ∷ us) a k (inl e) = λ q.
        let f : t.from ≡ v.from = h t (inl refl) ∙ sym (k v (inl refl)) in
        let n : nat_cmp t.from v.from ≡ Equal = subst (λ z. nat_cmp t.from z ≡ Equal) f (nat_cmp-self t.from) in
        let w : word_order t.label v.label ≡ Greater = ap (λ (z : Transition V). word_order t.label z.label) (sym e) ∙ q in
        let l : ordering_then (ordering_then (nat_cmp t.from v.from) (word_order t.label v.label)) (nat_cmp t.to v.to) ≡ Less = a.0 in
        let g : ordering_then (ordering_then (nat_cmp t.from v.from) (word_order t.label v.label)) (nat_cmp t.to v.to) ≡ Greater = ap₂ (λ m o. ordering_then (ordering_then m o) (nat_cmp t.to v.to)) n w in
        absurd (cc)

pub of_state : {V : Type 0} (p : ℕ) (ts : List (Transition V)) (t : Transition V) → In t (filter (λ t. t.from == p) ts) → t.from ≡ p
of_state p ts t i = eqb-true t.from p (In-filter_from (λ t. t.from == p) t ts i).1

pub by_label_from : {V : Type 0} (p : ℕ) (ts : List (Transition V)) → AreInOrder ts → AreByLabel (filter (λ t. t.from == p) ts)
by_label_from p ts o = from_one_state p (filter (λ t. t.from == p) ts) (IsStrictlySortedBy-filter triple_order (λ t. t.from == p) ts o) (of_state p ts)

pub by_label_item : {V X : Type 0} (f : X → Transition V) (xs : List X) (i : ℕ) (x : X) → i < length xs → x ≡ get_or xs i x → AreByLabel (map f xs) → AreByLabel (f x ∷ map f (drop (i + 1) xs))
by_label_item f [] i x h e s = absurd (omega arith)
by_label_item f (y ∷ xs) zero x h e s = subst (λ z. AreByLabel (f z ∷ map f xs)) (sym e) s
by_label_item f (y ∷ xs) (suc i) x h e s =
    let n : suc i + 1 ≡ suc (i + 1) = omega arith in
    subst (λ k. AreByLabel (f x ∷ map f (drop k (y ∷ xs)))) (sym n) (by_label_item f xs i x (omega arith) e s.1)

module _ (total : IsTotalOrder word_order) (equal : (v w : Word) → (word_order v w ≡ Equal) ↔ (v ≡ w)) {V : Type 0} (R : WeightSet V) where
  -- what transitions meet is not among what stands before their labels
  meet_left : (w : Word) (ts us : List (Transition V)) → ((x : Transition V) → In x ts → word_order w x.label ≢ Greater) → both_items R ts (from_label w us) ≡ both_items R ts us
  meet_left w [] us h = refl
  meet_left w (t ∷ ts) us h = ap₂ ◌++◌ (ap (map (both_item R t)) (left_out total equal w t.label us (h t (inl refl)))) (meet_left w ts us (λ x i. h x (inr i)))

  -- the first transition meets the run of its label, and the others what is left from there
  pub meets : (t : Transition V) (ts us rest run : List (Transition V)) → AreByLabel (t ∷ ts) → AreByLabel us → rest ≡ from_label t.label us → run ≡ run_of t.label rest → both_items R (t ∷ ts) us ≡ map (both_item R t) run ++ both_items R ts rest
  meets t ts us rest run a b e f =
      ap₂ ◌++◌ (ap (map (both_item R t)) (alike total equal t.label us b ∙ ap (run_of t.label) (sym e) ∙ sym f))
      (sym (meet_left t.label ts us a.0) ∙ ap (both_items R ts) (sym e))

  -- the same at a place
  pub meets_at : {X : Type 0} (f : X → Transition V) (xs : List X) (i : ℕ) (x : X) → i < length xs → x ≡ get_or xs i x → AreByLabel (map f xs) → (us rest run : List (Transition V)) → AreByLabel us → rest ≡ from_label (f x).label us → run ≡ run_of (f x).label rest
      → both_items R (map f (drop i xs)) us ≡ map (both_item R (f x)) run ++ both_items R (map f (drop (i + 1) xs)) rest
  meets_at f xs i x h e a us rest run b p q =
      ap (λ zs. both_items R (map f zs) us) (next_item xs i x h e)
      ∙ meets (f x) (map f (drop (i + 1) xs)) us rest run (by_label_item f xs i x h e a) b p q

from_label_in : {V : Type 0} (w : Word) (ts : List (Transition V)) (u : Transition V) → In u (from_label w ts) → In u ts
from_label_in w [] u i = i
from_label_in w (t ∷ ts) u i = go (is_lt (word_order t.label w)) i (from_label_in w ts u)
  where
    go : (b : Bool) → In u (cond b (from_label w ts) (t ∷ ts)) → (In u (from_label w ts) → In u ts) → In u (t ∷ ts)
    go true j ih = inr (ih j)
    go false j ih = j

run_in : {V : Type 0} (w : Word) (ts : List (Transition V)) (u : Transition V) → In u (run_of w ts) → In u ts
run_in w [] u i = i
run_in w (t ∷ ts) u i = go (same_word w t.label) i (run_in w ts u)
  where
    go : (b : Bool) → In u (cond b (t ∷ run_of w ts) []) → (In u (run_of w ts) → In u ts) → In u (t ∷ ts)
    go true (inl e) ih = inl e
    go true (inr j) ih = inr (ih j)
    go false j ih = absurd j

-- what is left, and its run, are among the transitions
pub rest_among : {V : Type 0} (w : Word) (us rest : List (Transition V)) → rest ≡ from_label w us → (u : Transition V) → In u rest → In u us
rest_among w us rest e u i = from_label_in w us u (subst (In u) e i)

pub run_among : {V : Type 0} (w : Word) (us rest run : List (Transition V)) → rest ≡ from_label w us → run ≡ run_of w rest → (u : Transition V) → In u run → In u us
run_among w us rest run e f u i = rest_among w us rest e u (run_in w rest u (subst (In u) f i))

-- a property of the members of a mapped list
pub all_mapped : {X Y : Type 0} (f : X → Y) (P : Y → Type 0) (xs : List X) → ((y : Y) → In y (map f xs) → P y) → All (λ x. P (f x)) xs
all_mapped f P [] h = All-nil (λ x. P (f x))
all_mapped f P (x ∷ xs) h = All-cons (λ x. P (f x)) x xs (h (f x) (inl refl)) (all_mapped f P xs (λ y i. h y (inr i)))

-- the item at a place is a member, also of the mapped list
pub item_in : {X Y : Type 0} (f : X → Y) (xs : List X) (i : ℕ) (x : X) → i < length xs → x ≡ get_or xs i x → In (f x) (map f xs)
item_in f [] i x h e = absurd (omega arith)
item_in f (y ∷ xs) zero x h e = inl (ap f e)
item_in f (y ∷ xs) (suc i) x h e = inr (item_in f xs i x (omega arith) e)

run_labels : {V : Type 0} (w : Word) (ts : List (Transition V)) (u : Transition V) → In u (run_of w ts) → w ≡ u.label
run_labels w [] u i = absurd i
run_labels {V} w (t ∷ ts) u i = go (same_word w t.label) refl i (run_labels w ts u)
  where
    go : (b : Bool) → same_word w t.label ≡ b → In u (cond b (t ∷ run_of w ts) []) → (In u (run_of w ts) → w ≡ u.label) → w ≡ u.label
    go true e (inl p) ih = same_word-true w t.label e ∙ ap (λ (z : Transition V). z.label) (sym p)
    go true e (inr j) ih = ih j
    go false e j ih = absurd j

-- those of a run have its label
pub run_alike : {V : Type 0} (w : Word) (rest run : List (Transition V)) → run ≡ run_of w rest → (u : Transition V) → In u run → w ≡ u.label
run_alike w rest run e u i = run_labels w rest u (subst (In u) e i)

-- a property of all members is one of each
pub all_in : {X : Type 0} (P : X → Type 0) (xs : List X) → All P xs → (x : X) → In x xs → P x
all_in P [] h x i = absurd i
all_in P (y ∷ xs) h x (inl e) = subst P (sym e) (All-head P y xs h)
all_in P (y ∷ xs) h x (inr i) = all_in P xs (All-tail P y xs h) x i
