-- The order of items.
use Rattle.std.proofs.Common.{◌≡◌, ◌∙◌, ap, ap₂, subst, ℕ, List, [], ◌∷◌, nat_cmp, Less, Equal, Greater, arith, inl, inr, refl, sym, true}
use Rattle.std.specs.Prelude.{◌↔◌, ◌⊎◌}
use Rattle.std.specs.Cmp.{IsTotalOrder, then_total, on_total, nat_cmp_total}
use Rattle.std.specs.Ordering.{is_lt, match_ordering, ordering_reverse, ordering_then}
use Rattle.std.specs.declared.cmp.Ordering.{Ordering}
use Rattle.std.proofs.lemmas.Grind.{common_steps}
use Rattle.vc_label.specs.Order.{word_order}
use Rattle.vc_model.specs.Gathered.{IsAscending}
use Rattle.vc_model.specs.Items.{Item, item_key}
use Rattle.vc_model.specs.Lists.{In}
use Rattle.vc_model.specs.WeightSet.{WeightSet}
use Rattle.vc_model.specs.Words.{Word}
use Rattle.vc_join.specs.Orders.{item_order, item_before}
use Rattle.vc_join.specs.Pairs.{Pair}
use Rattle.vc_join.specs.Shuffles.{insert_item, insert_items}

nat_cmp-equal : (x y : ℕ) → nat_cmp x y ≡ Equal → x ≡ y
nat_cmp-equal x y h = grind (arith, common_steps)

nat_cmp-self : (x : ℕ) → nat_cmp x x ≡ Equal
nat_cmp-self x = grind (arith, common_steps)

then_left : (o p : Ordering) → ordering_then o p ≡ Equal → o ≡ Equal
then_left Less p h = h
then_left Equal p h = refl
then_left Greater p h = h

then_right : (o p : Ordering) → ordering_then o p ≡ Equal → p ≡ Equal
then_right Less p h = cc
then_right Equal p h = h
then_right Greater p h = cc

is_less : (o : Ordering) → is_lt o ≡ true → o ≡ Less
is_less Less h = refl
is_less Equal h = absurd (cc)
is_less Greater h = absurd (cc)

-- each item comes after e
abbrev pub After : {V : Type 0} → Item V Pair → List (Item V Pair) → Type 0
After {V} e ds = (d : Item V Pair) → In d ds → item_order e d ≡ Less

module _ (total : IsTotalOrder word_order) (equal : (v w : Word) → (word_order v w ≡ Equal) ↔ (v ≡ w)) {V : Type 0} where
  item_order_total : IsTotalOrder (item_order {V = V})
  item_order_total =
      then_total (on_total (λ (e : Item V Pair). e.label) total) (then_total (on_total (λ (e : Item V Pair). e.to.0) nat_cmp_total) (on_total (λ (e : Item V Pair). e.to.1) nat_cmp_total))

  -- equal items have one label and one pair
  pub same_key : (d e : Item V Pair) → item_order d e ≡ Equal → item_key d ≡ item_key e
  same_key d e h =
      let label : d.label ≡ e.label = (equal d.label e.label).0 (then_left (word_order d.label e.label) (ordering_then (nat_cmp d.to.0 e.to.0) (nat_cmp d.to.1 e.to.1)) h) in
      let back : ordering_then (nat_cmp d.to.0 e.to.0) (nat_cmp d.to.1 e.to.1) ≡ Equal = then_right (word_order d.label e.label) (ordering_then (nat_cmp d.to.0 e.to.0) (nat_cmp d.to.1 e.to.1)) h in
      let p : d.to.0 ≡ e.to.0 = nat_cmp-equal d.to.0 e.to.0 (then_left (nat_cmp d.to.0 e.to.0) (nat_cmp d.to.1 e.to.1) back) in
      let q : d.to.1 ≡ e.to.1 = nat_cmp-equal d.to.1 e.to.1 (then_right (nat_cmp d.to.0 e.to.0) (nat_cmp d.to.1 e.to.1) back) in
      ap₂ (λ (w : Word) (k : Pair). (w, k)) label (ap (λ (x : ℕ). (x, d.to.1)) p ∙ ap (λ (y : ℕ). (e.to.0, y)) q)

  -- the order looks at label and pair alone
  same_order : (d e f : Item V Pair) → item_key d ≡ item_key e → item_order f d ≡ item_order f e
  same_order d e f h = ap (λ (k : Word × Pair). ordering_then (word_order f.label k.0) (ordering_then (nat_cmp f.to.0 k.1.0) (nat_cmp f.to.1 k.1.1))) h

  turned : (d e : Item V Pair) → item_order d e ≡ Less → item_order e d ≡ Greater
  turned d e h = item_order_total.antisymm e d ∙ ap ordering_reverse h

  pub turned_back : (d e : Item V Pair) → item_order d e ≡ Greater → item_order e d ≡ Less
  turned_back d e h = item_order_total.antisymm e d ∙ ap ordering_reverse h

  pub after_all : (e : Item V Pair) (ds : List (Item V Pair)) → IsAscending item_before (e ∷ ds) → After e ds
  after_all e ds a d i = is_less (item_order e d) (a.0 d i)

  pub later : (e d : Item V Pair) (ds : List (Item V Pair)) → item_order e d ≡ Less → After d ds → After e (d ∷ ds)
  later e d ds h a f (inl p) = subst (λ z. item_order e z ≡ Less) (sym p) h
  later e d ds h a f (inr i) = item_order_total.trans e d f h (a f i)

  module _ (R : WeightSet V) where
    -- what is inserted is among the others, or has the label and pair of the new one
    inserted_in : (ds : List (Item V Pair)) (e f : Item V Pair) → In f (insert_item R ds e) → (item_key f ≡ item_key e) ⊎ ((d : Item V Pair) × In d ds × (item_key f ≡ item_key d))
    inserted_in [] e f (inl p) = inl (ap item_key p)
    inserted_in [] e f (inr i) = absurd i
    inserted_in (d ∷ ds) e f i = go (item_order e d) i (inserted_in ds e f)
      where
        go : (o : Ordering) → In f (match_ordering o (e ∷ d ∷ ds) (record d { weight = R.plus d.weight e.weight } ∷ ds) (d ∷ insert_item R ds e)) → (In f (insert_item R ds e) → (item_key f ≡ item_key e) ⊎ ((x : Item V Pair) × In x ds × (item_key f ≡ item_key x)))
            → (item_key f ≡ item_key e) ⊎ ((x : Item V Pair) × In x (d ∷ ds) × (item_key f ≡ item_key x))
        go Less (inl p) ih = inl (ap item_key p)
        go Less (inr j) ih = inr (f, j, refl)
        go Equal (inl p) ih = inr (d, inl refl, ap item_key p)
        go Equal (inr j) ih = inr (f, inr j, refl)
        go Greater (inl p) ih = inr (d, inl refl, ap item_key p)
        go Greater (inr j) ih = elim (ih j) [ inl p ↦ inl p | inr r ↦ inr (r.0, inr r.1, r.2) ]

    -- an insertion keeps the order
    pub insert_ordered : (ds : List (Item V Pair)) (e : Item V Pair) → IsAscending item_before ds → IsAscending item_before (insert_item R ds e)
    insert_ordered [] e a = ((λ d i. absurd i), tt)
    insert_ordered (d ∷ ds) e a = go (item_order e d) refl (insert_ordered ds e a.1)
      where
        go : (o : Ordering) → item_order e d ≡ o → IsAscending item_before (insert_item R ds e) → IsAscending item_before (match_ordering o (e ∷ d ∷ ds) (record d { weight = R.plus d.weight e.weight } ∷ ds) (d ∷ insert_item R ds e))
        go Less h ih = ((λ f i. ap is_lt (later e d ds h (after_all d ds a) f i)), a)
        go Equal h ih = ((λ f i. a.0 f i), a.1)
        go Greater h ih = (
          (λ f i. ap is_lt (elim (inserted_in ds e f i) [
            | inl p ↦ same_order f e d p ∙ turned_back e d h
            | inr r ↦ same_order f r.0 d r.2 ∙ after_all d ds a r.0 r.1
          ])),
          ih,
        )

    pub inserts_ordered : (ds es : List (Item V Pair)) → IsAscending item_before ds → IsAscending item_before (insert_items R ds es)
    inserts_ordered ds [] a = a
    inserts_ordered ds (e ∷ es) a = inserts_ordered (insert_item R ds e) es (insert_ordered ds e a)

    -- what comes before all that is inserted stays in front
    pub stays : (d : Item V Pair) (ds es : List (Item V Pair)) → After d es → insert_items R (d ∷ ds) es ≡ d ∷ insert_items R ds es
    stays d ds [] a = refl
    stays d ds (e ∷ es) a =
        ap (λ o. insert_items R (match_ordering o (e ∷ d ∷ ds) (record d { weight = R.plus d.weight e.weight } ∷ ds) (d ∷ insert_item R ds e)) es) (turned d e (a e (inl refl)))
        ∙ stays d (insert_item R ds e) es (λ f i. a f (inr i))

    -- the first one that is inserted comes before all
    pub goes_first : (ds es : List (Item V Pair)) (e : Item V Pair) → After e ds → After e es → insert_items R ds (e ∷ es) ≡ e ∷ insert_items R ds es
    goes_first [] es e a b = stays e [] es b
    goes_first (d ∷ ds) es e a b =
        ap (λ o. insert_items R (match_ordering o (e ∷ d ∷ ds) (record d { weight = R.plus d.weight e.weight } ∷ ds) (d ∷ insert_item R ds e)) es) (a d (inl refl))
        ∙ stays e (d ∷ ds) es b

    -- the first of both are added
    pub adds_first : (ds es : List (Item V Pair)) (d e : Item V Pair) → item_order d e ≡ Equal → After e es → insert_items R (d ∷ ds) (e ∷ es) ≡ record d { weight = R.plus d.weight e.weight } ∷ insert_items R ds es
    adds_first ds es d e h b =
        let turn : item_order e d ≡ Equal = item_order_total.antisymm e d ∙ ap ordering_reverse h in
        let s = record d { weight = R.plus d.weight e.weight } in
        ap (λ o. insert_items R (match_ordering o (e ∷ d ∷ ds) (s ∷ ds) (d ∷ insert_item R ds e)) es) turn
        ∙ stays s ds es (λ f i. turn_key s e f (same_key d e h) ∙ b f i)
      where
        turn_key : (x y f : Item V Pair) → item_key x ≡ item_key y → item_order x f ≡ item_order y f
        turn_key x y f p = ap (λ (k : Word × Pair). ordering_then (word_order k.0 f.label) (ordering_then (nat_cmp k.1.0 f.to.0) (nat_cmp k.1.1 f.to.1))) p
