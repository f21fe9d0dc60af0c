-- What goes on as a start does.
use Rattle.std.proofs.Common.{◌≡◌, ℕ, List, [], ◌∷◌, map, cond, Bool, false, sym, ap, ap₂, ◌∙◌, subst, arith, inl, inr, ◌<◌, length, ◌+◌, get_or, drop}
use Rattle.vc_model.specs.Items.{Item}
use Rattle.vc_model.specs.Lists.{In}
use Rattle.vc_model.specs.Members.{In-append_left, In-append_right}
use Rattle.vc_model.specs.WeightSet.{WeightSet}
use Rattle.vc_ring.specs.declared.faults.MakeFault.{MakeFault}
use Rattle.vc_ring.specs.declared.faults.Overflow.{Overflow}
use Rattle.vc_terms.specs.ItemLists.{put_item, grouped_items, scaled_items}
use Rattle.vc_standard.specs.Automata.{states_of}
use Rattle.vc_standard.specs.Counts.{moves_in}
use Rattle.vc_standard.specs.Refusals.{IsFault}
use Rattle.vc_standard.specs.Steps.{IsPutStep, IsAgainStep, IsAnyAgainStep, IsStarStep, put_steps, grouped_steps}
use Rattle.vc_standard.specs.Structures.{Moves, Position, Standard, same_place, again, looped}
use Rattle.vc_standard.proofs.Faults.{dropped, passed_on}

module _ {V : Type 0} (R : WeightSet V) where
  -- where the final weight is not zero, the transitions are put to the others
  pub put_again : (equal : V → V → Bool) (q p : Position V) → equal p.final R.zero ≡ false → (o : Overflow V) → IsPutStep R p.final q.moves p.moves o → IsAgainStep R equal q p o
  put_again equal q p e o (inl h) = inl (inr h)
  put_again equal q p e o (inr h) = inr (subst (λ b. In o (grouped_steps R p.moves (cond b [] (scaled_items R p.final q.moves)))) (sym e) h)

  module _ {X : Type 0} (s : Item V ℕ → Item V ℕ) (f : X → Item V ℕ) (ds : Moves V) (xs : List X) (i : ℕ) (x : X) (l : i < length xs) (is : x ≡ get_or xs i x) where
    here : map s (map f (drop i xs)) ≡ s (f x) ∷ map s (map f (drop (i + 1) xs))
    here = ap (map s) (dropped f xs i x l is)

    -- the next one is put, and then those behind it
    pub put_next : (now whole : Moves V) → grouped_items R same_place ds (map s (map f (drop i xs))) ≡ whole → now ≡ put_item R same_place (s (f x)) ds
        → grouped_items R same_place now (map s (map f (drop (i + 1) xs))) ≡ whole
    put_next now whole h e =
        ap (λ ms. grouped_items R same_place ms (map s (map f (drop (i + 1) xs)))) e ∙ ap (grouped_items R same_place ds) (sym here) ∙ h

    pub steps_next : (now : Moves V) (all : List (Overflow V)) → ((o : Overflow V) → In o (grouped_steps R ds (map s (map f (drop i xs)))) → In o all) → now ≡ put_item R same_place (s (f x)) ds
        → (o : Overflow V) → In o (grouped_steps R now (map s (map f (drop (i + 1) xs)))) → In o all
    steps_next now all h e o m =
        h o (subst (λ ms. In o (grouped_steps R ds ms)) (sym here)
        (In-append_right o (put_steps (s (f x)) ds) (grouped_steps R (put_item R same_place (s (f x)) ds) (map s (map f (drop (i + 1) xs))))
        (subst (λ ms. In o (grouped_steps R ms (map s (map f (drop (i + 1) xs))))) e m)))

    pub steps_here : (all : List (Overflow V)) → ((o : Overflow V) → In o (grouped_steps R ds (map s (map f (drop i xs)))) → In o all) → (o : Overflow V) → In o (put_steps (s (f x)) ds) → In o all
    steps_here all h o m =
        h o (subst (λ ms. In o (grouped_steps R ds ms)) (sym here)
        (In-append_left o (put_steps (s (f x)) ds) (grouped_steps R (put_item R same_place (s (f x)) ds) (map s (map f (drop (i + 1) xs)))) m))

module _ {V : Type 0} (R : WeightSet V) (equal : V → V → Bool) (A : Standard V) where
  module _ (k h : V) (ms : Moves V) (e : k ≡ h) (d : ms ≡ scaled_items R h A.start.moves) where
    -- the star from its start and its positions
    pub looped_parts : (ps : List (Position V)) → ps ≡ map (again R equal ms k) A.positions → ◌≡◌ {A = Standard V} (record { start = record { final = k; moves = ms }; positions = ps }) (looped R equal h A)
    looped_parts ps q =
        ap₂ (λ (x : Position V) (qs : List (Position V)). record { start = x; positions = qs })
        (ap₂ (λ (c : V) (xs : Moves V). record { final = c; moves = xs }) e d)
        (q ∙ ap₂ (λ (c : V) (xs : Moves V). map (again R equal xs c) A.positions) e d)

    pub looped_fault : (n : ℕ) (f : MakeFault V) → IsFault R (IsAnyAgainStep R equal (record { final = k; moves = ms }) A.positions) (n < moves_in (map (again R equal ms k) A.positions)) f
        → IsFault R (IsStarStep R equal h A) (n < moves_in (states_of (looped R equal h A))) f
    looped_fault n f t =
        let u = subst (λ c. IsFault R (IsAnyAgainStep R equal (record { final = c; moves = ms }) A.positions) (n < moves_in (map (again R equal ms c) A.positions)) f) e t in
        let v = subst (λ xs. IsFault R (IsAnyAgainStep R equal (record { final = h; moves = xs }) A.positions) (n < moves_in (map (again R equal xs h) A.positions)) f) d u in
        passed_on R _ (IsStarStep R equal h A) _ (n < moves_in (states_of (looped R equal h A))) (λ o g. inr (inr g)) (λ (l : n < moves_in (map (again R equal (scaled_items R h A.start.moves) h) A.positions)). omega (arith, l)) f v
