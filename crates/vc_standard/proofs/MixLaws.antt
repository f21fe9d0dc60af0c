-- What is mixed.
use Rattle.std.proofs.Common.{◌≡◌, ℕ, List, [], ◌∷◌, ◌++◌, map, sym, ap, ap₂, ◌∙◌, subst, refl, inl, inr, arith, ◌<◌, length, ◌+◌, ◌*◌, get_or, drop, append_assoc}
use Rattle.vc_model.specs.Items.{Item}
use Rattle.vc_model.specs.Lists.{In}
use Rattle.vc_model.specs.WeightSet.{WeightSet}
use Rattle.vc_ring.specs.declared.faults.Overflow.{Overflow}
use Rattle.vc_terms.specs.ItemLists.{mapped, grouped_items}
use Rattle.vc_standard.specs.Counts.{moves_in}
use Rattle.vc_standard.specs.Steps.{grouped_steps, IsMixStep, IsMixRowStep, IsMixRowsStep}
use Rattle.vc_standard.specs.Structures.{Moves, Position, same_place, moved, mixed, mixed_row, mixed_rows}
use Rattle.vc_standard.proofs.CountLaws.{moves-front, moves-left}
use Rattle.vc_standard.proofs.Faults.{dropped}

module _ {V : Type 0} (R : WeightSet V) (m i j : ℕ) (p q : Position V) (width column row : ℕ) (w : width ≡ m + 1) (c : column ≡ m + j) (r : row ≡ i * width + 0) where
  columns : mapped (λ k. k * width + column) p.moves ≡ mapped (λ k. k * (m + 1) + m + j) p.moves
  columns = go p.moves
    where
      at : (k : ℕ) → k * width + column ≡ k * (m + 1) + m + j
      at k = ap₂ (λ a b. k * a + b) w c ∙ add (k * (m + 1)) m j
        where
          add : (x y z : ℕ) → x + (y + z) ≡ x + y + z
          add x y z = omega arith

      go : (xs : Moves V) → mapped (λ k. k * width + column) xs ≡ mapped (λ k. k * (m + 1) + m + j) xs
      go [] = refl
      go (x ∷ xs) = ap₂ (λ (e : Item V ℕ) (es : Moves V). e ∷ es) (ap (λ k. record { label = x.label; weight = x.weight; to = k }) (at x.to)) (go xs)

  rows : row ≡ i * (m + 1)
  rows = r ∙ ap (λ a. i * a + 0) w ∙ none (i * (m + 1))
    where
      none : (x : ℕ) → x + 0 ≡ x
      none x = omega arith

  pub mixed_moves : (ds now : Moves V) → ds ≡ mapped (λ k. k * width + column) p.moves → now ≡ grouped_items R same_place ds (moved row q.moves) → now ≡ (mixed R m i j p q).moves
  mixed_moves ds now d e = e ∙ ap₂ (λ (xs : Moves V) (n : ℕ). grouped_items R same_place xs (moved n q.moves)) (d ∙ columns) rows

  pub mixed_steps : (ds : Moves V) → ds ≡ mapped (λ k. k * width + column) p.moves → (o : Overflow V) → In o (grouped_steps R ds (moved row q.moves)) → IsMixStep R m i j p q o
  mixed_steps ds d o h = inr (subst (λ n. In o (grouped_steps R (mapped (λ k. k * (m + 1) + m + j) p.moves) (moved n q.moves))) rows (subst (λ xs. In o (grouped_steps R xs (moved row q.moves))) (d ∙ columns) h))

module _ {V X : Type 0} (R : WeightSet V) (f : X → Position V) (m i j : ℕ) (p : Position V) (xs : List X) (k : ℕ) (x : X) (l : k < length xs) (is : x ≡ get_or xs k x) (number : ℕ) (e : number ≡ j + k) where
  here : mixed_row R m i (j + k) p (map f (drop k xs)) ≡ mixed R m i number p (f x) ∷ mixed_row R m i (j + (k + 1)) p (map f (drop (k + 1) xs))
  here =
      ap (mixed_row R m i (j + k) p) (dropped f xs k x l is)
      ∙ ap₂ (λ a b. mixed R m i a p (f x) ∷ mixed_row R m i b p (map f (drop (k + 1) xs))) (sym e) (next j k)
    where
      next : (a b : ℕ) → a + b + 1 ≡ a + (b + 1)
      next a b = omega arith

  pub row_next : (so_far now whole : List (Position V)) → so_far ++ mixed_row R m i (j + k) p (map f (drop k xs)) ≡ whole → now ≡ so_far ++ mixed R m i number p (f x) ∷ []
      → now ++ mixed_row R m i (j + (k + 1)) p (map f (drop (k + 1) xs)) ≡ whole
  row_next so_far now whole w q =
      ap (λ ps. ps ++ mixed_row R m i (j + (k + 1)) p (map f (drop (k + 1) xs))) q
      ∙ append_assoc so_far (mixed R m i number p (f x) ∷ []) (mixed_row R m i (j + (k + 1)) p (map f (drop (k + 1) xs)))
      ∙ ap (λ ps. so_far ++ ps) (sym here) ∙ w

  pub row_front : (so_far whole : List (Position V)) (y : Position V) → so_far ++ mixed_row R m i (j + k) p (map f (drop k xs)) ≡ whole → y ≡ mixed R m i number p (f x)
      → (n : ℕ) → n < moves_in (so_far ++ y ∷ []) → n < moves_in whole
  row_front so_far whole y w q n h =
      subst (λ ps. n < moves_in ps) (ap (λ z. so_far ++ z ∷ mixed_row R m i (j + (k + 1)) p (map f (drop (k + 1) xs))) q ∙ ap (λ ps. so_far ++ ps) (sym here) ∙ w)
      (moves-front so_far y (mixed_row R m i (j + (k + 1)) p (map f (drop (k + 1) xs))) n h)

  steps_at : (o : Overflow V) → IsMixRowStep R m i (j + k) p (f x ∷ map f (drop (k + 1) xs)) o → IsMixRowStep R m i (j + k) p (map f (drop k xs)) o
  steps_at o h = subst (λ qs. IsMixRowStep R m i (j + k) p qs o) (sym (dropped f xs k x l is)) h

  pub row_step_here : (P : Overflow V → Type 0) → ((o : Overflow V) → IsMixRowStep R m i (j + k) p (map f (drop k xs)) o → P o) → (o : Overflow V) → IsMixStep R m i number p (f x) o → P o
  row_step_here P h o s = h o (steps_at o (inl (subst (λ a. IsMixStep R m i a p (f x) o) e s)))

  pub row_step_next : (P : Overflow V → Type 0) → ((o : Overflow V) → IsMixRowStep R m i (j + k) p (map f (drop k xs)) o → P o) → (o : Overflow V) → IsMixRowStep R m i (j + (k + 1)) p (map f (drop (k + 1) xs)) o → P o
  row_step_next P h o s = h o (steps_at o (inr (subst (λ a. IsMixRowStep R m i a p (map f (drop (k + 1) xs)) o) (next j k) s)))
    where
      next : (a b : ℕ) → a + (b + 1) ≡ a + b + 1
      next a b = omega arith

module _ {V X : Type 0} (R : WeightSet V) (f : X → Position V) (m : ℕ) (qs : List (Position V)) (xs : List X) (k : ℕ) (x : X) (l : k < length xs) (is : x ≡ get_or xs k x) (number : ℕ) (e : number ≡ 1 + k) where
  rows_here : mixed_rows R m (1 + k) (map f (drop k xs)) qs ≡ mixed_row R m number 0 (f x) qs ++ mixed_rows R m (1 + (k + 1)) (map f (drop (k + 1) xs)) qs
  rows_here =
      ap (λ ps. mixed_rows R m (1 + k) ps qs) (dropped f xs k x l is)
      ∙ ap₂ (λ a b. mixed_row R m a 0 (f x) qs ++ mixed_rows R m b (map f (drop (k + 1) xs)) qs) (sym e) (next k)
    where
      next : (b : ℕ) → 1 + b + 1 ≡ 1 + (b + 1)
      next b = omega arith

  pub rows_next : (so_far now whole : List (Position V)) → so_far ++ mixed_rows R m (1 + k) (map f (drop k xs)) qs ≡ whole → now ≡ so_far ++ mixed_row R m number 0 (f x) qs
      → now ++ mixed_rows R m (1 + (k + 1)) (map f (drop (k + 1) xs)) qs ≡ whole
  rows_next so_far now whole w q =
      ap (λ ps. ps ++ mixed_rows R m (1 + (k + 1)) (map f (drop (k + 1) xs)) qs) q
      ∙ append_assoc so_far (mixed_row R m number 0 (f x) qs) (mixed_rows R m (1 + (k + 1)) (map f (drop (k + 1) xs)) qs)
      ∙ ap (λ ps. so_far ++ ps) (sym rows_here) ∙ w

  pub rows_front : (so_far whole : List (Position V)) → so_far ++ mixed_rows R m (1 + k) (map f (drop k xs)) qs ≡ whole → (n : ℕ) → n < moves_in (so_far ++ mixed_row R m number 0 (f x) qs) → n < moves_in whole
  rows_front so_far whole w n h =
      subst (λ ps. n < moves_in ps)
      (append_assoc so_far (mixed_row R m number 0 (f x) qs) (mixed_rows R m (1 + (k + 1)) (map f (drop (k + 1) xs)) qs) ∙ ap (λ ps. so_far ++ ps) (sym rows_here) ∙ w)
      (moves-left (so_far ++ mixed_row R m number 0 (f x) qs) (mixed_rows R m (1 + (k + 1)) (map f (drop (k + 1) xs)) qs) n h)

  rows_steps_at : (o : Overflow V) → IsMixRowsStep R m (1 + k) (f x ∷ map f (drop (k + 1) xs)) qs o → IsMixRowsStep R m (1 + k) (map f (drop k xs)) qs o
  rows_steps_at o h = subst (λ ps. IsMixRowsStep R m (1 + k) ps qs o) (sym (dropped f xs k x l is)) h

  pub rows_step_here : (P : Overflow V → Type 0) → ((o : Overflow V) → IsMixRowsStep R m (1 + k) (map f (drop k xs)) qs o → P o) → (o : Overflow V) → IsMixRowStep R m number 0 (f x) qs o → P o
  rows_step_here P h o s = h o (rows_steps_at o (inl (subst (λ a. IsMixRowStep R m a 0 (f x) qs o) e s)))

  pub rows_step_next : (P : Overflow V → Type 0) → ((o : Overflow V) → IsMixRowsStep R m (1 + k) (map f (drop k xs)) qs o → P o) → (o : Overflow V) → IsMixRowsStep R m (1 + (k + 1)) (map f (drop (k + 1) xs)) qs o → P o
  rows_step_next P h o s = h o (rows_steps_at o (inr (subst (λ a. IsMixRowsStep R m a (map f (drop (k + 1) xs)) qs o) (next k) s)))
    where
      next : (b : ℕ) → 1 + (b + 1) ≡ 1 + b + 1
      next b = omega arith
