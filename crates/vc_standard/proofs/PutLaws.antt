-- What the search for an equal transition comes to.
use Rattle.std.proofs.Common.{◌≡◌, ◌++◌, ◌<◌, ◌≤◌, map, length, take, drop, set, get_or, cond, ℕ, zero, suc, List, [], ◌∷◌, refl, sym, ap, ap₂, ◌∙◌, subst, arith, Bool, true, false, ◌+◌}
use Rattle.std.proofs.lemmas.Bool.{eqb-true}
use Rattle.std.proofs.lemmas.List.{length-map}
use Rattle.vc_model.specs.Items.{Item}
use Rattle.vc_model.specs.WeightSet.{WeightSet}
use Rattle.vc_model.specs.WordLaws.{and_parts, same_word-true}
use Rattle.vc_model.specs.Words.{same_word}
use Rattle.vc_ring.specs.declared.faults.Overflow.TheVariants.{Add}
use Rattle.vc_terms.specs.ItemLists.{same_item, put_item}
use Rattle.vc_standard.specs.Found.{IsFound}
use Rattle.vc_standard.specs.Steps.{put_steps}
use Rattle.vc_standard.specs.Structures.{Moves, same_place}
use Rattle.vc_standard.specs.Within.{Are, IsUpTo}
use Rattle.vc_standard.proofs.MoveLaws.{are-put, are-weaker}

module _ {V X : Type 0} (R : WeightSet V) (f : X → Item V ℕ) (e : Item V ℕ) where
  put_missed : (xs : List X) (i : ℕ) (d : X) → i < length xs → same_item same_place (f (get_or xs i d)) e ≡ false
      → map f (take i xs) ++ put_item R same_place e (map f (drop i xs)) ≡ map f (take (suc i) xs) ++ put_item R same_place e (map f (drop (suc i) xs))
  put_missed [] i d l h = absurd (omega (arith, l))
  put_missed (x ∷ xs) zero d l h = ap (λ b. cond b (record { label = (f x).label; weight = R.plus (f x).weight e.weight; to = (f x).to } ∷ map f xs) (f x ∷ put_item R same_place e (map f xs))) h
  put_missed (x ∷ xs) (suc i) d l h = ap (λ (ys : Moves V). f x ∷ ys) (put_missed xs i d (omega (arith, l)) h)

  steps_missed : (xs : List X) (i : ℕ) (d : X) → i < length xs → same_item same_place (f (get_or xs i d)) e ≡ false → put_steps e (map f (drop i xs)) ≡ put_steps e (map f (drop (suc i) xs))
  steps_missed [] i d l h = absurd (omega (arith, l))
  steps_missed (x ∷ xs) zero d l h = ap (λ b. cond b (Add (f x).weight e.weight ∷ []) (put_steps e (map f xs))) h
  steps_missed (x ∷ xs) (suc i) d l h = steps_missed xs i d (omega (arith, l)) h

  -- where the one at a place is not equal, the search goes on behind it
  pub missed : (xs : List X) (i : ℕ) (x : X) → i < length xs → x ≡ get_or xs i x → same_item same_place (f x) e ≡ false
      → put_item R same_place e (map f xs) ≡ map f (take i xs) ++ put_item R same_place e (map f (drop i xs)) → put_steps e (map f xs) ≡ put_steps e (map f (drop i xs))
      → (put_item R same_place e (map f xs) ≡ map f (take (i + 1) xs) ++ put_item R same_place e (map f (drop (i + 1) xs))) × (put_steps e (map f xs) ≡ put_steps e (map f (drop (i + 1) xs)))
  missed xs i x l is h p s =
      let m : same_item same_place (f (get_or xs i x)) e ≡ false = ap (λ y. same_item same_place (f y) e) (sym is) ∙ h in (
        p ∙ put_missed xs i x l m ∙ ap (λ n. map f (take n xs) ++ put_item R same_place e (map f (drop n xs))) (next i),
        s ∙ steps_missed xs i x l m ∙ ap (λ n. put_steps e (map f (drop n xs))) (next i),
      )
    where
      next : (i : ℕ) → suc i ≡ i + 1
      next i = omega arith

  at_found : (xs : List X) (i : ℕ) (d : X) → i < length xs → same_item same_place (f (get_or xs i d)) e ≡ true
      → map f (take i xs) ++ put_item R same_place e (map f (drop i xs)) ≡ set (map f xs) i (record { label = e.label; weight = R.plus (get_or (map f xs) i e).weight e.weight; to = e.to })
  at_found [] i d l h = absurd (omega (arith, l))
  at_found (x ∷ xs) zero d l h =
      let r = and_parts (same_word (f x).label e.label) (same_place (f x).to e.to) h in
      ap (λ b. cond b (record { label = (f x).label; weight = R.plus (f x).weight e.weight; to = (f x).to } ∷ map f xs) (f x ∷ put_item R same_place e (map f xs))) h
      ∙ ap (λ (z : Item V ℕ). z ∷ map f xs) (ap₂ (λ a k. record { label = a; weight = R.plus (f x).weight e.weight; to = k }) (same_word-true (f x).label e.label r.0) (eqb-true (f x).to e.to r.1))
  at_found (x ∷ xs) (suc i) d l h = ap (λ (ys : Moves V). f x ∷ ys) (at_found xs i d (omega (arith, l)) h)

  steps_found : (xs : List X) (i : ℕ) (d : X) → i < length xs → same_item same_place (f (get_or xs i d)) e ≡ true → put_steps e (map f (drop i xs)) ≡ Add (get_or (map f xs) i e).weight e.weight ∷ []
  steps_found [] i d l h = absurd (omega (arith, l))
  steps_found (x ∷ xs) zero d l h = ap (λ b. cond b (Add (f x).weight e.weight ∷ []) (put_steps e (map f xs))) h
  steps_found (x ∷ xs) (suc i) d l h = steps_found xs i d (omega (arith, l)) h

  -- at an equal one its weight is added
  pub found : (xs : List X) (i : ℕ) (x : X) → i < length xs → x ≡ get_or xs i x → same_item same_place (f x) e ≡ true
      → put_item R same_place e (map f xs) ≡ map f (take i xs) ++ put_item R same_place e (map f (drop i xs)) → put_steps e (map f xs) ≡ put_steps e (map f (drop i xs))
      → IsFound R (map f xs) e i
  found xs i x l is h p s =
      let m : same_item same_place (f (get_or xs i x)) e ≡ true = ap (λ y. same_item same_place (f y) e) (sym is) ∙ h in
      let n = length-map xs f in
      record {
        inside = omega (arith, l, n);
        put = p ∙ at_found xs i x l m;
        steps = s ∙ steps_found xs i x l m;
      }

-- what stands for the others, where one is replaced
pub map_set : {X Y : Type 0} (f : X → Y) (xs : List X) (i : ℕ) (y : X) → map f (set xs i y) ≡ set (map f xs) i (f y)
map_set f [] i y = refl
map_set f (x ∷ xs) zero y = refl
map_set {Y = Y} f (x ∷ xs) (suc i) y = ap (λ (ys : List Y). f x ∷ ys) (map_set f xs i y)

-- what stands for the one at a place
pub map_get : {X Y : Type 0} (f : X → Y) (xs : List X) (i : ℕ) (x : X) (y : Y) → i < length (map f xs) → x ≡ get_or xs i x → get_or (map f xs) i y ≡ f x
map_get {X} {Y} f xs i x y l e = at xs i l ∙ ap f (sym e)
  where
    at : (zs : List X) (j : ℕ) → j < length (map f zs) → get_or (map f zs) j y ≡ f (get_or zs j x)
    at [] j m = absurd (omega (arith, m))
    at (z ∷ zs) zero m = refl
    at (z ∷ zs) (suc j) m = at zs j (omega (arith, m))

module _ {V : Type 0} where
  apart : (d e : Item V ℕ) → d.to < e.to → same_item same_place d e ≡ false
  apart d e l = go (same_item same_place d e) refl
    where
      go : (b : Bool) → same_item same_place d e ≡ b → b ≡ false
      go false h = refl
      go true h =
          let r = and_parts (same_word d.label e.label) (same_place d.to e.to) h in
          let p = eqb-true d.to e.to r.1 in
          absurd (omega (arith, p, l))

  -- a transition that leads past all others is put at their end
  pub put_end : (R : WeightSet V) (n : ℕ) (e : Item V ℕ) (ds : Moves V) → Are (IsUpTo n) ds → n < e.to → (put_item R same_place e ds ≡ ds ++ e ∷ []) × (put_steps e ds ≡ [])
  put_end R n e [] h l = (refl, refl)
  put_end R n e (d ∷ ds) h l =
      let b = h.0 in
      let f = apart d e (omega (arith, b, l)) in
      let r = put_end R n e ds h.1 l in (
        ap (λ b. cond b (record { label = d.label; weight = R.plus d.weight e.weight; to = d.to } ∷ ds) (d ∷ put_item R same_place e ds)) f ∙ ap (λ (xs : Moves V). d ∷ xs) r.0,
        ap (λ b. cond b (Add d.weight e.weight ∷ []) (put_steps e ds)) f ∙ r.1,
      )

  -- with one more, none leads past a place that is not before its own
  pub put_up_to : (R : WeightSet V) (n m : ℕ) (e : Item V ℕ) (ds : Moves V) → Are (IsUpTo n) ds → n ≤ m → e.to ≤ m → Are (IsUpTo m) (put_item R same_place e ds)
  put_up_to R n m e ds h l k = are-put R (IsUpTo m) e ds k (are-weaker (IsUpTo n) (IsUpTo m) (λ a i b. omega (arith, b, l)) ds h)

module _ {V X : Type 0} (f : X → Item V ℕ) where
  -- those in front, with the next one
  pub up_to_next : (n m : ℕ) (xs : List X) (i : ℕ) (x : X) → i < length xs → x ≡ get_or xs i x → n ≤ m → (f x).to ≤ m → Are (IsUpTo n) (map f (take i xs)) → Are (IsUpTo m) (map f (take (i + 1) xs))
  up_to_next n m xs i x l is a b h = subst (λ j. Are (IsUpTo m) (map f (take j xs))) (next i) (at xs i l (ap (λ y. (f y).to) is) h)
    where
      next : (i : ℕ) → suc i ≡ i + 1
      next i = omega arith

      at : (ys : List X) (j : ℕ) → j < length ys → (f x).to ≡ (f (get_or ys j x)).to → Are (IsUpTo n) (map f (take j ys)) → Are (IsUpTo m) (map f (take (suc j) ys))
      at [] j k e g = absurd (omega (arith, k))
      at (y ∷ ys) zero k e g = (omega (arith, e, b), tt)
      at (y ∷ ys) (suc j) k e g = let c = g.0 in (omega (arith, c, a), at ys j (omega (arith, k)) e g.1)

  -- those in front of the end are all
  pub up_to_all : (n : ℕ) (xs : List X) (i : ℕ) → length xs ≤ i → Are (IsUpTo n) (map f (take i xs)) → Are (IsUpTo n) (map f xs)
  up_to_all n [] i l h = tt
  up_to_all n (x ∷ xs) zero l h = absurd (omega (arith, l))
  up_to_all n (x ∷ xs) (suc i) l h = (h.0, up_to_all n xs i (omega (arith, l)) h.1)
