-- Of what more transitions stand in, there are more.
use Rattle.std.proofs.Common.{◌≡◌, ℕ, List, [], ◌∷◌, ◌++◌, map, length, ◌+◌, ◌<◌, ◌≤◌, sym, ap, ap₂, ◌∙◌, subst, arith, refl, append_assoc}
use Rattle.std.proofs.lemmas.List.{map-append}
use Rattle.vc_standard.specs.Counts.{moves_in}
use Rattle.vc_standard.specs.Structures.{Position}

module _ {V : Type 0} where
  pub moves-append : (ps qs : List (Position V)) → moves_in (ps ++ qs) ≡ moves_in ps + moves_in qs
  moves-append [] qs = omega arith
  moves-append (p ∷ ps) qs = let h = moves-append ps qs in omega (arith, h)

  pub moves-front : (ps : List (Position V)) (q : Position V) (qs : List (Position V)) (n : ℕ) → n < moves_in (ps ++ q ∷ []) → n < moves_in (ps ++ q ∷ qs)
  moves-front ps q qs n h =
      let a = moves-append ps (q ∷ []) in
      let b = moves-append ps (q ∷ qs) in
      omega (arith, h, a, b)

  pub moves-right : (ps qs : List (Position V)) (n : ℕ) → n < moves_in qs → n < moves_in (ps ++ qs)
  moves-right ps qs n h = let a = moves-append ps qs in omega (arith, h, a)

  pub moves-left : (ps qs : List (Position V)) (n : ℕ) → n < moves_in ps → n < moves_in (ps ++ qs)
  moves-left ps qs n h = let a = moves-append ps qs in omega (arith, h, a)

  -- what stands before, what was made of those so far, and what is made of the next one, is a front of all
  pub front_in : {X : Type 0} (g : X → Position V) (before so_far : List (Position V)) (done : List X) (x : X) (rest all : List X) (y : Position V) → so_far ≡ before ++ map g done → done ++ x ∷ rest ≡ all → y ≡ g x
      → (n : ℕ) → n < moves_in (so_far ++ y ∷ []) → n < moves_in (before ++ map g all)
  front_in g before so_far done x rest all y made split is n h =
      subst (λ qs. n < moves_in qs) whole (moves-front so_far y (map g rest) n h)
    where
      whole : so_far ++ y ∷ map g rest ≡ before ++ map g all
      whole =
          ap₂ (λ (qs : List (Position V)) z. qs ++ z ∷ map g rest) made is
          ∙ append_assoc before (map g done) (g x ∷ map g rest)
          ∙ ap (λ qs. before ++ qs) (sym (map-append g done (x ∷ rest)) ∙ ap (map g) split)

  map_map : {X : Type 0} (g : Position V → Position V) (h : X → Position V) (xs : List X) → map g (map h xs) ≡ map (λ x. g (h x)) xs
  map_map g h [] = refl
  map_map g h (x ∷ xs) = ap (λ (ts : List (Position V)). g (h x) ∷ ts) (map_map g h xs)

  -- the same where each is made in two steps
  pub front_in_two : {X : Type 0} (g : Position V → Position V) (h : X → Position V) (before so_far : List (Position V)) (done : List X) (x : X) (rest all : List X) (y : Position V) → so_far ≡ before ++ map g (map h done) → done ++ x ∷ rest ≡ all → y ≡ g (h x)
      → (n : ℕ) → n < moves_in (so_far ++ y ∷ []) → n < moves_in (before ++ map g (map h all))
  front_in_two g h before so_far done x rest all y made split is n l =
      subst (λ qs. n < moves_in (before ++ qs)) (sym (map_map g h all))
      (front_in (λ z. g (h z)) before so_far done x rest all y (made ∙ ap (λ qs. before ++ qs) (map_map g h done)) split is n l)

  -- one more state counts with its transitions
  pub counted : {X : Type 0} (g : X → Position V) (xs : List X) (x : X) (list : List X) (n k s : ℕ) → n ≤ moves_in (map g xs) → k ≡ length (g x).moves → s ≤ n + k → list ≡ xs ++ x ∷ [] → s ≤ moves_in (map g list)
  counted g xs x list n k s a b d e =
      let h = moves-append (map g xs) (g x ∷ []) in
      let l : s ≤ moves_in (map g xs ++ g x ∷ []) = omega (arith, a, b, d, h) in
      subst (λ ys. s ≤ moves_in ys) (sym (ap (map g) e ∙ map-append g xs (x ∷ []))) l

  pub counted_front : (ps : List (Position V)) (p : Position V) (m n k s : ℕ) → n ≤ moves_in ps → k ≡ length p.moves → s ≤ n + k → m < s → m < moves_in (ps ++ p ∷ [])
  counted_front ps p m n k s a b d l = let h = moves-append ps (p ∷ []) in omega (arith, a, b, d, h, l)

  -- those of the positions are of all states
  pub behind_start : (s : Position V) (ps : List (Position V)) (n : ℕ) → n < moves_in ps → n < moves_in (s ∷ ps)
  behind_start s ps n h = omega (arith, h)
