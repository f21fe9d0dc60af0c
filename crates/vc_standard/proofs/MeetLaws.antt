-- What meets.
use Rattle.std.proofs.Common.{◌≡◌, ℕ, List, [], ◌∷◌, ◌++◌, map, cond, Bool, true, false, sym, ap, ap₂, ◌∙◌, subst, refl, arith, inl, inr, ◌<◌, length, ◌+◌, ◌*◌, get_or, drop, append_assoc, append-nil}
use Rattle.std.specs.List.{flat_map, filter}
use Rattle.std.proofs.lemmas.List.{length-map}
use Rattle.vc_model.specs.Items.{Item}
use Rattle.vc_model.specs.Words.{same_word}
use Rattle.vc_model.specs.Lists.{In}
use Rattle.vc_model.specs.WeightSet.{WeightSet}
use Rattle.vc_ring.specs.declared.faults.Overflow.{Overflow}
use Rattle.vc_ring.specs.declared.faults.Overflow.TheVariants.{Mul}
use Rattle.vc_standard.specs.Automata.{states_of}
use Rattle.vc_standard.specs.Counts.{moves_in}
use Rattle.vc_standard.specs.Steps.{IsMeetingOf}
use Rattle.vc_standard.specs.Structures.{Moves, Position, Standard, size_of, meetings, met, conjoined}
use Rattle.vc_standard.proofs.CountLaws.{moves-front, moves-left}
use Rattle.vc_standard.proofs.Faults.{dropped}

module _ {V : Type 0} (R : WeightSet V) (m : ℕ) (e : Item V ℕ) where
  -- the meetings with one, and with the others
  meetings-cons : (d : Item V ℕ) (ds : Moves V) → meetings R m e (d ∷ ds) ≡ meetings R m e (d ∷ []) ++ meetings R m e ds
  meetings-cons d ds = go (same_word e.label d.label)
    where
      met : Item V ℕ → Item V ℕ
      met d = record { label = e.label; weight = R.times e.weight d.weight; to = e.to * m + d.to }

      go : (b : Bool) → map met (cond b (d ∷ filter (λ d. same_word e.label d.label) ds) (filter (λ d. same_word e.label d.label) ds)) ≡ map met (cond b (d ∷ []) []) ++ meetings R m e ds
      go true = refl
      go false = refl

  pub meets_not : (d : Item V ℕ) (ds : Moves V) → same_word e.label d.label ≡ false → ds ≡ ds ++ meetings R m e (d ∷ [])
  meets_not d ds h =
      sym (append-nil ds) ∙ ap (λ b. ds ++ map (λ (d : Item V ℕ). record { label = e.label; weight = R.times e.weight d.weight; to = e.to * m + d.to }) (cond b (d ∷ []) [])) (sym h)

  pub meets : (d r : Item V ℕ) (ds : Moves V) → same_word e.label d.label ≡ true → r ≡ record { label = e.label; weight = R.times e.weight d.weight; to = e.to * m + d.to } → ds ++ r ∷ [] ≡ ds ++ meetings R m e (d ∷ [])
  meets d r ds h q =
      ap (λ (z : Item V ℕ). ds ++ z ∷ []) q ∙ ap (λ b. ds ++ map (λ (d : Item V ℕ). record { label = e.label; weight = R.times e.weight d.weight; to = e.to * m + d.to }) (cond b (d ∷ []) [])) (sym h)

  -- the meetings with the next one are added
  pub meetings_next : {X : Type 0} (f : X → Item V ℕ) (so_far now : Moves V) (xs : List X) (i : ℕ) (x : X) (whole : Moves V) → i < length xs → x ≡ get_or xs i x
      → so_far ++ meetings R m e (map f (drop i xs)) ≡ whole → now ≡ so_far ++ meetings R m e (f x ∷ []) → now ++ meetings R m e (map f (drop (i + 1) xs)) ≡ whole
  meetings_next f so_far now xs i x whole l is h q =
      ap (λ ms. ms ++ meetings R m e (map f (drop (i + 1) xs))) q
      ∙ append_assoc so_far (meetings R m e (f x ∷ [])) (meetings R m e (map f (drop (i + 1) xs)))
      ∙ ap (λ ms. so_far ++ ms) (sym (meetings-cons (f x) (map f (drop (i + 1) xs))) ∙ ap (meetings R m e) (sym (dropped f xs i x l is))) ∙ h

  pub one_meeting : (ds : Moves V) (d : Item V ℕ) → In d ds → (o : Overflow V) → IsMeetingOf e (d ∷ []) o → IsMeetingOf e ds o
  one_meeting ds d i o (z, inl q, s, p) = (d, i, subst (λ y. same_word e.label y.label ≡ true) q s, p ∙ ap (λ y. Mul e.weight y.weight) q)
  one_meeting ds d i o (z, inr j, s, p) = absurd j

module _ {Y Z : Type 0} (h : Y → List Z) where
  -- what the next one brings is added
  pub brings_next : {X : Type 0} (f : X → Y) (so_far now : List Z) (xs : List X) (i : ℕ) (x : X) (whole : List Z) → i < length xs → x ≡ get_or xs i x
      → so_far ++ flat_map h (map f (drop i xs)) ≡ whole → now ≡ so_far ++ h (f x) → now ++ flat_map h (map f (drop (i + 1) xs)) ≡ whole
  brings_next f so_far now xs i x whole l is w q =
      ap (λ zs. zs ++ flat_map h (map f (drop (i + 1) xs))) q
      ∙ append_assoc so_far (h (f x)) (flat_map h (map f (drop (i + 1) xs)))
      ∙ ap (λ zs. so_far ++ zs) (ap (flat_map h) (sym (dropped f xs i x l is))) ∙ w

module _ {Y Z : Type 0} (h : Y → Z) where
  pub makes_next : {X : Type 0} (f : X → Y) (so_far now : List Z) (xs : List X) (i : ℕ) (x : X) (whole : List Z) → i < length xs → x ≡ get_or xs i x
      → so_far ++ map h (map f (drop i xs)) ≡ whole → now ≡ so_far ++ h (f x) ∷ [] → now ++ map h (map f (drop (i + 1) xs)) ≡ whole
  makes_next f so_far now xs i x whole l is w q =
      ap (λ zs. zs ++ map h (map f (drop (i + 1) xs))) q
      ∙ append_assoc so_far (h (f x) ∷ []) (map h (map f (drop (i + 1) xs)))
      ∙ ap (λ zs. so_far ++ zs) (ap (map h) (sym (dropped f xs i x l is))) ∙ w

module _ {V Y : Type 0} where
  -- what is made so far, and of the next one, is a front of all
  pub front_left : {X : Type 0} (h : Y → Position V) (f : X → Y) (so_far : List (Position V)) (xs : List X) (i : ℕ) (x : X) (whole : List (Position V)) (y : Position V) → i < length xs → x ≡ get_or xs i x
      → so_far ++ map h (map f (drop i xs)) ≡ whole → y ≡ h (f x) → (n : ℕ) → n < moves_in (so_far ++ y ∷ []) → n < moves_in whole
  front_left h f so_far xs i x whole y l is w q n k =
      subst (λ ps. n < moves_in ps)
      (ap (λ (z : Position V). so_far ++ z ∷ map h (map f (drop (i + 1) xs))) q ∙ ap (λ zs. so_far ++ zs) (ap (map h) (sym (dropped f xs i x l is))) ∙ w)
      (moves-front so_far y (map h (map f (drop (i + 1) xs))) n k)

  pub front_brought : {X : Type 0} (h : Y → List (Position V)) (f : X → Y) (so_far : List (Position V)) (xs : List X) (i : ℕ) (x : X) (whole : List (Position V)) → i < length xs → x ≡ get_or xs i x
      → so_far ++ flat_map h (map f (drop i xs)) ≡ whole → (n : ℕ) → n < moves_in (so_far ++ h (f x)) → n < moves_in whole
  front_brought h f so_far xs i x whole l is w n k =
      subst (λ ps. n < moves_in ps)
      (append_assoc so_far (h (f x)) (flat_map h (map f (drop (i + 1) xs))) ∙ ap (λ zs. so_far ++ zs) (ap (flat_map h) (sym (dropped f xs i x l is))) ∙ w)
      (moves-left (so_far ++ h (f x)) (flat_map h (map f (drop (i + 1) xs))) n k)

module _ {V X : Type 0} (R : WeightSet V) (f : X → Position V) (a : Position V) (b : Position V) (rows columns : List X) (m : ℕ) (e : m ≡ length columns) where
  abbrev first : Standard V
  first = record { start = a; positions = map f rows }

  abbrev second : Standard V
  second = record { start = b; positions = map f columns }

  size : m ≡ size_of second
  size = e ∙ sym (length-map columns f)

  abbrev pairs : ℕ → List (Position V)
  pairs k = flat_map (λ p. map (met R k p) (map f columns)) (map f rows)

  -- the conjunction from its start and its positions
  pub conjoined_parts : (s : Position V) (ps : List (Position V)) → s ≡ met R m a b → ps ≡ pairs m → ◌≡◌ {A = Standard V} (record { start = s; positions = ps }) (conjoined R first second)
  conjoined_parts s ps p q =
      ap₂ (λ (x : Position V) (qs : List (Position V)). record { start = x; positions = qs }) (p ∙ ap (λ k. met R k a b) size) (q ∙ ap (λ k. pairs k) size)

  pub conjoined_large : (n : ℕ) → n < moves_in (pairs m) → n < moves_in (states_of (conjoined R first second))
  conjoined_large n h = let l : n < moves_in (pairs (size_of second)) = subst (λ k. n < moves_in (pairs k)) size h in omega (arith, l)
