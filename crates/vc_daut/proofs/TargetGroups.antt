-- Transitions from one state, in groups by their targets.
use Rattle.std.proofs.Common.{◌≡◌, ◌≢◌, ℕ, zero, suc, ◌+◌, ◌-◌, ◌<◌, ◌≤◌, ◌==◌, Bool, true, false, List, [], ◌∷◌, ◌++◌, length, map, take, drop, get_or, refl, ap, sym, ◌∙◌, append_assoc, append-nil, arith, cond, subst}
use Rattle.std.specs.Prelude.{All, filter}
use Rattle.std.specs.Borrow.{Bor}
use Rattle.std.specs.List.{flat_map, prefix_len}
use Rattle.std.specs.List.Sorted.{IsNonDecreasingBy, IsStableByKey, ties}
use Rattle.std.specs.Ordering.{nat_cmp, is_lt}
use Rattle.std.proofs.lemmas.Bool.Decides.{nat_tests}
use Rattle.std.proofs.lemmas.List.{take-append-drop, map-append, take-map, drop-map, length-drop}
use Rattle.std.proofs.lemmas.List.Elements.{filter-append, All-head, All-tail, All-take, All-drop, All-filter, All-weaker}
use Rattle.vc_aut.specs.Stored.{transition_of}
use Rattle.vc_aut.specs.declared.transition.Transition.{Transition as Stored}
use Rattle.vc_model.specs.Automata.{Transition}
use Rattle.vc_model.specs.Lists.{up_from}
use Rattle.vc_model.specs.Words.{Word}
use Rattle.vc_daut.specs.Canonical.{TextLine, moves_line, line_to, to_state, lines_by_target}
use Rattle.std.proofs.lemmas.List.Sorted.{IsNonDecreasingBy-drop, All-permutation}
use Rattle.std.specs.List.Sorted.{IsPermutation}
use Rattle.vc_aut.specs.Validity.{IsMove}
use Rattle.vc_label.specs.Sets.{IsOverSets}
use Rattle.vc_label.specs.declared.tape_set.TapeSet.{TapeSet}
use Rattle.vc_model.specs.WeightSet.{WeightSet}
use Rattle.vc_text.specs.Growing.{IsFront}
use Rattle.vc_text.specs.Fronts.{front_of, front_twice}
use Rattle.vc_daut.specs.Growing.{lent, IsEntry}
use Rattle.vc_daut.proofs.ListTexts.{take_whole}

-- a word over sets has as many parts
length_over_sets : (sets : List TapeSet) (w : Word) → IsOverSets sets w → length w ≡ length sets
length_over_sets [] [] h = refl
length_over_sets [] (a ∷ w) h = absurd h
length_over_sets (s ∷ ss) [] h = absurd h
length_over_sets (s ∷ ss) (a ∷ w) h = ap (λ n. suc n) (length_over_sets ss w h.1)

-- ---- filters

pub filter_same : {X : Type 0} (p r : X → Bool) → ((x : X) → p x ≡ r x) → (xs : List X) → filter p xs ≡ filter r xs
filter_same p r e [] = refl
filter_same p r e (x ∷ xs) = ap (λ b. cond b (x ∷ filter p xs) (filter p xs)) (e x) ∙ ap (λ ys. cond (r x) (x ∷ ys) ys) (filter_same p r e xs)

filter_mapped_at : {X Y : Type 0} (f : X → Y) (p : Y → Bool) (x : X) (xs : List X) (b : Bool) → filter p (map f xs) ≡ map f (filter (λ y. p (f y)) xs)
    → cond b (f x ∷ filter p (map f xs)) (filter p (map f xs)) ≡ map f (cond b (x ∷ filter (λ y. p (f y)) xs) (filter (λ y. p (f y)) xs))
filter_mapped_at f p x xs true e = ap (λ ys. f x ∷ ys) e
filter_mapped_at f p x xs false e = e

pub filter_mapped : {X Y : Type 0} (f : X → Y) (p : Y → Bool) (xs : List X) → filter p (map f xs) ≡ map f (filter (λ x. p (f x)) xs)
filter_mapped f p [] = refl
filter_mapped f p (x ∷ xs) = filter_mapped_at f p x xs (p (f x)) (filter_mapped f p xs)

-- the first that passes
first_of : {X : Type 0} (p : X → Bool) (x : X) (xs : List X) (y : X) (ys : List X) (b : Bool) → p x ≡ b → cond b (x ∷ filter p xs) (filter p xs) ≡ y ∷ ys → ((filter p xs ≡ y ∷ ys) → p y ≡ true) → p y ≡ true
first_of p x xs y ys true h e rest = let same : x ≡ y = cc in ap p (sym same) ∙ h
first_of p x xs y ys false h e rest = rest e

first_passes : {X : Type 0} (p : X → Bool) (xs : List X) (y : X) (ys : List X) → filter p xs ≡ y ∷ ys → p y ≡ true
first_passes p [] y ys e = absurd (cc)
first_passes p (x ∷ xs) y ys e = first_of p x xs y ys (p x) refl e (first_passes p xs y ys)

-- ---- what a stable sort by a number keeps

tied : {X : Type 0} (key : X → ℕ) (x y : X) → ties (λ a b. is_lt (nat_cmp (key a) (key b))) x y ≡ (key y == key x)
tied key x y = grind (arith, nat_tests)

by_one : {X : Type 0} (key : X → ℕ) (xs ys : List X) → IsStableByKey key nat_cmp xs ys → (x : X) → filter (λ y. key y == key x) ys ≡ filter (λ y. key y == key x) xs
by_one key xs ys stable x =
    filter_same (λ y. key y == key x) (ties (λ a b. is_lt (nat_cmp (key a) (key b))) x) (λ y. sym (tied key x y)) ys
    ∙ stable x ∙ filter_same (ties (λ a b. is_lt (nat_cmp (key a) (key b))) x) (λ y. key y == key x) (tied key x) xs

by_key : {X : Type 0} (key : X → ℕ) (xs ys : List X) → IsStableByKey key nat_cmp xs ys → (q : ℕ) (x : X) → key x == q ≡ true → filter (λ y. key y == q) ys ≡ filter (λ y. key y == q) xs
by_key key xs ys stable q x e =
    let same : key x ≡ q = grind (arith, nat_tests) in
    ap (λ k. filter (λ y. key y == k) ys) (sym same) ∙ by_one key xs ys stable x ∙ ap (λ k. filter (λ y. key y == k) xs) same

stable_by : {X : Type 0} (key : X → ℕ) (xs ys : List X) → IsStableByKey key nat_cmp xs ys → (q : ℕ) (us vs : List X) → filter (λ y. key y == q) ys ≡ us → filter (λ y. key y == q) xs ≡ vs → us ≡ vs
stable_by key xs ys stable q [] [] e f = refl
stable_by key xs ys stable q (u ∷ us) vs e f = sym e ∙ by_key key xs ys stable q u (first_passes (λ y. key y == q) ys u us e) ∙ f
stable_by key xs ys stable q [] (v ∷ vs) e f = sym e ∙ by_key key xs ys stable q v (first_passes (λ y. key y == q) xs v vs f) ∙ f

pub stable_at : {X : Type 0} (key : X → ℕ) (xs ys : List X) → IsStableByKey key nat_cmp xs ys → (q : ℕ) → filter (λ y. key y == q) ys ≡ filter (λ y. key y == q) xs
stable_at key xs ys stable q = stable_by key xs ys stable q (filter (λ y. key y == q) ys) (filter (λ y. key y == q) xs) refl refl

-- the same for the transitions that are lent
pub lent_stable : {L S B V : Type 0} (parts : B → Word) (xs ys : List (Bor (Stored L S B V))) → IsStableByKey (λ b. b.now.to) nat_cmp xs ys
    → (q : ℕ) → filter (λ t. t.to == q) (lent parts ys) ≡ filter (λ t. t.to == q) (lent parts xs)
lent_stable parts xs ys stable q =
    filter_mapped (λ b. transition_of parts b.now) (λ t. t.to == q) ys
    ∙ ap (map (λ b. transition_of parts b.now)) (stable_at (λ b. b.now.to) xs ys stable q)
    ∙ sym (filter_mapped (λ b. transition_of parts b.now) (λ t. t.to == q) xs)

-- ---- lines by targets

same_lines_from : {V : Type 0} (p s k : ℕ) (xs ys : List (Transition V)) → ((q : ℕ) → to_state q xs ≡ to_state q ys)
    → flat_map (λ q. line_to p q (to_state q xs)) (up_from s k) ≡ flat_map (λ q. line_to p q (to_state q ys)) (up_from s k)
same_lines_from p s zero xs ys e = refl
same_lines_from p s (suc k) xs ys e =
    ap (λ ts. line_to p s ts ++ flat_map (λ q. line_to p q (to_state q xs)) (up_from (suc s) k)) (e s)
    ∙ ap (λ ls. line_to p s (to_state s ys) ++ ls) (same_lines_from p (suc s) k xs ys e)

pub same_lines : {V : Type 0} (n p : ℕ) (xs ys : List (Transition V)) → ((q : ℕ) → to_state q xs ≡ to_state q ys) → lines_by_target n p xs ≡ lines_by_target n p ys
same_lines n p xs ys e = same_lines_from p 0 n xs ys e

-- all lead to q
abbrev AreTo : {V : Type 0} → ℕ → List (Transition V) → Type 0
AreTo q [] = Unit {0}
AreTo q (t ∷ ts) = (t.to ≡ q) × AreTo q ts

-- all lead to states above q
abbrev AreAbove : {V : Type 0} → ℕ → List (Transition V) → Type 0
AreAbove q [] = Unit {0}
AreAbove q (t ∷ ts) = (q < t.to) × AreAbove q ts

kept_at : {X : Type 0} (b : Bool) (x : X) (xs : List X) → b ≡ true → cond b (x ∷ xs) xs ≡ x ∷ xs
kept_at true x xs e = refl
kept_at false x xs e = absurd (cc)

left_at : {X : Type 0} (b : Bool) (x : X) (xs : List X) → b ≡ false → cond b (x ∷ xs) xs ≡ xs
left_at true x xs e = absurd (cc)
left_at false x xs e = refl

same_number : (a b : ℕ) → a ≡ b → a == b ≡ true
same_number a b e = grind (arith, nat_tests)

other_number : (a b : ℕ) → a ≢ b → a == b ≡ false
other_number a b e = grind (arith, nat_tests)

here : {V : Type 0} (q : ℕ) (ts : List (Transition V)) → AreTo q ts → to_state q ts ≡ ts
here q [] h = refl
here q (t ∷ ts) h = kept_at (t.to == q) t (to_state q ts) (same_number t.to q h.0) ∙ ap (λ us. t ∷ us) (here q ts h.1)

elsewhere : {V : Type 0} (q r : ℕ) (ts : List (Transition V)) → q ≢ r → AreTo q ts → to_state r ts ≡ []
elsewhere q r [] d h = refl
elsewhere q r (t ∷ ts) d h = left_at (t.to == r) t (to_state r ts) (other_number t.to r (λ e. d (sym h.0 ∙ e))) ∙ elsewhere q r ts d h.1

below_all : {V : Type 0} (q r : ℕ) (ts : List (Transition V)) → r ≤ q → AreAbove q ts → to_state r ts ≡ []
below_all q r [] l h = refl
below_all q r (t ∷ ts) l h = left_at (t.to == r) t (to_state r ts) (other_number t.to r (λ e. absurd (omega (arith, h.0, e)))) ∙ below_all q r ts l h.1

after : {V : Type 0} (p s k q : ℕ) (g rest : List (Transition V)) → q < s → AreTo q g
    → flat_map (λ r. line_to p r (to_state r (g ++ rest))) (up_from s k) ≡ flat_map (λ r. line_to p r (to_state r rest)) (up_from s k)
after p s zero q g rest l h = refl
after p s (suc k) q g rest l h =
    let none : to_state s (g ++ rest) ≡ to_state s rest =
    filter-append (λ t. t.to == s) g rest ∙ ap (λ us. us ++ to_state s rest) (elsewhere q s g (λ e. absurd (omega (arith, e))) h) in
    ap (λ ts. line_to p s ts ++ flat_map (λ r. line_to p r (to_state r (g ++ rest))) (up_from (suc s) k)) none
    ∙ ap (λ ls. line_to p s (to_state s rest) ++ ls) (after p (suc s) k q g rest (omega arith) h)

-- lines of a group in front of lines of what is left
abbrev AreSplit : {V : Type 0} → ℕ → ℕ → ℕ → ℕ → List (Transition V) → List (Transition V) → Type 0
AreSplit p s k q g rest = flat_map (λ r. line_to p r (to_state r (g ++ rest))) (up_from s k) ≡ line_to p q g ++ flat_map (λ r. line_to p r (to_state r rest)) (up_from s k)

split_here : {V : Type 0} (p k q : ℕ) (g rest : List (Transition V)) → AreTo q g → AreAbove q rest → AreSplit p q (suc k) q g rest
split_here p k q g rest h a =
    let mine : to_state q (g ++ rest) ≡ g =
    filter-append (λ t. t.to == q) g rest ∙ ap (λ us. us ++ to_state q rest) (here q g h) ∙ ap (λ us. g ++ us) (below_all q q rest (omega arith) a) ∙ append-nil g in
    ap (λ ts. line_to p q ts ++ flat_map (λ r. line_to p r (to_state r (g ++ rest))) (up_from (suc q) k)) mine
    ∙ ap (λ ls. line_to p q g ++ ls) (after p (suc q) k q g rest (omega arith) h)
    ∙ ap (λ ts. line_to p q g ++ (line_to p q ts ++ flat_map (λ r. line_to p r (to_state r rest)) (up_from (suc q) k))) (sym (below_all q q rest (omega arith) a))

split_from : {V : Type 0} (p s k q d : ℕ) (g rest : List (Transition V)) → s + d ≡ q → d < k → AreTo q g → AreAbove q rest → AreSplit p s k q g rest
split_from p s zero q d g rest e l h a = absurd (omega arith)
split_from p s (suc k) q zero g rest e l h a =
    let same : q ≡ s = omega arith in
    subst (λ x. AreSplit p x (suc k) q g rest) same (split_here p k q g rest h a)
split_from p s (suc k) q (suc d) g rest e l h a =
    let none : to_state s (g ++ rest) ≡ [] =
    filter-append (λ t. t.to == s) g rest ∙ ap (λ us. us ++ to_state s rest) (elsewhere q s g (λ f. absurd (omega (arith, e, f))) h) ∙ below_all q s rest (omega arith) a in
    ap (λ ts. line_to p s ts ++ flat_map (λ r. line_to p r (to_state r (g ++ rest))) (up_from (suc s) k)) none
    ∙ split_from p (suc s) k q d g rest (omega arith) (omega arith) h a
    ∙ ap (λ ts. line_to p q g ++ (line_to p s ts ++ flat_map (λ r. line_to p r (to_state r rest)) (up_from (suc s) k))) (sym (below_all q s rest (omega arith) a))

-- ---- the group in front of a list in order

-- the numbers of all are at least m
abbrev AreLeast : {X : Type 0} → (X → ℕ) → ℕ → List X → Type 0
AreLeast key m [] = Unit {0}
AreLeast key m (x ∷ xs) = (m ≤ key x) × AreLeast key m xs

abbrev Rises : {X : Type 0} → (X → ℕ) → List X → Type 0
Rises key [] = Unit {0}
Rises key (x ∷ xs) = AreLeast key (key x) xs × Rises key xs

least_from : {X : Type 0} (key : X → ℕ) (m : ℕ) (xs : List X) → ((j : ℕ) (d : X) → j < length xs → m ≤ key (get_or xs j d)) → AreLeast key m xs
least_from key m [] h = tt
least_from key m (x ∷ xs) h = (h 0 x (omega arith), least_from key m xs (λ j d l. h (suc j) d (omega arith)))

rises_from : {X : Type 0} (key : X → ℕ) (xs : List X) → IsNonDecreasingBy key xs → Rises key xs
rises_from key [] h = tt
rises_from key (x ∷ xs) h =
    (least_from key (key x) xs (λ j d l. h 0 (suc j) d (omega arith) (omega arith)), rises_from key xs (λ i j d le l. h (suc i) (suc j) d (omega arith) (omega arith)))

some_line : {V : Type 0} (p q : ℕ) (ts : List (Transition V)) → 0 < length ts → line_to p q ts ≡ moves_line p q ts ∷ []
some_line p q [] l = absurd (omega arith)
some_line p q (t ∷ ts) l = refl

one_more : (k : ℕ) → suc k ≡ 1 + k
one_more k = omega arith

module _ {L S B V : Type 0} (parts : B → Word) where
  abbrev target : Bor (Stored L S B V) → ℕ
  target b = b.now.to

  all_above : (q m : ℕ) (bs : List (Bor (Stored L S B V))) → q < m → AreLeast target m bs → AreAbove q (lent parts bs)
  all_above q m [] l h = tt
  all_above q m (b ∷ bs) l h = (omega (arith, h.0), all_above q m bs l h.1)

  front_at : (q : ℕ) (b : Bor (Stored L S B V)) (bs : List (Bor (Stored L S B V))) (c : Bool) → (target b == q) ≡ c → AreTo q (lent parts (take (prefix_len (λ x. target x == q) bs) bs))
      → AreTo q (lent parts (take (cond c (suc (prefix_len (λ x. target x == q) bs)) 0) (b ∷ bs)))
  front_at q b bs true e h = let same : target b ≡ q = grind (arith, nat_tests) in (same, h)
  front_at q b bs false e h = tt

  are_to : (q : ℕ) (bs : List (Bor (Stored L S B V))) → AreTo q (lent parts (take (prefix_len (λ x. target x == q) bs) bs))
  are_to q [] = tt
  are_to q (b ∷ bs) =
      subst (λ m. AreTo q (lent parts (take (cond (target b == q) m 0) (b ∷ bs)))) (one_more (prefix_len (λ x. target x == q) bs)) (front_at q b bs (target b == q) refl (are_to q bs))

  back_at : (q : ℕ) (b : Bor (Stored L S B V)) (bs : List (Bor (Stored L S B V))) (c : Bool) → (target b == q) ≡ c → q ≤ target b → AreLeast target (target b) bs
      → AreAbove q (lent parts (drop (prefix_len (λ x. target x == q) bs) bs)) → AreAbove q (lent parts (drop (cond c (suc (prefix_len (λ x. target x == q) bs)) 0) (b ∷ bs)))
  back_at q b bs true e low least h = h
  back_at q b bs false e low least h =
      let differ : q < target b = grind (arith, nat_tests) in
      (differ, all_above q (target b) bs differ least)

  are_above : (q : ℕ) (bs : List (Bor (Stored L S B V))) → Rises target bs → AreLeast target q bs → AreAbove q (lent parts (drop (prefix_len (λ x. target x == q) bs) bs))
  are_above q [] r h = tt
  are_above q (b ∷ bs) r h =
      subst (λ m. AreAbove q (lent parts (drop (cond (target b == q) m 0) (b ∷ bs)))) (one_more (prefix_len (λ x. target x == q) bs)) (back_at q b bs (target b == q) refl h.0 r.0 (are_above q bs r.1 h.1))

  lent_split : (k : ℕ) (bs : List (Bor (Stored L S B V))) → lent parts bs ≡ lent parts (take k bs) ++ lent parts (drop k bs)
  lent_split k bs = ap (lent parts) (sym (take-append-drop k bs)) ∙ map-append (λ b. transition_of parts b.now) (take k bs) (drop k bs)

  least_all : (q : ℕ) (bs : List (Bor (Stored L S B V))) (d : Bor (Stored L S B V)) → Rises target bs → q ≡ target (get_or bs 0 d) → 0 < length bs → AreLeast target q bs
  least_all q [] d r e l = absurd (omega arith)
  least_all q (b ∷ bs) d r e l = (omega (arith, e), subst (λ m. AreLeast target m bs) (sym e) r.0)

  -- the lines of a list in order are a line for the group in front, and the lines of what is left
  pub next_group : (n p q k : ℕ) (bs : List (Bor (Stored L S B V))) (d : Bor (Stored L S B V)) → IsNonDecreasingBy (λ b. b.now.to) bs → q ≡ (get_or bs 0 d).now.to → q < n → 0 < length bs
      → k ≡ prefix_len (λ b. b.now.to == q) bs → 0 < length (lent parts (take k bs))
      → lines_by_target n p (lent parts bs) ≡ moves_line p q (lent parts (take k bs)) ∷ lines_by_target n p (lent parts (drop k bs))
  next_group n p q k bs d sorted e l some width full =
      let r : Rises target bs = rises_from target bs sorted in
      let to : AreTo q (lent parts (take k bs)) = subst (λ m. AreTo q (lent parts (take m bs))) (sym width) (are_to q bs) in
      let above : AreAbove q (lent parts (drop k bs)) = subst (λ m. AreAbove q (lent parts (drop m bs))) (sym width) (are_above q bs r (least_all q bs d r e some)) in
      ap (lines_by_target n p) (lent_split k bs)
      ∙ split_from p 0 n q q (lent parts (take k bs)) (lent parts (drop k bs)) (omega arith) l to above
      ∙ ap (λ ls. ls ++ lines_by_target n p (lent parts (drop k bs))) (some_line p q (lent parts (take k bs)) full)

-- ---- facts about lent transitions

module _ {L S B V : Type 0} (parts : B → Word) where
  pub lent_at : (P : Transition V → Type 0) (bs : List (Bor (Stored L S B V))) (i : ℕ) (b : Bor (Stored L S B V)) → i < length bs → b ≡ get_or bs i b → All P (lent parts bs) → P (transition_of parts b.now)
  lent_at P [] i b l is h = absurd (omega arith)
  lent_at P (c ∷ bs) zero b l is h = subst (λ x. P (transition_of parts x.now)) (sym is) (All-head P (transition_of parts c.now) (lent parts bs) h)
  lent_at P (c ∷ bs) (suc i) b l is h = lent_at P bs i b (omega arith) is (All-tail P (transition_of parts c.now) (lent parts bs) h)

no_lines : {V : Type 0} (p s k : ℕ) → flat_map (λ q. line_to p q (to_state {V = V} q [])) (up_from s k) ≡ []
no_lines p s zero = refl
no_lines p s (suc k) = no_lines p (suc s) k

pub tail_is : {X : Type 0} (xs : List X) (k : ℕ) → take (length xs - k) (drop k xs) ≡ drop k xs
tail_is xs k = take_whole (drop k xs) (length xs - k) (omega (arith, length-drop k xs))

front_three : {old : List ℕ} (s t a : List ℕ) → IsFront old s → t ≡ s ++ a → IsFront old t
front_three {old} s t a first e = front_twice old s t first (front_of s t a e)

-- what is left to write while lines are written by targets
pub record IsLeft {L S B V : Type 0} (R : WeightSet V) (parts : B → Word) (tapes n p : ℕ) (text : TextLine V → List ℕ) (old all now : List ℕ) (rest : List (Bor (Stored L S B V))) : Type 0 where
  pub sorted : IsNonDecreasingBy (λ b. b.now.to) rest
  pub entries : All (IsEntry R tapes) (lent parts rest)
  pub targets : All (λ t. t.to < n) (lent parts rest)
  pub front : IsFront old now
  pub lines : now ++ flat_map text (lines_by_target n p (lent parts rest)) ≡ all

module _ {L S B V : Type 0} (R : WeightSet V) (parts : B → Word) (tapes n p : ℕ) (text : TextLine V → List ℕ) (old all : List ℕ) where
  pub group_some : (q : ℕ) (bs : List (Bor (Stored L S B V))) (b : Bor (Stored L S B V)) → 0 < length bs → b ≡ get_or bs 0 b → q ≡ b.now.to → 0 < prefix_len (λ x. x.now.to == q) bs
  group_some q [] b l is e = absurd (omega arith)
  group_some q (c ∷ bs) b l is e =
      let same : (c.now.to == q) ≡ true = same_number c.now.to q (ap (λ x. x.now.to) (sym is) ∙ sym e) in
      let k = prefix_len (λ x. x.now.to == q) bs in
      subst (λ m. 0 < m) (sym (ap (λ t. cond t (1 + k) 0) same)) (omega arith)

  pub entries_front : (k : ℕ) (bs : List (Bor (Stored L S B V))) → All (IsEntry R tapes) (lent parts bs) → All (IsEntry R tapes) (lent parts (take k bs))
  entries_front k bs h = subst (All (IsEntry R tapes)) (take-map (λ b. transition_of parts b.now) k bs) (All-take (IsEntry R tapes) k (lent parts bs) h)

  length_lent : (bs : List (Bor (Stored L S B V))) → length (lent parts bs) ≡ length bs
  length_lent [] = refl
  length_lent (b ∷ bs) = ap suc (length_lent bs)

  some_taken : (k : ℕ) (bs : List (Bor (Stored L S B V))) → 0 < k → 0 < length bs → 0 < length (take k bs)
  some_taken zero bs l m = absurd (omega arith)
  some_taken (suc k) [] l m = absurd (omega arith)
  some_taken (suc k) (b ∷ bs) l m = omega arith

  pub front_some : (q k : ℕ) (bs : List (Bor (Stored L S B V))) (b : Bor (Stored L S B V)) → 0 < length bs → b ≡ get_or bs 0 b → q ≡ b.now.to → k ≡ prefix_len (λ x. x.now.to == q) bs → 0 < length (take k bs)
  front_some q k bs b l is e w = some_taken k bs (omega (arith, w, group_some q bs b l is e)) l

  pub left_next : (s t : List ℕ) (rest left : List (Bor (Stored L S B V))) (b : Bor (Stored L S B V)) (q k : ℕ) → IsLeft R parts tapes n p text old all s rest → 0 < length rest → b ≡ get_or rest 0 b → q ≡ b.now.to
      → k ≡ prefix_len (λ x. x.now.to == q) rest → left ≡ drop k rest → t ≡ s ++ text (moves_line p q (lent parts (take k rest))) → IsLeft R parts tapes n p text old all t left
  left_next s t rest left b q k h l is e w more added =
      let first : q ≡ (get_or rest 0 b).now.to = e ∙ ap (λ x. x.now.to) is in
      let low : q < n = subst (λ m. m < n) (sym e) (lent_at parts (λ u. u.to < n) rest 0 b l is h.targets) in
      let full : 0 < length (lent parts (take k rest)) = subst (λ m. 0 < m) (sym (length_lent (take k rest))) (front_some q k rest b l is e w) in
      let lines = next_group parts n p q k rest b h.sorted first low l w full in
      let line = text (moves_line p q (lent parts (take k rest))) in
      subst (IsLeft R parts tapes n p text old all t) (sym more) (record {
        sorted = IsNonDecreasingBy-drop (λ x. x.now.to) k rest h.sorted;
        entries = subst (All (IsEntry R tapes)) (drop-map (λ x. transition_of parts x.now) k rest) (All-drop (IsEntry R tapes) k (lent parts rest) h.entries);
        targets = subst (All (λ u. u.to < n)) (drop-map (λ x. transition_of parts x.now) k rest) (All-drop (λ u. u.to < n) k (lent parts rest) h.targets);
        front = front_three s t line h.front added;
        lines = ap (λ u. u ++ flat_map text (lines_by_target n p (lent parts (drop k rest)))) added
            ∙ append_assoc s line (flat_map text (lines_by_target n p (lent parts (drop k rest))))
            ∙ ap (λ ls. s ++ flat_map text ls) (sym lines) ∙ h.lines;
      })

  pub left_end : (s : List ℕ) (rest : List (Bor (Stored L S B V))) → IsLeft R parts tapes n p text old all s rest → length rest ≡ 0 → s ≡ all
  left_end s [] h e = sym (append-nil s) ∙ ap (λ ls. s ++ flat_map text ls) (sym (no_lines p 0 n)) ∙ h.lines
  left_end s (b ∷ bs) h e = absurd (omega (arith, e))

-- what is true of the transitions from a state, in another order
pub entries_from : {V : Type 0} (R : WeightSet V) (sets : List TapeSet) (n p : ℕ) (ts from ordered : List (Transition V)) → All (IsMove R sets n) ts → from ≡ filter (λ t. t.from == p) ts → IsPermutation from ordered
    → All (IsEntry R (length sets)) ordered × All (λ t. t.to < n) ordered
entries_from R sets n p ts from ordered h is same =
    let moves : All (IsMove R sets n) ordered = All-permutation (IsMove R sets n) from ordered same (subst (All (IsMove R sets n)) (sym is) (All-filter (λ t. t.from == p) (IsMove R sets n) ts h)) in (
      All-weaker (IsMove R sets n) (IsEntry R (length sets)) (λ t m. record { parts = length_over_sets sets t.label m.label; weight = m.weight }) ordered moves,
      All-weaker (IsMove R sets n) (λ t. t.to < n) (λ t m. m.to) ordered moves,
    )

pub not_none : (n : ℕ) (b : Bool) → b ≡ (n == 0) → b ≡ false → 0 < n
not_none zero b e f = absurd (cc)
not_none (suc n) b e f = omega arith

pub is_none : (n : ℕ) (b : Bool) → b ≡ (n == 0) → b ≡ true → n ≡ 0
is_none zero b e f = refl
is_none (suc n) b e f = let g : (suc n == 0) ≡ false = grind (arith, nat_tests) in absurd (cc)
