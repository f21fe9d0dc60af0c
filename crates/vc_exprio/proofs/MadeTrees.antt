-- Making an expression by the steps of its tree is building it from its tree.
use Rattle.std.proofs.Common.{◌≡◌, ◌≤◌, ◌+◌, ◌-◌, ℕ, Bool, true, false, List, [], ◌∷◌, ◌++◌, map, take, drop, length, Result, Ok, Err, refl, ap, ap₂, sym, ◌∙◌, append_assoc, append-nil, arith, length-append}
use Rattle.std.specs.Prelude.{if◌then◌else◌, nat_le, ⊤}
use Rattle.std.proofs.lemmas.Bool.Decides.{nat_tests}
use Rattle.std.proofs.Math.Seq.{take-append_seam, drop-append_seam}
use Rattle.vc_lex.specs.Marks.{Mark}
use Rattle.vc_lex.specs.Parts.{tape_of}
use Rattle.vc_model.specs.WeightSet.{WeightSet}
use Rattle.vc_terms.specs.Identities.{atom_of}
use Rattle.vc_terms.specs.Terms.{Term, Zero}
use Rattle.vc_exprio.specs.Building.{BuildRefusal, and_then, with_last, atoms_of, sum_call, product_call, weight_call, star_call, both_call, shuffle_call, building, factors_built, members_built}
use Rattle.vc_exprio.specs.Making.{more_parts, of_one, of_two, Progress, made, refused, lacking, go_on, put_behind, replaced, made_by}
use Rattle.vc_exprio.specs.Meaning.{is_times, is_plus, label_word}
use Rattle.vc_exprio.specs.Steps.{Op, more_op, factor_count, member_count, last_of, open_of, steps_of}
use Rattle.vc_exprio.specs.Trees.{Tree, Barred, zero_tree, label, class, group, star, weight_behind, weight_before, times, both, shuffle, plus}
use Rattle.vc_exprio.proofs.StepLabels.{mores, no_more, last_no_more}

-- ---- results one after the other

abbrev one : {X E : Type 0} → Result X E → Result (List X) E
one x = and_then (λ a. Ok (a ∷ [])) x

-- where there is a list, it is so long
abbrev IsLong : {X E : Type 0} → ℕ → Result (List X) E → Type 0
IsLong n (Ok xs) = length xs ≡ n
IsLong n (Err e) = ⊤

long_one : {X E : Type 0} (x : Result X E) → IsLong 1 (one x)
long_one (Ok a) = refl
long_one (Err e) = tt

long_last : {X E : Type 0} (n : ℕ) (xs : Result (List X) E) (x : Result X E) → IsLong n xs → IsLong (n + 1) (with_last xs x)
long_last n (Ok xs) (Ok x) e = let l = length-append xs (x ∷ []) in omega (arith, l, e)
long_last n (Ok xs) (Err f) e = tt
long_last n (Err f) x e = tt

at_least : (n k : ℕ) → n ≤ k → nat_le n k ≡ true
at_least n k h = grind (arith, nat_tests)

module _ {V : Type 0} where
  replaced_is : (ts us : List (Term V)) (n : ℕ) (call : List (Term V) → Result (Term V) (BuildRefusal V)) → length us ≡ n → replaced n call (ts ++ us) ≡ put_behind ts (call us)
  replaced_is ts us n call e =
      let k : length (ts ++ us) - n ≡ length ts = omega (arith, e, length-append ts us) in
      let l : nat_le n (length (ts ++ us)) ≡ true = at_least n (length (ts ++ us)) (omega (arith, e, length-append ts us)) in
      ap (λ b. if b then put_behind (take (length (ts ++ us) - n) (ts ++ us)) (call (drop (length (ts ++ us) - n) (ts ++ us))) else lacking) l
      ∙ ap (λ j. put_behind (take j (ts ++ us)) (call (drop j (ts ++ us)))) k
      ∙ ap₂ (λ a b. put_behind a (call b)) (take-append_seam ts us) (drop-append_seam ts us)

  -- one operand, two operands
  call_one : (call : Term V → Result (Term V) (BuildRefusal V)) (x : Result (Term V) (BuildRefusal V)) → and_then (of_one call) (one x) ≡ and_then call x
  call_one call (Ok a) = refl
  call_one call (Err e) = refl

  call_two : (call : Term V → Term V → Result (Term V) (BuildRefusal V)) (x y : Result (Term V) (BuildRefusal V))
      → and_then (of_two call) (with_last (one x) y) ≡ and_then (λ a. and_then (call a) y) x
  call_two call (Ok a) (Ok b) = refl
  call_two call (Ok a) (Err e) = refl
  call_two call (Err e) y = refl

mores_skipped : {V : Type 0} (R : WeightSet V) (same : V → V → Bool) (value : Mark → V) (class_letters : Mark → List ℕ)
    → (bs : List Barred) (ts : List (Term V)) (rest : List Op) → made_by R same value class_letters ts (map (λ b. more_op b.part) bs ++ rest) ≡ made_by R same value class_letters ts rest
mores_skipped R same value class_letters [] ts rest = refl
mores_skipped R same value class_letters (b ∷ bs) ts rest = mores_skipped R same value class_letters bs ts rest

tapes_same : (bs : List Barred) → map tape_of (map (λ b. b.part) bs) ≡ map (λ b. tape_of b.part) bs
tapes_same [] = refl
tapes_same (b ∷ bs) = ap (λ x. tape_of b.part ∷ x) (tapes_same bs)

-- ---- the steps of a tree

module _ {V : Type 0} (R : WeightSet V) (same : V → V → Bool) (value : Mark → V) (class_letters : Mark → List ℕ) where
  abbrev Made : Type 0
  Made = Result (Term V) (BuildRefusal V)

  abbrev Parts : Type 0
  Parts = Result (List (Term V)) (BuildRefusal V)

  abbrev built : Tree → Made
  built t = building R same value class_letters t

  abbrev by : List (Term V) → List Op → Progress V
  by ts ops = made_by R same value class_letters ts ops

  -- what the steps before the last one make
  abbrev parts_of : Tree → Parts
  parts_of (zero_tree m) = Ok []
  parts_of (label m bs) = Ok (atom_of (label_word m bs) ∷ [])
  parts_of (class m) = Ok []
  parts_of (group opening t closing) = one (built t)
  parts_of (star t m) = one (built t)
  parts_of (weight_behind t m) = one (built t)
  parts_of (weight_before m t) = one (built t)
  parts_of (times t u) = with_last (factors_built R same value class_letters t (built t)) (built u)
  parts_of (both t m u) = with_last (one (built t)) (built u)
  parts_of (shuffle t m u) = with_last (one (built t)) (built u)
  parts_of (plus t m u) = with_last (members_built R same value class_letters t (built t)) (built u)

  factors_are : (t : Tree) → (if is_times t then parts_of t else one (built t)) ≡ factors_built R same value class_letters t (built t)
  factors_are (times t u) = refl
  factors_are t = refl

  members_are : (t : Tree) → (if is_plus t then parts_of t else one (built t)) ≡ members_built R same value class_letters t (built t)
  members_are (plus t m u) = refl
  members_are t = refl

  factors_counted : (t : Tree) → IsLong (factor_count t) (factors_built R same value class_letters t (built t))
  factors_counted (times t u) = long_last (factor_count t) (factors_built R same value class_letters t (built t)) (built u) (factors_counted t)
  factors_counted t = long_one (built t)

  members_counted : (t : Tree) → IsLong (member_count t) (members_built R same value class_letters t (built t))
  members_counted (plus t m u) = long_last (member_count t) (members_built R same value class_letters t (built t)) (built u) (members_counted t)
  members_counted t = long_one (built t)

  -- the expression is on the stack
  abbrev with_whole : List (Term V) → List Op → Made → Progress V
  with_whole ts rest x = go_on (λ us. by us rest) (put_behind ts x)

  abbrev after_parts : (List (Term V) → Progress V) → Parts → Progress V
  after_parts next (Ok us) = next us
  after_parts next (Err fault) = refused fault

  -- these parts are on the stack
  abbrev with_parts : List (Term V) → List Op → Parts → Progress V
  with_parts ts rest parts = after_parts (λ us. by (ts ++ us) rest) parts

  after_same : (f g : List (Term V) → Progress V) → ((us : List (Term V)) → f us ≡ g us) → (parts : Parts) → after_parts f parts ≡ after_parts g parts
  after_same f g h (Ok us) = h us
  after_same f g h (Err e) = refl

  whole_is_part : (ts : List (Term V)) (rest : List Op) (x : Made) → with_parts ts rest (one x) ≡ with_whole ts rest x
  whole_is_part ts rest (Ok a) = refl
  whole_is_part ts rest (Err e) = refl

  -- a call on the last parts
  called : (n : ℕ) (call : List (Term V) → Made) (ts : List (Term V)) (rest : List Op) (parts : Parts) → IsLong n parts
      → after_parts (λ us. go_on (λ vs. by vs rest) (replaced n call (ts ++ us))) parts ≡ with_whole ts rest (and_then call parts)
  called n call ts rest (Ok us) e = ap (go_on (λ vs. by vs rest)) (replaced_is ts us n call e)
  called n call ts rest (Err f) e = refl

  called_one : (call : Term V → Made) (ts : List (Term V)) (rest : List Op) (x : Made)
      → after_parts (λ us. go_on (λ vs. by vs rest) (replaced 1 (of_one call) (ts ++ us))) (one x) ≡ with_whole ts rest (and_then call x)
  called_one call ts rest x = called 1 (of_one call) ts rest (one x) (long_one x) ∙ ap (with_whole ts rest) (call_one call x)

  called_two : (call : Term V → Term V → Made) (ts : List (Term V)) (rest : List Op) (x y : Made)
      → after_parts (λ us. go_on (λ vs. by vs rest) (replaced 2 (of_two call) (ts ++ us))) (with_last (one x) y) ≡ with_whole ts rest (and_then (λ a. and_then (call a) y) x)
  called_two call ts rest x y = called 2 (of_two call) ts rest (with_last (one x) y) (long_last 1 (one x) y (long_one x)) ∙ ap (with_whole ts rest) (call_two call x y)

  -- the last step
  closes : (t : Tree) (ts : List (Term V)) (rest : List Op) → with_parts ts (last_of t ++ rest) (parts_of t) ≡ with_whole ts rest (built t)
  closes (zero_tree m) ts rest = ap (λ x. by (x ++ Zero ∷ []) rest) (append-nil ts)
  closes (label m bs) ts rest = refl
  closes (class m) ts rest = ap (λ x. go_on (λ vs. by vs rest) (put_behind x (sum_call R same (atoms_of (class_letters m))))) (append-nil ts)
  closes (group opening t closing) ts rest = whole_is_part ts rest (built t)
  closes (star t m) ts rest = called_one (star_call R same) ts rest (built t)
  closes (weight_behind t m) ts rest = called_one (weight_call R same (value m)) ts rest (built t)
  closes (weight_before m t) ts rest = called_one (weight_call R same (value m)) ts rest (built t)
  closes (times t u) ts rest = called (factor_count (times t u)) (product_call R same) ts rest (parts_of (times t u)) (factors_counted (times t u))
  closes (both t m u) ts rest = called_two (both_call R same) ts rest (built t) (built u)
  closes (shuffle t m u) ts rest = called_two (shuffle_call R same) ts rest (built t) (built u)
  closes (plus t m u) ts rest = called (member_count (plus t m u)) (sum_call R same) ts rest (parts_of (plus t m u)) (members_counted (plus t m u))

  abbrev Opens : Tree → Type 0
  Opens t = (ts : List (Term V)) (rest : List Op) → more_parts rest ≡ [] → by ts (open_of t ++ rest) ≡ with_parts ts rest (parts_of t)

  abbrev Makes : Tree → Type 0
  Makes t = (ts : List (Term V)) (rest : List Op) → more_parts rest ≡ [] → by ts (steps_of t ++ rest) ≡ with_whole ts rest (built t)

  makes_by : (t : Tree) → Opens t → Makes t
  makes_by t f ts rest e = ap (by ts) (append_assoc (open_of t) (last_of t) rest) ∙ f ts (last_of t ++ rest) (last_no_more t rest e) ∙ closes t ts rest

  whole_alone : (t : Tree) → Opens t → (ts : List (Term V)) (rest : List Op) → more_parts rest ≡ [] → by ts (steps_of t ++ rest) ≡ with_parts ts rest (one (built t))
  whole_alone t f ts rest e = makes_by t f ts rest e ∙ sym (whole_is_part ts rest (built t))

  side : (is : Bool) (t : Tree) → Opens t → (ts : List (Term V)) (rest : List Op) → more_parts rest ≡ []
      → by ts ((if is then open_of t else steps_of t) ++ rest) ≡ with_parts ts rest (if is then parts_of t else one (built t))
  side true t f ts rest e = f ts rest e
  side false t f ts rest e = whole_alone t f ts rest e

  -- one part more
  one_more : (ts : List (Term V)) (rest : List Op) (parts : Parts) (x : Made) → after_parts (λ us. with_whole (ts ++ us) rest x) parts ≡ with_parts ts rest (with_last parts x)
  one_more ts rest (Ok us) (Ok a) = ap (λ y. by y rest) (append_assoc ts us (a ∷ []))
  one_more ts rest (Ok us) (Err f) = refl
  one_more ts rest (Err f) x = refl

  two_sides : (is : Bool) (t u : Tree) → Opens t → Opens u → (ts : List (Term V)) (rest : List Op) → more_parts rest ≡ []
      → by ts (((if is then open_of t else steps_of t) ++ steps_of u) ++ rest) ≡ with_parts ts rest (with_last (if is then parts_of t else one (built t)) (built u))
  two_sides is t u f g ts rest e =
      ap (by ts) (append_assoc (if is then open_of t else steps_of t) (steps_of u) rest)
      ∙ side is t f ts (steps_of u ++ rest) (no_more u rest)
      ∙ after_same (λ us. by (ts ++ us) (steps_of u ++ rest)) (λ us. with_whole (ts ++ us) rest (built u)) (λ us. makes_by u g (ts ++ us) rest e) (if is then parts_of t else one (built t))
      ∙ one_more ts rest (if is then parts_of t else one (built t)) (built u)

  opens : (t : Tree) → Opens t
  opens (zero_tree m) ts rest e = ap (λ x. by x rest) (sym (append-nil ts))
  opens (label m bs) ts rest e =
      ap (λ w. by (ts ++ atom_of (tape_of m ∷ w) ∷ []) (map (λ b. more_op b.part) bs ++ rest)) (ap (map tape_of) (mores bs rest e) ∙ tapes_same bs)
      ∙ mores_skipped R same value class_letters bs (ts ++ atom_of (label_word m bs) ∷ []) rest
  opens (class m) ts rest e = ap (λ x. by x rest) (sym (append-nil ts))
  opens (group opening t closing) ts rest e = whole_alone t (opens t) ts rest e
  opens (star t m) ts rest e = whole_alone t (opens t) ts rest e
  opens (weight_behind t m) ts rest e = whole_alone t (opens t) ts rest e
  opens (weight_before m t) ts rest e = whole_alone t (opens t) ts rest e
  opens (times t u) ts rest e = two_sides (is_times t) t u (opens t) (opens u) ts rest e ∙ ap (λ x. with_parts ts rest (with_last x (built u))) (factors_are t)
  opens (both t m u) ts rest e = two_sides false t u (opens t) (opens u) ts rest e
  opens (shuffle t m u) ts rest e = two_sides false t u (opens t) (opens u) ts rest e
  opens (plus t m u) ts rest e = two_sides (is_plus t) t u (opens t) (opens u) ts rest e ∙ ap (λ x. with_parts ts rest (with_last x (built u))) (members_are t)

  went_on : (x : Progress V) → go_on (λ us. made us) x ≡ x
  went_on (made ts) = refl
  went_on (refused e) = refl
  went_on lacking = refl

  -- the steps of a tree
  pub steps_made : (t : Tree) (ts : List (Term V)) → made_by R same value class_letters ts (steps_of t) ≡ put_behind ts (building R same value class_letters t)
  steps_made t ts = ap (by ts) (sym (append-nil (steps_of t))) ∙ makes_by t (opens t) ts [] refl ∙ went_on (put_behind ts (built t))
