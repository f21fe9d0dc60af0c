-- The machine with steps goes as the machine with trees.
use Rattle.std.proofs.Common.{◌≡◌, ◌+◌, ◌==◌, ℕ, Bool, true, false, List, [], ◌∷◌, ◌++◌, map, length, reverse, Option, Some, None, refl, ap, ap₂, sym, ◌∙◌, append_assoc, append-nil, arith}
use Rattle.std.specs.Prelude.{if◌then◌else◌}
use Rattle.std.specs.Option.{is_some}
use Rattle.std.proofs.Math.Seq.{take-append_seam, drop-append_seam}
use Rattle.std.proofs.lemmas.Bool.Decides.{nat_tests}
use Rattle.std.proofs.lemmas.List.{map-append, reverse-append}
use Rattle.vc_exprio.specs.declared.state.Level.{Level as Counts}
use Rattle.vc_exprio.specs.declared.state.Phase.{Phase as Next}
use Rattle.vc_exprio.specs.declared.state.Phase.TheVariants.{Wanted, Label, Operand, Barred}
use Rattle.vc_lex.specs.Marks.{Mark}
use Rattle.vc_exprio.specs.Trees.{Tree, label, times, both, shuffle, plus}
use Rattle.vc_exprio.specs.Meaning.{is_times, is_plus}
use Rattle.vc_exprio.specs.Grammar.{is_postfixed, is_shuffle}
use Rattle.vc_exprio.specs.Machine.{LeftSide, Head, weights, factors, Level, Outer, Phase, wanted, after, barred, State, weighed, product_with, joined, conjunction_with, shuffle_with, sum_with, behind_factor, behind_and, behind_shuffle, behind_plus, read, want}
use Rattle.vc_exprio.specs.Steps.{Op, weight_op, product_op, and_op, shuffle_op, sum_op, factor_count, member_count, open_of, steps_of, factor_steps, member_steps}
use Rattle.vc_exprio.specs.Flat.{Flat, with_steps, weights_closed, product_closed, conjunction_closed, shuffle_closed, sum_closed, moved, level_with, with_factor}

-- ---- a state with trees as one with steps

abbrev pub members_of : Option LeftSide → ℕ
members_of None = 0
members_of (Some x) = member_count x.tree

abbrev pub factors_of : Head → ℕ
factors_of (weights ms) = 0
factors_of (factors t) = factor_count t

abbrev pub pending_of : Head → List Mark
pending_of (weights ms) = ms
pending_of (factors t) = []

abbrev pub counts_of : ℕ → Level → Counts
counts_of n l = level_with (members_of l.sum) (is_some l.shuffled) (is_some l.conjunct) n (factors_of l.head)

abbrev pub outer_pending : List Outer → List Mark
outer_pending [] = []
outer_pending (x ∷ o) = outer_pending o ++ pending_of x.level.head

abbrev pub outer_counts : List Outer → List Counts
outer_counts [] = []
outer_counts (x ∷ o) = outer_counts o ++ counts_of (length (outer_pending o)) x.level ∷ []

abbrev pub sum_steps : Option LeftSide → List Op
sum_steps None = []
sum_steps (Some x) = member_steps x.tree

abbrev pub left_steps : Option LeftSide → List Op
left_steps None = []
left_steps (Some x) = steps_of x.tree

abbrev pub head_steps : Head → List Op
head_steps (weights ms) = []
head_steps (factors t) = factor_steps t

abbrev pub level_steps : Level → List Op
level_steps l = sum_steps l.sum ++ (left_steps l.shuffled ++ (left_steps l.conjunct ++ head_steps l.head))

abbrev pub outer_steps : List Outer → List Op
outer_steps [] = []
outer_steps (x ∷ o) = outer_steps o ++ level_steps x.level

abbrev pub phase_steps : Phase → List Op
phase_steps wanted = []
phase_steps (after t) = steps_of t
phase_steps (barred p bs m) = steps_of (label p bs)

abbrev pub is_label : Tree → Bool
is_label (label p bs) = true
is_label t = false

abbrev pub next_of : Phase → Next
next_of wanted = Wanted
next_of (after t) = if is_label t then Label else Operand
next_of (barred p bs m) = Barred

abbrev pub flat_of : State → Flat
flat_of s = record {
  steps = outer_steps s.outer ++ (level_steps s.level ++ phase_steps s.phase);
  outer = outer_counts s.outer;
  pending = outer_pending s.outer ++ pending_of s.level.head;
  level = counts_of (length (outer_pending s.outer)) s.level;
  phase = next_of s.phase;
}

-- ---- what is made at the end of each form

weight_steps : List Mark → List Op
weight_steps ms = map weight_op (reverse ms)

weighed_steps : (ms : List Mark) (t : Tree) → steps_of (weighed ms t) ≡ steps_of t ++ map weight_op (reverse ms)
weighed_steps [] t = sym (append-nil (steps_of t))
weighed_steps (m ∷ ms) t =
    ap (λ x. x ++ weight_op m ∷ []) (weighed_steps ms t)
    ∙ append_assoc (steps_of t) (map weight_op (reverse ms)) (weight_op m ∷ [])
    ∙ ap (λ x. steps_of t ++ x) (sym (ap (map weight_op) (reverse-append (m ∷ []) ms) ∙ map-append weight_op (reverse ms) (m ∷ [])))

pub not_times : (t : Tree) → is_postfixed t ≡ true → is_times t ≡ false
not_times (times t u) e = absurd (cc)
not_times t e = refl

pub not_plus : (t : Tree) → is_shuffle t ≡ true → is_plus t ≡ false
not_plus (plus t m u) e = absurd (cc)
not_plus t e = refl

weighed_not_times : (ms : List Mark) (t : Tree) → is_times t ≡ false → is_times (weighed ms t) ≡ false
weighed_not_times [] t e = e
weighed_not_times (m ∷ ms) t e = refl

one_factor : (t : Tree) → is_times t ≡ false → factor_count t ≡ 1
one_factor (times t u) e = absurd (cc)
one_factor t e = refl

one_member : (t : Tree) → is_plus t ≡ false → member_count t ≡ 1
one_member (plus t m u) e = absurd (cc)
one_member t e = refl

some_more : (n : ℕ) → (n + 1 == 0) ≡ false
some_more n = grind (arith, nat_tests)

some_factors : (t : Tree) → (factor_count t == 0) ≡ false
some_factors (times t u) = some_more (factor_count t)
some_factors t = refl

some_members : (t : Tree) → (member_count t == 0) ≡ false
some_members (plus t m u) = some_more (member_count t)
some_members t = refl

-- the factor that was read is one more
factor_made : (h : Head) (t : Tree) → is_times t ≡ false → head_steps h ++ (steps_of t ++ map weight_op (reverse (pending_of h))) ≡ factor_steps (product_with h t)
factor_made (weights ms) t e =
    sym (weighed_steps ms t) ∙ ap (λ b. if b then open_of (weighed ms t) else steps_of (weighed ms t)) (sym (weighed_not_times ms t e))
factor_made (factors u) t e = ap (λ x. factor_steps u ++ x) (append-nil (steps_of t))

factor_counted : (h : Head) (t : Tree) → is_times t ≡ false → factors_of h + 1 ≡ factor_count (product_with h t)
factor_counted (weights ms) t e = sym (one_factor (weighed ms t) (weighed_not_times ms t e))
factor_counted (factors u) t e = refl

product_made : (h : Head) (t : Tree)
    → head_steps h ++ (steps_of t ++ (map weight_op (reverse (pending_of h)) ++ (if factors_of h == 0 then [] else product_op (factors_of h + 1) ∷ []))) ≡ steps_of (product_with h t)
product_made (weights ms) t = ap (λ x. steps_of t ++ x) (append-nil (map weight_op (reverse ms))) ∙ sym (weighed_steps ms t)
product_made (factors u) t =
    ap (λ b. factor_steps u ++ (steps_of t ++ (if b then [] else product_op (factor_count u + 1) ∷ []))) (some_factors u)
    ∙ sym (append_assoc (factor_steps u) (steps_of t) (product_op (factor_count u + 1) ∷ []))

both_made : (x : Option LeftSide) (t : Tree) → left_steps x ++ (steps_of t ++ (if is_some x then and_op ∷ [] else [])) ≡ steps_of (joined both x t)
both_made None t = append-nil (steps_of t)
both_made (Some l) t = sym (append_assoc (steps_of l.tree) (steps_of t) (and_op ∷ []))

shuffle_made : (x : Option LeftSide) (t : Tree) → left_steps x ++ (steps_of t ++ (if is_some x then shuffle_op ∷ [] else [])) ≡ steps_of (joined shuffle x t)
shuffle_made None t = append-nil (steps_of t)
shuffle_made (Some l) t = sym (append_assoc (steps_of l.tree) (steps_of t) (shuffle_op ∷ []))

sum_made : (x : Option LeftSide) (t : Tree) → sum_steps x ++ (steps_of t ++ (if members_of x == 0 then [] else sum_op (members_of x + 1) ∷ [])) ≡ steps_of (joined plus x t)
sum_made None t = append-nil (steps_of t)
sum_made (Some l) t =
    ap (λ b. member_steps l.tree ++ (steps_of t ++ (if b then [] else sum_op (member_count l.tree + 1) ∷ []))) (some_members l.tree)
    ∙ sym (append_assoc (member_steps l.tree) (steps_of t) (sum_op (member_count l.tree + 1) ∷ []))

-- the member that was read is one more
member_made : (x : Option LeftSide) (t : Tree) → is_plus t ≡ false → sum_steps x ++ steps_of t ≡ member_steps (joined plus x t)
member_made None t e = ap (λ b. if b then open_of t else steps_of t) (sym e)
member_made (Some l) t e = refl

member_counted : (x : Option LeftSide) (t : Tree) → is_plus t ≡ false → members_of x + 1 ≡ member_count (joined plus x t)
member_counted None t e = sym (one_member t e)
member_counted (Some l) t e = refl

-- ---- a level is closed

module _ (o : List Outer) (l : Level) where
  abbrev counts : Counts
  counts = counts_of (length (outer_pending o)) l

  -- the steps of the outer levels, and these
  abbrev pub shape : List Op → List Mark → Next → Flat
  shape steps pending next = record { steps = outer_steps o ++ steps; outer = outer_counts o; pending = pending; level = counts; phase = next }

  module _ (t : Tree) where
    abbrev now : Flat
    now = flat_of (read o l t)

    abbrev next : Next
    next = next_of (after t)

    weights_shape : weights_closed now ≡ shape (level_steps l ++ (steps_of t ++ map weight_op (reverse (pending_of l.head)))) (outer_pending o) next
    weights_shape =
        ap₂ (λ x y. record { steps = x; outer = outer_counts o; pending = y; level = counts; phase = next })
        (ap (λ x. (outer_steps o ++ (level_steps l ++ steps_of t)) ++ map weight_op (reverse x)) (drop-append_seam (outer_pending o) (pending_of l.head)) ∙ simp append_assoc)
        (take-append_seam (outer_pending o) (pending_of l.head))

    abbrev s : List Op
    s = sum_steps l.sum

    abbrev h : List Op
    h = left_steps l.shuffled

    abbrev c : List Op
    c = left_steps l.conjunct

    -- other steps and no pending weights
    abbrev made : List Op → Flat
    made x = record { steps = x; outer = outer_counts o; pending = outer_pending o; level = counts; phase = next }

    product_shape : product_closed now ≡ made (outer_steps o ++ (s ++ (h ++ (c ++ steps_of (product_with l.head t)))))
    product_shape =
        let w : List Op = map weight_op (reverse (pending_of l.head)) in
        let p : List Op = if factors_of l.head == 0 then [] else product_op (factors_of l.head + 1) ∷ [] in
        let regrouped : (outer_steps o ++ ((s ++ (h ++ (c ++ head_steps l.head))) ++ (steps_of t ++ w))) ++ p ≡ outer_steps o ++ (s ++ (h ++ (c ++ (head_steps l.head ++ (steps_of t ++ (w ++ p)))))) = simp append_assoc in
        ap (λ f. with_steps f p) weights_shape ∙ ap made regrouped ∙ ap (λ x. made (outer_steps o ++ (s ++ (h ++ (c ++ x))))) (product_made l.head t)

    conjunction_shape : conjunction_closed now ≡ made (outer_steps o ++ (s ++ (h ++ steps_of (conjunction_with l t))))
    conjunction_shape =
        let x : List Op = steps_of (product_with l.head t) in
        let p : List Op = if is_some l.conjunct then and_op ∷ [] else [] in
        let regrouped : (outer_steps o ++ (s ++ (h ++ (c ++ x)))) ++ p ≡ outer_steps o ++ (s ++ (h ++ (c ++ (x ++ p)))) = simp append_assoc in
        ap (λ f. with_steps f p) product_shape ∙ ap made regrouped ∙ ap (λ y. made (outer_steps o ++ (s ++ (h ++ y)))) (both_made l.conjunct (product_with l.head t))

    shuffle_shape : shuffle_closed now ≡ made (outer_steps o ++ (s ++ steps_of (shuffle_with l t)))
    shuffle_shape =
        let x : List Op = steps_of (conjunction_with l t) in
        let p : List Op = if is_some l.shuffled then shuffle_op ∷ [] else [] in
        let regrouped : (outer_steps o ++ (s ++ (h ++ x))) ++ p ≡ outer_steps o ++ (s ++ (h ++ (x ++ p))) = simp append_assoc in
        ap (λ f. with_steps f p) conjunction_shape ∙ ap made regrouped ∙ ap (λ y. made (outer_steps o ++ (s ++ y))) (shuffle_made l.shuffled (conjunction_with l t))

    pub sum_shape : sum_closed now ≡ made (outer_steps o ++ steps_of (sum_with l t))
    sum_shape =
        let x : List Op = steps_of (shuffle_with l t) in
        let p : List Op = if members_of l.sum == 0 then [] else sum_op (members_of l.sum + 1) ∷ [] in
        let regrouped : (outer_steps o ++ (s ++ x)) ++ p ≡ outer_steps o ++ (s ++ (x ++ p)) = simp append_assoc in
        ap (λ f. with_steps f p) shuffle_shape ∙ ap made regrouped ∙ ap (λ y. made (outer_steps o ++ y)) (sum_made l.sum (shuffle_with l t))

    -- ---- the states behind an operand

    abbrev settled : List Op → Counts → Flat
    settled x n = record { steps = x; outer = outer_counts o; pending = outer_pending o ++ []; level = n; phase = Wanted }

    abbrev unpended : List Op → Counts → List Mark → Flat
    unpended x n y = record { steps = x; outer = outer_counts o; pending = y; level = n; phase = Wanted }

    pub and_flat : (m : Mark) → moved (conjunction_closed now) (level_with (members_of l.sum) (is_some l.shuffled) true (length (outer_pending o)) 0) Wanted ≡ flat_of (want o (behind_and l t m))
    and_flat m =
        let n : Counts = level_with (members_of l.sum) (is_some l.shuffled) true (length (outer_pending o)) 0 in
        let x : List Op = steps_of (conjunction_with l t) in
        let regrouped : outer_steps o ++ (s ++ (h ++ x)) ≡ outer_steps o ++ ((s ++ (h ++ (x ++ []))) ++ []) = simp (append_assoc, append-nil) in
        ap (λ f. moved f n Wanted) conjunction_shape ∙ ap₂ (λ y z. unpended y n z) regrouped (sym (append-nil (outer_pending o)))

    pub shuffle_flat : (m : Mark) → moved (shuffle_closed now) (level_with (members_of l.sum) true false (length (outer_pending o)) 0) Wanted ≡ flat_of (want o (behind_shuffle l t m))
    shuffle_flat m =
        let n : Counts = level_with (members_of l.sum) true false (length (outer_pending o)) 0 in
        let x : List Op = steps_of (shuffle_with l t) in
        let regrouped : outer_steps o ++ (s ++ x) ≡ outer_steps o ++ ((s ++ (x ++ [])) ++ []) = simp (append_assoc, append-nil) in
        ap (λ f. moved f n Wanted) shuffle_shape ∙ ap₂ (λ y z. unpended y n z) regrouped (sym (append-nil (outer_pending o)))

    pub plus_flat : (m : Mark) → is_plus (shuffle_with l t) ≡ false → moved (shuffle_closed now) (level_with (members_of l.sum + 1) false false (length (outer_pending o)) 0) Wanted ≡ flat_of (want o (behind_plus l t m))
    plus_flat m e =
        let x : List Op = steps_of (shuffle_with l t) in
        let regrouped : outer_steps o ++ (s ++ x) ≡ outer_steps o ++ (((s ++ x) ++ []) ++ []) = simp (append_assoc, append-nil) in
        ap (λ f. moved f (level_with (members_of l.sum + 1) false false (length (outer_pending o)) 0) Wanted) shuffle_shape
        ∙ ap₂ (λ y z. unpended y (level_with (members_of l.sum + 1) false false (length (outer_pending o)) 0) z) regrouped (sym (append-nil (outer_pending o)))
        ∙ ap₂ (λ y k. unpended (outer_steps o ++ ((y ++ []) ++ [])) (level_with k false false (length (outer_pending o)) 0) (outer_pending o ++ [])) (member_made l.sum (shuffle_with l t) e) (member_counted l.sum (shuffle_with l t) e)

    pub factor_flat : is_times t ≡ false → with_factor now ≡ flat_of (want o (behind_factor l t))
    factor_flat e =
        let w : List Op = map weight_op (reverse (pending_of l.head)) in
        let n : ℕ → Counts = λ k. level_with (members_of l.sum) (is_some l.shuffled) (is_some l.conjunct) (length (outer_pending o)) k in
        let regrouped : outer_steps o ++ ((s ++ (h ++ (c ++ head_steps l.head))) ++ (steps_of t ++ w)) ≡ outer_steps o ++ ((s ++ (h ++ (c ++ (head_steps l.head ++ (steps_of t ++ w))))) ++ []) = simp (append_assoc, append-nil) in
        ap (λ f. moved f (n (factors_of l.head + 1)) Wanted) weights_shape
        ∙ ap₂ (λ y z. unpended y (n (factors_of l.head + 1)) z) regrouped (sym (append-nil (outer_pending o)))
        ∙ ap₂ (λ y k. unpended (outer_steps o ++ ((s ++ (h ++ (c ++ y))) ++ [])) (n k) (outer_pending o ++ [])) (factor_made l.head t e) (factor_counted l.head t e)
