-- Which states are in lines.
use Rattle.std.proofs.Common.{◌≡◌, ◌≢◌, ℕ, zero, suc, ◌+◌, ◌<◌, ◌==◌, Bool, true, false, not, ◌||◌, List, [], ◌∷◌, ◌++◌, length, map, get_or, refl, ap, sym, ◌∙◌, arith, cond, replicate, subst}
use Rattle.std.specs.Prelude.{All, filter, nat_lt, slice_set}
use Rattle.std.specs.List.{list_any}
use Rattle.std.proofs.lemmas.Bool.Decides.{nat_tests}
use Rattle.std.proofs.lemmas.List.{get_or-set_same, get_or-set_other}
use Rattle.std.proofs.lemmas.List.Folds.{list_any-append}
use Rattle.std.proofs.lemmas.List.Elements.{All-head, All-tail, All-nil, All-cons}
use Rattle.std.proofs.lemmas.List.Elements.{All-filter, All-weaker}
use Rattle.vc_aut.specs.Validity.{IsMove}
use Rattle.vc_label.specs.declared.tape_set.TapeSet.{TapeSet}
use Rattle.vc_model.specs.Automata.{Transition}
use Rattle.vc_model.specs.WeightSet.{WeightSet}

true_ends : (a c : Bool) → true ≡ a || (c || true)
true_ends true c = refl
true_ends false true = refl
true_ends false false = refl

false_ends : (c : Bool) → c ≡ c || false
false_ends true = refl
false_ends false = refl

mark_at : {V : Type 0} (now old : List Bool) (to q : ℕ) (before : List (Transition V)) (t : Transition V) (b : Bool) → (to == q) ≡ b → q < length now → t.to ≡ to
    → get_or now q false ≡ get_or old q false || list_any (λ u. u.to == q) before
    → get_or (slice_set now to true) q false ≡ get_or old q false || (list_any (λ u. u.to == q) before || (b || false))
mark_at now old to q before t true e l same h =
    let here : to ≡ q = grind (arith, nat_tests) in
    ap (λ x. get_or (slice_set now x true) q false) here ∙ get_or-set_same now q true false l ∙ true_ends (get_or old q false) (list_any (λ u. u.to == q) before)
mark_at now old to q before t false e l same h =
    let there : q ≢ to = λ f. absurd (grind (arith, nat_tests)) in
    get_or-set_other now to q true false there ∙ h ∙ ap (λ c. get_or old q false || c) (false_ends (list_any (λ u. u.to == q) before))

-- the mark of one more target
pub mark_next : {V : Type 0} (now old : List Bool) (to : ℕ) (before after : List (Transition V)) (t : Transition V) → length now ≡ length old → t.to ≡ to → after ≡ before ++ t ∷ []
    → ((q : ℕ) → q < length old → get_or now q false ≡ get_or old q false || list_any (λ u. u.to == q) before)
    → (q : ℕ) → q < length old → get_or (slice_set now to true) q false ≡ get_or old q false || list_any (λ u. u.to == q) after
mark_next now old to before after t size same more h q l =
    mark_at now old to q before t (to == q) refl (omega (arith, size)) same (h q l)
    ∙ ap (λ c. get_or old q false || c)
    (ap (λ x. list_any (λ u. u.to == q) before || ((x == q) || false)) (sym same) ∙ sym (ap (list_any (λ u. u.to == q)) more ∙ list_any-append (λ u. u.to == q) before (t ∷ [])))

-- ---- transitions from states below a bound

either : (p x y z : Bool) → x ≡ y || z → p || x ≡ (p || y) || z
either true x y z e = refl
either false x y z e = e

or_either : (p x y z : Bool) → x ≡ y || z → p || x ≡ y || (p || z)
or_either true x true z e = refl
or_either true x false z e = refl
or_either false x y z e = e

three : {V : Type 0} (P : Transition V → Bool) (t : Transition V) (xs ys zs : List (Transition V)) (a b c : Bool) → a ≡ b || c → (b ≡ true → c ≡ false)
    → list_any P xs ≡ list_any P ys || list_any P zs
    → list_any P (cond a (t ∷ xs) xs) ≡ list_any P (cond b (t ∷ ys) ys) || list_any P (cond c (t ∷ zs) zs)
three P t xs ys zs a true true e f h = absurd (let g = f refl in cc)
three P t xs ys zs true true false e f h = either (P t) (list_any P xs) (list_any P ys) (list_any P zs) h
three P t xs ys zs false true false e f h = absurd (cc)
three P t xs ys zs true false true e f h = or_either (P t) (list_any P xs) (list_any P ys) (list_any P zs) h
three P t xs ys zs false false true e f h = absurd (cc)
three P t xs ys zs true false false e f h = absurd (cc)
three P t xs ys zs false false false e f h = h

less_next : (x s : ℕ) → nat_lt x (s + 1) ≡ nat_lt x s || (x == s)
less_next x s = grind (arith, nat_tests)

not_both : (x s : ℕ) → nat_lt x s ≡ true → (x == s) ≡ false
not_both x s e = grind (arith, nat_tests)

below_next : {V : Type 0} (P : Transition V → Bool) (s : ℕ) (ts : List (Transition V))
    → list_any P (filter (λ t. nat_lt t.from (s + 1)) ts) ≡ list_any P (filter (λ t. nat_lt t.from s) ts) || list_any P (filter (λ t. t.from == s) ts)
below_next P s [] = refl
below_next P s (t ∷ ts) =
    three P t (filter (λ u. nat_lt u.from (s + 1)) ts) (filter (λ u. nat_lt u.from s) ts) (filter (λ u. u.from == s) ts) (nat_lt t.from (s + 1)) (nat_lt t.from s) (t.from == s)
    (less_next t.from s) (not_both t.from s) (below_next P s ts)

-- the marks after the transitions of one more state
pub marks_next : {V : Type 0} (now new : List Bool) (n s : ℕ) (ts from : List (Transition V)) → from ≡ filter (λ t. t.from == s) ts → length now ≡ n
    → ((q : ℕ) → q < length now → get_or new q false ≡ get_or now q false || list_any (λ t. t.to == q) from)
    → ((q : ℕ) → q < n → get_or now q false ≡ list_any (λ t. t.to == q) (filter (λ t. nat_lt t.from s) ts))
    → (q : ℕ) → q < n → get_or new q false ≡ list_any (λ t. t.to == q) (filter (λ t. nat_lt t.from (s + 1)) ts)
marks_next now new n s ts from is size step h q l =
    step q (omega (arith, size)) ∙ ap (λ x. x || list_any (λ t. t.to == q) from) (h q l)
    ∙ ap (λ us. list_any (λ t. t.to == q) (filter (λ t. nat_lt t.from s) ts) || list_any (λ t. t.to == q) us) is
    ∙ sym (below_next (λ t. t.to == q) s ts)

not_less : (x : ℕ) → nat_lt x 0 ≡ false
not_less x = grind (arith, nat_tests)

none_below : {V : Type 0} (P : Transition V → Bool) (ts : List (Transition V)) → list_any P (filter (λ t. nat_lt t.from 0) ts) ≡ false
none_below P [] = refl
none_below P (t ∷ ts) =
    ap (λ b. list_any P (cond b (t ∷ filter (λ u. nat_lt u.from 0) ts) (filter (λ u. nat_lt u.from 0) ts))) (not_less t.from) ∙ none_below P ts

pub marks_first : {V : Type 0} (now : List Bool) (n : ℕ) (ts : List (Transition V)) → ((q : ℕ) → q < n → get_or now q false ≡ false)
    → (q : ℕ) → q < n → get_or now q false ≡ list_any (λ t. t.to == q) (filter (λ t. nat_lt t.from 0) ts)
marks_first now n ts h q l = h q l ∙ sym (none_below (λ t. t.to == q) ts)

less_true : (x s : ℕ) → x < s → nat_lt x s ≡ true
less_true x s l = grind (arith, nat_tests)

pub all_below : {V : Type 0} (n : ℕ) (ts : List (Transition V)) → All (λ t. t.from < n) ts → filter (λ t. nat_lt t.from n) ts ≡ ts
all_below n [] h = refl
all_below n (t ∷ ts) h =
    ap (λ b. cond b (t ∷ filter (λ u. nat_lt u.from n) ts) (filter (λ u. nat_lt u.from n) ts)) (less_true t.from n (All-head (λ u. u.from < n) t ts h))
    ∙ ap (λ us. t ∷ us) (all_below n ts (All-tail (λ u. u.from < n) t ts h))

-- ---- a state in lines

true_last : (x : Bool) → true ≡ x || true
true_last true = refl
true_last false = refl

one_from : {V : Type 0} (t : Transition V) (us : List (Transition V)) (a b rest others : Bool) → rest ≡ not (length us == 0) || others
    → (a || b) || rest ≡ not (length (cond a (t ∷ us) us) == 0) || (b || others)
one_from t us true b rest others e = let some : (suc (length us) == 0) ≡ false = grind (arith, nat_tests) in ap (λ x. not x || (b || others)) (sym some)
one_from t us false true rest others e = true_last (not (length us == 0))
one_from t us false false rest others e = e

any_from : {V : Type 0} (p : ℕ) (ts : List (Transition V)) → list_any (λ t. (t.from == p) || (t.to == p)) ts ≡ not (length (filter (λ t. t.from == p) ts) == 0) || list_any (λ t. t.to == p) ts
any_from p [] = refl
any_from p (t ∷ ts) =
    one_from t (filter (λ u. u.from == p) ts) (t.from == p) (t.to == p) (list_any (λ u. (u.from == p) || (u.to == p)) ts) (list_any (λ u. u.to == p) ts) (any_from p ts)

pub named_target : {V : Type 0} (x y target : Bool) (p : ℕ) (ts : List (Transition V)) → target ≡ true → target ≡ list_any (λ t. t.to == p) ts → true ≡ x || (y || list_any (λ t. (t.from == p) || (t.to == p)) ts)
named_target x y target p ts named e =
    let any : list_any (λ t. t.to == p) ts ≡ true = sym e ∙ named in
    let all : list_any (λ t. (t.from == p) || (t.to == p)) ts ≡ true = any_from p ts ∙ ap (λ z. not (length (filter (λ t. t.from == p) ts) == 0) || z) any ∙ sym (true_last (not (length (filter (λ t. t.from == p) ts) == 0))) in
    true_ends x y ∙ ap (λ z. x || (y || z)) (sym all)

pub named_last : {V : Type 0} (x y target empty : Bool) (p : ℕ) (ts from : List (Transition V)) → x ≡ false → y ≡ false → target ≡ false → target ≡ list_any (λ t. t.to == p) ts
    → empty ≡ (length from == 0) → from ≡ filter (λ t. t.from == p) ts → not empty ≡ x || (y || list_any (λ t. (t.from == p) || (t.to == p)) ts)
named_last x y target empty p ts from nx ny no_target e is same =
    let any : list_any (λ t. t.to == p) ts ≡ false = sym e ∙ no_target in
    ap not (is ∙ ap (λ us. length us == 0) same) ∙ false_ends (not (length (filter (λ t. t.from == p) ts) == 0))
    ∙ ap (λ z. not (length (filter (λ t. t.from == p) ts) == 0) || z) (sym any) ∙ sym (any_from p ts)
    ∙ ap (λ z. z || list_any (λ t. (t.from == p) || (t.to == p)) ts) (sym ny)
    ∙ ap (λ z. z || (y || list_any (λ t. (t.from == p) || (t.to == p)) ts)) (sym nx)

pub none_marked : (n q : ℕ) → get_or (replicate n false) q false ≡ false
none_marked zero q = refl
none_marked (suc n) zero = refl
none_marked (suc n) (suc q) = none_marked n q

pub all_unmapped : {X Y : Type 0} (f : X → Y) (P : Y → Type 0) (xs : List X) → All P (map f xs) → All (λ x. P (f x)) xs
all_unmapped f P [] h = All-nil (λ x. P (f x))
all_unmapped f P (x ∷ xs) h = All-cons (λ x. P (f x)) x xs (All-head P (f x) (map f xs) h) (all_unmapped f P xs (All-tail P (f x) (map f xs) h))

length_map : {X Y : Type 0} (f : X → Y) (xs : List X) → length (map f xs) ≡ length xs
length_map f [] = refl
length_map f (x ∷ xs) = ap suc (length_map f xs)

pub length_mapped : {X Y : Type 0} (f : X → Y) (xs : List X) (empty : Bool) → empty ≡ (length xs == 0) → empty ≡ (length (map f xs) == 0)
length_mapped f xs empty e = e ∙ ap (λ n. n == 0) (sym (length_map f xs))

-- the targets of the transitions from a state have places
pub moves_to : {V X : Type 0} (R : WeightSet V) (sets : List TapeSet) (n m p : ℕ) (ts : List (Transition V)) (f : X → Transition V) (from : List X) → All (IsMove R sets n) ts → map f from ≡ filter (λ t. t.from == p) ts → m ≡ n
    → All (λ x. (f x).to < m) from
moves_to R sets n m p ts f from h is size =
    all_unmapped f (λ t. t.to < m) from
    (All-weaker (IsMove R sets n) (λ t. t.to < m) (λ t k. omega (arith, k.to, size)) (map f from)
    (subst (All (IsMove R sets n)) (sym is) (All-filter (λ t. t.from == p) (IsMove R sets n) ts h)))

-- the marks after all transitions
pub marks_end : {V : Type 0} (R : WeightSet V) (sets : List TapeSet) (n s : ℕ) (ts : List (Transition V)) (marks : List Bool) → s ≡ n → All (IsMove R sets n) ts
    → ((q : ℕ) → q < n → get_or marks q false ≡ list_any (λ t. t.to == q) (filter (λ t. nat_lt t.from s) ts))
    → (q : ℕ) → q < n → get_or marks q false ≡ list_any (λ t. t.to == q) ts
marks_end R sets n s ts marks end h before q l =
    before q l ∙ ap (λ k. list_any (λ t. t.to == q) (filter (λ t. nat_lt t.from k) ts)) end
    ∙ ap (list_any (λ t. t.to == q)) (all_below n ts (All-weaker (IsMove R sets n) (λ t. t.from < n) (λ t m. m.from) ts h))
