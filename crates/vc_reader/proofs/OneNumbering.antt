-- Names in their order are one list.
use Rattle.std.proofs.Common.{◌≡◌, ℕ, Bool, true, false, List, [], ◌∷◌, refl, ap, sym, ◌∙◌, subst, inl, inr}
use Rattle.std.specs.Prelude.{if◌then◌else◌}
use Rattle.std.specs.Cmp.{IsTotalOrder, then_total, on_total, nat_cmp_total}
use Rattle.std.specs.Cmp.Lexicographic.{slice_cmp}
use Rattle.std.specs.Ordering.{is_lt, nat_cmp, ordering_then, ordering_reverse}
use Rattle.std.specs.declared.cmp.Ordering.{Ordering}
use Rattle.std.specs.declared.cmp.Ordering.TheVariants.{Less, Equal, Greater}
use Rattle.std.proofs.lemmas.Bool.{false≢true}
use Rattle.std.proofs.lemmas.Cmp.{nat_list_cmp_total, ranked}
use Rattle.vc_model.specs.Gathered.{IsAscending}
use Rattle.vc_model.specs.Lists.{In, NoRepeat}
use Rattle.vc_model.specs.GatheredLaws.{ascending_same}
use Rattle.vc_text.specs.Escapes.{unescaped}
use Rattle.vc_lines.specs.Names.{is_number, value_of, name_order, order_by, AreOrdered, AreInOrder}
use Rattle.vc_reader.proofs.WrittenNames.{IsWritten, same_bytes, same_number}

-- the parts by which names are ordered
abbrev sort_of : List ℕ → ℕ
sort_of a = if is_number a then 0 else 1

abbrev worth_of : List ℕ → ℕ
worth_of a = if is_number a then value_of a else 0

abbrev bytes_of : List ℕ → List ℕ
bytes_of a = if is_number a then [] else unescaped a

abbrev by_parts : List ℕ → List ℕ → Ordering
by_parts a b = ordering_then (ordering_then (nat_cmp (sort_of a) (sort_of b)) (nat_cmp (worth_of a) (worth_of b))) (slice_cmp nat_cmp (bytes_of a) (bytes_of b))

then_equal : (o : Ordering) → ordering_then o Equal ≡ o
then_equal Less = refl
then_equal Equal = refl
then_equal Greater = refl

parts_order : (a b : List ℕ) → by_parts a b ≡ name_order a b
parts_order a b = go (is_number a) (is_number b)
  where
    go : (p q : Bool) → ordering_then (ordering_then (nat_cmp (if p then 0 else 1) (if q then 0 else 1)) (nat_cmp (if p then value_of a else 0) (if q then value_of b else 0)))
        (slice_cmp nat_cmp (if p then [] else unescaped a) (if q then [] else unescaped b)) ≡ order_by p q a b
    go true true = then_equal (nat_cmp (value_of a) (value_of b))
    go true false = refl
    go false true = refl
    go false false = refl

parts_total : IsTotalOrder by_parts
parts_total = then_total (then_total (on_total sort_of nat_cmp_total) (on_total worth_of nat_cmp_total)) (on_total bytes_of nat_list_cmp_total)

pub names_total : IsTotalOrder name_order
names_total = subst IsTotalOrder (λ i a b. parts_order a b i) parts_total

equal_parts : (o p : Ordering) → ordering_then o p ≡ Equal → (o ≡ Equal) × (p ≡ Equal)
equal_parts Less p h = cc
equal_parts Equal p h = (refl, h)
equal_parts Greater p h = cc

equal_numbers : (x y : ℕ) → nat_cmp x y ≡ Equal → x ≡ y
equal_numbers x y h = ranked x y Equal (sym h)

equal_lists : (a b : List ℕ) → slice_cmp nat_cmp a b ≡ Equal → a ≡ b
equal_lists [] [] h = refl
equal_lists [] (y ∷ b) h = cc
equal_lists (x ∷ a) [] h = cc
equal_lists (x ∷ a) (y ∷ b) h =
    let p = equal_parts (nat_cmp x y) (slice_cmp nat_cmp a b) h in
    let e : x ≡ y = equal_numbers x y p.0 in
    let f : a ≡ b = equal_lists a b p.1 in
    cc

-- names that the order does not tell apart are equal
equal_names : (a b : List ℕ) → IsWritten a → IsWritten b → name_order a b ≡ Equal → a ≡ b
equal_names a b v w h = go (is_number a) (is_number b) refl refl h
  where
    go : (p q : Bool) → is_number a ≡ p → is_number b ≡ q → order_by p q a b ≡ Equal → a ≡ b
    go true true e f h = same_number a b e f (equal_numbers (value_of a) (value_of b) h)
    go true false e f h = absurd (cc)
    go false true e f h = absurd (cc)
    go false false e f h = same_bytes a b v w (equal_lists (unescaped a) (unescaped b) h)

abbrev before : List ℕ → List ℕ → Bool
before a b = is_lt (name_order a b)

one_way : (a b : List ℕ) → before a b ≡ true → before b a ≡ false
one_way a b h = go (name_order a b) h (name_order b a) (names_total.antisymm a b)
  where
    go : (o : Ordering) → is_lt o ≡ true → (p : Ordering) → o ≡ ordering_reverse p → is_lt p ≡ false
    go o h Less e = absurd (false≢true (ap is_lt (sym e) ∙ h))
    go o h Equal e = refl
    go o h Greater e = refl

-- a name is less than another that does not stand before it
less_than : (a b : List ℕ) → IsWritten a → IsWritten b → (a ≡ b → ⊥) → before b a ≡ false → name_order a b ≡ Less
less_than a b v w n h = go (name_order a b) refl (name_order b a) (names_total.antisymm a b) h
  where
    go : (o : Ordering) → name_order a b ≡ o → (p : Ordering) → o ≡ ordering_reverse p → is_lt p ≡ false → o ≡ Less
    go Less e p f h = refl
    go Equal e p f h = absurd (n (equal_names a b v w e))
    go Greater e Less f h = absurd (false≢true (sym h))
    go Greater e Equal f h = absurd (cc)
    go Greater e Greater f h = absurd (cc)

-- the first name is less than all after it
first_less : (a : List ℕ) (names : List (List ℕ)) → ((b : List ℕ) → In b (a ∷ names) → IsWritten b) → NoRepeat (a ∷ names) → AreOrdered (a ∷ names) → (b : List ℕ) → In b names → name_order a b ≡ Less
first_less a [] w n o b i = absurd i
first_less a (c ∷ names) w n o b i = go (λ j. first_less c names (λ d k. w d (inr k)) n.1 o.1 b j) i
  where
    step : name_order a c ≡ Less
    step = less_than a c (w a (inl refl)) (w c (inr (inl refl))) (λ e. n.0 (inl e)) o.0

    go : (In b names → name_order c b ≡ Less) → In b (c ∷ names) → name_order a b ≡ Less
    go r (inl e) = ap (name_order a) e ∙ step
    go r (inr j) = names_total.trans a c b step (r j)

ascending : (names : List (List ℕ)) → ((b : List ℕ) → In b names → IsWritten b) → NoRepeat names → AreOrdered names → IsAscending before names
ascending [] w n o = tt
ascending (a ∷ names) w n o = ((λ b i. ap is_lt (first_less a names w n o b i)), ascending names (λ b i. w b (inr i)) n.1 (tail names o))
  where
    tail : (names : List (List ℕ)) → AreOrdered (a ∷ names) → AreOrdered names
    tail [] o = tt
    tail (c ∷ names) o = o.1

-- written names have one order
pub one_list : (found names others : List (List ℕ)) → ((a : List ℕ) → In a found → IsWritten a) → AreInOrder found names → AreInOrder found others → names ≡ others
one_list found names others w a b =
    ascending_same before one_way names others
    (ascending names (λ x i. w x ((a.named x).0 i)) a.once a.order) (ascending others (λ x i. w x ((b.named x).0 i)) b.once b.order)
    (λ x i. (b.named x).1 ((a.named x).0 i)) (λ x i. (a.named x).1 ((b.named x).0 i))
