-- The steps of a tree have its labels.
use Rattle.std.proofs.Common.{◌≡◌, Bool, true, false, List, [], ◌∷◌, ◌++◌, map, refl, ap, ap₂, sym, ◌∙◌, append_assoc, append-nil}
use Rattle.std.specs.Prelude.{if◌then◌else◌}
use Rattle.vc_exprio.specs.Trees.{Tree, Barred, zero_tree, label, class, group, star, weight_behind, weight_before, times, both, shuffle, plus}
use Rattle.vc_exprio.specs.Meaning.{is_times, is_plus, Occurrence, parts, letters, occurrences}
use Rattle.vc_exprio.specs.Steps.{Op, more_op, last_of, open_of, steps_of}
use Rattle.vc_exprio.specs.Making.{more_parts, occurrences_in}

-- ---- no label goes on after a tree

pub mores : (bs : List Barred) (rest : List Op) → more_parts rest ≡ [] → more_parts (map (λ b. more_op b.part) bs ++ rest) ≡ map (λ b. b.part) bs
mores [] rest e = e
mores (b ∷ bs) rest e = ap (λ x. b.part ∷ x) (mores bs rest e)

-- the tree has one step
abbrev is_leaf : Tree → Bool
is_leaf (zero_tree m) = true
is_leaf (class m) = true
is_leaf t = false

leaf_steps : (t : Tree) → is_leaf t ≡ true → (d : List Op) → more_parts (steps_of t ++ d) ≡ []
leaf_steps (zero_tree m) e d = refl
leaf_steps (class m) e d = refl
leaf_steps t e d = absurd (cc)

abbrev Begins : Tree → Type 0
Begins t = is_leaf t ≡ false → (d : List Op) → more_parts (open_of t ++ d) ≡ []

steps_begin : (t : Tree) → Begins t → (d : List Op) → more_parts (steps_of t ++ d) ≡ []
steps_begin t f d = go (is_leaf t) refl
  where
    go : (b : Bool) → is_leaf t ≡ b → more_parts (steps_of t ++ d) ≡ []
    go true e = leaf_steps t e d
    go false e = ap more_parts (append_assoc (open_of t) (last_of t) d) ∙ f e (last_of t ++ d)

times_no_leaf : (t : Tree) → is_times t ≡ true → is_leaf t ≡ false
times_no_leaf (times t u) e = refl
times_no_leaf t e = absurd (cc)

plus_no_leaf : (t : Tree) → is_plus t ≡ true → is_leaf t ≡ false
plus_no_leaf (plus t m u) e = refl
plus_no_leaf t e = absurd (cc)

side_begins : (is : Bool) (t : Tree) → Begins t → (is ≡ true → is_leaf t ≡ false) → (a d : List Op) → more_parts (((if is then open_of t else steps_of t) ++ a) ++ d) ≡ []
side_begins true t f n a d = ap more_parts (append_assoc (open_of t) a d) ∙ f (n refl) (a ++ d)
side_begins false t f n a d = ap more_parts (append_assoc (steps_of t) a d) ∙ steps_begin t f (a ++ d)

begins : (t : Tree) → Begins t
begins (label m bs) e d = refl
begins (group opening t closing) e d = steps_begin t (begins t) d
begins (star t m) e d = steps_begin t (begins t) d
begins (weight_behind t m) e d = steps_begin t (begins t) d
begins (weight_before m t) e d = steps_begin t (begins t) d
begins (times t u) e d = side_begins (is_times t) t (begins t) (times_no_leaf t) (steps_of u) d
begins (both t m u) e d = side_begins false t (begins t) (λ f. absurd (cc)) (steps_of u) d
begins (shuffle t m u) e d = side_begins false t (begins t) (λ f. absurd (cc)) (steps_of u) d
begins (plus t m u) e d = side_begins (is_plus t) t (begins t) (plus_no_leaf t) (steps_of u) d
begins t e d = absurd (cc)

pub no_more : (t : Tree) (d : List Op) → more_parts (steps_of t ++ d) ≡ []
no_more t d = steps_begin t (begins t) d

-- the last step is none of a label that goes on, where none follows
pub last_no_more : (t : Tree) (d : List Op) → more_parts d ≡ [] → more_parts (last_of t ++ d) ≡ []
last_no_more (label m bs) d e = e
last_no_more (zero_tree m) d e = refl
last_no_more (class m) d e = refl
last_no_more (group opening t closing) d e = refl
last_no_more (star t m) d e = refl
last_no_more (weight_behind t m) d e = refl
last_no_more (weight_before m t) d e = refl
last_no_more (times t u) d e = refl
last_no_more (both t m u) d e = refl
last_no_more (shuffle t m u) d e = refl
last_no_more (plus t m u) d e = refl

-- ---- labels

abbrev last_occurrence : Tree → List Occurrence
last_occurrence (class m) = letters m ∷ []
last_occurrence t = []

abbrev open_occurrences : Tree → List Occurrence
open_occurrences (class m) = []
open_occurrences t = occurrences t

occurrences_are : (t : Tree) → open_occurrences t ++ last_occurrence t ≡ occurrences t
occurrences_are (class m) = refl
occurrences_are t = append-nil (occurrences t)

last_found : (t : Tree) (rest : List Op) → occurrences_in (last_of t ++ rest) ≡ last_occurrence t ++ occurrences_in rest
last_found (zero_tree m) rest = refl
last_found (label m bs) rest = refl
last_found (class m) rest = refl
last_found (group opening t closing) rest = refl
last_found (star t m) rest = refl
last_found (weight_behind t m) rest = refl
last_found (weight_before m t) rest = refl
last_found (times t u) rest = refl
last_found (both t m u) rest = refl
last_found (shuffle t m u) rest = refl
last_found (plus t m u) rest = refl

mores_found : (bs : List Barred) (rest : List Op) → occurrences_in (map (λ b. more_op b.part) bs ++ rest) ≡ occurrences_in rest
mores_found [] rest = refl
mores_found (b ∷ bs) rest = mores_found bs rest

abbrev FindsOpen : Tree → Type 0
FindsOpen t = (rest : List Op) → more_parts rest ≡ [] → occurrences_in (open_of t ++ rest) ≡ open_occurrences t ++ occurrences_in rest

finds_by : (t : Tree) → FindsOpen t → (rest : List Op) → more_parts rest ≡ [] → occurrences_in (steps_of t ++ rest) ≡ occurrences t ++ occurrences_in rest
finds_by t f rest e =
    ap occurrences_in (append_assoc (open_of t) (last_of t) rest) ∙ f (last_of t ++ rest) (last_no_more t rest e) ∙ ap (λ x. open_occurrences t ++ x) (last_found t rest)
    ∙ sym (append_assoc (open_occurrences t) (last_occurrence t) (occurrences_in rest)) ∙ ap (λ x. x ++ occurrences_in rest) (occurrences_are t)

times_open : (t : Tree) → is_times t ≡ true → open_occurrences t ≡ occurrences t
times_open (times t u) e = refl
times_open t e = absurd (cc)

plus_open : (t : Tree) → is_plus t ≡ true → open_occurrences t ≡ occurrences t
plus_open (plus t m u) e = refl
plus_open t e = absurd (cc)

side_finds : (is : Bool) (t : Tree) → FindsOpen t → (is ≡ true → open_occurrences t ≡ occurrences t) → (rest : List Op) → more_parts rest ≡ []
    → occurrences_in ((if is then open_of t else steps_of t) ++ rest) ≡ occurrences t ++ occurrences_in rest
side_finds true t f o rest e = f rest e ∙ ap (λ x. x ++ occurrences_in rest) (o refl)
side_finds false t f o rest e = finds_by t f rest e

two_find : (is : Bool) (t u : Tree) → FindsOpen t → FindsOpen u → (is ≡ true → open_occurrences t ≡ occurrences t) → (rest : List Op) → more_parts rest ≡ []
    → occurrences_in (((if is then open_of t else steps_of t) ++ steps_of u) ++ rest) ≡ (occurrences t ++ occurrences u) ++ occurrences_in rest
two_find is t u f g o rest e =
    ap occurrences_in (append_assoc (if is then open_of t else steps_of t) (steps_of u) rest) ∙ side_finds is t f o (steps_of u ++ rest) (no_more u rest)
    ∙ ap (λ x. occurrences t ++ x) (finds_by u g rest e) ∙ sym (append_assoc (occurrences t) (occurrences u) (occurrences_in rest))

finds : (t : Tree) → FindsOpen t
finds (zero_tree m) rest e = refl
finds (label m bs) rest e = ap₂ (λ x y. parts m x ∷ y) (mores bs rest e) (mores_found bs rest)
finds (class m) rest e = refl
finds (group opening t closing) rest e = finds_by t (finds t) rest e
finds (star t m) rest e = finds_by t (finds t) rest e
finds (weight_behind t m) rest e = finds_by t (finds t) rest e
finds (weight_before m t) rest e = finds_by t (finds t) rest e
finds (times t u) rest e = two_find (is_times t) t u (finds t) (finds u) (times_open t) rest e
finds (both t m u) rest e = two_find false t u (finds t) (finds u) (λ f. absurd (cc)) rest e
finds (shuffle t m u) rest e = two_find false t u (finds t) (finds u) (λ f. absurd (cc)) rest e
finds (plus t m u) rest e = two_find (is_plus t) t u (finds t) (finds u) (plus_open t) rest e

-- the steps of a tree have its labels and classes, in order
pub found : (t : Tree) → occurrences_in (steps_of t) ≡ occurrences t
found t = ap occurrences_in (sym (append-nil (steps_of t))) ∙ finds_by t (finds t) [] refl ∙ append-nil (occurrences t)
