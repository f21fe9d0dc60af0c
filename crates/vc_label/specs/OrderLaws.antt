-- The laws of the order of labels.
use Rattle.std.proofs.Common.{◌≡◌, ℕ, List, [], ◌∷◌, refl, sym, ap, ◌∙◌, nat_cmp, Less, Equal, Greater}
use Rattle.std.specs.Prelude.{◌↔◌}
use Rattle.std.specs.Cmp.{IsTotalOrder}
use Rattle.std.specs.Cmp.Lexicographic.{slice_cmp}
use Rattle.std.specs.Ordering.{ordering_then}
use Rattle.std.specs.declared.cmp.Ordering.{Ordering}
use Rattle.std.proofs.lemmas.Cmp.{nat_list_cmp_total, lists_total, tied_itself, ranked}
use Rattle.vc_label.specs.Order.{word_order}
use Rattle.vc_model.specs.Words.{Word}

-- it is total
pub total : IsTotalOrder word_order
total = lists_total nat_list_cmp_total

equal_parts : (o p : Ordering) → ordering_then o p ≡ Equal → (o ≡ Equal) × (p ≡ Equal)
equal_parts Less p h = cc
equal_parts Equal p h = (refl, h)
equal_parts Greater p h = cc

equal_lists : {X : Type 0} (R : X → X → Ordering) → ((x y : X) → R x y ≡ Equal → x ≡ y) → (a b : List X) → slice_cmp R a b ≡ Equal → a ≡ b
equal_lists R d [] [] h = refl
equal_lists R d [] (y ∷ b) h = cc
equal_lists R d (x ∷ a) [] h = cc
equal_lists R d (x ∷ a) (y ∷ b) h =
    let p = equal_parts (R x y) (slice_cmp R a b) h in
    let e : x ≡ y = d x y p.0 in
    let f : a ≡ b = equal_lists R d a b p.1 in
    cc

equal_numbers : (x y : ℕ) → nat_cmp x y ≡ Equal → x ≡ y
equal_numbers x y h = ranked x y Equal (sym h)

-- words are equal in it exactly where they are the same
pub equal : (v w : Word) → (word_order v w ≡ Equal) ↔ (v ≡ w)
equal v w = (equal_lists (slice_cmp nat_cmp) (equal_lists nat_cmp equal_numbers) v w, λ e. ap (word_order v) (sym e) ∙ tied_itself total v)
