-- How the list of faults grows, by one call and by several.
use Rattle.std.proofs.Common.{◌≡◌, ◌⊎◌, ◌≤◌, List, [], ◌∷◌, ◌++◌, map, length, sym, ap, ◌∙◌, inl, inr, length-append, append_assoc, append-nil, arith}
use Rattle.std.proofs.lemmas.List.{map-append}
use Rattle.vc_model.specs.Lists.{In}
use Rattle.vc_model.specs.Members.{In-append_cases, In-append_left, In-append_right}
use Rattle.vc_files.specs.Files.{Bytes, Grows, Added}

-- one more fault
pub one_added : {X : Type 0} (f : X → Bytes) (old new : List X) (x : X) (name : Bytes) → new ≡ old ++ x ∷ [] → f x ≡ name → Grows (name ∷ []) (map f old) (map f new)
one_added f old new x name e q = record { added = name ∷ []; at_end = ap (map f) e ∙ map-append f old (x ∷ []) ∙ ap (λ z. map f old ++ z ∷ []) q; each = λ n i. i }

-- no faults were added
pub grows_by_none : (names old : List Bytes) → Grows names old old
grows_by_none names old = record { added = []; at_end = sym (append-nil old); each = λ name i. absurd i }

-- the faults of two calls
pub grows_in_turn : (first second old middle new : List Bytes) → Grows first old middle → Grows second middle new → Grows (first ++ second) old new
grows_in_turn first second old middle new p q = record {
  added = p.added ++ q.added;
  at_end = q.at_end ∙ ap (λ xs. xs ++ q.added) p.at_end ∙ append_assoc old p.added q.added;
  each = λ x i. elim (In-append_cases x p.added q.added i) [ inl j ↦ In-append_left x first second (p.each x j) | inr j ↦ In-append_right x first second (q.each x j) ];
}

-- the faults of calls are among more names
pub grows_among : (names wider old new : List Bytes) → ((name : Bytes) → In name names → In name wider) → Grows names old new → Grows wider old new
grows_among names wider old new more p = record { added = p.added; at_end = p.at_end; each = λ x i. more x (p.each x i) }

-- the list never gets shorter
pub grows_longer : (names old new : List Bytes) → Grows names old new → length old ≤ length new
grows_longer names old new p = let e = ap length p.at_end ∙ length-append old p.added in omega (arith, e)

-- the list is as it was, or a name was added
pub grows_or_not : (names old new : List Bytes) → Grows names old new → (new ≡ old) ⊎ Added old new
grows_or_not names old new p = at p.added p.at_end
  where
    at : (added : List Bytes) → new ≡ old ++ added → (new ≡ old) ⊎ Added old new
    at [] e = inl (e ∙ append-nil old)
    at (x ∷ added) e = let l = ap length e ∙ length-append old (x ∷ added) in inr (omega (arith, l))
