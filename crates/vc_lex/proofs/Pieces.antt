-- Pieces one behind another: how far they go, and what they are.
use Rattle.std.proofs.Common.{◌≡◌, ℕ, zero, suc, ◌+◌, ◌-◌, ◌<◌, ◌≤◌, List, length, take, drop, Option, Some, None, refl, ap, sym, ◌∙◌, arith, length-drop}
use Rattle.std.specs.Option.{option_map_or}
use Rattle.std.proofs.lemmas.Grind.{common_steps}
use Rattle.vc_lex.specs.Fronts.{front, front_by}

-- a piece has at least one byte, and lies within its text
pub record Shrinks (width : List ℕ → Option ℕ) : Type 0 where
  pub some : (s : List ℕ) (w : ℕ) → width s ≡ Some w → 0 < w
  pub within : (s : List ℕ) (w : ℕ) → width s ≡ Some w → w ≤ length s

-- where no piece begins, there are none at the front
front_by-none : (width : List ℕ → Option ℕ) (n : ℕ) (s : List ℕ) → width s ≡ None → front_by width n s ≡ 0
front_by-none width zero s e = refl
front_by-none width (suc n) s e = ap (λ o. option_map_or (λ w. w + front_by width n (drop w s)) o 0) e

pub front-none : (width : List ℕ → Option ℕ) (s : List ℕ) → width s ≡ None → front width s ≡ 0
front-none width s e = front_by-none width (length s) s e

-- one piece and the rest, up to two limits
same_more : (width : List ℕ → Option ℕ) (n m : ℕ) (s : List ℕ)
    → ((w : ℕ) → length (drop w s) ≤ n → length (drop w s) ≤ m → front_by width n (drop w s) ≡ front_by width m (drop w s))
    → Shrinks width → length s ≤ suc n → length s ≤ suc m → (o : Option ℕ) → width s ≡ o
    → option_map_or (λ w. w + front_by width n (drop w s)) o 0 ≡ option_map_or (λ w. w + front_by width m (drop w s)) o 0
same_more width n m s same shrinks below_n below_m None e = refl
same_more width n m s same shrinks below_n below_m (Some w) e =
    let some = shrinks.some s w e in
    ap (λ k. w + k) (same w (omega (arith, length-drop w s)) (omega (arith, length-drop w s)))

pub none_of_empty : (width : List ℕ → Option ℕ) (s : List ℕ) → Shrinks width → length s ≤ 0 → (o : Option ℕ) → width s ≡ o → o ≡ None
none_of_empty width s shrinks empty None e = refl
none_of_empty width s shrinks empty (Some w) e =
    let some = shrinks.some s w e in
    let within = shrinks.within s w e in
    absurd (omega arith)

-- limits at the length or above it give the same
front_by-enough : (width : List ℕ → Option ℕ) (n m : ℕ) (s : List ℕ) → Shrinks width → length s ≤ n → length s ≤ m → front_by width n s ≡ front_by width m s
front_by-enough width zero m s shrinks below_n below_m = sym (front_by-none width m s (none_of_empty width s shrinks below_n (width s) refl))
front_by-enough width (suc n) zero s shrinks below_n below_m = front_by-none width (suc n) s (none_of_empty width s shrinks below_m (width s) refl)
front_by-enough width (suc n) (suc m) s shrinks below_n below_m =
    same_more width n m s (λ w. front_by-enough width n m (drop w s) shrinks) shrinks below_n below_m (width s) refl

-- a piece, and those behind it
pub front-some : (width : List ℕ → Option ℕ) (s : List ℕ) (w : ℕ) → Shrinks width → width s ≡ Some w → front width s ≡ w + front width (drop w s)
front-some width s w shrinks e =
    front_by-enough width (length s) (suc (length s)) s shrinks (omega arith) (omega arith)
    ∙ ap (λ o. option_map_or (λ v. v + front_by width (length s) (drop v s)) o 0) e
    ∙ ap (λ k. w + k) (front_by-enough width (length s) (length (drop w s)) (drop w s) shrinks (omega (arith, length-drop w s)) (omega arith))

within_more : (width : List ℕ → Option ℕ) (n : ℕ) (s : List ℕ) → ((w : ℕ) → front_by width n (drop w s) ≤ length (drop w s))
    → Shrinks width → (o : Option ℕ) → width s ≡ o → option_map_or (λ w. w + front_by width n (drop w s)) o 0 ≤ length s
within_more width n s below shrinks None e = omega arith
within_more width n s below shrinks (Some w) e =
    let within = shrinks.within s w e in
    omega (arith, length-drop w s, below w)

front_by-le : (width : List ℕ → Option ℕ) (n : ℕ) (s : List ℕ) → Shrinks width → front_by width n s ≤ length s
front_by-le width zero s shrinks = omega arith
front_by-le width (suc n) s shrinks = within_more width n s (λ w. front_by-le width n (drop w s) shrinks) shrinks (width s) refl

-- the pieces at the front lie within the text
pub front-le : (width : List ℕ → Option ℕ) (s : List ℕ) → Shrinks width → front width s ≤ length s
front-le width s shrinks = front_by-le width (length s) s shrinks

pub drop_twice : (i j : ℕ) (s : List ℕ) → drop j (drop i s) ≡ drop (i + j) s
drop_twice i j s = grind (arith, common_steps)

-- a loop over the pieces: one more
pub end_within : (width : List ℕ → Option ℕ) (s : List ℕ) (end w : ℕ) → Shrinks width → end ≤ length s → width (drop end s) ≡ Some w → end + w ≤ length s
end_within width s end w shrinks below e =
    let within = shrinks.within (drop end s) w e in
    omega (arith, length-drop end s)

pub end_more : (width : List ℕ → Option ℕ) (s : List ℕ) (end w total : ℕ) → Shrinks width → width (drop end s) ≡ Some w
    → end + front width (drop end s) ≡ total → end + w + front width (drop (end + w) s) ≡ total
end_more width s end w total shrinks e now =
    let next : front width (drop end s) ≡ w + front width (drop w (drop end s)) = front-some width (drop end s) w shrinks e in
    let same : front width (drop w (drop end s)) ≡ front width (drop (end + w) s) = ap (front width) (drop_twice end w s) in
    omega arith

-- and the last
pub end_all : (width : List ℕ → Option ℕ) (s : List ℕ) (end total : ℕ) → width (drop end s) ≡ None
    → end + front width (drop end s) ≡ total → end ≡ total
end_all width s end total e now =
    let none : front width (drop end s) ≡ 0 = front-none width (drop end s) e in
    omega arith

rest_whole : (s : List ℕ) (end : ℕ) → take (length s - end) (drop end s) ≡ drop end s
rest_whole s end = grind (arith, common_steps)

-- what a call on the rest of a text answered
pub piece_at : (width : List ℕ → Option ℕ) (s : List ℕ) (end : ℕ) (answer o : Option ℕ) → answer ≡ width (take (length s - end) (drop end s)) → answer ≡ o → width (drop end s) ≡ o
piece_at width s end answer o e f = sym (ap width (rest_whole s end)) ∙ sym e ∙ f
