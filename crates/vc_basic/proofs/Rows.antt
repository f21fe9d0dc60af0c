-- Loops over a row.
use Rattle.std.proofs.Common.{◌≡◌, ℕ, ◌+◌, ◌<◌, ◌≤◌, suc, List, ◌∷◌, length, drop, get_or, arith, ap, sym, ◌∙◌, ℤ, pos, cond, true, false, Bool, unsigned_abs, int_div, map, take, set, ◌++◌, to_z, of_z, FitsSigned}
use Rattle.std.proofs.lemmas.Int.{to_z-of_z}
use Rattle.std.proofs.lemmas.List.{drop_all, get_or_default}
use Rattle.std.proofs.lemmas.List.Edits.{map_over_more}
use mir.Syntax.{w128}
use Rattle.std.proofs.Math.Seq.{drop-cons}
use Rattle.std.specs.Int.{int_signum}
use Rattle.std.specs.Ordering.{int_eq}
use Rattle.vc_num.specs.Divisors.{gcd_of}
use Rattle.vc_num.specs.Divisibility.{gcd_of-assoc}
use Rattle.vc_basic.specs.Tropical.{lesser}
use Rattle.vc_basic.specs.TropicalLaws.{lesser-assoc, lesser-infinite}
use Rattle.vc_basic.specs.TropicalSplits.{least_entry}
use Rattle.vc_basic.specs.WholeSplits.{common_divisor, leading_sign}
use Rattle.vc_basic.specs.declared.tropical.NminValue.{NminValue}

next : {X : Type 0} (row : List X) (i : ℕ) (d : X) → i < length row → drop i row ≡ get_or row i d ∷ drop (i + 1) row
next row i d l = let e : i + 1 ≡ suc i = omega arith in rw e (drop-cons row i d l)

pub least_more : (l x : NminValue) (row : List NminValue) (i : ℕ) (whole : NminValue) → i < length row → x ≡ get_or row i x
    → lesser l (least_entry (drop i row)) ≡ whole → lesser (lesser l x) (least_entry (drop (i + 1) row)) ≡ whole
least_more l x row i whole h e is =
    lesser-assoc l x (least_entry (drop (i + 1) row))
    ∙ ap (λ y. lesser l (lesser y (least_entry (drop (i + 1) row)))) e
    ∙ ap (λ r. lesser l (least_entry r)) (sym (next row i x h))
    ∙ is

pub least_all : (l : NminValue) (row : List NminValue) (i : ℕ) (whole : NminValue) → length row ≤ i → lesser l (least_entry (drop i row)) ≡ whole → l ≡ whole
least_all l row i whole h is = sym (ap (λ r. lesser l (least_entry r)) (drop_all i row h) ∙ lesser-infinite l) ∙ is

pub divisor_more : (n : ℕ) (x : ℤ) (row : List ℤ) (i whole : ℕ) → i < length row → x ≡ get_or row i x
    → gcd_of n (common_divisor (drop i row)) ≡ whole → gcd_of (gcd_of n (unsigned_abs x)) (common_divisor (drop (i + 1) row)) ≡ whole
divisor_more n x row i whole h e is =
    gcd_of-assoc n (unsigned_abs x) (common_divisor (drop (i + 1) row))
    ∙ ap (λ y. gcd_of n (gcd_of (unsigned_abs y) (common_divisor (drop (i + 1) row)))) e
    ∙ ap (λ r. gcd_of n (common_divisor r)) (sym (next row i x h))
    ∙ is

pub divisor_all : (n : ℕ) (row : List ℤ) (i whole : ℕ) → length row ≤ i → gcd_of n (common_divisor (drop i row)) ≡ whole → n ≡ whole
divisor_all n row i whole h is = sym (ap (λ r. gcd_of n (common_divisor r)) (drop_all i row h)) ∙ is

sign_step : (b : Bool) (z : ℤ) (rest : List ℤ) (whole : ℤ) → int_eq z (pos 0) ≡ b → leading_sign (z ∷ rest) ≡ whole → cond b (leading_sign rest) (int_signum z) ≡ whole
sign_step b z rest whole e is = ap (λ t. cond t (leading_sign rest) (int_signum z)) (sym e) ∙ is

-- an entry that is zero leaves the sign to the rest
pub sign_more : (x : ℤ) (row : List ℤ) (i : ℕ) (whole : ℤ) → i < length row → x ≡ get_or row i x → int_eq x (pos 0) ≡ true
    → leading_sign (drop i row) ≡ whole → leading_sign (drop (i + 1) row) ≡ whole
sign_more x row i whole h e t is =
    sign_step true x (drop (i + 1) row) whole t
    (ap (λ y. leading_sign (y ∷ drop (i + 1) row)) e ∙ ap leading_sign (sym (next row i x h)) ∙ is)

-- any other entry tells it
pub sign_here : (x : ℤ) (row : List ℤ) (i : ℕ) (whole : ℤ) → i < length row → x ≡ get_or row i x → int_eq x (pos 0) ≡ false
    → leading_sign (drop i row) ≡ whole → int_signum x ≡ whole
sign_here x row i whole h e t is =
    sign_step false x (drop (i + 1) row) whole t
    (ap (λ y. leading_sign (y ∷ drop (i + 1) row)) e ∙ ap leading_sign (sym (next row i x h)) ∙ is)

pub sign_none : (row : List ℤ) (i : ℕ) (whole : ℤ) → length row ≤ i → leading_sign (drop i row) ≡ whole → pos 0 ≡ whole
sign_none row i whole h is = sym (ap leading_sign (drop_all i row h)) ∙ is

-- an entry is written over in place
pub written_over : {X : Type 0} (f : X → X) (xs ys : List X) (i : ℕ) (d v : X) → i < length xs → length ys ≡ length xs → ys ≡ map f (take i xs) ++ drop i xs
    → v ≡ f (get_or ys i d) → set ys i v ≡ map f (take (i + 1) xs) ++ drop (i + 1) xs
written_over f xs ys i d v h l is e =
    let within : i < length ys = omega arith in
    rw e (map_over_more f xs ys i (get_or ys i d) h is (get_or_default ys i d (get_or ys i d) within))

-- a quotient as it is computed
pub quotient_read : (q z f : ℤ) → FitsSigned w128 q → FitsSigned w128 z → q ≡ int_div (to_z w128 (of_z w128 z)) f → to_z w128 (of_z w128 q) ≡ int_div z f
quotient_read q z f g h e = to_z-of_z w128 q g ∙ e ∙ ap (λ y. int_div y f) (to_z-of_z w128 z h)

pub divisor_step : (n r u : ℕ) (d : ℤ) (row : List ℤ) (i whole : ℕ) → i < length row → FitsSigned w128 (get_or row i d)
    → r ≡ gcd_of n u → u ≡ unsigned_abs (to_z w128 (of_z w128 (get_or row i d)))
    → gcd_of n (common_divisor (drop i row)) ≡ whole → gcd_of r (common_divisor (drop (i + 1) row)) ≡ whole
divisor_step n r u d row i whole h f e k is =
    let size : u ≡ unsigned_abs (get_or row i d) = k ∙ ap unsigned_abs (to_z-of_z w128 (get_or row i d) f) in
    let same : r ≡ gcd_of n (unsigned_abs (get_or row i d)) = e ∙ ap (gcd_of n) size in
    ap (λ m. gcd_of m (common_divisor (drop (i + 1) row))) same
    ∙ divisor_more n (get_or row i d) row i whole h (get_or_default row i d (get_or row i d) h) is
