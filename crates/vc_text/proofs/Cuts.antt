-- Where a text that grew may be cut off.
use Rattle.std.proofs.Common.{◌≡◌, ℕ, ◌≤◌, List, length, take, ap, sym, ◌∙◌, subst, arith, string_bytes, length-append}
use Rattle.std.specs.Prelude.{String}
use Rattle.std.specs.String.Boundary.{IsSplitPoint}
use Rattle.std.specs.Str.{IsUtf8, IsCharBoundary}
use Rattle.std.proofs.lemmas.Str.{IsUtf8-string_bytes, IsCharBoundary-from_take}
use Rattle.std.proofs.Math.Seq.{take-append_seam}
use Rattle.vc_text.specs.Growing.{IsFront}

-- its old bytes are a front of it
pub front_taken : (old new : List ℕ) (n : ℕ) → length old ≡ n → IsFront old new → take n new ≡ old
front_taken old new n e front = ap (λ k. take k new) (sym e) ∙ ap (take (length old)) front.text ∙ take-append_seam old front.more

-- it may be cut off where it ended
pub cut_point : {Z : Type 0} (old : List ℕ) (new : String Z) (n : ℕ) → IsUtf8 old → length old ≡ n → IsFront old (string_bytes new) → IsSplitPoint (string_bytes new) n
cut_point old new n utf e front =
    let within : n ≤ length (string_bytes new) = omega (arith, e, ap length front.text, length-append old front.more) in
    let b : IsCharBoundary (string_bytes new) n = IsCharBoundary-from_take (string_bytes new) n (IsUtf8-string_bytes new) within (subst IsUtf8 (sym (front_taken old (string_bytes new) n e front)) utf) in
    (within, λ p l h. b.1 l h)
