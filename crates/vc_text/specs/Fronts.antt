-- The steps of a text that grows.
use Rattle.std.proofs.Common.{◌≡◌, ℕ, Bool, true, false, List, [], ◌++◌, ap, sym, ◌∙◌, append_assoc, append-nil}
use Rattle.std.specs.Prelude.{if◌then◌else◌}
use Rattle.vc_text.specs.Growing.{IsFront}

pub front_same : (s t : List ℕ) → t ≡ s → IsFront s t
front_same s t e = record { more = []; text = e ∙ sym (append-nil s) }

pub front_twice : (s t u : List ℕ) → IsFront s t → IsFront t u → IsFront s u
front_twice s t u first second = record {
  more = first.more ++ second.more;
  text = second.text ∙ ap (λ x. x ++ second.more) first.text ∙ append_assoc s first.more second.more;
}

pub front_of : (s t a : List ℕ) → t ≡ s ++ a → IsFront s t
front_of s t a e = record { more = a; text = e }

-- what a call answered that appends a text or nothing
pub front_if : (s t more : List ℕ) (b : Bool) → t ≡ (if b then s ++ more else s) → IsFront s t
front_if s t more true e = front_of s t more e
front_if s t more false e = front_same s t e

-- a text that grew, and then another step
pub front_then : (s a t u : List ℕ) → t ≡ s ++ a → IsFront t u → IsFront s u
front_then s a t u e second = front_twice s t u (front_of s t a e) second

-- two texts, one after another
pub chain : (s t u a b : List ℕ) → t ≡ s ++ a → u ≡ t ++ b → u ≡ s ++ (a ++ b)
chain s t u a b first second = second ∙ ap (λ x. x ++ b) first ∙ append_assoc s a b
