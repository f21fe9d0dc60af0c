-- Marks of states that are set one by one.
use Rattle.std.proofs.Common.{◌≡◌, ℕ, ◌<◌, ◌+◌, List, [], ◌∷◌, Bool, true, false, cond, get_or, length, set, refl, sym, ap, inl, inr, ◌⊎◌, zero, suc, arith}
use Rattle.std.proofs.lemmas.Bool.{false≢true}

-- the state is marked
abbrev pub is_marked : List Bool → ℕ → Bool
is_marked marks q = get_or marks q false

-- how many states are not marked
abbrev pub unmarked : List Bool → ℕ
unmarked [] = 0
unmarked (b ∷ marks) = cond b 0 1 + unmarked marks

pub marked_kept : (marks : List Bool) (i q : ℕ) → is_marked marks q ≡ true → is_marked (set marks i true) q ≡ true
marked_kept [] i q h = h
marked_kept (b ∷ bs) zero zero h = refl
marked_kept (b ∷ bs) zero (suc q) h = h
marked_kept (b ∷ bs) (suc i) zero h = h
marked_kept (b ∷ bs) (suc i) (suc q) h = marked_kept bs i q h

pub marked_cases : (marks : List Bool) (i q : ℕ) → is_marked (set marks i true) q ≡ true → (q ≡ i) ⊎ (is_marked marks q ≡ true)
marked_cases [] i q h = inr h
marked_cases (b ∷ bs) zero zero h = inl refl
marked_cases (b ∷ bs) zero (suc q) h = inr h
marked_cases (b ∷ bs) (suc i) zero h = inr h
marked_cases (b ∷ bs) (suc i) (suc q) h = elim (marked_cases bs i q h) [
  | inl e ↦ inl (ap suc e)
  | inr k ↦ inr k
]

pub marked_here : (marks : List Bool) (i : ℕ) → i < length marks → is_marked (set marks i true) i ≡ true
marked_here [] i l = absurd (omega arith)
marked_here (b ∷ bs) zero l = refl
marked_here (b ∷ bs) (suc i) l = marked_here bs i (omega arith)

-- a state that is marked has a place
pub marked_within : (marks : List Bool) (q : ℕ) → is_marked marks q ≡ true → q < length marks
marked_within [] q h = absurd (false≢true h)
marked_within (b ∷ bs) zero h = omega arith
marked_within (b ∷ bs) (suc q) h = let l : q < length bs = marked_within bs q h in omega arith

-- one state less is not marked
pub unmarked_less : (marks : List Bool) (i : ℕ) → i < length marks → is_marked marks i ≡ false → unmarked (set marks i true) + 1 ≡ unmarked marks
unmarked_less [] i l h = absurd (omega arith)
unmarked_less (true ∷ bs) zero l h = absurd (false≢true (sym h))
unmarked_less (false ∷ bs) zero l h = omega arith
unmarked_less (b ∷ bs) (suc i) l h = let ih : unmarked (set bs i true) + 1 ≡ unmarked bs = unmarked_less bs i (omega arith) h in omega arith
