-- The weights of states, after one is added to and after a state more.
use Rattle.std.proofs.Common.{◌≡◌, ◌≢◌, refl, ℕ, zero, suc, ◌<◌, Bool, true, false, List, [], ◌∷◌, ◌++◌, length, cond, arith, get_or-set_same, get_or-set_other}
use Rattle.std.specs.Prelude.{slice_set, slice_index_or, ◌==◌}
use Rattle.std.proofs.lemmas.Grind.{common_steps}

module _ {V : Type 0} (plus : V → V → V) where
  by_place : (xs : List V) (s p : ℕ) (w d : V) → s < length xs → (b : Bool) → (p == s) ≡ b
      → slice_index_or (slice_set xs s (plus (slice_index_or xs s d) w)) p d ≡ cond b (plus (slice_index_or xs p d) w) (slice_index_or xs p d)
  by_place xs s p w d h true e = let k : p ≡ s = grind (arith, common_steps) in rw k (get_or-set_same xs s (plus (slice_index_or xs s d) w) d h)
  by_place xs s p w d h false e = let k : p ≢ s = grind (arith, common_steps) in rw get_or-set_other refl

  -- at a place the weight is the sum, and at the others it is as before
  pub weight-added : (xs : List V) (s p : ℕ) (w d : V) → s < length xs
      → slice_index_or (slice_set xs s (plus (slice_index_or xs s d) w)) p d ≡ cond (p == s) (plus (slice_index_or xs p d) w) (slice_index_or xs p d)
  weight-added xs s p w d h = by_place xs s p w d h (p == s) refl

pub weight-more : {V : Type 0} (xs : List V) (p : ℕ) (d : V) → slice_index_or (xs ++ d ∷ []) p d ≡ slice_index_or xs p d
weight-more [] zero d = refl
weight-more [] (suc p) d = refl
weight-more (x ∷ xs) zero d = refl
weight-more (x ∷ xs) (suc p) d = weight-more xs p d
