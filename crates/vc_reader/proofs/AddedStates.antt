-- States that are added.
use Rattle.std.proofs.Common.{◌≡◌, ◌+◌, ℕ, zero, suc, refl, ap, ◌∙◌, arith}
use Rattle.vc_aut.specs.Drafts.{Draft, with_state}
use Rattle.vc_model.specs.WeightSet.{WeightSet}
use Rattle.vc_reader.specs.Passes.{with_states}

module _ {V : Type 0} (R : WeightSet V) where
  -- one state more, of those that are left
  pub states_more : (n m : ℕ) (d : Draft V) → n ≡ suc m → with_states R n d ≡ with_states R m (with_state R d)
  states_more n m d e = ap (λ k. with_states R k d) e

  pub states_sets : (n : ℕ) (d : Draft V) → (with_states R n d).sets ≡ d.sets
  states_sets zero d = refl
  states_sets (suc n) d = states_sets n (with_state R d)

  pub states_count : (n : ℕ) (d : Draft V) → (with_states R n d).automaton.states ≡ d.automaton.states + n
  states_count zero d = omega arith
  states_count (suc n) d = states_count n (with_state R d) ∙ one_more d.automaton.states
    where
      one_more : (s : ℕ) → (s + 1) + n ≡ s + suc n
      one_more s = omega arith
