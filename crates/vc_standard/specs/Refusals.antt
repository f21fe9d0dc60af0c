-- Why a standard automaton is refused.
use Rattle.std.specs.Prelude.{◌≡◌, ◌⊎◌, ◌<◌, ◌+◌, ℕ, Bool, false}
use Rattle.vc_model.specs.WeightSet.{WeightSet}
use Rattle.vc_terms.specs.Terms.{Term, bound_of}
use Rattle.vc_ring.specs.Steps.{fits}
use Rattle.vc_ring.specs.declared.faults.Limit.{Limit}
use Rattle.vc_ring.specs.declared.faults.MakeFault.{MakeFault}
use Rattle.vc_ring.specs.declared.faults.MakeFault.TheVariants.{Overflow as Unfit, Limit as PastLimit, Memory}
use Rattle.vc_ring.specs.declared.faults.Measure.TheVariants.{States, Transitions}
use Rattle.vc_ring.specs.declared.faults.Overflow.{Overflow}
use Rattle.vc_standard.specs.Named.{NamesMore}
use Rattle.vc_standard.specs.Steps.{IsStep}

-- a step that is such and does not fit, or the limit of transitions where it is passed; want of memory is free
abbrev pub IsFault : {V : Type 0} → WeightSet V → (Overflow V → Type 0) → Type 0 → MakeFault V → Type 0
IsFault R P past (Unfit o) = P o × (fits R o ≡ false)
IsFault R P past (PastLimit l) = (l ≡ record { what = Transitions; most = 4000000 }) × past
IsFault R P past (Memory e) = Unit {0}

-- the limit of states
abbrev pub limit_of_states : ℕ → Limit
limit_of_states most = record { what = States; most = most }

-- the limit of states where the bound and one is past it; else a step that does not fit, or the limit of transitions where more triples are named at some depth; want of memory is free
abbrev pub IsRefusal : {V : Type 0} → WeightSet V → (V → V → Bool) → ℕ → Term V → MakeFault V → Type 0
IsRefusal R equal limit t (Unfit o) = IsStep R equal t o × (fits R o ≡ false)
IsRefusal R equal limit t (PastLimit l) =
    ((l ≡ limit_of_states limit) × (limit < bound_of t + 1)) ⊎ ((l ≡ record { what = Transitions; most = 4000000 }) × NamesMore R equal 4000000 t)
IsRefusal R equal limit t (Memory e) = Unit {0}
