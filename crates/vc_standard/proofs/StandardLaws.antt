-- What a standard automaton of a store is.
use Rattle.std.proofs.Common.{◌≡◌, ◌<◌, ◌≤◌, ◌+◌, ◌-◌, ◌^◌, min, arith, ℕ, List, Bool, true, false, length, ap, sym, ◌∙◌, inr}
use Rattle.std.proofs.lemmas.Bool.{false≢true}
use Rattle.vc_label.specs.Sets.{IsOverSets}
use Rattle.vc_label.specs.declared.tape_set.TapeSet.{TapeSet}
use Rattle.vc_model.specs.WordLaws.{is_empty-size}
use Rattle.vc_model.specs.WeightSet.{WeightSet}
use Rattle.vc_model.specs.Words.{Word, is_empty}
use Rattle.vc_ring.specs.declared.faults.MakeFault.{MakeFault}
use Rattle.vc_ring.specs.declared.faults.MakeFault.TheVariants.{Overflow as Unfit, Limit as PastLimit, Memory}
use Rattle.vc_ring.specs.declared.faults.Measure.{Measure}
use Rattle.vc_ring.specs.declared.faults.Measure.TheVariants.{States}
use Rattle.vc_terms.specs.Expansions.{AtomsAre, AllAtomsAre, JoinsLetters, AllJoinLetters}
use Rattle.vc_terms.specs.Terms.{Term, Terms, NoTerms, MoreTerms, Zero, One, Atom, Sum, Product, Star, Weight, Both, Shuffle, HasTapes, HaveTapes}
use Rattle.vc_standard.specs.Named.{NamesMore}
use Rattle.vc_standard.specs.Refusals.{IsFault, IsRefusal, limit_of_states}
use Rattle.vc_standard.specs.Steps.{IsStep}

module _ {V : Type 0} (sets : List TapeSet) (tapes : (w : Word) → IsOverSets sets w → length w ≡ length sets) where
  mutual
    -- a tree over the sets, without empty labels, has their tapes
    pub tapes_of : (t : Term V) → AtomsAre (IsOverSets sets) t → AtomsAre (λ a. is_empty a ≡ false) t → JoinsLetters (length sets) t → HasTapes (length sets) t
    tapes_of Zero h f j = tt
    tapes_of One h f j = tt
    tapes_of (Atom a) h f j = (tapes a h, λ e. false≢true (sym f ∙ is_empty-size a e))
    tapes_of (Sum ts) h f j = tapes_of_all ts h f j
    tapes_of (Product ts) h f j = tapes_of_all ts h f j
    tapes_of (Star t) h f j = tapes_of t h f j
    tapes_of (Weight k t) h f j = tapes_of t h f j
    tapes_of (Both t u) h f j = (tapes_of t h.0 f.0 j.3, tapes_of u h.1 f.1 j.4)
    tapes_of (Shuffle t u) h f j = (j.0, tapes_of t h.0 f.0 j.3, tapes_of u h.1 f.1 j.4)

    tapes_of_all : (ts : Terms V) → AllAtomsAre (IsOverSets sets) ts → AllAtomsAre (λ a. is_empty a ≡ false) ts → AllJoinLetters (length sets) ts → HaveTapes (length sets) ts
    tapes_of_all NoTerms h f j = tt
    tapes_of_all (MoreTerms t ts) h f j = (tapes_of t h.0 f.0 j.0, tapes_of_all ts h.1 f.1 j.1)

module _ {V : Type 0} (R : WeightSet V) (equal : V → V → Bool) (limit : ℕ) (t : Term V) where
  -- a fault of what is made is a refusal, and not the limit of states
  pub made_refusal : (f : MakeFault V) → IsFault R (IsStep R equal t) (NamesMore R equal 4000000 t) f → IsRefusal R equal limit t f
  made_refusal (Unfit o) h = h
  made_refusal (PastLimit l) h = inr h
  made_refusal (Memory e) h = tt

  states_or_not : Measure → Bool
  states_or_not States = true
  states_or_not m = false

  what_of : MakeFault V → Bool
  what_of (PastLimit l) = states_or_not l.what
  what_of f = false

  pub not_states : (f : MakeFault V) → IsFault R (IsStep R equal t) (NamesMore R equal 4000000 t) f → f ≡ PastLimit (limit_of_states limit) → ⊥
  unfolding what_of states_or_not
  not_states (Unfit o) h e = false≢true (ap what_of e)
  not_states (PastLimit l) h e = false≢true (ap (λ k. states_or_not k.what) (sym h.0) ∙ ap what_of e)
  not_states (Memory x) h e = false≢true (ap what_of e)

-- a number that is cut at 2^64 - 1 and is below a small limit is itself below it
pub below_limit : (n limit : ℕ) → limit ≤ 1000000 → min n (2 ^ 64 - 1) < limit → n < limit
below_limit n limit few h = omega (arith, few, h)

-- one that is not below it is not below it before the cut
pub past_limit : (n limit : ℕ) → limit ≤ min n (2 ^ 64 - 1) → limit < n + 1
past_limit n limit h = omega (arith, h)
