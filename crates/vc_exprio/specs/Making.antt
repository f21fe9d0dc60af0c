-- How an expression is made by the steps of its tree: each step is one call of the store on what the last calls made.
use Rattle.std.specs.Prelude.{ℕ, ◌-◌, Bool, nat_le, List, [], ◌∷◌, ◌++◌, map, take, drop, length, Result, Ok, Err, if◌then◌else◌}
use Rattle.vc_lex.specs.Marks.{Mark}
use Rattle.vc_lex.specs.Parts.{tape_of}
use Rattle.vc_model.specs.WeightSet.{WeightSet}
use Rattle.vc_terms.specs.Identities.{atom_of}
use Rattle.vc_terms.specs.Terms.{Term, Zero}
use Rattle.vc_exprio.specs.Building.{BuildRefusal, atoms_of, sum_call, product_call, weight_call, star_call, both_call, shuffle_call}
use Rattle.vc_exprio.specs.Meaning.{Occurrence, parts, letters}
use Rattle.vc_exprio.specs.Steps.{Op, zero_op, part_op, more_op, class_op, group_op, star_op, weight_op, product_op, and_op, shuffle_op, sum_op}

-- the further parts of a label, in front of other steps
abbrev pub more_parts : List Op → List Mark
more_parts [] = []
more_parts (more_op m ∷ ops) = m ∷ more_parts ops
more_parts (op ∷ ops) = []

-- the labels and classes of steps, in order
abbrev pub occurrences_in : List Op → List Occurrence
occurrences_in [] = []
occurrences_in (part_op m ∷ ops) = parts m (more_parts ops) ∷ occurrences_in ops
occurrences_in (class_op m ∷ ops) = letters m ∷ occurrences_in ops
occurrences_in (op ∷ ops) = occurrences_in ops

-- ---- the calls

-- a call with one operand, with two
abbrev pub of_one : {V : Type 0} → (Term V → Result (Term V) (BuildRefusal V)) → List (Term V) → Result (Term V) (BuildRefusal V)
of_one call [] = Ok Zero
of_one call (t ∷ ts) = call t

abbrev pub of_two : {V : Type 0} → (Term V → Term V → Result (Term V) (BuildRefusal V)) → List (Term V) → Result (Term V) (BuildRefusal V)
of_two call [] = Ok Zero
of_two call (t ∷ []) = Ok Zero
of_two call (t ∷ u ∷ ts) = call t u

-- what steps come to: expressions, in order; the first refusal; or a call has too few operands
pub data Progress (V : Type 0) : Type 0 where
  made : List (Term V) → Progress V
  refused : BuildRefusal V → Progress V
  lacking : Progress V

-- and then more steps
abbrev pub go_on : {V : Type 0} → (List (Term V) → Progress V) → Progress V → Progress V
go_on next (made ts) = next ts
go_on next (refused fault) = refused fault
go_on next lacking = lacking

-- what a call answers, behind what was made before
abbrev pub put_behind : {V : Type 0} → List (Term V) → Result (Term V) (BuildRefusal V) → Progress V
put_behind ts (Ok u) = made (ts ++ u ∷ [])
put_behind ts (Err fault) = refused fault

-- the last n give way to what the call makes of them
abbrev pub replaced : {V : Type 0} → ℕ → (List (Term V) → Result (Term V) (BuildRefusal V)) → List (Term V) → Progress V
replaced n call ts = if nat_le n (length ts) then put_behind (take (length ts - n) ts) (call (drop (length ts - n) ts)) else lacking

module _ {V : Type 0} (R : WeightSet V) (same : V → V → Bool) (value : Mark → V) (class_letters : Mark → List ℕ) where
  -- what is made after one step more, with these steps after it, or why its call refuses
  abbrev pub made_after : List (Term V) → Op → List Op → Progress V
  made_after ts zero_op ops = made (ts ++ Zero ∷ [])
  made_after ts (part_op m) ops = made (ts ++ atom_of (map tape_of (m ∷ more_parts ops)) ∷ [])
  made_after ts (more_op m) ops = made ts
  made_after ts (class_op m) ops = put_behind ts (sum_call R same (atoms_of (class_letters m)))
  made_after ts group_op ops = made ts
  made_after ts star_op ops = replaced 1 (of_one (star_call R same)) ts
  made_after ts (weight_op m) ops = replaced 1 (of_one (weight_call R same (value m))) ts
  made_after ts (product_op n) ops = replaced n (product_call R same) ts
  made_after ts and_op ops = replaced 2 (of_two (both_call R same)) ts
  made_after ts shuffle_op ops = replaced 2 (of_two (shuffle_call R same)) ts
  made_after ts (sum_op n) ops = replaced n (sum_call R same) ts

  -- after these steps, up to the first call that refuses
  abbrev pub made_by : List (Term V) → List Op → Progress V
  made_by ts [] = made ts
  made_by ts (op ∷ ops) = go_on (λ us. made_by us ops) (made_after ts op ops)
