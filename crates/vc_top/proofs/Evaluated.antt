-- The evaluation of a word answers what its steps say.
use Rattle.std.proofs.Common.{◌≡◌, List, [], ◌∷◌, ◌++◌, suc, length, Bool, true, false, Option, None, Some, Result, Ok, Err, refl, sym, ap, ◌∙◌, inl, inr, subst}
use Rattle.std.specs.Prelude.{String, string_bytes, if◌then◌else◌}
use Rattle.std.specs.Global.{Global}
use Rattle.vc_aut.specs.Labelled.{Labelled}
use Rattle.vc_eval.specs.Cells.{IsTupleAnswer, cells, cells_refusal, refusal_of, tuple_cells, tuple_refusal}
use Rattle.vc_eval.specs.Forward.{forward_steps}
use Rattle.vc_files.specs.Files.{Bytes}
use Rattle.vc_exprio.specs.Words.{IsOverAlphabets}
use Rattle.vc_label.specs.declared.tape_set.TapeSet.{TapeSet}
use Rattle.vc_model.specs.Automata.{Automaton, coefficient}
use Rattle.vc_model.specs.Lists.{In}
use Rattle.vc_model.specs.WeightSet.{WeightSet}
use Rattle.vc_model.specs.Words.{Word}
use Rattle.vc_ring.specs.Steps.{AllFit, fits}
use Rattle.vc_ring.specs.declared.faults.MakeFault.{MakeFault}
use Rattle.vc_ring.specs.declared.faults.MakeFault.TheVariants as fault
use Rattle.vc_ring.specs.declared.faults.Overflow.{Overflow}
use Rattle.vc_ring.specs.Texts.{WeightTexts}
use Rattle.vc_top.specs.Evaluations.{AnswersSteps, AnswersWord, HasUnfitStep, IsCoefficient, is_one}
use Rattle.vc_top.specs.Outcomes.{Answer, Outcome, OrMemory}
use Rattle.vc_top.specs.Reasons.{overflow}
use Rattle.vc_top.specs.Refused.{UnlessCause, make_reason}
use Rattle.vc_top.proofs.Outcomes.{wider}

no_unfit : {V : Type 0} (R : WeightSet V) (steps : List (Overflow V)) → AllFit R steps → ¬ HasUnfitStep R steps
no_unfit R [] a u = absurd u.1
no_unfit R (s ∷ steps) a u = go (λ i. no_unfit R steps a.1 (u.0, i, u.2)) u.1
  where
    both : {b : Bool} → b ≡ true → b ≡ false → ⊥
    both h k = cc (sym h ∙ k)

    go : (In u.0 steps → ⊥) → In u.0 (s ∷ steps) → ⊥
    go f (inl e) = both a.0 (sym (ap (fits R) e) ∙ u.2)
    go f (inr i) = f i

-- what is made, and what comes after
pub cause_given : {V : Type 0} (cause : Option (MakeFault V)) (R : Outcome Bytes) (a : Answer) → cause ≡ None → OrMemory R a → OrMemory (UnlessCause cause R) a
cause_given {V} cause R a e p = wider R (UnlessCause cause R) a a (λ m. m) p (λ q. inr (none cause e, q))
  where
    none : (o : Option (MakeFault V)) → o ≡ None → (f : MakeFault V) → ¬ (o ≡ Some f)
    none o h f k = cc (sym h ∙ k)

-- a word over the labels has their tapes
pub over_tapes : (sets : List TapeSet) (w : Word) → IsOverAlphabets sets w → length w ≡ length sets
over_tapes [] [] o = refl
over_tapes [] (a ∷ w) o = absurd o
over_tapes (s ∷ sets) [] o = absurd o
over_tapes (s ∷ sets) (a ∷ w) o = ap suc (over_tapes sets w o.1)

module _ {V : Type 0} (T : WeightTexts V) where
  -- the text of a coefficient
  pub steps_answered : (A : Automaton V) (w : Word) (v : V) (text : String Global) → v ≡ coefficient T.set A w → AllFit T.set (forward_steps T.set A w)
      → string_bytes text ≡ T.canonical v ++ 10 ∷ [] → OrMemory (AnswersSteps T A w) (Ok (string_bytes text))
  steps_answered A w v text e f k = inr (inr (no_unfit T.set (forward_steps T.set A w) f, ap Ok (k ∙ ap (λ x. T.canonical x ++ 10 ∷ []) e)))

  -- the answer for a coefficient, and for why there is none
  pub coefficient_answered : (cause : Option (MakeFault V)) (A : Automaton V) (w : Word) (v : V) (text : String Global) → IsCoefficient T.set cause A w (Ok v)
      → string_bytes text ≡ T.canonical v ++ 10 ∷ [] → OrMemory (UnlessCause cause (AnswersSteps T A w)) (Ok (string_bytes text))
  coefficient_answered cause A w v text p e = cause_given cause (AnswersSteps T A w) (Ok (string_bytes text)) p.0 (steps_answered A w v text p.1.0 p.1.1 e)

  pub coefficient_refused : (cause : Option (MakeFault V)) (A : Automaton V) (w : Word) (f : MakeFault V) → IsCoefficient T.set cause A w (Err f) → OrMemory (UnlessCause cause (AnswersSteps T A w)) (Err (make_reason f))
  coefficient_refused cause A w (fault.Overflow step) p = cause_given cause (AnswersSteps T A w) (Err overflow) p.0 (inr (inl ((step, p.1.0, p.1.1), refl)))
  coefficient_refused cause A w (fault.Limit l) p = inr (inl (fault.Limit l, p, refl))
  coefficient_refused cause A w (fault.Memory e) p = inl refl

  -- that of a tuple of words
  pub tuple_coefficient : (A : Automaton V) (w : Word) (r : Result V (MakeFault V)) → IsTupleAnswer T.set A w r → IsCoefficient T.set (tuple_refusal A w) A w r
  tuple_coefficient A w (Ok v) p = p
  tuple_coefficient A w (Err (fault.Overflow step)) p = p
  tuple_coefficient A w (Err (fault.Limit l)) p = p
  tuple_coefficient A w (Err (fault.Memory e)) p = tt

  -- the rows of one tape, and of several
  pub one_answered : (a : Labelled V) (w : Word) (b : Answer) → is_one a.sets ≡ true → OrMemory (UnlessCause (cells_refusal a.automaton) (AnswersSteps T a.automaton w)) b → OrMemory (AnswersWord T a w) b
  one_answered a w b e p = subst (λ t. OrMemory (UnlessCause {V = V} (refusal_of (if t then cells a.automaton else tuple_cells a.automaton w)) (AnswersSteps T a.automaton w)) b) (sym e) p

  pub several_answered : (a : Labelled V) (w : Word) (b : Answer) → is_one a.sets ≡ false → OrMemory (UnlessCause (tuple_refusal a.automaton w) (AnswersSteps T a.automaton w)) b → OrMemory (AnswersWord T a w) b
  several_answered a w b e p = subst (λ t. OrMemory (UnlessCause {V = V} (refusal_of (if t then cells a.automaton else tuple_cells a.automaton w)) (AnswersSteps T a.automaton w)) b) (sym e) p

-- so many tapes
pub one_tape : (sets : List TapeSet) → is_one sets ≡ true → length sets ≡ 1
one_tape [] e = absurd (cc e)
one_tape (s ∷ []) e = refl
one_tape (s ∷ t ∷ sets) e = absurd (cc e)
