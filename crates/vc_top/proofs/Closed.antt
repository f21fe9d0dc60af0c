-- What the removal of empty labels answers, and the commands that begin with it.
use Rattle.std.proofs.Common.{◌≡◌, Bool, true, false, length, map, Result, Ok, Err, refl, sym, ap, ◌∙◌, subst, inl, inr, ◌⊎◌}
use Rattle.vc_aut.specs.Labelled.{Labelled}
use Rattle.vc_aut.specs.Stored.{transition_of}
use Rattle.vc_closure.specs.Refused.{IsAllowed, IsCause, IsPastPairs, IsPastTriples}
use Rattle.vc_closure.specs.declared.fault.ProperFault.{ProperFault}
use Rattle.vc_closure.specs.declared.fault.ProperFault.TheVariants.{Circuit, Overflow, Limit, Memory}
use Rattle.vc_files.specs.Files.{Bytes}
use Rattle.vc_model.specs.Automata.{IsAutomaton, IsSound, coefficient}
use Rattle.vc_model.specs.CircuitLaws.{NoEmptyCircuit-from, NoEmptyCircuit-not}
use Rattle.vc_model.specs.WeightSet.{Absorbs, WeightSet}
use Rattle.vc_model.specs.Words.{Word}
use Rattle.vc_ring.specs.Texts.{WeightTexts}
use Rattle.vc_ring.specs.declared.faults.Limit.{Limit as Most}
use Rattle.vc_top.specs.Evaluations.{AnswersEvalOver, AnswersValue, AnswersWord, ReadsWithProper, ReadsWord}
use Rattle.vc_top.specs.Inputs.{HasRefusedCircuit}
use Rattle.vc_top.specs.Operations.{IsProperOf, IsUnclosed, WithProper}
use Rattle.vc_top.specs.Outcomes.{Answer, Gives, Outcome, OrMemory}
use Rattle.vc_top.specs.Reasons.{Reason, empty_circuit, limit, no_memory, overflow}
use Rattle.vc_top.specs.Refused.{closing_reason}
use Rattle.vc_top.specs.declared.refusal.Bound.TheVariants.{Of}
use Rattle.vc_top.proofs.Made.{is_caused, is_made, is_not_made, made_given, made_refused}
use Rattle.vc_top.proofs.Outcomes.{then_given, then_refused}

-- where one absorbs, or no circuit is empty, none is refused
module _ {V : Type 0} (R : WeightSet V) (is_absorbing : Bool) (a : Labelled V) (valid : IsAutomaton R (length a.sets) a.automaton) where
  pub none_refused : IsAllowed is_absorbing (length a.sets) a.automaton → ¬ HasRefusedCircuit is_absorbing a
  none_refused (inl e) c = cc (sym e ∙ c.0)
  none_refused (inr n) c = NoEmptyCircuit-not (length a.sets) a.automaton valid.label n c.1 c.2 c.3

  pub sound_where_none : (is_absorbing ≡ true → Absorbs R) → ¬ HasRefusedCircuit is_absorbing a → IsSound R (length a.sets) a.automaton
  sound_where_none absorbs n = go is_absorbing refl
    where
      go : (b : Bool) → is_absorbing ≡ b → IsSound R (length a.sets) a.automaton
      go true e = inl (absorbs e)
      go false e = inr (NoEmptyCircuit-from (length a.sets) a.automaton valid.label (λ p ts c. n (e, p, ts, c)))

module _ {V : Type 0} (T : WeightTexts V) (is_absorbing : Bool) (a : Labelled V) where
  abbrev Refused : Type 0
  Refused = HasRefusedCircuit is_absorbing a

  pub proper_made : (p : Labelled V) → ¬ HasRefusedCircuit is_absorbing a → IsProperOf T a p → OrMemory (WithProper T is_absorbing a Gives) (Ok p)
  proper_made p n s = is_made Refused empty_circuit (IsUnclosed T a) (IsProperOf T a) p n s

  -- why it was not made
  pub proper_not : {L S B : Type 0} (parts : B → Word) → IsAutomaton T.set (length a.sets) a.automaton → (f : ProperFault L S B V) → IsCause parts T.set is_absorbing (length a.sets) a.automaton f
      → OrMemory (WithProper T is_absorbing a Gives) (Err (closing_reason f))
  proper_not parts v (Circuit ts) c = is_caused Refused empty_circuit (IsUnclosed T a) (IsProperOf T a) Gives (c.0, c.1, map (transition_of parts) ts.items, c.2)
  proper_not parts v (Overflow o) c = is_not_made Refused empty_circuit (IsUnclosed T a) (IsProperOf T a) Gives overflow (none_refused T.set is_absorbing a v c.0) (inl (refl, (o, c.1, c.2)))
  proper_not parts v (Limit l) c = is_not_made Refused empty_circuit (IsUnclosed T a) (IsProperOf T a) Gives (limit (Of l.what)) (none_refused T.set is_absorbing a v c.0) (past c.1)
    where
      past : IsPastPairs (length a.sets) a.automaton l ⊎ IsPastTriples T.set a.automaton l → IsUnclosed T a (limit (Of l.what))
      past (inl p) = inr (inl (ap (λ (m : Most). limit (Of m.what)) p.0, p.1))
      past (inr p) = inr (inr (ap (λ (m : Most). limit (Of m.what)) p.0, p.1))
  proper_not parts v (Memory e) c = inl refl

  -- what comes after
  pub proper_given : {Y : Type 0} (rest : Labelled V → Outcome Y) (p : Labelled V) (b : Result Y Reason) → OrMemory (WithProper T is_absorbing a Gives) (Ok p) → (IsProperOf T a p → OrMemory (rest p) b)
      → OrMemory (WithProper T is_absorbing a rest) b
  proper_given rest p b h f = made_given Refused empty_circuit (IsUnclosed T a) (IsProperOf T a) rest p b h f

  pub proper_refused : {Y : Type 0} (rest : Labelled V → Outcome Y) (r : Reason) → OrMemory (WithProper T is_absorbing a Gives) (Err r) → OrMemory (WithProper T is_absorbing a rest) (Err r)
  proper_refused rest r h = made_refused Refused empty_circuit (IsUnclosed T a) (IsProperOf T a) rest r h

  -- the word of a text, and the automaton
  module _ (text : Bytes) where
    abbrev Pairs : Word → Labelled V → Outcome (Word × Labelled V)
    Pairs w p = Gives (w, p)

    pub pair_read : (w : Word) (p : Labelled V) → OrMemory (ReadsWord a.sets text) (Ok w) → OrMemory (WithProper T is_absorbing a Gives) (Ok p) → OrMemory (ReadsWithProper T is_absorbing a text) (Ok (w, p))
    pair_read w p r h = then_given (ReadsWord a.sets text) (λ v. WithProper T is_absorbing a (Pairs v)) w (Ok (w, p)) r (proper_given (Pairs w) p (Ok (w, p)) h (λ s. inr refl))

    pub pair_not : (w : Word) (reason : Reason) → OrMemory (ReadsWord a.sets text) (Ok w) → OrMemory (WithProper T is_absorbing a Gives) (Err reason) → OrMemory (ReadsWithProper T is_absorbing a text) (Err reason)
    pair_not w reason r h = then_given (ReadsWord a.sets text) (λ v. WithProper T is_absorbing a (Pairs v)) w (Err reason) r (proper_refused (Pairs w) reason h)

    pub pair_no_word : (reason : Reason) → OrMemory (ReadsWord a.sets text) (Err reason) → OrMemory (ReadsWithProper T is_absorbing a text) (Err reason)
    pair_no_word reason r = then_refused (ReadsWord a.sets text) (λ v. WithProper T is_absorbing a (Pairs v)) reason r

    abbrev Pair : Type 0
    Pair = Word × Labelled V

    abbrev read : Pair → Result Pair Reason
    read x = Ok x

    abbrev unread : Reason → Result Pair Reason
    unread r = Err r

    abbrev unanswered : Reason → Answer
    unanswered r = Err r

    same_read : (x y : Pair) → read x ≡ read y → x ≡ y
    same_read x y e = cc e

    no_read : (x : Pair) (r : Reason) → read x ≡ unread r → ⊥
    no_read x r e = cc e

    moved : (r s : Reason) → unread r ≡ unread s → unanswered r ≡ unanswered s
    moved r s e = cc e

    -- the coefficient of that automaton is that of the given one
    pub pair_answered : (w : Word) (p : Labelled V) (b : Answer) → length w ≡ length a.sets → OrMemory (ReadsWithProper T is_absorbing a text) (Ok (w, p)) → OrMemory (AnswersWord T p w) b
        → OrMemory (AnswersEvalOver T is_absorbing text a) b
    pair_answered w p b l (inl e) q = absurd (no_read (w, p) no_memory e)
    pair_answered w p b l (inr (inl h)) q = absurd (no_read (w, p) h.0 h.2)
    pair_answered w p b l (inr (inr (v, k, inl h))) q = absurd (no_read (w, p) empty_circuit h.1)
    pair_answered w p b l (inr (inr (v, k, inr (n, inl h)))) q = absurd (no_read (w, p) h.0 h.2)
    pair_answered w p b l (inr (inr (v, k, inr (n, inr (x, s, e))))) q =
        let same : (w, p) ≡ (v, x) = same_read (w, p) (v, x) e in
        let tapes : length v ≡ length a.sets = subst (λ (y : Pair). length y.0 ≡ length a.sets) same l in
        let answered : OrMemory (AnswersWord T x v) b = subst (λ (y : Pair). OrMemory (AnswersWord T y.1 y.0) b) same q in
        go (subst (λ y. OrMemory (AnswersValue T v y x) b) (s.series v tapes) answered)
      where
        go : OrMemory (AnswersValue T v (coefficient T.set a.automaton v) x) b → OrMemory (AnswersEvalOver T is_absorbing text a) b
        go (inl m) = inl m
        go (inr z) = inr (inr (v, k, inr (n, inr (x, s, z))))

    pub pair_refused : (reason : Reason) → OrMemory (ReadsWithProper T is_absorbing a text) (Err reason) → OrMemory (AnswersEvalOver T is_absorbing text a) (Err reason)
    pair_refused reason (inl e) = inl (moved reason no_memory e)
    pair_refused reason (inr (inl h)) = inr (inl (h.0, h.1, moved reason h.0 h.2))
    pair_refused reason (inr (inr (v, k, inl h))) = inr (inr (v, k, inl (h.0, moved reason empty_circuit h.1)))
    pair_refused reason (inr (inr (v, k, inr (n, inl h)))) = inr (inr (v, k, inr (n, inl (h.0, h.1, moved reason h.0 h.2))))
    pair_refused reason (inr (inr (v, k, inr (n, inr h)))) = absurd (no_read (v, h.0) reason (sym h.2))
