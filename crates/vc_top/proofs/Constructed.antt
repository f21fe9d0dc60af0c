-- What the commands over the standard automaton of an expression answer.
use Rattle.std.proofs.Common.{◌≡◌, ◌<◌, ◌+◌, ℕ, List, length, Result, Ok, Err, refl, sym, ap, ◌∙◌, subst, inl, inr}
use Rattle.vc_aut.specs.Labelled.{Labelled}
use Rattle.vc_context.specs.Sets.{tapes_of}
use Rattle.vc_context.specs.Spelling.{SpellsContext}
use Rattle.vc_context.specs.declared.context.AnyLabels.{AnyLabels}
use Rattle.vc_context.specs.declared.context.Weights.{Weights}
use Rattle.vc_exprio.specs.Canonical.{IsRootOver}
use Rattle.vc_files.specs.Files.{Bytes}
use Rattle.vc_label.specs.Sets.{IsOverSets}
use Rattle.vc_label.specs.declared.tape_set.TapeSet.{TapeSet}
use Rattle.vc_model.specs.Words.{Word}
use Rattle.vc_ring.specs.Texts.{WeightTexts}
use Rattle.vc_ring.specs.declared.faults.Limit.{Limit}
use Rattle.vc_ring.specs.declared.faults.MakeFault.{MakeFault}
use Rattle.vc_ring.specs.declared.faults.MakeFault.TheVariants.{Overflow as Unfit, Limit as PastLimit, Memory}
use Rattle.vc_ring.specs.declared.faults.Measure.TheVariants.{States, Transitions}
use Rattle.vc_ring.specs.declared.faults.Overflow.{Overflow}
use Rattle.vc_standard.specs.Refusals.{IsRefusal, limit_of_states}
use Rattle.vc_terms.specs.Expansions.{AtomsAre, AllAtomsAre}
use Rattle.vc_terms.specs.Forms.{Everywhere, EverywhereIn}
use Rattle.vc_terms.specs.Terms.{Term, Terms, NoTerms, MoreTerms, Zero, One, Atom, Sum, Product, Star, Weight, Both, Shuffle, bound_of, coefficient_of}
use Rattle.vc_top.specs.Automata.{Prints}
use Rattle.vc_top.specs.Contexts.{IsContext}
use Rattle.vc_top.specs.Evaluations.{AnswersValue, AnswersWord, ReadsWord}
use Rattle.vc_top.specs.Expressions.{ReadsExpression}
use Rattle.vc_top.specs.Outcomes.{Answer, Gives, Outcome, OrMemory, Then, WithOne}
use Rattle.vc_top.specs.Reasons.{Reason, in_context, limit, no_memory, overflow, syntax}
use Rattle.vc_top.specs.Refused.{make_reason}
use Rattle.vc_top.specs.Sets.{texts_of}
use Rattle.vc_top.specs.Standards.{AnswersEvalText, AnswersEvalTextOver, AnswersStandard, AnswersStandardOver, IsStandard, ReadsWithStandard, WithStandard, most_states}
use Rattle.vc_top.specs.declared.refusal.Bound.TheVariants.{Of}
use Rattle.vc_top.proofs.Outcomes.{then_given, then_refused}

-- the labels of an expression are over the sets, where each at a root is
abbrev mutual
  pub atoms_over : {V : Type 0} (sets : List TapeSet) (t : Term V) → Everywhere (IsRootOver sets) t → AtomsAre (IsOverSets sets) t
  atoms_over sets Zero h = tt
  atoms_over sets One h = tt
  atoms_over sets (Atom a) h = h
  atoms_over sets (Sum ts) h = all_atoms_over sets ts h.1
  atoms_over sets (Product ts) h = all_atoms_over sets ts h.1
  atoms_over sets (Star t) h = atoms_over sets t h.1
  atoms_over sets (Weight k t) h = atoms_over sets t h.1
  atoms_over sets (Both t u) h = (atoms_over sets t h.1, atoms_over sets u h.2)
  atoms_over sets (Shuffle t u) h = (atoms_over sets t h.1, atoms_over sets u h.2)

  pub all_atoms_over : {V : Type 0} (sets : List TapeSet) (ts : Terms V) → EverywhereIn (IsRootOver sets) ts → AllAtomsAre (IsOverSets sets) ts
  all_atoms_over sets NoTerms h = tt
  all_atoms_over sets (MoreTerms t ts) h = (atoms_over sets t h.0, all_atoms_over sets ts h.1)

abbrev given : {X : Type 0} → X → Result X Reason
given x = Ok x

same_given : {X : Type 0} (x y : X) → given x ≡ given y → x ≡ y
same_given x y e = cc e

abbrev refused : {X : Type 0} → Reason → Result X Reason
refused r = Err r

same_reason : {X Y : Type 0} (r s : Reason) → refused {X = X} r ≡ refused s → refused {X = Y} r ≡ refused s
same_reason r s e = cc e

no_given : {X : Type 0} (x : X) (r : Reason) → given x ≡ refused r → ⊥
no_given x r e = cc e

abbrev failed : {V : Type 0} → MakeFault V → Result (Labelled V) (MakeFault V)
failed f = Err f

-- why nothing was made
pub same_fault : {V : Type 0} (f g : MakeFault V) → failed f ≡ failed g → f ≡ g
same_fault f g e = cc e

abbrev Pair : Type 0 → Type 0
Pair V = Word × Labelled V

moved : {V : Type 0} (r s : Reason) → refused {X = Pair V} r ≡ refused s → refused {X = Bytes} r ≡ refused s
moved r s e = cc e

apart : Transitions ≡ States → ⊥
apart e = cc e

module _ {V : Type 0} (T : WeightTexts V) (sets : List TapeSet) (most : ℕ) (t : Term V) where
  abbrev Makes : Outcome (Labelled V)
  Makes = WithStandard T sets most Gives t

  abbrev past : Limit → MakeFault V
  past l = PastLimit l

  same_limit : (l m : Limit) → past l ≡ past m → l ≡ m
  same_limit l m e = cc e

  -- what the construction answers
  pub standard_made : (a : Labelled V) → ¬ (most < bound_of t + 1) → IsStandard T sets t a → OrMemory Makes (Ok a)
  standard_made a n s = inr (inr (n, inr (a, s, refl)))

  pub standard_not : (f : MakeFault V) → (most < bound_of t + 1 → f ≡ past (limit_of_states most)) → IsRefusal T.set T.same most t f → OrMemory Makes (Err (make_reason f))
  standard_not (Unfit o) n p = inr (inr ((λ l. unfit_past o (limit_of_states most) (n l)), inl (overflow, inl (refl, (o, p.0, p.1)), refl)))
    where
      unfit_past : (o : Overflow V) (l : Limit) → Unfit o ≡ past l → ⊥
      unfit_past o l e = cc e
  standard_not (PastLimit l) n (inl p) = inr (inl (p.1, ap (λ x. Err (limit (Of x.what))) p.0))
  standard_not (PastLimit l) n (inr p) = inr (inr ((λ b. other l p.0 (n b)), inl (limit (Of Transitions), inr (refl, p.1), ap (λ x. Err (limit (Of x.what))) p.0)))
    where
      other : (l : Limit) → l ≡ record { what = Transitions; most = 4000000 } → past l ≡ past (limit_of_states most) → ⊥
      other l e h = apart (sym (ap (λ (x : Limit). x.what) e) ∙ ap (λ (x : Limit). x.what) (same_limit l (limit_of_states most) h))
  standard_not (Memory e) n p = inl refl

  -- and what comes after
  pub standard_given : {Y : Type 0} (rest : Labelled V → Outcome Y) (a : Labelled V) (b : Result Y Reason) → OrMemory Makes (Ok a) → (IsStandard T sets t a → OrMemory (rest a) b) → OrMemory (WithStandard T sets most rest t) b
  standard_given rest a b (inl e) f = absurd (no_given a no_memory e)
  standard_given rest a b (inr (inl p)) f = absurd (no_given a (limit (Of States)) p.1)
  standard_given rest a b (inr (inr (n, inl p))) f = absurd (no_given a p.0 p.2)
  standard_given {Y} rest a b (inr (inr (n, inr p))) f = go (f (subst (IsStandard T sets t) (sym (same_given a p.0 p.2)) p.1))
    where
      go : OrMemory (rest a) b → OrMemory (WithStandard T sets most rest t) b
      go (inl m) = inl m
      go (inr q) = inr (inr (n, inr (p.0, p.1, subst (λ x. rest x b) (same_given a p.0 p.2) q)))

  pub standard_refused : {Y : Type 0} (rest : Labelled V → Outcome Y) (r : Reason) → OrMemory Makes (Err r) → OrMemory (WithStandard T sets most rest t) (Err r)
  standard_refused {Y} rest r (inl e) = inl (same_reason {X = Labelled V} {Y = Y} r no_memory e)
  standard_refused {Y} rest r (inr (inl p)) = inr (inl (p.0, same_reason {X = Labelled V} {Y = Y} r (limit (Of States)) p.1))
  standard_refused {Y} rest r (inr (inr (n, inl p))) = inr (inr (n, inl (p.0, p.1, same_reason {X = Labelled V} {Y = Y} r p.0 p.2)))
  standard_refused rest r (inr (inr (n, inr p))) = absurd (no_given p.0 r (sym p.2))

module _ {V : Type 0} (T : WeightTexts V) (sets : List TapeSet) (text : Bytes) where
  -- the text of the automaton
  pub standard_printed : (weights : Weights) (most : ℕ) (t : Term V) (a : Labelled V) (b : Answer) → OrMemory (ReadsExpression T sets text) (Ok t) → OrMemory (WithStandard T sets most Gives t) (Ok a)
      → OrMemory (Prints T weights a) b → OrMemory (AnswersStandardOver T sets weights text most) b
  standard_printed weights most t a b r p q =
      then_given (ReadsExpression T sets text) (WithStandard T sets most (Prints T weights)) t b r (standard_given T sets most t (Prints T weights) a b p (λ s. q))

  pub standard_unmade : (weights : Weights) (most : ℕ) (t : Term V) (reason : Reason) → OrMemory (ReadsExpression T sets text) (Ok t) → OrMemory (WithStandard T sets most Gives t) (Err reason)
      → OrMemory (AnswersStandardOver T sets weights text most) (Err reason)
  standard_unmade weights most t reason r p =
      then_given (ReadsExpression T sets text) (WithStandard T sets most (Prints T weights)) t (Err reason) r (standard_refused T sets most t (Prints T weights) reason p)

  pub standard_unread : (weights : Weights) (most : ℕ) (reason : Reason) → OrMemory (ReadsExpression T sets text) (Err reason) → OrMemory (AnswersStandardOver T sets weights text most) (Err reason)
  standard_unread weights most reason p = then_refused (ReadsExpression T sets text) (WithStandard T sets most (Prints T weights)) reason p

  module _ (word : Bytes) where
    abbrev Pairs : Word → Labelled V → Outcome (Word × Labelled V)
    Pairs w a = Gives (w, a)

    abbrev Behind : Term V → Outcome (Word × Labelled V)
    Behind t = Then (ReadsWord sets word) (λ w. WithStandard T sets most_states (Pairs w) t)

    -- the word and the automaton
    pub pair_read : (t : Term V) (w : Word) (a : Labelled V) → OrMemory (ReadsExpression T sets text) (Ok t) → OrMemory (ReadsWord sets word) (Ok w) → OrMemory (WithStandard T sets most_states Gives t) (Ok a)
        → OrMemory (ReadsWithStandard T sets text word) (Ok (w, a))
    pair_read t w a r p q =
        then_given (ReadsExpression T sets text) Behind t (Ok (w, a)) r
        (then_given (ReadsWord sets word) (λ v. WithStandard T sets most_states (Pairs v) t) w (Ok (w, a)) p (standard_given T sets most_states t (Pairs w) a (Ok (w, a)) q (λ s. inr refl)))

    pub pair_unmade : (t : Term V) (w : Word) (reason : Reason) → OrMemory (ReadsExpression T sets text) (Ok t) → OrMemory (ReadsWord sets word) (Ok w) → OrMemory (WithStandard T sets most_states Gives t) (Err reason)
        → OrMemory (ReadsWithStandard T sets text word) (Err reason)
    pair_unmade t w reason r p q =
        then_given (ReadsExpression T sets text) Behind t (Err reason) r
        (then_given (ReadsWord sets word) (λ v. WithStandard T sets most_states (Pairs v) t) w (Err reason) p (standard_refused T sets most_states t (Pairs w) reason q))

    pub pair_no_word : (t : Term V) (reason : Reason) → OrMemory (ReadsExpression T sets text) (Ok t) → OrMemory (ReadsWord sets word) (Err reason) → OrMemory (ReadsWithStandard T sets text word) (Err reason)
    pair_no_word t reason r p =
        then_given (ReadsExpression T sets text) Behind t (Err reason) r (then_refused (ReadsWord sets word) (λ v. WithStandard T sets most_states (Pairs v) t) reason p)

    pub pair_no_expression : (reason : Reason) → OrMemory (ReadsExpression T sets text) (Err reason) → OrMemory (ReadsWithStandard T sets text word) (Err reason)
    pair_no_expression reason p = then_refused (ReadsExpression T sets text) Behind reason p

    -- the coefficient of the automaton is that of the expression
    pub pair_answered : (w : Word) (a : Labelled V) (b : Answer) → length w ≡ length sets → OrMemory (ReadsWithStandard T sets text word) (Ok (w, a)) → OrMemory (AnswersWord T a w) b
        → OrMemory (AnswersEvalTextOver T sets text word) b
    pair_answered w a b l (inl e) q = absurd (no_given (w, a) no_memory e)
    pair_answered w a b l (inr (inl p)) q = absurd (no_given (w, a) p.0 p.2)
    pair_answered w a b l (inr (inr (t, r, inl p))) q = absurd (no_given (w, a) p.0 p.2)
    pair_answered w a b l (inr (inr (t, r, inr (v, k, inl p)))) q = absurd (no_given (w, a) (limit (Of States)) p.1)
    pair_answered w a b l (inr (inr (t, r, inr (v, k, inr (n, inl p))))) q = absurd (no_given (w, a) p.0 p.2)
    pair_answered w a b l (inr (inr (t, r, inr (v, k, inr (n, inr (x, s, e)))))) q =
        let same : (w, a) ≡ (v, x) = same_given (w, a) (v, x) e in
        let tapes : length v ≡ length sets = subst (λ (p : Word × Labelled V). length p.0 ≡ length sets) same l in
        let answered : OrMemory (AnswersWord T x v) b = subst (λ (p : Word × Labelled V). OrMemory (AnswersWord T p.1 p.0) b) same q in
        go (subst (λ y. OrMemory (AnswersValue T v y x) b) (s.series v tapes) answered)
      where
        go : OrMemory (AnswersValue T v (coefficient_of T.set t v) x) b → OrMemory (AnswersEvalTextOver T sets text word) b
        go (inl m) = inl m
        go (inr z) = inr (inr (t, r, inr (v, k, inr (n, inr (x, s, z)))))

    pub pair_refused : (reason : Reason) → OrMemory (ReadsWithStandard T sets text word) (Err reason) → OrMemory (AnswersEvalTextOver T sets text word) (Err reason)
    pair_refused reason (inl e) = inl (same_reason {X = Word × Labelled V} {Y = Bytes} reason no_memory e)
    pair_refused reason (inr (inl p)) = inr (inl (p.0, p.1, moved reason p.0 p.2))
    pair_refused reason (inr (inr (t, r, inl p))) = inr (inr (t, r, inl (p.0, p.1, moved reason p.0 p.2)))
    pair_refused reason (inr (inr (t, r, inr (v, k, inl p)))) = inr (inr (t, r, inr (v, k, inl (p.0, moved reason (limit (Of States)) p.1))))
    pair_refused reason (inr (inr (t, r, inr (v, k, inr (n, inl p))))) = inr (inr (t, r, inr (v, k, inr (n, inl (p.0, p.1, moved reason p.0 p.2)))))
    pair_refused reason (inr (inr (t, r, inr (v, k, inr (n, inr p))))) = absurd (no_given (v, p.0) reason (sym p.2))

-- the same over labels of the code, and over the weight set of a name
pub at_labels : (R : List TapeSet → Outcome Bytes) (l m : AnyLabels) (sets : List TapeSet) (b : Answer) → l ≡ m → tapes_of m ≡ sets → OrMemory (R sets) b → OrMemory (R (tapes_of l)) b
at_labels R l m sets b e f p = subst (λ (s : List TapeSet). OrMemory (R s) b) (sym (ap tapes_of e ∙ f)) p

-- in the context of a text
at_context : (R : List TapeSet × Weights → Outcome Bytes) (over : Bytes) (c : List TapeSet × Weights) (b : Answer) → IsContext over c → OrMemory (R c) b → OrMemory (WithOne (IsContext over) (syntax in_context) R) b
at_context R over c b s (inl m) = inl m
at_context R over c b s (inr p) = inr (inr (c, s, p))

module _ (over : Bytes) (sets : List TapeSet) (w v : Weights) (b : Answer) (same : w ≡ v) (spells : SpellsContext over sets w) where
  pub standard_named : (text : Bytes) (most : ℕ) → OrMemory (AnswersStandardOver (texts_of v) sets w text most) b → OrMemory (AnswersStandard over text most) b
  standard_named text most p =
      at_context (λ c. AnswersStandardOver (texts_of c.1) c.0 c.1 text most) over (sets, w) b spells (subst (λ (x : Weights). OrMemory (AnswersStandardOver (texts_of x) sets w text most) b) (sym same) p)

  pub value_named : (text word : Bytes) → OrMemory (AnswersEvalTextOver (texts_of v) sets text word) b → OrMemory (AnswersEvalText over text word) b
  value_named text word p =
      at_context (λ c. AnswersEvalTextOver (texts_of c.1) c.0 text word) over (sets, w) b spells (subst (λ (x : Weights). OrMemory (AnswersEvalTextOver (texts_of x) sets text word) b) (sym same) p)

module _ (over : Bytes) (none : (sets : List TapeSet) (weights : Weights) → ¬ SpellsContext over sets weights) where
  pub standard_nowhere : (text : Bytes) (most : ℕ) → OrMemory (AnswersStandard over text most) (Err (syntax in_context))
  standard_nowhere text most = inr (inl (λ c. none c.0 c.1, refl))

  pub value_nowhere : (text word : Bytes) → OrMemory (AnswersEvalText over text word) (Err (syntax in_context))
  value_nowhere text word = inr (inl (λ c. none c.0 c.1, refl))
