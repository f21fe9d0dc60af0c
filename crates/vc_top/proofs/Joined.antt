-- What a product of two automata answers.
use Rattle.std.proofs.Common.{◌≡◌, ◌||◌, ℕ, Bool, true, false, List, [], ◌∷◌, length, Ok, Err, refl, sym, ap, ap₂, ◌∙◌, subst, inl, inr}
use Rattle.vc_aut.specs.Labelled.{Labelled}
use Rattle.vc_aut.specs.Wider.{AreWithin, IsKindWithin, IsWithin}
use Rattle.vc_context.specs.declared.context.Weights.{Weights}
use Rattle.vc_files.specs.Files.{Bytes}
use Rattle.vc_label.specs.Alphabets.{has_letter}
use Rattle.vc_label.specs.Sets.{AreSingleSets, IsShortKind}
use Rattle.vc_label.specs.declared.tape_set.TapeKind.{TapeKind}
use Rattle.vc_label.specs.declared.tape_set.TapeKind.TheVariants.{Letters, Nullable, Words}
use Rattle.vc_label.specs.declared.tape_set.TapeSet.{TapeSet}
use Rattle.vc_model.specs.Automata.{Automaton, coefficient}
use Rattle.vc_model.specs.Series.{SameOn, Series}
use Rattle.vc_model.specs.SumLaws.{sum_same}
use Rattle.vc_model.specs.WeightSet.{SemiringLaws}
use Rattle.vc_model.specs.Words.{Tape, letters_at, letters_off, position_sets}
use Rattle.vc_ring.specs.Texts.{WeightTexts}
use Rattle.vc_top.specs.Automata.{Prints}
use Rattle.vc_top.specs.Inputs.{HasRefusedCircuit}
use Rattle.vc_top.specs.Operations.{IsProperOf, IsUnclosed, WithProper}
use Rattle.vc_top.specs.Outcomes.{Answer, Gives, Outcome, OrMemory}
use Rattle.vc_top.specs.Products.{AnswersProductOver, AreJoint, HasManyPairs, IsProductOf, WithProduct, joint_kind, series_of}
use Rattle.vc_top.specs.Reasons.{Reason, empty_circuit}
use Rattle.vc_top.specs.declared.product.Product.{Product}
use Rattle.vc_top.specs.declared.product.Product.TheVariants.{Conjunction, Shuffle}
use Rattle.vc_top.proofs.Made.{part_given, part_refused}

-- the series of a product is made of the values of both series at words of one tape
pub same_series : {V : Type 0} (T : WeightTexts V) → SemiringLaws T.set → (product : Product) (f g h k : Series V) → SameOn 1 f h → SameOn 1 g k → (u : Tape) → series_of product T.set f g (u ∷ []) ≡ series_of product T.set h k (u ∷ [])
same_series T L Conjunction f g h k s t u = ap₂ T.set.times (s (u ∷ []) refl) (t (u ∷ []) refl)
same_series T L Shuffle f g h k s t u =
    sum_same L (λ I. T.set.times (f (letters_at I u ∷ [])) (g (letters_off I u ∷ []))) (λ I. T.set.times (h (letters_at I u ∷ [])) (k (letters_off I u ∷ []))) (position_sets (length u))
    (λ I i. ap₂ T.set.times (s (letters_at I u ∷ []) refl) (t (letters_off I u ∷ []) refl))

module _ {V : Type 0} (T : WeightTexts V) (product : Product) (most : ℕ) (sets : List TapeSet) (f g : Series V) (a b : Automaton V) (rest : Labelled V → Outcome Bytes) where
  -- the product, and what comes after for it
  pub joined_given : (p : Labelled V) (r : Answer) → ¬ HasManyPairs T product most a b → IsProductOf T product most sets f g a b p → OrMemory (rest p) r → OrMemory (WithProduct T product most sets f g a b rest) r
  joined_given p r n s (inl e) = inl e
  joined_given p r n s (inr q) = inr (inr (inr (n, (p, s, q))))

-- both automata without empty labels, and what their product answers
module _ {V : Type 0} (T : WeightTexts V) (product : Product) (most : ℕ) (is_absorbing : Bool) (rest : Labelled V → Outcome Bytes) (a b : Labelled V) (sets : List TapeSet) (joint : AreJoint a.sets b.sets sets) where
  abbrev of_automaton : Labelled V → Automaton V
  of_automaton p = p.automaton

  abbrev Product_of : Automaton V → Automaton V → Outcome Bytes
  Product_of p q = WithProduct T product most sets (coefficient T.set a.automaton) (coefficient T.set b.automaton) p q rest

  abbrev After : Labelled V → Outcome Bytes
  After p = WithProper T is_absorbing b (λ q. Product_of p.automaton q.automaton)

  -- one of both without empty labels, and what comes after for it
  module _ (c : Labelled V) (next : Labelled V → Outcome Bytes) where
    closed_given : (v : Automaton V) (r : Answer) → OrMemory (WithProper T is_absorbing c (λ p. Gives p.automaton)) (Ok v)
        → ((p : Labelled V) → IsProperOf T c p → p.automaton ≡ v → OrMemory (next p) r) → OrMemory (WithProper T is_absorbing c next) r
    closed_given v r h f = part_given (HasRefusedCircuit is_absorbing c) empty_circuit (IsUnclosed T c) (IsProperOf T c) of_automaton next v r h f

    closed_refused : (r : Reason) → OrMemory (WithProper T is_absorbing c (λ p. Gives p.automaton)) (Err r) → OrMemory (WithProper T is_absorbing c next) (Err r)
    closed_refused r h = part_refused (HasRefusedCircuit is_absorbing c) empty_circuit (IsUnclosed T c) (IsProperOf T c) of_automaton next r h

  one_tape : {ss : List TapeSet} {s : TapeSet} → ss ≡ s ∷ [] → length ss ≡ 1
  one_tape e = ap length e

  -- they are known
  closed_both : (A B : Automaton V) (r : Answer) → OrMemory (WithProper T is_absorbing a (λ p. Gives p.automaton)) (Ok A) → OrMemory (WithProper T is_absorbing b (λ p. Gives p.automaton)) (Ok B)
      → ((f g : Series V) → SameOn 1 (coefficient T.set A) f → SameOn 1 (coefficient T.set B) g → OrMemory (WithProduct T product most sets f g A B rest) r) → OrMemory (WithProper T is_absorbing a After) r
  closed_both A B r h k given_product =
      closed_given a After A r h (λ p s e.
      closed_given b (λ q. Product_of p.automaton q.automaton) B r k (λ q t d.
      subst (λ (x : Automaton V). OrMemory (Product_of x q.automaton) r) (sym e) (subst (λ (x : Automaton V). OrMemory (Product_of A x) r) (sym d)
      (given_product (coefficient T.set a.automaton) (coefficient T.set b.automaton)
      (λ w l. ap (λ (x : Automaton V). coefficient T.set x w) (sym e) ∙ s.series w (l ∙ sym (one_tape joint.is_first)))
      (λ w l. ap (λ (x : Automaton V). coefficient T.set x w) (sym d) ∙ t.series w (l ∙ sym (one_tape joint.is_second)))))))

  -- the second is not made
  unclosed_second : (A : Automaton V) (r : Reason) → OrMemory (WithProper T is_absorbing a (λ p. Gives p.automaton)) (Ok A) → OrMemory (WithProper T is_absorbing b (λ p. Gives p.automaton)) (Err r) → OrMemory (WithProper T is_absorbing a After) (Err r)
  unclosed_second A r h k = closed_given a After A (Err r) h (λ p s e. closed_refused b (λ q. Product_of p.automaton q.automaton) r k)

  unclosed_first : (r : Reason) → OrMemory (WithProper T is_absorbing a (λ p. Gives p.automaton)) (Err r) → OrMemory (WithProper T is_absorbing a After) (Err r)
  unclosed_first r h = closed_refused a After r h

module _ {V : Type 0} (T : WeightTexts V) (product : Product) (most : ℕ) (is_absorbing : Bool) (w : Weights) (a b : Labelled V) (sets : List TapeSet) (joint : AreJoint a.sets b.sets sets) where
  -- the label sets fit
  over_joint : (r : Answer) → OrMemory (WithProper T is_absorbing a (After T product most is_absorbing (Prints T w) a b sets joint)) r → OrMemory (AnswersProductOver T product most is_absorbing w a b) r
  over_joint r (inl e) = inl e
  over_joint r (inr p) = inr (inr (sets, joint, p))

  pub product_answered : (A B : Automaton V) (r : Answer) → OrMemory (WithProper T is_absorbing a (λ p. Gives p.automaton)) (Ok A) → OrMemory (WithProper T is_absorbing b (λ p. Gives p.automaton)) (Ok B)
      → ((f g : Series V) → SameOn 1 (coefficient T.set A) f → SameOn 1 (coefficient T.set B) g → OrMemory (WithProduct T product most sets f g A B (Prints T w)) r) → OrMemory (AnswersProductOver T product most is_absorbing w a b) r
  product_answered A B r h k q = over_joint r (closed_both T product most is_absorbing (Prints T w) a b sets joint A B r h k q)

  pub second_unclosed : (A : Automaton V) (r : Reason) → OrMemory (WithProper T is_absorbing a (λ p. Gives p.automaton)) (Ok A) → OrMemory (WithProper T is_absorbing b (λ p. Gives p.automaton)) (Err r)
      → OrMemory (AnswersProductOver T product most is_absorbing w a b) (Err r)
  second_unclosed A r h k = over_joint (Err r) (unclosed_second T product most is_absorbing (Prints T w) a b sets joint A r h k)

  pub first_unclosed : (r : Reason) → OrMemory (WithProper T is_absorbing a (λ p. Gives p.automaton)) (Err r) → OrMemory (AnswersProductOver T product most is_absorbing w a b) (Err r)
  first_unclosed r h = over_joint (Err r) (unclosed_first T product most is_absorbing (Prints T w) a b sets joint r h)

-- label sets of one tape fit, where both have at most one letter in a part
pub joint_sets : (ss ts us : List TapeSet) (s t u : TapeSet) → ss ≡ s ∷ [] → ts ≡ t ∷ [] → us ≡ u ∷ [] → IsShortKind s.kind → IsShortKind t.kind → u.kind ≡ joint_kind s.kind t.kind
    → ((x : ℕ) → has_letter u.alphabet x ≡ (has_letter s.alphabet x || has_letter t.alphabet x)) → AreJoint ss ts us
joint_sets ss ts us s t u e f h i j k l = record { first = s; second = t; joint = u; is_first = e; is_second = f; is_joint = h; first_short = i; second_short = j; kind = k; letters = l }

-- a kind is within the joint one
second_within : (k l : TapeKind) → IsShortKind k → IsShortKind l → IsKindWithin l (joint_kind k l)
second_within k Letters h i = tt
second_within Letters Nullable h i = tt
second_within Nullable Nullable h i = tt
second_within Words Nullable h i = absurd h
second_within k Words h i = absurd i

or_true : (b : Bool) → (b || true) ≡ true
or_true true = refl
or_true false = refl

one_within : (s u : TapeSet) → IsKindWithin s.kind u.kind → ((x : ℕ) → has_letter s.alphabet x ≡ true → has_letter u.alphabet x ≡ true) → IsWithin s u
one_within s u k l = record { kind = k; letters = l }

sets_within : {ss us : List TapeSet} (s u : TapeSet) → ss ≡ s ∷ [] → us ≡ u ∷ [] → IsWithin s u → AreWithin ss us
sets_within {ss} {us} s u e f w = subst (λ xs. AreWithin xs us) (sym e) (subst (λ ys. AreWithin (s ∷ []) ys) (sym f) (w, tt))

module _ (ss ts us : List TapeSet) (j : AreJoint ss ts us) where
  pub within_second : AreWithin ts us
  within_second =
      sets_within j.second j.joint j.is_second j.is_joint (one_within j.second j.joint (subst (λ k. IsKindWithin j.second.kind k) (sym j.kind) (second_within j.first.kind j.second.kind j.first_short j.second_short))
      (λ x e. j.letters x ∙ ap (λ b. has_letter j.first.alphabet x || b) e ∙ or_true (has_letter j.first.alphabet x)))

pub one_of_single : (ss : List TapeSet) → AreSingleSets ss → length ss ≡ 1
one_of_single [] h = absurd h
one_of_single (s ∷ []) h = refl
one_of_single (s ∷ t ∷ ss) h = absurd h

-- what is answered to two matched things
pub at_two : {X Y : Type 0} (R : X → Y → Outcome Bytes) (x a : X) (y b : Y) (r : Answer) → x ≡ a → y ≡ b → OrMemory (R a b) r → OrMemory (R x y) r
at_two R x a y b r e f p = subst (λ v. OrMemory (R x v) r) (sym f) (subst (λ v. OrMemory (R v b) r) (sym e) p)

-- the one set of a list that has one
pub one_set : (ss : List TapeSet) → AreSingleSets ss → (s : TapeSet) × ((ss ≡ s ∷ []) × IsShortKind s.kind)
one_set [] h = absurd h
one_set (s ∷ []) h = (s, (refl, h))
one_set (s ∷ t ∷ ss) h = absurd h
