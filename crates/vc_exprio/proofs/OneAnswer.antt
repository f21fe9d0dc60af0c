-- The answers of the reader exclude each other.
use Rattle.std.proofs.Common.{◌≡◌, ◌<◌, ◌≤◌, ℕ, Bool, false, List, [], ◌∷◌, Option, Some, None, Result, Ok, Err, length, refl, ap, sym, ◌∙◌, subst, inl, inr, arith}
use Rattle.std.specs.Prelude.{◌⊎◌}
use Rattle.vc_label.specs.declared.tape_set.TapeSet.{TapeSet}
use Rattle.vc_lex.specs.Marks.{BreaksAt, HasMarks, Mark, marks_of}
use Rattle.vc_lex.specs.declared.token.Mode.TheVariants.{Expression}
use Rattle.vc_ring.specs.Texts.{WeightTexts}
use Rattle.vc_ring.specs.declared.faults.Overflow.TheVariants.{Numeral}
use Rattle.vc_terms.specs.Terms.{Term}
use Rattle.vc_exprio.specs.Building.{BuildRefusal, unfit, no_star}
use Rattle.vc_exprio.specs.Fronts.{IsFaultAt}
use Rattle.vc_exprio.specs.Grammar.{SpellsTree}
use Rattle.vc_exprio.specs.Machine.{fault_place}
use Rattle.vc_exprio.specs.Meaning.{Occurrence, depth, occurrences}
use Rattle.vc_exprio.specs.Occurring.{AreOccurrencesOver, IsFirstOutside}
use Rattle.vc_exprio.specs.Places.{first_place, is_operator}
use Rattle.vc_exprio.specs.Readings.{IsNoExpression}
use Rattle.vc_exprio.specs.Spelling.{SpellsText, is_weight_of}
use Rattle.vc_exprio.specs.TextAnswers.{TextRefusal, too_long, bad_byte, no_expression, too_deep, no_label, not_in_context, overflow, invalid_star, IsSpelled, IsInContext, IsUnfitBy, IsRead, first_unfit, tree_building}
use Rattle.vc_exprio.specs.Trees.{Tree, tokens_of}
use Rattle.vc_exprio.proofs.SpelledTrees.{one_text}

-- ---- causes one after the other

module _ {A : Type 0} where
  abbrev IsOne : (A → Type 0) → Type 0
  IsOne X = (a b : A) → X a → X b → a ≡ b

  -- the answers to a cause where it stands, and else others
  abbrev Either : Type 0 → (A → Type 0) → (A → Type 0) → A → Type 0
  Either C X Y a = X a ⊎ ((C → ⊥) × Y a)

  either_one : (C : Type 0) (X Y : A → Type 0) → ((a : A) → X a → C) → IsOne X → IsOne Y → IsOne (Either C X Y)
  either_one C X Y s f g a b (inl h) (inl k) = f a b h k
  either_one C X Y s f g a b (inl h) (inr k) = absurd (k.0 (s a h))
  either_one C X Y s f g a b (inr h) (inl k) = absurd (h.0 (s b k))
  either_one C X Y s f g a b (inr h) (inr k) = g a b h.1 k.1

-- ---- labels

one_outside : (sets : List TapeSet) (os : List Occurrence) (a b : ℕ) → IsFirstOutside sets os a → IsFirstOutside sets os b → a ≡ b
one_outside sets [] a b h k = absurd h
one_outside sets (o ∷ os) a b (inl h) (inl k) = h.1 ∙ sym k.1
one_outside sets (o ∷ os) a b (inl h) (inr k) = absurd (h.0 k.0)
one_outside sets (o ∷ os) a b (inr h) (inl k) = absurd (k.0 h.0)
one_outside sets (o ∷ os) a b (inr h) (inr k) = one_outside sets os a b h.1 k.1

none_outside : (sets : List TapeSet) (os : List Occurrence) (a : ℕ) → AreOccurrencesOver sets os → IsFirstOutside sets os a → ⊥
none_outside sets [] a h k = k
none_outside sets (o ∷ os) a h (inl k) = k.0 h.0
none_outside sets (o ∷ os) a h (inr k) = none_outside sets os a h.1 k.1

module _ {V : Type 0} (T : WeightTexts V) (single : Bool) (sets : List TapeSet) (text : List ℕ)
    (complete : (text : List ℕ) (ms : List Mark) → HasMarks Expression text 0 ms → marks_of Expression text ≡ Ok ms)
    (breaks : (ms : List Mark) (bad : ℕ) → BreaksAt Expression text 0 ms bad → marks_of Expression text ≡ Err bad)
    (only : (ms : List Mark) (at : ℕ) → IsFaultAt (is_weight_of T.spelled) (length text) ms at → at ≡ fault_place (is_weight_of T.spelled) (length text) ms) where
  abbrev Answer : Type 0
  Answer = Result (Term V) (TextRefusal V)

  abbrev Spells : Tree → Type 0
  Spells t = SpellsText (is_weight_of T.spelled) text t

  one_tree : (t u : Tree) → Spells t → Spells u → t ≡ u
  one_tree t u h k = one_text complete (is_weight_of T.spelled) text t u h k

  same_marks : (ms ns : List Mark) → HasMarks Expression text 0 ms → HasMarks Expression text 0 ns → ms ≡ ns
  same_marks ms ns h k = let e : ◌≡◌ {A = Result (List Mark) ℕ} (Ok ms) (Ok ns) = sym (complete text ms h) ∙ complete text ns k in cc

  -- ---- the causes, and the answers to them

  abbrev Long : Type 0
  Long = 65536 < length text

  abbrev IsLong : Answer → Type 0
  IsLong a = (a ≡ Err too_long) × Long

  abbrev Bad : Type 0
  Bad = (at : ℕ) × (ms : List Mark) × BreaksAt Expression text 0 ms at

  abbrev IsBad : Answer → Type 0
  IsBad a = (at : ℕ) × (ms : List Mark) × BreaksAt Expression text 0 ms at × (a ≡ Err (bad_byte at))

  abbrev NoTree : Type 0
  NoTree = (at : ℕ) × IsNoExpression (is_weight_of T.spelled) text at

  abbrev IsNone : Answer → Type 0
  IsNone a = (at : ℕ) × IsNoExpression (is_weight_of T.spelled) text at × (a ≡ Err (no_expression at))

  abbrev Deep : Type 0
  Deep = (t : Tree) × Spells t × (1000 < depth t)

  abbrev IsDeep : Answer → Type 0
  IsDeep a = Deep × (a ≡ Err too_deep)

  abbrev Outside : Type 0
  Outside = (t : Tree) × Spells t × (at : ℕ) × IsFirstOutside sets (occurrences t) at

  abbrev IsOutside : Answer → Type 0
  IsOutside a = (t : Tree) × Spells t × (at : ℕ) × IsFirstOutside sets (occurrences t) at × (a ≡ Err (no_label at))

  abbrev Operates : Type 0
  Operates = (t : Tree) × Spells t × (single ≡ false) × (at : ℕ) × (first_place is_operator (tokens_of t) ≡ Some at)

  abbrev IsOperator : Answer → Type 0
  IsOperator a = (t : Tree) × Spells t × (single ≡ false) × (at : ℕ) × (first_place is_operator (tokens_of t) ≡ Some at) × (a ≡ Err (not_in_context at))

  -- of a tree that has no such cause
  abbrev answer_of : Option ℕ → Result (Term V) (BuildRefusal V) → Answer
  answer_of (Some at) r = Err (overflow (Numeral at))
  answer_of None (Ok u) = Ok u
  answer_of None (Err (unfit o)) = Err (overflow o)
  answer_of None (Err (no_star u c)) = Err (invalid_star u c)

  abbrev tree_answer : Tree → Answer
  tree_answer t = answer_of (first_unfit T single sets t) (tree_building T single sets t)

  abbrev IsBuilt : Answer → Type 0
  IsBuilt a = (t : Tree) × Spells t × (a ≡ tree_answer t)

  -- after a cause come the answers to later ones
  abbrev AfterOutside : Answer → Type 0
  AfterOutside a = Either Operates IsOperator IsBuilt a

  abbrev AfterDeep : Answer → Type 0
  AfterDeep a = Either Outside IsOutside AfterOutside a

  abbrev AfterNone : Answer → Type 0
  AfterNone a = Either Deep IsDeep AfterDeep a

  abbrev AfterBad : Answer → Type 0
  AfterBad a = Either NoTree IsNone AfterNone a

  abbrev AfterLong : Answer → Type 0
  AfterLong a = Either Bad IsBad AfterBad a

  abbrev Chain : Answer → Type 0
  Chain a = Either Long IsLong AfterLong a

  -- ---- each has one answer

  long_one : IsOne IsLong
  long_one a b h k = h.0 ∙ sym k.0

  bad_one : IsOne IsBad
  bad_one a b (x, ms, h, e) (y, ns, k, f) =
      let s : ◌≡◌ {A = Result (List Mark) ℕ} (Err x) (Err y) = sym (breaks ms x h) ∙ breaks ns y k in
      let t : x ≡ y = cc in
      e ∙ ap (λ z. Err (bad_byte z)) t ∙ sym f

  none_one : IsOne IsNone
  none_one a b (x, h, e) (y, k, f) =
      let s : h.marks ≡ k.marks = same_marks h.marks k.marks h.has k.has in
      e ∙ ap (λ z. Err (no_expression z)) (only h.marks x h.fault ∙ ap (fault_place (is_weight_of T.spelled) (length text)) s ∙ sym (only k.marks y k.fault)) ∙ sym f

  deep_one : IsOne IsDeep
  deep_one a b h k = h.1 ∙ sym k.1

  outside_one : IsOne IsOutside
  outside_one a b (t, h, x, i, e) (u, k, y, j, f) =
      let s : t ≡ u = one_tree t u h k in
      e ∙ ap (λ z. Err (no_label z)) (one_outside sets (occurrences u) x y (subst (λ v. IsFirstOutside sets (occurrences v) x) s i) j) ∙ sym f

  operator_one : IsOne IsOperator
  operator_one a b (t, h, n, x, i, e) (u, k, m, y, j, f) =
      let s : t ≡ u = one_tree t u h k in
      let p : Some x ≡ Some y = sym i ∙ ap (λ v. first_place is_operator (tokens_of v)) s ∙ j in
      let q : x ≡ y = cc in
      e ∙ ap (λ z. Err (not_in_context z)) q ∙ sym f

  built_one : IsOne IsBuilt
  built_one a b (t, h, e) (u, k, f) = e ∙ ap tree_answer (one_tree t u h k) ∙ sym f

  chain_one : IsOne Chain
  chain_one =
      either_one Long IsLong AfterLong (λ a h. h.1) long_one
      (either_one Bad IsBad AfterBad (λ a h. (h.0, h.1, h.2)) bad_one
      (either_one NoTree IsNone AfterNone (λ a h. (h.0, h.1)) none_one
      (either_one Deep IsDeep AfterDeep (λ a h. h.0) deep_one
      (either_one Outside IsOutside AfterOutside (λ a h. (h.0, h.1, h.2, h.3)) outside_one
      (either_one Operates IsOperator IsBuilt (λ a h. (h.0, h.1, h.2, h.3, h.4)) operator_one built_one)))))

  -- ---- no earlier cause stands

  not_long : length text ≤ 65536 → Long → ⊥
  not_long h k = omega (arith, h, k)

  marks_not_bad : (ms : List Mark) → HasMarks Expression text 0 ms → Bad → ⊥
  marks_not_bad ms h (at, ns, k) = let e : ◌≡◌ {A = Result (List Mark) ℕ} (Ok ms) (Err at) = sym (complete text ms h) ∙ breaks ns at k in absurd (cc)

  tree_not_none : (t : Tree) → Spells t → NoTree → ⊥
  tree_not_none t h (at, k) = k.none t (subst (λ ms. SpellsTree (is_weight_of T.spelled) ms t) (same_marks h.marks k.marks h.has k.has) h.spells)

  not_deep : (t : Tree) → Spells t → depth t ≤ 1000 → Deep → ⊥
  not_deep t h l (u, k, m) = let e : depth t ≡ depth u = ap depth (one_tree t u h k) in omega (arith, l, m, e)

  not_outside : (t : Tree) → Spells t → AreOccurrencesOver sets (occurrences t) → Outside → ⊥
  not_outside t h l (u, k, at, m) = none_outside sets (occurrences u) at (subst (λ v. AreOccurrencesOver sets (occurrences v)) (one_tree t u h k) l) m

  not_operator : (t : Tree) → Spells t → (single ≡ false → first_place is_operator (tokens_of t) ≡ None) → Operates → ⊥
  not_operator t h l (u, k, n, at, m) =
      let e : Some at ≡ None = sym m ∙ ap (λ v. first_place is_operator (tokens_of v)) (sym (one_tree t u h k)) ∙ l n in absurd (cc)

  -- ---- where an answer stands

  past_bytes : (a : Answer) → length text ≤ 65536 → AfterLong a → Chain a
  past_bytes a l h = inr (not_long l, h)

  past_tree : (a : Answer) (t : Tree) → length text ≤ 65536 → Spells t → AfterNone a → Chain a
  past_tree a t l s h = past_bytes a l (inr (marks_not_bad s.marks s.has, inr (tree_not_none t s, h)))

  past_depth : (a : Answer) (t : Tree) → IsSpelled T single sets text t → AfterDeep a → Chain a
  past_depth a t s h = past_tree a t s.short s.spells (inr (not_deep t s.spells s.flat, h))

  past_context : (a : Answer) (t : Tree) → IsInContext T single sets text t → a ≡ tree_answer t → Chain a
  past_context a t c e =
      past_depth a t c.spelled (inr (not_outside t c.spelled.spells c.labels, inr (not_operator t c.spelled.spells c.operators, (t, c.spelled.spells, e))))

  chain : (a : Answer) → IsRead T single sets text a → Chain a
  chain (Ok u) (t, f, e) = past_context (Ok u) t f.context (sym (both_ways f.numbers e))
    where
      both_ways : first_unfit T single sets t ≡ None → tree_building T single sets t ≡ Ok u → tree_answer t ≡ Ok u
      both_ways p q = ap (λ o. answer_of o (tree_building T single sets t)) p ∙ ap (answer_of None) q
  chain (Err too_long) h = inl (refl, h)
  chain (Err (bad_byte at)) (l, ms, h) = past_bytes (Err (bad_byte at)) l (inl (at, ms, h, refl))
  chain (Err (no_expression at)) (l, h) = past_bytes (Err (no_expression at)) l (inr (marks_not_bad h.marks h.has, inl (at, h, refl)))
  chain (Err too_deep) (l, t, s, d) = past_tree (Err too_deep) t l s (inl ((t, s, d), refl))
  chain (Err (no_label at)) (t, s, h) = past_depth (Err (no_label at)) t s (inl (t, s.spells, at, h, refl))
  chain (Err (not_in_context at)) (t, s, l, (n, h)) =
      past_depth (Err (not_in_context at)) t s (inr (not_outside t s.spells l, inl (t, s.spells, n, at, h, refl)))
  chain (Err (overflow o)) (t, h) = go (first_unfit T single sets t) refl h
    where
      go : (f : Option ℕ) → first_unfit T single sets t ≡ f → IsUnfitBy T single sets text t o f → Chain (Err (overflow o))
      go (Some at) e k = past_context (Err (overflow o)) t k.0 (ap (λ z. Err (overflow z)) k.1 ∙ sym (ap (λ f. answer_of f (tree_building T single sets t)) e))
      go None e k = past_context (Err (overflow o)) t k.0 (sym (ap (λ f. answer_of f (tree_building T single sets t)) e ∙ ap (answer_of None) k.1))
  chain (Err (invalid_star u c)) (t, f, e) =
      past_context (Err (invalid_star u c)) t f.context (sym (ap (λ o. answer_of o (tree_building T single sets t)) f.numbers ∙ ap (answer_of None) e))

  -- a text has at most one answer
  pub one_answer : (a b : Answer) → IsRead T single sets text a → IsRead T single sets text b → a ≡ b
  one_answer a b h k = chain_one a b (chain a h) (chain b k)
