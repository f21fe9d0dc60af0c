-- What is built of a text has its labels over the sets.
use Rattle.std.proofs.Common.{◌≡◌, ℕ, Bool, true, false, List, [], ◌∷◌, ◌++◌, map, refl, ap, sym, ◌∙◌, subst, inl, inr, arith}
use Rattle.std.proofs.lemmas.List.Elements.{All-cons, All-nil}
use Rattle.std.specs.Prelude.{filter, if◌then◌else◌, ◌↔◌, ◌⊎◌}
use Rattle.vc_label.specs.Alphabets.{has_letter, letters_of}
use Rattle.vc_label.specs.Sets.{IsOverSets, HasKind}
use Rattle.vc_label.specs.declared.alphabet.Alphabet.{Alphabet}
use Rattle.vc_label.specs.declared.tape_set.TapeKind.{TapeKind}
use Rattle.vc_label.specs.declared.tape_set.TapeKind.TheVariants.{Letters, Nullable, Words}
use Rattle.vc_label.specs.declared.tape_set.TapeSet.{TapeSet}
use Rattle.vc_lex.specs.Labels.{IsClassOver}
use Rattle.vc_lex.specs.Marks.{Mark}
use Rattle.vc_lex.specs.Parts.{tape_of, tape_text}
use Rattle.vc_lex.specs.declared.token.TokenKind.TheVariants as kinds
use Rattle.vc_model.specs.Lists.{In}
use Rattle.vc_model.specs.WeightSet.{WeightSet}
use Rattle.vc_model.specs.Words.{Word, is_empty}
use Rattle.vc_terms.specs.Forms.{Everywhere, EverywhereIn}
use Rattle.vc_terms.specs.Identities.{built_of}
use Rattle.vc_terms.specs.KeptTrees.{built_labels}
use Rattle.vc_terms.specs.Terms.{Term, Terms, NoTerms, MoreTerms, Zero, One, Atom, Sum, Product, Star, Weight, Both, Shuffle}
use Rattle.vc_text.specs.Classes.{has_in_class}
use Rattle.vc_text.specs.Escapes.{inside}
use Rattle.vc_exprio.specs.Canonical.{IsRootOver}
use Rattle.vc_exprio.specs.Meaning as meaning
use Rattle.vc_exprio.specs.Meaning.{append, is_times, is_plus, label_word, label_term, letter_terms, class_term, summands, occurrences, term_of}
use Rattle.vc_exprio.specs.Occurring.{AreOccurrencesOver, IsEmptyOver, IsOneAlone, letters_over}
use Rattle.vc_exprio.specs.Trees.{Tree, Barred, zero_tree, label, class, group, star, weight_behind, weight_before, times, both, shuffle, plus}

-- ---- letters of classes

in_filter : (p : ℕ → Bool) (xs : List ℕ) (x : ℕ) → In x (filter p xs) → In x xs
in_filter p [] x i = i
in_filter p (y ∷ ys) x i = go (p y) (λ j. in_filter p ys x j) i
  where
    go : (b : Bool) → (In x (filter p ys) → In x ys) → In x (if b then y ∷ filter p ys else filter p ys) → In x (y ∷ ys)
    go true r (inl e) = inl e
    go true r (inr j) = inr (r j)
    go false r j = inr (r j)

-- a letter of the alphabet is a label of a set with one tape
letter_over : (s : TapeSet) (x : ℕ) → has_letter s.alphabet x ≡ true → IsOverSets (s ∷ []) ((x ∷ []) ∷ [])
letter_over s x h = ((kind s.kind, All-cons (λ y. has_letter s.alphabet y ≡ true) x [] h (All-nil (λ y. has_letter s.alphabet y ≡ true))), tt)
  where
    kind : (k : TapeKind) → HasKind k (x ∷ [])
    kind Letters = refl
    kind Nullable = omega arith
    kind Words = tt

-- a letter of a class over the sets is a label
pub class_letter_over : ((a : Alphabet) (y : ℕ) → In y (letters_of a) ↔ (has_letter a y ≡ true)) → (sets : List TapeSet) (m : Mark) → IsClassOver sets (inside m.text)
    → (x : ℕ) → In x (letters_over sets m) → IsOverSets sets ((x ∷ []) ∷ [])
class_letter_over listed [] m c x i = absurd c
class_letter_over listed (s ∷ []) m c x i = letter_over s x ((listed s.alphabet x).0 (in_filter (has_in_class (inside m.text)) (letters_of s.alphabet) x i))
class_letter_over listed (s ∷ t ∷ sets) m c x i = absurd c

module _ (V : Type 0) (sets : List TapeSet) where
  abbrev Over : Term V → Type 0
  Over t = Everywhere (IsRootOver sets) t

  abbrev OverIn : Terms V → Type 0
  OverIn ts = EverywhereIn (IsRootOver sets) ts

  -- what is built keeps them
  pub built_over : (R : WeightSet V) (same : V → V → Bool) (t : Term V) → Over t → Over (built_of R same t)
  built_over R same t h = built_labels R same (IsOverSets sets) t h

  -- ---- the expression of a tree

  over_append : (ts us : Terms V) → OverIn ts → OverIn us → OverIn (append ts us)
  over_append NoTerms us h k = k
  over_append (MoreTerms t ts) us h k = (h.0, over_append ts us h.1 k)

  terms_factors : (is : Bool) (t : Term V) → Over t → OverIn (meaning.factors is t)
  terms_factors false t h = (h, tt)
  terms_factors true Zero h = (h, tt)
  terms_factors true One h = (h, tt)
  terms_factors true (Atom a) h = (h, tt)
  terms_factors true (Sum ts) h = (h, tt)
  terms_factors true (Product ts) h = h.1
  terms_factors true (Star t) h = (h, tt)
  terms_factors true (Weight k t) h = (h, tt)
  terms_factors true (Both t u) h = (h, tt)
  terms_factors true (Shuffle t u) h = (h, tt)

  terms_summands : (is : Bool) (t : Term V) → Over t → OverIn (summands is t)
  terms_summands false t h = (h, tt)
  terms_summands true Zero h = (h, tt)
  terms_summands true One h = (h, tt)
  terms_summands true (Atom a) h = (h, tt)
  terms_summands true (Sum ts) h = h.1
  terms_summands true (Product ts) h = (h, tt)
  terms_summands true (Star t) h = (h, tt)
  terms_summands true (Weight k t) h = (h, tt)
  terms_summands true (Both t u) h = (h, tt)
  terms_summands true (Shuffle t u) h = (h, tt)

  -- a label over the sets, or an empty one
  label_over : (w : Word) → (is_empty w ≡ true) ⊎ IsOverSets sets w → Over (label_term w)
  label_over w h = go (is_empty w) refl h
    where
      go : (b : Bool) → is_empty w ≡ b → (is_empty w ≡ true) ⊎ IsOverSets sets w → Over (if b then One else Atom w)
      go true e h = tt
      go false e (inl f) = let c : true ≡ false = sym f ∙ e in absurd (cc)
      go false e (inr k) = k

  letters_are_over : (xs : List ℕ) → ((x : ℕ) → In x xs → IsOverSets sets ((x ∷ []) ∷ [])) → OverIn (letter_terms xs)
  letters_are_over [] h = tt
  letters_are_over (x ∷ xs) h = (h x (inl refl), letters_are_over xs (λ y i. h y (inr i)))

  class_over : (xs : List ℕ) → ((x : ℕ) → In x xs → IsOverSets sets ((x ∷ []) ∷ [])) → Over (class_term xs)
  class_over [] h = tt
  class_over (x ∷ xs) h = (tt, letters_are_over (x ∷ xs) h)

-- `\e` has no letter
pub one_is_empty : (m : Mark) → m.kind ≡ kinds.One → is_empty (tape_of m ∷ []) ≡ true
one_is_empty m e = ap (λ k. is_empty (tape_text k m.text ∷ [])) e

parts_of_bars : (bs : List Barred) → map tape_of (map (λ b. b.part) bs) ≡ map (λ b. tape_of b.part) bs
parts_of_bars [] = refl
parts_of_bars (b ∷ bs) = ap (λ w. tape_of b.part ∷ w) (parts_of_bars bs)

-- an occurrence that is a label of the context has a word over the sets, or an empty one
parts_over : (sets : List TapeSet) (m : Mark) (bs : List Barred) → AreOccurrencesOver sets (occurrences (label m bs)) → (is_empty (label_word m bs) ≡ true) ⊎ IsOverSets sets (label_word m bs)
parts_over sets m bs h = subst (λ w. (is_empty (tape_of m ∷ w) ≡ true) ⊎ IsOverSets sets (tape_of m ∷ w)) (parts_of_bars bs) (go bs h.0)
  where
    go : (bs : List Barred) → IsOverSets sets (tape_of m ∷ map tape_of (map (λ b. b.part) bs)) ⊎ (IsEmptyOver sets (tape_of m ∷ map tape_of (map (λ b. b.part) bs)) ⊎ IsOneAlone m (map (λ b. b.part) bs))
        → (is_empty (tape_of m ∷ map tape_of (map (λ b. b.part) bs)) ≡ true) ⊎ IsOverSets sets (tape_of m ∷ map tape_of (map (λ b. b.part) bs))
    go bs (inl k) = inr k
    go bs (inr (inl e)) = inl e.0
    go [] (inr (inr e)) = inl (one_is_empty m e)
    go (b ∷ bs) (inr (inr e)) = absurd e

-- the labels on the left of labels of the context, and on the right
pub occur_left : (sets : List TapeSet) (os ps : List meaning.Occurrence) → AreOccurrencesOver sets (os ++ ps) → AreOccurrencesOver sets os
occur_left sets [] ps h = tt
occur_left sets (o ∷ os) ps h = (h.0, occur_left sets os ps h.1)

pub occur_right : (sets : List TapeSet) (os ps : List meaning.Occurrence) → AreOccurrencesOver sets (os ++ ps) → AreOccurrencesOver sets ps
occur_right sets [] ps h = h
occur_right sets (o ∷ os) ps h = occur_right sets os ps h.1

module _ {V : Type 0} (listed : (a : Alphabet) (y : ℕ) → In y (letters_of a) ↔ (has_letter a y ≡ true)) (sets : List TapeSet) (value : Mark → V) where
  abbrev Shown : Tree → Type 0
  Shown t = Everywhere (IsRootOver sets) (term_of value (letters_over sets) t)

  abbrev Occur : Tree → Type 0
  Occur t = AreOccurrencesOver sets (occurrences t)

  -- the labels of the expression of a tree are over the sets
  pub shown_over : (t : Tree) → Occur t → Shown t
  shown_over (zero_tree m) h = tt
  shown_over (label m bs) h = label_over V sets (label_word m bs) (parts_over sets m bs h)
  shown_over (class m) h = class_over V sets (letters_over sets m) (class_letter_over listed sets m h.0)
  shown_over (group opening t closing) h = shown_over t h
  shown_over (star t m) h = (tt, shown_over t h)
  shown_over (weight_behind t m) h = (tt, shown_over t h)
  shown_over (weight_before m t) h = (tt, shown_over t h)
  shown_over (times t u) h = (
    tt,
    over_append V sets (meaning.factors (is_times t) (term_of value (letters_over sets) t)) (MoreTerms (term_of value (letters_over sets) u) NoTerms)
        (terms_factors V sets (is_times t) (term_of value (letters_over sets) t) (shown_over t (occur_left sets (occurrences t) (occurrences u) h)))
        (shown_over u (occur_right sets (occurrences t) (occurrences u) h), tt),
  )
  shown_over (both t m u) h = (tt, shown_over t (occur_left sets (occurrences t) (occurrences u) h), shown_over u (occur_right sets (occurrences t) (occurrences u) h))
  shown_over (shuffle t m u) h = (tt, shown_over t (occur_left sets (occurrences t) (occurrences u) h), shown_over u (occur_right sets (occurrences t) (occurrences u) h))
  shown_over (plus t m u) h = (
    tt,
    over_append V sets (summands (is_plus t) (term_of value (letters_over sets) t)) (MoreTerms (term_of value (letters_over sets) u) NoTerms)
        (terms_summands V sets (is_plus t) (term_of value (letters_over sets) t) (shown_over t (occur_left sets (occurrences t) (occurrences u) h)))
        (shown_over u (occur_right sets (occurrences t) (occurrences u) h), tt),
  )
