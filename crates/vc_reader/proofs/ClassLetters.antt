-- Letters of a class, one after the other.
use Rattle.std.proofs.Common.{◌≡◌, ℕ, Bool, true, false, List, [], ◌∷◌, map, refl, ap, sym, ◌∙◌, subst, inl, inr, arith}
use Rattle.std.proofs.lemmas.List.Elements.{All-cons, All-nil}
use Rattle.std.specs.Prelude.{filter, if◌then◌else◌, slice_get, Some, None, ◌↔◌}
use Rattle.vc_label.specs.Alphabets.{has_letter, letters_of}
use Rattle.vc_label.specs.Sets.{IsOverSets, HasKind}
use Rattle.vc_label.specs.declared.alphabet.Alphabet.{Alphabet}
use Rattle.vc_label.specs.declared.tape_set.TapeKind.{TapeKind}
use Rattle.vc_label.specs.declared.tape_set.TapeKind.TheVariants.{Letters, Nullable, Words}
use Rattle.vc_label.specs.declared.tape_set.TapeSet.{TapeSet}
use Rattle.vc_lex.specs.Labels.{IsClassOver, class_words}
use Rattle.vc_model.specs.Lists.{In}
use Rattle.vc_reader.specs.Meaning.{Given, moves_with}
use Rattle.vc_text.specs.Classes.{IsClassOf, class_items, class_letters, has_in_class, has_singles}

-- what letters give
abbrev pub given_letters : {V : Type 0} → ℕ → ℕ → V → List ℕ → List (Given V)
given_letters from to w xs = map (moves_with from to w) (map (λ x. (x ∷ []) ∷ []) xs)

one_set : (t s : TapeSet) (ts : List TapeSet) → slice_get (t ∷ ts) 0 ≡ Some s → t ≡ s
one_set t s ts e = cc

-- what the letters of a class give, over sets of which this is the first
pub class_given : {V : Type 0} (sets : List TapeSet) (body : List ℕ) (s : TapeSet) (k : Alphabet) (from to : ℕ) (w : V) → slice_get sets 0 ≡ Some s
    → IsClassOf s.alphabet body (Some k) → given_letters from to w (letters_of k) ≡ map (moves_with from to w) (class_words sets body)
class_given [] body s k from to w e c = absurd (cc)
class_given (t ∷ ts) body s k from to w e c =
    ap (given_letters from to w) c.1 ∙ ap (λ (u : TapeSet). given_letters from to w (class_letters u.alphabet body)) (sym (one_set t s ts e))

-- a class over sets is one of the alphabet of the first of them
pub class_is_one : (sets : List TapeSet) (body : List ℕ) (s : TapeSet) → IsClassOver sets body → slice_get sets 0 ≡ Some s → IsClassOf s.alphabet body None → ⊥
class_is_one [] body s c e n = c
class_is_one (t ∷ []) body s c e n =
    let h : has_singles s.alphabet (class_items body) ≡ true = subst (λ (u : TapeSet). has_singles u.alphabet (class_items body) ≡ true) (one_set t s [] e) c in
    let f : true ≡ false = sym h ∙ n in cc
class_is_one (t ∷ u ∷ ts) body s c e n = c

in_filter : (p : ℕ → Bool) (xs : List ℕ) (x : ℕ) → In x (filter p xs) → In x xs
in_filter p [] x i = i
in_filter p (y ∷ ys) x i = go (p y) (λ j. in_filter p ys x j) i
  where
    go : (b : Bool) → (In x (filter p ys) → In x ys) → In x (if b then y ∷ filter p ys else filter p ys) → In x (y ∷ ys)
    go true r (inl e) = inl e
    go true r (inr j) = inr (r j)
    go false r j = inr (r j)

-- a letter of the alphabet is a label of a set with one tape
letter_over : (s : TapeSet) (x : ℕ) → has_letter s.alphabet x ≡ true → IsOverSets (s ∷ []) ((x ∷ []) ∷ [])
letter_over s x h = ((kind s.kind, All-cons (λ y. has_letter s.alphabet y ≡ true) x [] h (All-nil (λ y. has_letter s.alphabet y ≡ true))), tt)
  where
    kind : (k : TapeKind) → HasKind k (x ∷ [])
    kind Letters = refl
    kind Nullable = omega arith
    kind Words = tt

-- a letter of a class is a label
pub class_over : (sets : List TapeSet) (body : List ℕ) (s : TapeSet) (k : Alphabet) → ((a : Alphabet) (y : ℕ) → In y (letters_of a) ↔ (has_letter a y ≡ true))
    → IsClassOver sets body → slice_get sets 0 ≡ Some s → IsClassOf s.alphabet body (Some k) → (x : ℕ) → In x (letters_of k) → IsOverSets sets ((x ∷ []) ∷ [])
class_over [] body s k listed c e h x i = absurd c
class_over (t ∷ []) body s k listed c e h x i =
    let j : has_letter s.alphabet x ≡ true = (listed s.alphabet x).0 (in_filter (has_in_class body) (letters_of s.alphabet) x (subst (In x) h.1 i)) in
    letter_over t x (subst (λ (u : TapeSet). has_letter u.alphabet x ≡ true) (sym (one_set t s [] e)) j)
class_over (t ∷ u ∷ ts) body s k listed c e h x i = absurd c
