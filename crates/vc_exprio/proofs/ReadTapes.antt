-- A raw expression that is read has the tapes of its context.
use Rattle.std.proofs.Common.{◌≡◌, ◌⊎◌, ℕ, Bool, true, false, List, [], ◌∷◌, ◌++◌, length, map, suc, None, refl, sym, ◌∙◌, ap, subst, inl, inr}
use Rattle.std.specs.Prelude.{if◌then◌else◌}
use Rattle.std.proofs.lemmas.List.{length-map}
use Rattle.vc_label.specs.Sets.{IsOverSets}
use Rattle.vc_label.specs.declared.tape_set.TapeSet.{TapeSet}
use Rattle.vc_lex.specs.Marks.{Mark}
use Rattle.vc_lex.specs.Parts.{tape_of}
use Rattle.vc_lex.specs.declared.token.TokenKind.TheVariants as kinds
use Rattle.vc_model.specs.Words.{Word, is_empty}
use Rattle.vc_terms.specs.Terms.{Term, Terms, NoTerms, MoreTerms, One, Atom, IsOnTapes, AreOnTapes}
use Rattle.vc_exprio.specs.Grammar.{InGrammar}
use Rattle.vc_exprio.specs.Meaning.{is_plus, is_times, label_word, label_term, class_term, letter_terms, summands, factors, append, occurrences, parts, term_of}
use Rattle.vc_exprio.specs.Occurring.{AreOccurrencesOver, IsOccurrenceOver, letters_over}
use Rattle.vc_exprio.specs.Places.{first_place, is_operator, is_operator_kind}
use Rattle.vc_exprio.specs.Trees.{Tree, Barred, zero_tree, label, class, group, star, weight_behind, weight_before, times, both, shuffle, plus, tokens_of}
use Rattle.vc_exprio.proofs.FirstPlaces.{none_left, none_right, none_at}
use Rattle.vc_exprio.proofs.RootsOver.{one_is_empty, occur_left, occur_right}

-- ---- the labels of a context

over_tapes : (sets : List TapeSet) (w : Word) → IsOverSets sets w → length w ≡ length sets
over_tapes [] [] o = refl
over_tapes [] (a ∷ w) o = absurd o
over_tapes (s ∷ sets) [] o = absurd o
over_tapes (s ∷ sets) (a ∷ w) o = ap suc (over_tapes sets w o.1)

-- ---- terms

module _ (V : Type 0) (n : ℕ) where
  appended : (ts us : Terms V) → AreOnTapes n ts → AreOnTapes n us → AreOnTapes n (append ts us)
  appended NoTerms us h k = k
  appended (MoreTerms t ts) us h k = (h.0, appended ts us h.1 k)

  -- a label with so many tapes, or one without letters
  labelled : (w : Word) → (is_empty w ≡ true) ⊎ (length w ≡ n) → IsOnTapes {V = V} n (label_term w)
  labelled w (inl e) = subst (λ b. IsOnTapes {V = V} n (if b then One else Atom w)) (sym e) tt
  labelled w (inr e) = go (is_empty w)
    where
      go : (b : Bool) → IsOnTapes {V = V} n (if b then One else Atom w)
      go true = tt
      go false = e

  lettered : (xs : List ℕ) → 1 ≡ n → AreOnTapes {V = V} n (letter_terms xs)
  lettered [] e = tt
  lettered (x ∷ xs) e = (e, lettered xs e)

  classed : (xs : List ℕ) → 1 ≡ n → IsOnTapes {V = V} n (class_term xs)
  classed [] e = tt
  classed (x ∷ xs) e = lettered (x ∷ xs) e

-- a label has as many parts
parts_length : (m : Mark) (bs : List Barred) → length (label_word m bs) ≡ length (map tape_of (m ∷ map (λ b. b.part) bs))
parts_length m bs = ap suc (length-map bs (λ b. tape_of b.part) ∙ sym (length-map (map (λ b. b.part) bs) tape_of ∙ length-map bs (λ b. b.part)))

module _ {V : Type 0} (value : Mark → V) (sets : List TapeSet) where
  abbrev raw : Tree → Term V
  raw t = term_of value (letters_over sets) t

  label_on : (m : Mark) (bs : List Barred) → IsOccurrenceOver sets (parts m (map (λ b. b.part) bs)) → IsOnTapes (length sets) (raw (label m bs))
  label_on m bs (inl h) = labelled V (length sets) (label_word m bs) (inr (parts_length m bs ∙ over_tapes sets (map tape_of (m ∷ map (λ b. b.part) bs)) h))
  label_on m bs (inr (inl h)) = labelled V (length sets) (label_word m bs) (inr (parts_length m bs ∙ h.1))
  label_on m [] (inr (inr h)) = labelled V (length sets) (label_word m []) (inl (one_is_empty m h))
  label_on m (b ∷ bs) (inr (inr h)) = absurd h

  class_on : (ss : List TapeSet) (m : Mark) → IsOnTapes {V = V} (length ss) (class_term (letters_over ss m))
  class_on [] m = tt
  class_on (s ∷ []) m = classed V 1 (letters_over (s ∷ []) m) refl
  class_on (s ∷ r ∷ ss) m = tt

  -- the members that a tree brings into a sum, the factors into a product
  summed : (t : Tree) → IsOnTapes (length sets) (raw t) → AreOnTapes (length sets) (summands (is_plus t) (raw t))
  summed (zero_tree m) h = (h, tt)
  summed (label m bs) h = (h, tt)
  summed (class m) h = (h, tt)
  summed (group opening t closing) h = (h, tt)
  summed (star t m) h = (h, tt)
  summed (weight_behind t m) h = (h, tt)
  summed (weight_before m t) h = (h, tt)
  summed (times t u) h = (h, tt)
  summed (both t m u) h = (h, tt)
  summed (shuffle t m u) h = (h, tt)
  summed (plus t m u) h = h

  multiplied : (t : Tree) → IsOnTapes (length sets) (raw t) → AreOnTapes (length sets) (factors (is_times t) (raw t))
  multiplied (zero_tree m) h = (h, tt)
  multiplied (label m bs) h = (h, tt)
  multiplied (class m) h = (h, tt)
  multiplied (group opening t closing) h = (h, tt)
  multiplied (star t m) h = (h, tt)
  multiplied (weight_behind t m) h = (h, tt)
  multiplied (weight_before m t) h = (h, tt)
  multiplied (times t u) h = h
  multiplied (both t m u) h = (h, tt)
  multiplied (shuffle t m u) h = (h, tt)
  multiplied (plus t m u) h = (h, tt)

  -- there is one tape, or neither `&` nor `:` stands in the tokens
  abbrev HasOperators : List Mark → Type 0
  HasOperators ms = (length sets ≡ 1) ⊎ (first_place is_operator ms ≡ None)

  ops_first : (ms ns : List Mark) → HasOperators (ms ++ ns) → HasOperators ms
  ops_first ms ns (inl e) = inl e
  ops_first ms ns (inr e) = inr (none_left is_operator ms ns e)

  ops_last : (ms ns : List Mark) → HasOperators (ms ++ ns) → HasOperators ns
  ops_last ms ns (inl e) = inl e
  ops_last ms ns (inr e) = inr (none_right is_operator ms ns e)

  ops_rest : (m : Mark) (ms : List Mark) → HasOperators (m ∷ ms) → HasOperators ms
  ops_rest m ms h = ops_last (m ∷ []) ms h

  -- a `:` stands over one tape
  one_tape : (ms : List Mark) (m : Mark) (ns : List Mark) → m.kind ≡ kinds.Shuffle → HasOperators (ms ++ m ∷ ns) → length sets ≡ 1
  one_tape ms m ns k (inl e) = e
  one_tape ms m ns k (inr e) = absurd (cc (sym (ap is_operator_kind k) ∙ none_at is_operator m ns (none_right is_operator ms (m ∷ ns) e)))

  module _ (is_weight : Mark → Bool) where
    -- each label has the tapes of the context, and a shuffle stands over one tape alone
    pub raw_on_tapes : (t : Tree) → InGrammar is_weight t → AreOccurrencesOver sets (occurrences t) → HasOperators (tokens_of t) → IsOnTapes (length sets) (raw t)
    raw_on_tapes (zero_tree m) g o h = tt
    raw_on_tapes (label m bs) g o h = label_on m bs o.0
    raw_on_tapes (class m) g o h = class_on sets m
    raw_on_tapes (group opening t closing) g o h = raw_on_tapes t g.1.1 o (ops_first (tokens_of t) (closing ∷ []) (ops_rest opening (tokens_of t ++ closing ∷ []) h))
    raw_on_tapes (star t m) g o h = raw_on_tapes t g.0.1 o (ops_first (tokens_of t) (m ∷ []) h)
    raw_on_tapes (weight_behind t m) g o h = raw_on_tapes t g.0.1 o (ops_first (tokens_of t) (m ∷ []) h)
    raw_on_tapes (weight_before m t) g o h = raw_on_tapes t g.1.1 o (ops_rest m (tokens_of t) h)
    raw_on_tapes (times t u) g o h =
        appended V (length sets) (factors (is_times t) (raw t)) (MoreTerms (raw u) NoTerms)
        (multiplied t (raw_on_tapes t g.0.1 (occur_left sets (occurrences t) (occurrences u) o) (ops_first (tokens_of t) (tokens_of u) h)))
        (raw_on_tapes u g.1.1 (occur_right sets (occurrences t) (occurrences u) o) (ops_last (tokens_of t) (tokens_of u) h), tt)
    raw_on_tapes (both t m u) g o h = (
      raw_on_tapes t g.0.1 (occur_left sets (occurrences t) (occurrences u) o) (ops_first (tokens_of t) (m ∷ tokens_of u) h),
      raw_on_tapes u g.2.1 (occur_right sets (occurrences t) (occurrences u) o) (ops_rest m (tokens_of u) (ops_last (tokens_of t) (m ∷ tokens_of u) h)),
    )
    raw_on_tapes (shuffle t m u) g o h = (
      one_tape (tokens_of t) m (tokens_of u) g.1 h,
      raw_on_tapes t g.0.1 (occur_left sets (occurrences t) (occurrences u) o) (ops_first (tokens_of t) (m ∷ tokens_of u) h),
      raw_on_tapes u g.2.1 (occur_right sets (occurrences t) (occurrences u) o) (ops_rest m (tokens_of u) (ops_last (tokens_of t) (m ∷ tokens_of u) h)),
    )
    raw_on_tapes (plus t m u) g o h =
        appended V (length sets) (summands (is_plus t) (raw t)) (MoreTerms (raw u) NoTerms)
        (summed t (raw_on_tapes t g.0.1 (occur_left sets (occurrences t) (occurrences u) o) (ops_first (tokens_of t) (m ∷ tokens_of u) h)))
        (raw_on_tapes u g.2.1 (occur_right sets (occurrences t) (occurrences u) o) (ops_rest m (tokens_of u) (ops_last (tokens_of t) (m ∷ tokens_of u) h)), tt)
