-- The canonical text of a context spells it, and no other.
use Rattle.std.proofs.Common.{◌≡◌, ◌⊎◌, ℕ, ◌≤◌, Bool, true, false, ◌||◌, List, [], ◌∷◌, ◌++◌, length, Some, refl, ap, sym, ◌∙◌, subst, append_assoc, append-nil, inl, inr, arith, IsTrue}
use Rattle.std.proofs.lemmas.Bool.Decides.{nat_tests}
use Rattle.std.proofs.lemmas.Grind.{common_steps}
use Rattle.std.specs.Prelude.{codes, map, if◌then◌else◌}
use Rattle.std.specs.List.{flat_map}
use Rattle.vc_context.specs.Canonical.{kind_name, tape_text, comma_text, labels_text, context_text}
use Rattle.vc_text.specs.Letters.{letter_text, SpellsLetter, is_plain, is_escaped}
use Rattle.vc_context.specs.Reading.{Tape, tape_of, single}
use Rattle.vc_context.specs.Spelling.{SpellsAlphabet, called, named_frames, IsTape, AreJoined, IsComma, IsLabels, weights_name, SpellsContext}
use Rattle.vc_context.specs.Spelling.{SpellsItems, is_between, is_named}
use Rattle.vc_context.specs.declared.context.Weights.{Weights}
use Rattle.vc_context.proofs.Alphabets.{AreListed, same_tests, either}
use Rattle.vc_context.proofs.Fronts.{Begins, begins_both, begins_spaced}
use Rattle.vc_context.proofs.Whole.{context_read}
use Rattle.vc_label.specs.Alphabets.{has_letter, letters_of}
use Rattle.vc_label.specs.Letters.{is_letter}
use Rattle.vc_label.specs.declared.alphabet.Alphabet.{Alphabet}
use Rattle.vc_label.specs.declared.tape_set.TapeKind.{TapeKind}
use Rattle.vc_label.specs.declared.tape_set.TapeKind.TheVariants.{Letters, Nullable, Words}
use Rattle.vc_label.specs.declared.tape_set.TapeSet.{TapeSet}
use Rattle.vc_model.specs.Lists.{In}

-- ---- letters

escaped_letter : (x : ℕ) → IsTrue (is_letter x) → is_plain x ≡ false → is_escaped x ≡ true
unfolding is_escaped
escaped_letter x letter other = rw (other) (grind (arith, common_steps))

letter_spelled : (x : ℕ) → IsTrue (is_letter x) → SpellsLetter (letter_text x) x
letter_spelled x letter = at_plain (is_plain x) refl
  where
    at_plain : (b : Bool) → is_plain x ≡ b → SpellsLetter (if b then x ∷ [] else 92 ∷ x ∷ []) x
    at_plain true e = inl (e, refl)
    at_plain false e = inr (escaped_letter x letter e, refl)

letters_spelled : (l : List ℕ) → ((x : ℕ) → In x l → IsTrue (is_letter x)) → SpellsItems (flat_map letter_text l) (map single l)
letters_spelled [] letters = refl
letters_spelled (x ∷ l) letters =
    (letter_text x, flat_map letter_text l, refl, inl (letter_spelled x (letters x (inl refl)), refl), letters_spelled l (λ y member. letters y (inr member)))

between_is : (x y : ℕ) → is_between x (single y) ≡ true → x ≡ y
between_is x y e = grind (arith, common_steps, nat_tests)

is_between_itself : (x : ℕ) → is_between x (single x) ≡ true
is_between_itself x = grind (arith, nat_tests)

named_in : (l : List ℕ) (x : ℕ) → is_named (map single l) x ≡ true → In x l
named_in [] x e = absurd (cc)
named_in (y ∷ l) x e = which (either (is_between x (single y)) (is_named (map single l) x) e) (named_in l x)
  where
    which : (is_between x (single y) ≡ true) ⊎ (is_named (map single l) x ≡ true) → (is_named (map single l) x ≡ true → In x l) → In x (y ∷ l)
    which (inl same) rest = inl (between_is x y same)
    which (inr named) rest = inr (rest named)

or_true : (b : Bool) → (b || true) ≡ true
or_true true = refl
or_true false = refl

in_named : (l : List ℕ) (x : ℕ) → In x l → is_named (map single l) x ≡ true
in_named [] x member = absurd member
in_named (y ∷ l) x (inl e) =
    ap (λ b. b || is_named (map single l) x) (subst (λ z. is_between x (single z) ≡ true) e (is_between_itself x))
in_named (y ∷ l) x (inr member) = ap (λ b. is_between x (single y) || b) (in_named l x member) ∙ or_true (is_between x (single y))

-- what an alphabet has are letters
abbrev pub OnlyLetters : Type 0
OnlyLetters = (s : Alphabet) (x : ℕ) → has_letter s x ≡ true → IsTrue (is_letter x)

-- alphabets with the same letters are the same
abbrev pub AreSets : Type 0
AreSets = (s t : Alphabet) → ((x : ℕ) → has_letter s x ≡ has_letter t x) → s ≡ t

alphabet_spelled : AreListed → OnlyLetters → (a : Alphabet) → SpellsAlphabet (flat_map letter_text (letters_of a)) a
alphabet_spelled listed letters a = (
  map single (letters_of a),
  letters_spelled (letters_of a) (λ x member. letters a x ((listed a x).0 member)),
  λ x. same_tests (has_letter a x) (is_named (map single (letters_of a)) x)
      (λ h. in_named (letters_of a) x ((listed a x).1 h))
      (λ h. (listed a x).0 (named_in (letters_of a) x h)),
)

-- ---- tapes

abbrev tape_pieces : TapeSet → List (List ℕ)
tape_pieces set = kind_name set.kind ∷ codes "(" ∷ flat_map letter_text (letters_of set.alphabet) ∷ codes ")" ∷ []

named_kind : (kind : TapeKind) → In (called (kind_name kind)) (named_frames kind)
named_kind Letters = inl refl
named_kind Nullable = inl refl
named_kind Words = inl refl

tape_spelled : AreListed → OnlyLetters → (set : TapeSet) → IsTape (tape_pieces set) set
tape_spelled listed letters set =
    inl (called (kind_name set.kind), named_kind set.kind, (flat_map letter_text (letters_of set.alphabet), refl, alphabet_spelled listed letters set.alphabet))

tape_begins : (set : TapeSet) (rest : List ℕ) → Begins (tape_pieces set) (tape_text set ++ rest) rest
tape_begins set rest =
    let text : List ℕ = flat_map letter_text (letters_of set.alphabet) in
    let last : (text ++ codes ")") ++ rest ≡ text ++ (codes ")" ++ rest) = append_assoc text (codes ")") rest in (
      [],
      codes "(" ++ (text ++ (codes ")" ++ rest)),
      append_assoc (kind_name set.kind) (codes "(" ++ (text ++ codes ")")) rest ∙ ap (λ t. kind_name set.kind ++ (codes "(" ++ t)) last,
      refl,
      (
        [],
        text ++ (codes ")" ++ rest),
        refl,
        refl,
        (
          [],
          codes ")" ++ rest,
          refl,
          refl,
          ([], rest, refl, refl, refl),
        ),
      ),
    )

-- a blank before the first piece
blank_before : (piece : List ℕ) (pieces : List (List ℕ)) (s rest : List ℕ) → Begins (piece ∷ pieces) s rest → Begins (piece ∷ pieces) (32 ∷ s) rest
blank_before piece pieces s rest (blanks, next, at, are, begins) = (32 ∷ blanks, next, ap (λ t. 32 ∷ t) at, are, begins)

-- the pieces of several tapes behind the first
abbrev pieces_behind : List TapeSet → List (List ℕ)
pieces_behind [] = []
pieces_behind (set ∷ sets) = codes "," ∷ (tape_pieces set ++ pieces_behind sets)

joined_spelled : AreListed → OnlyLetters → (set : TapeSet) (sets : List TapeSet) → AreJoined IsComma IsTape (tape_pieces set ++ pieces_behind sets) (set ∷ sets)
joined_spelled listed letters set [] = subst (λ (p : List (List ℕ)). IsTape p set) (sym (append-nil (tape_pieces set))) (tape_spelled listed letters set)
joined_spelled listed letters set (next ∷ sets) =
    (tape_pieces set, tape_pieces next ++ pieces_behind sets, codes ",", refl, tape_spelled listed letters set, refl, joined_spelled listed letters next sets)

joined_begins : (set : TapeSet) (sets : List TapeSet) (rest : List ℕ)
    → Begins (tape_pieces set ++ pieces_behind sets) (tape_text set ++ (flat_map comma_text sets ++ rest)) rest
joined_begins set [] rest = begins_both (tape_pieces set) [] (tape_text set ++ rest) rest rest (tape_begins set rest) refl
joined_begins set (next ∷ sets) rest =
    let behind : List ℕ = tape_text next ++ (flat_map comma_text sets ++ rest) in
    let regrouped : (comma_text next ++ flat_map comma_text sets) ++ rest ≡ 44 ∷ 32 ∷ behind =
    append_assoc (comma_text next) (flat_map comma_text sets) rest ∙ append_assoc (codes ", ") (tape_text next) (flat_map comma_text sets ++ rest) in
    let spaced : Begins (tape_pieces next ++ pieces_behind sets) (32 ∷ behind) rest =
    blank_before (kind_name next.kind) (codes "(" ∷ flat_map letter_text (letters_of next.alphabet) ∷ codes ")" ∷ pieces_behind sets) behind rest (joined_begins next sets rest) in
    begins_both (tape_pieces set) (codes "," ∷ (tape_pieces next ++ pieces_behind sets)) (tape_text set ++ ((comma_text next ++ flat_map comma_text sets) ++ rest)) (44 ∷ 32 ∷ behind) rest
    (subst (λ t. Begins (tape_pieces set) (tape_text set ++ t) (44 ∷ 32 ∷ behind)) (sym regrouped) (tape_begins set (44 ∷ 32 ∷ behind)))
    ([], 32 ∷ behind, refl, refl, spaced)

-- ---- contexts

-- a label set whose pieces begin a text
record LabelsWritten (sets : List TapeSet) (text : List ℕ) : Type 0 where
  pieces : List (List ℕ)
  are_labels : IsLabels pieces sets
  begins : (rest : List ℕ) → Begins pieces (text ++ rest) rest

labels_written : AreListed → OnlyLetters → (sets : List TapeSet) → 1 ≤ length sets → length sets ≤ 4 → LabelsWritten sets (labels_text sets)
labels_written listed letters [] some few = absurd (omega arith)
labels_written listed letters (set ∷ []) some few = record {
  pieces = tape_pieces set;
  are_labels = inl (set, refl, tape_spelled listed letters set);
  begins = tape_begins set;
}
labels_written listed letters (set ∷ next ∷ sets) some few =
    let inside : List (List ℕ) = tape_pieces set ++ pieces_behind (next ∷ sets) in
    let middle : List ℕ = tape_text set ++ (flat_map comma_text (next ∷ sets) ++ codes ">") in
    record {
      pieces = codes "lat" ∷ codes "<" ∷ (inside ++ codes ">" ∷ []);
      are_labels = inr (inl (codes "lat", inside, inl refl, refl, joined_spelled listed letters set (next ∷ sets), (omega arith, few)));
      begins = λ rest.
          let regrouped : middle ++ rest ≡ tape_text set ++ (flat_map comma_text (next ∷ sets) ++ (codes ">" ++ rest)) =
          append_assoc (tape_text set) (flat_map comma_text (next ∷ sets) ++ codes ">") rest
          ∙ ap (λ t. tape_text set ++ t) (append_assoc (flat_map comma_text (next ∷ sets)) (codes ">") rest) in
          let listed_begins : Begins (inside ++ codes ">" ∷ []) (middle ++ rest) rest =
          subst (λ t. Begins (inside ++ codes ">" ∷ []) t rest) (sym regrouped)
          (begins_both inside (codes ">" ∷ []) (tape_text set ++ (flat_map comma_text (next ∷ sets) ++ (codes ">" ++ rest))) (codes ">" ++ rest) rest
          (joined_begins set (next ∷ sets) (codes ">" ++ rest)) ([], rest, refl, refl, refl)) in
          ([], codes "<" ++ (middle ++ rest), refl, refl, ([], middle ++ rest, refl, refl, listed_begins));
    }

pub context_written : AreListed → OnlyLetters → (sets : List TapeSet) (weights : Weights) → 1 ≤ length sets → length sets ≤ 4
    → SpellsContext (context_text sets weights) sets weights
context_written listed letters sets weights some few =
    let labels = labels_written listed letters sets some few in
    let name : List ℕ = weights_name weights in
    record {
      labels = labels.pieces;
      mark = codes ",";
      is_labels = labels.are_labels;
      is_arrow = inl refl;
      spaced = begins_spaced (labels.pieces ++ codes "," ∷ name ∷ []) (context_text sets weights) []
          (begins_both labels.pieces (codes "," ∷ name ∷ []) (context_text sets weights) (codes ", " ++ name) [] (labels.begins (codes ", " ++ name))
          ([], 32 ∷ name, refl, refl, (32 ∷ [], [], ap (λ t. 32 ∷ t) (sym (append-nil name)), refl, refl)))
          refl;
    }

-- ---- at most one context

same_alphabet : AreListed → AreSets → (s t : Alphabet) → letters_of s ≡ letters_of t → s ≡ t
same_alphabet listed sets s t e = sets s t (λ x. same_tests (has_letter s x) (has_letter t x)
    (λ h. (listed t x).0 (subst (In x) e ((listed s x).1 h)))
    (λ h. (listed s x).0 (subst (In x) (sym e) ((listed t x).1 h))))

same_tape : AreListed → AreSets → (s t : TapeSet) → tape_of s ≡ tape_of t → s ≡ t
same_tape listed sets s t e =
    let kind : s.kind ≡ t.kind = ap (λ (p : Tape). p.kind) e in
    let alphabet : s.alphabet ≡ t.alphabet = same_alphabet listed sets s.alphabet t.alphabet (ap (λ (p : Tape). p.letters) e) in
    ap (λ k. (let r : TapeSet = record { kind = k; alphabet = s.alphabet } in r)) kind
    ∙ ap (λ a. (let r : TapeSet = record { kind = t.kind; alphabet = a } in r)) alphabet

same_tapes : AreListed → AreSets → (ss ts : List TapeSet) → map tape_of ss ≡ map tape_of ts → ss ≡ ts
same_tapes listed sets [] [] e = refl
same_tapes listed sets [] (t ∷ ts) e = absurd (cc)
same_tapes listed sets (s ∷ ss) [] e = absurd (cc)
same_tapes listed sets (s ∷ ss) (t ∷ ts) e =
    let first : tape_of s ≡ tape_of t = cc in
    let rest : map tape_of ss ≡ map tape_of ts = cc in
    ap (λ x. x ∷ ss) (same_tape listed sets s t first) ∙ ap (λ xs. t ∷ xs) (same_tapes listed sets ss ts rest)

pub one_context : AreListed → AreSets → (text : List ℕ) (sets others : List TapeSet) (weights other : Weights)
    → SpellsContext text sets weights → SpellsContext text others other → (sets ≡ others) × (weights ≡ other)
one_context listed are_sets text sets others weights other first second =
    let p : List Tape × Weights = (map tape_of sets, weights) in
    let q : List Tape × Weights = (map tape_of others, other) in
    let found : Some p ≡ Some q = sym (context_read text sets weights first) ∙ context_read text others other second in
    let same : p ≡ q = cc in
    (same_tapes listed are_sets sets others (ap (λ (r : List Tape × Weights). r.0) same), ap (λ (r : List Tape × Weights). r.1) same)
