-- The part that a text begins with.
use Rattle.std.proofs.Common.{◌≡◌, ◌≢◌, ◌⊎◌, inl, inr, ℕ, Bool, true, false, ◌&&◌, ◌==◌, List, [], ◌∷◌, ◌++◌, drop, Option, Some, None, IsTrue, refl, ap, sym, ◌∙◌, subst, append_assoc, ◌-◌, length, take, arith}
use Rattle.std.specs.Prelude.{if◌then◌else◌, codes, ◌||◌}
use Rattle.std.proofs.lemmas.Bool.{eqb-true, false≢true}
use Rattle.vc_exprio.proofs.Blanks.{skip_blanks, skip_other, blanks_before}
use Rattle.vc_exprio.proofs.Letters.{both_true, split, IsSplit, HasNone, HasThese, letters_first, none_first}
use Rattle.std.proofs.Math.Seq.{take-append_seam}
use Rattle.std.proofs.lemmas.List.{length-append}
use Rattle.vc_text.specs.Escapes.{unescaped}
use Rattle.vc_exprio.proofs.PartLetters.{letters_read}
use Rattle.vc_exprio.specs.WordParts.{text_before, front_letters, after_letters, Found, closed, run, begins_e, part_in, part_at}
use Rattle.vc_exprio.specs.Words.{letters_text, IsPartText, BeginsPart}
use Rattle.vc_label.specs.Letters.{are_letters, is_letter}
use Rattle.vc_model.specs.Words.{Tape}
use Rattle.vc_text.specs.Blanks.{after_blanks, AreBlanks, is_blank}
use Rattle.vc_text.specs.LetterLaws.{other_is_escaped, escaped_not_plain}
use Rattle.vc_text.specs.Letters.{is_plain, is_escaped, letter_text}
use Rattle.std.specs.List.{list_all}

-- ---- the text of letters in front of a rest

letters_before : (a : Tape) (rest : List ℕ) → unescaped (text_before rest (letters_text a ++ rest)) ≡ a
letters_before a rest =
    let n : length (letters_text a ++ rest) - length rest ≡ length (letters_text a) = omega (arith, length-append (letters_text a) rest) in
    ap (λ k. unescaped (take k (letters_text a ++ rest))) n ∙ ap unescaped (take-append_seam (letters_text a) rest) ∙ letters_read a

text_read : (text : List ℕ) → unescaped (text_before (after_letters text) text) ≡ front_letters text
text_read text = ap (λ s. unescaped (text_before (after_letters text) s)) (split text).is ∙ letters_before (front_letters text) (after_letters text)

-- ---- a part that is found begins the text

pub record IsPart (text : List ℕ) (a : Tape) (rest : List ℕ) : Type 0 where
  pub part : List ℕ
  pub behind : List ℕ
  pub is : text ≡ part ++ (behind ++ rest)
  pub blank_behind : AreBlanks behind
  pub spells : IsPartText part a
  pub letters : IsTrue (are_letters a)

abbrev IsFound : List ℕ → Option Found → Type 0
IsFound text None = Unit {0}
IsFound text (Some f) = IsPart text (unescaped f.letters) f.after

-- a part, and a text from which blanks are skipped
with_blanks : (text part rest : List ℕ) (a : Tape) → text ≡ part ++ rest → IsPartText part a → IsTrue (are_letters a) → IsPart text a (after_blanks rest)
with_blanks text part rest a e s l =
    let b = blanks_before rest in
    record { part = part; behind = b.0; is = e ∙ ap (λ t. part ++ t) b.1; blank_behind = b.2; spells = s; letters = l }

run_found : (x : ℕ) (s : List ℕ) (a : Tape) → front_letters (x ∷ s) ≡ a → IsFound (x ∷ s) (run (x ∷ s) a)
run_found x s [] e = tt
run_found x s (y ∷ a) e =
    let sp = split (x ∷ s) in
    let some : front_letters (x ∷ s) ≢ [] = λ h. absurd (cc) in
    subst (λ b. IsPart (x ∷ s) b (after_blanks (after_letters (x ∷ s)))) (sym (text_read (x ∷ s)))
    (with_blanks (x ∷ s) (letters_text (front_letters (x ∷ s))) (after_letters (x ∷ s)) (front_letters (x ∷ s)) sp.is (inr (inl (some, refl))) sp.letters)

closed_found : (s rest : List ℕ) → after_letters s ≡ rest → IsFound (39 ∷ s) (closed s rest)
closed_found s [] e = tt
closed_found s (x ∷ rest) e = go (x == 39) refl
  where
    sp : IsSplit s (front_letters s) (after_letters s)
    sp = split s

    text : x ≡ 39 → 39 ∷ s ≡ (39 ∷ (letters_text (front_letters s) ++ 39 ∷ [])) ++ rest
    text q = ap (λ t. 39 ∷ t) (sp.is ∙ ap (λ t. letters_text (front_letters s) ++ t) (e ∙ ap (λ z. z ∷ rest) q) ∙ sym (append_assoc (letters_text (front_letters s)) (39 ∷ []) rest))

    read : unescaped (text_before (x ∷ rest) s) ≡ front_letters s
    read = ap (λ r. unescaped (text_before r s)) (sym e) ∙ text_read s

    go : (b : Bool) → (x == 39) ≡ b → IsFound (39 ∷ s) (if b then Some (record { letters = text_before (x ∷ rest) s; after = after_blanks rest }) else None)
    go true q =
        subst (λ b. IsPart (39 ∷ s) b (after_blanks rest)) (sym read)
        (with_blanks (39 ∷ s) (39 ∷ (letters_text (front_letters s) ++ 39 ∷ [])) rest (front_letters s) (text (eqb-true x 39 q)) (inr (inr refl)) sp.letters)
    go false q = tt

empty_found : (x : ℕ) (s : List ℕ) → (x == 92 && begins_e s) ≡ true → IsPart (x ∷ s) [] (after_blanks (drop 1 s))
empty_found x [] e = absurd (false≢true (sym (ands (x == 92)) ∙ e))
  where
    ands : (b : Bool) → b && false ≡ false
    ands true = refl
    ands false = refl
empty_found x (y ∷ s) e =
    let each = both_true (x == 92) (y == 101) e in
    with_blanks (x ∷ y ∷ s) (92 ∷ 101 ∷ []) s [] (ap (λ z. z ∷ y ∷ s) (eqb-true x 92 each.0) ∙ ap (λ z. 92 ∷ z ∷ s) (eqb-true y 101 each.1)) (inl (refl, refl)) refl

found_in : (text : List ℕ) → IsFound text (part_in text)
found_in [] = tt
found_in (x ∷ s) = go (x == 39) (x == 92 && begins_e s) refl refl
  where
    go : (b c : Bool) → (x == 39) ≡ b → (x == 92 && begins_e s) ≡ c
        → IsFound (x ∷ s) (if b then closed s (after_letters s) else (if c then Some (record { letters = []; after = after_blanks (drop 1 s) }) else run (x ∷ s) (front_letters (x ∷ s))))
    go true c e f = subst (λ z. IsFound (z ∷ s) (closed s (after_letters s))) (sym (eqb-true x 39 e)) (closed_found s (after_letters s) refl)
    go false true e f = empty_found x s f
    go false false e f = run_found x s (front_letters (x ∷ s)) refl

begun : (text : List ℕ) (a : Tape) (rest : List ℕ) → IsPart (after_blanks text) a rest → BeginsPart text a rest
begun text a rest p =
    let b = blanks_before text in
    record { before = b.0; part = p.part; behind = p.behind; is = b.1 ∙ ap (λ t. b.0 ++ t) p.is; blank_before = b.2; blank_behind = p.blank_behind; spells = p.spells; letters = p.letters }

pub part_sound : (text : List ℕ) (f : Found) → part_at text ≡ Some f → BeginsPart text (unescaped f.letters) f.after
part_sound text f e = begun text (unescaped f.letters) f.after (subst (IsFound (after_blanks text)) e (found_in (after_blanks text)))

-- ---- a part that begins the text is found

-- nothing follows, or a bar
abbrev pub Ends : List ℕ → Type 0
Ends rest = (rest ≡ []) ⊎ ((s : List ℕ) × (rest ≡ 124 ∷ s))

pub at_end : Ends []
at_end = inl refl

pub at_bar : (s : List ℕ) → Ends (124 ∷ s)
at_bar s = inr (s, refl)

pub record FindsPart (text : List ℕ) (a : Tape) (rest : List ℕ) : Type 0 where
  pub found : Found
  pub is : part_at text ≡ Some found
  pub letters : unescaped found.letters ≡ a
  pub after : found.after ≡ rest

bar_first : (s : List ℕ) → HasNone (124 ∷ s)
unfolding is_plain
bar_first s = none_first 124 s refl refl

quote_first : (s : List ℕ) → HasNone (39 ∷ s)
unfolding is_plain
quote_first s = none_first 39 s refl refl

space_first : (s : List ℕ) → HasNone (32 ∷ s)
unfolding is_plain
space_first s = none_first 32 s refl refl

tab_first : (s : List ℕ) → HasNone (9 ∷ s)
unfolding is_plain
tab_first s = none_first 9 s refl refl

blank_first : (x : ℕ) (s : List ℕ) → is_blank x ≡ true → HasNone (x ∷ s)
blank_first x s e = go (x == 32) (x == 9) refl refl e
  where
    go : (b c : Bool) → (x == 32) ≡ b → (x == 9) ≡ c → (b || c) ≡ true → HasNone (x ∷ s)
    go true c p q h = subst (λ z. HasNone (z ∷ s)) (sym (eqb-true x 32 p)) (space_first s)
    go false true p q h = subst (λ z. HasNone (z ∷ s)) (sym (eqb-true x 9 q)) (tab_first s)
    go false false p q h = absurd (false≢true h)

end_first : (rest : List ℕ) → Ends rest → HasNone rest
end_first rest (inl e) = subst HasNone (sym e) (record { front = refl; after = refl })
end_first rest (inr (s, e)) = subst HasNone (sym e) (bar_first s)

tail_first : (behind rest : List ℕ) → AreBlanks behind → Ends rest → HasNone (behind ++ rest)
tail_first [] rest b e = end_first rest e
tail_first (x ∷ behind) rest b e = blank_first x (behind ++ rest) (both_true (is_blank x) (list_all is_blank behind) b).0

end_rest : (rest : List ℕ) → Ends rest → after_blanks rest ≡ rest
end_rest rest (inl e) = rw e refl
end_rest rest (inr (s, e)) = rw e refl

tail_rest : (behind rest : List ℕ) → AreBlanks behind → Ends rest → after_blanks (behind ++ rest) ≡ rest
tail_rest behind rest b e = skip_blanks behind rest b ∙ end_rest rest e

-- a part that does not begin with a blank, in front of a text in which no letter begins
pub record Stands (part : List ℕ) (a : Tape) (tail : List ℕ) : Type 0 where
  pub first : after_blanks (part ++ tail) ≡ part ++ tail
  pub found : Found
  pub is : part_in (part ++ tail) ≡ Some found
  pub letters : unescaped found.letters ≡ a
  pub after : found.after ≡ after_blanks tail

empty_stands : (tail : List ℕ) → Stands (codes "\\e") [] tail
empty_stands tail = record { first = refl; found = record { letters = []; after = after_blanks tail }; is = refl; letters = refl; after = refl }

quoted_stands : (a : Tape) (tail : List ℕ) → IsTrue (are_letters a) → Stands (39 ∷ (letters_text a ++ 39 ∷ [])) a tail
quoted_stands a tail l =
    let h : HasThese (letters_text a ++ 39 ∷ tail) a (39 ∷ tail) = letters_first a (39 ∷ tail) l (quote_first tail) in
    let t : letters_text a ++ 39 ∷ [] ++ tail ≡ letters_text a ++ 39 ∷ tail = append_assoc (letters_text a) (39 ∷ []) tail in
    record {
      first = refl;
      found = record { letters = text_before (39 ∷ tail) (letters_text a ++ 39 ∷ [] ++ tail); after = after_blanks tail };
      is = ap (closed (letters_text a ++ 39 ∷ [] ++ tail)) (ap after_letters t ∙ h.after);
      letters = ap (λ s. unescaped (text_before (39 ∷ tail) s)) t ∙ letters_before a (39 ∷ tail);
      after = refl;
    }

-- a text that begins with a letter begins with no blank, no quote and no `\e`
pub record BeginsRun (text : List ℕ) : Type 0 where
  pub first : after_blanks text ≡ text
  pub is : part_in text ≡ run text (front_letters text)

plain_is_other : (x y : ℕ) → is_plain x ≡ true → is_plain y ≡ false → (x == y) ≡ false
plain_is_other x y e f = go (x == y) refl
  where
    go : (b : Bool) → (x == y) ≡ b → b ≡ false
    go true q = absurd (false≢true (sym f ∙ ap is_plain (sym (eqb-true x y q)) ∙ e))
    go false q = refl

quote_is_other : is_plain 39 ≡ false
unfolding is_plain
quote_is_other = refl

slash_is_other : is_plain 92 ≡ false
unfolding is_plain
slash_is_other = refl

space_is_other : is_plain 32 ≡ false
unfolding is_plain
space_is_other = refl

tab_is_other : is_plain 9 ≡ false
unfolding is_plain
tab_is_other = refl

e_is_plain : is_plain 101 ≡ true
unfolding is_plain
e_is_plain = refl

plain_begins : (x : ℕ) (s : List ℕ) → is_plain x ≡ true → BeginsRun (x ∷ s)
plain_begins x s e = record {
  first = skip_other x s (rw (plain_is_other x 32 e space_is_other, plain_is_other x 9 e tab_is_other) refl);
  is = rw (plain_is_other x 39 e quote_is_other, plain_is_other x 92 e slash_is_other) refl;
}

escaped_begins : (x : ℕ) (s : List ℕ) → is_escaped x ≡ true → BeginsRun (92 ∷ x ∷ s)
escaped_begins x s e = record { first = refl; is = rw (other (x == 101) refl) refl }
  where
    other : (b : Bool) → (x == 101) ≡ b → b ≡ false
    other true q = absurd (false≢true (sym (escaped_not_plain x e) ∙ ap is_plain (eqb-true x 101 q) ∙ e_is_plain))
    other false q = refl

letter_begins : (x : ℕ) (s : List ℕ) → IsTrue (is_letter x) → BeginsRun (letter_text x ++ s)
letter_begins x s l = go (is_plain x) refl
  where
    go : (b : Bool) → is_plain x ≡ b → BeginsRun ((if b then x ∷ [] else 92 ∷ x ∷ []) ++ s)
    go true e = plain_begins x s e
    go false e = escaped_begins x s (other_is_escaped x e l)

run_stands : (a : Tape) (tail : List ℕ) → a ≢ [] → IsTrue (are_letters a) → HasNone tail → Stands (letters_text a) a tail
run_stands [] tail some l none = absurd (some refl)
run_stands (x ∷ a) tail some l none =
    let text : List ℕ = letters_text (x ∷ a) ++ tail in
    let h : HasThese text (x ∷ a) tail = letters_first (x ∷ a) tail l none in
    let b : BeginsRun text = rw (append_assoc (letter_text x) (letters_text a) tail) (letter_begins x (letters_text a ++ tail) (both_true (is_letter x) (are_letters a) l).0) in
    record {
      first = b.first;
      found = record { letters = text_before (after_letters text) text; after = after_blanks (after_letters text) };
      is = b.is ∙ ap (run text) h.front;
      letters = text_read text ∙ h.front;
      after = ap after_blanks h.after;
    }

stands : (part : List ℕ) (a : Tape) (tail : List ℕ) → IsPartText part a → IsTrue (are_letters a) → HasNone tail → Stands part a tail
stands part a tail (inl (e, t)) l none = subst (λ p. Stands p a tail) (sym t) (subst (λ b. Stands (codes "\\e") b tail) (sym e) (empty_stands tail))
stands part a tail (inr (inl (some, t))) l none = subst (λ p. Stands p a tail) (sym t) (run_stands a tail some l none)
stands part a tail (inr (inr t)) l none = subst (λ p. Stands p a tail) (sym t) (quoted_stands a tail l)

pub part_complete : (text : List ℕ) (a : Tape) (rest : List ℕ) → Ends rest → BeginsPart text a rest → FindsPart text a rest
part_complete text a rest ends p =
    let s = stands p.part a (p.behind ++ rest) p.spells p.letters (tail_first p.behind rest p.blank_behind ends) in
    record {
      found = s.found;
      is = ap part_in (ap after_blanks p.is ∙ skip_blanks p.before (p.part ++ (p.behind ++ rest)) p.blank_before ∙ s.first) ∙ s.is;
      letters = s.letters;
      after = s.after ∙ tail_rest p.behind rest p.blank_behind ends;
    }
