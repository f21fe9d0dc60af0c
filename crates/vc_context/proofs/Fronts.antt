-- Blanks and pieces at the front of a text.
use Rattle.std.proofs.Common.{◌≡◌, ◌≢◌, ℕ, Bool, true, false, ◌&&◌, List, [], ◌∷◌, ◌++◌, length, Option, Some, None, refl, ap, sym, ◌∙◌, subst, arith}
use Rattle.std.proofs.lemmas.Bool.{eqb-true}
use Rattle.std.proofs.lemmas.Bool.Decides.{Decides-eqb, nat_tests}
use Rattle.std.specs.Borrow.{Bor}
use Rattle.std.specs.List.{list_all}
use Rattle.std.specs.Option.{option_copied}
use Rattle.std.specs.Prelude.{if◌then◌else◌, ◌==◌, MatchOption}
use Rattle.vc_context.specs.Reading.{strip, after}
use Rattle.vc_context.specs.Spelling.{Spaced}
use Rattle.vc_text.specs.Blanks.{after_blanks, AreBlanks, is_blank}

pub both_true : (b c : Bool) → (b && c) ≡ true → (b ≡ true) × (c ≡ true)
both_true true c e = (refl, e)
both_true false c e = absurd (cc)

pub are_both : (b c : Bool) → b ≡ true → c ≡ true → (b && c) ≡ true
are_both b c e f = rw (e, f) refl

pub skip_blank : (x : ℕ) (s : List ℕ) → is_blank x ≡ true → after_blanks (x ∷ s) ≡ after_blanks s
skip_blank x s e = ap (λ b. if b then after_blanks s else x ∷ s) e

pub skip_other : (x : ℕ) (s : List ℕ) → is_blank x ≡ false → after_blanks (x ∷ s) ≡ x ∷ s
skip_other x s e = ap (λ b. if b then after_blanks s else x ∷ s) e

pub skip_blanks : (blanks s : List ℕ) → AreBlanks blanks → after_blanks (blanks ++ s) ≡ after_blanks s
skip_blanks [] s are = refl
skip_blanks (x ∷ blanks) s are =
    let each = both_true (is_blank x) (list_all is_blank blanks) are in
    skip_blank x (blanks ++ s) each.0 ∙ skip_blanks blanks s each.1

pub skip_all : (blanks : List ℕ) → AreBlanks blanks → after_blanks blanks ≡ []
skip_all [] are = refl
skip_all (x ∷ blanks) are =
    let each = both_true (is_blank x) (list_all is_blank blanks) are in
    skip_blank x blanks each.0 ∙ skip_all blanks each.1

pub blanks_before : (s : List ℕ) → (blanks : List ℕ) × (s ≡ blanks ++ after_blanks s) × AreBlanks blanks
blanks_before [] = ([], refl, refl)
blanks_before (x ∷ s) = more x s (is_blank x) refl (blanks_before s)
  where
    more : (x : ℕ) (s : List ℕ) (b : Bool) → is_blank x ≡ b → ((blanks : List ℕ) × (s ≡ blanks ++ after_blanks s) × AreBlanks blanks)
        → (blanks : List ℕ) × (x ∷ s ≡ blanks ++ after_blanks (x ∷ s)) × AreBlanks blanks
    more x s true e (blanks, text, are) = (x ∷ blanks, ap (λ t. x ∷ t) text ∙ ap (λ t. x ∷ (blanks ++ t)) (sym (skip_blank x s e)), are_both (is_blank x) (list_all is_blank blanks) e are)
    more x s false e rest = ([], sym (skip_other x s e), refl)

pub strip_sound : (piece s rest : List ℕ) → strip piece s ≡ Some rest → s ≡ piece ++ rest
strip_sound [] s rest e = cc
strip_sound (c ∷ piece) [] rest e = absurd (cc)
strip_sound (c ∷ piece) (x ∷ s) rest e = more c x piece s rest (x == c) refl e (strip_sound piece s rest)
  where
    more : (c x : ℕ) (piece s rest : List ℕ) (b : Bool) → (x == c) ≡ b → (if b then strip piece s else None) ≡ Some rest
        → (strip piece s ≡ Some rest → s ≡ piece ++ rest) → x ∷ s ≡ c ∷ (piece ++ rest)
    more c x piece s rest true e f next = ap (λ z. z ∷ s) (eqb-true x c e) ∙ ap (λ t. c ∷ t) (next f)
    more c x piece s rest false e f next = absurd (cc)

pub strip_read : (piece rest : List ℕ) → strip piece (piece ++ rest) ≡ Some rest
strip_read [] rest = refl
strip_read (c ∷ piece) rest = ap (λ b. if b then strip piece (piece ++ rest) else None) ((Decides-eqb c c).1 refl) ∙ strip_read piece rest

-- what `strip_prefix` on slices answers
pub stripped : (piece s : List ℕ) (r : Option (Bor (List ℕ))) → MatchOption r ((rest : List ℕ) → s ≢ piece ++ rest) (λ x. s ≡ piece ++ x.now)
    → option_copied r ≡ strip piece s
stripped piece s None none = absent (strip piece s) refl
  where
    absent : (o : Option (List ℕ)) → strip piece s ≡ o → None ≡ strip piece s
    absent None e = sym e
    absent (Some rest) e = absurd (none rest (strip_sound piece s rest e))
stripped piece s (Some x) found = sym (ap (strip piece) found ∙ strip_read piece x.now)

-- a piece was found behind blanks
pub after_sound : (piece s rest : List ℕ) → after piece s ≡ Some rest → (blanks : List ℕ) × (s ≡ blanks ++ (piece ++ rest)) × AreBlanks blanks
after_sound piece s rest e =
    let found = blanks_before s in
    (found.0, found.1 ∙ ap (λ t. found.0 ++ t) (strip_sound piece (after_blanks s) rest e), found.2)

-- a piece that does not begin with a blank is found
pub after_read : (piece blanks rest : List ℕ) → after_blanks (piece ++ rest) ≡ piece ++ rest → AreBlanks blanks → after piece (blanks ++ (piece ++ rest)) ≡ Some rest
after_read piece blanks rest first are = ap (strip piece) (skip_blanks blanks (piece ++ rest) are ∙ first) ∙ strip_read piece rest

-- blanks before a text change nothing of what is found
pub blanks_before_piece : (piece blanks s : List ℕ) → AreBlanks blanks → after piece (blanks ++ s) ≡ after piece s
blanks_before_piece piece blanks s are = ap (strip piece) (skip_blanks blanks s are)

-- the pieces stand at the front of a text, each behind blanks, and this text behind them
abbrev pub Begins : List (List ℕ) → List ℕ → List ℕ → Type 0
Begins [] s rest = s ≡ rest
Begins (piece ∷ pieces) s rest = (blanks next : List ℕ) × (s ≡ blanks ++ (piece ++ next)) × AreBlanks blanks × Begins pieces next rest

pub begins_one : (piece s rest : List ℕ) → after piece s ≡ Some rest → Begins (piece ∷ []) s rest
begins_one piece s rest e =
    let found = after_sound piece s rest e in
    (found.0, rest, found.1, found.2, refl)

pub begins_both : (front behind : List (List ℕ)) (s middle rest : List ℕ) → Begins front s middle → Begins behind middle rest → Begins (front ++ behind) s rest
begins_both [] behind s middle rest first second = subst (λ (t : List ℕ). Begins behind t rest) (sym first) second
begins_both (piece ∷ front) behind s middle rest (blanks, next, text, are, first) second =
    (blanks, next, text, are, begins_both front behind next middle rest first second)

pub begins_split : (front behind : List (List ℕ)) (s rest : List ℕ) → Begins (front ++ behind) s rest → (middle : List ℕ) × Begins front s middle × Begins behind middle rest
begins_split [] behind s rest begins = (s, refl, begins)
begins_split (piece ∷ front) behind s rest (blanks, next, text, are, begins) =
    let split = begins_split front behind next rest begins in
    (split.0, (blanks, next, text, are, split.1), split.2)

pub spaced_begins : (pieces : List (List ℕ)) (s : List ℕ) → Spaced pieces s → (rest : List ℕ) × Begins pieces s rest × AreBlanks rest
spaced_begins [] s spaced = (s, refl, spaced)
spaced_begins (piece ∷ pieces) s (blanks, next, text, are, spaced) =
    let behind = spaced_begins pieces next spaced in
    (behind.0, (blanks, next, text, are, behind.1), behind.2)

pub begins_spaced : (pieces : List (List ℕ)) (s rest : List ℕ) → Begins pieces s rest → AreBlanks rest → Spaced pieces s
begins_spaced [] s rest begins are = subst AreBlanks (sym begins) are
begins_spaced (piece ∷ pieces) s rest (blanks, next, text, behind, begins) are =
    (blanks, next, text, behind, begins_spaced pieces next rest begins are)

-- nothing is left behind blanks exactly where all bytes are blanks
pub skipped_all : (s : List ℕ) → (length (after_blanks s) == 0) ≡ list_all is_blank s
skipped_all [] = refl
skipped_all (x ∷ s) = at_blank x s (is_blank x) refl (skipped_all s)
  where
    at_blank : (x : ℕ) (s : List ℕ) (b : Bool) → is_blank x ≡ b → (length (after_blanks s) == 0) ≡ list_all is_blank s
        → (length (after_blanks (x ∷ s)) == 0) ≡ (is_blank x && list_all is_blank s)
    at_blank x s true e same = ap (λ t. length t == 0) (skip_blank x s e) ∙ same ∙ ap (λ b. b && list_all is_blank s) (sym e)
    at_blank x s false e same =
        let some : (length (x ∷ s) == 0) ≡ false = grind (arith, nat_tests) in
        ap (λ t. length t == 0) (skip_other x s e) ∙ some ∙ ap (λ b. b && list_all is_blank s) (sym e)
