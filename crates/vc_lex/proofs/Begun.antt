-- A letter of the grammar is read where it begins, and pieces at the front go on as long as one begins.
use Rattle.std.proofs.Common.{◌≡◌, ℕ, zero, suc, ◌+◌, ◌≤◌, ◌&&◌, true, false, List, [], ◌∷◌, ◌++◌, length, drop, Option, Some, None, refl, ap, sym, ◌∙◌, subst, inl, inr, arith, length-drop}
use Rattle.std.specs.Prelude.{if◌then◌else◌, ◌==◌}
use Rattle.std.specs.Option.{option_map, option_map_or}
use Rattle.vc_text.specs.Letters.{is_plain, is_escaped, letter_in, SpellsLetter}
use Rattle.vc_lex.specs.Fronts.{front, front_by}
use Rattle.vc_lex.specs.Grammar.{IsLetter}
use Rattle.vc_lex.specs.Scans.{letter_width}
use Rattle.vc_text.specs.declared.letters.LetterAt.{LetterAt}
use Rattle.vc_lex.proofs.Pieces.{Shrinks, none_of_empty, drop_twice}

-- a backslash is no plain letter
pub slash_is_not_plain : is_plain 92 ≡ false
unfolding is_plain
slash_is_not_plain = refl

plain_read : (at x : ℕ) (back : List ℕ) → is_plain x ≡ true → letter_in at (x ∷ back) ≡ Some (record { letter = x; after = at + 1 })
plain_read at x [] plain = ap (λ b. if b then Some (record { letter = x; after = at + 1 }) else None) plain
plain_read at x (y ∷ s) plain =
    ap (λ b. if b then Some (record { letter = x; after = at + 1 }) else (if x == 92 && is_escaped y then Some (record { letter = y; after = at + 2 }) else None)) plain

escaped_read : (at x : ℕ) (back : List ℕ) → is_escaped x ≡ true → letter_in at (92 ∷ x ∷ back) ≡ Some (record { letter = x; after = at + 2 })
escaped_read at x back escaped =
    ap (λ b. if b then Some (record { letter = 92; after = at + 1 }) else (if is_escaped x then Some (record { letter = x; after = at + 2 }) else None)) slash_is_not_plain
    ∙ ap (λ b. if b then Some (record { letter = x; after = at + 2 }) else None) escaped

-- a letter of the grammar is read, with its bytes
pub letter_read : (at x : ℕ) (text back : List ℕ) → SpellsLetter text x → letter_in at (text ++ back) ≡ Some (record { letter = x; after = at + length text })
letter_read at x text back (inl spelled) =
    subst (λ (t : List ℕ). letter_in at (t ++ back) ≡ Some (record { letter = x; after = at + length t })) (sym spelled.1) (plain_read at x back spelled.0)
letter_read at x text back (inr spelled) =
    subst (λ (t : List ℕ). letter_in at (t ++ back) ≡ Some (record { letter = x; after = at + length t })) (sym spelled.1) (escaped_read at x back spelled.0)

pub letter_begins : (text back : List ℕ) → IsLetter text → letter_width (text ++ back) ≡ Some (length text)
letter_begins text back is =
    let same : 0 + length text ≡ length text = omega arith in
    ap (λ o. option_map (λ (l : LetterAt). l.after) o) (letter_read 0 is.0 text back is.1) ∙ ap Some same

stops_more : (width : List ℕ → Option ℕ) (n : ℕ) (s : List ℕ) → Shrinks width → length s ≤ suc n
    → ((w : ℕ) → length (drop w s) ≤ n → width (drop (front_by width n (drop w s)) (drop w s)) ≡ None) → (o : Option ℕ) → width s ≡ o
    → width (drop (option_map_or (λ w. w + front_by width n (drop w s)) o 0) s) ≡ None
stops_more width n s shrinks below stops None e = e
stops_more width n s shrinks below stops (Some w) e =
    let some = shrinks.some s w e in
    ap width (sym (drop_twice w (front_by width n (drop w s)) s)) ∙ stops w (omega (arith, length-drop w s))

front_by_stops : (width : List ℕ → Option ℕ) (n : ℕ) (s : List ℕ) → Shrinks width → length s ≤ n → width (drop (front_by width n s) s) ≡ None
front_by_stops width zero s shrinks below = none_of_empty width s shrinks below (width s) refl
front_by_stops width (suc n) s shrinks below = stops_more width n s shrinks below (λ w. front_by_stops width n (drop w s) shrinks) (width s) refl

-- behind the pieces at the front no piece begins
pub front_stops : (width : List ℕ → Option ℕ) (s : List ℕ) → Shrinks width → width (drop (front width s) s) ≡ None
front_stops width s shrinks = front_by_stops width (length s) s shrinks (omega arith)
