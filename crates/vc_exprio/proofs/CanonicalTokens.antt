-- The canonical text of an expression has the tokens of which it is made.
use Rattle.std.proofs.Common.{◌≡◌, ◌≢◌, ℕ, ◌+◌, ◌-◌, Bool, true, false, not, ◌&&◌, ◌||◌, ◌==◌, cond, List, [], ◌∷◌, ◌++◌, map, length, take, drop, codes, All, Option, Some, None, refl, ap, ap₂, sym, ◌∙◌, subst, inl, arith, add-zero, length-append}
use Rattle.std.specs.Prelude.{⊤, if◌then◌else◌, IsTrue}
use Rattle.std.specs.List.{prefix_len, list_all, flat_map}
use Rattle.std.proofs.Math.Seq.{take-append_seam, drop-append_seam}
use Rattle.std.proofs.lemmas.Bool.{eqb-true, false≢true, and_parts}
use Rattle.std.proofs.lemmas.Grind.{common_steps}
use Rattle.std.proofs.lemmas.List.Elements.{All-head, All-tail}
use Rattle.vc_lex.specs.Grammar.{IsTokenText, IsLetter, Each, joined, BeginsToken, is_weight_byte, EndsBefore}
use Rattle.vc_text.specs.Letters.{is_plain}
use Rattle.vc_label.specs.Sets.{IsOverSets}
use Rattle.vc_label.specs.declared.tape_set.TapeSet.{TapeSet}
use Rattle.vc_label.specs.Letters.{is_letter, are_letters, is_of_letters}
use Rattle.vc_text.specs.LetterLaws.{letter_is_spelled}
use Rattle.vc_text.specs.Blanks.{is_blank}
use Rattle.vc_lex.specs.declared.token.Mode.TheVariants.{Expression}
use Rattle.vc_lex.specs.declared.token.TokenKind.{TokenKind}
use Rattle.vc_lex.specs.declared.token.TokenKind.TheVariants as kinds
use Rattle.vc_terms.specs.Terms.{Term, Terms, Zero, One, Atom, Sum, Product, Star, Weight, Both, Shuffle, NoTerms, MoreTerms}
use Rattle.vc_model.specs.WeightSet.{WeightSet}
use Rattle.vc_model.specs.Words.{Word, Tape}
use Rattle.vc_ring.specs.Texts.{TextLaws, IsWeightByte}
use Rattle.vc_lex.specs.Marks.{Mark, IsNext, HasMarks, next_at}
use Rattle.vc_expr.specs.Facts.{HasRootValues}
use Rattle.vc_terms.specs.Forms.{Everywhere, EverywhereIn}
use Rattle.vc_exprio.specs.Canonical.{Piece, part_piece, bar_pieces, label_pieces, Place, has_parentheses, in_parentheses, operand, weight_piece, pieces_of, more_pieces, product_pieces, expression_text, IsRootOver, of_star, of_weight, of_product, left_of_and, right_of_and, left_of_shuffle, right_of_shuffle}
use Rattle.vc_text.specs.Letters.{letter_text}
use Rattle.vc_exprio.proofs.CanonicalTrees.{piece_of}

-- ---- pieces one behind the other

-- no blank stands at the front of the text, whatever is behind it
abbrev pub IsInk : List ℕ → Type 0
IsInk text = (rest : List ℕ) → prefix_len is_blank (text ++ rest) ≡ 0

-- the text is that of a token
pub record IsSolid (p : Piece) : Type 0 where
  pub token : IsTokenText p.kind Expression p.text
  pub ends : (rest : List ℕ) → EndsBefore p.kind rest
  pub ink : IsInk p.text

abbrev pub AreSolid : List Piece → Type 0
AreSolid [] = ⊤
AreSolid (p ∷ ps) = IsSolid p × AreSolid ps

abbrev pub text_of : List Piece → List ℕ
text_of ps = flat_map (λ p. p.text) ps

-- their marks, where the text stands at this place
abbrev pub marks_at : ℕ → List Piece → List Mark
marks_at n [] = []
marks_at n (p ∷ ps) = record { kind = p.kind; text = p.text; at = n } ∷ marks_at (n + length p.text) ps

pub marks_pieces : (n : ℕ) (ps : List Piece) → map piece_of (marks_at n ps) ≡ ps
marks_pieces n [] = refl
marks_pieces n (p ∷ ps) = ap (λ x. p ∷ x) (marks_pieces (n + length p.text) ps)

drop_twice : (i j : ℕ) (s : List ℕ) → drop j (drop i s) ≡ drop (i + j) s
drop_twice i j s = grind (arith, common_steps)

behind : (line a b : List ℕ) (n : ℕ) → drop n line ≡ a ++ b → drop (n + length a) line ≡ b
behind line a b n e = sym (drop_twice n (length a) line) ∙ ap (drop (length a)) e ∙ drop-append_seam a b

begins_with_it : (text rest : List ℕ) (kind : TokenKind) → IsTokenText kind Expression text → EndsBefore kind rest → BeginsToken Expression (text ++ rest) kind (length text)
begins_with_it text rest kind token ends = record {
  within = omega (arith, length-append text rest);
  is_token = subst (IsTokenText kind Expression) (sym (take-append_seam text rest)) token;
  ends = subst (EndsBefore kind) (sym (drop-append_seam text rest)) ends;
}

next_is : (line : List ℕ) (at : ℕ) (p : Piece) (rest : List ℕ) → drop at line ≡ p.text ++ rest → IsSolid p → IsNext Expression line at (record { kind = p.kind; text = p.text; at = at })
next_is line at p rest e is =
    let place : next_at line at ≡ at = ap (λ s. at + prefix_len is_blank s) e ∙ ap (λ n. at + n) (is.ink rest) ∙ add-zero at in
    let width : (at + length p.text) - at ≡ length p.text = omega arith in
    record {
      place = sym place;
      begins = subst (λ s. BeginsToken Expression s p.kind (length p.text)) (sym (ap (λ n. drop n line) place ∙ e)) (begins_with_it p.text rest p.kind is.token (is.ends rest));
      slice = sym (ap (λ n. take n (drop at line)) width ∙ ap (take (length p.text)) e ∙ take-append_seam p.text rest);
    }

pub marks_laid : (line : List ℕ) (at : ℕ) (ps : List Piece) → drop at line ≡ text_of ps → AreSolid ps → HasMarks Expression line at (marks_at at ps)
marks_laid line at [] e h = inl (ap (λ s. drop (at + prefix_len is_blank s) line) e ∙ ap (λ n. drop n line) (add-zero at) ∙ e)
marks_laid line at (p ∷ ps) e (is, h) =
    (next_is line at p (text_of ps) e is, marks_laid line (at + length p.text) ps (behind line p.text (text_of ps) at e) h)

solid_append : (ps qs : List Piece) → AreSolid ps → AreSolid qs → AreSolid (ps ++ qs)
solid_append [] qs h k = k
solid_append (p ∷ ps) qs (is, h) k = (is, solid_append ps qs h k)

-- ---- letters

blank_is_not_plain : is_plain 32 ≡ false
unfolding is_plain
blank_is_not_plain = refl

tab_is_not_plain : is_plain 9 ≡ false
unfolding is_plain
tab_is_not_plain = refl

differs : (x k : ℕ) → is_plain k ≡ false → is_plain x ≡ true → (x == k) ≡ false
differs x k n h = go (x == k) refl
  where
    go : (b : Bool) → (x == k) ≡ b → b ≡ false
    go true e = absurd (false≢true (sym n ∙ ap is_plain (sym (eqb-true x k e)) ∙ h))
    go false e = refl

ink_at : (x : ℕ) (s : List ℕ) → is_blank x ≡ false → IsInk (x ∷ s)
ink_at x s e rest = ap (λ b. cond b (1 + prefix_len is_blank (s ++ rest)) 0) e

plain_ink : (x : ℕ) → is_plain x ≡ true → is_blank x ≡ false
plain_ink x h = ap₂ (λ a b. a || b) (differs x 32 blank_is_not_plain h) (differs x 9 tab_is_not_plain h)

letter_ink : (x : ℕ) → IsInk (letter_text x)
letter_ink x = go (is_plain x) refl
  where
    go : (b : Bool) → is_plain x ≡ b → IsInk (if b then x ∷ [] else 92 ∷ x ∷ [])
    go true e = ink_at x [] (plain_ink x e)
    go false e = ink_at 92 (x ∷ []) refl

each_letter : (a : Tape) → IsTrue (are_letters a) → Each IsLetter (map letter_text a)
each_letter [] h = tt
each_letter (x ∷ a) h = let b = and_parts (is_letter x) (are_letters a) h in ((x, letter_is_spelled x b.0), each_letter a b.1)

joined_letters : (a : Tape) → flat_map letter_text a ≡ joined (map letter_text a)
joined_letters [] = refl
joined_letters (x ∷ a) = ap (λ t. letter_text x ++ t) (joined_letters a)

part_solid : (a : Tape) → IsTrue (are_letters a) → IsSolid (part_piece a)
part_solid [] h = record { token = refl; ends = λ rest. tt; ink = ink_at 92 (101 ∷ []) refl }
part_solid (x ∷ []) h =
    let b = and_parts (is_letter x) true h in
    record { token = (x, letter_is_spelled x b.0); ends = λ rest. tt; ink = letter_ink x }
part_solid (x ∷ y ∷ a) h = record {
  token = (flat_map letter_text (x ∷ y ∷ a), refl, (map letter_text (x ∷ y ∷ a), joined_letters (x ∷ y ∷ a), each_letter (x ∷ y ∷ a) h));
  ends = λ rest. tt;
  ink = ink_at 39 (flat_map letter_text (x ∷ y ∷ a) ++ 39 ∷ []) refl;
}

bars_solid : (w : Word) → IsTrue (is_of_letters w) → AreSolid (bar_pieces w)
bars_solid [] h = tt
bars_solid (a ∷ w) h =
    let b = and_parts (are_letters a) (is_of_letters w) h in
    (record { token = refl; ends = λ rest. tt; ink = ink_at 124 [] refl }, (part_solid a b.0, bars_solid w b.1))

label_solid : (w : Word) → IsTrue (is_of_letters w) → AreSolid (label_pieces w)
label_solid [] h = tt
label_solid (a ∷ w) h =
    let b = and_parts (are_letters a) (is_of_letters w) h in
    (part_solid a b.0, bars_solid w b.1)

operand_solid : {V : Type 0} (place : Place) (t : Term V) (ps : List Piece) → AreSolid ps → AreSolid (operand place t ps)
operand_solid place t ps h = go (has_parentheses place t)
  where
    go : (b : Bool) → AreSolid (if b then in_parentheses ps else ps)
    go true = (
      record { token = refl; ends = λ rest. tt; ink = ink_at 40 [] refl },
      solid_append ps (record { kind = kinds.Right; text = codes ")" } ∷ []) h (record { token = refl; ends = λ rest. tt; ink = ink_at 41 [] refl }, tt),
    )
    go false = h

-- ---- weights

other_number : (x c : ℕ) → x ≢ c → (x == c) ≡ false
other_number x c unlike = go (x == c) refl
  where
    go : (b : Bool) → (x == c) ≡ b → b ≡ false
    go true e = absurd (unlike (eqb-true x c e))
    go false e = refl

three : (a b c : Bool) → a ≡ false → b ≡ false → c ≡ false → not a && (not b && not c) ≡ true
three true b c e f g = absurd (cc)
three false true c e f g = absurd (cc)
three false false true e f g = absurd (cc)
three false false false e f g = refl

byte_fits : (x : ℕ) → IsWeightByte x → is_weight_byte x ≡ true
byte_fits x h =
    let low = h.low in
    three (x == 60) (x == 62) (x == 10) (other_number x 60 h.not_less) (other_number x 62 h.not_greater) (other_number x 10 (λ e. omega arith))

bytes_fit : (s : List ℕ) → All IsWeightByte s → list_all is_weight_byte s ≡ true
bytes_fit [] h = refl
bytes_fit (x ∷ s) h = ap (λ b. b && list_all is_weight_byte s) (byte_fits x (All-head IsWeightByte x s h)) ∙ bytes_fit s (All-tail IsWeightByte x s h)

module _ {V : Type 0} (R : WeightSet V) (spelled : List ℕ → Option V) (fit : List ℕ → Bool) (canonical : V → List ℕ) (laws : TextLaws R spelled fit canonical)
    (sets : List TapeSet) (letters : (w : Word) → IsOverSets sets w → IsTrue (is_of_letters w)) where
  weight_some : (w : V) → IsTrue (R.in_range w) → canonical w ≢ []
  weight_some w h e =
      let both : None ≡ Some w = sym laws.not_empty ∙ ap spelled (sym e) ∙ laws.written w h in
      absurd (cc)

  weight_solid : (w : V) → IsTrue (R.in_range w) → IsSolid (weight_piece canonical w)
  weight_solid w h = record {
    token = (canonical w, refl, (bytes_fit (canonical w) (laws.bytes w), weight_some w h));
    ends = λ rest. tt;
    ink = ink_at 60 (canonical w ++ 62 ∷ []) refl;
  }

  mutual
    pub solid : (t : Term V) → Everywhere (HasRootValues R) t → Everywhere (IsRootOver sets) t → AreSolid (pieces_of canonical t)
    solid Zero h k = (record { token = refl; ends = λ rest. tt; ink = ink_at 92 (122 ∷ []) refl }, tt)
    solid One h k = (record { token = refl; ends = λ rest. tt; ink = ink_at 92 (101 ∷ []) refl }, tt)
    solid (Atom a) h k = label_solid a (letters a k)
    solid (Sum NoTerms) h k = tt
    solid (Sum (MoreTerms t ts)) (v, (is, more)) (l, (k, ks)) = solid_append (pieces_of canonical t) (more_pieces canonical ts) (solid t is k) (sum_solid ts more ks)
    solid (Product ts) (v, h) (l, k) = product_solid ts h k
    solid (Star t) (v, h) (l, k) =
        solid_append (operand of_star t (pieces_of canonical t)) (record { kind = kinds.Star; text = codes "*" } ∷ []) (operand_solid of_star t (pieces_of canonical t) (solid t h k))
        (record { token = refl; ends = λ rest. tt; ink = ink_at 42 [] refl }, tt)
    solid (Weight w t) (v, h) (l, k) = (weight_solid w v, operand_solid of_weight t (pieces_of canonical t) (solid t h k))
    solid (Both t u) (v, h, h2) (l, k, k2) =
        solid_append (operand left_of_and t (pieces_of canonical t)) (record { kind = kinds.And; text = codes "&" } ∷ operand right_of_and u (pieces_of canonical u)) (operand_solid left_of_and t (pieces_of canonical t) (solid t h k))
        (record { token = refl; ends = λ rest. tt; ink = ink_at 38 [] refl }, operand_solid right_of_and u (pieces_of canonical u) (solid u h2 k2))
    solid (Shuffle t u) (v, h, h2) (l, k, k2) =
        solid_append (operand left_of_shuffle t (pieces_of canonical t)) (record { kind = kinds.Shuffle; text = codes ":" } ∷ operand right_of_shuffle u (pieces_of canonical u)) (operand_solid left_of_shuffle t (pieces_of canonical t) (solid t h k))
        (record { token = refl; ends = λ rest. tt; ink = ink_at 58 [] refl }, operand_solid right_of_shuffle u (pieces_of canonical u) (solid u h2 k2))

    sum_solid : (ts : Terms V) → EverywhereIn (HasRootValues R) ts → EverywhereIn (IsRootOver sets) ts → AreSolid (more_pieces canonical ts)
    sum_solid NoTerms h k = tt
    sum_solid (MoreTerms t ts) (is, more) (k, ks) =
        (record { token = refl; ends = λ rest. tt; ink = ink_at 43 [] refl }, solid_append (pieces_of canonical t) (more_pieces canonical ts) (solid t is k) (sum_solid ts more ks))

    product_solid : (ts : Terms V) → EverywhereIn (HasRootValues R) ts → EverywhereIn (IsRootOver sets) ts → AreSolid (product_pieces canonical ts)
    product_solid NoTerms h k = tt
    product_solid (MoreTerms t ts) (is, more) (k, ks) =
        solid_append (operand of_product t (pieces_of canonical t)) (product_pieces canonical ts) (operand_solid of_product t (pieces_of canonical t) (solid t is k)) (product_solid ts more ks)

  -- the canonical text has the tokens of which it is made
  pub canonical_marks : (t : Term V) → Everywhere (HasRootValues R) t → Everywhere (IsRootOver sets) t → HasMarks Expression (expression_text canonical t) 0 (marks_at 0 (pieces_of canonical t))
  canonical_marks t h k = marks_laid (expression_text canonical t) 0 (pieces_of canonical t) refl (solid t h k)
