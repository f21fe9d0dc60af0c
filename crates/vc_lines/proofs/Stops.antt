-- The bytes before what stops a text are its pieces up to there.
use Rattle.std.proofs.Common.{◌≡◌, ◌⊎◌, ◌+◌, ◌==◌, ◌&&◌, ◌↔◌, ℕ, Bool, true, false, List, [], ◌∷◌, ◌++◌, length, refl, sym, ap, ap₂, ◌∙◌, subst, inl, inr, append_assoc}
use Rattle.std.specs.Prelude.{if◌then◌else◌}
use Rattle.std.proofs.lemmas.Bool.{and_parts, eqb-true, eq-eqb, false_from_ne_true}
use Rattle.std.proofs.lemmas.List.{length-append}
use Rattle.vc_lex.specs.Grammar.{joined}
use Rattle.vc_text.specs.Letters.{is_escaped}
use Rattle.vc_lines.specs.ContextLines.{BeginsEscapedLetter, IsPiece, ArePieces, Passes}
use Rattle.vc_lines.specs.Contexts.{before}
use Rattle.vc_lines.proofs.BytesBefore.{none_before}

-- no escaped letter begins one byte
one_byte : (x : ℕ) → BeginsEscapedLetter (x ∷ []) → ⊥
one_byte x (letter, rest, (y, is, e), f) = let g : x ∷ [] ≡ 92 ∷ y ∷ rest = f ∙ ap (λ l. l ++ rest) e in cc

-- where an escaped letter begins two bytes, the first is a backslash
escape_found : (x y : ℕ) (s : List ℕ) → BeginsEscapedLetter (x ∷ y ∷ s) → (x == 92 && is_escaped y) ≡ true
escape_found x y s (letter, rest, (z, is, e), f) =
    let g : x ∷ y ∷ s ≡ 92 ∷ z ∷ rest = f ∙ ap (λ l. l ++ rest) e in
    let first : x ≡ 92 = cc in
    let second : y ≡ z = cc in
    ap₂ (λ a b. a && b) (eq-eqb x 92 first) (ap is_escaped second ∙ is)

module _ (stops : List ℕ → Bool) (Stops : List ℕ → Type 0) (agree : (s : List ℕ) → (stops s ≡ true) ↔ Stops s) where
  -- a text, cut where it is stopped
  pub record IsCutAt (s : List ℕ) (n : ℕ) : Type 0 where
    pub text : List ℕ
    pub after : List ℕ
    pub whole : s ≡ text ++ after
    pub count : n ≡ length text
    pub passes : Passes Stops text after
    pub stopped : (after ≡ []) ⊎ (stops after ≡ true)

  goes_on : (s : List ℕ) → stops s ≡ false → Stops s → ⊥
  goes_on s e h = let t : stops s ≡ true = (agree s).1 h in cc (sym e ∙ t)

  cut_here : (s : List ℕ) → (s ≡ []) ⊎ (stops s ≡ true) → IsCutAt s 0
  cut_here s h = record { text = []; after = s; whole = refl; count = refl; passes = ([], refl, tt); stopped = h }

  -- one piece more in front
  cut_more : (piece s : List ℕ) (n : ℕ) → IsPiece piece s → stops (piece ++ s) ≡ false → IsCutAt s n → IsCutAt (piece ++ s) (length piece + n)
  cut_more piece s n is e c =
      let p = c.passes in
      let w : s ≡ joined p.0 ++ c.after = c.whole ∙ ap (λ t. t ++ c.after) p.1 in
      record {
        text = piece ++ c.text;
        after = c.after;
        whole = ap (λ t. piece ++ t) c.whole ∙ sym (append_assoc piece c.text c.after);
        count = ap (λ k. length piece + k) c.count ∙ sym (length-append piece c.text);
        passes = (
          piece ∷ p.0,
          ap (λ t. piece ++ t) p.1,
          (subst (IsPiece piece) w is, subst (λ t. Stops (piece ++ t) → ⊥) w (goes_on (piece ++ s) e), p.2),
        );
        stopped = c.stopped;
      }

  -- a text is cut at the first place that stops it
  pub cut_at : (s : List ℕ) → IsCutAt s (before stops s)
  cut_at [] = cut_here [] (inl refl)
  cut_at (x ∷ []) = go (stops (x ∷ [])) refl
    where
      go : (b : Bool) → stops (x ∷ []) ≡ b → IsCutAt (x ∷ []) (if b then 0 else 1)
      go true e = cut_here (x ∷ []) (inr e)
      go false e = cut_more (x ∷ []) [] 0 (inr (x, refl, one_byte x)) e (cut_here [] (inl refl))
  cut_at (x ∷ y ∷ s) = go (stops (x ∷ y ∷ s)) refl (x == 92 && is_escaped y) refl (cut_at s) (cut_at (y ∷ s))
    where
      go : (b : Bool) → stops (x ∷ y ∷ s) ≡ b → (c : Bool) → (x == 92 && is_escaped y) ≡ c → IsCutAt s (before stops s) → IsCutAt (y ∷ s) (before stops (y ∷ s))
          → IsCutAt (x ∷ y ∷ s) (if b then 0 else (if c then 2 + before stops s else 1 + before stops (y ∷ s)))
      go true e c f l r = cut_here (x ∷ y ∷ s) (inr e)
      go false e true f l r =
          let p = and_parts (x == 92) (is_escaped y) f in
          cut_more (x ∷ y ∷ []) s (before stops s) (inl (y, p.1, ap (λ k. k ∷ y ∷ []) (eqb-true x 92 p.0))) e l
      go false e false f l r = cut_more (x ∷ []) (y ∷ s) (before stops (y ∷ s)) (inr (x, refl, λ h. cc (sym f ∙ escape_found x y s h))) e r

  escape_passed : (x : ℕ) (s : List ℕ) → is_escaped x ≡ true → stops (92 ∷ x ∷ s) ≡ false → before stops (92 ∷ x ∷ s) ≡ 2 + before stops s
  escape_passed x s is e = ap₂ (λ b c. if b then 0 else (if c then 2 + before stops s else 1 + before stops (x ∷ s))) e is

  byte_passed : (x : ℕ) (s : List ℕ) → (BeginsEscapedLetter (x ∷ s) → ⊥) → stops (x ∷ s) ≡ false → before stops (x ∷ s) ≡ 1 + before stops s
  byte_passed x [] no_letter e = ap (λ b. if b then 0 else 1) e
  byte_passed x (y ∷ s) no_letter e =
      ap₂ (λ b c. if b then 0 else (if c then 2 + before stops s else 1 + before stops (y ∷ s))) e (false_from_ne_true (x == 92 && is_escaped y) begun)
    where
      begun : (x == 92 && is_escaped y) ≡ true → ⊥
      begun f = let p = and_parts (x == 92) (is_escaped y) f in no_letter (92 ∷ y ∷ [], s, (y, p.1, refl), ap (λ k. k ∷ y ∷ s) (eqb-true x 92 p.0))

  piece_passed : (piece s : List ℕ) → IsPiece piece s → stops (piece ++ s) ≡ false → before stops (piece ++ s) ≡ length piece + before stops s
  piece_passed piece s (inl (x, is, e)) =
      subst (λ (p : List ℕ). stops (p ++ s) ≡ false → before stops (p ++ s) ≡ length p + before stops s) (sym e) (escape_passed x s is)
  piece_passed piece s (inr (x, e, no_letter)) =
      subst (λ (p : List ℕ). stops (p ++ s) ≡ false → before stops (p ++ s) ≡ length p + before stops s) (sym e) (byte_passed x s no_letter)

  pieces_passed : (pieces : List (List ℕ)) (after : List ℕ) → ArePieces Stops pieces after → (after ≡ []) ⊎ (stops after ≡ true)
      → before stops (joined pieces ++ after) ≡ length (joined pieces)
  pieces_passed [] after a (inl e) = ap (before stops) e
  pieces_passed [] after a (inr e) = none_before stops after e
  pieces_passed (piece ∷ pieces) after (is, free, a) h =
      let s : List ℕ = joined pieces ++ after in
      ap (before stops) (append_assoc piece (joined pieces) after)
      ∙ piece_passed piece s is (false_from_ne_true (stops (piece ++ s)) (λ t. free ((agree (piece ++ s)).0 t)))
      ∙ ap (λ k. length piece + k) (pieces_passed pieces after a h)
      ∙ sym (length-append piece (joined pieces))

  -- where nothing stops a text before its end, as many bytes stand there as it has
  pub before_passed : (text after : List ℕ) → Passes Stops text after → (after ≡ []) ⊎ (stops after ≡ true) → before stops (text ++ after) ≡ length text
  before_passed text after p h = subst (λ (t : List ℕ). before stops (t ++ after) ≡ length t) (sym p.1) (pieces_passed p.0 after p.2 h)
