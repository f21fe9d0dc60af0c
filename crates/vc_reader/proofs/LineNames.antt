-- The names that stand in lines are written.
use Rattle.std.proofs.Common.{◌≡◌, ◌+◌, ◌-◌, ℕ, Bool, true, false, ◌&&◌, List, [], ◌∷◌, length, take, drop, Option, Some, None, Result, Ok, Err, refl, ap, ap₂, sym, ◌∙◌, subst, inl, inr, arith}
use Rattle.std.specs.Prelude.{if◌then◌else◌, unwrap_or}
use Rattle.std.specs.List.{flat_map}
use Rattle.std.specs.Option.{option_and_then}
use Rattle.std.specs.Result.{result_ok}
use Rattle.vc_lex.specs.Grammar.{IsTokenText}
use Rattle.vc_lex.specs.declared.token.Mode.TheVariants.{Line as LineMode}
use Rattle.vc_model.specs.Lists.{In}
use Rattle.vc_model.specs.Members.{In-append_cases}
use Rattle.vc_lex.specs.Marks.{Mark, IsNext, HasMarks, next_at, marks_of}
use Rattle.vc_lines.specs.Grammar.{Line, blank, initial_at, final_at, moves, state, is_state, is_end, is_dollar_kind, is_arrow_kind, are_entries, arrow_line, line_of, line_at, name_of}
use Rattle.vc_lines.specs.Names.{AreNames, line_names}
use Rattle.vc_reader.specs.Spelling.{AreLines, line_in, lines_in}
use Rattle.vc_reader.proofs.WrittenNames.{IsWritten, token_written}
use Rattle.vc_reader.proofs.EntryLabels.{both_true}
use Rattle.vc_reader.proofs.OneNumbering.{one_list}

-- the text of a token is one of its kind
next_token : (line : List ℕ) (at : ℕ) (m : Mark) → IsNext LineMode line at m → IsTokenText m.kind LineMode m.text
next_token line at m x =
    let n : (m.at + length m.text) - m.at ≡ length m.text = omega arith in
    let e : m.text ≡ take (length m.text) (drop (next_at line at) line) = x.slice ∙ ap₂ (λ k p. take k (drop p line)) n x.place in
    subst (IsTokenText m.kind LineMode) (sym e) x.begins.is_token

marks_tokens : (line : List ℕ) (at : ℕ) (ms : List Mark) → HasMarks LineMode line at ms → (m : Mark) → In m ms → IsTokenText m.kind LineMode m.text
marks_tokens line at [] h m i = absurd i
marks_tokens line at (n ∷ ms) (x, h) m (inl e) = subst (λ k. IsTokenText k.kind LineMode k.text) (sym e) (next_token line at n x)
marks_tokens line at (n ∷ ms) (x, h) m (inr i) = marks_tokens line (n.at + length n.text) ms h m i

-- the names of a line are written
abbrev HasWritten : Option Line → Type 0
HasWritten None = Unit {0}
HasWritten (Some l) = (a : List ℕ) → In a (line_names l) → IsWritten a

choose : (b : Bool) (x y : Option Line) → (b ≡ true → HasWritten x) → HasWritten y → HasWritten (if b then x else y)
choose true x y h k = h refl
choose false x y h k = k

one_name : (s : Mark) → IsWritten (name_of s) → (a : List ℕ) → In a (name_of s ∷ []) → IsWritten a
one_name s w a (inl e) = subst IsWritten (sym e) w
one_name s w a (inr i) = absurd i

two_names : (s t : Mark) → IsWritten (name_of s) → IsWritten (name_of t) → (a : List ℕ) → In a (name_of s ∷ name_of t ∷ []) → IsWritten a
two_names s t v w a (inl e) = subst IsWritten (sym e) v
two_names s t v w a (inr i) = one_name t w a i

module _ {V : Type 0} (spelled : List ℕ → Option V) where
  arrow_written : (m n : Mark) (rest : List Mark) → (is_state m ≡ true → IsWritten (name_of m)) → (is_state n ≡ true → IsWritten (name_of n)) → HasWritten (arrow_line spelled m n rest)
  arrow_written m n rest v w =
      choose (is_dollar_kind m.kind && is_state n) _ _ (λ e. choose (is_end spelled rest) (Some (initial_at n rest)) None (λ f. one_name n (w (both_true (is_dollar_kind m.kind) (is_state n) e).1)) tt)
      (choose (is_state m && is_dollar_kind n.kind) _ _ (λ e. choose (is_end spelled rest) (Some (final_at m rest)) None (λ f. one_name m (v (both_true (is_state m) (is_dollar_kind n.kind) e).0)) tt)
      (choose (is_state m && is_state n) _ _ (λ e. choose (are_entries spelled rest) (Some (moves m n rest)) None (λ f. two_names m n (v (both_true (is_state m) (is_state n) e).0) (w (both_true (is_state m) (is_state n) e).1)) tt) tt))

  marks_written : (ms : List Mark) → ((m : Mark) → In m ms → is_state m ≡ true → IsWritten (name_of m)) → HasWritten (line_of spelled ms)
  marks_written [] h = λ a i. absurd i
  marks_written (m ∷ []) h = choose (is_state m) (Some (state m)) None (λ e. one_name m (h m (inl refl) e)) tt
  marks_written (m ∷ a ∷ []) h = tt
  marks_written (m ∷ a ∷ n ∷ rest) h = choose (is_arrow_kind a.kind) (arrow_line spelled m n rest) None (λ e. arrow_written m n rest (h m (inl refl)) (h n (inr (inr (inl refl))))) tt

  module _ (sound : (line : List ℕ) (ms : List Mark) → marks_of LineMode line ≡ Ok ms → HasMarks LineMode line 0 ms) where
    text_written : (text : List ℕ) → HasWritten (line_at spelled text)
    text_written text = go (marks_of LineMode text) refl
      where
        go : (r : Result (List Mark) ℕ) → marks_of LineMode text ≡ r → HasWritten (option_and_then (line_of spelled) (result_ok r))
        go (Err bad) e = tt
        go (Ok ms) e = marks_written ms (λ m i s. token_written m.kind m.text (marks_tokens text 0 ms (sound text ms e) m i) s)

    in_line : (text a : List ℕ) → In a (line_names (line_in spelled text)) → IsWritten a
    in_line text a i = go (line_at spelled text) (text_written text) i
      where
        go : (o : Option Line) → HasWritten o → In a (line_names (unwrap_or o blank)) → IsWritten a
        go None w i = absurd i
        go (Some l) w i = w a i

    in_lines : (texts : List (List ℕ)) (a : List ℕ) → In a (flat_map line_names (lines_in spelled texts)) → IsWritten a
    in_lines [] a i = absurd i
    in_lines (t ∷ texts) a i = elim (In-append_cases a (line_names (line_in spelled t)) (flat_map line_names (lines_in spelled texts)) i) [
      | inl j ↦ in_line t a j
      | inr j ↦ in_lines texts a j
    ]

    -- the names of lines are one list
    pub names_once : (texts names others : List (List ℕ)) → AreNames (lines_in spelled texts) names → AreNames (lines_in spelled texts) others → names ≡ others
    names_once texts names others a b = one_list (flat_map line_names (lines_in spelled texts)) names others (in_lines texts) a b

  -- texts are one list of lines
  pub lines_once : (texts : List (List ℕ)) (lines : List Line) → AreLines spelled texts lines → lines ≡ lines_in spelled texts
  lines_once [] [] h = refl
  lines_once [] (l ∷ lines) h = absurd h
  lines_once (t ∷ texts) [] h = absurd h
  lines_once (t ∷ texts) (l ∷ lines) (e, h) = ap₂ (λ x xs. x ∷ xs) (ap (λ o. unwrap_or o blank) (sym e)) (lines_once texts lines h)
