-- Lines of the canonical text are read as what they say.
use Rattle.std.proofs.Common.{◌≡◌, ℕ, ◌+◌, ◌≤◌, Bool, true, false, ◌&&◌, List, [], ◌∷◌, ◌++◌, length, map, codes, Option, Some, None, Ok, refl, ap, sym, ◌∙◌, subst, append_assoc, append-nil}
use Rattle.std.specs.Prelude.{IsTrue, if◌then◌else◌, unwrap_or}
use Rattle.std.specs.Fmt.{decimal}
use Rattle.std.specs.Option.{is_some, option_and_then}
use Rattle.std.specs.Result.{result_ok}
use Rattle.std.specs.List.{list_all}
use Rattle.vc_label.specs.Letters.{is_of_letters}
use Rattle.vc_label.specs.Sets.{IsOverSets}
use Rattle.vc_label.specs.declared.tape_set.TapeSet.{TapeSet}
use Rattle.vc_text.specs.Blanks.{is_blank}
use Rattle.vc_lex.specs.declared.token.TokenKind.TheVariants.{Run, Weight, Arrow, Dollar}
use Rattle.vc_model.specs.Automata.{Transition}
use Rattle.vc_model.specs.Lists.{IsEqualityTest}
use Rattle.vc_model.specs.WeightSet.{WeightSet}
use Rattle.vc_model.specs.Words.{Word}
use Rattle.vc_ring.specs.Texts.{TextLaws}
use Rattle.vc_daut.specs.Canonical.{TextLine, begins_line, moves_line, ends_line, state_line, weight_text, after_state, entries_text, line_text}
use Rattle.vc_lex.specs.Marks.{Mark, HasMarks, marks_of}
use Rattle.vc_lex.specs.declared.token.Mode.TheVariants as mode
use Rattle.vc_lines.specs.Grammar.{Line, is_state, is_dollar_kind, is_end, are_entries, is_entry, arrow_line, line_of, line_at}
use Rattle.vc_lines.specs.Grammar as grammar
use Rattle.vc_reader.specs.Meaning.{begins, ends, only, weight_of, given_by_entries}
use Rattle.vc_reader.specs.Spelling.{AreLines, AreEntriesOver}
use Rattle.vc_daut.proofs.EntryTokens.{weight_piece, entry_of, more_pieces, entries_spread, entries_set, entries_read, entries_good, entries_over, entries_given}
use Rattle.vc_daut.proofs.LetterTokens.{blank_is_not_plain, number_plain, number_some, plain_letters, plain_ink}
use Rattle.vc_daut.proofs.ReadBack.{AreEntriesOf, IsTextLine, IsReread, AreReread, AreTextLines}
use Rattle.vc_daut.proofs.WeightTokens.{weight_token, weight_read}
use Rattle.vc_daut.proofs.TokenTexts.{Piece, spread, marks_at, AreSet, IsSet, IsClear, run_ends, piece_set, line_marks}

module _ {V : Type 0} (R : WeightSet V) (same : V → V → Bool) (canonical : V → List ℕ) where
  -- the text of a line, without its line feed
  abbrev pub body : TextLine V → List ℕ
  body (begins_line p w) = codes "$ -> " ++ (decimal p ++ after_state R same canonical w)
  body (moves_line p q ts) = decimal p ++ (codes " -> " ++ (decimal q ++ (codes " " ++ entries_text R same canonical ts)))
  body (ends_line p w) = decimal p ++ (codes " -> $" ++ after_state R same canonical w)
  body (state_line p) = decimal p

  pub line_is_body : (t : TextLine V) → line_text R same canonical t ≡ body t ++ codes "\n"
  line_is_body (begins_line p w) = ap (λ s. codes "$ -> " ++ s) (sym (append_assoc (decimal p) (after_state R same canonical w) (codes "\n")))
  line_is_body (moves_line p q ts) =
      let es : List ℕ = codes " " ++ entries_text R same canonical ts in
      ap (λ s. decimal p ++ (codes " -> " ++ s)) (sym (append_assoc (decimal q) es (codes "\n")))
      ∙ sym (append_assoc (decimal p) (codes " -> " ++ (decimal q ++ es)) (codes "\n"))
  line_is_body (ends_line p w) = sym (append_assoc (decimal p) (codes " -> $" ++ after_state R same canonical w) (codes "\n"))
  line_is_body (state_line p) = refl

-- ---- the tokens of lines

abbrev state_piece : List ℕ → ℕ → Piece
state_piece blanks p = record { blanks = blanks; kind = Run; text = decimal p }

abbrev dollar_piece : List ℕ → Piece
dollar_piece blanks = record { blanks = blanks; kind = Dollar; text = codes "$" }

abbrev arrow_piece : Piece
arrow_piece = record { blanks = codes " "; kind = Arrow; text = codes "->" }

state_set : (blanks : List ℕ) (p : ℕ) (rest : List ℕ) → list_all is_blank blanks ≡ true → IsClear rest → IsSet (state_piece blanks p) rest
state_set blanks p rest h clear =
    piece_set blanks (decimal p) rest Run h (plain_ink (decimal p) (number_plain p) (number_some p)) (plain_letters (decimal p) (number_plain p), number_some p) (run_ends rest clear)

dollar_set : (blanks rest : List ℕ) → list_all is_blank blanks ≡ true → IsSet (dollar_piece blanks) rest
dollar_set blanks rest h = piece_set blanks (codes "$") rest Dollar h (λ r. refl) refl tt

arrow_set : (rest : List ℕ) → IsSet arrow_piece rest
arrow_set rest = piece_set (codes " ") (codes "->") rest Arrow refl (λ r. refl) refl tt

-- the weight after a state, where it is written or not
abbrev end_pieces : {V : Type 0} → (V → List ℕ) → Bool → V → List Piece
end_pieces canonical true w = []
end_pieces canonical false w = weight_piece canonical (codes " ") w ∷ []

end_spread : {V : Type 0} (canonical : V → List ℕ) (b : Bool) (w : V) → spread (end_pieces canonical b w) ≡ (if b then [] else codes " " ++ weight_text canonical w)
end_spread canonical true w = refl
end_spread canonical false w = ap (λ t. 32 ∷ t) (append-nil (weight_text canonical w))

end_clear : {V : Type 0} (canonical : V → List ℕ) (b : Bool) (w : V) → IsClear (spread (end_pieces canonical b w))
end_clear canonical true w = tt
end_clear canonical false w = (blank_is_not_plain, refl)

module _ {V : Type 0} (R : WeightSet V) (spelled : List ℕ → Option V) (fit : List ℕ → Bool) (canonical : V → List ℕ) (laws : TextLaws R spelled fit canonical) where
  end_set : (b : Bool) (w : V) → IsTrue (R.in_range w) → AreSet (end_pieces canonical b w)
  end_set true w h = tt
  end_set false w h = (piece_set (codes " ") (weight_text canonical w) [] Weight refl (λ r. refl) (weight_token R spelled fit canonical laws w h) tt, tt)

  end_good : (b : Bool) (n : ℕ) (w : V) → IsTrue (R.in_range w) → is_end spelled (marks_at n (end_pieces canonical b w)) ≡ true
  end_good true n w h = refl
  end_good false n w h = ap is_some (weight_read R spelled fit canonical laws w h)

  end_weight : (b : Bool) (n : ℕ) (w : V) → IsTrue (R.in_range w) → (b ≡ true → w ≡ R.one) → weight_of R spelled (only (marks_at n (end_pieces canonical b w))) ≡ w
  end_weight true n w h one = sym (one refl)
  end_weight false n w h one = ap (λ o. unwrap_or o R.one) (weight_read R spelled fit canonical laws w h)

-- ---- what tokens are

module _ {V : Type 0} (spelled : List ℕ → Option V) where
  state_is : (m : Mark) → is_state m ≡ true → line_of spelled (m ∷ []) ≡ Some (grammar.state m)
  state_is m s = ap (λ b. if b then Some (grammar.state m) else None) s

  picked : {X : Type 0} (d s e : Bool) (x : X) (o : Option X) → d ≡ true → s ≡ true → e ≡ true → (if d && s then (if e then Some x else None) else o) ≡ Some x
  picked true true true x o f g h = refl
  picked true true false x o f g h = absurd (cc)
  picked true false e x o f g h = absurd (cc)
  picked false s e x o f g h = absurd (cc)

  passed : {X : Type 0} (d s : Bool) (a b : Option X) → d && s ≡ false → (if d && s then a else b) ≡ b
  passed true true a b h = absurd (cc)
  passed true false a b h = refl
  passed false s a b h = refl

  right_false : (a b : Bool) → b ≡ false → a && b ≡ false
  right_false true b h = h
  right_false false b h = refl

  initial_is : (m n : Mark) (rest : List Mark) → is_dollar_kind m.kind ≡ true → is_state n ≡ true → is_end spelled rest ≡ true
      → arrow_line spelled m n rest ≡ Some (grammar.initial_at n rest)
  initial_is m n rest d s e = picked (is_dollar_kind m.kind) (is_state n) (is_end spelled rest) (grammar.initial_at n rest) _ d s e

  final_is : (m n : Mark) (rest : List Mark) → is_dollar_kind m.kind ≡ false → is_state m ≡ true → is_dollar_kind n.kind ≡ true → is_end spelled rest ≡ true
      → arrow_line spelled m n rest ≡ Some (grammar.final_at m rest)
  final_is m n rest d s k e =
      passed (is_dollar_kind m.kind) (is_state n) _ _ (ap (λ b. b && is_state n) d)
      ∙ picked (is_state m) (is_dollar_kind n.kind) (is_end spelled rest) (grammar.final_at m rest) _ s k e

  moves_is : (m n : Mark) (rest : List Mark) → is_dollar_kind m.kind ≡ false → is_dollar_kind n.kind ≡ false → is_state m ≡ true → is_state n ≡ true
      → are_entries spelled rest ≡ true → arrow_line spelled m n rest ≡ Some (grammar.moves m n rest)
  moves_is m n rest d k s t e =
      passed (is_dollar_kind m.kind) (is_state n) _ _ (ap (λ b. b && is_state n) d)
      ∙ passed (is_state m) (is_dollar_kind n.kind) _ _ (right_false (is_state m) (is_dollar_kind n.kind) k)
      ∙ picked (is_state m) (is_state n) (are_entries spelled rest) (grammar.moves m n rest) _ s t e

-- ---- lines

module _ {V : Type 0} (R : WeightSet V) (same : V → V → Bool) (is_same : IsEqualityTest same)
    (spelled : List ℕ → Option V) (fit : List ℕ → Bool) (canonical : V → List ℕ) (laws : TextLaws R spelled fit canonical)
    (sets : List TapeSet) (some : 1 ≤ length sets)
    (letters : (ss : List TapeSet) (w : Word) → IsOverSets ss w → IsTrue (is_of_letters w))
    (complete : (line : List ℕ) (ms : List Mark) → HasMarks mode.Line line 0 ms → marks_of mode.Line line ≡ Ok ms) where
  -- what is read where these tokens stand
  found : (text : List ℕ) (ps : List Piece) (l : Line) → text ≡ spread ps → AreSet ps → line_of spelled (marks_at 0 ps) ≡ Some l → line_at spelled text ≡ Some l
  found text ps l e set is = ap (λ r. option_and_then (line_of spelled) (result_ok r)) (line_marks complete text ps e set) ∙ is

  is_one : (w : V) → same w R.one ≡ true → w ≡ R.one
  is_one w e = (is_same w R.one).0 e

  begins_reread : (p : ℕ) (w : V) → IsTrue (R.in_range w)
      → (l : Line) × (line_at spelled (body R same canonical (begins_line p w)) ≡ Some l) × IsReread R spelled sets (begins_line p w) l
  begins_reread p w h =
      let b : Bool = same w R.one in
      let qs : List Piece = end_pieces canonical b w in
      let ps : List Piece = dollar_piece [] ∷ arrow_piece ∷ state_piece (codes " ") p ∷ qs in
      let place : ℕ = 0 + 0 + 1 + 1 + 2 + 1 in
      let m : Mark = record { kind = Run; text = decimal p; at = place } in
      let rest : List Mark = marks_at (place + length (decimal p)) qs in
      let text : codes "$ -> " ++ (decimal p ++ after_state R same canonical w) ≡ spread ps = ap (λ s. codes "$ -> " ++ (decimal p ++ s)) (sym (end_spread canonical b w)) in
      let set : AreSet ps = (dollar_set [] _ refl, (arrow_set _, (state_set (codes " ") p (spread qs) refl (end_clear canonical b w), end_set R spelled fit canonical laws b w h))) in
      let is : line_of spelled (marks_at 0 ps) ≡ Some (grammar.initial_at m rest) =
      initial_is spelled (record { kind = Dollar; text = codes "$"; at = 0 }) m rest refl (number_plain p) (end_good R spelled fit canonical laws b (place + length (decimal p)) w h) in (
        grammar.initial_at m rest,
        found _ ps (grammar.initial_at m rest) text set is,
        record {
          names = refl;
          over = tt;
          given = λ number. ap (λ v. begins (number (decimal p)) v ∷ []) (end_weight R spelled fit canonical laws b (place + length (decimal p)) w h (is_one w));
        },
      )

  ends_reread : (p : ℕ) (w : V) → IsTrue (R.in_range w)
      → (l : Line) × (line_at spelled (body R same canonical (ends_line p w)) ≡ Some l) × IsReread R spelled sets (ends_line p w) l
  ends_reread p w h =
      let b : Bool = same w R.one in
      let qs : List Piece = end_pieces canonical b w in
      let ps : List Piece = state_piece [] p ∷ arrow_piece ∷ dollar_piece (codes " ") ∷ qs in
      let m : Mark = record { kind = Run; text = decimal p; at = 0 } in
      let place : ℕ = 0 + length (decimal p) + 1 + 2 + 1 in
      let rest : List Mark = marks_at (place + 1) qs in
      let text : decimal p ++ (codes " -> $" ++ after_state R same canonical w) ≡ spread ps = ap (λ s. decimal p ++ (codes " -> $" ++ s)) (sym (end_spread canonical b w)) in
      let set : AreSet ps = (state_set [] p _ refl (blank_is_not_plain, refl), (arrow_set _, (dollar_set (codes " ") (spread qs) refl, end_set R spelled fit canonical laws b w h))) in
      let is : line_of spelled (marks_at 0 ps) ≡ Some (grammar.final_at m rest) =
      final_is spelled m (record { kind = Dollar; text = codes "$"; at = place }) rest refl (number_plain p) refl (end_good R spelled fit canonical laws b (place + 1) w h) in (
        grammar.final_at m rest,
        found _ ps (grammar.final_at m rest) text set is,
        record {
          names = refl;
          over = tt;
          given = λ number. ap (λ v. ends (number (decimal p)) v ∷ []) (end_weight R spelled fit canonical laws b (place + 1) w h (is_one w));
        },
      )

  state_reread : (p : ℕ) → (l : Line) × (line_at spelled (decimal p) ≡ Some l) × IsReread R spelled sets (state_line p) l
  state_reread p =
      let m : Mark = record { kind = Run; text = decimal p; at = 0 } in (
        grammar.state m,
        found (decimal p) (state_piece [] p ∷ []) (grammar.state m) (sym (append-nil (decimal p))) (state_set [] p [] refl tt, tt) (state_is spelled m (number_plain p)),
        record { names = refl; over = tt; given = λ number. refl },
      )

  moves_reread : (p q : ℕ) (t : Transition V) (ts : List (Transition V)) → AreEntriesOf R sets (t ∷ ts)
      → (l : Line) × (line_at spelled (body R same canonical (moves_line p q (t ∷ ts))) ≡ Some l) × IsReread R spelled sets (moves_line p q (t ∷ ts)) l
  moves_reread p q t ts h =
      let qs : List Piece = entry_of R same canonical t ++ more_pieces R same canonical ts in
      let ps : List Piece = state_piece [] p ∷ arrow_piece ∷ state_piece (codes " ") q ∷ qs in
      let place : ℕ = 0 + length (decimal p) + 1 + 2 + 1 in
      let m : Mark = record { kind = Run; text = decimal p; at = 0 } in
      let n : Mark = record { kind = Run; text = decimal q; at = place } in
      let rest : List Mark = marks_at (place + length (decimal q)) qs in
      let entries : spread qs ≡ codes " " ++ entries_text R same canonical (t ∷ ts) = entries_spread R same canonical sets some t ts h in
      let clear : IsClear (spread qs) = subst IsClear (sym entries) (blank_is_not_plain, refl) in
      let text : body R same canonical (moves_line p q (t ∷ ts)) ≡ spread ps = ap (λ s. decimal p ++ (codes " -> " ++ (decimal q ++ s))) (sym entries) in
      let set : AreSet ps = (state_set [] p _ refl (blank_is_not_plain, refl), (arrow_set _, (state_set (codes " ") q (spread qs) refl clear, entries_set R spelled fit canonical laws same is_same sets some letters t ts h))) in
      let read = entries_read R spelled fit canonical laws same is_same sets some letters (place + length (decimal q)) t ts h in
      let good : are_entries spelled rest ≡ true = ap (list_all (is_entry spelled)) read.1 ∙ entries_good R spelled sets read.0 (t ∷ ts) read.2 in
      let is : line_of spelled (marks_at 0 ps) ≡ Some (grammar.moves m n rest) = moves_is spelled m n rest refl refl (number_plain p) (number_plain q) good in (
        grammar.moves m n rest,
        found _ ps (grammar.moves m n rest) text set is,
        record {
          names = refl;
          over = subst (AreEntriesOver sets) (sym read.1) (entries_over R spelled sets read.0 (t ∷ ts) read.2);
          given = λ number. ap (given_by_entries R spelled sets (number (decimal p)) (number (decimal q))) read.1
              ∙ entries_given R spelled sets (number (decimal p)) (number (decimal q)) read.0 (t ∷ ts) read.2;
        },
      )

  -- each line that the writer may write is read as what it says
  pub line_reread : (t : TextLine V) → IsTextLine R sets t → (l : Line) × (line_at spelled (body R same canonical t) ≡ Some l) × IsReread R spelled sets t l
  line_reread (begins_line p w) h = begins_reread p w h
  line_reread (moves_line p q []) h = absurd (h.0 refl)
  line_reread (moves_line p q (t ∷ ts)) h = moves_reread p q t ts h.1
  line_reread (ends_line p w) h = ends_reread p w h
  line_reread (state_line p) h = state_reread p

  -- and so are lines one after another
  pub are_reread : (ts : List (TextLine V)) → AreTextLines R sets ts → (ls : List Line) × AreLines spelled (map (body R same canonical) ts) ls × AreReread R spelled sets ts ls
  are_reread [] h = ([], tt, tt)
  are_reread (t ∷ ts) h =
      let l = line_reread t h.0 in
      let ls = are_reread ts h.1 in
      (l.0 ∷ ls.0, (l.1, ls.1), (l.2, ls.2))
