-- Entries of the canonical text are tokens, and are read as what they say.
use Rattle.std.proofs.Common.{◌≡◌, ℕ, ◌+◌, ◌≤◌, Bool, true, false, ◌&&◌, List, [], ◌∷◌, ◌++◌, length, map, codes, Option, Some, None, refl, ap, ap₂, sym, ◌∙◌, subst, arith, append-nil}
use Rattle.std.specs.Prelude.{IsTrue, ⊤, if◌then◌else◌, unwrap_or}
use Rattle.std.specs.Option.{is_some}
use Rattle.std.specs.List.{list_all, flat_map}
use Rattle.vc_label.specs.Letters.{is_of_letters}
use Rattle.vc_label.specs.Sets.{IsOverSets}
use Rattle.vc_label.specs.declared.tape_set.TapeSet.{TapeSet}
use Rattle.vc_text.specs.Letters.{is_plain}
use Rattle.vc_text.specs.Blanks.{is_blank}
use Rattle.vc_lex.specs.declared.token.TokenKind.TheVariants.{Weight, Comma}
use Rattle.vc_model.specs.Automata.{Transition}
use Rattle.vc_model.specs.Lists.{IsEqualityTest}
use Rattle.vc_model.specs.WeightSet.{WeightSet}
use Rattle.vc_model.specs.Words.{Word}
use Rattle.vc_ring.specs.Texts.{TextLaws}
use Rattle.vc_daut.specs.Canonical.{weight_text, label_text, entry_text, entries_text}
use Rattle.vc_lex.specs.Labels.{label_words, IsLabelOver}
use Rattle.vc_lex.specs.Marks.{Mark}
use Rattle.vc_lex.specs.Parts.{is_label}
use Rattle.vc_text.specs.Escapes.{inside}
use Rattle.vc_lines.specs.Grammar.{is_weight_kind, is_comma, is_entry, is_weight_or_none, entries_of, entry_weight, entry_label}
use Rattle.vc_reader.specs.Meaning.{moves_by, moves_with, weight_of, given_by_entries}
use Rattle.vc_lines.specs.Pieces.{pieces, onto_first}
use Rattle.vc_reader.specs.Spelling.{AreEntriesOver}
use Rattle.vc_daut.proofs.LabelTokens.{label_pieces, label_spread, label_set, label_is_label, label_over, label_is_words, kind_is_no_weight, labels_without_comma, AreNoCommas}
use Rattle.vc_daut.proofs.ReadBack.{IsEntryOf, AreEntriesOf}
use Rattle.vc_daut.proofs.WeightTokens.{weight_token, weight_read}
use Rattle.vc_daut.proofs.TokenTexts.{Piece, spread, marks_at, place_after, AreSet, IsClear, piece_set, spread_append, marks_append}

-- ---- lists of marks that are cut at commas

cut_at : (xs ys : List Mark) (c : Mark) → AreNoCommas xs → is_comma c ≡ true → pieces is_comma (xs ++ c ∷ ys) ≡ xs ∷ pieces is_comma ys
cut_at [] ys c h e = ap (λ b. if b then [] ∷ pieces is_comma ys else onto_first c (pieces is_comma ys)) e
cut_at (x ∷ xs) ys c h e =
    ap (λ b. if b then [] ∷ pieces is_comma (xs ++ c ∷ ys) else onto_first x (pieces is_comma (xs ++ c ∷ ys))) h.0
    ∙ ap (onto_first x) (cut_at xs ys c h.1 e)

uncut : (xs : List Mark) → AreNoCommas xs → pieces is_comma xs ≡ xs ∷ []
uncut [] h = refl
uncut (x ∷ xs) h =
    ap (λ b. if b then [] ∷ pieces is_comma xs else onto_first x (pieces is_comma xs)) h.0
    ∙ ap (onto_first x) (uncut xs h.1)

-- an entry that begins with no weight
unweighted : (m : Mark) (ms : List Mark) → is_weight_kind m.kind ≡ false → (entry_weight (m ∷ ms) ≡ None) × (entry_label (m ∷ ms) ≡ m ∷ ms)
unweighted m ms e = (ap (λ b. if b then Some m else None) e, ap (λ b. if b then ms else m ∷ ms) e)

-- there is a part
abbrev pub IsLabelled : Word → Type 0
IsLabelled [] = ⊥
IsLabelled (a ∷ w) = ⊤

pub labelled : (sets : List TapeSet) (w : Word) → 1 ≤ length sets → IsOverSets sets w → IsLabelled w
labelled [] [] some over = absurd (omega arith)
labelled [] (a ∷ w) some over = tt
labelled (s ∷ sets) [] some over = absurd over
labelled (s ∷ sets) (a ∷ w) some over = tt

comma_is_not_plain : is_plain 44 ≡ false
unfolding is_plain
comma_is_not_plain = refl

abbrev pub weight_piece : {V : Type 0} → (V → List ℕ) → List ℕ → V → Piece
weight_piece canonical blanks w = record { blanks = blanks; kind = Weight; text = weight_text canonical w }

-- the tokens of an entry, where the weight is written or not
abbrev pub entry_pieces : {V : Type 0} → (V → List ℕ) → Bool → List ℕ → V → Word → List Piece
entry_pieces canonical true blanks w label = label_pieces blanks label
entry_pieces canonical false blanks w label = weight_piece canonical blanks w ∷ label_pieces [] label

entry_spread : {V : Type 0} (canonical : V → List ℕ) (b : Bool) (blanks : List ℕ) (w : V) (label : Word) → IsLabelled label
    → spread (entry_pieces canonical b blanks w label) ≡ blanks ++ ((if b then [] else weight_text canonical w) ++ label_text label)
entry_spread canonical b blanks w [] h = absurd h
entry_spread canonical true blanks w (a ∷ l) h = label_spread blanks a l
entry_spread canonical false blanks w (a ∷ l) h = ap (λ t. blanks ++ (weight_text canonical w ++ t)) (label_spread [] a l)

abbrev pub comma_piece : Piece
comma_piece = record { blanks = []; kind = Comma; text = codes "," }

module _ {V : Type 0} (R : WeightSet V) (same : V → V → Bool) (canonical : V → List ℕ) where
  abbrev pub entry_of : Transition V → List Piece
  entry_of t = entry_pieces canonical (same t.weight R.one) (codes " ") t.weight t.label

  -- the entries after the first one, with a comma before each
  abbrev pub more_pieces : List (Transition V) → List Piece
  more_pieces [] = []
  more_pieces (t ∷ ts) = comma_piece ∷ (entry_of t ++ more_pieces ts)

  more_clear : (ts : List (Transition V)) → IsClear (spread (more_pieces ts))
  more_clear [] = tt
  more_clear (t ∷ ts) = (comma_is_not_plain, refl)

  module _ (sets : List TapeSet) (some : 1 ≤ length sets) where
    more_spread : (ts : List (Transition V)) → AreEntriesOf R sets ts → spread (more_pieces ts) ≡ flat_map (λ t. codes ", " ++ t) (map (entry_text R same canonical) ts)
    more_spread [] h = refl
    more_spread (t ∷ ts) h =
        ap (λ s. 44 ∷ s) (
        spread_append (entry_of t) (more_pieces ts)
        ∙ ap₂ (λ x y. x ++ y) (entry_spread canonical (same t.weight R.one) (codes " ") t.weight t.label (labelled sets t.label some h.0.label)) (more_spread ts h.1))

    pub entries_spread : (t : Transition V) (ts : List (Transition V)) → AreEntriesOf R sets (t ∷ ts)
        → spread (entry_of t ++ more_pieces ts) ≡ codes " " ++ entries_text R same canonical (t ∷ ts)
    entries_spread t ts h =
        spread_append (entry_of t) (more_pieces ts)
        ∙ ap₂ (λ x y. x ++ y) (entry_spread canonical (same t.weight R.one) (codes " ") t.weight t.label (labelled sets t.label some h.0.label)) (more_spread ts h.1)

module _ {V : Type 0} (R : WeightSet V) (spelled : List ℕ → Option V) (sets : List TapeSet) where
  -- what is read where an entry stands
  pub record IsEntryRead (ms : List Mark) (w : V) (label : Word) : Type 0 where
    pub good : is_entry spelled ms ≡ true
    pub over : IsLabelOver sets (entry_label ms)
    pub words : label_words sets (entry_label ms) ≡ label ∷ []
    pub weight : weight_of R spelled (entry_weight ms) ≡ w
    pub commas : AreNoCommas ms

  -- entry by entry
  abbrev pub AreRead : List (List Mark) → List (Transition V) → Type 0
  AreRead [] [] = ⊤
  AreRead [] (t ∷ ts) = ⊥
  AreRead (e ∷ es) [] = ⊥
  AreRead (e ∷ es) (t ∷ ts) = IsEntryRead e t.weight t.label × AreRead es ts

  pub entries_good : (es : List (List Mark)) (ts : List (Transition V)) → AreRead es ts → list_all (is_entry spelled) es ≡ true
  entries_good [] [] h = refl
  entries_good [] (t ∷ ts) h = absurd h
  entries_good (e ∷ es) [] h = absurd h
  entries_good (e ∷ es) (t ∷ ts) h = ap (λ b. b && list_all (is_entry spelled) es) h.0.good ∙ entries_good es ts h.1

  pub entries_over : (es : List (List Mark)) (ts : List (Transition V)) → AreRead es ts → AreEntriesOver sets es
  entries_over [] [] h = tt
  entries_over [] (t ∷ ts) h = absurd h
  entries_over (e ∷ es) [] h = absurd h
  entries_over (e ∷ es) (t ∷ ts) h = (h.0.over, entries_over es ts h.1)

  pub entries_given : (from to : ℕ) (es : List (List Mark)) (ts : List (Transition V)) → AreRead es ts
      → given_by_entries R spelled sets from to es ≡ map (λ t. moves_by (record t { from = from; to = to })) ts
  entries_given from to [] [] h = refl
  entries_given from to [] (t ∷ ts) h = absurd h
  entries_given from to (e ∷ es) [] h = absurd h
  entries_given from to (e ∷ es) (t ∷ ts) h =
      ap₂ (λ w ls. map (moves_with from to w) ls ++ given_by_entries R spelled sets from to es) h.0.weight h.0.words
      ∙ ap (λ gs. moves_with from to t.weight t.label ∷ gs) (entries_given from to es ts h.1)

module _ {V : Type 0} (R : WeightSet V) (spelled : List ℕ → Option V) (fit : List ℕ → Bool) (canonical : V → List ℕ) (laws : TextLaws R spelled fit canonical) where
  entry_set : (b : Bool) (blanks : List ℕ) (w : V) (label : Word) (rest : List Piece) → IsLabelled label → is_of_letters label ≡ true → IsTrue (R.in_range w)
      → list_all is_blank blanks ≡ true → AreSet rest → IsClear (spread rest) → AreSet (entry_pieces canonical b blanks w label ++ rest)
  entry_set b blanks w [] rest h letters range are set clear = absurd h
  entry_set true blanks w (a ∷ l) rest h letters range are set clear = label_set blanks a l rest are letters set clear
  entry_set false blanks w (a ∷ l) rest h letters range are set clear = (
    piece_set blanks (weight_text canonical w) (spread (label_pieces [] (a ∷ l) ++ rest)) Weight are (λ r. refl) (weight_token R spelled fit canonical laws w range) tt,
    label_set [] a l rest refl letters set clear,
  )

  entry_read : (sets : List TapeSet) (b : Bool) (blanks : List ℕ) (n : ℕ) (w : V) (label : Word) → IsLabelled label → IsOverSets sets label → IsTrue (R.in_range w)
      → (b ≡ true → w ≡ R.one) → IsEntryRead R spelled sets (marks_at n (entry_pieces canonical b blanks w label)) w label
  entry_read sets b blanks n w [] h over range one = absurd h
  entry_read sets true blanks n w (a ∷ l) h over range one =
      let ms : List Mark = marks_at n (label_pieces blanks (a ∷ l)) in
      let u : (entry_weight ms ≡ None) × (entry_label ms ≡ ms) = unweighted _ _ (kind_is_no_weight a) in
      record {
        good = ap₂ (λ o k. is_weight_or_none spelled o && is_label k) u.0 u.1 ∙ label_is_label n blanks a l;
        over = subst (IsLabelOver sets) (sym u.1) (label_over sets n blanks a l over);
        words = ap (label_words sets) u.1 ∙ label_is_words sets n blanks a l;
        weight = ap (weight_of R spelled) u.0 ∙ sym (one refl);
        commas = labels_without_comma n blanks a l;
      }
  entry_read sets false blanks n w (a ∷ l) h over range one =
      let after : ℕ = n + length blanks + length (weight_text canonical w) in
      let is : spelled (inside (weight_text canonical w)) ≡ Some w = weight_read R spelled fit canonical laws w range in
      record {
        good = ap₂ (λ o k. is_some o && k) is (label_is_label after [] a l);
        over = label_over sets after [] a l over;
        words = label_is_words sets after [] a l;
        weight = ap (λ o. unwrap_or o R.one) is;
        commas = (refl, labels_without_comma after [] a l);
      }

  module _ (same : V → V → Bool) (is_same : IsEqualityTest same) (sets : List TapeSet) (some : 1 ≤ length sets)
      (letters : (ss : List TapeSet) (w : Word) → IsOverSets ss w → IsTrue (is_of_letters w)) where
    pub entries_set : (t : Transition V) (ts : List (Transition V)) → AreEntriesOf R sets (t ∷ ts) → AreSet (entry_of R same canonical t ++ more_pieces R same canonical ts)
    entries_set t [] h =
        entry_set (same t.weight R.one) (codes " ") t.weight t.label [] (labelled sets t.label some h.0.label) (letters sets t.label h.0.label) h.0.weight refl tt tt
    entries_set t (u ∷ ts) h =
        entry_set (same t.weight R.one) (codes " ") t.weight t.label (more_pieces R same canonical (u ∷ ts)) (labelled sets t.label some h.0.label) (letters sets t.label h.0.label) h.0.weight refl
        (piece_set [] (codes ",") (spread (entry_of R same canonical u ++ more_pieces R same canonical ts)) Comma refl (λ r. refl) refl tt, entries_set u ts h.1)
        (comma_is_not_plain, refl)

    one_read : (n : ℕ) (t : Transition V) → IsEntryOf R sets t → IsEntryRead R spelled sets (marks_at n (entry_of R same canonical t)) t.weight t.label
    one_read n t h = entry_read sets (same t.weight R.one) (codes " ") n t.weight t.label (labelled sets t.label some h.label) h.label h.weight (λ e. (is_same t.weight R.one).0 e)

    -- the marks of entries are cut into those of each
    pub entries_read : (n : ℕ) (t : Transition V) (ts : List (Transition V)) → AreEntriesOf R sets (t ∷ ts)
        → (es : List (List Mark)) × (entries_of (marks_at n (entry_of R same canonical t ++ more_pieces R same canonical ts)) ≡ es) × AreRead R spelled sets es (t ∷ ts)
    entries_read n t [] h =
        let r = one_read n t h.0 in
        let ms : List Mark = marks_at n (entry_of R same canonical t) in
        (ms ∷ [], ap entries_of (marks_append n (entry_of R same canonical t) [] ∙ append-nil ms) ∙ uncut ms r.commas, (r, tt))
    entries_read n t (u ∷ ts) h =
        let r = one_read n t h.0 in
        let ms : List Mark = marks_at n (entry_of R same canonical t) in
        let place : ℕ = place_after n (entry_of R same canonical t) + 0 in
        let comma : Mark = record { kind = Comma; text = codes ","; at = place } in
        let more = entries_read (place + 1) u ts h.1 in (
          ms ∷ more.0,
          ap entries_of (marks_append n (entry_of R same canonical t) (more_pieces R same canonical (u ∷ ts)))
              ∙ cut_at ms (marks_at (place + 1) (entry_of R same canonical u ++ more_pieces R same canonical ts)) comma r.commas refl
              ∙ ap (λ es. ms ∷ es) more.1,
          (r, more.2),
        )
