-- Labels of entries, one after the other.
use Rattle.std.proofs.Common.{◌≡◌, ◌<◌, ◌+◌, ℕ, suc, Bool, true, false, ◌&&◌, List, [], ◌∷◌, length, map, drop, get_or, Option, Some, None, refl, ap, sym, ◌∙◌, subst, arith, inl, inr, drop-cons}
use Rattle.std.specs.Prelude.{MatchBool}
use Rattle.vc_label.specs.declared.tape_set.TapeSet.{TapeSet}
use Rattle.vc_lex.specs.declared.token.Token.{Token}
use Rattle.std.specs.Prelude.{if◌then◌else◌}
use Rattle.std.specs.List.{list_all}
use Rattle.vc_lex.specs.Labels.{IsLabelOver}
use Rattle.vc_lex.specs.Marks.{Mark, end_of, span_of}
use Rattle.vc_lex.specs.Parts.{is_label}
use Rattle.vc_lex.specs.Views.{seen, AreFit}
use Rattle.vc_lines.specs.Grammar.{Line, initial_at, final_at, moves, state, is_state, is_end, is_entry, is_weight_or_none, is_dollar_kind, is_arrow_kind, are_entries, entries_of, entry_weight, entry_label, have_labels, has_labels, arrow_line, line_of}
use Rattle.vc_reader.specs.Spelling.{AreEntriesOver, IsFirstEntry}

pub both_true : (a b : Bool) → a && b ≡ true → (a ≡ true) × (b ≡ true)
both_true true true h = (refl, refl)
both_true true false h = absurd (cc)
both_true false b h = absurd (cc)

pub entry_labels : (all : List (List Mark)) (e : List Mark) (es : List (List Mark)) → all ≡ e ∷ es → have_labels all ≡ true → (is_label (entry_label e) ≡ true) × (have_labels es ≡ true)
entry_labels all e es w h = both_true (is_label (entry_label e)) (have_labels es) (ap have_labels (sym w) ∙ h)

pub if_true : (P Q : Type 0) (b : Bool) → b ≡ true → MatchBool b P Q → P
if_true P Q true e h = h
if_true P Q false e h = absurd (cc)

pub if_false : (P Q : Type 0) (b : Bool) → b ≡ false → MatchBool b P Q → Q
if_false P Q true e h = absurd (cc)
if_false P Q false e h = h

pub over_more : (sets : List TapeSet) (all : List (List Mark)) (e label : List Mark) (es : List (List Mark)) → all ≡ e ∷ es → label ≡ entry_label e → IsLabelOver sets label → AreEntriesOver sets es → AreEntriesOver sets all
over_more sets all e label es w l o h = subst (AreEntriesOver sets) (sym w) (subst (IsLabelOver sets) l o, h)

pub first_later : (sets : List TapeSet) (all : List (List Mark)) (e label : List Mark) (es : List (List Mark)) (p : ℕ × ℕ) → all ≡ e ∷ es → label ≡ entry_label e → IsLabelOver sets label → IsFirstEntry sets es p → IsFirstEntry sets all p
first_later sets all e label es p w l o h = subst (λ x. IsFirstEntry sets x p) (sym w) (inr (subst (IsLabelOver sets) l o, h))

pub first_here : (sets : List TapeSet) (all : List (List Mark)) (e label : List Mark) (es : List (List Mark)) (p : ℕ × ℕ) → all ≡ e ∷ es → label ≡ entry_label e → (IsLabelOver sets label → ⊥) → p ≡ span_of label → IsFirstEntry sets all p
first_here sets all e label es p w l o q = subst (λ x. IsFirstEntry sets x p) (sym w) (inl (subst (λ x. IsLabelOver sets x → ⊥) l o, q ∙ ap span_of l))

next_at : (rest : List Token) (i : ℕ) (d : Token) → i < length rest → drop i rest ≡ get_or rest i d ∷ drop (i + 1) rest
next_at rest i d h = let e : suc i ≡ i + 1 = omega arith in drop-cons rest i d h ∙ ap (λ k. get_or rest i d ∷ drop k rest) e

-- the end of tokens, one token further
pub end_more : (rest : List Token) (i : ℕ) (d last first : Token) → i < length rest → end_of (seen last) (map seen (drop i rest)) ≡ end_of (seen first) (map seen rest)
    → end_of (seen (get_or rest i d)) (map seen (drop (i + 1) rest)) ≡ end_of (seen first) (map seen rest)
end_more rest i d last first h e = ap (λ ts. end_of (seen last) (map seen ts)) (sym (next_at rest i d h)) ∙ e

pub fit_at : (rest : List Token) (i : ℕ) (d : Token) → i < length rest → AreFit (drop i rest) → AreFit (get_or rest i d ∷ drop (i + 1) rest)
fit_at rest i d h f = subst AreFit (next_at rest i d h) f

-- the entries of a line have labels
abbrev HaveLabels : Option Line → Type 0
HaveLabels None = Unit {0}
HaveLabels (Some l) = has_labels l ≡ true

either : (b : Bool) (x y : Option Line) → HaveLabels x → HaveLabels y → HaveLabels (if b then x else y)
either true x y h k = h
either false x y h k = k

module _ {V : Type 0} (spelled : List ℕ → Option V) where
  entries_labels : (es : List (List Mark)) → list_all (is_entry spelled) es ≡ true → have_labels es ≡ true
  entries_labels [] h = refl
  entries_labels (e ∷ es) h =
      let b = both_true (is_entry spelled e) (list_all (is_entry spelled) es) h in
      let l = both_true (is_weight_or_none spelled (entry_weight e)) (is_label (entry_label e)) b.0 in
      ap (λ x. x && have_labels es) l.1 ∙ entries_labels es b.1

  moves_labels : (m n : Mark) (rest : List Mark) (b : Bool) → are_entries spelled rest ≡ b → HaveLabels (if b then Some (moves m n rest) else None)
  moves_labels m n rest true e = entries_labels (entries_of rest) e
  moves_labels m n rest false e = tt

  arrow_labels : (m n : Mark) (rest : List Mark) → HaveLabels (arrow_line spelled m n rest)
  arrow_labels m n rest =
      either (is_dollar_kind m.kind && is_state n) _ _ (either (is_end spelled rest) (Some (initial_at n rest)) None refl tt)
      (either (is_state m && is_dollar_kind n.kind) _ _ (either (is_end spelled rest) (Some (final_at m rest)) None refl tt)
      (either (is_state m && is_state n) _ _ (moves_labels m n rest (are_entries spelled rest) refl) tt))

  line_labels : (ms : List Mark) → HaveLabels (line_of spelled ms)
  line_labels [] = refl
  line_labels (m ∷ []) = either (is_state m) (Some (state m)) None refl tt
  line_labels (m ∷ a ∷ []) = tt
  line_labels (m ∷ a ∷ n ∷ rest) = either (is_arrow_kind a.kind) (arrow_line spelled m n rest) None (arrow_labels m n rest) tt

  pub labels_of : (ms : List Mark) (l : Line) → line_of spelled ms ≡ Some l → has_labels l ≡ true
  labels_of ms l e = subst HaveLabels e (line_labels ms)
