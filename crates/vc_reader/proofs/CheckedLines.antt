-- Lines that are checked one after the other.
use Rattle.std.proofs.Common.{◌≡◌, ◌+◌, ℕ, true, List, [], ◌∷◌, ◌++◌, Option, Some, None, refl, ap, sym, ◌∙◌, subst, inl, inr}
use Rattle.std.specs.Prelude.{unwrap_or, if◌then◌else◌}
use Rattle.std.specs.Option.{is_some}
use Rattle.std.specs.List.{flat_map}
use Rattle.vc_label.specs.declared.tape_set.TapeSet.{TapeSet}
use Rattle.vc_reader.specs.declared.check.Outside.{Outside}
use Rattle.vc_reader.specs.declared.check.Judged.TheVariants.{Good}
use Rattle.vc_lines.specs.Grammar.{Line, blank, line_at}
use Rattle.vc_lines.specs.Names.{line_names, with_name, with_names}
use Rattle.vc_reader.specs.Passes.{first_outside, IsJudged}
use Rattle.vc_reader.specs.Spelling.{bad_line, lines_in, AreOver, IsFirstLabel}

with_names-append : (names xs ys : List (List ℕ)) → with_names names (xs ++ ys) ≡ with_names (with_names names xs) ys
with_names-append names [] ys = refl
with_names-append names (x ∷ xs) ys = with_names-append (with_name names x) xs ys

module _ {V : Type 0} (spelled : List ℕ → Option V) (sets : List TapeSet) (first : ℕ) (all : List (List ℕ)) where
  -- what the labels so far are
  abbrev pub IsFoundSoFar : ℕ → List Line → Option Outside → Type 0
  IsFoundSoFar number lines None =
      (AreOver sets lines → AreOver sets (lines_in spelled all))
      × ((n : ℕ) (p : ℕ × ℕ) → IsFirstLabel sets number lines n p → IsFirstLabel sets first (lines_in spelled all) n p)
  IsFoundSoFar number lines (Some o) = IsFirstLabel sets first (lines_in spelled all) o.line o.span

  -- what is true of the texts from a number on is true of all
  pub record IsCheckedTo (old : List (List ℕ)) (number : ℕ) (texts new : List (List ℕ)) (outside : Option Outside) : Type 0 where
    pub bad : bad_line spelled number texts ≡ bad_line spelled first all
    pub names : with_names new (flat_map line_names (lines_in spelled texts)) ≡ with_names old (flat_map line_names (lines_in spelled all))
    pub found : IsFoundSoFar number (lines_in spelled texts) outside

  pub checked_begins : (old : List (List ℕ)) → IsCheckedTo old first all old None
  checked_begins old = record { bad = refl; names = refl; found = ((λ h. h), (λ n p h. h)) }

  bad_here : (number : ℕ) (t : List ℕ) (ts : List (List ℕ)) → line_at spelled t ≡ None → bad_line spelled number (t ∷ ts) ≡ Some number
  bad_here number t ts e = ap (λ o. if is_some o then bad_line spelled (number + 1) ts else Some number) e

  bad_later : (number : ℕ) (t : List ℕ) (ts : List (List ℕ)) → is_some (line_at spelled t) ≡ true → bad_line spelled number (t ∷ ts) ≡ bad_line spelled (number + 1) ts
  bad_later number t ts e = ap (λ b. if b then bad_line spelled (number + 1) ts else Some number) e

  pub checked_bad : (old : List (List ℕ)) (number : ℕ) (t : List ℕ) (ts texts names : List (List ℕ)) (outside : Option Outside) → texts ≡ t ∷ ts → IsCheckedTo old number texts names outside
      → line_at spelled t ≡ None → bad_line spelled first all ≡ Some number
  checked_bad old number t ts texts names outside w c e = sym c.bad ∙ ap (bad_line spelled number) w ∙ bad_here number t ts e

  found_more : (number : ℕ) (t : List ℕ) (ts : List (List ℕ)) (outside : Option Outside) (found : Option (ℕ × ℕ)) (old new : List (List ℕ))
      → IsFoundSoFar number (lines_in spelled (t ∷ ts)) outside → IsJudged spelled sets t old new (Good found) → IsFoundSoFar (number + 1) (lines_in spelled ts) (first_outside outside number found)
  found_more number t ts (Some o) found old new h j = h
  found_more number t ts None None old new h j = ((λ k. h.0 (j.2, k)), (λ n p k. h.1 n p (inr (j.2, k))))
  found_more number t ts None (Some span) old new h j = h.1 number span (inl (refl, j.2))

  judged_names : (t : List ℕ) (found : Option (ℕ × ℕ)) (old new : List (List ℕ)) → IsJudged spelled sets t old new (Good found)
      → (is_some (line_at spelled t) ≡ true) × (new ≡ with_names old (line_names (unwrap_or (line_at spelled t) blank)))
  judged_names t None old new j = (j.0, j.1)
  judged_names t (Some span) old new j = (j.0, j.1)

  pub checked_more : (old : List (List ℕ)) (number : ℕ) (t : List ℕ) (ts texts names new : List (List ℕ)) (outside : Option Outside) (found : Option (ℕ × ℕ)) → texts ≡ t ∷ ts
      → IsCheckedTo old number texts names outside → IsJudged spelled sets t names new (Good found) → IsCheckedTo old (number + 1) ts new (first_outside outside number found)
  checked_more old number t ts texts names new outside found w c j =
      let k = judged_names t found names new j in
      record {
        bad = sym (bad_later number t ts k.0) ∙ ap (bad_line spelled number) (sym w) ∙ c.bad;
        names = ap (λ x. with_names x (flat_map line_names (lines_in spelled ts))) k.1
            ∙ sym (with_names-append names (line_names (unwrap_or (line_at spelled t) blank)) (flat_map line_names (lines_in spelled ts)))
            ∙ ap (λ x. with_names names (flat_map line_names (lines_in spelled x))) (sym w) ∙ c.names;
        found = found_more number t ts outside found names new (subst (λ x. IsFoundSoFar number (lines_in spelled x) outside) w c.found) j;
      }

  -- all texts are lines
  pub checked_ends : (old : List (List ℕ)) (number : ℕ) (names : List (List ℕ)) → IsCheckedTo old number [] names None
      → (bad_line spelled first all ≡ None) × AreOver sets (lines_in spelled all) × (names ≡ with_names old (flat_map line_names (lines_in spelled all)))
  checked_ends old number names c = (sym c.bad, c.found.0 tt, c.names)

  pub checked_outside : (old : List (List ℕ)) (number : ℕ) (names : List (List ℕ)) (o : Outside) → IsCheckedTo old number [] names (Some o)
      → (bad_line spelled first all ≡ None) × IsFirstLabel sets first (lines_in spelled all) o.line o.span
  checked_outside old number names o c = (sym c.bad, c.found)
