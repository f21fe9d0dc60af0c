-- The lines of a text, from its first line on.
use Rattle.std.proofs.Common.{◌≡◌, ◌≢◌, ◌<◌, ◌≤◌, ◌+◌, ◌-◌, ◌==◌, ℕ, suc, Bool, true, false, List, [], ◌∷◌, length, map, take, drop, get_or, refl, ap, sym, ◌∙◌, subst, arith}
use Rattle.std.specs.Prelude.{if◌then◌else◌}
use Rattle.std.proofs.lemmas.Bool.{eq-eqb, eqb-true}
use Rattle.std.proofs.lemmas.List.{take_all, length-drop}
use Rattle.vc_lines.specs.Pieces.{pieces, onto_first}
use Rattle.vc_lines.specs.Lines.{is_line_feed, without_return, counted, with_first, lines_of, more_lines, without_end}
use Rattle.vc_lines.proofs.Pieces.{before_mark, pieces_some, pieces_cut, pieces_whole}

-- a return at the end is dropped
pub return_dropped : (s : List ℕ) → 0 < length s → get_or s (length s - 1) 0 ≡ 13 → take (length s - 1) s ≡ without_return s
return_dropped [] h e = absurd (omega arith)
return_dropped (x ∷ []) h e = ap (λ b. if b then [] else x ∷ []) (sym (eq-eqb x 13 e))
return_dropped (x ∷ y ∷ s) h e =
    let n : length (x ∷ y ∷ s) - 1 ≡ suc (length (y ∷ s) - 1) = omega arith in
    let f : get_or (y ∷ s) (length (y ∷ s) - 1) 0 ≡ 13 = ap (λ k. get_or (x ∷ y ∷ s) k 0) (sym n) ∙ e in
    ap (λ k. take k (x ∷ y ∷ s)) n ∙ ap (λ t. x ∷ t) (return_dropped (y ∷ s) (omega arith) f)

-- and any other byte stays
pub return_kept : (s : List ℕ) → (0 < length s → get_or s (length s - 1) 0 ≢ 13) → s ≡ without_return s
return_kept [] h = refl
return_kept (x ∷ []) h = go (x == 13) refl
  where
    go : (b : Bool) → (x == 13) ≡ b → x ∷ [] ≡ (if b then [] else x ∷ [])
    go true e = absurd (h (omega arith) (eqb-true x 13 e))
    go false e = refl
return_kept (x ∷ y ∷ s) h =
    let n : length (x ∷ y ∷ s) - 1 ≡ suc (length (y ∷ s) - 1) = omega arith in
    ap (λ t. x ∷ t) (return_kept (y ∷ s) (λ q e. h (omega arith) (ap (λ k. get_or (x ∷ y ∷ s) k 0) n ∙ e)))

-- lines after another one, in a text in which a line is counted
counted_rest : (s : List ℕ) → counted (map without_return (pieces is_line_feed s)) ≡ more_lines (without_end s)
counted_rest [] = refl
counted_rest (x ∷ []) = go (x == 13) (x == 10) refl refl
  where
    go : (b c : Bool) → (x == 13) ≡ b → (x == 10) ≡ c
        → counted (map without_return (pieces is_line_feed (x ∷ []))) ≡ more_lines (if b then [] else x ∷ [])
    go true c e f =
        let z : x ≡ 13 = eqb-true x 13 e in
        subst (λ y. counted (map without_return (pieces is_line_feed (y ∷ []))) ≡ []) (sym z) refl
    go false true e f =
        ap (λ b. counted (map without_return (if b then [] ∷ [] ∷ [] else (x ∷ []) ∷ []))) f
        ∙ sym (ap (λ b. with_first (map without_return (if b then [] ∷ [] ∷ [] else (x ∷ []) ∷ []))) f)
    go false false e f =
        ap (λ b. counted (map without_return (if b then [] ∷ [] ∷ [] else (x ∷ []) ∷ []))) f
        ∙ ap (λ b. counted ((if b then [] else x ∷ []) ∷ [])) e
        ∙ sym (ap (λ b. with_first (map without_return (if b then [] ∷ [] ∷ [] else (x ∷ []) ∷ []))) f ∙ ap (λ b. with_first ((if b then [] else x ∷ []) ∷ [])) e)
counted_rest (x ∷ y ∷ s) = go (x == 10) (y == 10) (pieces is_line_feed s) (pieces_some is_line_feed s)
  where
    go : (b c : Bool) (P : List (List ℕ)) → P ≢ []
        → counted (map without_return (if b then [] ∷ (if c then [] ∷ P else onto_first y P) else onto_first x (if c then [] ∷ P else onto_first y P)))
        ≡ with_first (map without_return (if b then [] ∷ (if c then [] ∷ P else onto_first y P) else onto_first x (if c then [] ∷ P else onto_first y P)))
    go b c [] n = absurd (n refl)
    go true true (r ∷ rs) n = refl
    go true false (r ∷ rs) n = refl
    go false true (r ∷ rs) n = head (x == 13)
      where
        head : (d : Bool) → counted ((if d then [] else x ∷ []) ∷ map without_return (r ∷ rs)) ≡ with_first ((if d then [] else x ∷ []) ∷ map without_return (r ∷ rs))
        head true = refl
        head false = refl
    go false false (r ∷ []) n = refl
    go false false (r ∷ q ∷ rs) n = refl

-- what is left of a text
rest_all : (text : List ℕ) (k : ℕ) → take (length text - k) (drop k text) ≡ drop k text
rest_all text k = take_all (length text - k) (drop k text) (omega (arith, length-drop k text))

-- a text with a line feed
pub line_cut : (text : List ℕ) (n : ℕ) → n ≡ before_mark is_line_feed text → n < length text
    → lines_of text ≡ without_return (take n text) ∷ more_lines (without_end (take (length text - (n + 1)) (drop (n + 1) text)))
line_cut text n e h =
    let m : before_mark is_line_feed text < length text = omega (arith, e) in
    ap (λ ps. with_first (map without_return ps)) (pieces_cut is_line_feed text m)
    ∙ ap (λ k. without_return (take k text) ∷ counted (map without_return (pieces is_line_feed (drop (k + 1) text)))) (sym e)
    ∙ ap (λ ls. without_return (take n text) ∷ ls) (counted_rest (drop (n + 1) text))
    ∙ ap (λ t. without_return (take n text) ∷ more_lines (without_end t)) (sym (rest_all text (n + 1)))

-- and one without
pub line_whole : (text : List ℕ) (n : ℕ) → n ≡ before_mark is_line_feed text → length text ≤ n → lines_of text ≡ without_return text ∷ []
line_whole text n e h =
    let m : length text ≤ before_mark is_line_feed text = omega (arith, e) in
    ap (λ ps. with_first (map without_return ps)) (pieces_whole is_line_feed text m)
