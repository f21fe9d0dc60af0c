-- Entries with commas between them.
use Rattle.std.proofs.Common.{◌≡◌, ◌<◌, ◌≤◌, ◌+◌, ◌-◌, ℕ, zero, suc, not, cond, List, [], ◌∷◌, length, map, take, drop, Option, None, refl, ap, ap₂, sym, ◌∙◌, arith}
use Rattle.std.specs.List.{prefix_len}
use Rattle.std.proofs.lemmas.List.{take_all, length-drop, take-map, drop-map}
use Rattle.vc_lex.specs.declared.token.Token.{Token}
use Rattle.vc_lex.specs.Views.{seen, AreFit}
use Rattle.vc_lines.specs.Grammar.{is_comma_kind, is_comma, entries_of, line_of}
use Rattle.vc_lines.proofs.Pieces.{before_mark, pieces_cut, pieces_whole}

before_comma : (ts : List Token) → before_mark is_comma (map seen ts) ≡ prefix_len (λ t. not (is_comma_kind t.kind)) ts
before_comma [] = refl
before_comma (t ∷ ts) = ap (λ n. cond (not (is_comma_kind t.kind)) (1 + n) 0) (before_comma ts)

map-length : (ts : List Token) → length (map seen ts) ≡ length ts
map-length [] = refl
map-length (t ∷ ts) = ap suc (map-length ts)

-- entries of which the first has a comma after it
pub entry_cut : (ts : List Token) (n : ℕ) → n ≡ prefix_len (λ t. not (is_comma_kind t.kind)) ts → n < length ts
    → entries_of (map seen ts) ≡ map seen (take n ts) ∷ entries_of (map seen (take (length ts - (n + 1)) (drop (n + 1) ts)))
entry_cut ts n e h =
    let b = before_comma ts in
    let l = map-length ts in
    let m : before_mark is_comma (map seen ts) < length (map seen ts) = omega (arith, e, b, l) in
    pieces_cut is_comma (map seen ts) m
    ∙ ap (λ k. take k (map seen ts) ∷ entries_of (drop (k + 1) (map seen ts))) (b ∙ sym e)
    ∙ ap₂ (λ x y. x ∷ entries_of y) (take-map seen n ts)
    (drop-map seen (n + 1) ts ∙ ap (map seen) (sym (take_all (length ts - (n + 1)) (drop (n + 1) ts) (omega (arith, length-drop (n + 1) ts)))))

-- and one alone
pub entry_whole : (ts : List Token) (n : ℕ) → n ≡ prefix_len (λ t. not (is_comma_kind t.kind)) ts → length ts ≤ n → entries_of (map seen ts) ≡ map seen ts ∷ []
entry_whole ts n e h = pieces_whole is_comma (map seen ts) (let l = map-length ts in let b = before_comma ts in omega (arith, e, l, b))

-- two tokens are no line
pub two_tokens : {V : Type 0} (spelled : List ℕ → Option V) (ts : List Token) → 2 ≤ length ts → length ts < 3 → None ≡ line_of spelled (map seen ts)
two_tokens spelled [] h k = absurd (omega arith)
two_tokens spelled (a ∷ []) h k = absurd (omega arith)
two_tokens spelled (a ∷ b ∷ []) h k = refl
two_tokens spelled (a ∷ b ∷ c ∷ ts) h k = absurd (omega arith)

-- what is fit stays fit
pub fit_take : (n : ℕ) (ts : List Token) → AreFit ts → AreFit (take n ts)
fit_take zero ts h = tt
fit_take (suc n) [] h = tt
fit_take (suc n) (t ∷ ts) h = (h.0, fit_take n ts h.1)

pub fit_drop : (n : ℕ) (ts : List Token) → AreFit ts → AreFit (drop n ts)
fit_drop zero ts h = h
fit_drop (suc n) [] h = tt
fit_drop (suc n) (t ∷ ts) h = fit_drop n ts h.1
