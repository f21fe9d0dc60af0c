-- The tokens of a text, by the grammar and as a function.
use Rattle.std.proofs.Common.{◌≡◌, ◌<◌, ◌≤◌, ◌+◌, ◌-◌, ◌⊎◌, ℕ, zero, suc, List, [], ◌∷◌, length, take, drop, Result, Ok, Err, refl, ap, ap₂, sym, ◌∙◌, subst, arith, length-drop, inl, inr}
use Rattle.std.specs.Prelude.{slice_range}
use Rattle.std.proofs.lemmas.List.{take-append-drop, length-take-le}
use Rattle.std.proofs.lemmas.List.Sums.{prefix_len-le-length}
use Rattle.vc_text.specs.Blanks.{is_blank}
use Rattle.vc_lex.specs.Grammar.{BeginsToken, Between, IsComment, IsTokenText}
use Rattle.vc_lex.specs.Marks.{Mark, IsNext, HasMarks, IsBadByte, BreaksAt, next_at, mark_at, with_front, marks_from, marks_by, marks_of}
use Rattle.vc_lex.specs.Scans.{Follows, token_at}
use Rattle.vc_lex.specs.declared.scan.Scan.{Scan}
use Rattle.vc_lex.specs.declared.scan.Scan.TheVariants.{End, Bad, Found}
use Rattle.vc_lex.specs.declared.token.Mode.{Mode}
use Rattle.vc_lex.specs.declared.token.Mode.TheVariants.{Expression, Line}
use Rattle.vc_lex.specs.declared.token.TokenKind.{TokenKind}
use Rattle.vc_lex.specs.declared.token.TokenKind.TheVariants.{Zero, One, Letter, Run, Quoted, Class, Weight, Star, And, Shuffle, Plus, Left, Right, Bar, Arrow, Comma, Dollar, Equals, Name}
use Rattle.vc_lex.proofs.Complete.{end_found, found, none_begins}
use Rattle.vc_lex.proofs.Sound.{follows}

no_between : (first last : ℕ) (P : List ℕ → Type 0) → Between first P last [] → ⊥
no_between first last P (inside, e, is) = cc

no_letter : IsTokenText Letter Expression [] → ⊥
no_letter (x, inl (plain, e)) = cc
no_letter (x, inr (escaped, e)) = cc

no_empty_token : (kind : TokenKind) (mode : Mode) → IsTokenText kind mode [] → ⊥
no_empty_token Zero Expression h = cc
no_empty_token Zero Line h = h
no_empty_token One mode h = cc
no_empty_token Letter Expression h = no_letter h
no_empty_token Letter Line h = h
no_empty_token Run Expression h = h
no_empty_token Run Line h = h.1 refl
no_empty_token Quoted mode h = no_between 39 39 _ h
no_empty_token Class mode h = no_between 91 93 _ h
no_empty_token Weight mode h = no_between 60 62 _ h
no_empty_token Star Expression h = cc
no_empty_token Star Line h = h
no_empty_token And Expression h = cc
no_empty_token And Line h = h
no_empty_token Shuffle Expression h = cc
no_empty_token Shuffle Line h = h
no_empty_token Plus Expression h = cc
no_empty_token Plus Line h = h
no_empty_token Left Expression h = cc
no_empty_token Left Line h = h
no_empty_token Right Expression h = cc
no_empty_token Right Line h = h
no_empty_token Bar mode h = cc
no_empty_token Arrow Expression h = h
no_empty_token Arrow Line h = cc
no_empty_token Comma Expression h = h
no_empty_token Comma Line h = cc
no_empty_token Dollar Expression h = h
no_empty_token Dollar Line h = cc
no_empty_token Equals Expression h = h
no_empty_token Equals Line h = cc
no_empty_token Name Expression h = h
no_empty_token Name Line h = no_between 34 34 _ h

-- a token that begins a text has a byte
pub some_width : (kind : TokenKind) (mode : Mode) (width : ℕ) (s : List ℕ) → BeginsToken mode s kind width → 0 < width
some_width kind mode zero s b = absurd (no_empty_token kind mode b.is_token)
some_width kind mode (suc n) s b = omega arith

pub next_within : (text : List ℕ) (at : ℕ) → at ≤ length text → next_at text at ≤ length text
next_within text at h = let p = prefix_len-le-length is_blank (drop at text) in omega (arith, p, length-drop at text)

-- what was found at a place, by the grammar
pub follows_at : (mode : Mode) (s : List ℕ) (scan : Scan) → token_at mode s ≡ scan → Follows mode s scan
follows_at mode s scan e = subst (Follows mode s) e (follows mode s)

-- a token that is answered is one by the grammar
next_sound : (mode : Mode) (text : List ℕ) (at width : ℕ) (kind : TokenKind) → token_at mode (drop (next_at text at) text) ≡ Found kind width → at ≤ length text
    → IsNext mode text at (mark_at text (next_at text at) kind width) × (length (slice_range text (next_at text at) (next_at text at + width)) ≡ width)
next_sound mode text at width kind e h =
    let f : BeginsToken mode (drop (next_at text at) text) kind width = follows_at mode (drop (next_at text at) text) (Found kind width) e in
    let w = f.within in
    let n : (next_at text at + width) - next_at text at ≡ width = omega arith in
    let long : length (slice_range text (next_at text at) (next_at text at + width)) ≡ width = ap (λ k. length (take k (drop (next_at text at) text))) n ∙ length-take-le width (drop (next_at text at) text) w in (
      record {
        place = refl;
        begins = subst (BeginsToken mode (drop (next_at text at) text) kind) (sym long) f;
        slice = ap (λ k. slice_range text (next_at text at) (next_at text at + k)) (sym long);
      },
      long,
    )

end_is_found : (mode : Mode) (s : List ℕ) → (s ≡ []) ⊎ IsComment mode s → token_at mode s ≡ Bad → ⊥
end_is_found mode s h e = let g : End ≡ Bad = sym (end_found mode s h) ∙ e in cc

bad_is : (mode : Mode) (text : List ℕ) (at : ℕ) → token_at mode (drop at text) ≡ Bad → IsBadByte mode text at
bad_is mode text at e = record {
  some = λ f. end_is_found mode (drop at text) (inl f) e;
  no_comment = λ f. end_is_found mode (drop at text) (inr f) e;
  no_token = λ kind width b. none_begins kind mode (take width (drop at text)) (drop width (drop at text)) (ap (token_at mode) (take-append-drop width (drop at text)) ∙ e) b.is_token;
}

-- what an answer says of the text from a place on
abbrev Says : Mode → List ℕ → ℕ → Result (List Mark) ℕ → Type 0
Says mode text at (Ok ms) = HasMarks mode text at ms
Says mode text at (Err bad) = (ms : List Mark) × BreaksAt mode text at ms bad

sound_by : (n : ℕ) (mode : Mode) (text : List ℕ) (at : ℕ) → at ≤ length text → length text < n + at → Says mode text at (marks_by n mode text at)
sound_by zero mode text at h k = absurd (omega arith)
sound_by (suc n) mode text at h k = go (token_at mode (drop (next_at text at) text)) refl (λ a b c. sound_by n mode text a b c)
  where
    one : (m : Mark) (r : Result (List Mark) ℕ) → IsNext mode text at m → Says mode text (m.at + length m.text) r → Says mode text at (with_front (m ∷ []) r)
    one m (Ok ms) x s = (x, s)
    one m (Err bad) x (ms, s) = (m ∷ ms, (x, s))

    go : (s : Scan) → token_at mode (drop (next_at text at) text) ≡ s → ((a : ℕ) → a ≤ length text → length text < n + a → Says mode text a (marks_by n mode text a))
        → Says mode text at (marks_from (marks_by n mode text) text (next_at text at) s)
    go End f r = follows_at mode (drop (next_at text at) text) End f
    go Bad f r = ([], (refl, bad_is mode text (next_at text at) f))
    go (Found kind width) f r =
        let x = next_sound mode text at width kind f h in
        let b : BeginsToken mode (drop (next_at text at) text) kind width = follows_at mode (drop (next_at text at) text) (Found kind width) f in
        let w = b.within in
        let p = some_width kind mode width (drop (next_at text at) text) b in
        let i = next_within text at h in
        let j : at ≤ next_at text at = omega arith in
        let inside : next_at text at + width ≤ length text = omega (arith, w, i, length-drop (next_at text at) text) in
        let more : length text < n + (next_at text at + width) = omega (arith, k, p, j) in
        one (mark_at text (next_at text at) kind width) (marks_by n mode text (next_at text at + width)) x.0
        (subst (λ l. Says mode text (next_at text at + l) (marks_by n mode text (next_at text at + width))) (sym x.1) (r (next_at text at + width) inside more))

-- the tokens that the function answers are those of the grammar, and the place is that of a bad byte
pub marks_sound : (mode : Mode) (text : List ℕ) (ms : List Mark) → marks_of mode text ≡ Ok ms → HasMarks mode text 0 ms
marks_sound mode text ms e = subst (Says mode text 0) e (sound_by (length text + 1) mode text 0 (omega arith) (omega arith))

pub break_sound : (mode : Mode) (text : List ℕ) (bad : ℕ) → marks_of mode text ≡ Err bad → (ms : List Mark) × BreaksAt mode text 0 ms bad
break_sound mode text bad e = subst (Says mode text 0) e (sound_by (length text + 1) mode text 0 (omega arith) (omega arith))

token_found : (mode : Mode) (s : List ℕ) (kind : TokenKind) (width : ℕ) → BeginsToken mode s kind width → token_at mode s ≡ Found kind width
token_found mode s kind width b =
    ap (token_at mode) (sym (take-append-drop width s))
    ∙ found kind mode (take width s) (drop width s) b.is_token b.ends
    ∙ ap (Found kind) (length-take-le width s b.within)

bad_found : (mode : Mode) (text : List ℕ) (at : ℕ) → IsBadByte mode text at → token_at mode (drop at text) ≡ Bad
bad_found mode text at b = go (token_at mode (drop at text)) (follows mode (drop at text))
  where
    go : (s : Scan) → Follows mode (drop at text) s → s ≡ Bad
    go End (inl e) = absurd (b.some e)
    go End (inr e) = absurd (b.no_comment e)
    go Bad f = refl
    go (Found kind width) f = absurd (b.no_token kind width f)

same_mark : (mode : Mode) (text : List ℕ) (at : ℕ) (m : Mark) → IsNext mode text at m → mark_at text (next_at text at) m.kind (length m.text) ≡ m
same_mark mode text at m x =
    let p = x.place in
    let t = x.slice in
    let q : slice_range text (next_at text at) (next_at text at + length m.text) ≡ m.text = ap (λ k. slice_range text k (k + length m.text)) (sym p) ∙ sym t in
    let make : List ℕ → ℕ → Mark = λ u a. record { kind = m.kind; text = u; at = a } in
    ap₂ make q (sym p)

-- one token of the grammar is answered, and then what is after it
one_more : (n : ℕ) (mode : Mode) (text : List ℕ) (at : ℕ) (m : Mark) (r : Result (List Mark) ℕ) → IsNext mode text at m → marks_by n mode text (next_at text at + length m.text) ≡ r
    → marks_by (suc n) mode text at ≡ with_front (m ∷ []) r
one_more n mode text at m r x e =
    ap (λ s. marks_from (marks_by n mode text) text (next_at text at) s) (token_found mode (drop (next_at text at) text) m.kind (length m.text) x.begins)
    ∙ ap (with_front (mark_at text (next_at text at) m.kind (length m.text) ∷ [])) e
    ∙ ap (λ o. with_front (o ∷ []) r) (same_mark mode text at m x)

pub record HasLeft (n : ℕ) (text : List ℕ) (at : ℕ) (m : Mark) : Type 0 where
  pub inside : next_at text at + length m.text ≤ length text
  pub more : length text < n + (next_at text at + length m.text)

left : (n : ℕ) (mode : Mode) (text : List ℕ) (at : ℕ) (m : Mark) → at ≤ length text → length text < suc n + at → IsNext mode text at m → HasLeft n text at m
left n mode text at m h k x =
    let w = x.begins.within in
    let p = some_width m.kind mode (length m.text) (drop (next_at text at) text) x.begins in
    let i = next_within text at h in
    let b : at ≤ next_at text at = omega arith in
    record { inside = omega (arith, w, i, length-drop (next_at text at) text); more = omega (arith, k, p, b) }

complete_by : (n : ℕ) (mode : Mode) (text : List ℕ) (at : ℕ) (ms : List Mark) → at ≤ length text → length text < n + at → HasMarks mode text at ms → marks_by n mode text at ≡ Ok ms
complete_by zero mode text at ms h k x = absurd (omega arith)
complete_by (suc n) mode text at [] h k x = ap (λ s. marks_from (marks_by n mode text) text (next_at text at) s) (end_found mode (drop (next_at text at) text) x)
complete_by (suc n) mode text at (m ∷ ms) h k (x, rest) =
    let l = left n mode text at m h k x in
    let r : HasMarks mode text (next_at text at + length m.text) ms = subst (λ a. HasMarks mode text (a + length m.text) ms) x.place rest in
    one_more n mode text at m (Ok ms) x (complete_by n mode text (next_at text at + length m.text) ms l.inside l.more r)

broken_by : (n : ℕ) (mode : Mode) (text : List ℕ) (at : ℕ) (ms : List Mark) (bad : ℕ) → at ≤ length text → length text < n + at → BreaksAt mode text at ms bad → marks_by n mode text at ≡ Err bad
broken_by zero mode text at ms bad h k x = absurd (omega arith)
broken_by (suc n) mode text at [] bad h k (e, b) =
    ap (λ s. marks_from (marks_by n mode text) text (next_at text at) s) (bad_found mode text (next_at text at) (subst (IsBadByte mode text) e b)) ∙ ap Err (sym e)
broken_by (suc n) mode text at (m ∷ ms) bad h k (x, rest) =
    let l = left n mode text at m h k x in
    let r : BreaksAt mode text (next_at text at + length m.text) ms bad = subst (λ a. BreaksAt mode text (a + length m.text) ms bad) x.place rest in
    one_more n mode text at m (Err bad) x (broken_by n mode text (next_at text at + length m.text) ms bad l.inside l.more r)

-- and each list of tokens by the grammar is answered, and each bad byte after tokens
pub marks_complete : (mode : Mode) (text : List ℕ) (ms : List Mark) → HasMarks mode text 0 ms → marks_of mode text ≡ Ok ms
marks_complete mode text ms x = complete_by (length text + 1) mode text 0 ms (omega arith) (omega arith) x

pub break_complete : (mode : Mode) (text : List ℕ) (ms : List Mark) (bad : ℕ) → BreaksAt mode text 0 ms bad → marks_of mode text ≡ Err bad
break_complete mode text ms bad x = broken_by (length text + 1) mode text 0 ms bad (omega arith) (omega arith) x
