-- One token more of a text.
use Rattle.std.proofs.Common.{◌≡◌, ◌<◌, ◌≤◌, ◌+◌, ◌-◌, ◌^◌, ℕ, zero, suc, false, List, [], ◌∷◌, ◌++◌, length, drop, Some, None, Result, Ok, Err, refl, ap, sym, ◌∙◌, subst, arith, append_assoc, append-nil, length-drop, length-take, slice_range}
use Rattle.vc_lex.specs.Grammar.{BeginsToken}
use Rattle.vc_lex.specs.Lexers.{State, next_place, IsStepBy}
use Rattle.vc_lex.specs.Marks.{Mark, next_at, mark_at, with_front, marks_from, marks_by, marks_of}
use Rattle.vc_lex.specs.Scans.{token_at}
use Rattle.vc_lex.specs.Views.{AreFit, seen}
use Rattle.vc_lex.specs.declared.scan.Scan.{Scan}
use Rattle.vc_lex.specs.declared.scan.Scan.TheVariants.{End, Bad, Found}
use Rattle.vc_lex.specs.declared.token.BadByte.{BadByte}
use Rattle.vc_lex.specs.declared.token.Mode.{Mode}
use Rattle.vc_lex.specs.declared.token.Token.{Token}
use Rattle.vc_lex.specs.declared.token.TokenKind.{TokenKind}
use Rattle.vc_lex.proofs.TokenLists.{follows_at, next_within, some_width}

-- the step of a lexer that answers a token
pub record IsTokenStep (scan : Scan) (old : State) (t : Token) (new : State) : Type 0 where
  pub width : ℕ
  pub found : scan ≡ Found t.kind width
  pub place : new.place ≡ t.at + width
  pub same : new ≡ record old { place = t.at + width }
  pub mark : seen t ≡ mark_at old.source (next_place old) t.kind width
  pub at : t.at ≡ next_place old

token_step : (scan : Scan) (old : State) (t : Token) (new : State) → IsStepBy scan old (Some (Ok t)) new → IsTokenStep scan old t new
token_step End old t new h = absurd h
token_step Bad old t new h = absurd h
token_step (Found kind width) old t new (k, a, x, e) =
    record {
      width = width;
      found = ap (λ j. Found j width) (sym k);
      place = ap (λ s. s.place) e;
      same = e;
      mark = cc;
      at = a;
    }

end_step : (scan : Scan) (old new : State) → IsStepBy scan old None new → scan ≡ End
end_step End old new h = refl
end_step Bad old new h = absurd h
end_step (Found kind width) old new h = absurd h

bad_step : (scan : Scan) (old new : State) (f : BadByte) → IsStepBy scan old (Some (Err f)) new → (scan ≡ Bad) × (f.at ≡ next_place old)
bad_step End old new f h = absurd h
bad_step Bad old new f h = (refl, h.0)
bad_step (Found kind width) old new f h = absurd h

front_more : (front : List Mark) (m : Mark) (rest : Result (List Mark) ℕ) → with_front front (with_front (m ∷ []) rest) ≡ with_front (front ++ m ∷ []) rest
front_more front m (Err bad) = refl
front_more front m (Ok ms) = ap Ok (sym (append_assoc front (m ∷ []) ms))

no_front : (o : Result (List Mark) ℕ) → with_front [] o ≡ o
no_front (Err bad) = refl
no_front (Ok ms) = refl

-- what was read of a text so far, and what is left of it
pub record IsCutTo (mode : Mode) (text : List ℕ) (front : List Mark) (at : ℕ) : Type 0 where
  pub most : ℕ
  pub enough : length text < most + at
  pub within : at ≤ length text
  pub rest : with_front front (marks_by most mode text at) ≡ marks_of mode text

some_left : (text : List ℕ) (most at : ℕ) → length text < most + at → at ≤ length text → (n : ℕ) × (most ≡ suc n)
some_left text zero at h w = absurd (omega arith)
some_left text (suc n) at h w = (n, refl)

-- the tokens from a place on, by what begins there
scanned : (mode : Mode) (text : List ℕ) (n at : ℕ) (scan : Scan) → token_at mode (drop (next_at text at) text) ≡ scan
    → marks_by (suc n) mode text at ≡ marks_from (marks_by n mode text) text (next_at text at) scan
scanned mode text n at scan e = ap (λ s. marks_from (marks_by n mode text) text (next_at text at) s) e

-- one token more
cut_more : (mode : Mode) (text : List ℕ) (front : List Mark) (at width : ℕ) (kind : TokenKind) → token_at mode (drop (next_at text at) text) ≡ Found kind width
    → IsCutTo mode text front at → IsCutTo mode text (front ++ mark_at text (next_at text at) kind width ∷ []) (next_at text at + width)
cut_more mode text front at width kind e c =
    let left = some_left text c.most at c.enough c.within in
    let f : BeginsToken mode (drop (next_at text at) text) kind width = follows_at mode (drop (next_at text at) text) (Found kind width) e in
    let p : 0 < width = some_width kind mode width (drop (next_at text at) text) f in
    let w = f.within in
    let i = next_within text at c.within in
    let b : at ≤ next_at text at = omega arith in
    let m = left.1 in
    let k = c.enough in
    record {
      most = left.0;
      enough = omega (arith, m, k, p, b);
      within = omega (arith, w, i, length-drop (next_at text at) text);
      rest = sym (front_more front (mark_at text (next_at text at) kind width) (marks_by left.0 mode text (next_at text at + width)))
          ∙ ap (with_front front) (sym (scanned mode text left.0 at (Found kind width) e))
          ∙ ap (λ n. with_front front (marks_by n mode text at)) (sym m)
          ∙ c.rest;
    }

-- no token more
cut_ends : (mode : Mode) (text : List ℕ) (front : List Mark) (at : ℕ) → token_at mode (drop (next_at text at) text) ≡ End → IsCutTo mode text front at
    → marks_of mode text ≡ Ok front
cut_ends mode text front at e c =
    let left = some_left text c.most at c.enough c.within in
    sym c.rest ∙ ap (λ n. with_front front (marks_by n mode text at)) left.1 ∙ ap (with_front front) (scanned mode text left.0 at End e) ∙ ap Ok (append-nil front)

-- a byte at which no token begins
cut_breaks : (mode : Mode) (text : List ℕ) (front : List Mark) (at : ℕ) → token_at mode (drop (next_at text at) text) ≡ Bad → IsCutTo mode text front at
    → marks_of mode text ≡ Err (next_at text at)
cut_breaks mode text front at e c =
    let left = some_left text c.most at c.enough c.within in
    sym c.rest ∙ ap (λ n. with_front front (marks_by n mode text at)) left.1 ∙ ap (with_front front) (scanned mode text left.0 at Bad e)

slice_short : (text : List ℕ) (at width : ℕ) → length (slice_range text at (at + width)) ≤ width
slice_short text at width = let l = length-take ((at + width) - at) (drop at text) in omega (arith, l)

pub fit_more : (ts : List Token) (t : Token) → AreFit ts → t.at + length t.text.now < 2 ^ 64 → AreFit (ts ++ t ∷ [])
fit_more [] t h k = (k, tt)
fit_more (u ∷ ts) t h k = (h.0, fit_more ts t h.1 k)

-- a lexer that has cut a text so far
pub record IsAt (mode : Mode) (text : List ℕ) (front : List Mark) (s : State) : Type 0 where
  pub source : s.source ≡ text
  pub same_mode : s.mode ≡ mode
  pub failed : s.failed ≡ false
  pub cut : IsCutTo mode text front s.place

-- a lexer at the first byte of a text
pub begins_at : (mode : Mode) (text : List ℕ) (s : State) → s ≡ record { source = text; mode = mode; place = 0; failed = false } → IsAt mode text [] s
begins_at mode text s e = record {
  source = ap (λ r. r.source) e;
  same_mode = ap (λ r. r.mode) e;
  failed = ap (λ r. r.failed) e;
  cut = subst (IsCutTo mode text []) (sym (ap (λ r. r.place) e))
      (record { most = length text + 1; enough = omega arith; within = omega arith; rest = no_front (marks_of mode text) });
}

scan_is : (mode : Mode) (text : List ℕ) (front : List Mark) (s : State) (scan : Scan) → IsAt mode text front s → token_at s.mode (drop (next_place s) s.source) ≡ scan
    → token_at mode (drop (next_at text s.place) text) ≡ scan
scan_is mode text front s scan a e =
    ap (λ t. token_at mode (drop (next_at t s.place) t)) (sym a.source)
    ∙ ap (λ m. token_at m (drop (next_place s) s.source)) (sym a.same_mode)
    ∙ e

place_is : (mode : Mode) (text : List ℕ) (front : List Mark) (s : State) → IsAt mode text front s → next_place s ≡ next_at text s.place
place_is mode text front s a = ap (λ t. next_at t s.place) a.source

mark_is : (mode : Mode) (text : List ℕ) (front : List Mark) (s : State) (t : Token) (width : ℕ) → IsAt mode text front s → seen t ≡ mark_at s.source (next_place s) t.kind width
    → seen t ≡ mark_at text (next_at text s.place) t.kind width
mark_is mode text front s t width a e = e ∙ ap (λ source. mark_at source (next_at source s.place) t.kind width) a.source

-- the lexer answers a token
pub record IsMore (mode : Mode) (text : List ℕ) (front : List Mark) (old new : State) (t : Token) : Type 0 where
  pub further : IsAt mode text (front ++ seen t ∷ []) new
  pub later : old.place < new.place
  pub within : t.at + length t.text.now ≤ length text

pub step_more : (mode : Mode) (text : List ℕ) (front : List Mark) (s new : State) (t : Token) (next : Result Token BadByte) → IsAt mode text front s → next ≡ Ok t
    → (s.failed ≡ false → IsStepBy (token_at s.mode (drop (next_place s) s.source)) s (Some next) new) → IsMore mode text front s new t
step_more mode text front s new t next a is step =
    let b = subst (λ r. IsStepBy (token_at s.mode (drop (next_place s) s.source)) s (Some r) new) is (step a.failed) in
    let k = token_step (token_at s.mode (drop (next_place s) s.source)) s t new b in
    let e = scan_is mode text front s (Found t.kind k.width) a k.found in
    let m = mark_is mode text front s t k.width a k.mark in
    let p : new.place ≡ next_at text s.place + k.width = k.place ∙ ap (λ n. n + k.width) (k.at ∙ place_is mode text front s a) in
    let c = cut_more mode text front s.place k.width t.kind e a.cut in
    let f : BeginsToken mode (drop (next_at text s.place) text) t.kind k.width = follows_at mode (drop (next_at text s.place) text) (Found t.kind k.width) e in
    let w : 0 < k.width = some_width t.kind mode k.width (drop (next_at text s.place) text) f in
    let at : t.at ≡ next_at text s.place = ap (λ x. x.at) m in
    let long : length t.text.now ≤ k.width = subst (λ x. length x ≤ k.width) (sym (ap (λ (x : Mark). x.text) m)) (slice_short text (next_at text s.place) k.width) in
    let inside = c.within in
    record {
      further = record {
        source = ap (λ r. r.source) k.same ∙ a.source;
        same_mode = ap (λ r. r.mode) k.same ∙ a.same_mode;
        failed = ap (λ r. r.failed) k.same ∙ a.failed;
        cut = subst (λ n. IsCutTo mode text (front ++ seen t ∷ []) n) (sym p) (subst (λ x. IsCutTo mode text (front ++ x ∷ []) (next_at text s.place + k.width)) (sym m) c);
      };
      later = omega (arith, p, w);
      within = omega (arith, at, long, inside);
    }

-- the lexer answers the end of the text
pub step_ends : (mode : Mode) (text : List ℕ) (front : List Mark) (s new : State) → IsAt mode text front s
    → (s.failed ≡ false → IsStepBy (token_at s.mode (drop (next_place s) s.source)) s None new) → marks_of mode text ≡ Ok front
step_ends mode text front s new a step =
    cut_ends mode text front s.place (scan_is mode text front s End a (end_step _ s new (step a.failed))) a.cut

-- the lexer answers a byte at which no token begins
pub step_breaks : (mode : Mode) (text : List ℕ) (front : List Mark) (s new : State) (f : BadByte) (next : Result Token BadByte) → IsAt mode text front s → next ≡ Err f
    → (s.failed ≡ false → IsStepBy (token_at s.mode (drop (next_place s) s.source)) s (Some next) new) → marks_of mode text ≡ Err f.at
step_breaks mode text front s new f next a is step =
    let b = subst (λ r. IsStepBy (token_at s.mode (drop (next_place s) s.source)) s (Some r) new) is (step a.failed) in
    let k = bad_step (token_at s.mode (drop (next_place s) s.source)) s new f b in
    cut_breaks mode text front s.place (scan_is mode text front s Bad a k.0) a.cut ∙ ap Err (sym (k.1 ∙ place_is mode text front s a))
