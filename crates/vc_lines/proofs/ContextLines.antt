-- The context text of a line, by the grammar and as a function.
use Rattle.std.proofs.Common.{◌≡◌, ◌⊎◌, ◌+◌, ◌<◌, ◌==◌, ◌&&◌, ◌↔◌, ℕ, suc, Bool, true, false, List, [], ◌∷◌, ◌++◌, length, take, drop, codes, Option, Some, None, refl, sym, ap, ap₂, ◌∙◌, subst, inl, inr, arith}
use Rattle.std.specs.Prelude.{cond, nat_lt, if◌then◌else◌}
use Rattle.std.specs.List.{prefix_len, list_all}
use Rattle.std.specs.Option.{option_and_then}
use Rattle.std.specs.Str.{bytes_eq}
use Rattle.std.proofs.Math.Nat.{zero-add}
use Rattle.std.proofs.Math.Seq.{take-append_seam, drop-append-add}
use Rattle.std.proofs.lemmas.Bool.{and_parts, or_cases, eqb-true, false_from_ne_true, lt-ltb, ltb-true}
use Rattle.std.proofs.lemmas.List.{append-nil, length-append, take-append-drop}
use Rattle.std.proofs.lemmas.Slice.Eq.{bytes_eq-Decides}
use Rattle.vc_text.specs.Blanks.{AreBlanks, after_blanks, is_blank}
use Rattle.vc_lex.specs.Scans.{Follows, begins_with, token_at}
use Rattle.vc_lex.specs.declared.scan.Scan.{Scan}
use Rattle.vc_lex.specs.declared.scan.Scan.TheVariants.{End, Bad, Found}
use Rattle.vc_lex.specs.declared.token.Mode.TheVariants.{Line}
use Rattle.vc_lines.specs.ContextLines.{BeginsBlank, BeginsQuote, BeginsComment, IsEnd, IsRest, IsQuoted, IsAlone, IsContextLine, Passes}
use Rattle.vc_lines.specs.Contexts.{before, begins_comment, begins_quote, after_front, context_in_line, quoted, value_text}
use Rattle.vc_lines.specs.Heads.{is_blank_line, is_end}
use Rattle.vc_lines.proofs.Stops.{before_passed, cut_at}

some_same : (x y : List ℕ) → Some x ≡ Some y → x ≡ y
some_same x y h = cc h

-- ---- blanks

-- a text, cut after the blanks at its front
record IsUnblanked (s : List ℕ) : Type 0 where
  pub blanks : List ℕ
  pub are_blanks : AreBlanks blanks
  pub whole : s ≡ blanks ++ after_blanks s
  pub no_blank : BeginsBlank (after_blanks s) → ⊥

begun_blank : (x : ℕ) (s : List ℕ) → is_blank x ≡ false → BeginsBlank (x ∷ s) → ⊥
begun_blank x s e (y, rest, is, f) = let g : x ≡ y = cc in cc (sym is ∙ ap is_blank (sym g) ∙ e)

unblanked : (s : List ℕ) → IsUnblanked s
unblanked [] = record { blanks = []; are_blanks = refl; whole = refl; no_blank = none }
  where
    none : BeginsBlank [] → ⊥
    none (y, rest, is, f) = cc f
unblanked (x ∷ s) =
    let u = unblanked s in
    record { blanks = front (is_blank x) u; are_blanks = are (is_blank x) refl u; whole = whole (is_blank x) u; no_blank = unblank (is_blank x) refl u }
  where
    front : Bool → IsUnblanked s → List ℕ
    front true u = x ∷ u.blanks
    front false u = []

    are : (b : Bool) → is_blank x ≡ b → (u : IsUnblanked s) → AreBlanks (front b u)
    are true e u = ap₂ (λ a c. a && c) e u.are_blanks
    are false e u = refl

    whole : (b : Bool) (u : IsUnblanked s) → x ∷ s ≡ front b u ++ (if b then after_blanks s else x ∷ s)
    whole true u = ap (λ t. x ∷ t) u.whole
    whole false u = refl

    unblank : (b : Bool) → is_blank x ≡ b → IsUnblanked s → BeginsBlank (if b then after_blanks s else x ∷ s) → ⊥
    unblank true e u = u.no_blank
    unblank false e u = begun_blank x s e

-- blanks are passed
blanks_passed : (blanks s : List ℕ) → AreBlanks blanks → after_blanks (blanks ++ s) ≡ after_blanks s
blanks_passed [] s h = refl
blanks_passed (x ∷ blanks) s h =
    let p = and_parts (is_blank x) (list_all is_blank blanks) h in
    ap (λ b. if b then after_blanks (blanks ++ s) else x ∷ (blanks ++ s)) p.0 ∙ blanks_passed blanks s p.1

-- what begins with no blank stays
stays : (s : List ℕ) → (BeginsBlank s → ⊥) → after_blanks s ≡ s
stays [] h = refl
stays (x ∷ s) h = ap (λ b. if b then after_blanks s else x ∷ s) (false_from_ne_true (is_blank x) (λ e. h (x, s, e, refl)))

pub blanks_cut : (blanks s : List ℕ) → AreBlanks blanks → (BeginsBlank s → ⊥) → after_blanks (blanks ++ s) ≡ s
blanks_cut blanks s h n = blanks_passed blanks s h ∙ stays s n

skipped : (s : List ℕ) → drop (prefix_len is_blank s) s ≡ after_blanks s
skipped [] = refl
skipped (x ∷ s) = go (is_blank x) (skipped s)
  where
    go : (b : Bool) → drop (prefix_len is_blank s) s ≡ after_blanks s → drop (cond b (1 + prefix_len is_blank s) 0) (x ∷ s) ≡ (if b then after_blanks s else x ∷ s)
    go true e = let one : 1 + prefix_len is_blank s ≡ suc (prefix_len is_blank s) = omega arith in ap (λ k. drop k (x ∷ s)) one ∙ e
    go false e = refl

-- ---- what stands after a context text

end_is : (s : Scan) → is_end s ≡ true → s ≡ End
end_is End e = refl
end_is Bad e = cc e
end_is (Found kind width) e = cc e

end_unblank : (s : List ℕ) → IsEnd s → BeginsBlank s → ⊥
end_unblank s (inl e) (y, rest, is, f) = cc (sym e ∙ f)
end_unblank s (inr (r, inl e)) (y, rest, is, f) =
    let g : 35 ∷ r ≡ y ∷ rest = sym e ∙ f in
    let h : y ≡ 35 = cc in
    cc (sym is ∙ ap is_blank h)
end_unblank s (inr (r, inr e)) (y, rest, is, f) =
    let g : 47 ∷ 47 ∷ r ≡ y ∷ rest = sym e ∙ f in
    let h : y ≡ 47 = cc in
    cc (sym is ∙ ap is_blank h)

blank_line_is : (s : List ℕ) → is_blank_line s ≡ is_end (token_at Line (after_blanks s))
blank_line_is s = ap (λ t. is_end (token_at Line t)) (ap (λ k. drop k s) (zero-add (prefix_len is_blank s)) ∙ skipped s)

rest_sound : ((s : List ℕ) → Follows Line s (token_at Line s)) → (s : List ℕ) → is_blank_line s ≡ true → IsRest s
rest_sound follows s e =
    let u = unblanked s in
    let t : token_at Line (after_blanks s) ≡ End = end_is (token_at Line (after_blanks s)) (sym (blank_line_is s) ∙ e) in
    record {
      blanks = u.blanks;
      end = after_blanks s;
      text_is = u.whole;
      are_blanks = u.are_blanks;
      is_end = subst (λ k. Follows Line (after_blanks s) k) t (follows (after_blanks s));
    }

rest_complete : ((s : List ℕ) → IsEnd s → token_at Line s ≡ End) → (s : List ℕ) → IsRest s → is_blank_line s ≡ true
rest_complete ends s r =
    blank_line_is s
    ∙ ap (λ t. is_end (token_at Line (after_blanks t))) r.text_is
    ∙ ap (λ t. is_end (token_at Line t)) (blanks_cut r.blanks r.end r.are_blanks (end_unblank r.end r.is_end))
    ∙ ap is_end (ends r.end r.is_end)

-- ---- what stops a context text

quote_agrees : (s : List ℕ) → (begins_quote s ≡ true) ↔ BeginsQuote s
quote_agrees s = (found s, begun s)
  where
    found : (s : List ℕ) → begins_quote s ≡ true → BeginsQuote s
    found [] e = cc e
    found (x ∷ s) e = (s, ap (λ y. y ∷ s) (eqb-true x 34 e))

    begun : (s : List ℕ) → BeginsQuote s → begins_quote s ≡ true
    begun s (rest, e) = ap begins_quote e

comment_agrees : (s : List ℕ) → (begins_comment s ≡ true) ↔ BeginsComment s
comment_agrees s = (found s, begun s)
  where
    second : (x : ℕ) (s : List ℕ) → x == 47 && begins_with 47 s ≡ true → BeginsComment (x ∷ s)
    second x [] e = let p = and_parts (x == 47) false e in cc p.1
    second x (y ∷ s) e = let p = and_parts (x == 47) (y == 47) e in (s, inr (ap₂ (λ a b. a ∷ b ∷ s) (eqb-true x 47 p.0) (eqb-true y 47 p.1)))

    either : (x : ℕ) (s : List ℕ) → (x == 35 ≡ true) ⊎ (x == 47 && begins_with 47 s ≡ true) → BeginsComment (x ∷ s)
    either x s (inl e) = (s, inl (ap (λ y. y ∷ s) (eqb-true x 35 e)))
    either x s (inr e) = second x s e

    found : (s : List ℕ) → begins_comment s ≡ true → BeginsComment s
    found [] e = cc e
    found (x ∷ s) e = either x s (or_cases (x == 35) (x == 47 && begins_with 47 s) e)

    begun : (s : List ℕ) → BeginsComment s → begins_comment s ≡ true
    begun s (rest, inl e) = ap begins_comment e
    begun s (rest, inr e) = ap begins_comment e

-- the text in front of the place where another is cut
taken : (s text after : List ℕ) (n : ℕ) → s ≡ text ++ after → n ≡ length text → take n s ≡ text
taken s text after n e f = ap₂ take f e ∙ take-append_seam text after

-- ---- a text in double quotes

module _ (follows : (s : List ℕ) → Follows Line s (token_at Line s)) where
  quoted_sound : (s text : List ℕ) → quoted s ≡ Some text → IsQuoted (34 ∷ s) text
  quoted_sound s text e = go (nat_lt (before begins_quote s) (length s) && is_blank_line (drop (before begins_quote s + 1) s)) refl e
    where
      closed : (c : List ℕ) (n : ℕ) → s ≡ text ++ c → n ≡ length text → n < length s → (c ≡ []) ⊎ (begins_quote c ≡ true) → BeginsQuote c
      closed c n w k l (inl e) =
          let f : length s ≡ length text + length c = ap length w ∙ length-append text c in
          let g : length c ≡ 0 = ap length e in
          absurd (omega (arith, f, g, k, l))
      closed c n w k l (inr e) = (quote_agrees c).0 e

      go : (b : Bool) → (nat_lt (before begins_quote s) (length s) && is_blank_line (drop (before begins_quote s + 1) s)) ≡ b
          → (if b then Some (take (before begins_quote s) s) else None) ≡ Some text → IsQuoted (34 ∷ s) text
      go false f g = cc g
      go true f g =
          let n : ℕ = before begins_quote s in
          let c = cut_at begins_quote BeginsQuote quote_agrees s in
          let p = and_parts (nat_lt n (length s)) (is_blank_line (drop (n + 1) s)) f in
          let same : c.text ≡ text = sym (taken s c.text c.after n c.whole c.count) ∙ some_same (take n s) text g in
          let whole : s ≡ text ++ c.after = c.whole ∙ ap (λ t. t ++ c.after) same in
          let count : n ≡ length text = c.count ∙ ap length same in
          let q = closed c.after n whole count (ltb-true n (length s) p.0) c.stopped in
          let all : s ≡ text ++ (34 ∷ q.0) = whole ∙ ap (λ t. text ++ t) q.1 in
          let rest : drop (n + 1) s ≡ q.0 = ap₂ (λ k t. drop (k + 1) t) count all ∙ drop-append-add text (34 ∷ q.0) 1 in
          record {
            after = q.0;
            value_is = ap (λ t. 34 ∷ t) all;
            passes = subst (λ t. Passes BeginsQuote text t) q.1 (subst (λ t. Passes BeginsQuote t c.after) same c.passes);
            rest = rest_sound follows q.0 (sym (ap is_blank_line rest) ∙ p.1);
          }

  value_sound : (value text : List ℕ) → (BeginsBlank value → ⊥) → value_text value ≡ Some text → IsQuoted value text ⊎ IsAlone value text
  value_sound [] text n e = inr (record { after = []; value_is = some_same [] text e ∙ sym (append-nil text); no_blank = n; no_quote = no_quote; passes = ([], sym (some_same [] text e), tt); is_end = inl refl })
    where
      no_quote : BeginsQuote [] → ⊥
      no_quote (rest, e) = cc e
  value_sound (x ∷ s) text n e = go (x == 34) refl e
    where
      other : x == 34 ≡ false → BeginsQuote (x ∷ s) → ⊥
      other f q = let t : x == 34 ≡ true = (quote_agrees (x ∷ s)).1 q in cc (sym f ∙ t)

      stop : (c : List ℕ) → (c ≡ []) ⊎ (begins_comment c ≡ true) → IsEnd c
      stop c (inl e) = inl e
      stop c (inr e) = inr ((comment_agrees c).0 e)

      go : (b : Bool) → x == 34 ≡ b → (if b then quoted s else Some (take (before begins_comment (x ∷ s)) (x ∷ s))) ≡ Some text → IsQuoted (x ∷ s) text ⊎ IsAlone (x ∷ s) text
      go true f g = inl (subst (λ y. IsQuoted (y ∷ s) text) (sym (eqb-true x 34 f)) (quoted_sound s text g))
      go false f g =
          let m : ℕ = before begins_comment (x ∷ s) in
          let c = cut_at begins_comment BeginsComment comment_agrees (x ∷ s) in
          let same : c.text ≡ text = sym (taken (x ∷ s) c.text c.after m c.whole c.count) ∙ some_same (take m (x ∷ s)) text g in
          inr (record {
            after = c.after;
            value_is = c.whole ∙ ap (λ t. t ++ c.after) same;
            no_blank = n;
            no_quote = other f;
            passes = subst (λ t. Passes BeginsComment t c.after) same c.passes;
            is_end = stop c.after c.stopped;
          })

module _ (ends : (s : List ℕ) → IsEnd s → token_at Line s ≡ End) where
  quoted_complete : (text after : List ℕ) → Passes BeginsQuote text (34 ∷ after) → IsRest after → quoted (text ++ 34 ∷ after) ≡ Some text
  quoted_complete text after p r =
      let s : List ℕ = text ++ 34 ∷ after in
      let end : before begins_quote s ≡ length text = before_passed begins_quote BeginsQuote quote_agrees text (34 ∷ after) p (inr refl) in
      let within : nat_lt (length text) (length s) ≡ true = lt-ltb (length text) (length s) (omega (arith, length-append text (34 ∷ after))) in
      let rest : is_blank_line (drop (length text + 1) s) ≡ true = ap is_blank_line (drop-append-add text (34 ∷ after) 1) ∙ rest_complete ends after r in
      ap (λ n. if nat_lt n (length s) && is_blank_line (drop (n + 1) s) then Some (take n s) else None) end
      ∙ ap₂ (λ a b. if a && b then Some (take (length text) s) else None) within rest
      ∙ ap Some (take-append_seam text (34 ∷ after))

  alone_complete : (value text : List ℕ) → IsAlone value text → value_text value ≡ Some text
  alone_complete value text a = go value (λ q. a.no_quote q) (sym (taken value text a.after (before begins_comment value) a.value_is count))
    where
      stop : (c : List ℕ) → IsEnd c → (c ≡ []) ⊎ (begins_comment c ≡ true)
      stop c (inl e) = inl e
      stop c (inr h) = inr ((comment_agrees c).1 h)

      count : before begins_comment value ≡ length text
      count = ap (before begins_comment) a.value_is ∙ before_passed begins_comment BeginsComment comment_agrees text a.after a.passes (stop a.after a.is_end)

      go : (v : List ℕ) → (BeginsQuote v → ⊥) → text ≡ take (before begins_comment v) v → value_text v ≡ Some text
      go [] n e = ap Some (sym e)
      go (x ∷ s) n e =
          ap (λ b. if b then quoted s else Some (take (before begins_comment (x ∷ s)) (x ∷ s))) (false_from_ne_true (x == 34) (λ t. n (s, ap (λ y. y ∷ s) (eqb-true x 34 t))))
          ∙ ap Some (sym e)

  value_complete : (value text : List ℕ) → IsQuoted value text ⊎ IsAlone value text → value_text value ≡ Some text
  value_complete value text (inl q) = ap value_text q.value_is ∙ quoted_complete text q.after q.passes q.rest
  value_complete value text (inr a) = alone_complete value text a

value_unblank : (value text : List ℕ) → IsQuoted value text ⊎ IsAlone value text → BeginsBlank value → ⊥
value_unblank value text (inl q) (y, rest, is, e) =
    let f : y ∷ rest ≡ 34 ∷ (text ++ (34 ∷ q.after)) = sym e ∙ q.value_is in
    let g : y ≡ 34 = cc in
    cc (sym is ∙ ap is_blank g)
value_unblank value text (inr a) b = a.no_blank b

-- ---- the line

-- a text begins with a front where it is cut after it
cut_front : (front s rest : List ℕ) → after_front front s ≡ Some rest → s ≡ front ++ rest
cut_front front s rest e = go (bytes_eq (take (length front) s) front) refl e
  where
    go : (b : Bool) → bytes_eq (take (length front) s) front ≡ b → (if b then Some (drop (length front) s) else None) ≡ Some rest → s ≡ front ++ rest
    go false f g = cc g
    go true f g =
        sym (take-append-drop (length front) s)
        ∙ ap₂ (λ t u. t ++ u) ((bytes_eq-Decides (take (length front) s) front).0 f) (some_same (drop (length front) s) rest g)

-- a step that answers, and the step after it
then_parts : (f : List ℕ → Option (List ℕ)) (o : Option (List ℕ)) (text : List ℕ) → option_and_then f o ≡ Some text → (s : List ℕ) × (o ≡ Some s) × (f s ≡ Some text)
then_parts f None text e = cc e
then_parts f (Some s) text e = (s, refl, e)

-- the context text that is read is that of the grammar
pub context_sound : ((s : List ℕ) → Follows Line s (token_at Line s)) → (line text : List ℕ) → context_in_line line ≡ Some text → IsContextLine line text
context_sound follows line text e =
    let after_equals : List ℕ → Option (List ℕ) = λ t. value_text (after_blanks t) in
    let after_word : List ℕ → Option (List ℕ) = λ s. option_and_then after_equals (after_front (codes "=") (after_blanks s)) in
    let word = then_parts after_word (after_front (codes "context") (after_blanks line)) text e in
    let equals = then_parts after_equals (after_front (codes "=") (after_blanks word.0)) text word.2 in
    let u = unblanked line in
    let v = unblanked word.0 in
    let w = unblanked equals.0 in
    let c : after_blanks line ≡ codes "context" ++ word.0 = cut_front (codes "context") (after_blanks line) word.0 word.1 in
    let d : after_blanks word.0 ≡ codes "=" ++ equals.0 = cut_front (codes "=") (after_blanks word.0) equals.0 equals.1 in
    let value : List ℕ = after_blanks equals.0 in
    record {
      before_word = u.blanks;
      before_equals = v.blanks;
      before_value = w.blanks;
      value = value;
      line_is = u.whole ∙ ap (λ t. u.blanks ++ t) c
          ∙ ap (λ t. u.blanks ++ (codes "context" ++ t)) (v.whole ∙ ap (λ t. v.blanks ++ t) d ∙ ap (λ t. v.blanks ++ (codes "=" ++ t)) w.whole);
      blanks_before_word = u.are_blanks;
      blanks_before_equals = v.are_blanks;
      blanks_before_value = w.are_blanks;
      is_value = value_sound follows value text w.no_blank equals.2;
    }

-- and each context text of the grammar is read
pub context_complete : ((s : List ℕ) → IsEnd s → token_at Line s ≡ End) → (line text : List ℕ) → IsContextLine line text → context_in_line line ≡ Some text
context_complete ends line text c =
    let after_equals : List ℕ → Option (List ℕ) = λ t. value_text (after_blanks t) in
    let after_word : List ℕ → Option (List ℕ) = λ s. option_and_then after_equals (after_front (codes "=") (after_blanks s)) in
    let third : List ℕ = c.before_value ++ c.value in
    let second : List ℕ = c.before_equals ++ (codes "=" ++ third) in
    ap context_in_line c.line_is
    ∙ ap (λ t. option_and_then after_word (after_front (codes "context") t)) (blanks_cut c.before_word (codes "context" ++ second) c.blanks_before_word (begun_blank 99 (codes "ontext" ++ second) refl))
    ∙ ap (λ t. option_and_then after_equals (after_front (codes "=") t)) (blanks_cut c.before_equals (codes "=" ++ third) c.blanks_before_equals (begun_blank 61 third refl))
    ∙ ap value_text (blanks_cut c.before_value c.value c.blanks_before_value (value_unblank c.value text c.is_value))
    ∙ value_complete ends c.value text c.is_value
