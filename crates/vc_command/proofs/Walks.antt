-- What a parse of all words comes to: the line of the words, or a fault.
use Rattle.std.proofs.Common.{◌≡◌, ◌∙◌, ◌≤◌, ◌+◌, Bool, true, false, refl, sym, ap, ap₂, subst, arith, suc, List, [], ◌∷◌, ◌++◌, length, Option, Some, None, inl, inr, append-nil, append_assoc, length-append}
use Rattle.std.specs.Prelude.{option_map, fold}
use Rattle.std.specs.Str.{IsUtf8}
use Rattle.clap.specs.Lexer.{usize_max}
use Rattle.clap.specs.Walk.{Row, Text, Waiting, Walk, option, positional, idle, settled, settled_rows, used, walked}
use Rattle.clap.specs.Kinds.{Kinds, or_else}
use Rattle.clap.specs.Faults.{settle_fault, turn_fault, walk_fault}
use Rattle.vc_command.specs.Lines.{Line, Name, Word, word_of, is_end, plain_line, with_plain, with_value, with_word}
use Rattle.vc_command.specs.Lines as lines
use Rattle.vc_command.proofs.Loose.{loose_from}
use Rattle.vc_command.proofs.Uses.{top, rules, option_arg, id_of, pending_fault, value_fault, Holds, all, value, HasRows, IsSingle, Becomes, more_plain, more_value, settles, value_used}
use Rattle.vc_command.proofs.WordKinds.{Kind, ends, is_plain, is_option, is_valued, is_long, is_short, kind_of_word}
use Rattle.vc_command.proofs.Turns.{at, quiet, quiet-none, Turns, GoesOrFails, open_goes, trailing_goes, value_turns, end_turns, end_waits, waits_fails, trailing_fails, option_turns, valued_turns, option_fails, long_fails, short_fails}

abbrev pub joined : Line → Line → Line
joined a b = record { plain = a.plain ++ b.plain; limits = a.limits ++ b.limits; orders = a.orders ++ b.orders }

-- the fault and the rows of a walk over words, and of what waits at its end
abbrev pub fault_from : Walk → List Text → Kinds
fault_from w words = or_else (walk_fault top [] w words) (settle_fault rules false (fold (walked rules []) w words).held)

abbrev pub rows_from : Walk → List Text → List Row
rows_from w words = (settled rules (fold (walked rules []) w words).held).rows

abbrev pub Ends : Line → Option Line → Walk → List Text → Type 0
Ends l None w words = fault_from w words ≡ [] → ⊥
Ends l (Some rest) w words = Becomes (fault_from w words) (rows_from w words) (joined l rest)

-- ---- lines

single_front : (l rest : Line) → IsSingle (joined l rest) → IsSingle l
single_front l rest s = record {
  limits = omega (arith, s.limits, length-append l.limits rest.limits);
  orders = omega (arith, s.orders, length-append l.orders rest.orders);
}

joined-plain : (word : Text) (l rest : Line) → joined (more_plain (word ∷ []) l) rest ≡ joined l (with_plain word rest)
joined-plain word l rest = ap (λ xs. record (joined l rest) { plain = xs }) (append_assoc l.plain (word ∷ []) rest.plain)

joined-value : (name : Name) (v : Text) (l rest : Line) → joined (more_value name v l) rest ≡ joined l (with_value name v rest)
joined-value lines.limit v l rest = ap (λ xs. record (joined l rest) { limits = xs }) (append_assoc l.limits (v ∷ []) rest.limits)
joined-value lines.order v l rest = ap (λ xs. record (joined l rest) { orders = xs }) (append_assoc l.orders (v ∷ []) rest.orders)

joined-nil : (l : Line) → joined l (plain_line []) ≡ l
joined-nil l = λ i. record { plain = append-nil l.plain i; limits = append-nil l.limits i; orders = append-nil l.orders i }

joined-trailing : (word : Text) (l : Line) (words : List Text) → joined (more_plain (word ∷ []) l) (plain_line words) ≡ joined l (plain_line (word ∷ words))
joined-trailing word l words = joined-plain word l (plain_line words)

ends_plain : (word : Text) (l : Line) (o : Option Line) (w : Walk) (words : List Text) → Ends (more_plain (word ∷ []) l) o w words
    → Ends l (option_map (with_plain word) o) w words
ends_plain word l None w words h = h
ends_plain word l (Some rest) w words h = subst (Becomes (fault_from w words) (rows_from w words)) (joined-plain word l rest) h

ends_value : (name : Name) (v : Text) (l : Line) (o : Option Line) (w : Walk) (words : List Text) → Ends (more_value name v l) o w words
    → Ends l (option_map (with_value name v) o) w words
ends_value name v l None w words h = h
ends_value name v l (Some rest) w words h = subst (Becomes (fault_from w words) (rows_from w words)) (joined-value name v l rest) h

-- ---- one more word

pub or_else-nil : (a b : Kinds) → or_else a b ≡ [] → (a ≡ []) × (b ≡ [])
or_else-nil [] b h = (refl, h)
or_else-nil (k ∷ ks) b h = cc

module _ (w : Walk) (word : Text) (words : List Text) where
  stops : (turn_fault top [] w word ≡ [] → ⊥) → fault_from w (word ∷ words) ≡ [] → ⊥
  unfolding walk_fault
  stops bad h = bad (or_else-nil _ _ (or_else-nil _ _ h).0).0

  fails : (l : Line) (o : Option Line) → (turn_fault top [] w word ≡ [] → ⊥) → (IsSingle l → ⊥) → Ends l o w (word ∷ words)
  fails l None bad twice = stops bad
  fails l (Some rest) bad twice = inr (stops bad, λ s. twice (single_front l rest s))

  fault-next : (after : Walk) → Turns w word [] after → fault_from w (word ∷ words) ≡ fault_from after words
  unfolding walk_fault
  fault-next after t = ap₂ (λ (f : Kinds) (v : Walk). or_else (or_else f (walk_fault top [] v words)) (settle_fault rules false (fold (walked rules []) v words).held))
      t.fails t.goes

  rows-next : (after : Walk) → Turns w word [] after → rows_from w (word ∷ words) ≡ rows_from after words
  rows-next after t = ap (λ v. rows_from v words) t.goes

  next : (after : Walk) (l : Line) (o : Option Line) → Turns w word [] after → Ends l o after words → Ends l o w (word ∷ words)
  next after l None t h = λ none. h (sym (fault-next after t) ∙ none)
  next after l (Some rest) t h =
      subst (λ f. Becomes f (rows_from w (word ∷ words)) (joined l rest)) (sym (fault-next after t))
      (subst (λ rows. Becomes (fault_from after words) rows (joined l rest)) (sym (rows-next after t)) h)

-- ---- behind `--`

at_end : (rows : List Row) (pending : Option (Text × List Text)) (waiting : Waiting) (is_trailing : Bool) (l : Line) → length l.plain ≤ usize_max
    → Holds rows pending l → Ends l (Some (plain_line [])) (at rows pending waiting is_trailing) []
unfolding walk_fault
at_end rows pending waiting is_trailing l most h =
    subst (Becomes (pending_fault rows pending) (settled_rows rules pending rows)) (sym (joined-nil l)) (settles rows pending l h most)

trailing_ends : (rows : List Row) (pending : Option (Text × List Text)) (waiting : Waiting) (l : Line) (words : List Text)
    → length l.plain + length words ≤ usize_max → Holds rows pending l → Ends l (Some (plain_line words)) (at rows pending waiting true) words
trailing_ends rows pending waiting l [] most h = at_end rows pending waiting true l (omega arith) h
trailing_ends rows pending waiting l (word ∷ words) most h =
    go (trailing_goes rows pending waiting word l (omega arith) h) (λ rows pending m. trailing_ends rows pending positional (more_plain (word ∷ []) l) words m)
  where
    go : GoesOrFails (at rows pending waiting true) word true l
        → ((rows : List Row) (pending : Option (Text × List Text)) → length (l.plain ++ word ∷ []) + length words ≤ usize_max
        → Holds rows pending (more_plain (word ∷ []) l) → Ends (more_plain (word ∷ []) l) (Some (plain_line words)) (at rows pending positional true) words)
        → Ends l (Some (plain_line (word ∷ words))) (at rows pending waiting true) (word ∷ words)
    go (inl g) more = next _ word words _ l (Some (plain_line (word ∷ words))) g.turns
        (ends_plain word l (Some (plain_line words)) _ words (more g.rows g.pending (omega (arith, most, length-append l.plain (word ∷ []))) g.holds))
    go (inr bad) more = fails _ word words l (Some (plain_line (word ∷ words))) bad.0 bad.1

trailing_waits : (rows : List Row) (name : Name) (words : List Text)
    → fault_from (at rows (Some (id_of name, [])) (option (id_of name)) true) words ≡ [] → ⊥
unfolding walk_fault
trailing_waits rows name [] h = waits_fails rows name h
trailing_waits rows name (word ∷ words) h = stops (at rows (Some (id_of name, [])) (option (id_of name)) true) word words (trailing_fails rows name (option (id_of name)) word) h

-- ---- in front of `--`

abbrev pub OpenEnds : List Text → Type 0
OpenEnds words = (b : Bool) (rows : List Row) (pending : Option (Text × List Text)) (l : Line) → length l.plain + length words ≤ usize_max
    → Holds rows pending l → Ends l (loose_from None words) (at rows pending (quiet b) false) words

abbrev pub WaitingEnds : List Text → Type 0
WaitingEnds words = (name : Name) (rows : List Row) (l : Line) → length l.plain + length words ≤ usize_max
    → HasRows rows l → Ends l (loose_from (Some name) words) (at rows (Some (id_of name, [])) (option (id_of name)) false) words

plain-more_value : (name : Name) (v : Text) (l : Line) → length (more_value name v l).plain ≡ length l.plain
plain-more_value lines.limit v l = refl
plain-more_value lines.order v l = refl

-- an option with its value, where what waited did not fail
valued_more : (word : Text) (words : List Text) (name : Name) (v : Text) (b : Bool) (rows : List Row) (pending : Option (Text × List Text)) (l : Line)
    → pending_fault rows pending ≡ [] → length l.plain + suc (length words) ≤ usize_max → HasRows (settled_rows rules pending rows) l
    → Turns (at rows pending (quiet b) false) word (or_else (pending_fault rows pending) (value_fault name v (settled_rows rules pending rows)))
    (at (used (option_arg (id_of name)) (v ∷ []) (settled_rows rules pending rows)) None idle false)
    → OpenEnds words → Ends l (option_map (with_value name v) (loose_from None words)) (at rows pending (quiet b) false) (word ∷ words)
valued_more word words name v b rows pending l none most h t open_ends =
    let fault : or_else (pending_fault rows pending) (value_fault name v (settled_rows rules pending rows)) ≡ value_fault name v (settled_rows rules pending rows)
    = ap (λ k. or_else k (value_fault name v (settled_rows rules pending rows))) none in
    let fits : length (more_value name v l).plain + length words ≤ usize_max = omega (arith, plain-more_value name v l) in
    elim (value_used name v (settled_rows rules pending rows) l h) [
      | inl s ↦ next (at rows pending (quiet b) false) word words (at (used (option_arg (id_of name)) (v ∷ []) (settled_rows rules pending rows)) None idle false) l
          (option_map (with_value name v) (loose_from None words)) (record { fails = t.fails ∙ fault ∙ s.0; goes = t.goes })
          (ends_value name v l (loose_from None words) _ words (open_ends false _ None (more_value name v l) fits (all refl s.1)))
      | inr bad ↦ ends_value name v l (loose_from None words) (at rows pending (quiet b) false) (word ∷ words)
          (fails (at rows pending (quiet b) false) word words (more_value name v l) (loose_from None words) (λ none. bad.0 (sym (t.fails ∙ fault) ∙ none)) bad.1)
    ]

open_more : (word : Text) (words : List Text) → Kind word → OpenEnds words → WaitingEnds words → OpenEnds (word ∷ words)
unfolding loose_from
open_more word words (ends e f) open_ends waiting_ends b rows pending l most h =
    rw e (next (at rows pending (quiet b) false) word words (at rows pending (quiet b) true) l (Some (plain_line words)) (end_turns b rows pending word e)
    (trailing_ends rows pending (quiet b) l words (omega arith) h))
open_more word words (is_plain p f) open_ends waiting_ends b rows pending l most h =
    let fits : length l.plain ≤ usize_max = omega arith in
    rw (p.end, f) (elim (open_goes b rows pending word l p fits h) [
      | inl g ↦ next _ word words _ l _ g.turns (ends_plain word l (loose_from None words) _ words
          (open_ends true g.rows g.pending (more_plain (word ∷ []) l) (omega (arith, most, length-append l.plain (word ∷ []))) g.holds))
      | inr bad ↦ fails _ word words l _ bad.0 bad.1
    ])
open_more word words (is_option name e long f) open_ends waiting_ends b rows pending l most h =
    let fits : length l.plain ≤ usize_max = omega arith in
    let t = option_turns b rows pending name word e long in
    rw (e, f) (elim (settles rows pending l h fits) [
      | inl s ↦ next _ word words _ l _ (record { fails = t.fails ∙ s.0; goes = t.goes }) (waiting_ends name _ l (omega arith) s.1)
      | inr bad ↦ fails _ word words l _ (λ none. bad.0 (sym t.fails ∙ none)) bad.1
    ])
open_more word words (is_valued name v e long f) open_ends waiting_ends b rows pending l most h =
    let fits : length l.plain ≤ usize_max = omega arith in
    let t = valued_turns b rows pending name v word e long in
    rw (e, f) (elim (settles rows pending l h fits) [
      | inl s ↦ valued_more word words name v b rows pending l s.0 most s.1 t open_ends
      | inr bad ↦ fails _ word words l _ (λ none. bad.0 (or_else-nil _ _ (sym t.fails ∙ none)).0) (λ s. bad.1 s)
    ])
open_more word words (is_long n v e long unknown f) open_ends waiting_ends b rows pending l most h =
    rw (e, f) (stops _ word words (long_fails rows pending (quiet b) word e (quiet-none b word) n v long unknown))
open_more word words (is_short flags x e long short some char f) open_ends waiting_ends b rows pending l most h =
    rw (e, f) (stops _ word words (short_fails rows pending (quiet b) word e (quiet-none b word) flags x long short some char))

waiting_more : (word : Text) (words : List Text) → Kind word → OpenEnds words → WaitingEnds (word ∷ words)
unfolding loose_from
waiting_more word words (ends e f) open_ends name rows l most h =
    rw f (λ none. trailing_waits rows name words (sym (fault-next _ word words _ (end_waits rows (Some (id_of name, [])) (id_of name) word e)) ∙ none))
waiting_more word words (is_plain p f) open_ends name rows l most h =
    rw f (next _ word words _ l _ (value_turns rows name word p) (ends_value name word l (loose_from None words) _ words
    (open_ends false rows (Some (id_of name, word ∷ [])) (more_value name word l) (omega (arith, plain-more_value name word l)) (value l name word refl h refl))))
waiting_more word words (is_option n e long f) open_ends name rows l most h = rw f (stops _ word words (option_fails rows name n None word e long))
waiting_more word words (is_valued n v e long f) open_ends name rows l most h = rw f (stops _ word words (option_fails rows name n (Some v) word e long))
waiting_more word words (is_long n v e long unknown f) open_ends name rows l most h =
    rw f (stops _ word words (long_fails rows _ (option (id_of name)) word e refl n v long unknown))
waiting_more word words (is_short flags x e long short some char f) open_ends name rows l most h =
    rw f (stops _ word words (short_fails rows _ (option (id_of name)) word e refl flags x long short some char))

-- each word is text
abbrev pub AreTexts : List Text → Type 0
AreTexts [] = Unit {0}
AreTexts (word ∷ words) = IsUtf8 word × AreTexts words

pub both_end : (words : List Text) → AreTexts words → OpenEnds words × WaitingEnds words
unfolding loose_from walk_fault
both_end [] texts = (
  λ b rows pending l most h. at_end rows pending (quiet b) false l (omega arith) h,
  λ name rows l most h. waits_fails rows name,
)
both_end (word ∷ words) texts =
    let rest = both_end words texts.1 in
    let kind = kind_of_word word texts.0 in
    (open_more word words kind rest.0 rest.1, waiting_more word words kind rest.0)
