-- What the parser makes of one more word.
use Rattle.std.proofs.Common.{◌≡◌, ◌∙◌, ◌<◌, ◌≤◌, ℕ, Bool, true, false, refl, sym, ap, subst, arith, List, [], ◌∷◌, ◌++◌, length, Option, Some, None, ◌⊎◌, inl, inr, append_assoc}
use Rattle.std.specs.Prelude.{codes, slice_get}
use Rattle.std.specs.Str.{chars}
use Rattle.clap.specs.Lexer.{usize_max, long_of, short_of}
use Rattle.clap.specs.Walk.{Held, Row, Text, Waiting, Walk, idle, positional, option, arg_by_long, positional_held, settled_rows, subcommand_met, used, walked}
use Rattle.clap.specs.Kinds.{Kinds, or_else}
use Rattle.clap.specs.Faults.{flags_fault, positional_fault, turn_fault}
use Rattle.vc_command.specs.Lines.{Line, Name, is_end}
use Rattle.vc_command.specs.Lines as lines
use Rattle.vc_command.proofs.WordKinds.{IsPlainWord}
use Rattle.vc_command.proofs.Uses.{top, rules, words_arg, option_arg, id_of, held, pending_fault, value_fault, Holds, all, words, value, IsSingle, more_plain, settles}

-- a walk between two words
abbrev pub at : List Row → Option (Text × List Text) → Waiting → Bool → Walk
at rows pending waiting is_trailing =
    record { held = held rows pending; waiting = waiting; position = 1; is_trailing = is_trailing; stopped = None }

-- no option waits for its value
abbrev pub quiet : Bool → Waiting
quiet true = positional
quiet false = idle

pub or_else-none : (k : Kinds) → or_else k [] ≡ k
or_else-none [] = refl
or_else-none (x ∷ xs) = refl

-- ---- plain words

pub record Turns (w : Walk) (word : Text) (fault : Kinds) (after : Walk) : Type 0 where
  pub fails : turn_fault top [] w word ≡ fault
  pub goes : walked rules [] w word ≡ after

abbrev plain_held : List Row → Option (Text × List Text) → Text → Held
plain_held rows pending word = positional_held rules words_arg word (held rows pending)

abbrev plain_fault : List Row → Option (Text × List Text) → Kinds
plain_fault rows pending = positional_fault rules false words_arg (held rows pending)

abbrev after_plain : Held → Bool → Walk
after_plain h is_trailing = record { held = h; waiting = positional; position = 1; is_trailing = is_trailing; stopped = None }

open_plain : (b : Bool) (rows : List Row) (pending : Option (Text × List Text)) (word : Text) → IsPlainWord word
    → Turns (at rows pending (quiet b) false) word (plain_fault rows pending) (after_plain (plain_held rows pending word) false)
unfolding walked
open_plain true rows pending word p = record { fails = rw (p.end, p.long, p.short) refl; goes = rw (p.end, p.long, p.short) refl }
open_plain false rows pending word p = record { fails = rw (p.end, p.long, p.short) refl; goes = rw (p.end, p.long, p.short) refl }

trailing_plain : (rows : List Row) (pending : Option (Text × List Text)) (waiting : Waiting) (word : Text)
    → Turns (at rows pending waiting true) word (plain_fault rows pending) (after_plain (plain_held rows pending word) true)
unfolding walked
trailing_plain rows pending waiting word = record { fails = refl; goes = refl }

-- what a plain word comes to: it waits with those before it; or what waited fails, where an option stands twice
pub record Pushed (h : Held) (l : Line) : Type 0 where
  pub rows : List Row
  pub pending : Option (Text × List Text)
  pub is : h ≡ held rows pending
  pub holds : Holds rows pending l

abbrev Pushes : List Row → Option (Text × List Text) → Text → Line → Type 0
Pushes rows pending word l = ((plain_fault rows pending ≡ []) × Pushed (plain_held rows pending word) (more_plain (word ∷ []) l))
    ⊎ ((plain_fault rows pending ≡ [] → ⊥) × (IsSingle l → ⊥))

pushes_value : (name : Name) (v : Text) (rows : List Row) (word : Text) (l : Line) → length l.plain ≤ usize_max
    → Holds rows (Some (id_of name, v ∷ [])) l → Pushes rows (Some (id_of name, v ∷ [])) word l
pushes_value lines.limit v rows word l most holds = elim (settles rows (Some (codes "limit", v ∷ [])) l holds most) [
  | inl p ↦ inl (p.0, record { rows = _; pending = _; is = refl; holds = words l word [] refl p.1 refl })
  | inr p ↦ inr p
]
pushes_value lines.order v rows word l most holds = elim (settles rows (Some (codes "order", v ∷ [])) l holds most) [
  | inl p ↦ inl (p.0, record { rows = _; pending = _; is = refl; holds = words l word [] refl p.1 refl })
  | inr p ↦ inr p
]

pub pushes : (rows : List Row) (pending : Option (Text × List Text)) (word : Text) (l : Line) → length l.plain ≤ usize_max → Holds rows pending l
    → Pushes rows pending word l
pushes rows pending word l most (all none h) =
    subst (λ p. Pushes rows p word l) (sym none) (inl (refl, record { rows = _; pending = _; is = refl; holds = words l word [] refl h refl }))
pushes rows pending word l most (words before v vs is h lines) =
    subst (λ p. Pushes rows p word l) (sym is) (inl (
      refl,
      record {
        rows = _;
        pending = _;
        is = refl;
        holds = words before v (vs ++ word ∷ []) refl h (ap (more_plain (word ∷ [])) lines
            ∙ ap (λ xs. record before { plain = xs }) (append_assoc before.plain (v ∷ vs) (word ∷ [])));
      },
    ))
pushes rows pending word l most (value before name v is h lines) =
    subst (λ p. Pushes rows p word l) (sym is) (pushes_value name v rows word l most (value before name v refl h lines))

-- one more plain word, in front of `--` and behind it
pub record Goes (w : Walk) (word : Text) (is_trailing : Bool) (l : Line) : Type 0 where
  pub rows : List Row
  pub pending : Option (Text × List Text)
  pub turns : Turns w word [] (at rows pending positional is_trailing)
  pub holds : Holds rows pending (more_plain (word ∷ []) l)

abbrev pub GoesOrFails : Walk → Text → Bool → Line → Type 0
GoesOrFails w word is_trailing l = Goes w word is_trailing l ⊎ ((turn_fault top [] w word ≡ [] → ⊥) × (IsSingle l → ⊥))

goes_on : (w : Walk) (rows : List Row) (pending : Option (Text × List Text)) (word : Text) (is_trailing : Bool) (l : Line)
    → Turns w word (plain_fault rows pending) (after_plain (plain_held rows pending word) is_trailing) → Pushes rows pending word l → GoesOrFails w word is_trailing l
goes_on w rows pending word is_trailing l t (inl p) = inl (record {
  rows = p.1.rows;
  pending = p.1.pending;
  turns = record { fails = t.fails ∙ p.0; goes = t.goes ∙ ap (λ h. after_plain h is_trailing) p.1.is };
  holds = p.1.holds;
})
goes_on w rows pending word is_trailing l t (inr p) = inr (λ none. p.0 (sym t.fails ∙ none), p.1)

pub open_goes : (b : Bool) (rows : List Row) (pending : Option (Text × List Text)) (word : Text) (l : Line) → IsPlainWord word
    → length l.plain ≤ usize_max → Holds rows pending l → GoesOrFails (at rows pending (quiet b) false) word false l
open_goes b rows pending word l p most holds =
    goes_on _ rows pending word false l (open_plain b rows pending word p) (pushes rows pending word l most holds)

pub trailing_goes : (rows : List Row) (pending : Option (Text × List Text)) (waiting : Waiting) (word : Text) (l : Line)
    → length l.plain ≤ usize_max → Holds rows pending l → GoesOrFails (at rows pending waiting true) word true l
trailing_goes rows pending waiting word l most holds =
    goes_on _ rows pending word true l (trailing_plain rows pending waiting word) (pushes rows pending word l most holds)

-- an option that waits for its value takes a plain word
pub value_turns : (rows : List Row) (name : Name) (word : Text) → IsPlainWord word
    → Turns (at rows (Some (id_of name, [])) (option (id_of name)) false) word [] (at rows (Some (id_of name, word ∷ [])) idle false)
unfolding walked
value_turns rows lines.limit word p = record { fails = rw (p.end, p.long, p.short) refl; goes = rw (p.end, p.long, p.short) refl }
value_turns rows lines.order word p = record { fails = rw (p.end, p.long, p.short) refl; goes = rw (p.end, p.long, p.short) refl }

-- ---- `--`

pub end_turns : (b : Bool) (rows : List Row) (pending : Option (Text × List Text)) (word : Text) → is_end word ≡ true
    → Turns (at rows pending (quiet b) false) word [] (at rows pending (quiet b) true)
unfolding walked
end_turns true rows pending word e = record { fails = rw e refl; goes = rw e refl }
end_turns false rows pending word e = record { fails = rw e refl; goes = rw e refl }

pub end_waits : (rows : List Row) (pending : Option (Text × List Text)) (id : Text) (word : Text) → is_end word ≡ true
    → Turns (at rows pending (option id) false) word [] (at rows pending (option id) true)
unfolding walked
end_waits rows pending id word e = record { fails = rw e refl; goes = rw e refl }

-- an option without a value fails, behind `--` and at the end
pub waits_fails : (rows : List Row) (name : Name) → pending_fault rows (Some (id_of name, [])) ≡ [] → ⊥
waits_fails rows lines.limit e = cc
waits_fails rows lines.order e = cc

pub trailing_fails : (rows : List Row) (name : Name) (waiting : Waiting) (word : Text)
    → turn_fault top [] (at rows (Some (id_of name, [])) waiting true) word ≡ [] → ⊥
trailing_fails rows lines.limit waiting word e = cc
trailing_fails rows lines.order waiting word e = cc

-- ---- options

pub option_turns : (b : Bool) (rows : List Row) (pending : Option (Text × List Text)) (name : Name) (word : Text) → is_end word ≡ false
    → long_of word ≡ Some (id_of name, None)
    → Turns (at rows pending (quiet b) false) word (pending_fault rows pending)
    (at (settled_rows rules pending rows) (Some (id_of name, [])) (option (id_of name)) false)
unfolding walked
option_turns true rows pending lines.limit word e long = record { fails = rw (e, long) (or_else-none _); goes = rw (e, long) refl }
option_turns true rows pending lines.order word e long = record { fails = rw (e, long) (or_else-none _); goes = rw (e, long) refl }
option_turns false rows pending lines.limit word e long = record { fails = rw (e, long) (or_else-none _); goes = rw (e, long) refl }
option_turns false rows pending lines.order word e long = record { fails = rw (e, long) (or_else-none _); goes = rw (e, long) refl }

pub valued_turns : (b : Bool) (rows : List Row) (pending : Option (Text × List Text)) (name : Name) (v : Text) (word : Text) → is_end word ≡ false
    → long_of word ≡ Some (id_of name, Some v)
    → Turns (at rows pending (quiet b) false) word (or_else (pending_fault rows pending) (value_fault name v (settled_rows rules pending rows)))
    (at (used (option_arg (id_of name)) (v ∷ []) (settled_rows rules pending rows)) None idle false)
unfolding walked
valued_turns true rows pending lines.limit v word e long = record { fails = rw (e, long) (or_else-none _); goes = rw (e, long) refl }
valued_turns true rows pending lines.order v word e long = record { fails = rw (e, long) (or_else-none _); goes = rw (e, long) refl }
valued_turns false rows pending lines.limit v word e long = record { fails = rw (e, long) (or_else-none _); goes = rw (e, long) refl }
valued_turns false rows pending lines.order v word e long = record { fails = rw (e, long) (or_else-none _); goes = rw (e, long) refl }

-- an option that stands where another waits for its value
pub option_fails : (rows : List Row) (waits name : Name) (v : Option Text) (word : Text) → is_end word ≡ false → long_of word ≡ Some (id_of name, v)
    → turn_fault top [] (at rows (Some (id_of waits, [])) (option (id_of waits)) false) word ≡ [] → ⊥
option_fails rows waits name v word e long = go waits name v long
  where
    go : (waits name : Name) (v : Option Text) → long_of word ≡ Some (id_of name, v)
        → turn_fault top [] (at rows (Some (id_of waits, [])) (option (id_of waits)) false) word ≡ [] → ⊥
    go lines.limit lines.limit None l h = let bad = rw (e, l) at h in cc
    go lines.limit lines.limit (Some v) l h = let bad = rw (e, l) at h in cc
    go lines.limit lines.order None l h = let bad = rw (e, l) at h in cc
    go lines.limit lines.order (Some v) l h = let bad = rw (e, l) at h in cc
    go lines.order lines.limit None l h = let bad = rw (e, l) at h in cc
    go lines.order lines.limit (Some v) l h = let bad = rw (e, l) at h in cc
    go lines.order lines.order None l h = let bad = rw (e, l) at h in cc
    go lines.order lines.order (Some v) l h = let bad = rw (e, l) at h in cc

-- ---- words that are nothing

module _ (rows : List Row) (pending : Option (Text × List Text)) (waiting : Waiting) (word : Text) (e : is_end word ≡ false)
    (none : subcommand_met [] waiting word ≡ None) where
  pub long_fails : (n : Text) (v : Option Text) → long_of word ≡ Some (n, v) → arg_by_long rules n ≡ None
      → turn_fault top [] (at rows pending waiting false) word ≡ [] → ⊥
  long_fails n v long unknown h = let bad = rw (none, e, long, unknown) at h in cc

  pub short_fails : (flags : Text) (x : ℕ) → long_of word ≡ None → short_of word ≡ Some flags → 0 < length flags
      → slice_get (chars flags) 0 ≡ Some x → turn_fault top [] (at rows pending waiting false) word ≡ [] → ⊥
  unfolding flags_fault
  short_fails [] x long short some char h = absurd (omega arith)
  short_fails (y ∷ text) x long short some char h = let bad = rw (none, e, long, short, char) at h in cc

pub quiet-none : (b : Bool) (word : Text) → subcommand_met [] (quiet b) word ≡ None
quiet-none true word = refl
quiet-none false word = refl
