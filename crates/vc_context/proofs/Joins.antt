-- Tapes one behind another, with commas or with crosses.
use Rattle.std.proofs.Common.{◌≡◌, ◌⊎◌, ℕ, zero, suc, ◌≤◌, Bool, true, false, ◌&&◌, List, [], ◌∷◌, ◌++◌, length, Some, None, refl, ap, ◌∙◌, subst, append_assoc, inl, inr, arith}
use Rattle.std.proofs.lemmas.Bool.{eqb-true}
use Rattle.std.specs.Prelude.{codes, map, if◌then◌else◌, ◌==◌}
use Rattle.std.specs.List.{list_all}
use Rattle.std.specs.Option.{option_map}
use Rattle.vc_context.specs.Reading.{Front, strip, after, Tape, tape_of, choose, cross_behind, cross, one_by, mark_by, before, tapes_by}
use Rattle.vc_context.specs.Spelling.{IsBracketed, IsTape, AreJoined, IsComma, IsCross}
use Rattle.vc_text.specs.Blanks.{after_blanks, AreBlanks, is_blank}
use Rattle.vc_context.specs.declared.joined.Style.{Style}
use Rattle.vc_context.specs.declared.joined.Style.TheVariants.{Commas, Crosses}
use Rattle.vc_context.proofs.Alphabets.{AreListed}
use Rattle.vc_context.proofs.Fronts.{Begins, both_true, are_both, skip_blank, skip_other, skip_blanks, blanks_before, begins_one, begins_both, begins_split, after_read, blanks_before_piece}
use Rattle.vc_context.proofs.Heads.{Starts, NoKind, bracketed_read, bracketed_starts, tape_read}
use Rattle.vc_context.proofs.OneTape.{At, bracketed_sound, tape_sound}
use Rattle.vc_context.proofs.Steps.{bind_some, map_some, choose_some, bind_is, map_is, choose_is, choose_not, found, found_is}
use Rattle.vc_label.specs.declared.tape_set.TapeSet.{TapeSet}

-- the marks and the tapes of each style
abbrev pub IsMarkOf : Style → List ℕ → Type 0
IsMarkOf Commas mark = IsComma mark
IsMarkOf Crosses mark = IsCross mark

abbrev pub IsOneOf : Style → List (List ℕ) → TapeSet → Type 0
IsOneOf Commas pieces set = IsTape pieces set
IsOneOf Crosses pieces set = IsBracketed pieces set

-- ---- crosses

cross_at : (b : ℕ) (s : List ℕ) → is_blank b ≡ true → cross (b ∷ s) ≡ cross_behind (after_blanks s)
cross_at b s e = ap (λ c. if c then cross_behind (after_blanks s) else None) e

cross_after : (blanks : List ℕ) (x y : ℕ) (next : List ℕ) → AreBlanks blanks → is_blank x ≡ true → is_blank y ≡ true
    → cross (blanks ++ (x ∷ 120 ∷ y ∷ next)) ≡ Some next
cross_after [] x y next are first last = cross_at x (120 ∷ y ∷ next) first ∙ ap (λ c. if c then Some next else None) last
cross_after (b ∷ blanks) x y next are first last =
    let each = both_true (is_blank b) (list_all is_blank blanks) are in
    cross_at b (blanks ++ (x ∷ 120 ∷ y ∷ next)) each.0
    ∙ ap cross_behind (skip_blanks blanks (x ∷ 120 ∷ y ∷ next) each.1 ∙ skip_blank x (120 ∷ y ∷ next) first)
    ∙ ap (λ c. if c then Some next else None) last

behind_other : (c : ℕ) (next : List ℕ) → (c == 120) ≡ false → cross_behind (c ∷ next) ≡ None
behind_other c [] other = refl
behind_other c (y ∷ next) other = ap (λ b. if b && is_blank y then Some next else None) other

-- another byte behind blanks is no cross
pub no_cross : (blanks : List ℕ) (c : ℕ) (next : List ℕ) → AreBlanks blanks → is_blank c ≡ false → (c == 120) ≡ false → cross (blanks ++ c ∷ next) ≡ None
no_cross [] c next are solid other = ap (λ b. if b then cross_behind (after_blanks next) else None) solid
no_cross (b ∷ blanks) c next are solid other =
    let each = both_true (is_blank b) (list_all is_blank blanks) are in
    cross_at b (blanks ++ c ∷ next) each.0 ∙ ap cross_behind (skip_blanks blanks (c ∷ next) each.1 ∙ skip_other c next solid) ∙ behind_other c next other

behind_sound : (t next : List ℕ) → cross_behind t ≡ Some next → (y : ℕ) × (t ≡ 120 ∷ y ∷ next) × (is_blank y ≡ true)
behind_sound [] next e = absurd (cc)
behind_sound (x ∷ []) next e = absurd (cc)
behind_sound (x ∷ y ∷ t) next e = at_test ((x == 120) && is_blank y) refl e
  where
    at_test : (b : Bool) → ((x == 120) && is_blank y) ≡ b → (if b then Some t else None) ≡ Some next → (z : ℕ) × (x ∷ y ∷ t ≡ 120 ∷ z ∷ next) × (is_blank z ≡ true)
    at_test true test f =
        let each = both_true (x == 120) (is_blank y) test in
        let same : t ≡ next = cc in
        (y, ap (λ z. z ∷ y ∷ t) (eqb-true x 120 each.0) ∙ ap (λ u. 120 ∷ y ∷ u) same, each.1)
    at_test false test f = absurd (cc)

-- the last of some blanks
last_blank : (b : ℕ) (blanks : List ℕ) → is_blank b ≡ true → AreBlanks blanks
    → (front : List ℕ) × (x : ℕ) × (b ∷ blanks ≡ front ++ x ∷ []) × AreBlanks front × (is_blank x ≡ true)
last_blank b [] first are = ([], b, refl, refl, first)
last_blank b (c ∷ blanks) first are =
    let each = both_true (is_blank c) (list_all is_blank blanks) are in
    let (front, x, e, spaced, last) = last_blank c blanks each.0 each.1 in
    (b ∷ front, x, ap (λ t. b ∷ t) e, are_both (is_blank b) (list_all is_blank front) first spaced, last)

-- a mark, and what stands behind it
abbrev Mark : Style → List ℕ → List ℕ → Type 0
Mark style s next = (mark : List ℕ) × IsMarkOf style mark × Begins (mark ∷ []) s next

cross_sound : (s next : List ℕ) → cross s ≡ Some next → Mark Crosses s next
cross_sound [] next e = absurd (cc)
cross_sound (b ∷ s) next e = at_blank (is_blank b) refl e
  where
    at_blank : (c : Bool) → is_blank b ≡ c → (if c then cross_behind (after_blanks s) else None) ≡ Some next → Mark Crosses (b ∷ s) next
    at_blank true first f =
        let (blanks, text, are) = blanks_before s in
        let (y, same, last) = behind_sound (after_blanks s) next f in
        let (front, x, rest, spaced, blank) = last_blank b blanks first are in (
          x ∷ 120 ∷ y ∷ [],
          (x, y, refl, blank, last),
          (
            front,
            next,
            ap (λ t. b ∷ t) (text ∙ ap (λ t. blanks ++ t) same) ∙ ap (λ t. t ++ (120 ∷ y ∷ next)) rest ∙ append_assoc front (x ∷ []) (120 ∷ y ∷ next),
            spaced,
            refl,
          ),
        )
    at_blank false first f = absurd (cc)

mark_sound : (style : Style) (s next : List ℕ) → mark_by style s ≡ Some next → Mark style s next
mark_sound Commas s next e = (codes ",", refl, begins_one (codes ",") s next e)
mark_sound Crosses s next e = cross_sound s next e

-- a mark is found, and no mark of a kind before it
record MarkRead (style : Style) (s next : List ℕ) : Type 0 where
  is_mark : mark_by style s ≡ Some next
  no_kind : NoKind s

mark_read : (style : Style) (mark blanks s next : List ℕ) → IsMarkOf style mark → s ≡ blanks ++ (mark ++ next) → AreBlanks blanks → MarkRead style s next
mark_read Commas mark blanks s next is at are =
    let whole : s ≡ blanks ++ (codes "," ++ next) = at ∙ ap (λ t. blanks ++ (t ++ next)) is in
    record {
      is_mark = ap (after (codes ",")) whole ∙ after_read (codes ",") blanks next refl are;
      no_kind = record {
        question = ap (after (codes "?")) whole ∙ blanks_before_piece (codes "?") blanks (codes "," ++ next) are;
        star = ap (after (codes "*")) whole ∙ blanks_before_piece (codes "*") blanks (codes "," ++ next) are;
      };
    }
mark_read Crosses mark blanks s next (x, y, is, first, last) at are =
    let whole : s ≡ blanks ++ (x ∷ 120 ∷ y ∷ next) = at ∙ ap (λ t. blanks ++ (t ++ next)) is in
    let skipped : after_blanks s ≡ 120 ∷ y ∷ next = ap after_blanks whole ∙ skip_blanks blanks (x ∷ 120 ∷ y ∷ next) are ∙ skip_blank x (120 ∷ y ∷ next) first in
    record {
      is_mark = ap cross whole ∙ cross_after blanks x y next are first last;
      no_kind = record { question = ap (strip (codes "?")) skipped; star = ap (strip (codes "*")) skipped };
    }

-- ---- tapes are read

-- behind tapes stands no mark
pub record Ends (style : Style) (rest : List ℕ) : Type 0 where
  pub kind : NoKind rest
  pub mark : mark_by style rest ≡ None

one_read : (style : Style) (set : TapeSet) (pieces : List (List ℕ)) (s rest : List ℕ) → IsOneOf style pieces set → Begins pieces s rest → NoKind rest
    → one_by style s ≡ found (tape_of set) rest
one_read Commas set pieces s rest is begins none = tape_read set pieces s rest is begins none
one_read Crosses set pieces s rest is begins none = bracketed_read set pieces s rest is begins none

abbrev alone : Tape × List ℕ → List Tape × List ℕ
alone t = (t.0 ∷ [], t.1)

-- one tape, and others where a mark follows
abbrev pub on : Style → ℕ → Tape × List ℕ → Front (List Tape)
on style n t = choose (mark_by style t.1) (λ next. option_map (before t.0) (tapes_by style n next)) (Some (alone t))

pub joined_read : (style : Style) (n : ℕ) (sets : List TapeSet) (pieces : List (List ℕ)) (s rest : List ℕ)
    → AreJoined (IsMarkOf style) (IsOneOf style) pieces sets → length sets ≤ suc n → Begins pieces s rest → Ends style rest
    → tapes_by style n s ≡ found (map tape_of sets) rest
joined_read style n [] pieces s rest joined few begins ends = absurd joined
joined_read style zero (set ∷ []) pieces s rest joined few begins ends =
    map_is alone (one_by style s) (tape_of set, rest) (one_read style set pieces s rest joined begins ends.kind)
joined_read style (suc n) (set ∷ []) pieces s rest joined few begins ends =
    bind_is (one_by style s) (on style n) (tape_of set, rest) (one_read style set pieces s rest joined begins ends.kind)
    ∙ choose_not (mark_by style rest) (λ next. option_map (before (tape_of set)) (tapes_by style n next)) (Some (alone (tape_of set, rest))) ends.mark
joined_read style zero (set ∷ other ∷ sets) pieces s rest joined few begins ends = absurd (omega arith)
joined_read style (suc n) (set ∷ other ∷ sets) pieces s rest (front, behind, mark, e, is, is_mark, joined) few begins ends =
    let (middle, first, (blanks, next, at, are, more)) = begins_split front (mark ∷ behind) s rest (subst (λ (p : List (List ℕ)). Begins p s rest) e begins) in
    let read = mark_read style mark blanks middle next is_mark at are in
    let rest_few : length (other ∷ sets) ≤ suc n = omega arith in
    bind_is (one_by style s) (on style n) (tape_of set, middle) (one_read style set front s middle is first read.no_kind)
    ∙ choose_is (mark_by style middle) (λ next. option_map (before (tape_of set)) (tapes_by style n next)) (Some (alone (tape_of set, middle))) next read.is_mark
    ∙ map_is (before (tape_of set)) (tapes_by style n next) (map tape_of (other ∷ sets), rest) (joined_read style n (other ∷ sets) behind next rest joined rest_few more ends)

pub crosses_start : (sets : List TapeSet) (pieces : List (List ℕ)) (s rest : List ℕ) → AreJoined IsCross IsBracketed pieces sets → Begins pieces s rest → Starts (codes "[") s
crosses_start [] pieces s rest joined begins = absurd joined
crosses_start (set ∷ []) pieces s rest joined begins = bracketed_starts set pieces s rest joined begins
crosses_start (set ∷ other ∷ sets) pieces s rest (front, behind, mark, e, is, is_mark, joined) begins =
    let (middle, first, more) = begins_split front (mark ∷ behind) s rest (subst (λ (p : List (List ℕ)). Begins p s rest) e begins) in
    bracketed_starts set front s middle is first

-- ---- what is read is tapes

cons_is : {A : Type 0} (x y : A) (xs ys : List A) → x ∷ xs ≡ y ∷ ys → (x ≡ y) × (xs ≡ ys)
cons_is x y xs ys e = (cc, cc)

-- tapes at the front of a text
abbrev pub Several : Style → List TapeSet → List ℕ → List ℕ → Type 0
Several style sets s rest = (pieces : List (List ℕ)) × AreJoined (IsMarkOf style) (IsOneOf style) pieces sets × Begins pieces s rest

module _ (listed : AreListed) where
  one_sound : (style : Style) (set : TapeSet) (s rest : List ℕ) → one_by style s ≡ found (tape_of set) rest → At listed (IsOneOf style) set s rest
  one_sound Commas set s rest e = tape_sound listed set s rest e
  one_sound Crosses set s rest e = bracketed_sound listed set s rest e

  alone_sound : (style : Style) (sets : List TapeSet) (t : Tape) (s middle rest : List ℕ) → one_by style s ≡ found t middle
      → t ∷ [] ≡ map tape_of sets → middle ≡ rest → Several style sets s rest
  alone_sound style [] t s middle rest e same end = absurd (cc)
  alone_sound style (set ∷ []) t s middle rest e same end =
      one_sound style set s rest (e ∙ ap (λ u. found u middle) (cons_is t (tape_of set) [] [] same).0 ∙ ap (found (tape_of set)) end)
  alone_sound style (set ∷ other ∷ sets) t s middle rest e same end = absurd (cc)

  more_sound : (style : Style) (sets : List TapeSet) (t : Tape) (ts : List Tape) (s middle next rest : List ℕ) → one_by style s ≡ found t middle
      → mark_by style middle ≡ Some next → t ∷ ts ≡ map tape_of sets → ((others : List TapeSet) → ts ≡ map tape_of others → Several style others next rest)
      → Several style sets s rest
  more_sound style [] t ts s middle next rest e marked same others = absurd (cc)
  more_sound style (set ∷ []) t ts s middle next rest e marked same others =
      let none = others [] (cons_is t (tape_of set) ts [] same).1 in
      absurd none.1
  more_sound style (set ∷ other ∷ sets) t ts s middle next rest e marked same others =
      let (first_same, rest_same) = cons_is t (tape_of set) ts (map tape_of (other ∷ sets)) same in
      let (front, is, first) = one_sound style set s middle (e ∙ ap (λ u. found u middle) first_same) in
      let (mark, is_mark, marks) = mark_sound style middle next marked in
      let (behind, joined, more) = others (other ∷ sets) rest_same in (
        front ++ mark ∷ behind,
        (front, behind, mark, refl, is, is_mark, joined),
        begins_both front (mark ∷ behind) s middle rest first (begins_both (mark ∷ []) behind middle next rest marks more),
      )

  pub joined_sound : (style : Style) (n : ℕ) (sets : List TapeSet) (s rest : List ℕ) → tapes_by style n s ≡ found (map tape_of sets) rest → Several style sets s rest
  joined_sound style zero sets s rest e =
      let (t, is, f) = map_some alone (one_by style s) (map tape_of sets, rest) e in
      let (same, end) = found_is (t.0 ∷ []) (map tape_of sets) t.1 rest (ap Some f) in
      alone_sound style sets t.0 s t.1 rest is same end
  joined_sound style (suc n) sets s rest e =
      let (t, is, f) = bind_some (one_by style s) (on style n) (map tape_of sets, rest) e in
      which t is (λ others next end. joined_sound style n others next end)
      (choose_some (mark_by style t.1) (λ next. option_map (before t.0) (tapes_by style n next)) (Some (alone t)) (map tape_of sets, rest) f)
    where
      which : (t : Tape × List ℕ) → one_by style s ≡ Some t
          → ((others : List TapeSet) (next end : List ℕ) → tapes_by style n next ≡ found (map tape_of others) end → Several style others next end)
          → ((next : List ℕ) × (mark_by style t.1 ≡ Some next) × (option_map (before t.0) (tapes_by style n next) ≡ found (map tape_of sets) rest))
          ⊎ ((mark_by style t.1 ≡ None) × (Some (alone t) ≡ found (map tape_of sets) rest))
          → Several style sets s rest
      which t is others (inl (next, marked, g)) =
          let (ts, are, h) = map_some (before t.0) (tapes_by style n next) (map tape_of sets, rest) g in
          let (same, end) = found_is (t.0 ∷ ts.0) (map tape_of sets) ts.1 rest (ap Some h) in
          more_sound style sets t.0 ts.0 s t.1 next rest is marked same
          (λ sets h. others sets next rest (are ∙ ap (λ u. found u ts.1) h ∙ ap (found (map tape_of sets)) end))
      which t is others (inr (none, g)) =
          let (same, end) = found_is (t.0 ∷ []) (map tape_of sets) t.1 rest g in
          alone_sound style sets t.0 s t.1 rest is same end

-- at most n + 1 tapes are read
pub tapes_few : (style : Style) (n : ℕ) (s : List ℕ) (ts : List Tape) (rest : List ℕ) → tapes_by style n s ≡ found ts rest → length ts ≤ suc n
tapes_few style zero s ts rest e =
    let (t, is, f) = map_some alone (one_by style s) (ts, rest) e in
    let (same, end) = found_is (t.0 ∷ []) ts t.1 rest (ap Some f) in
    subst (λ (l : List Tape). length l ≤ 1) same (omega arith)
tapes_few style (suc n) s ts rest e =
    let (t, is, f) = bind_some (one_by style s) (on style n) (ts, rest) e in
    which t (λ next more end. tapes_few style n next more end) (choose_some (mark_by style t.1) (λ next. option_map (before t.0) (tapes_by style n next)) (Some (alone t)) (ts, rest) f)
  where
    which : (t : Tape × List ℕ) → ((next : List ℕ) (more : List Tape) (end : List ℕ) → tapes_by style n next ≡ found more end → length more ≤ suc n)
        → ((next : List ℕ) × (mark_by style t.1 ≡ Some next) × (option_map (before t.0) (tapes_by style n next) ≡ found ts rest))
        ⊎ ((mark_by style t.1 ≡ None) × (Some (alone t) ≡ found ts rest))
        → length ts ≤ suc (suc n)
    which t few (inl (next, marked, g)) =
        let (more, are, h) = map_some (before t.0) (tapes_by style n next) (ts, rest) g in
        let (same, end) = found_is (t.0 ∷ more.0) ts more.1 rest (ap Some h) in
        let short : length more.0 ≤ suc n = few next more.0 more.1 are in
        subst (λ (l : List Tape). length l ≤ suc (suc n)) same (omega arith)
    which t few (inr (none, g)) =
        let (same, end) = found_is (t.0 ∷ []) ts t.1 rest g in
        subst (λ (l : List Tape). length l ≤ suc (suc n)) same (omega arith)
