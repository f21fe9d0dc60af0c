-- Label sets and whole contexts, both ways.
use Rattle.std.proofs.Common.{◌≡◌, ◌⊎◌, ℕ, ◌≤◌, Bool, true, false, List, [], ◌∷◌, ◌++◌, length, Option, Some, None, refl, ap, sym, ◌∙◌, subst, inl, inr, arith}
use Rattle.std.proofs.lemmas.Bool.Decides.{nat_tests}
use Rattle.std.proofs.lemmas.List.{length-map}
use Rattle.std.specs.Prelude.{codes, map, nat_le, if◌then◌else◌}
use Rattle.std.specs.List.{list_all}
use Rattle.std.specs.Option.{option_map, option_map_or}
use Rattle.vc_context.specs.Reading.{Front, ◌>>=◌, after, closed, Tape, tape_of, choose, cross, named_front, tapes_by, several, listed_front, labels_front, arrow, is_last, weights_at, context_at}
use Rattle.vc_context.specs.Spelling.{Spaced, IsTape, AreJoined, IsComma, AreSeveral, IsLabels, IsArrow, weights_name, SpellsContext}
use Rattle.vc_text.specs.Blanks.{AreBlanks, is_blank}
use Rattle.vc_context.specs.declared.context.Weights.{Weights}
use Rattle.vc_context.specs.declared.context.Weights.TheVariants.{B, F2, Z, Q, Nmin}
use Rattle.vc_context.specs.declared.joined.Style.{Style}
use Rattle.vc_context.specs.declared.joined.Style.TheVariants.{Commas, Crosses}
use Rattle.vc_context.proofs.Alphabets.{AreListed}
use Rattle.vc_context.proofs.Fronts.{Begins, begins_one, begins_both, begins_split, begins_spaced, spaced_begins, after_sound, after_read, blanks_before_piece}
use Rattle.vc_context.proofs.Heads.{Starts, NoKind, begins_starts, none_of, no_bracket, named_read}
use Rattle.vc_context.proofs.Joins.{Ends, Several, joined_read, joined_sound, tapes_few, crosses_start, no_cross, on}
use Rattle.vc_context.proofs.OneRead.{IsSolid, piece_read, closed_read}
use Rattle.vc_context.proofs.OneTape.{named_sound}
use Rattle.vc_context.proofs.Steps.{bind_some, map_some, choose_some, bind_is, map_is, choose_is, choose_not, found, found_is}
use Rattle.vc_label.specs.declared.tape_set.TapeSet.{TapeSet}

abbrev alone : Tape × List ℕ → List Tape × List ℕ
alone t = (t.0 ∷ [], t.1)

-- the last two ways of a label set: in brackets, and with a name
abbrev unlisted : List ℕ → Front (List Tape)
unlisted s = choose (tapes_by Crosses 3 s) Some (option_map alone (named_front s))

-- ---- label sets are read

ends_of : (mark s : List ℕ) → Starts mark s → ((t : List ℕ) → after (codes "?") (mark ++ t) ≡ None) → ((t : List ℕ) → after (codes "*") (mark ++ t) ≡ None) → NoKind s
ends_of mark s starts question star =
    let none = none_of mark (codes "?" ∷ codes "*" ∷ []) s starts (question, (star, tt)) in
    record { question = none.0; star = none.1.0 }

listed_read : (sets : List TapeSet) (inside : List (List ℕ)) (s rest : List ℕ) → AreJoined IsComma IsTape inside sets → AreSeveral sets
    → Begins (codes "<" ∷ (inside ++ codes ">" ∷ [])) s rest → listed_front s ≡ found (map tape_of sets) rest
listed_read sets inside s rest joined few begins =
    let start = piece_read (codes "<") (inside ++ codes ">" ∷ []) s rest (λ t. refl) begins in
    let (middle, first, last) = begins_split inside (codes ">" ∷ []) start.0 rest start.2 in
    let shuts : Starts (codes ">") middle = begins_starts (codes ">") [] middle rest last in
    let ends : Ends Commas middle = record {
      kind = ends_of (codes ">") middle shuts (λ t. refl) (λ t. refl);
      mark = (none_of (codes ">") (codes "," ∷ []) middle shuts (λ t. refl, tt)).0;
    } in
    let short : length sets ≤ 4 = few.1 in
    let enough : nat_le 2 (length (map tape_of sets)) ≡ true = at_least_two sets few.0 in
    bind_is (after (codes "<") s) (λ s. tapes_by Commas 3 s >>= (λ found. closed (codes ">") found >>= several)) start.0 start.1
    ∙ bind_is (tapes_by Commas 3 start.0) (λ found. closed (codes ">") found >>= several) (map tape_of sets, middle)
    (joined_read Commas 3 sets inside start.0 middle joined short first ends)
    ∙ bind_is (closed (codes ">") (let p : List Tape × List ℕ = (map tape_of sets, middle) in p)) several (map tape_of sets, rest)
    (closed_read (codes ">") (map tape_of sets) middle rest (λ t. refl) last)
    ∙ ap (λ b. if b then found (map tape_of sets) rest else None) enough
  where
    at_least_two : (sets : List TapeSet) → 2 ≤ length sets → nat_le 2 (length (map tape_of sets)) ≡ true
    at_least_two sets two =
        let same : length (map tape_of sets) ≡ length sets = length-map sets tape_of in
        let both : 2 ≤ length (map tape_of sets) = omega arith in
        grind (arith, nat_tests)

not_listed : (s : List ℕ) → after (codes "lat") s ≡ None → after (codes "tupleset") s ≡ None → labels_front s ≡ unlisted s
not_listed s no_list no_tuple =
    choose_not (after (codes "lat") s) listed_front (choose (after (codes "tupleset") s) listed_front (unlisted s)) no_list
    ∙ choose_not (after (codes "tupleset") s) listed_front (unlisted s) no_tuple

in_brackets : (s rest : List ℕ) (sets : List TapeSet) → Starts (codes "[") s → tapes_by Crosses 3 s ≡ found (map tape_of sets) rest
    → labels_front s ≡ found (map tape_of sets) rest
in_brackets s rest sets starts e =
    let none = none_of (codes "[") (codes "lat" ∷ codes "tupleset" ∷ []) s starts (λ t. refl, (λ t. refl, tt)) in
    not_listed s none.0 none.1.0 ∙ choose_is (tapes_by Crosses 3 s) Some (option_map alone (named_front s)) (map tape_of sets, rest) e

single_read : (set : TapeSet) (pieces : List (List ℕ)) (s rest : List ℕ) → IsTape pieces set → Begins pieces s rest → Ends Crosses rest
    → labels_front s ≡ found (tape_of set ∷ []) rest
single_read set pieces s rest (inl is) begins ends =
    let read = named_read set pieces s rest is begins in
    let no_tapes : tapes_by Crosses 3 s ≡ None = ap (λ o. o >>= on Crosses 2) (no_bracket s read.alone.1.1.0) in
    not_listed s read.alone.0 read.alone.1.0
    ∙ choose_not (tapes_by Crosses 3 s) Some (option_map alone (named_front s)) no_tapes
    ∙ map_is alone (named_front s) (tape_of set, rest) read.named
single_read set pieces s rest (inr is) begins ends =
    in_brackets s rest (set ∷ []) (crosses_start (set ∷ []) pieces s rest is begins)
    (joined_read Crosses 3 (set ∷ []) pieces s rest is (omega arith) begins ends)

pub labels_read : (sets : List TapeSet) (pieces : List (List ℕ)) (s rest : List ℕ) → IsLabels pieces sets → Begins pieces s rest → Ends Crosses rest
    → labels_front s ≡ found (map tape_of sets) rest
labels_read sets pieces s rest (inl (set, e, is)) begins ends =
    subst (λ (l : List TapeSet). labels_front s ≡ found (map tape_of l) rest) (sym e) (single_read set pieces s rest is begins ends)
labels_read sets pieces s rest (inr (inl (name, inside, (inl e), at, joined, few))) begins ends =
    let whole : pieces ≡ codes "lat" ∷ codes "<" ∷ (inside ++ codes ">" ∷ []) = at ∙ ap (λ n. n ∷ codes "<" ∷ (inside ++ codes ">" ∷ [])) e in
    let start = piece_read (codes "lat") (codes "<" ∷ (inside ++ codes ">" ∷ [])) s rest (λ t. refl) (subst (λ (p : List (List ℕ)). Begins p s rest) whole begins) in
    choose_is (after (codes "lat") s) listed_front (choose (after (codes "tupleset") s) listed_front (unlisted s)) start.0 start.1
    ∙ listed_read sets inside start.0 rest joined few start.2
labels_read sets pieces s rest (inr (inl (name, inside, (inr e), at, joined, few))) begins ends =
    let whole : pieces ≡ codes "tupleset" ∷ codes "<" ∷ (inside ++ codes ">" ∷ []) = at ∙ ap (λ n. n ∷ codes "<" ∷ (inside ++ codes ">" ∷ [])) e in
    let moved : Begins (codes "tupleset" ∷ codes "<" ∷ (inside ++ codes ">" ∷ [])) s rest = subst (λ (p : List (List ℕ)). Begins p s rest) whole begins in
    let start = piece_read (codes "tupleset") (codes "<" ∷ (inside ++ codes ">" ∷ [])) s rest (λ t. refl) moved in
    let none = none_of (codes "tupleset") (codes "lat" ∷ []) s (begins_starts (codes "tupleset") (codes "<" ∷ (inside ++ codes ">" ∷ [])) s rest moved) (λ t. refl, tt) in
    choose_not (after (codes "lat") s) listed_front (choose (after (codes "tupleset") s) listed_front (unlisted s)) none.0
    ∙ choose_is (after (codes "tupleset") s) listed_front (unlisted s) start.0 start.1
    ∙ listed_read sets inside start.0 rest joined few start.2
labels_read sets pieces s rest (inr (inr (joined, few))) begins ends =
    let short : length sets ≤ 4 = few.1 in
    in_brackets s rest sets (crosses_start sets pieces s rest joined begins) (joined_read Crosses 3 sets pieces s rest joined short begins ends)

-- ---- the weight set

last_read : (name s : List ℕ) → IsSolid name → Spaced (name ∷ []) s → is_last name s ≡ true
last_read name s solid (blanks, rest, at, are, end) =
    ap (λ o. option_map_or (list_all is_blank) o false) (ap (after name) at ∙ after_read name blanks rest (solid rest) are) ∙ end

last_other : (name other s : List ℕ) → Spaced (name ∷ []) s → ((t : List ℕ) → after other (name ++ t) ≡ None) → is_last other s ≡ false
last_other name other s (blanks, rest, at, are, end) apart =
    ap (λ o. option_map_or (list_all is_blank) o false) (ap (after other) at ∙ blanks_before_piece other blanks (name ++ rest) are ∙ apart rest)

last_sound : (name s : List ℕ) → is_last name s ≡ true → Spaced (name ∷ []) s
last_sound name s e = at_rest (after name s) refl e
  where
    at_rest : (o : Option (List ℕ)) → after name s ≡ o → option_map_or (list_all is_blank) o false ≡ true → Spaced (name ∷ []) s
    at_rest None is f = absurd (cc)
    at_rest (Some rest) is f =
        let (blanks, at, are) = after_sound name s rest is in
        (blanks, rest, at, are, f)

-- one of five tests
abbrev one_of_five : Bool → Bool → Bool → Bool → Bool → Option Weights
one_of_five a b c d e = if a then Some B else (if b then Some F2 else (if c then Some Z else (if d then Some Q else (if e then Some Nmin else None))))

pub weights_read : (w : Weights) (s : List ℕ) → Spaced (weights_name w ∷ []) s → weights_at s ≡ Some w
weights_read B s spaced = ap (λ a. one_of_five a (is_last (codes "f2") s) (is_last (codes "z") s) (is_last (codes "q") s) (is_last (codes "nmin") s)) (last_read (codes "b") s (λ t. refl) spaced)
weights_read F2 s spaced =
    ap (λ a. one_of_five a (is_last (codes "f2") s) (is_last (codes "z") s) (is_last (codes "q") s) (is_last (codes "nmin") s)) (last_other (codes "f2") (codes "b") s spaced (λ t. refl))
    ∙ ap (λ a. one_of_five false a (is_last (codes "z") s) (is_last (codes "q") s) (is_last (codes "nmin") s)) (last_read (codes "f2") s (λ t. refl) spaced)
weights_read Z s spaced =
    ap (λ a. one_of_five a (is_last (codes "f2") s) (is_last (codes "z") s) (is_last (codes "q") s) (is_last (codes "nmin") s)) (last_other (codes "z") (codes "b") s spaced (λ t. refl))
    ∙ ap (λ a. one_of_five false a (is_last (codes "z") s) (is_last (codes "q") s) (is_last (codes "nmin") s)) (last_other (codes "z") (codes "f2") s spaced (λ t. refl))
    ∙ ap (λ a. one_of_five false false a (is_last (codes "q") s) (is_last (codes "nmin") s)) (last_read (codes "z") s (λ t. refl) spaced)
weights_read Q s spaced =
    ap (λ a. one_of_five a (is_last (codes "f2") s) (is_last (codes "z") s) (is_last (codes "q") s) (is_last (codes "nmin") s)) (last_other (codes "q") (codes "b") s spaced (λ t. refl))
    ∙ ap (λ a. one_of_five false a (is_last (codes "z") s) (is_last (codes "q") s) (is_last (codes "nmin") s)) (last_other (codes "q") (codes "f2") s spaced (λ t. refl))
    ∙ ap (λ a. one_of_five false false a (is_last (codes "q") s) (is_last (codes "nmin") s)) (last_other (codes "q") (codes "z") s spaced (λ t. refl))
    ∙ ap (λ a. one_of_five false false false a (is_last (codes "nmin") s)) (last_read (codes "q") s (λ t. refl) spaced)
weights_read Nmin s spaced =
    ap (λ a. one_of_five a (is_last (codes "f2") s) (is_last (codes "z") s) (is_last (codes "q") s) (is_last (codes "nmin") s)) (last_other (codes "nmin") (codes "b") s spaced (λ t. refl))
    ∙ ap (λ a. one_of_five false a (is_last (codes "z") s) (is_last (codes "q") s) (is_last (codes "nmin") s)) (last_other (codes "nmin") (codes "f2") s spaced (λ t. refl))
    ∙ ap (λ a. one_of_five false false a (is_last (codes "q") s) (is_last (codes "nmin") s)) (last_other (codes "nmin") (codes "z") s spaced (λ t. refl))
    ∙ ap (λ a. one_of_five false false false a (is_last (codes "nmin") s)) (last_other (codes "nmin") (codes "q") s spaced (λ t. refl))
    ∙ ap (λ a. one_of_five false false false false a) (last_read (codes "nmin") s (λ t. refl) spaced)

-- the first of the tests that holds
five_tests : (a b c d e : Bool) (w : Weights) (P : Weights → Type 0) → one_of_five a b c d e ≡ Some w
    → (a ≡ true → P B) → (b ≡ true → P F2) → (c ≡ true → P Z) → (d ≡ true → P Q) → (e ≡ true → P Nmin) → P w
five_tests true b c d e w P h fb ff fz fq fn = subst P (cc) (fb refl)
five_tests false true c d e w P h fb ff fz fq fn = subst P (cc) (ff refl)
five_tests false false true d e w P h fb ff fz fq fn = subst P (cc) (fz refl)
five_tests false false false true e w P h fb ff fz fq fn = subst P (cc) (fq refl)
five_tests false false false false true w P h fb ff fz fq fn = subst P (cc) (fn refl)
five_tests false false false false false w P h fb ff fz fq fn = absurd (cc)

pub weights_sound : (w : Weights) (s : List ℕ) → weights_at s ≡ Some w → Spaced (weights_name w ∷ []) s
weights_sound w s e =
    five_tests (is_last (codes "b") s) (is_last (codes "f2") s) (is_last (codes "z") s) (is_last (codes "q") s) (is_last (codes "nmin") s) w
    (λ v. Spaced (weights_name v ∷ []) s) e
    (last_sound (codes "b") s) (last_sound (codes "f2") s) (last_sound (codes "z") s) (last_sound (codes "q") s) (last_sound (codes "nmin") s)

-- ---- contexts are read

-- a mark stands before the weight set, and the label set ends before it
record ArrowRead (s next : List ℕ) : Type 0 where
  is_arrow : arrow s ≡ Some next
  ends : Ends Crosses s

arrow_read : (mark blanks s next : List ℕ) → IsArrow mark → s ≡ blanks ++ (mark ++ next) → AreBlanks blanks → ArrowRead s next
arrow_read mark blanks s next (inl e) at are =
    let whole : s ≡ blanks ++ (codes "," ++ next) = at ∙ ap (λ m. blanks ++ (m ++ next)) e in
    let starts : Starts (codes ",") s = record { blanks = blanks; next = next; at = whole; are = are } in
    record {
      is_arrow = choose_is (after (codes ",") s) Some (after (codes "->") s) next (ap (after (codes ",")) whole ∙ after_read (codes ",") blanks next refl are);
      ends = record {
        kind = ends_of (codes ",") s starts (λ t. refl) (λ t. refl);
        mark = ap cross whole ∙ no_cross blanks 44 next are refl refl;
      };
    }
arrow_read mark blanks s next (inr e) at are =
    let whole : s ≡ blanks ++ (codes "->" ++ next) = at ∙ ap (λ m. blanks ++ (m ++ next)) e in
    let starts : Starts (codes "->") s = record { blanks = blanks; next = next; at = whole; are = are } in
    record {
      is_arrow = choose_not (after (codes ",") s) Some (after (codes "->") s) (none_of (codes "->") (codes "," ∷ []) s starts (λ t. refl, tt)).0
          ∙ ap (after (codes "->")) whole ∙ after_read (codes "->") blanks next refl are;
      ends = record {
        kind = ends_of (codes "->") s starts (λ t. refl) (λ t. refl);
        mark = ap cross whole ∙ no_cross blanks 45 (62 ∷ next) are refl refl;
      };
    }

abbrev pub context_of : List Tape → Weights → Option (List Tape × Weights)
context_of tapes w = Some (tapes, w)

pub context_read : (text : List ℕ) (sets : List TapeSet) (w : Weights) → SpellsContext text sets w → context_at text ≡ context_of (map tape_of sets) w
context_read text sets w c =
    let (rest, begins, blank) = spaced_begins (c.labels ++ c.mark ∷ weights_name w ∷ []) text c.spaced in
    let (middle, labels, (blanks, next, at, are, last)) = begins_split c.labels (c.mark ∷ weights_name w ∷ []) text rest begins in
    let read = arrow_read c.mark blanks middle next c.is_arrow at are in
    let weights : weights_at next ≡ Some w = weights_read w next (begins_spaced (weights_name w ∷ []) next rest last blank) in
    bind_is (labels_front text) (λ found. arrow found.1 >>= (λ rest. option_map (λ w. (found.0, w)) (weights_at rest))) (map tape_of sets, middle)
    (labels_read sets c.labels text middle c.is_labels labels read.ends)
    ∙ bind_is (arrow middle) (λ rest. option_map (λ w. (let p : List Tape × Weights = (map tape_of sets, w) in p)) (weights_at rest)) next read.is_arrow
    ∙ map_is (λ w. (let p : List Tape × Weights = (map tape_of sets, w) in p)) (weights_at next) w weights

-- ---- what is read is a context

arrow_sound : (s next : List ℕ) → arrow s ≡ Some next → (mark : List ℕ) × IsArrow mark × Begins (mark ∷ []) s next
arrow_sound s next e = which (choose_some (after (codes ",") s) Some (after (codes "->") s) next e)
  where
    which : ((x : List ℕ) × (after (codes ",") s ≡ Some x) × (Some x ≡ Some next)) ⊎ ((after (codes ",") s ≡ None) × (after (codes "->") s ≡ Some next))
        → (mark : List ℕ) × IsArrow mark × Begins (mark ∷ []) s next
    which (inl (x, is, same)) = (codes ",", inl refl, begins_one (codes ",") s next (is ∙ same))
    which (inr (none, is)) = (codes "->", inr refl, begins_one (codes "->") s next is)

-- a label set at the front of a text
abbrev Labels : List TapeSet → List ℕ → List ℕ → Type 0
Labels sets s rest = (pieces : List (List ℕ)) × IsLabels pieces sets × Begins pieces s rest

module _ (listed : AreListed) where
  crossed_sound : (sets : List TapeSet) (s rest : List ℕ) → length sets ≤ 4 → Several Crosses sets s rest → Labels sets s rest
  crossed_sound [] s rest few (pieces, joined, begins) = absurd joined
  crossed_sound (set ∷ []) s rest few (pieces, joined, begins) = (pieces, inl (set, refl, inr joined), begins)
  crossed_sound (set ∷ other ∷ sets) s rest few (pieces, joined, begins) = (pieces, inr (inr (joined, (omega arith, few))), begins)

  few_sets : (style : Style) (sets : List TapeSet) (s rest : List ℕ) → tapes_by style 3 s ≡ found (map tape_of sets) rest → length sets ≤ 4
  few_sets style sets s rest e =
      let few : length (map tape_of sets) ≤ 4 = tapes_few style 3 s (map tape_of sets) rest e in
      let same : length (map tape_of sets) ≡ length sets = length-map sets tape_of in
      omega arith

  at_least : (sets : List TapeSet) (found : List Tape × List ℕ) (rest : List ℕ) → several found ≡ Some (map tape_of sets, rest)
      → (2 ≤ length sets) × (found.0 ≡ map tape_of sets) × (found.1 ≡ rest)
  at_least sets p rest e = at_test (nat_le 2 (length p.0)) refl e
    where
      at_test : (b : Bool) → nat_le 2 (length p.0) ≡ b → (if b then Some p else None) ≡ found (map tape_of sets) rest
          → (2 ≤ length sets) × (p.0 ≡ map tape_of sets) × (p.1 ≡ rest)
      at_test true test f =
          let (same, end) = found_is p.0 (map tape_of sets) p.1 rest f in
          let long : length p.0 ≡ length sets = ap length same ∙ length-map sets tape_of in
          let two : 2 ≤ length p.0 = grind (arith, nat_tests) in
          (omega arith, same, end)
      at_test false test f = absurd (cc)

  -- the pieces of a list
  abbrev list_pieces : List ℕ → List (List ℕ) → List (List ℕ)
  list_pieces name inside = name ∷ codes "<" ∷ (inside ++ codes ">" ∷ [])

  are_listed : (name : List ℕ) (inside : List (List ℕ)) (sets : List TapeSet) → (name ≡ codes "lat") ⊎ (name ≡ codes "tupleset")
      → AreJoined IsComma IsTape inside sets → AreSeveral sets → IsLabels (list_pieces name inside) sets
  are_listed name inside sets is_name joined few = inr (inl (name, inside, is_name, refl, joined, few))

  listed_sound : (name s middle : List ℕ) (sets : List TapeSet) (rest : List ℕ) → (name ≡ codes "lat") ⊎ (name ≡ codes "tupleset")
      → after name s ≡ Some middle → listed_front middle ≡ found (map tape_of sets) rest → Labels sets s rest
  listed_sound name s middle sets rest is_name e f =
      let start = bind_some (after (codes "<") middle) (λ s. tapes_by Commas 3 s >>= (λ found. closed (codes ">") found >>= several)) (map tape_of sets, rest) f in
      let tapes = bind_some (tapes_by Commas 3 start.0) (λ found. closed (codes ">") found >>= several) (map tape_of sets, rest) start.2 in
      let shut = bind_some (closed (codes ">") tapes.0) several (map tape_of sets, rest) tapes.2 in
      let end = map_some (λ rest. (let p : List Tape × List ℕ = (tapes.0.0, rest) in p)) (after (codes ">") tapes.0.1) shut.0 shut.1 in
      let (two, same, last) = at_least sets shut.0 rest shut.2 in
      let are : tapes_by Commas 3 start.0 ≡ found (map tape_of sets) tapes.0.1 =
      tapes.1 ∙ ap (λ l. found l tapes.0.1) (ap (λ (p : List Tape × List ℕ). p.0) end.2 ∙ same) in
      let closing : after (codes ">") tapes.0.1 ≡ Some rest = end.1 ∙ ap Some (ap (λ (p : List Tape × List ℕ). p.1) end.2 ∙ last) in
      let (inside, joined, begins) = joined_sound listed Commas 3 sets start.0 tapes.0.1 are in (
        name ∷ codes "<" ∷ (inside ++ codes ">" ∷ []),
        are_listed name inside sets is_name joined (two, few_sets Commas sets start.0 tapes.0.1 are),
        begins_both (name ∷ []) (codes "<" ∷ (inside ++ codes ">" ∷ [])) s middle rest (begins_one name s middle e)
            (begins_both (codes "<" ∷ []) (inside ++ codes ">" ∷ []) middle start.0 rest (begins_one (codes "<") middle start.0 start.1)
            (begins_both inside (codes ">" ∷ []) start.0 tapes.0.1 rest begins (begins_one (codes ">") tapes.0.1 rest closing))),
      )

  single_sound : (sets : List TapeSet) (t : Tape) (s rest : List ℕ) → named_front s ≡ found t rest → t ∷ [] ≡ map tape_of sets → Labels sets s rest
  single_sound [] t s rest e same = absurd (cc)
  single_sound (set ∷ []) t s rest e same =
      let is : t ≡ tape_of set = cc in
      let (pieces, named, begins) = named_sound listed set s rest (e ∙ ap (λ u. found u rest) is) in
      (pieces, inl (set, refl, inl named), begins)
  single_sound (set ∷ other ∷ sets) t s rest e same = absurd (cc)

  labels_sound : (sets : List TapeSet) (s rest : List ℕ) → labels_front s ≡ found (map tape_of sets) rest → Labels sets s rest
  labels_sound sets s rest e =
      at_list (choose_some (after (codes "lat") s) listed_front (choose (after (codes "tupleset") s) listed_front (unlisted s)) (map tape_of sets, rest) e)
    where
      at_brackets : ((x : List Tape × List ℕ) × (tapes_by Crosses 3 s ≡ Some x) × (Some x ≡ found (map tape_of sets) rest))
          ⊎ ((tapes_by Crosses 3 s ≡ None) × (option_map alone (named_front s) ≡ found (map tape_of sets) rest)) → Labels sets s rest
      at_brackets (inl (x, is, same)) =
          crossed_sound sets s rest (few_sets Crosses sets s rest (is ∙ same)) (joined_sound listed Crosses 3 sets s rest (is ∙ same))
      at_brackets (inr (none, f)) =
          let (t, is, g) = map_some alone (named_front s) (map tape_of sets, rest) f in
          let (same, end) = found_is (t.0 ∷ []) (map tape_of sets) t.1 rest (ap Some g) in
          single_sound sets t.0 s rest (is ∙ ap (found t.0) end) same

      at_tuple : ((x : List ℕ) × (after (codes "tupleset") s ≡ Some x) × (listed_front x ≡ found (map tape_of sets) rest))
          ⊎ ((after (codes "tupleset") s ≡ None) × (unlisted s ≡ found (map tape_of sets) rest)) → Labels sets s rest
      at_tuple (inl (x, is, f)) = listed_sound (codes "tupleset") s x sets rest (inr refl) is f
      at_tuple (inr (none, f)) = at_brackets (choose_some (tapes_by Crosses 3 s) Some (option_map alone (named_front s)) (map tape_of sets, rest) f)

      at_list : ((x : List ℕ) × (after (codes "lat") s ≡ Some x) × (listed_front x ≡ found (map tape_of sets) rest))
          ⊎ ((after (codes "lat") s ≡ None) × (choose (after (codes "tupleset") s) listed_front (unlisted s) ≡ found (map tape_of sets) rest)) → Labels sets s rest
      at_list (inl (x, is, f)) = listed_sound (codes "lat") s x sets rest (inl refl) is f
      at_list (inr (none, f)) = at_tuple (choose_some (after (codes "tupleset") s) listed_front (unlisted s) (map tape_of sets, rest) f)

  pub context_sound : (text : List ℕ) (sets : List TapeSet) (w : Weights) → context_at text ≡ context_of (map tape_of sets) w → SpellsContext text sets w
  context_sound text sets w e =
      let (p, labels, f) = bind_some (labels_front text) (λ found. arrow found.1 >>= (λ rest. option_map (λ w. (found.0, w)) (weights_at rest))) (map tape_of sets, w) e in
      let (next, marked, g) = bind_some (arrow p.1) (λ rest. option_map (λ w. (let q : List Tape × Weights = (p.0, w) in q)) (weights_at rest)) (map tape_of sets, w) f in
      let (v, weights, same) = map_some (λ w. (let q : List Tape × Weights = (p.0, w) in q)) (weights_at next) (map tape_of sets, w) g in
      let tapes : p.0 ≡ map tape_of sets = ap (λ (q : List Tape × Weights). q.0) same in
      let kind : v ≡ w = ap (λ (q : List Tape × Weights). q.1) same in
      let (pieces, is, begins) = labels_sound sets text p.1 (labels ∙ ap (λ l. found l p.1) tapes) in
      let (mark, is_mark, marks) = arrow_sound p.1 next marked in
      let (blanks, end, at, are, last) = weights_sound w next (weights ∙ ap Some kind) in
      record {
        labels = pieces;
        mark = mark;
        is_labels = is;
        is_arrow = is_mark;
        spaced = begins_spaced (pieces ++ mark ∷ weights_name w ∷ []) text end
            (begins_both pieces (mark ∷ weights_name w ∷ []) text p.1 end begins
            (begins_both (mark ∷ []) (weights_name w ∷ []) p.1 next end marks (blanks, end, at, are, refl)))
            last;
      }
