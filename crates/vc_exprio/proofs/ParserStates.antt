-- What the parser has read, and what it answers.
use Rattle.std.proofs.Common.{◌≡◌, ◌≤◌, ◌<◌, ◌+◌, ◌==◌, ℕ, Bool, true, false, List, [], ◌∷◌, ◌++◌, map, take, drop, length, Option, Some, None, refl, ap, sym, ◌∙◌, append_assoc, add-one, arith, length-append, inl, inr}
use Rattle.std.specs.Prelude.{if◌then◌else◌, slice_index_or}
use Rattle.std.proofs.Math.Seq.{take-suc}
use Rattle.std.proofs.lemmas.Bool.Decides.{nat_tests}
use Rattle.std.proofs.lemmas.Grind.{common_steps}
use Rattle.std.proofs.lemmas.List.{map-append, take-append-drop, length-map}
use Rattle.std.specs.Option.{option_map, option_and_then}
use Rattle.vc_exprio.specs.declared.state.Phase.TheVariants.{Label, Operand}
use Rattle.vc_lex.specs.Marks.{Mark}
use Rattle.vc_exprio.specs.Trees.{Tree, zero_tree, label, class, group, star, weight_behind, weight_before, times, both, shuffle, plus, tokens_of}
use Rattle.vc_exprio.specs.Grammar.{SpellsTree}
use Rattle.vc_exprio.specs.Machine.{LeftSide, Head, weights, factors, Level, Outer, Phase, wanted, after, barred, State, start, sum_with, step, run, finish_in, finish, tree_of}
use Rattle.vc_exprio.specs.Fronts.{IsFaultAt}
use Rattle.vc_exprio.specs.declared.state.Level.{Level as Counts}
use Rattle.vc_exprio.specs.Steps.{Op, factor_count, member_count, steps_of}
use Rattle.vc_exprio.specs.Flat.{Flat, flat_step, sum_closed, is_read, flat_start}
use Rattle.vc_exprio.proofs.Sound.{HasRead, Every, start_read, step_read, tree_sound, before_mark, head_tokens, level_tokens, outer_tokens, phase_tokens, state_tokens}
use Rattle.vc_exprio.proofs.Complete.{run_append, tree_complete}
use Rattle.vc_exprio.proofs.FrontLaws.{front_of_run, no_front}
use Rattle.vc_exprio.proofs.FlatStates.{flat_of, members_of, factors_of, outer_counts, next_of, is_label, sum_shape}
use Rattle.vc_exprio.proofs.FlatTokens.{IsFree, step_alike, step_free}

-- ---- the counts are no more than the tokens

some_token : (t : Tree) → (m : Mark) × (ms : List Mark) × (tokens_of t ≡ m ∷ ms)
some_token (zero_tree m) = (m, [], refl)
some_token (label m bs) = (m, _, refl)
some_token (class m) = (m, [], refl)
some_token (group opening t closing) = (opening, _, refl)
some_token (star t m) = let (n, ms, e) = some_token t in (n, ms ++ m ∷ [], ap (λ x. x ++ m ∷ []) e)
some_token (weight_behind t m) = let (n, ms, e) = some_token t in (n, ms ++ m ∷ [], ap (λ x. x ++ m ∷ []) e)
some_token (weight_before m t) = (m, _, refl)
some_token (times t u) = let (n, ms, e) = some_token t in (n, ms ++ tokens_of u, ap (λ x. x ++ tokens_of u) e)
some_token (both t m u) = let (n, ms, e) = some_token t in (n, ms ++ m ∷ tokens_of u, ap (λ x. x ++ m ∷ tokens_of u) e)
some_token (shuffle t m u) = let (n, ms, e) = some_token t in (n, ms ++ m ∷ tokens_of u, ap (λ x. x ++ m ∷ tokens_of u) e)
some_token (plus t m u) = let (n, ms, e) = some_token t in (n, ms ++ m ∷ tokens_of u, ap (λ x. x ++ m ∷ tokens_of u) e)

one_token : (t : Tree) → 1 ≤ length (tokens_of t)
one_token t = let (m, ms, e) = some_token t in let l : length (tokens_of t) ≡ length (m ∷ ms) = ap length e in omega (arith, l)

few_factors : (t : Tree) → factor_count t ≤ length (tokens_of t)
few_factors (times t u) = let a = few_factors t in let b = one_token u in omega (arith, a, b, length-append (tokens_of t) (tokens_of u))
few_factors t = one_token t

few_members : (t : Tree) → member_count t ≤ length (tokens_of t)
few_members (plus t m u) = let a = few_members t in omega (arith, a, length-append (tokens_of t) (m ∷ tokens_of u))
few_members t = one_token t

few_on_left : (x : Option LeftSide) → members_of x ≤ length (before_mark x)
few_on_left None = omega arith
few_on_left (Some l) = let a = few_members l.tree in omega (arith, a, length-append (tokens_of l.tree) (l.mark ∷ []))

few_in_head : (h : Head) → factors_of h ≤ length (head_tokens h)
few_in_head (weights ms) = omega arith
few_in_head (factors t) = few_factors t

pub record Few (s : State) (n : ℕ) : Type 0 where
  pub members : members_of s.level.sum ≤ n
  pub factors : factors_of s.level.head ≤ n

few : (s : State) → Few s (length (state_tokens s))
few s =
    let a = few_on_left s.level.sum in
    let b = few_in_head s.level.head in
    let c = length-append (outer_tokens s.outer) (level_tokens s.level ++ phase_tokens s.phase) in
    let d = length-append (level_tokens s.level) (phase_tokens s.phase) in
    let e = length-append (before_mark s.level.sum) (before_mark s.level.shuffled ++ (before_mark s.level.conjunct ++ head_tokens s.level.head)) in
    let f = length-append (before_mark s.level.shuffled) (before_mark s.level.conjunct ++ head_tokens s.level.head) in
    let g = length-append (before_mark s.level.conjunct) (head_tokens s.level.head) in
    record { members = omega (arith, a, c, d, e); factors = omega (arith, b, c, d, e, f, g) }

module _ (is_weight : Mark → Bool) where
  -- the parser stands where these tokens lead
  pub record IsAt (ms : List Mark) (f : Flat) : Type 0 where
    pub state : State
    pub run_is : run is_weight start ms ≡ Some state
    pub has : HasRead is_weight ms state
    pub free : IsFree is_weight state
    pub flat : f ≡ flat_of state

  pub starts : IsAt [] flat_start
  starts = record { state = start; run_is = refl; has = start_read is_weight; free = tt; flat = refl }

  pub counts_fit : (ms : List Mark) (f : Flat) → IsAt ms f → (f.level.members ≤ length ms) × (f.level.factors ≤ length ms)
  counts_fit ms f a =
      let k = few a.state in
      let e : length (state_tokens a.state) ≡ length ms = ap length a.has.tokens in
      let x : f.level.members ≡ members_of a.state.level.sum = ap (λ y. y.level.members) a.flat in
      let y : f.level.factors ≡ factors_of a.state.level.head = ap (λ y. y.level.factors) a.flat in
      let m = k.members in
      let n = k.factors in
      (omega (arith, e, x, m), omega (arith, e, y, n))

  run_one : (ms : List Mark) (s : State) (m : Mark) → run is_weight start ms ≡ Some s → run is_weight start (ms ++ m ∷ []) ≡ option_and_then (λ n. Some n) (step is_weight s m)
  run_one ms s m e = run_append is_weight start s ms (m ∷ []) e

  goes_on : (ms : List Mark) (f g : Flat) (m : Mark) → IsAt ms f → flat_step is_weight f m ≡ Some g → IsAt (ms ++ m ∷ []) g
  goes_on ms f g m a e = go (step is_weight a.state m) refl (step_read is_weight a.state ms m a.has) (step_free is_weight a.state m)
      (sym (step_alike is_weight ms a.state m a.has a.free) ∙ ap (λ x. flat_step is_weight x m) (sym a.flat) ∙ e)
    where
      go : (x : Option State) → step is_weight a.state m ≡ x → Every (HasRead is_weight (ms ++ m ∷ [])) x → Every (IsFree is_weight) x → option_map flat_of x ≡ Some g → IsAt (ms ++ m ∷ []) g
      go None i h k l = absurd (cc)
      go (Some n) i h k l =
          let same : flat_of n ≡ g = cc in
          record { state = n; run_is = run_one ms a.state m a.run_is ∙ ap (option_and_then (λ n. Some n)) i; has = h; free = k; flat = sym same }

  none_append : (s : State) (a b : List Mark) → run is_weight s a ≡ None → run is_weight s (a ++ b) ≡ None
  none_append s [] b e = absurd (cc)
  none_append s (m ∷ a) b e = go (step is_weight s m) (λ n f. none_append n a b f) e
    where
      go : (next : Option State) → ((n : State) → run is_weight n a ≡ None → run is_weight n (a ++ b) ≡ None)
          → option_and_then (λ n. run is_weight n a) next ≡ None → option_and_then (λ n. run is_weight n (a ++ b)) next ≡ None
      go None f g = refl
      go (Some n) f g = f n g

  -- a token that cannot stand is the fault
  stuck : (ms : List Mark) (f : Flat) (m : Mark) (rest : List Mark) (end : ℕ) → IsAt ms f → flat_step is_weight f m ≡ None
      → ((t : Tree) → SpellsTree is_weight (ms ++ m ∷ rest) t → ⊥) × IsFaultAt is_weight end (ms ++ m ∷ rest) m.at
  stuck ms f m rest end a e =
      let none : step is_weight a.state m ≡ None = stays (step is_weight a.state m) (sym (step_alike is_weight ms a.state m a.has a.free) ∙ ap (λ x. flat_step is_weight x m) (sym a.flat) ∙ e) in
      let last : run is_weight start (ms ++ m ∷ []) ≡ None = run_one ms a.state m a.run_is ∙ ap (option_and_then (λ n. Some n)) none in
      let whole : run is_weight start (ms ++ m ∷ rest) ≡ None = ap (run is_weight start) (sym (append_assoc ms (m ∷ []) rest)) ∙ none_append start (ms ++ m ∷ []) rest last in (
        λ t h. let x : tree_of is_weight (ms ++ m ∷ rest) ≡ None = ap (option_and_then (finish is_weight)) whole in let y = tree_complete is_weight (ms ++ m ∷ rest) t h in absurd (cc),
        inl (m, record { front = ms; behind = rest; is = refl; before = front_of_run is_weight ms a.state a.run_is; bad = no_front is_weight (ms ++ m ∷ []) last }, refl),
      )
    where
      stays : (x : Option State) → option_map flat_of x ≡ None → x ≡ None
      stays None i = refl
      stays (Some n) i = absurd (cc)

  -- what the next token answered
  pub went_on : (ms : List Mark) (f g : Flat) (m : Mark) {went : Bool} → IsAt ms f → flat_step is_weight f m ≡ (if went then Some g else None) → went ≡ true → IsAt (ms ++ m ∷ []) g
  went_on ms f g m {went} a e i = goes_on ms f g m a (e ∙ ap (λ b. if b then Some g else None) i)

  pub went_wrong : (ms : List Mark) (f g : Flat) (m : Mark) (rest : List Mark) (end : ℕ) {went : Bool} → IsAt ms f → flat_step is_weight f m ≡ (if went then Some g else None) → went ≡ false
      → ((t : Tree) → SpellsTree is_weight (ms ++ m ∷ rest) t → ⊥) × IsFaultAt is_weight end (ms ++ m ∷ rest) m.at
  went_wrong ms f g m rest end {went} a e i = stuck ms f m rest end a (e ∙ ap (λ b. if b then Some g else None) i)

  no_outer : (o : List Outer) → outer_counts o ≡ [] → o ≡ []
  no_outer [] e = refl
  no_outer (x ∷ o) e = absurd (nothing _ (outer_counts o) e)
    where
      nothing : {X : Type 0} (y : X) (xs : List X) → xs ++ y ∷ [] ≡ [] → ⊥
      nothing y [] f = cc
      nothing y (z ∷ xs) f = cc

  -- the tokens end with a tree
  pub ended : (ms : List Mark) (f : Flat) → IsAt ms f → f.outer ≡ [] → is_read f.phase ≡ true → (t : Tree) × SpellsTree is_weight ms t × ((sum_closed f).steps ≡ steps_of t)
  ended ms f a none phase =
      go a.state.outer a.state.level a.state.phase (no_outer a.state.outer (ap (λ x. x.outer) (sym a.flat) ∙ none)) (ap (λ x. is_read x.phase) (sym a.flat) ∙ phase) a.run_is a.flat
    where
      go : (o : List Outer) (l : Level) (p : Phase) → o ≡ [] → is_read (next_of p) ≡ true → run is_weight start ms ≡ Some (record { outer = o; level = l; phase = p }) → f ≡ flat_of (record { outer = o; level = l; phase = p })
          → (t : Tree) × SpellsTree is_weight ms t × ((sum_closed f).steps ≡ steps_of t)
      go [] l (after t) e r i j = (
        sum_with l t,
        tree_sound is_weight ms (sum_with l t) (ap (option_and_then (finish is_weight)) i),
        ap (λ x. (sum_closed x).steps) j ∙ ap (λ (x : Flat). x.steps) (sum_shape [] l t),
      )
      go o l wanted e r i j = absurd (cc)
      go o l (barred q bs m) e r i j = absurd (cc)
      go (x ∷ o) l p e r i j = absurd (cc)

  -- tokens that do not end here have their fault at the end
  pub unended : (ms : List Mark) (f : Flat) (end : ℕ) → IsAt ms f → (f.outer ≡ [] → is_read f.phase ≡ true → ⊥)
      → ((t : Tree) → SpellsTree is_weight ms t → ⊥) × IsFaultAt is_weight end ms end
  unended ms f end a open_end =
      (λ t h. go a.state.outer a.state.level a.state.phase a.run_is a.flat t h, inr (front_of_run is_weight ms a.state a.run_is, refl))
    where
      go : (o : List Outer) (l : Level) (p : Phase) → run is_weight start ms ≡ Some (record { outer = o; level = l; phase = p }) → f ≡ flat_of (record { outer = o; level = l; phase = p })
          → (t : Tree) → SpellsTree is_weight ms t → ⊥
      go o l p i j t h =
          let x : tree_of is_weight ms ≡ finish_in is_weight o l p = ap (option_and_then (finish is_weight)) i in
          let y = tree_complete is_weight ms t h in
          cases o l p (sym x ∙ y) j
        where
          read_is : (u : Tree) → is_read (next_of (after u)) ≡ true
          read_is u = at (is_label u)
            where
              at : (b : Bool) → is_read (if b then Label else Operand) ≡ true
              at true = refl
              at false = refl

          cases : (o : List Outer) (l : Level) (p : Phase) → finish_in is_weight o l p ≡ Some t → f ≡ flat_of (record { outer = o; level = l; phase = p }) → ⊥
          cases [] l (after u) e k = open_end (ap (λ x. x.outer) k) (ap (λ x. is_read x.phase) k ∙ read_is u)
          cases o l p e k = absurd (cc)

-- ---- tokens in order

pub next_taken : {X Y : Type 0} (f : X → Y) (xs : List X) (i : ℕ) (d : X) → i < length xs → map f (take (i + 1) xs) ≡ map f (take i xs) ++ f (slice_index_or xs i d) ∷ []
next_taken f xs i d h = ap (λ n. map f (take n xs)) (add-one i) ∙ ap (map f) (take-suc xs i d h) ∙ map-append f (take i xs) (slice_index_or xs i d ∷ [])

pub cut_at : {X Y : Type 0} (f : X → Y) (xs : List X) (i : ℕ) (d : X) → i < length xs → map f (take i xs) ++ f (slice_index_or xs i d) ∷ map f (drop (i + 1) xs) ≡ map f xs
cut_at f xs i d h =
    sym (append_assoc (map f (take i xs)) (f (slice_index_or xs i d) ∷ []) (map f (drop (i + 1) xs)))
    ∙ ap (λ x. x ++ map f (drop (i + 1) xs)) (sym (next_taken f xs i d h))
    ∙ sym (map-append f (take (i + 1) xs) (drop (i + 1) xs)) ∙ ap (map f) (take-append-drop (i + 1) xs)

pub all_taken : {X : Type 0} (xs : List X) (i : ℕ) → length xs ≤ i → take i xs ≡ xs
all_taken xs i h = grind (arith, common_steps)

pub starts_at : (is_weight : Mark → Bool) (steps : List Op) (outer : List Counts) (pending : List Mark) → steps ≡ [] → outer ≡ [] → pending ≡ []
    → IsAt is_weight [] (record { steps = steps; outer = outer; pending = pending; level = flat_start.level; phase = flat_start.phase })
starts_at is_weight steps outer pending a b c = rw (a, b, c) (starts is_weight)

pub counts_fit_in : {X : Type 0} (is_weight : Mark → Bool) (see : X → Mark) (xs : List X) (i n : ℕ) (f : Flat) → IsAt is_weight (map see (take i xs)) f → length xs + 1 < n
    → (f.level.members + 1 < n) × (f.level.factors + 1 < n)
counts_fit_in is_weight see xs i n f a h =
    let k = counts_fit is_weight (map see (take i xs)) f a in
    let l : length (map see (take i xs)) ≡ length (take i xs) = length-map (take i xs) see in
    let t : length (take i xs) ≤ length xs = grind (arith, common_steps) in
    let x = k.0 in
    let y = k.1 in
    (omega (arith, l, t, x, h), omega (arith, l, t, y, h))

pub is_none : {X : Type 0} (xs : List X) (n : ℕ) → n ≡ length xs → true ≡ (n == 0) → xs ≡ []
is_none [] n l e = refl
is_none (x ∷ xs) n l e = let k : (n == 0) ≡ false = grind (arith, nat_tests) in absurd (cc)

pub is_some : {X : Type 0} (xs : List X) (n : ℕ) → n ≡ length xs → false ≡ (n == 0) → xs ≡ [] → ⊥
is_some [] n l e f = let k : (n == 0) ≡ true = grind (arith, nat_tests) in absurd (cc)
is_some (x ∷ xs) n l e f = cc
