-- What the machine reads is in the grammar.
use Rattle.std.proofs.Common.{◌≡◌, Bool, true, false, List, [], ◌∷◌, ◌++◌, Option, Some, None, refl, ap, sym, ◌∙◌, subst, append_assoc, append-nil}
use Rattle.std.specs.Prelude.{⊤, if◌then◌else◌}
use Rattle.std.specs.Option.{option_and_then}
use Rattle.vc_lex.specs.declared.token.TokenKind.{TokenKind}
use Rattle.vc_lex.specs.declared.token.TokenKind.TheVariants.{Zero, One, Letter, Quoted, Class, Weight, Star, And, Shuffle, Plus, Left, Right, Bar}
use Rattle.vc_lex.specs.Marks.{Mark}
use Rattle.vc_exprio.specs.Trees.{Tree, Barred, label, star, weight_behind, both, shuffle, plus, tokens_of, barred_tokens}
use Rattle.vc_exprio.specs.Grammar.{is_postfixed, is_prefixed, is_product, is_conjunction, is_shuffle, is_sum, is_part_kind, IsPart, AreBarred, IsWeight, HasForm, SpellsTree}
use Rattle.vc_exprio.specs.Machine.{LeftSide, Head, weights, factors, Level, Outer, Phase, wanted, after, barred, State, fresh, start, weighed, product_with, joined, conjunction_with, shuffle_with, sum_with, behind_factor, behind_and, behind_shuffle, behind_plus, read, want, begin, with_weight, closed, with_bar, step_wanted, step_after, step_in, step, run, finish_in, finish, tree_of}
use Rattle.vc_exprio.proofs.GrammarForms.{looser_prefixed, looser_product, looser_conjunction, looser_shuffle, looser_sum, barred_tokens_append}

-- ---- the tokens that a state has read

abbrev pub before_mark : Option LeftSide → List Mark
before_mark None = []
before_mark (Some l) = tokens_of l.tree ++ l.mark ∷ []

abbrev pub head_tokens : Head → List Mark
head_tokens (weights ms) = ms
head_tokens (factors t) = tokens_of t

abbrev pub level_tokens : Level → List Mark
level_tokens l = before_mark l.sum ++ (before_mark l.shuffled ++ (before_mark l.conjunct ++ head_tokens l.head))

abbrev pub outer_tokens : List Outer → List Mark
outer_tokens [] = []
outer_tokens (x ∷ o) = outer_tokens o ++ (level_tokens x.level ++ x.opening ∷ [])

abbrev pub phase_tokens : Phase → List Mark
phase_tokens wanted = []
phase_tokens (after t) = tokens_of t
phase_tokens (barred p bs m) = p ∷ (barred_tokens bs ++ m ∷ [])

abbrev pub state_tokens : State → List Mark
state_tokens s = outer_tokens s.outer ++ (level_tokens s.level ++ phase_tokens s.phase)

weighed_tokens : (ms : List Mark) (t : Tree) → tokens_of (weighed ms t) ≡ ms ++ tokens_of t
weighed_tokens [] t = refl
weighed_tokens (m ∷ ms) t = ap (λ x. m ∷ x) (weighed_tokens ms t)

product_tokens : (h : Head) (t : Tree) → tokens_of (product_with h t) ≡ head_tokens h ++ tokens_of t
product_tokens (weights ms) t = weighed_tokens ms t
product_tokens (factors u) t = refl

both_tokens : (x : Option LeftSide) (t : Tree) → tokens_of (joined both x t) ≡ before_mark x ++ tokens_of t
both_tokens None t = refl
both_tokens (Some l) t = sym (append_assoc (tokens_of l.tree) (l.mark ∷ []) (tokens_of t))

shuffled_tokens : (x : Option LeftSide) (t : Tree) → tokens_of (joined shuffle x t) ≡ before_mark x ++ tokens_of t
shuffled_tokens None t = refl
shuffled_tokens (Some l) t = sym (append_assoc (tokens_of l.tree) (l.mark ∷ []) (tokens_of t))

plus_tokens : (x : Option LeftSide) (t : Tree) → tokens_of (joined plus x t) ≡ before_mark x ++ tokens_of t
plus_tokens None t = refl
plus_tokens (Some l) t = sym (append_assoc (tokens_of l.tree) (l.mark ∷ []) (tokens_of t))

conjunction_tokens : (l : Level) (t : Tree) → tokens_of (conjunction_with l t) ≡ (before_mark l.conjunct ++ head_tokens l.head) ++ tokens_of t
conjunction_tokens l t =
    both_tokens l.conjunct (product_with l.head t) ∙ ap (λ x. before_mark l.conjunct ++ x) (product_tokens l.head t)
    ∙ sym (append_assoc (before_mark l.conjunct) (head_tokens l.head) (tokens_of t))

shuffle_tokens : (l : Level) (t : Tree) → tokens_of (shuffle_with l t) ≡ (before_mark l.shuffled ++ (before_mark l.conjunct ++ head_tokens l.head)) ++ tokens_of t
shuffle_tokens l t =
    shuffled_tokens l.shuffled (conjunction_with l t) ∙ ap (λ x. before_mark l.shuffled ++ x) (conjunction_tokens l t)
    ∙ sym (append_assoc (before_mark l.shuffled) (before_mark l.conjunct ++ head_tokens l.head) (tokens_of t))

pub sum_tokens : (l : Level) (t : Tree) → tokens_of (sum_with l t) ≡ level_tokens l ++ tokens_of t
sum_tokens l t =
    plus_tokens l.sum (shuffle_with l t) ∙ ap (λ x. before_mark l.sum ++ x) (shuffle_tokens l t)
    ∙ sym (append_assoc (before_mark l.sum) (before_mark l.shuffled ++ (before_mark l.conjunct ++ head_tokens l.head)) (tokens_of t))

-- this holds of the state, if there is one
abbrev pub Every : (State → Type 0) → Option State → Type 0
Every P None = ⊤
Every P (Some s) = P s

module _ (is_weight : Mark → Bool) where
  -- ---- the forms in a state

  abbrev pub IsLeftSide : (Tree → Bool) → TokenKind → Option LeftSide → Type 0
  IsLeftSide is_form kind None = ⊤
  IsLeftSide is_form kind (Some l) = HasForm is_weight is_form l.tree × (l.mark.kind ≡ kind)

  abbrev pub AreWeights : List Mark → Type 0
  AreWeights [] = ⊤
  AreWeights (m ∷ ms) = IsWeight is_weight m × AreWeights ms

  abbrev pub IsHead : Head → Type 0
  IsHead (weights ms) = AreWeights ms
  IsHead (factors t) = HasForm is_weight is_product t

  pub record IsLevel (l : Level) : Type 0 where
    pub sum : IsLeftSide is_sum Plus l.sum
    pub shuffled : IsLeftSide is_shuffle Shuffle l.shuffled
    pub conjunct : IsLeftSide is_conjunction And l.conjunct
    pub head : IsHead l.head

  abbrev pub AreOuter : List Outer → Type 0
  AreOuter [] = ⊤
  AreOuter (x ∷ o) = IsLevel x.level × (x.opening.kind ≡ Left) × AreOuter o

  abbrev pub IsPhase : Phase → Type 0
  IsPhase wanted = ⊤
  IsPhase (after t) = HasForm is_weight is_postfixed t
  IsPhase (barred p bs m) = IsPart p × AreBarred bs × (m.kind ≡ Bar)

  -- the state has read these tokens, and all that stands in it is in the grammar
  pub record HasRead (ms : List Mark) (s : State) : Type 0 where
    pub tokens : state_tokens s ≡ ms
    pub outer : AreOuter s.outer
    pub level : IsLevel s.level
    pub phase : IsPhase s.phase

  pub fresh_level : IsLevel fresh
  fresh_level = record { sum = tt; shuffled = tt; conjunct = tt; head = tt }

  weights_append : (ms : List Mark) (m : Mark) → AreWeights ms → IsWeight is_weight m → AreWeights (ms ++ m ∷ [])
  weights_append [] m are is = (is, tt)
  weights_append (n ∷ ms) m (first, are) is = (first, weights_append ms m are is)

  barred_append : (bs : List Barred) (b : Barred) → AreBarred bs → b.bar.kind ≡ Bar → IsPart b.part → AreBarred (bs ++ b ∷ [])
  barred_append [] b are bar part = (bar, part, tt)
  barred_append (c ∷ bs) b (one, two, are) bar part = (one, two, barred_append bs b are bar part)

  weighed_form : (ms : List Mark) (t : Tree) → AreWeights ms → HasForm is_weight is_prefixed t → HasForm is_weight is_prefixed (weighed ms t)
  weighed_form [] t are is = is
  weighed_form (m ∷ ms) t (first, are) is = (refl, (first, weighed_form ms t are is))

  product_form : (h : Head) (t : Tree) → IsHead h → HasForm is_weight is_postfixed t → HasForm is_weight is_product (product_with h t)
  product_form (weights ms) t are (form, is) = let w = weighed_form ms t are (looser_prefixed t form, is) in (looser_product (weighed ms t) w.0, w.1)
  product_form (factors u) t left is = (refl, (left, is))

  conjunction_form : (l : Level) (t : Tree) → IsLevel l → HasForm is_weight is_postfixed t → HasForm is_weight is_conjunction (conjunction_with l t)
  conjunction_form l t level is = go l.conjunct level.conjunct (product_with l.head t) (product_form l.head t level.head is)
    where
      go : (x : Option LeftSide) → IsLeftSide is_conjunction And x → (u : Tree) → HasForm is_weight is_product u → HasForm is_weight is_conjunction (joined both x u)
      go None left u h = (looser_conjunction u h.0, h.1)
      go (Some l) left u h = (refl, (left.0, left.1, h))

  pub shuffle_form : (l : Level) (t : Tree) → IsLevel l → HasForm is_weight is_postfixed t → HasForm is_weight is_shuffle (shuffle_with l t)
  shuffle_form l t level is = go l.shuffled level.shuffled (conjunction_with l t) (conjunction_form l t level is)
    where
      go : (x : Option LeftSide) → IsLeftSide is_shuffle Shuffle x → (u : Tree) → HasForm is_weight is_conjunction u → HasForm is_weight is_shuffle (joined shuffle x u)
      go None left u h = (looser_shuffle u h.0, h.1)
      go (Some l) left u h = (refl, (left.0, left.1, h))

  pub sum_form : (l : Level) (t : Tree) → IsLevel l → HasForm is_weight is_postfixed t → HasForm is_weight is_sum (sum_with l t)
  sum_form l t level is = go l.sum level.sum (shuffle_with l t) (shuffle_form l t level is)
    where
      go : (x : Option LeftSide) → IsLeftSide is_sum Plus x → (u : Tree) → HasForm is_weight is_shuffle u → HasForm is_weight is_sum (joined plus x u)
      go None left u h = (looser_sum u, h.1)
      go (Some l) left u h = (refl, (left.0, left.1, h))

  -- ---- one token

  begin_read : (o : List Outer) (l : Level) (m : Mark) (k : TokenKind) → m.kind ≡ k → AreOuter o → IsLevel l
      → Every (HasRead (outer_tokens o ++ (level_tokens l ++ m ∷ []))) (begin o l m k)
  begin_read o l m Zero e outer level = record { tokens = refl; outer = outer; level = level; phase = (refl, e) }
  begin_read o l m One e outer level = record { tokens = refl; outer = outer; level = level; phase = (refl, (ap is_part_kind e, tt)) }
  begin_read o l m Letter e outer level = record { tokens = refl; outer = outer; level = level; phase = (refl, (ap is_part_kind e, tt)) }
  begin_read o l m Quoted e outer level = record { tokens = refl; outer = outer; level = level; phase = (refl, (ap is_part_kind e, tt)) }
  begin_read o l m Class e outer level = record { tokens = refl; outer = outer; level = level; phase = (refl, e) }
  begin_read o l m Left e outer level = record { tokens = append-nil (outer_tokens o ++ (level_tokens l ++ m ∷ [])); outer = (level, e, outer); level = fresh_level; phase = tt }
  begin_read o l m k e outer level = tt

  -- the state where an operand is wanted again
  module _ (o : List Outer) (l : Level) (t : Tree) (m : Mark) (outer : AreOuter o) (level : IsLevel l) (is : HasForm is_weight is_postfixed t) where
    abbrev before : List Mark
    before = outer_tokens o ++ (level_tokens l ++ tokens_of t)

    plus_read : m.kind ≡ Plus → HasRead (before ++ m ∷ []) (want o (behind_plus l t m))
    plus_read e = record {
      tokens = simp (append_assoc, append-nil, sum_tokens l t);
      outer = outer;
      level = record { sum = (sum_form l t level is, e); shuffled = tt; conjunct = tt; head = tt };
      phase = tt;
    }

    shuffle_read : m.kind ≡ Shuffle → HasRead (before ++ m ∷ []) (want o (behind_shuffle l t m))
    shuffle_read e = record {
      tokens = simp (append_assoc, append-nil, shuffle_tokens l t);
      outer = outer;
      level = record { sum = level.sum; shuffled = (shuffle_form l t level is, e); conjunct = tt; head = tt };
      phase = tt;
    }

    and_read : m.kind ≡ And → HasRead (before ++ m ∷ []) (want o (behind_and l t m))
    and_read e = record {
      tokens = simp (append_assoc, append-nil, conjunction_tokens l t);
      outer = outer;
      level = record { sum = level.sum; shuffled = level.shuffled; conjunct = (conjunction_form l t level is, e); head = tt };
      phase = tt;
    }

    factor_level : IsLevel (behind_factor l t)
    factor_level = record { sum = level.sum; shuffled = level.shuffled; conjunct = level.conjunct; head = product_form l.head t level.head is }

    factor_tokens : outer_tokens o ++ (level_tokens (behind_factor l t) ++ m ∷ []) ≡ before ++ m ∷ []
    factor_tokens = simp (append_assoc, product_tokens l.head t)

    star_read : m.kind ≡ Star → HasRead (before ++ m ∷ []) (read o l (star t m))
    star_read e = record { tokens = simp append_assoc; outer = outer; level = level; phase = (refl, (is, e)) }

    weight_read : m.kind ≡ Weight → Every (HasRead (before ++ m ∷ [])) (if is_weight m then Some (read o l (weight_behind t m)) else None)
    weight_read e = go (is_weight m) refl
      where
        go : (b : Bool) → is_weight m ≡ b → Every (HasRead (before ++ m ∷ [])) (if b then Some (read o l (weight_behind t m)) else None)
        go true w = record { tokens = simp append_assoc; outer = outer; level = level; phase = (refl, (is, (e, w))) }
        go false w = tt

  closed_read : (o : List Outer) (l : Level) (t : Tree) (m : Mark) → AreOuter o → IsLevel l → HasForm is_weight is_postfixed t → m.kind ≡ Right
      → Every (HasRead ((outer_tokens o ++ (level_tokens l ++ tokens_of t)) ++ m ∷ [])) (closed o (sum_with l t) m)
  closed_read [] l t m outer level is e = tt
  closed_read (x ∷ o) l t m (before, left, outer) level is e = record {
    tokens = simp (append_assoc, sum_tokens l t);
    outer = outer;
    level = before;
    phase = (refl, (left, sum_form l t level is, e));
  }

  bar_read : (o : List Outer) (l : Level) (t : Tree) (m : Mark) → AreOuter o → IsLevel l → HasForm is_weight is_postfixed t → m.kind ≡ Bar
      → Every (HasRead ((outer_tokens o ++ (level_tokens l ++ tokens_of t)) ++ m ∷ [])) (with_bar o l t m)
  bar_read o l (label p bs) m outer level is e = record { tokens = simp append_assoc; outer = outer; level = level; phase = (is.1.0, is.1.1, e) }
  bar_read o l t m outer level is e = tt

  after_read : (o : List Outer) (l : Level) (t : Tree) (m : Mark) (k : TokenKind) → m.kind ≡ k → AreOuter o → IsLevel l → HasForm is_weight is_postfixed t
      → Every (HasRead ((outer_tokens o ++ (level_tokens l ++ tokens_of t)) ++ m ∷ [])) (step_after is_weight o l t m k)
  after_read o l t m Star e outer level is = star_read o l t m outer level is e
  after_read o l t m Weight e outer level is = weight_read o l t m outer level is e
  after_read o l t m And e outer level is = and_read o l t m outer level is e
  after_read o l t m Shuffle e outer level is = shuffle_read o l t m outer level is e
  after_read o l t m Plus e outer level is = plus_read o l t m outer level is e
  after_read o l t m Right e outer level is = closed_read o l t m outer level is e
  after_read o l t m Bar e outer level is = bar_read o l t m outer level is e
  after_read o l t m k e outer level is =
      subst (λ ms. Every (HasRead ms) (begin o (behind_factor l t) m k)) (factor_tokens o l t m outer level is) (begin_read o (behind_factor l t) m k e outer (factor_level o l t m outer level is))

  with_weight_read : (o : List Outer) (l : Level) (m : Mark) (h : Head) → l.head ≡ h → AreOuter o → IsLevel l → IsWeight is_weight m
      → Every (HasRead ((outer_tokens o ++ (level_tokens l ++ [])) ++ m ∷ [])) (option_and_then (λ n. Some (want o n)) (with_weight l m h))
  with_weight_read o l m (weights ms) e outer level is = record {
    tokens = rw e (simp (append_assoc, append-nil));
    outer = outer;
    level = record { sum = level.sum; shuffled = level.shuffled; conjunct = level.conjunct; head = weights_append ms m (subst IsHead e level.head) is };
    phase = tt;
  }
  with_weight_read o l m (factors t) e outer level is = tt

  wanted_read : (o : List Outer) (l : Level) (m : Mark) (k : TokenKind) → m.kind ≡ k → AreOuter o → IsLevel l
      → Every (HasRead ((outer_tokens o ++ (level_tokens l ++ [])) ++ m ∷ [])) (step_wanted is_weight o l m k)
  wanted_read o l m Weight e outer level = go (is_weight m) refl
    where
      go : (b : Bool) → is_weight m ≡ b → Every (HasRead ((outer_tokens o ++ (level_tokens l ++ [])) ++ m ∷ [])) (if b then option_and_then (λ n. Some (want o n)) (with_weight l m l.head) else None)
      go true w = with_weight_read o l m l.head refl outer level (e, w)
      go false w = tt
  wanted_read o l m k e outer level =
      let here : outer_tokens o ++ (level_tokens l ++ m ∷ []) ≡ (outer_tokens o ++ (level_tokens l ++ [])) ++ m ∷ [] = simp (append_assoc, append-nil) in
      subst (λ ms. Every (HasRead ms) (begin o l m k)) here (begin_read o l m k e outer level)

  barred_read : (o : List Outer) (l : Level) (p : Mark) (bs : List Barred) (bar m : Mark) → AreOuter o → IsLevel l → IsPhase (barred p bs bar)
      → Every (HasRead ((outer_tokens o ++ (level_tokens l ++ phase_tokens (barred p bs bar))) ++ m ∷ [])) (step_in is_weight o l (barred p bs bar) m)
  barred_read o l p bs bar m outer level (first, bars, last) = go (is_part_kind m.kind) refl
    where
      go : (b : Bool) → is_part_kind m.kind ≡ b → Every (HasRead ((outer_tokens o ++ (level_tokens l ++ phase_tokens (barred p bs bar))) ++ m ∷ [])) (if b then Some (read o l (label p (bs ++ record { bar = bar; part = m } ∷ []))) else None)
      go true is = record {
        tokens = simp (append_assoc, barred_tokens_append);
        outer = outer;
        level = level;
        phase = (refl, (first, barred_append bs (record { bar = bar; part = m }) bars last is));
      }
      go false is = tt

  -- one more token is read
  pub step_read : (s : State) (ms : List Mark) (m : Mark) → HasRead ms s → Every (HasRead (ms ++ m ∷ [])) (step is_weight s m)
  step_read s ms m h = subst (λ x. Every (HasRead (x ++ m ∷ [])) (step is_weight s m)) h.tokens (go s.phase h.phase)
    where
      go : (p : Phase) → IsPhase p → Every (HasRead ((outer_tokens s.outer ++ (level_tokens s.level ++ phase_tokens p)) ++ m ∷ [])) (step_in is_weight s.outer s.level p m)
      go wanted is = wanted_read s.outer s.level m m.kind refl h.outer h.level
      go (after t) is = after_read s.outer s.level t m m.kind refl h.outer h.level is
      go (barred p bs bar) is = barred_read s.outer s.level p bs bar m h.outer h.level is

  pub run_read : (s : State) (before ms : List Mark) → HasRead before s → Every (HasRead (before ++ ms)) (run is_weight s ms)
  run_read s before [] h = subst (λ x. HasRead x s) (sym (append-nil before)) h
  run_read s before (m ∷ ms) h = go (step is_weight s m) (step_read s before m h) (λ n k. run_read n (before ++ m ∷ []) ms k)
    where
      go : (next : Option State) → Every (HasRead (before ++ m ∷ [])) next → ((n : State) → HasRead (before ++ m ∷ []) n → Every (HasRead ((before ++ m ∷ []) ++ ms)) (run is_weight n ms))
          → Every (HasRead (before ++ m ∷ ms)) (option_and_then (λ n. run is_weight n ms) next)
      go None k f = tt
      go (Some n) k f = subst (λ x. Every (HasRead x) (run is_weight n ms)) (append_assoc before (m ∷ []) ms) (f n k)

  pub start_read : HasRead [] start
  start_read = record { tokens = refl; outer = tt; level = fresh_level; phase = tt }

  -- what is read from tokens is in the grammar
  pub tree_sound : (ms : List Mark) (t : Tree) → tree_of is_weight ms ≡ Some t → SpellsTree is_weight ms t
  tree_sound ms t e = go (run is_weight start ms) (run_read start [] ms start_read) e
    where
      ends : (o : List Outer) (l : Level) (p : Phase) → AreOuter o → IsLevel l → IsPhase p → outer_tokens o ++ (level_tokens l ++ phase_tokens p) ≡ ms
          → finish_in is_weight o l p ≡ Some t → SpellsTree is_weight ms t
      ends [] l (after u) outer level is k f =
          let same : sum_with l u ≡ t = cc in
          subst (SpellsTree is_weight ms) same (record { tokens = sum_tokens l u ∙ k; grammar = (sum_form l u level is).1 })
      ends o l p outer level is k f = absurd (cc)

      go : (s : Option State) → Every (HasRead ms) s → option_and_then (finish is_weight) s ≡ Some t → SpellsTree is_weight ms t
      go None h f = absurd (cc)
      go (Some s) h f = ends s.outer s.level s.phase h.outer h.level h.phase h.tokens f
