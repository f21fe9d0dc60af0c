-- One token leads the machine with steps where it leads the machine with trees.
use Rattle.std.proofs.Common.{◌≡◌, Bool, true, false, List, [], ◌∷◌, ◌++◌, map, length, Option, Some, None, refl, ap, ap₂, sym, ◌∙◌, append_assoc, append-nil}
use Rattle.std.specs.Prelude.{if◌then◌else◌, ⊤}
use Rattle.std.specs.Option.{option_map, option_and_then}
use Rattle.std.proofs.lemmas.List.{map-append}
use Rattle.vc_lex.specs.declared.token.TokenKind.{TokenKind}
use Rattle.vc_lex.specs.declared.token.TokenKind.TheVariants as kinds
use Rattle.vc_exprio.specs.declared.state.Level.{Level as Counts}
use Rattle.vc_exprio.specs.declared.state.Phase.TheVariants.{Wanted, Label, Operand, Barred}
use Rattle.vc_lex.specs.Marks.{Mark}
use Rattle.vc_exprio.specs.Trees.{Tree, Barred as Part, zero_tree, label, class, star, weight_behind}
use Rattle.vc_exprio.specs.Grammar.{is_postfixed, is_part_kind, HasForm}
use Rattle.vc_exprio.specs.Machine.{Head, weights, factors, Level, Outer, Phase, wanted, after, barred, State, fresh, shuffle_with, sum_with, behind_factor, read, want, begin, with_weight, closed, with_bar, step_wanted, step_after, step_in, step}
use Rattle.vc_exprio.specs.Steps.{Op, zero_op, part_op, more_op, class_op, group_op, star_op, weight_op, steps_of}
use Rattle.vc_exprio.specs.Flat.{Flat, sum_closed, moved, put, flat_begin, last_level, flat_closed_in, flat_wanted, flat_operand, flat_in, flat_step}
use Rattle.vc_exprio.proofs.FlatStates.{flat_of, counts_of, outer_counts, outer_pending, outer_steps, level_steps, next_of, is_label, pending_of, sum_shape, and_flat, shuffle_flat, plus_flat, factor_flat, not_times, not_plus}
use Rattle.vc_exprio.proofs.Sound.{IsLevel, IsPhase, HasRead, Every, shuffle_form}

pub last_is : (ls : List Counts) (l : Counts) → last_level (ls ++ l ∷ []) ≡ Some (ls, l)
last_is [] l = refl
last_is (k ∷ []) l = refl
last_is (k ∷ j ∷ ls) l = ap (λ x. elim x as (λ _. Option (List Counts × Counts)) [ None ↦ None | Some y ↦ Some (k ∷ y.0, y.1) ]) (last_is (j ∷ ls) l)

-- a step behind the others
behind_all : (a b x : List Op) → (a ++ (b ++ [])) ++ x ≡ a ++ (b ++ x)
behind_all a b x = simp (append_assoc, append-nil)

behind_parts : (a b c x : List Op) → (a ++ (b ++ c)) ++ x ≡ a ++ (b ++ (c ++ x))
behind_parts a b c x = simp append_assoc

module _ (o : List Outer) (l : Level) where
  abbrev flat : List Op → List Mark → Phase → Flat
  flat x y p = record { steps = x; outer = outer_counts o; pending = y; level = counts_of (length (outer_pending o)) l; phase = next_of p }

  one_read : (t : Tree) (op : Op) → steps_of t ≡ op ∷ [] → put (flat_of (want o l)) op (next_of (after t)) ≡ flat_of (read o l t)
  one_read t op e =
      ap (λ x. flat x (outer_pending o ++ pending_of l.head) (after t)) (behind_all (outer_steps o) (level_steps l) (op ∷ []) ∙ ap (λ x. outer_steps o ++ (level_steps l ++ x)) (sym e))

  more_read : (t u : Tree) (op : Op) → steps_of u ≡ steps_of t ++ op ∷ [] → put (flat_of (read o l t)) op (next_of (after u)) ≡ flat_of (read o l u)
  more_read t u op e =
      ap (λ x. flat x (outer_pending o ++ pending_of l.head) (after u)) (behind_parts (outer_steps o) (level_steps l) (steps_of t) (op ∷ []) ∙ ap (λ x. outer_steps o ++ (level_steps l ++ x)) (sym e))

  begin_alike : (m : Mark) (k : TokenKind) → flat_begin (flat_of (want o l)) m k ≡ option_map flat_of (begin o l m k)
  begin_alike m kinds.Zero = ap Some (one_read (zero_tree m) zero_op refl)
  begin_alike m kinds.One = ap Some (one_read (label m []) (part_op m) refl)
  begin_alike m kinds.Letter = ap Some (one_read (label m []) (part_op m) refl)
  begin_alike m kinds.Quoted = ap Some (one_read (label m []) (part_op m) refl)
  begin_alike m kinds.Class = ap Some (one_read (class m) (class_op m) refl)
  begin_alike m kinds.Left =
      let x : outer_steps o ++ (level_steps l ++ []) ≡ (outer_steps o ++ level_steps l) ++ ([] ++ []) = simp (append_assoc, append-nil) in
      ap₂ (λ y z. Some (record { steps = y; outer = outer_counts o ++ counts_of (length (outer_pending o)) l ∷ []; pending = z; level = counts_of (length (outer_pending o ++ pending_of l.head)) fresh; phase = Wanted }))
      x (sym (append-nil (outer_pending o ++ pending_of l.head)))
  begin_alike m k = refl

closed_alike : (o : List Outer) (l : Level) (t : Tree) (m : Mark) → flat_closed_in (sum_closed (flat_of (read o l t))) (last_level (outer_counts o)) ≡ option_map flat_of (closed o (sum_with l t) m)
closed_alike [] l t m = refl
closed_alike (x ∷ o) l t m =
    let a : List Op = steps_of (sum_with l t) in
    let e : ((outer_steps o ++ level_steps x.level) ++ a) ++ group_op ∷ [] ≡ outer_steps o ++ (level_steps x.level ++ (a ++ group_op ∷ [])) = simp append_assoc in
    ap (flat_closed_in (sum_closed (flat_of (read (x ∷ o) l t)))) (last_is (outer_counts o) (counts_of (length (outer_pending o)) x.level))
    ∙ ap (λ f. flat_closed_in f (Some (outer_counts o, counts_of (length (outer_pending o)) x.level))) (sum_shape (x ∷ o) l t)
    ∙ ap (λ y. Some (record { steps = y; outer = outer_counts o; pending = outer_pending o ++ pending_of x.level.head; level = counts_of (length (outer_pending o)) x.level; phase = Operand })) e

bar_alike : (o : List Outer) (l : Level) (t : Tree) (m : Mark) → (if is_label t then Some (moved (flat_of (read o l t)) (flat_of (read o l t)).level Barred) else None) ≡ option_map flat_of (with_bar o l t m)
bar_alike o l (label p bs) m = refl
bar_alike o l t m = refl

module _ (is_weight : Mark → Bool) where
  after_alike : (o : List Outer) (l : Level) (t : Tree) (m : Mark) (k : TokenKind) → IsLevel is_weight l → HasForm is_weight is_postfixed t
      → flat_operand is_weight (flat_of (read o l t)) (is_label t) m k ≡ option_map flat_of (step_after is_weight o l t m k)
  after_alike o l t m kinds.Star level is = ap Some (more_read o l t (star t m) star_op refl)
  after_alike o l t m kinds.Weight level is = go (is_weight m)
    where
      go : (b : Bool) → (if b then Some (put (flat_of (read o l t)) (weight_op m) Operand) else None) ≡ option_map flat_of (if b then Some (read o l (weight_behind t m)) else None)
      go true = ap Some (more_read o l t (weight_behind t m) (weight_op m) refl)
      go false = refl
  after_alike o l t m kinds.And level is = ap Some (and_flat o l t m)
  after_alike o l t m kinds.Shuffle level is = ap Some (shuffle_flat o l t m)
  after_alike o l t m kinds.Plus level is = ap Some (plus_flat o l t m (not_plus (shuffle_with l t) (shuffle_form is_weight l t level is).0))
  after_alike o l t m kinds.Right level is = closed_alike o l t m
  after_alike o l t m kinds.Bar level is = bar_alike o l t m
  after_alike o l t m k level is = ap (λ f. flat_begin f m k) (factor_flat o l t (not_times t is.0)) ∙ begin_alike o (behind_factor l t) m k

  weight_alike : (o : List Outer) (l : Level) (m : Mark) (h : Head) → l.head ≡ h → (ms : List Mark) → h ≡ weights ms
      → Some (record { steps = (flat_of (want o l)).steps; outer = outer_counts o; pending = (outer_pending o ++ pending_of l.head) ++ m ∷ []; level = counts_of (length (outer_pending o)) l; phase = Wanted })
      ≡ option_map flat_of (option_and_then (λ n. Some (want o n)) (with_weight l m l.head))
  weight_alike o l m h e ms f =
      let g : l.head ≡ weights ms = e ∙ f in
      rw g (ap (λ y. Some (record { steps = outer_steps o ++ (level_steps (record { sum = l.sum; shuffled = l.shuffled; conjunct = l.conjunct; head = weights ms }) ++ []); outer = outer_counts o; pending = y; level = counts_of (length (outer_pending o)) (record { sum = l.sum; shuffled = l.shuffled; conjunct = l.conjunct; head = weights ms }); phase = Wanted })) (append_assoc (outer_pending o) ms (m ∷ [])))

  -- where an operand is wanted, weights alone stand in front of it
  abbrev pub FreeIn : Phase → Head → Type 0
  FreeIn wanted (factors t) = ⊥
  FreeIn phase head = ⊤

  abbrev pub IsFree : State → Type 0
  IsFree s = FreeIn s.phase s.level.head

  wanted_alike : (o : List Outer) (l : Level) (m : Mark) (k : TokenKind) → FreeIn wanted l.head → flat_wanted is_weight (flat_of (want o l)) m k ≡ option_map flat_of (step_wanted is_weight o l m k)
  wanted_alike o l m kinds.Weight free = go (is_weight m) (with_head l.head refl free)
    where
      with_head : (h : Head) → l.head ≡ h → FreeIn wanted h
          → Some (record { steps = (flat_of (want o l)).steps; outer = outer_counts o; pending = (outer_pending o ++ pending_of l.head) ++ m ∷ []; level = counts_of (length (outer_pending o)) l; phase = Wanted })
          ≡ option_map flat_of (option_and_then (λ n. Some (want o n)) (with_weight l m l.head))
      with_head (weights ms) e f = weight_alike o l m (weights ms) e ms refl
      with_head (factors t) e f = absurd f

      go : (b : Bool) → Some (record { steps = (flat_of (want o l)).steps; outer = outer_counts o; pending = (outer_pending o ++ pending_of l.head) ++ m ∷ []; level = counts_of (length (outer_pending o)) l; phase = Wanted })
          ≡ option_map flat_of (option_and_then (λ n. Some (want o n)) (with_weight l m l.head))
          → (if b then Some (record { steps = (flat_of (want o l)).steps; outer = outer_counts o; pending = (outer_pending o ++ pending_of l.head) ++ m ∷ []; level = counts_of (length (outer_pending o)) l; phase = Wanted }) else None)
          ≡ option_map flat_of (if b then option_and_then (λ n. Some (want o n)) (with_weight l m l.head) else None)
      go true e = e
      go false e = refl
  wanted_alike o l m k free = begin_alike o l m k

  operand_in : (f : Flat) (t : Tree) (m : Mark) → flat_in is_weight f (next_of (after t)) m ≡ flat_operand is_weight f (is_label t) m m.kind
  operand_in f t m = go (is_label t)
    where
      go : (b : Bool) → flat_in is_weight f (if b then Label else Operand) m ≡ flat_operand is_weight f b m m.kind
      go true = refl
      go false = refl

  barred_alike : (o : List Outer) (l : Level) (p : Mark) (bs : List Part) (bar m : Mark)
      → flat_in is_weight (flat_of (record { outer = o; level = l; phase = barred p bs bar })) Barred m ≡ option_map flat_of (step_in is_weight o l (barred p bs bar) m)
  barred_alike o l p bs bar m = go (is_part_kind m.kind)
    where
      f : Flat
      f = flat_of (record { outer = o; level = l; phase = barred p bs bar })

      more : steps_of (label p (bs ++ record { bar = bar; part = m } ∷ [])) ≡ steps_of (label p bs) ++ more_op m ∷ []
      more =
          let x : map (λ (b : Part). more_op b.part) (bs ++ record { bar = bar; part = m } ∷ []) ≡ map (λ (b : Part). more_op b.part) bs ++ more_op m ∷ [] = map-append (λ (b : Part). more_op b.part) bs (record { bar = bar; part = m } ∷ []) in
          ap (λ y. part_op p ∷ (y ++ [])) x ∙ simp (append_assoc, append-nil)

      go : (b : Bool) → (if b then Some (put (flat_of (record { outer = o; level = l; phase = barred p bs bar })) (more_op m) Label) else None) ≡ option_map flat_of (if b then Some (read o l (label p (bs ++ record { bar = bar; part = m } ∷ []))) else None)
      go true = ap Some (more_read o l (label p bs) (label p (bs ++ record { bar = bar; part = m } ∷ [])) (more_op m) more)
      go false = refl

  -- one token
  pub step_alike : (ms : List Mark) (s : State) (m : Mark) → HasRead is_weight ms s → IsFree s → flat_step is_weight (flat_of s) m ≡ option_map flat_of (step is_weight s m)
  step_alike ms s m h free = go s.phase h.phase free
    where
      go : (p : Phase) → IsPhase is_weight p → FreeIn p s.level.head
          → flat_in is_weight (flat_of (record { outer = s.outer; level = s.level; phase = p })) (next_of p) m ≡ option_map flat_of (step_in is_weight s.outer s.level p m)
      go wanted is f = wanted_alike s.outer s.level m m.kind f
      go (after t) is f = operand_in (flat_of (read s.outer s.level t)) t m ∙ after_alike s.outer s.level t m m.kind h.level is
      go (barred p bs bar) is f = barred_alike s.outer s.level p bs bar m

  begin_free : (o : List Outer) (l : Level) (m : Mark) (k : TokenKind) → Every IsFree (begin o l m k)
  begin_free o l m kinds.Zero = tt
  begin_free o l m kinds.One = tt
  begin_free o l m kinds.Letter = tt
  begin_free o l m kinds.Quoted = tt
  begin_free o l m kinds.Class = tt
  begin_free o l m kinds.Left = tt
  begin_free o l m k = tt

  pub step_free : (s : State) (m : Mark) → Every IsFree (step is_weight s m)
  step_free s m = go s.outer s.level s.phase
    where
      weight_free : (o : List Outer) (l : Level) (h : Head) (b : Bool) → Every IsFree (if b then option_and_then (λ n. Some (want o n)) (with_weight l m h) else None)
      weight_free o l (weights ms) true = tt
      weight_free o l (factors t) true = tt
      weight_free o l h false = tt

      behind_free : (o : List Outer) (l : Level) (t : Tree) (b : Bool) → Every IsFree (if b then Some (read o l t) else None)
      behind_free o l t true = tt
      behind_free o l t false = tt

      wanted_free : (o : List Outer) (l : Level) (k : TokenKind) → Every IsFree (step_wanted is_weight o l m k)
      wanted_free o l kinds.Weight = weight_free o l l.head (is_weight m)
      wanted_free o l k = begin_free o l m k

      closed_free : (o : List Outer) (t : Tree) → Every IsFree (closed o t m)
      closed_free [] t = tt
      closed_free (x ∷ o) t = tt

      bar_free : (o : List Outer) (l : Level) (t : Tree) → Every IsFree (with_bar o l t m)
      bar_free o l (label p bs) = tt
      bar_free o l t = tt

      after_free : (o : List Outer) (l : Level) (t : Tree) (k : TokenKind) → Every IsFree (step_after is_weight o l t m k)
      after_free o l t kinds.Star = tt
      after_free o l t kinds.Weight = behind_free o l (weight_behind t m) (is_weight m)
      after_free o l t kinds.And = tt
      after_free o l t kinds.Shuffle = tt
      after_free o l t kinds.Plus = tt
      after_free o l t kinds.Right = closed_free o (sum_with l t)
      after_free o l t kinds.Bar = bar_free o l t
      after_free o l t k = begin_free o (behind_factor l t) m k

      go : (o : List Outer) (l : Level) (p : Phase) → Every IsFree (step_in is_weight o l p m)
      go o l wanted = wanted_free o l m.kind
      go o l (after t) = after_free o l t m.kind
      go o l (barred p bs bar) = behind_free o l (label p (bs ++ record { bar = bar; part = m } ∷ [])) (is_part_kind m.kind)

-- the last outer level is taken
pub popped : (f g : Flat) (levels : List Counts) (l : Counts) → g ≡ sum_closed f → g.outer ≡ levels ++ l ∷ []
    → flat_closed_in (sum_closed f) (last_level f.outer) ≡ Some (record { steps = g.steps ++ group_op ∷ []; outer = levels; pending = g.pending; level = l; phase = Operand })
popped f g levels l e o =
    let x : f.outer ≡ levels ++ l ∷ [] = ap (λ y. y.outer) (sym e) ∙ o in
    ap (λ y. flat_closed_in (sum_closed f) (last_level y)) x ∙ ap (flat_closed_in (sum_closed f)) (last_is levels l)
    ∙ ap (λ (y : Flat). Some (record { steps = y.steps ++ group_op ∷ []; outer = levels; pending = y.pending; level = l; phase = Operand })) (sym e)
