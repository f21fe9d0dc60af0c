-- The machine goes on exactly where an expression can.
use Rattle.std.proofs.Common.{◌≡◌, ℕ, Bool, List, [], ◌∷◌, ◌++◌, Option, Some, None, refl, ap, sym, ◌∙◌, append-nil, inl, inr}
use Rattle.std.specs.Option.{option_and_then, option_map_or}
use Rattle.vc_lex.specs.Grammar.{IsTokenText}
use Rattle.vc_text.specs.Letters.{is_plain}
use Rattle.vc_lex.specs.declared.token.Mode.TheVariants.{Expression}
use Rattle.vc_lex.specs.declared.token.TokenKind.TheVariants.{Letter, Right}
use Rattle.vc_lex.specs.Marks.{Mark}
use Rattle.vc_exprio.specs.Trees.{Tree, label, group}
use Rattle.vc_exprio.specs.Machine.{Level, Outer, Phase, wanted, after, barred, State, start, sum_with, read, step, run, finish, tree_of, stuck_from, fault_place}
use Rattle.vc_exprio.specs.Fronts.{AreTokens, IsFront, IsFaultAt}
use Rattle.vc_exprio.proofs.Sound.{tree_sound}
use Rattle.vc_exprio.proofs.Complete.{run_append, tree_complete}

-- ---- each state can be brought to an end

abbrev a_letter : Mark
a_letter = record { kind = Letter; text = 97 ∷ []; at = 0 }

abbrev a_right : Mark
a_right = record { kind = Right; text = 41 ∷ []; at = 0 }

letter_is : IsTokenText Letter Expression (97 ∷ [])
unfolding is_plain
letter_is = (97, inl (refl, refl))

module _ (is_weight : Mark → Bool) where
  pub record Ends (s : State) : Type 0 where
    pub rest : List Mark
    pub are : AreTokens rest
    pub tree : Tree
    pub ends : option_and_then (finish is_weight) (run is_weight s rest) ≡ Some tree

  after_ends : (o : List Outer) (l : Level) (t : Tree) → Ends (read o l t)
  after_ends [] l t = record { rest = []; are = tt; tree = sum_with l t; ends = refl }
  after_ends (x ∷ o) l t =
      let h = after_ends o x.level (group x.opening (sum_with l t) a_right) in
      record { rest = a_right ∷ h.rest; are = (refl, h.are); tree = h.tree; ends = h.ends }

  pub state_ends : (s : State) → Ends s
  state_ends s = go s.outer s.level s.phase
    where
      go : (o : List Outer) (l : Level) (p : Phase) → Ends (record { outer = o; level = l; phase = p })
      go o l wanted =
          let h = after_ends o l (label a_letter []) in
          record { rest = a_letter ∷ h.rest; are = (letter_is, h.are); tree = h.tree; ends = h.ends }
      go o l (after t) = after_ends o l t
      go o l (barred p bs bar) =
          let h = after_ends o l (label p (bs ++ record { bar = bar; part = a_letter } ∷ [])) in
          record { rest = a_letter ∷ h.rest; are = (letter_is, h.are); tree = h.tree; ends = h.ends }

  -- ---- fronts

  pub front_of_run : (ms : List Mark) (s : State) → run is_weight start ms ≡ Some s → IsFront is_weight ms
  front_of_run ms s e =
      let h = state_ends s in
      record {
        rest = h.rest;
        are = h.are;
        tree = h.tree;
        spells = tree_sound is_weight (ms ++ h.rest) h.tree (ap (option_and_then (finish is_weight)) (run_append is_weight start s ms h.rest e) ∙ h.ends);
      }

  none_append : (s : State) (a b : List Mark) → run is_weight s a ≡ None → run is_weight s (a ++ b) ≡ None
  none_append s [] b e = absurd (cc)
  none_append s (m ∷ a) b e = go (step is_weight s m) (λ n f. none_append n a b f) e
    where
      go : (next : Option State) → ((n : State) → run is_weight n a ≡ None → run is_weight n (a ++ b) ≡ None)
          → option_and_then (λ n. run is_weight n a) next ≡ None → option_and_then (λ n. run is_weight n (a ++ b)) next ≡ None
      go None f g = refl
      go (Some n) f g = f n g

  pub no_front : (ms : List Mark) → run is_weight start ms ≡ None → IsFront is_weight ms → ⊥
  no_front ms e h =
      let none : tree_of is_weight (ms ++ h.rest) ≡ None = ap (option_and_then (finish is_weight)) (none_append start ms h.rest e) in
      let some : tree_of is_weight (ms ++ h.rest) ≡ Some h.tree = tree_complete is_weight (ms ++ h.rest) h.tree h.spells in
      absurd (cc)

  pub run_of_front : (ms : List Mark) → IsFront is_weight ms → (s : State) × (run is_weight start ms ≡ Some s)
  run_of_front ms h = go (run is_weight start ms) refl
    where
      go : (x : Option State) → run is_weight start ms ≡ x → (s : State) × (run is_weight start ms ≡ Some s)
      go None e = absurd (no_front ms e h)
      go (Some s) e = (s, e)

  -- ---- the first token that cannot stand

  record Stuck (s : State) (ms : List Mark) (m : Mark) : Type 0 where
    front : List Mark
    behind : List Mark
    last : State
    is : ms ≡ front ++ m ∷ behind
    before : run is_weight s front ≡ Some last
    bad : step is_weight last m ≡ None

  stuck_found : (s : State) (ms : List Mark) (m : Mark) → stuck_from is_weight s ms ≡ Some m → Stuck s ms m
  stuck_found s [] m e = absurd (cc)
  stuck_found s (n ∷ ms) m e = go (step is_weight s n) refl (λ x f. stuck_found x ms m f) e
    where
      go : (next : Option State) → step is_weight s n ≡ next → ((x : State) → stuck_from is_weight x ms ≡ Some m → Stuck x ms m)
          → option_map_or (λ x. stuck_from is_weight x ms) next (Some n) ≡ Some m → Stuck s (n ∷ ms) m
      go None e f g =
          let same : n ≡ m = cc in
          record { front = []; behind = ms; last = s; is = ap (λ x. x ∷ ms) same; before = refl; bad = ap (step is_weight s) (sym same) ∙ e }
      go (Some x) e f g =
          let h = f x g in
          record { front = n ∷ h.front; behind = h.behind; last = h.last; is = ap (λ y. n ∷ y) h.is; before = ap (option_and_then (λ y. run is_weight y h.front)) e ∙ h.before; bad = h.bad }

  goes_on : (s : State) (ms : List Mark) → stuck_from is_weight s ms ≡ None → (n : State) × (run is_weight s ms ≡ Some n)
  goes_on s [] e = (s, refl)
  goes_on s (m ∷ ms) e = go (step is_weight s m) (λ x f. goes_on x ms f) e
    where
      go : (next : Option State) → ((x : State) → stuck_from is_weight x ms ≡ None → (n : State) × (run is_weight x ms ≡ Some n))
          → option_map_or (λ x. stuck_from is_weight x ms) next (Some m) ≡ None → (n : State) × (option_and_then (λ x. run is_weight x ms) next ≡ Some n)
      go None f g = absurd (cc)
      go (Some x) f g = f x g

  -- where a run goes on, the machine is not stuck, and behind it is stuck where the rest is
  stuck_behind : (s n : State) (a b : List Mark) → run is_weight s a ≡ Some n → stuck_from is_weight s (a ++ b) ≡ stuck_from is_weight n b
  stuck_behind s n [] b e = let same : s ≡ n = cc in ap (λ x. stuck_from is_weight x b) same
  stuck_behind s n (m ∷ a) b e = go (step is_weight s m) (λ x f. stuck_behind x n a b f) e
    where
      go : (next : Option State) → ((x : State) → run is_weight x a ≡ Some n → stuck_from is_weight x (a ++ b) ≡ stuck_from is_weight n b)
          → option_and_then (λ x. run is_weight x a) next ≡ Some n → option_map_or (λ x. stuck_from is_weight x (a ++ b)) next (Some m) ≡ stuck_from is_weight n b
      go None f g = absurd (cc)
      go (Some x) f g = f x g

  run_last : (n : State) (front : List Mark) (m : Mark) → run is_weight start front ≡ Some n → run is_weight start (front ++ m ∷ []) ≡ option_and_then (λ x. Some x) (step is_weight n m)
  run_last n front m e = run_append is_weight start n front (m ∷ []) e

  -- ---- the place of the fault

  pub fault_found : (end : ℕ) (ms : List Mark) → IsFaultAt is_weight end ms (fault_place is_weight end ms)
  fault_found end ms = go (stuck_from is_weight start ms) refl
    where
      go : (x : Option Mark) → stuck_from is_weight start ms ≡ x → IsFaultAt is_weight end ms (option_map_or (λ m. m.at) x end)
      go None e = let (n, f) = goes_on start ms e in inr (front_of_run ms n f, refl)
      go (Some m) e =
          let h = stuck_found start ms m e in
          inl (
            m,
            record {
              front = h.front;
              behind = h.behind;
              is = h.is;
              before = front_of_run h.front h.last h.before;
              bad = no_front (h.front ++ m ∷ []) (run_last h.last h.front m h.before ∙ ap (option_and_then (λ x. Some x)) h.bad);
            },
            refl,
          )

  pub fault_only : (end : ℕ) (ms : List Mark) (at : ℕ) → IsFaultAt is_weight end ms at → at ≡ fault_place is_weight end ms
  fault_only end ms at (inl (m, h, e)) = go (run_of_front h.front h.before)
    where
      go : (s : State) × (run is_weight start h.front ≡ Some s) → at ≡ fault_place is_weight end ms
      go (s, r) =
          let stuck : step is_weight s m ≡ None = last (step is_weight s m) (run_last s h.front m r) in
          let here : stuck_from is_weight start ms ≡ Some m =
          ap (stuck_from is_weight start) h.is ∙ stuck_behind start s h.front (m ∷ h.behind) r ∙ ap (λ x. option_map_or (λ n. stuck_from is_weight n h.behind) x (Some m)) stuck in
          e ∙ ap (λ x. option_map_or (λ n. n.at) x end) (sym here)
        where
          last : (x : Option State) → run is_weight start (h.front ++ m ∷ []) ≡ option_and_then (λ n. Some n) x → x ≡ None
          last None f = refl
          last (Some n) f = absurd (h.bad (front_of_run (h.front ++ m ∷ []) n f))
  fault_only end ms at (inr (h, e)) = go (run_of_front ms h)
    where
      go : (s : State) × (run is_weight start ms ≡ Some s) → at ≡ fault_place is_weight end ms
      go (s, r) =
          let none : stuck_from is_weight start ms ≡ None = ap (stuck_from is_weight start) (sym (append-nil ms)) ∙ stuck_behind start s ms [] r in
          e ∙ ap (λ x. option_map_or (λ n. n.at) x end) (sym none)
