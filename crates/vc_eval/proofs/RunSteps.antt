-- Row steps run by run are those by source.
use Rattle.std.proofs.Common.{◌≡◌, ℕ, ◌<◌, ◌≤◌, ◌+◌, ◌*◌, IfSome, List, [], ◌∷◌, ◌++◌, All, Ok, Err, Bool, true, false, Option, None, Some, cond, set, get_or, drop, length, map, refl, sym, ap, ◌∙◌, inl, inr, subst, arith}
use Rattle.std.proofs.lemmas.Bool.{cases_lt}
use Rattle.std.proofs.lemmas.List.{get_or-set_same, get_or-set_other}
use Rattle.std.proofs.lemmas.List.Elements.{All-head, All-tail}
use Rattle.vc_model.specs.WeightSet.{WeightSet, SemiringLaws, RangeLaws}
use Rattle.vc_model.specs.Automata.{Transition, Automaton}
use Rattle.vc_model.specs.Lists.{In}
use Rattle.vc_model.specs.Members.{In-flat_map, In-flat_map_from}
use Rattle.vc_model.specs.OutcomeLaws.{outcome-append_ok, outcome-append_err}
use Rattle.vc_model.specs.Words.{Word}
use Rattle.vc_ring.specs.Steps.{outcome, fits}
use Rattle.vc_ring.specs.declared.faults.Overflow.{Overflow}
use Rattle.vc_eval.specs.Forward.{by_source}
use Rattle.vc_eval.specs.LetterMoves.{IsMoveInto}
use Rattle.vc_eval.specs.Moves.{entry, ends, earlier, source, moved, move_steps, moved_once, AreMovesHere}
use Rattle.vc_eval.specs.Positions.{place_of}
use Rattle.vc_eval.specs.Runs.{LabelRun, run_moves, IsLabelRun, AreRunsOver, cell_in, at_cell, run_cell, runs_moved, run_steps, origin, IsLabelHere, IsZeroRow}
use Rattle.vc_eval.proofs.LetterSources.{same_while, IsIdle}
use Rattle.vc_eval.proofs.Pushes.{next_item}
use Rattle.vc_eval.proofs.Sources.{All_of, In_all, by_source-In, moved-append, move_steps-append}
use Rattle.vc_eval.proofs.Targets.{moved_once-length}

moves-length : {V : Type 0} (R : WeightSet V) (h : List V → Transition V → Option V) (at : ℕ) (us : List (Transition V)) (rows : List V) → length (moved R h at us rows) ≡ length rows
moves-length R h at [] rows = refl
moves-length R h at (u ∷ us) rows = moves-length R h at us (moved_once R at (h rows u) u rows) ∙ moved_once-length R (λ t. h rows t) at (h rows u) u rows

module _ {V : Type 0} (R : WeightSet V) (w : Word) (n : ℕ) (f : Word) (at cells : ℕ) (words : List Word) (origins : List (Option ℕ))
    (found : (k : ℕ) → k < length words → get_or origins k None ≡ origin w n f at cells (get_or words k [])) where
  -- a transition of a run multiplies what is at the cell of the run
  pub run_source : (r : LabelRun V) → IsLabelRun words r → (u : Transition V) → In u r.transitions → (rows : List V) → length rows ≡ cells → at_cell R (run_cell origins r) rows u ≡ source R w n f at rows u
  run_source r k u i rows l =
      let label : u.label ≡ get_or words r.number [] = In_all (λ u. u.label ≡ get_or words r.number []) r.transitions k.label u i in
      let from : u.from ≡ r.from = In_all (λ u. u.from ≡ r.from) r.transitions k.from u i in
      ap (λ o. at_cell R (cell_in o r.from) rows u) (found r.number k.number ∙ ap (origin w n f at cells) (sym label))
      ∙ ap (λ s. at_cell R (cell_in (origin w n f at cells u.label) s) rows u) (sym from)
      ∙ ap (λ c. at_cell R (cell_in (origin w n f at c u.label) u.from) rows u) (sym l)
      ∙ go u rows (ends u.label f) (earlier at (place_of w u.label * n) (length rows))
    where
      go : (u : Transition V) (rows : List V) (b : Bool) (base : ℕ) → at_cell R (cell_in (cond b (Some base) None) u.from) rows u ≡ cond b (Some (entry R rows (base + u.from))) None
      go u rows true base = refl
      go u rows false base = refl

  run_same : (r : LabelRun V) → IsLabelRun words r → (rows : List V) → length rows ≡ cells
      → (moved R (at_cell R (run_cell origins r)) at r.transitions rows ≡ moved R (source R w n f at) at r.transitions rows)
      × (move_steps R (at_cell R (run_cell origins r)) at r.transitions rows ≡ move_steps R (source R w n f at) at r.transitions rows)
  run_same r k rows l = same_while R at (λ z. length z ≡ cells) (at_cell R (run_cell origins r)) (source R w n f at) r.transitions rows l
      (λ u i z m. run_source r k u i z m)
      (λ u i z m. moved_once-length R (λ t. source R w n f at z t) at (source R w n f at z u) u z ∙ m)

  pub runs_are : (rs : List (LabelRun V)) → All (IsLabelRun words) rs → (rows : List V) → length rows ≡ cells
      → (runs_moved R origins at rs rows ≡ moved R (source R w n f at) at (run_moves rs) rows)
      × (run_steps R origins at rs rows ≡ move_steps R (source R w n f at) at (run_moves rs) rows)
  runs_are [] a rows l = (refl, refl)
  runs_are (r ∷ rs) a rows l =
      let h = source R w n f at in
      let k = at_cell R (run_cell origins r) in
      let us = r.transitions in
      let s = run_same r (All-head (IsLabelRun words) r rs a) rows l in
      let next = moved R k at us rows in
      let t = runs_are rs (All-tail (IsLabelRun words) r rs a) next (moves-length R k at us rows ∙ l) in (
        t.0 ∙ ap (moved R h at (run_moves rs)) s.0 ∙ sym (moved-append R h at us (run_moves rs) rows),
        ap (λ ss. ss ++ run_steps R origins at rs next) s.1
            ∙ ap (λ ss. move_steps R h at us rows ++ ss) (t.1 ∙ ap (move_steps R h at (run_moves rs)) s.0)
            ∙ sym (move_steps-append R h at us (run_moves rs) rows),
      )

-- a cell of a row that is zero brings nothing
idle_cell : {V : Type 0} {R : WeightSet V} (L : SemiringLaws R) (K : RangeLaws R) (n : ℕ) (rows : List V) (o : Option ℕ) (s : ℕ) (u : Transition V) → IsZeroRow R n rows o → s < n → IsIdle L K (at_cell R (cell_in o s) rows u)
idle_cell L K n rows None s u z l = inl refl
idle_cell L K n rows (Some b) s u z l = inr (ap Some (z b s refl l))

some_cell : (w : Word) (n : ℕ) (f : Word) (at cells s : ℕ) (l : Word) (b : Bool) → ends l f ≡ b → IsLabelHere w n f at cells l → s < n → IfSome (cell_in (cond b (Some (earlier at (place_of w l * n) cells)) None) s) (λ c. c < cells)
some_cell w n f at cells s l true e h m = let r = h.row e in omega (arith, r, m)
some_cell w n f at cells s l false e h m = tt

module _ {V : Type 0} {R : WeightSet V} (L : SemiringLaws R) (K : RangeLaws R) (w : Word) (A : Automaton V) (f : Word) (at cells : ℕ) (words : List Word) (rs : List (LabelRun V))
    (over : AreRunsOver A words rs) (all : run_moves rs ≡ by_source A) (here : AreMovesHere R w A f at cells) where
  pub labels_here : All (IsLabelHere w A.states f at cells) words
  labels_here = λ k d l.
      let o = over.labels k d l in
      let m = here o.0 o.1 in
      subst (IsLabelHere w A.states f at cells) o.2 (record { tapes = m.tapes; place = m.place; back = m.back; row = m.row })

  pub runs_into : All (λ r. All (IsMoveInto R at cells) r.transitions) rs
  runs_into = All_of (λ (r : LabelRun V). All (IsMoveInto R at cells) r.transitions) rs (λ r i. All_of (IsMoveInto R at cells) r.transitions (λ u j. into u (In-flat_map (λ (r : LabelRun V). r.transitions) u r rs i j)))
    where
      into : (u : Transition V) → In u (run_moves rs) → IsMoveInto R at cells u
      into u i = let m = here u (by_source-In A u (subst (In u) all i)).0 in record { to = m.to; weight = m.weight }

  module _ (origins : List (Option ℕ)) (found : (k : ℕ) → k < length words → get_or origins k None ≡ origin w A.states f at cells (get_or words k [])) where
    pub run_cells : All (λ r. IfSome (run_cell origins r) (λ c. c < cells)) rs
    run_cells = All_of (λ (r : LabelRun V). IfSome (run_cell origins r) (λ c. c < cells)) rs (λ r i.
        let k = In_all (IsLabelRun words) rs over.runs r i in
        let s = In_all (λ (r : LabelRun V). r.from < A.states) rs over.states r i in
        let l = get_or words r.number [] in
        subst (λ o. IfSome (cell_in o r.from) (λ c. c < cells)) (sym (found r.number k.number))
        (some_cell w A.states f at cells r.from l (ends l f) refl (labels_here r.number [] k.number) s))

    -- where the rows of all labels are zero, no transition brings anything
    pub idle_runs : (rows : List V) → length rows ≡ cells → ((k : ℕ) → k < length words → IsZeroRow R A.states rows (get_or origins k None))
        → (u : Transition V) → In u (by_source A) → IsIdle L K (source R w A.states f at rows u)
    idle_runs rows l z u i =
        let p = In-flat_map_from (λ (r : LabelRun V). r.transitions) u rs (subst (In u) (sym all) i) in
        let r = p.0 in
        let k = In_all (IsLabelRun words) rs over.runs r p.1 in
        let s = In_all (λ (r : LabelRun V). r.from < A.states) rs over.states r p.1 in
        subst (IsIdle L K) (run_source R w A.states f at cells words origins found r k u p.2 rows l)
        (idle_cell L K A.states rows (get_or origins r.number None) r.from u (z r.number k.number) s)

-- one run more
module _ {V T : Type 0} (R : WeightSet V) (origins : List (Option ℕ)) (at : ℕ) (g : T → LabelRun V) (ts : List T) (i : ℕ) (t : T) (rows : List V) where
  abbrev h : List V → Transition V → Option V
  h = at_cell R (run_cell origins (g t))

  pub run_ok : i < length ts → t ≡ get_or ts i t → outcome R (move_steps R (at_cell R (run_cell origins (g t))) at (g t).transitions rows) (tt {0}) ≡ Ok (tt {0})
      → outcome R (run_steps R origins at (drop i (map g ts)) rows) (tt {0}) ≡ outcome R (run_steps R origins at (drop (i + 1) (map g ts)) (moved R (at_cell R (run_cell origins (g t))) at (g t).transitions rows)) (tt {0})
  run_ok l e o =
      ap (λ rs. outcome R (run_steps R origins at rs rows) (tt {0})) (next_item g ts i t l e)
      ∙ outcome-append_ok (fits R) (move_steps R h at (g t).transitions rows) (run_steps R origins at (drop (i + 1) (map g ts)) (moved R h at (g t).transitions rows)) (tt {0}) (tt {0}) o

  pub run_rows : i < length ts → t ≡ get_or ts i t → runs_moved R origins at (drop i (map g ts)) rows ≡ runs_moved R origins at (drop (i + 1) (map g ts)) (moved R (at_cell R (run_cell origins (g t))) at (g t).transitions rows)
  run_rows l e = ap (λ rs. runs_moved R origins at rs rows) (next_item g ts i t l e)

  pub run_err : (o : Overflow V) → i < length ts → t ≡ get_or ts i t → outcome R (move_steps R (at_cell R (run_cell origins (g t))) at (g t).transitions rows) (tt {0}) ≡ Err o
      → outcome R (run_steps R origins at (drop i (map g ts)) rows) (tt {0}) ≡ Err o
  run_err o l e r =
      ap (λ rs. outcome R (run_steps R origins at rs rows) (tt {0})) (next_item g ts i t l e)
      ∙ outcome-append_err (fits R) (move_steps R h at (g t).transitions rows) (run_steps R origins at (drop (i + 1) (map g ts)) (moved R h at (g t).transitions rows)) (tt {0}) (tt {0}) o r

-- what is true of the first entries and of one that is written behind them
pub one_origin_more : (P : ℕ → Option ℕ → Type 0) (origins : List (Option ℕ)) (i : ℕ) (o : Option ℕ) → i < length origins → ((k : ℕ) → k < i → P k (get_or origins k None)) → P i o → (k : ℕ) → k < i + 1 → P k (get_or (set origins i o) k None)
one_origin_more P origins i o l h p k m = elim (cases_lt k i) [
  | inl a ↦ subst (P k) (sym (get_or-set_other origins i k o None (λ e. omega (arith, a, e)))) (h k a)
  | inr a ↦
      let e : i ≡ k = omega (arith, a, m) in
      subst (λ j. P j (get_or (set origins i o) j None)) e (subst (P i) (sym (get_or-set_same origins i o None l)) p)
]

-- the row of a label is there
pub some_row : (w : Word) (n : ℕ) (f : Word) (at cells : ℕ) (l : Word) → IsLabelHere w n f at cells l → IfSome (origin w n f at cells l) (λ b. b + n ≤ cells)
some_row w n f at cells l h = go (ends l f) refl
  where
    go : (b : Bool) → ends l f ≡ b → IfSome (cond b (Some (earlier at (place_of w l * n) cells)) None) (λ b. b + n ≤ cells)
    go true e = h.row e
    go false e = tt

-- without a row nothing is brought
module _ {V : Type 0} (R : WeightSet V) (at : ℕ) where
  none_moved : (us : List (Transition V)) (rows : List V) → moved R (at_cell R None) at us rows ≡ rows
  none_moved [] rows = refl
  none_moved (u ∷ us) rows = none_moved us rows

  none_steps : (us : List (Transition V)) (rows : List V) → move_steps R (at_cell R None) at us rows ≡ []
  none_steps [] rows = refl
  none_steps (u ∷ us) rows = none_steps us rows

  pub no_row_moved : (origins : List (Option ℕ)) (r : LabelRun V) (us : List (Transition V)) (rows : List V) → get_or origins r.number None ≡ None → moved R (at_cell R (run_cell origins r)) at us rows ≡ rows
  no_row_moved origins r us rows e = ap (λ o. moved R (at_cell R (cell_in o r.from)) at us rows) e ∙ none_moved us rows

  pub no_row_steps : (origins : List (Option ℕ)) (r : LabelRun V) (us : List (Transition V)) (rows : List V) → get_or origins r.number None ≡ None → outcome R (move_steps R (at_cell R (run_cell origins r)) at us rows) (tt {0}) ≡ Ok (tt {0})
  no_row_steps origins r us rows e = ap (λ o. outcome R (move_steps R (at_cell R (cell_in o r.from)) at us rows) (tt {0})) e ∙ ap (λ ss. outcome R ss (tt {0})) (none_steps us rows)
