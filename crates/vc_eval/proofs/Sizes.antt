-- The room of rows.
use Rattle.std.proofs.Common.{◌≡◌, ◌≢◌, ℕ, ◌<◌, ◌≤◌, ◌+◌, ◌*◌, ◌/◌, [], ◌∷◌, None, ap₂, length, get_or, map, drop, refl, sym, ap, ◌∙◌, subst, arith}
use Rattle.std.specs.List.{flat_map}
use Rattle.std.proofs.lemmas.Grind.{common_steps}
use Rattle.std.proofs.lemmas.Nat.{div-mul-add, mul-le}
use Rattle.std.proofs.Math.Nat.{mul_comm}
use Rattle.vc_aut.specs.Labelled.{Labelled}
use Rattle.vc_model.specs.WeightSet.{WeightSet}
use Rattle.vc_model.specs.Automata.{Automaton, Transition, IsProper, coefficient, initial_weight, future, final_weight, row}
use Rattle.vc_model.specs.Letters.{HasLetters}
use Rattle.vc_model.specs.Lists.{In, below}
use Rattle.vc_model.specs.Sums.{sum_over}
use Rattle.vc_model.specs.Words.{Word, size}
use Rattle.vc_model.specs.OutcomeLaws.{AllFit-append}
use Rattle.vc_ring.specs.Steps.{AllFit, fits}
use Rattle.vc_eval.specs.Cells.{cells, longest, refusal_of, tuple_refusal}
use Rattle.vc_eval.specs.Forward.{row_steps, row_factors, end_steps, products_steps, prefixes, forward_steps}
use Rattle.vc_eval.specs.Positions.{positions, place_of, place_onto, positions_onto}
use Rattle.vc_eval.specs.Ready.{HasRoom}
use Rattle.vc_eval.proofs.RowSteps.{AllFit-flat_map}
use Rattle.vc_eval.proofs.Places.{positions_step, positions_least, positions_onto-is}
use Rattle.vc_eval.proofs.Sources.{longest-In, longest-least, no_items}

pub refusal_small : {V : Type 0} (n : ℕ) → n ≤ 20000000 → refusal_of {V = V} n ≡ None
refusal_small n h = grind (arith, common_steps)

-- rows are room enough where each label that leads back to a position leads back less
pub tuple_room : {V : Type 0} (A : Automaton V) (w : Word) (n count : ℕ) → 1 ≤ count → n ≡ count * A.states
    → ((u : Transition V) → In u A.transitions → place_of w u.label < positions w → place_of w u.label < count) → HasRoom A w n
tuple_room A w n count s e h = record { count = count; some = s; whole = e; window = λ u i p l b. h u i (omega (arith, l, b)) }

-- so many rows have no more entries than one for each position
pub rows_within : (states cells positions wanted : ℕ) → 1 ≤ states → cells ≡ states * positions → wanted ≤ positions → wanted * states ≤ cells
rows_within states cells positions wanted s e l =
    let m = mul-le wanted states positions states l (omega arith) in
    let c = mul_comm states positions in
    omega (arith, m, c, e)

-- the entries of rows for all positions, divided among them
pub position_count : (states cells positions : ℕ) → 1 ≤ states → cells ≡ states * positions → cells / states ≡ positions
position_count states cells positions s e =
    let c = mul_comm states positions in
    let d : cells ≡ positions * states + 0 = omega (arith, c, e) in
    ap (λ (n : ℕ). n / states) d ∙ div-mul-add positions states 0 s

-- the positions are no more than the entries
pub positions_within : (states cells positions : ℕ) → 1 ≤ states → cells ≡ states * positions → positions ≤ cells
positions_within states cells positions s e =
    let m = mul-le 1 positions states positions s (omega arith) in
    omega (arith, m, e)

-- behind the last tape the number is that of all tapes
pub last_place : (w u : Word) (i n : ℕ) → length w ≤ i → place_onto n (drop i w) (drop i u) ≡ place_of w u → n ≡ place_of w u
last_place w u i n l e = sym (ap (λ v. place_onto n v (drop i u)) (no_items w i l)) ∙ e

single_place : (w u : Word) → length w ≡ 1 → place_of w u ≤ size u
single_place [] u e = absurd (omega arith)
single_place (a ∷ []) [] e = omega arith
single_place (a ∷ []) (b ∷ u) e = omega arith
single_place (a ∷ b ∷ w) u e = absurd (omega arith)

-- and so is one row more than the longest label has letters, on one tape
pub ring_room : {V : Type 0} (A : Automaton V) (w : Word) (n : ℕ) → length w ≡ 1 → n ≡ cells A → HasRoom A w n
ring_room A w n e d = record {
  count = longest 1 A.transitions + 1;
  some = omega arith;
  whole = d;
  window = λ u i p l b. let h = longest-In 1 A.transitions u i in let k = single_place w u.label e in omega (arith, h, k);
}

-- without states nothing is added
pub no_row : {V : Type 0} (R : WeightSet V) (A : Automaton V) (w : Word) → A.states ≡ 0 → (tuple_refusal {V = V} A w ≡ None) × (R.zero ≡ coefficient R A w) × AllFit R (forward_steps R A w)
no_row {V} R A w e = (
  refusal_small (A.states * positions w) (let k = ap (λ n. n * positions w) e in omega (arith, k)),
  sym (ap (λ n. sum_over R (λ p. R.times (initial_weight R A p) (future R A p w)) (below n)) e),
  AllFit-append (fits R) (flat_map (row_steps R A) (prefixes w)) (end_steps R A w)
      (AllFit-flat_map (fits R) (row_steps R A) (prefixes w) (λ u i. subst (λ n. AllFit R (flat_map (λ t. products_steps R R.zero (row_factors R A u t)) (below n))) (sym e) tt))
      (subst (λ n. AllFit R (products_steps R R.zero (map (λ (t : ℕ). (row R A w t, final_weight R A t)) (below n)))) (sym e) tt),
)

-- the count of positions, tape by tape
pub counted : (w : Word) (i cells states len : ℕ) → i < length w → len ≡ length (get_or w i []) → positions_onto cells (drop i w) ≡ positions_onto states w → positions_onto (cells * (len + 1)) (drop (i + 1) w) ≡ positions_onto states w
counted w i cells states len l e h = ap (λ n. positions_onto (cells * (n + 1)) (drop (i + 1) w)) e ∙ sym (positions_step w i cells l) ∙ h

pub past : (w : Word) (i cells states len : ℕ) → i < length w → len ≡ length (get_or w i []) → positions_onto cells (drop i w) ≡ positions_onto states w → 20000000 < cells * (len + 1) → 20000000 < states * positions w
past w i cells states len l e h m =
    let c = counted w i cells states len l e h in
    let k = positions_least (cells * (len + 1)) (drop (i + 1) w) in
    let q = positions_onto-is states w in
    omega (arith, c, k, q, m)

pub more_some : (cells len : ℕ) → 1 ≤ cells → 1 ≤ cells * (len + 1)
more_some cells len h = let m = mul-le 1 1 cells (len + 1) h (omega arith) in omega (arith, m)

pub ended : (w : Word) (i cells states : ℕ) → length w ≤ i → positions_onto cells (drop i w) ≡ positions_onto states w → cells ≡ states * positions w
ended w i cells states l h = sym (ap (positions_onto cells) (no_items w i l)) ∙ h ∙ positions_onto-is states w

-- the cells of an automaton by another name
pub cells_by : {V : Type 0} (A B : Labelled V) (n m k : ℕ) → A ≡ B → m ≡ longest 1 A.automaton.transitions → k ≡ A.automaton.states → n ≡ (m + 1) * k → n ≡ cells B.automaton
cells_by {V} A B n m k e f d h = h ∙ ap₂ (λ (x y : ℕ). (x + 1) * y) f d ∙ ap (λ (X : Labelled V). cells X.automaton) e

-- a word of one letter on one tape
one_letter : (w : Word) → length w ≡ 1 → size w ≤ 1 → size w ≢ 0 → w ≡ (get_or (get_or w 0 []) 0 0 ∷ []) ∷ []
one_letter [] e l n = absurd (omega arith)
one_letter (a ∷ b ∷ w) e l n = absurd (omega arith)
one_letter ([] ∷ []) e l n = absurd (n refl)
one_letter ((x ∷ []) ∷ []) e l n = refl
one_letter ((x ∷ y ∷ a) ∷ []) e l n = absurd (omega arith)

-- where the longest label has one letter, all labels are single letters
pub single_letters : {V : Type 0} (A : Automaton V) → ((u : Transition V) → In u A.transitions → length u.label ≡ 1) → IsProper A → longest 1 A.transitions ≡ 1 → HasLetters A
single_letters A tape proper e u i = let h = longest-In 1 A.transitions u i in one_letter u.label (tape u i) (omega (arith, h, e)) (proper u i)

-- and a single letter leaves room for two rows
pub two_rows : {V : Type 0} (A : Automaton V) (n : ℕ) → n ≡ cells A → 2 * A.states ≤ n
two_rows A n e =
    let h = longest-least 1 A.transitions in
    let m = mul-le 2 A.states (longest 1 A.transitions + 1) A.states (omega (arith, h)) (omega arith) in
    omega (arith, m, e)
