-- Marks of blocks: what they say of cells, and how they change.
use Rattle.std.proofs.Common.{◌≡◌, ◌≢◌, ℕ, ◌<◌, ◌≤◌, ◌+◌, ◌-◌, ◌*◌, ◌/◌, ◌%◌, List, [], ◌∷◌, Bool, true, false, Some, set, get_or, length, map, refl, sym, ap, ap₂, ◌∙◌, inl, inr, subst, zero, suc, arith}
use Rattle.std.proofs.lemmas.Bool.{cases_lt, false≢true}
use Rattle.std.proofs.lemmas.List.{set-get_or, get_or-set_other, get_or-map, get_or_default, length-map}
use Rattle.std.proofs.Math.Nat.{div-mul-le_self}
use Rattle.std.proofs.lemmas.Nat.{div-add-mod', div-mul-add, mod_below}
use Rattle.vc_model.specs.Automata.{Transition}
use Rattle.vc_model.specs.WeightSet.{WeightSet}
use Rattle.vc_eval.specs.LetterMoves.{carried}
use Rattle.vc_eval.specs.Marks.{mark, AreMarked, AreKept, AreTargetsMarked}
use Rattle.vc_eval.specs.Moves.{entry, cleared, moved}
use Rattle.vc_eval.proofs.Cells.{cleared-other, cleared-zero}
use Rattle.vc_eval.proofs.Sources.{In_all}
use Rattle.vc_eval.proofs.Targets.{moved-other}

-- the block of a cell by its place in it
pub block_is : (b j k : ℕ) → j < 64 → k ≡ b * 64 + j → k / 64 ≡ b
block_is b j k l e = ap (λ n. n / 64) e ∙ div-mul-add b 64 j l

-- a mark for each 64 cells and one more are enough
pub marks_enough : (cells rows marks : ℕ) → rows ≡ cells → marks ≡ cells / 64 + 1 → rows ≤ 64 * marks
marks_enough cells rows marks r e = let d = div-add-mod' cells 64 in let m = mod_below cells 64 (omega arith) in omega (arith, d, m, r, e)

-- a cell has a mark
pub mark_there : (k cells marks : ℕ) → k < cells → cells ≤ 64 * marks → k / 64 < marks
mark_there k cells marks l e = let d = div-mul-le_self k 64 in omega (arith, d, l, e)

-- a mark that was read
pub mark_read : (marks : List Bool) (b : ℕ) → b < length marks → get_or marks b false ≡ false → mark marks b ≡ false
mark_read marks b l e = get_or_default marks b true false l ∙ e

-- a mark that was set
pub mark_set : (marks : List Bool) (b : ℕ) → mark (set marks b true) b ≡ true
mark_set [] b = refl
mark_set (m ∷ marks) zero = refl
mark_set (m ∷ marks) (suc b) = mark_set marks b

pub kept_set : (marks : List Bool) (c : ℕ) → AreKept marks (set marks c true)
kept_set [] c b e = e
kept_set (m ∷ marks) zero zero e = absurd (false≢true (sym e))
kept_set (m ∷ marks) zero (suc b) e = e
kept_set (m ∷ marks) (suc c) zero e = e
kept_set (m ∷ marks) (suc c) (suc b) e = kept_set marks c b e

-- what is marked stays so
pub kept_true : (old new : List Bool) (b : ℕ) → AreKept old new → mark old b ≡ true → mark new b ≡ true
kept_true old new b k e = go (mark new b) refl
  where
    go : (c : Bool) → mark new b ≡ c → c ≡ true
    go true q = refl
    go false q = absurd (false≢true (sym (k b q) ∙ e))

-- the cells of a part of a block that is not marked are zero
pub part_zero : {V : Type 0} (R : WeightSet V) (rows : List V) (marks : List Bool) (c n : ℕ) → AreMarked R rows marks → c + n ≤ c / 64 * 64 + 64 → mark marks (c / 64) ≡ false → (t : ℕ) → t < n → entry R rows (c + t) ≡ R.zero
part_zero R rows marks c n h r e t l =
    let d = div-mul-le_self c 64 in
    subst (λ k. entry R rows k ≡ R.zero) (omega (arith, d)) (h (c / 64) (c + t - c / 64 * 64) (omega (arith, d, r, l)) e)

module _ {T V : Type 0} (f : T → Transition V) (at : ℕ) (ts : List T) where
  -- the blocks of the targets of so many transitions are marked
  abbrev pub AreFirstMarked : ℕ → List Bool → Type 0
  AreFirstMarked i marks = (k : ℕ) (d : Transition V) → k < i → mark marks ((at + (get_or (map f ts) k d).to) / 64) ≡ true

  pub one_more : (i : ℕ) (t : T) (old new : List Bool) → i < length ts → t ≡ get_or ts i t → AreFirstMarked i old → AreKept old new → mark new ((at + (f t).to) / 64) ≡ true → AreFirstMarked (i + 1) new
  one_more i t old new l e h k m n d q = elim (cases_lt n i) [
    | inl a ↦ kept_true old new ((at + (get_or (map f ts) n d).to) / 64) k (h n d a)
    | inr a ↦
        let same : i ≡ n = omega (arith, a, q) in
        subst (λ j. mark new ((at + (get_or (map f ts) j d).to) / 64) ≡ true) same
        (subst (λ u. mark new ((at + u.to) / 64) ≡ true) (sym (get_or-map f ts i t d l ∙ ap f (sym e))) m)
  ]

  pub all_of_them : (i : ℕ) (marks : List Bool) → length ts ≤ i → AreFirstMarked i marks → AreTargetsMarked at (map f ts) marks
  all_of_them i marks l h u j = In_all (λ u. mark marks ((at + u.to) / 64) ≡ true) (map f ts) (λ k d m. h k d (let n = length-map ts f in omega (arith, l, m, n))) u j

module _ {V : Type 0} (R : WeightSet V) where
  -- where all blocks are marked, nothing is said
  pub all_marked : (rows : List V) (marks : List Bool) → ((b : ℕ) → mark marks b ≡ true) → AreMarked R rows marks
  all_marked rows marks h b j l e = absurd (false≢true (sym e ∙ h b))

  -- a cell whose block is not marked
  pub unmarked : (rows : List V) (marks : List Bool) (k : ℕ) → AreMarked R rows marks → mark marks (k / 64) ≡ false → entry R rows k ≡ R.zero
  unmarked rows marks k h e = ap (entry R rows) (sym (div-add-mod' k 64)) ∙ h (k / 64) (k % 64) (mod_below k 64 (omega arith)) e

  -- cells that are zero are so when they are cleared
  pub cleared_same : (at n : ℕ) (rows : List V) → ((t : ℕ) → t < n → entry R rows (at + t) ≡ R.zero) → cleared R at n rows ≡ rows
  cleared_same at zero rows h = refl
  cleared_same at (suc n) rows h =
      ap (λ r. set r (at + n) R.zero) (cleared_same at n rows (λ t l. h t (omega arith)))
      ∙ ap (set rows (at + n)) (sym (h n (omega arith)))
      ∙ set-get_or rows (at + n) R.zero

  -- two parts one behind the other are cleared in turn
  pub cleared_more : (at m n : ℕ) (rows : List V) → cleared R (at + m) n (cleared R at m rows) ≡ cleared R at (m + n) rows
  cleared_more at m zero rows =
      let none : m ≡ m + 0 = omega arith in
      ap (λ (k : ℕ). cleared R at k rows) none
  cleared_more at m (suc n) rows =
      let cell : at + m + n ≡ at + (m + n) = omega arith in
      let next : suc (m + n) ≡ m + suc n = omega arith in
      ap₂ (λ (r : List V) (k : ℕ). set r k R.zero) (cleared_more at m n rows) cell
      ∙ ap (λ (k : ℕ). cleared R at k rows) next

  -- clearing cells keeps what is zero
  cleared_zero : (at n : ℕ) (rows : List V) (k : ℕ) → at + n ≤ length rows → entry R rows k ≡ R.zero → entry R (cleared R at n rows) k ≡ R.zero
  cleared_zero at n rows k r z = elim (cases_lt k at) [
    | inl l ↦ cleared-other R at n rows k (λ t m e. omega (arith, l, e)) ∙ z
    | inr l ↦ elim (cases_lt k (at + n)) [
      | inl m ↦ subst (λ i. entry R (cleared R at n rows) i ≡ R.zero) (omega (arith, l)) (cleared-zero R at n rows (k - at) r (omega (arith, l, m)))
      | inr m ↦ cleared-other R at n rows k (λ t p e. omega (arith, m, p, e)) ∙ z
    ]
  ]

  pub cleared_marked : (at n : ℕ) (rows : List V) (marks : List Bool) → at + n ≤ length rows → AreMarked R rows marks → AreMarked R (cleared R at n rows) marks
  cleared_marked at n rows marks r h b j l e = cleared_zero at n rows (b * 64 + j) r (h b j l e)

  -- and a block that is cleared whole needs no mark
  pub cleared_block : (c : ℕ) (rows : List V) (marks : List Bool) → c * 64 + 64 ≤ length rows → AreMarked R rows marks → AreMarked R (cleared R (c * 64) 64 rows) (set marks c false)
  cleared_block c rows marks r h b j l e = elim (cases_lt b c) [
    | inl m ↦ other (λ q. omega (arith, q, m))
    | inr m ↦ elim (cases_lt c b) [
      | inl p ↦ other (λ q. omega (arith, q, p))
      | inr p ↦ subst (λ i. entry R (cleared R (c * 64) 64 rows) (i * 64 + j) ≡ R.zero) (omega (arith, m, p)) (cleared-zero R (c * 64) 64 rows j r l)
    ]
  ]
    where
      other : b ≢ c → entry R (cleared R (c * 64) 64 rows) (b * 64 + j) ≡ R.zero
      other d = cleared_zero (c * 64) 64 rows (b * 64 + j) r (h b j l (sym (get_or-set_other marks c b false true d) ∙ e))

  -- the same for a cell and a count by other names
  pub cleared_whole : (cell count : ℕ) (rows new : List V) (marks : List Bool) → count ≡ 64 → cell + count ≤ cell / 64 * 64 + 64 → cell + count ≤ length rows → AreMarked R rows marks → new ≡ cleared R cell count rows → AreMarked R new (set marks (cell / 64) false)
  cleared_whole cell count rows new marks c r l h e =
      let d = div-mul-le_self cell 64 in
      let q : cell / 64 * 64 ≡ cell = omega (arith, d, r, c) in
      subst (λ z. AreMarked R z (set marks (cell / 64) false)) (ap₂ (λ (i n : ℕ). cleared R i n rows) q (sym c) ∙ sym e)
      (cleared_block (cell / 64) rows marks (omega (arith, q, c, l)) h)

  -- products that are brought to marked blocks
  pub moved_marked : (at : ℕ) (v : V) (us : List (Transition V)) (rows : List V) (old new : List Bool) → AreMarked R rows old → AreKept old new → AreTargetsMarked at us new → AreMarked R (moved R (carried v) at us rows) new
  moved_marked at v us rows old new h k t b j l e =
      moved-other R (λ u. Some v) at us rows (b * 64 + j)
      (λ u i q. false≢true (sym e ∙ subst (λ c. mark new c ≡ true) (block_is b j (at + u.to) l (sym q)) (t u i)))
      ∙ h b j l (k b e)
