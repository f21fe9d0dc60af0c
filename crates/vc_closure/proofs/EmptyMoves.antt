-- Empty transitions as moves.
use Rattle.std.proofs.Common.{◌≡◌, ℕ, ◌<◌, ◌≤◌, ◌⊎◌, inl, inr, IsTrue, List, [], ◌∷◌, ◌++◌, Bool, true, false, cond, filter, length, map, refl, sym, ap, ◌∙◌, subst, arith}
use Rattle.std.specs.Global.{Vec}
use Rattle.vc_closure.specs.Rows.{entries_at}
use Rattle.vc_closure.specs.Settled.{AreAmong, move_of, moves_of}
use Rattle.vc_closure.specs.declared.rows.Entry.{Entry}
use Rattle.vc_closure.proofs.Matrices.{past_rows}
use Rattle.vc_model.specs.Automata.{Transition}
use Rattle.vc_model.specs.Lists.{In}
use Rattle.vc_model.specs.Members.{In-filter_from, In-map_from}
use Rattle.vc_model.specs.WeightSet.{WeightSet}
use Rattle.vc_model.specs.Words.{is_empty}

-- a transition more
pub moves_push : {S V : Type 0} (ts : List (Transition V)) (t : Transition V) → moves_of {S = S} (ts ++ t ∷ []) ≡ moves_of ts ++ cond (is_empty t.label) (move_of t ∷ []) []
moves_push {S} {V} [] t = go (is_empty t.label)
  where
    go : (b : Bool) → map (move_of {S = S} {V = V}) (cond b (t ∷ []) []) ≡ cond b (move_of t ∷ []) []
    go true = refl
    go false = refl
moves_push {S} {V} (u ∷ ts) t = go (is_empty u.label) (moves_push ts t)
  where
    rest : List (Transition V)
    rest = filter (λ (v : Transition V). is_empty v.label) (ts ++ t ∷ [])

    go : (b : Bool) → map (move_of {S = S} {V = V}) rest ≡ moves_of ts ++ cond (is_empty t.label) (move_of t ∷ []) []
        → map (move_of {S = S} {V = V}) (cond b (u ∷ rest) rest) ≡ map move_of (cond b (u ∷ filter (λ (v : Transition V). is_empty v.label) ts) (filter (λ (v : Transition V). is_empty v.label) ts)) ++ cond (is_empty t.label) (move_of t ∷ []) []
    go true ih = ap (λ (row : List (Entry S V)). move_of u ∷ row) ih
    go false ih = ih

-- one more, which is empty or not
pub moves_then : {S V : Type 0} (ts more : List (Transition V)) (t : Transition V) (row : List (Entry S V)) → more ≡ ts ++ t ∷ [] → row ≡ moves_of ts → is_empty t.label ≡ true → row ++ move_of t ∷ [] ≡ moves_of more
moves_then {S} {V} ts more t row m h e =
    ap (λ (r : List (Entry S V)). r ++ move_of t ∷ []) h ∙ ap (λ b. moves_of {S = S} ts ++ cond b (move_of t ∷ []) []) (sym e) ∙ sym (ap (λ (us : List (Transition V)). moves_of {S = S} us) m ∙ moves_push ts t)

pub moves_same : {S V : Type 0} (ts more : List (Transition V)) (t : Transition V) (row : List (Entry S V)) → more ≡ ts ++ t ∷ [] → row ≡ moves_of ts → is_empty t.label ≡ false → row ≡ moves_of more
moves_same {S} {V} ts more t row m h e =
    h ∙ sym (nothing (moves_of ts)) ∙ ap (λ b. moves_of {S = S} ts ++ cond b (move_of t ∷ []) []) (sym e) ∙ sym (ap (λ (us : List (Transition V)). moves_of {S = S} us) m ∙ moves_push ts t)
  where
    nothing : {X : Type 0} (xs : List X) → xs ++ [] ≡ xs
    nothing [] = refl
    nothing {X} (x ∷ xs) = ap (λ (ys : List X). x ∷ ys) (nothing xs)

-- where the transitions lead to one of n states with weights in range, so do the moves
pub among : {S V : Type 0} (R : WeightSet V) (n : ℕ) (ts : List (Transition V)) (row : List (Entry S V)) → ((t : Transition V) → In t ts → t.to < n) → ((t : Transition V) → In t ts → IsTrue (R.in_range t.weight)) → row ≡ moves_of ts → AreAmong R n row
among {S} {V} R n ts row to weight is =
    record {
      inside = λ e i. let m = was e i in subst (λ (x : Entry S V). x.state < n) (sym m.2) (to m.0 m.1);
      in_range = λ e i. let m = was e i in subst (λ (x : Entry S V). IsTrue (R.in_range x.weight)) (sym m.2) (weight m.0 m.1);
    }
  where
    was : (e : Entry S V) → In e row → (t : Transition V) × In t ts × (e ≡ move_of t)
    was e i =
        let m = In-map_from (move_of {S = S} {V = V}) e (filter (λ (t : Transition V). is_empty t.label) ts) (subst (λ (r : List (Entry S V)). In e r) is i) in
        (m.0, (In-filter_from (λ (t : Transition V). is_empty t.label) m.0 ts m.1).0, m.2)

-- rows, each of which has moves to n states, and nothing past them
pub all_among : {S V : Type 0} (R : WeightSet V) (n m : ℕ) (rows : List (Vec (Entry S V))) → length rows ≡ m → ((p : ℕ) → p < m → AreAmong R n (entries_at rows p)) → (p : ℕ) → AreAmong R n (entries_at rows p)
all_among {S} {V} R n m rows e h p = elim (split p) [ inl l ↦ h p l | inr k ↦ subst (λ (row : List (Entry S V)). AreAmong R n row) (sym (past_rows rows p (subst (λ i. i ≤ p) (sym e) k))) none ]
  where
    none : AreAmong {S = S} {V = V} R n []
    none = record { inside = λ x i. absurd i; in_range = λ x i. absurd i }

    split : (q : ℕ) → (q < m) ⊎ (m ≤ q)
    split q = search arith
