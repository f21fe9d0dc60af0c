-- Two lists of paths with the same labels on K, each with every path up to the bound, have equal sums.
use Rattle.std.proofs.Common.{◌≡◌, ℕ, List, ◌∷◌, ◌++◌, Bool, refl, sym, ap, ap₂, ◌∙◌, inl, inr, ◌⊎◌, subst, zero, suc, ◌<◌, ◌≤◌, ◌+◌, ◌*◌, arith, length, length-append}
use Rattle.std.proofs.lemmas.Bool.{cases_lt}
use Rattle.vc_model.specs.WeightSet.{WeightSet, SemiringLaws, Absorbs}
use Rattle.vc_model.specs.Lists.{In}
use Rattle.vc_model.specs.Sums.{sum_over}
use Rattle.vc_model.specs.Words.{Word, size, join, on}
use Rattle.vc_model.specs.Automata.{Transition, Automaton, IsPath, end_of, path_label, path_weight, path_value, final_weight, NoCircuitOn, ArePaths}
use Rattle.vc_model.specs.SameSums.{same_members, absorbed_sums}
use Rattle.vc_model.specs.Absorption.{absorbs, twice}
use Rattle.vc_model.specs.WordLaws.{join-empty_left, length-join, empty_from_size}
use Rattle.vc_model.specs.PathLaws.{length-path_label, IsPath-append, IsPath-split, end_of-append, path_weight-append, path_label-append}
use Rattle.vc_model.specs.Circuits.{Circuit, circuit_of}
use Rattle.vc_model.specs.TapeSets.{on-join, length-on, size-on_empty}

module _ {V : Type 0} {R : WeightSet V} (L : SemiringLaws R) (A : Automaton V) (tapes : ℕ) (K : List Bool) (labels : (t : Transition V) → In t A.transitions → length t.label ≡ tapes) (to : (t : Transition V) → In t A.transitions → t.to < A.states) where
  -- without the circuit: a path with the same end, and the same label on K
  record Shorter (p : ℕ) (ts : List (Transition V)) : Type 0 where
    path : List (Transition V)
    is_path : IsPath A p path
    agrees : on K (path_label tapes path) ≡ on K (path_label tapes ts)
    less : length path < length ts
    takes : Absorbs R → R.plus (path_value R A p path) (path_value R A p ts) ≡ path_value R A p path

  without : (p : ℕ) (ts : List (Transition V)) → IsPath A p ts → Circuit tapes K p ts → Shorter p ts
  without p ts h c =
      let us = c.before in let cs = c.first ∷ c.more in let zs = c.after in
      let g = IsPath-split A p us (cs ++ zs) (subst (IsPath A p) c.is h) in
      let g' = IsPath-split A (end_of p us) cs zs g.1 in
      let gz : IsPath A (end_of p us) zs = subst (λ q. IsPath A q zs) c.back g'.1 in
      let lu = length-path_label A tapes labels p us g.0 in
      let lc = length-path_label A tapes labels (end_of p us) cs g'.0 in
      let lz = length-path_label A tapes labels (end_of p us) zs gz in
      let lj : length (join (path_label tapes cs) (path_label tapes zs)) ≡ tapes = length-join (path_label tapes cs) (path_label tapes zs) (lc ∙ sym lz) ∙ lc in
      let lcz : length (path_label tapes (cs ++ zs)) ≡ tapes = ap length (path_label-append tapes cs zs lz) ∙ lj in
      let long : path_label tapes ts ≡ join (path_label tapes us) (join (path_label tapes cs) (path_label tapes zs)) =
      ap (path_label tapes) c.is ∙ path_label-append tapes us (cs ++ zs) lcz ∙ ap (join (path_label tapes us)) (path_label-append tapes cs zs lz) in
      let short : path_label tapes (us ++ zs) ≡ join (path_label tapes us) (path_label tapes zs) = path_label-append tapes us zs lz in
      let gone : join (on K (path_label tapes cs)) (on K (path_label tapes zs)) ≡ on K (path_label tapes zs) =
      ap (λ v. join v (on K (path_label tapes zs))) (empty_from_size (on K (path_label tapes cs)) c.nothing)
      ∙ join-empty_left (length (on K (path_label tapes cs))) (on K (path_label tapes zs)) (length-on K (path_label tapes zs) (path_label tapes cs) (lz ∙ sym lc)) in
      let same : on K (path_label tapes (us ++ zs)) ≡ on K (path_label tapes ts) =
      ap (on K) short ∙ on-join K (path_label tapes us) (path_label tapes zs) (lu ∙ sym lz)
      ∙ ap (join (on K (path_label tapes us))) (sym gone ∙ sym (on-join K (path_label tapes cs) (path_label tapes zs) (lc ∙ sym lz)))
      ∙ sym (on-join K (path_label tapes us) (join (path_label tapes cs) (path_label tapes zs)) (lu ∙ sym lj)) ∙ ap (on K) (sym long) in
      let ends : end_of p (us ++ zs) ≡ end_of p ts =
      end_of-append p us zs ∙ ap (λ q. end_of q zs) (sym c.back) ∙ sym (end_of-append (end_of p us) cs zs) ∙ sym (end_of-append p us (cs ++ zs)) ∙ ap (end_of p) (sym c.is) in
      let count : length ts ≡ length us + (suc (length c.more) + length zs) = ap length c.is ∙ length-append us (cs ++ zs) ∙ ap (λ n. length us + n) (length-append cs zs) in
      let count' = length-append us zs in
      let w = path_weight R us in let x = path_weight R cs in let z = path_weight R zs in
      let value : path_value R A p (us ++ zs) ≡ R.times (R.times w z) (final_weight R A (end_of p ts)) =
      ap₂ (λ v q. R.times v (final_weight R A q)) (path_weight-append L us zs) ends in
      let value' : path_value R A p ts ≡ R.times (R.times (R.times w z) (final_weight R A (end_of p ts))) x =
      ap (λ v. R.times v (final_weight R A (end_of p ts)))
      (ap (path_weight R) c.is ∙ path_weight-append L us (cs ++ zs) ∙ ap (R.times w) (path_weight-append L cs zs ∙ L.times_comm x z) ∙ sym (L.times_assoc w z x))
      ∙ L.times_assoc (R.times w z) x _ ∙ ap (R.times (R.times w z)) (L.times_comm x _) ∙ sym (L.times_assoc (R.times w z) _ x) in
      record {
        path = us ++ zs;
        is_path = IsPath-append A p us zs g.0 gz;
        agrees = same;
        less = omega arith;
        takes = λ B. ap₂ R.plus value value' ∙ absorbs L B (R.times (R.times w z) (final_weight R A (end_of p ts))) x ∙ sym value;
      }

  -- a path below the bound beside which the path adds nothing
  record Within (p m : ℕ) (ts : List (Transition V)) : Type 0 where
    path : List (Transition V)
    is_path : IsPath A p path
    agrees : on K (path_label tapes path) ≡ on K (path_label tapes ts)
    within : length path < (m + 1) * A.states
    takes : R.plus (path_value R A p path) (path_value R A p ts) ≡ path_value R A p path

  stays : (p m : ℕ) (ts : List (Transition V)) → Absorbs R → IsPath A p ts → length ts < (m + 1) * A.states → Within p m ts
  stays p m ts B g h = record { path = ts; is_path = g; agrees = refl; within = h; takes = twice L B (path_value R A p ts) }

  reduced : Absorbs R → (n p m : ℕ) (ts : List (Transition V)) → length ts ≤ n → IsPath A p ts → p < A.states → size (on K (path_label tapes ts)) ≡ m → Within p m ts
  reduced B zero p m ts h g l e = stays p m ts B g (some (length ts) m A.states p h l)
    where
      some : (x m n p : ℕ) → x ≤ 0 → p < n → x < (m + 1) * n
      some x m (suc n) p h l = omega arith
      some x m zero p h l = absurd (omega arith)
  reduced B (suc n) p m ts h g l e = elim (cases_lt (length ts) ((m + 1) * A.states)) [
    | inl s ↦ stays p m ts B g s
    | inr s ↦
        let c = without p ts g (circuit_of A tapes K labels to p m ts (size-on_empty K tapes) g l e s) in
        let r = reduced B n p m c.path (omega (arith, c.less)) c.is_path l (ap (λ w. size w) c.agrees ∙ e) in
        record {
          path = r.path;
          is_path = r.is_path;
          agrees = r.agrees ∙ c.agrees;
          within = r.within;
          takes = ap (λ v. R.plus v (path_value R A p ts)) (sym r.takes) ∙ L.plus_assoc (path_value R A p r.path) (path_value R A p c.path) (path_value R A p ts)
              ∙ ap (R.plus (path_value R A p r.path)) (c.takes B) ∙ r.takes;
        }
  ]

  pub sum-path_lists : (w : Word) → length w ≡ tapes → (p : ℕ) → p < A.states → Absorbs R ⊎ NoCircuitOn tapes K A → (j k : ℕ) → (size (on K w) + 1) * A.states ≤ suc j → (size (on K w) + 1) * A.states ≤ suc k → (xs ys : List (List (Transition V))) → ArePaths A K w p j xs → ArePaths A K w p k ys → sum_over R (path_value R A p) xs ≡ sum_over R (path_value R A p) ys
  sum-path_lists w e p l (inl B) j k b d xs ys X Y = absorbed_sums L (path_value R A p) xs ys (takes j k d xs ys X Y) (takes k j b ys xs Y X)
    where
      takes : (j k : ℕ) → (size (on K w) + 1) * A.states ≤ suc k → (xs ys : List (List (Transition V))) → ArePaths A K w p j xs → ArePaths A K w p k ys → (ts : List (Transition V)) → In ts xs → (us : List (Transition V)) × In us ys × (R.plus (path_value R A p us) (path_value R A p ts) ≡ path_value R A p us)
      takes j k d xs ys X Y ts i =
          let a : on K (path_label tapes ts) ≡ on K w = ap (λ n. on K (path_label n ts)) (sym e) ∙ X.agrees ts i in
          let r = reduced B (length ts) p (size (on K w)) ts (omega arith) (X.path ts i) l (ap (λ v. size v) a) in
          (r.path, Y.all r.path r.is_path (ap (λ n. on K (path_label n r.path)) e ∙ r.agrees ∙ a) (omega (arith, r.within, d)), r.takes)
  sum-path_lists w e p l (inr N) j k b d xs ys X Y = same_members L (path_value R A p) xs ys X.once Y.once (moves j k d xs ys X Y) (moves k j b ys xs Y X)
    where
      moves : (j k : ℕ) → (size (on K w) + 1) * A.states ≤ suc k → (xs ys : List (List (Transition V))) → ArePaths A K w p j xs → ArePaths A K w p k ys → (ts : List (Transition V)) → In ts xs → In ts ys
      moves j k d xs ys X Y ts i =
          let a : on K (path_label tapes ts) ≡ on K w = ap (λ n. on K (path_label n ts)) (sym e) ∙ X.agrees ts i in
          elim (cases_lt (length ts) ((size (on K w) + 1) * A.states)) [
            | inl s ↦ Y.all ts (X.path ts i) (X.agrees ts i) (omega (arith, s, d))
            | inr s ↦
                let c = circuit_of A tapes K labels to p (size (on K w)) ts (size-on_empty K tapes) (X.path ts i) l (ap (λ v. size v) a) s in
                let g = IsPath-split A p c.before ((c.first ∷ c.more) ++ c.after) (subst (IsPath A p) c.is (X.path ts i)) in
                let g' = IsPath-split A (end_of p c.before) (c.first ∷ c.more) c.after g.1 in
                absurd (N (end_of p c.before) c.first c.more g'.0 c.back c.nothing)
          ]
