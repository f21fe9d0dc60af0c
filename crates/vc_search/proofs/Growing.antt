-- What is true of a course stays true where members are added to it.
use Rattle.std.proofs.Common.{◌≡◌, ◌≤◌, ◌<◌, ◌++◌, ◌∷◌, [], List, false, inl, inr, arith, length, length-append, subst, sym, ap, Ok, Err, Result, Bool}
use Rattle.std.specs.Prelude.{OnErr, OnOk}
use Rattle.vc_label.specs.Sets.{IsOverSets}
use Rattle.vc_aut.specs.Validity.{IsMove}
use Rattle.vc_model.specs.Automata.{Transition}
use Rattle.vc_model.specs.Lists.{In}
use Rattle.vc_model.specs.Members.{In-append_cases}
use Rattle.vc_model.specs.Words.{is_empty}
use Rattle.vc_model.specs.WeightSet.{WeightSet}
use Rattle.vc_search.specs.Courses.{Course, IsCourse}
use Rattle.vc_search.specs.Found.{Found, with_member}
use Rattle.vc_search.specs.FoundLaws.{with_key-longer}

pub course_grows : {V K : Type 0} (R : WeightSet V) (c d : Course V K) → d.sets ≡ c.sets → d.transitions ≡ c.transitions → length c.members ≤ length d.members → IsCourse R c → IsCourse R d
course_grows R c d s e h C = record {
  moves = λ t i.
      let m = C.moves t (subst (In t) e i) in
      let f = m.from in
      let g = m.to in
      record { from = omega (arith, f, h); to = omega (arith, g, h); label = subst (λ z. IsOverSets z t.label) (sym s) m.label; weight = m.weight };
  labels = λ t i. C.labels t (subst (In t) e i);
  few = subst (λ ts. length ts ≤ 4000000) (sym e) C.few;
}

-- a search that was asked for a member has no fewer members, and the same limit
pub found_grows : {K T E : Type 0} (same : K → K → Bool) (old new : Found K) (k : K) (r : Result T E) → OnOk r (new ≡ with_member same old k) → OnErr r (new ≡ old) → (old.most ≡ new.most) × (length old.members ≤ length new.members)
found_grows {K} same old new k (Ok v) e f =
    let l = with_key-longer same old.members k in
    let m = ap (λ (z : Found K). length z.members) e in
    (sym (ap (λ (z : Found K). z.most) e), omega (arith, m, ap length l.is, length-append old.members l.more))
found_grows {K} same old new k (Err x) e f = (sym (ap (λ (z : Found K). z.most) f), omega (arith, ap (λ (z : Found K). length z.members) f))

-- and where a transition is added to it, or is not
pub course_added : {V K T E : Type 0} (R : WeightSet V) (c : Course V K) (t : Transition V) (ts : List (Transition V)) (r : Result T E) → OnOk r (ts ≡ c.transitions ++ t ∷ []) → OnErr r (ts ≡ c.transitions) → IsMove R c.sets (length c.members) t → is_empty t.label ≡ false → length c.transitions < 4000000 → IsCourse R c → IsCourse R (record c { transitions = ts })
course_added {V} R c t ts (Ok v) e f m n h C = record {
  moves = λ u i. elim (In-append_cases u c.transitions (t ∷ []) (subst (In u) e i)) [ inl j ↦ C.moves u j | inr j ↦ elim j [ inl p ↦ subst (IsMove R c.sets (length c.members)) (sym p) m | inr a ↦ absurd a ] ];
  labels = λ u i. elim (In-append_cases u c.transitions (t ∷ []) (subst (In u) e i)) [ inl j ↦ C.labels u j | inr j ↦ elim j [ inl p ↦ subst (λ (z : Transition V). is_empty z.label ≡ false) (sym p) n | inr a ↦ absurd a ] ];
  few = omega (arith, h, ap length e, length-append c.transitions (t ∷ []));
}
course_added {V} R c t ts (Err x) e f m n h C = subst (λ us. IsCourse R (record c { transitions = us })) (sym f) C
