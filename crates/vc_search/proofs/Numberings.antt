-- All that is accessible is among the members that are numbered.
use Rattle.std.proofs.Common.{◌≡◌, ◌≤◌, ◌+◌, ◌-◌, ℕ, List, [], ◌∷◌, ◌++◌, Bool, refl, sym, ap, ◌∙◌, arith, length, length-append, subst, inl, inr}
use Rattle.std.specs.Prelude.{◌↔◌}
use Rattle.std.proofs.lemmas.Bool.{cases_lt}
use Rattle.vc_model.specs.Lists.{In, NoRepeat}
use Rattle.vc_model.specs.Members.{In-middle_cases, place_of}
use Rattle.vc_model.specs.Numbering.{numbered, IsNumbering, IsAccessible}
use Rattle.vc_search.specs.Explored.{HasMoreThan}

-- members of a list, each once, are no more than the list has
no_more : {X : Type 0} (xs ys : List X) → NoRepeat xs → ((x : X) → In x xs → In x ys) → length xs ≤ length ys
no_more [] ys n h = omega arith
no_more {X} (x ∷ xs) ys n h =
    let p = place_of x ys (h x (inl refl)) in
    let rest = p.before ++ p.after in
    let k : length xs ≤ length rest = no_more xs rest n.1 (λ z i. elim (In-middle_cases z x p.before p.after (subst (In z) p.is (h z (inr i)))) [ inl e ↦ absurd (n.0 (subst (λ v. In v xs) e i)) | inr j ↦ j ]) in
    omega (arith, k, ap length p.is, length-append p.before p.after, length-append p.before (x ∷ p.after))

pub few_accessible : {K : Type 0} (same : K → K → Bool) (next : K → List K) (first members : List K) (n : ℕ) → ((x : K) → In x members ↔ IsAccessible next first x) → length members ≤ n → HasMoreThan next first n → ⊥
few_accessible same next first members n A h m =
    let k = no_more m.members members m.once (λ x i. (A x).1 (m.accessible x i)) in
    let l = m.more in
    omega (arith, k, l, h)

module _ {K : Type 0} (same : K → K → Bool) (next : K → List K) (first : List K) (whole : (k d : ℕ) → length (numbered same next first k) ≤ k → numbered same next first (d + k) ≡ numbered same next first k) where
  one_way : (members others : List K) (N : IsNumbering same next first members) (O : IsNumbering same next first others) → N.followed ≤ O.followed → members ≡ others
  one_way members others N O h =
      let s : (O.followed - N.followed) + N.followed ≡ O.followed = omega arith in
      let w : length (numbered same next first N.followed) ≤ N.followed = omega (arith, ap length N.are, N.whole) in
      sym N.are ∙ sym (whole N.followed (O.followed - N.followed) w) ∙ ap (numbered same next first) s ∙ O.are

  pub one_numbering : (members others : List K) (N : IsNumbering same next first members) (O : IsNumbering same next first others) → members ≡ others
  one_numbering members others N O = elim (cases_lt N.followed O.followed) [ inl l ↦ one_way members others N O (omega arith) | inr l ↦ sym (one_way others members O N l) ]
