-- The tapes over an alphabet, listed.
use Rattle.std.proofs.Common.{ℕ, List, [], ◌∷◌, map, refl, sym, ◌∙◌, inl, inr, subst, zero, suc, ◌≤◌, arith, length}
use Rattle.vc_model.specs.Lists.{In, NoRepeat}
use Rattle.vc_model.specs.Words.{Tape, IsOver, tapes_within}
use Rattle.vc_model.specs.Members.{In-map, In-map_from, In-flat_map, In-flat_map_from, NoRepeat-map, NoRepeat-flat_map, head_same, tail_same}

pub tapes_within-In : (alphabet : List ℕ) (n : ℕ) (a : Tape) → In a (tapes_within alphabet n) → IsOver alphabet a × (length a ≤ n)
tapes_within-In alphabet zero a (inl e) = subst (λ b. IsOver alphabet b × (length b ≤ 0)) (sym e) (tt, omega arith)
tapes_within-In alphabet zero a (inr i) = absurd i
tapes_within-In alphabet (suc n) a (inl e) = subst (λ b. IsOver alphabet b × (length b ≤ suc n)) (sym e) (tt, omega arith)
tapes_within-In alphabet (suc n) a (inr i) =
    let r = In-flat_map_from (λ x. map (λ b. x ∷ b) (tapes_within alphabet n)) a alphabet i in
    let m = In-map_from (λ (b : Tape). r.0 ∷ b) a (tapes_within alphabet n) r.2 in
    let h = tapes_within-In alphabet n m.0 m.1 in
    subst (λ b. IsOver alphabet b × (length b ≤ suc n)) (sym m.2) ((r.1, h.0), omega (arith, h.1))

pub In-tapes_within : (alphabet : List ℕ) (n : ℕ) (a : Tape) → IsOver alphabet a → length a ≤ n → In a (tapes_within alphabet n)
In-tapes_within alphabet zero [] h l = inl refl
In-tapes_within alphabet zero (x ∷ a) h l = absurd (omega arith)
In-tapes_within alphabet (suc n) [] h l = inl refl
In-tapes_within alphabet (suc n) (x ∷ a) h l =
    inr (In-flat_map (λ x. map (λ b. x ∷ b) (tapes_within alphabet n)) (x ∷ a) x alphabet h.0 (In-map (λ (b : Tape). x ∷ b) a (tapes_within alphabet n) (In-tapes_within alphabet n a h.1 (omega arith))))

pub tapes_within-NoRepeat : (alphabet : List ℕ) → NoRepeat alphabet → (n : ℕ) → NoRepeat (tapes_within alphabet n)
tapes_within-NoRepeat alphabet once zero = ((λ i. i), tt)
tapes_within-NoRepeat alphabet once (suc n) =
    let g : ℕ → List Tape = λ x. map (λ b. x ∷ b) (tapes_within alphabet n) in (
      (λ i. let r = In-flat_map_from g [] alphabet i in let m = In-map_from (λ (b : Tape). r.0 ∷ b) [] (tapes_within alphabet n) r.2 in let e = m.2 in absurd (cc)),
      NoRepeat-flat_map g alphabet once
          (λ x i. NoRepeat-map (λ b. x ∷ b) (tapes_within alphabet n) (λ a b i' j' e. tail_same x x a b e) (tapes_within-NoRepeat alphabet once n))
          (λ x y a i j h k. let r = In-map_from (λ b. x ∷ b) a (tapes_within alphabet n) h in let s = In-map_from (λ b. y ∷ b) a (tapes_within alphabet n) k in head_same x y r.0 s.0 (sym r.2 ∙ s.2)),
    )
