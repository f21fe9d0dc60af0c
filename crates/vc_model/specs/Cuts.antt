-- The cuts of a word are exactly the pairs that join to it.
use Rattle.std.proofs.Common.{◌≡◌, [], ◌∷◌, ◌++◌, map, refl, sym, ap, ◌∙◌, inl, inr, subst, ap₂, suc, arith, length}
use Rattle.vc_model.specs.Lists.{In}
use Rattle.vc_model.specs.Words.{Tape, Word, join, tape_cuts, cuts}
use Rattle.vc_model.specs.Members.{In-map, In-map_from, In-flat_map, In-flat_map_from}

-- each cut of a tape is two tapes that make it
pub tape_cuts-In : (a : Tape) (c : Tape × Tape) → In c (tape_cuts a) → c.0 ++ c.1 ≡ a
tape_cuts-In [] c (inl e) = ap (λ d. d.0 ++ d.1) e
tape_cuts-In [] c (inr i) = absurd i
tape_cuts-In (x ∷ a) c (inl e) = ap (λ d. d.0 ++ d.1) e
tape_cuts-In (x ∷ a) c (inr i) =
    let r = In-map_from (λ (c : Tape × Tape). (x ∷ c.0, c.1)) c (tape_cuts a) i in
    ap (λ d. d.0 ++ d.1) r.2 ∙ ap (λ t. x ∷ t) (tape_cuts-In a r.0 r.1)

-- two tapes are a cut of the tape that they make
pub In-tape_cuts : (u v : Tape) → In (u, v) (tape_cuts (u ++ v))
In-tape_cuts [] [] = inl refl
In-tape_cuts [] (x ∷ v) = inl refl
In-tape_cuts (x ∷ u) v = inr (In-map (λ (c : Tape × Tape). (x ∷ c.0, c.1)) (u, v) (tape_cuts (u ++ v)) (In-tape_cuts u v))

-- each cut of a word is two words of its length that join to it
pub cuts-In : (w : Word) (c : Word × Word) → In c (cuts w) → (join c.0 c.1 ≡ w) × (length c.0 ≡ length w) × (length c.1 ≡ length w)
cuts-In [] c (inl e) = subst (λ (d : Word × Word). (join d.0 d.1 ≡ []) × (length d.0 ≡ length {A = Tape} []) × (length d.1 ≡ length {A = Tape} [])) (sym e) (refl, refl, refl)
cuts-In [] c (inr i) = absurd i
cuts-In (a ∷ w) c i =
    let r = In-flat_map_from (λ (c : Tape × Tape). map (λ (d : Word × Word). (c.0 ∷ d.0, c.1 ∷ d.1)) (cuts w)) c (tape_cuts a) i in
    let m = In-map_from (λ (d : Word × Word). (r.0.0 ∷ d.0, r.0.1 ∷ d.1)) c (cuts w) r.2 in
    let h = cuts-In w m.0 m.1 in
    subst (λ (d : Word × Word). (join d.0 d.1 ≡ a ∷ w) × (length d.0 ≡ length (a ∷ w)) × (length d.1 ≡ length (a ∷ w))) (sym m.2)
    (ap₂ ◌∷◌ (tape_cuts-In a r.0 r.1) h.0, ap suc h.1, ap suc h.2)

-- two words of one length are a cut of the word that they join to
pub In-cuts : (u v : Word) → length u ≡ length v → In (u, v) (cuts (join u v))
In-cuts [] [] e = inl refl
In-cuts [] (b ∷ v) e = absurd (omega arith)
In-cuts (a ∷ u) [] e = absurd (omega arith)
In-cuts (a ∷ u) (b ∷ v) e =
    In-flat_map (λ (c : Tape × Tape). map (λ (d : Word × Word). (c.0 ∷ d.0, c.1 ∷ d.1)) (cuts (join u v))) (a ∷ u, b ∷ v) (a, b) (tape_cuts (a ++ b)) (In-tape_cuts a b)
    (In-map (λ (d : Word × Word). (a ∷ d.0, b ∷ d.1)) (u, v) (cuts (join u v)) (In-cuts u v (omega arith)))
