-- Two answers of a plan agree, and where both are past bounds, they are refusals of one part.
use Rattle.std.proofs.Common.{◌≡◌, ◌⊎◌, Result, Ok, Err, refl, sym, subst, inl, inr}
use Rattle.vc_files.specs.Files.{Bytes}
use Rattle.vc_top.specs.Answers.{AllowsBoth, IsFree, IsPastReason}
use Rattle.vc_top.specs.Outcomes.{Answer, Outcome, Then}
use Rattle.vc_top.specs.Reasons.{Reason}
use Rattle.vc_top.proofs.Lawful.{Alike, Freedom, IsLawful, decided, free_first, free_second, same_values}

abbrev refused : {X : Type 0} → Reason → Result X Reason
refused reason = Err reason

-- the answers agree, where refusals that are past bounds are related like this
abbrev pub AgreeBy : (Reason → Reason → Type 0) → Freedom → Answer → Answer → Type 0
AgreeBy Part Open a b =
    (IsFree a ⊎ IsFree b) ⊎ ((a ≡ b)
    ⊎ (((r q : Reason) × (a ≡ Err r) × (b ≡ Err q) × IsPastReason r × IsPastReason q × Part r q) ⊎ (((x y : Bytes) × (a ≡ Ok x) × (b ≡ Ok y) × Open.texts)
    ⊎ ((x : Bytes) × (r : Reason) × Open.refusals r × (((a ≡ Ok x) × (b ≡ Err r)) ⊎ ((a ≡ Err r) × (b ≡ Ok x)))))))

module _ (Part : Reason → Reason → Type 0) (Open : Freedom) where
  -- answers of one part
  pub of_part : (R : Outcome Bytes) → ((r q : Reason) → AllowsBoth R r q → Part r q) → (a b : Answer) → R a → R b → Alike Open a b → AgreeBy Part Open a b
  of_part R f a b p q (inl x) = inl x
  of_part R f a b p q (inr (inl e)) = inr (inl e)
  of_part R f (Ok x) b p q (inr (inr (inl h))) = absurd h.0
  of_part R f (Err r) (Ok y) p q (inr (inr (inl h))) = absurd h.1
  of_part R f (Err r) (Err s) p q (inr (inr (inl h))) = inr (inr (inl (r, s, refl, refl, h.0, h.1, f r s (p, q))))
  of_part R f (Ok x) (Ok y) p q (inr (inr (inr (inl o)))) = inr (inr (inr (inl (x, y, refl, refl, o.0))))
  of_part R f (Ok x) (Err s) p q (inr (inr (inr (inl o)))) = absurd o.2
  of_part R f (Err r) b p q (inr (inr (inr (inl o)))) = absurd o.1
  of_part R f (Ok x) (Ok y) p q (inr (inr (inr (inr (inl m))))) = absurd m.1
  of_part R f (Ok x) (Err s) p q (inr (inr (inr (inr (inl m))))) = inr (inr (inr (inr (x, s, m.1, inl (refl, refl)))))
  of_part R f (Err r) b p q (inr (inr (inr (inr (inl m))))) = absurd m.0
  of_part R f (Ok x) b p q (inr (inr (inr (inr (inr m))))) = absurd m.0
  of_part R f (Err r) (Ok y) p q (inr (inr (inr (inr (inr m))))) = inr (inr (inr (inr (y, r, m.0, inr (refl, refl)))))
  of_part R f (Err r) (Err s) p q (inr (inr (inr (inr (inr m))))) = absurd m.1

  -- refusals of a part that reads
  refusals : {Y : Type 0} (P : Outcome Y) → ((r q : Reason) → AllowsBoth P r q → Part r q) → (r q : Reason) → P (Err r) → P (Err q) → Alike {X = Y} decided (Err r) (Err q) → AgreeBy Part Open (Err r) (Err q)
  refusals P f r q h k (inl x) = inl x
  refusals {Y} P f r q h k (inr (inl e)) = inr (inl (same r q e))
    where
      same : (x y : Reason) → refused {X = Y} x ≡ refused y → refused {X = Bytes} x ≡ refused y
      same x y e = cc e
  refusals P f r q h k (inr (inr (inl p))) = inr (inr (inl (r, q, refl, refl, p.0, p.1, f r q (h, k))))
  refusals P f r q h k (inr (inr (inr (inl o)))) = absurd o.0
  refusals P f r q h k (inr (inr (inr (inr (inl m))))) = absurd m.0
  refusals P f r q h k (inr (inr (inr (inr (inr m))))) = absurd m.1

  -- a part that reads, and the parts after it
  pub after_part : {Y : Type 0} (P : Outcome Y) (R : Y → Outcome Bytes) {Own : Reason → Type 0} → IsLawful Own decided P → ((r q : Reason) → AllowsBoth P r q → Part r q)
      → ((y : Y) → P (Ok y) → (a b : Answer) → R y a → R y b → AgreeBy Part Open a b) → (a b : Answer) → Then P R a → Then P R b → AgreeBy Part Open a b
  after_part P R k f g a b (inl p) (inl q) = at (sym p.2) (sym q.2) (refusals P f p.0 q.0 p.1 q.1 (k.one (Err p.0) (Err q.0) p.1 q.1))
    where
      at : {x y : Answer} → x ≡ a → y ≡ b → AgreeBy Part Open x y → AgreeBy Part Open a b
      at {x} {y} e h z = subst (λ c. AgreeBy Part Open c b) e (subst (λ d. AgreeBy Part Open x d) h z)
  after_part P R k f g a b (inl p) (inr q) = inl (inl (subst IsFree (sym p.2) (free_first p.0 q.0 (k.one (Err p.0) (Ok q.0) p.1 q.1))))
  after_part P R k f g a b (inr p) (inl q) = inl (inr (subst IsFree (sym q.2) (free_second p.0 q.0 (k.one (Ok p.0) (Err q.0) p.1 q.1))))
  after_part P R k f g a b (inr p) (inr q) = g p.0 p.1 a b p.2 (subst (λ y. R y b) (same_values q.0 p.0 (k.one (Ok q.0) (Ok p.0) q.1 p.1)) q.2)
