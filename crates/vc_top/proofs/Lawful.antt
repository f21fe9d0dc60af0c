-- Outcomes that are refused for these reasons alone, and of which any two agree: each way to join them keeps this.
use Rattle.std.proofs.Common.{◌≡◌, ◌⊎◌, ◌∙◌, Bool, true, false, Option, None, Some, Result, Ok, Err, sym, ap, subst, inl, inr}
use Rattle.vc_top.specs.Answers.{IsFree, IsFreeReason, IsPastReason}
use Rattle.vc_top.specs.Outcomes.{ForSuch, Gives, MayRefuse, Outcome, Provided, Then, Unless, UnlessAny, WithOne, WithSome}
use Rattle.vc_top.specs.Reasons.{Reason}

-- what is left open: which text is given, and whether something is given or refused for a reason
pub record Freedom : Type 1 where
  pub texts : Type 0
  pub refusals : Reason → Type 0

-- nothing is left open
abbrev pub decided : Freedom
decided = record { texts = ⊥; refusals = λ reason. ⊥ }

module _ {X : Type 0} where
  -- a refusal since something is past its bounds
  abbrev pub IsPast : Outcome X
  IsPast (Ok x) = ⊥
  IsPast (Err reason) = IsPastReason reason

  -- a value
  abbrev pub IsGiven : Outcome X
  IsGiven (Ok x) = Unit {0}
  IsGiven (Err reason) = ⊥

  -- a refusal for one of these reasons
  abbrev pub IsRefusedFor : (Reason → Type 0) → Outcome X
  IsRefusedFor Of (Ok x) = ⊥
  IsRefusedFor Of (Err reason) = Of reason

  -- one of the results is a value, and the other a refusal for one of these reasons
  abbrev pub AreMixed : (Reason → Type 0) → Result X Reason → Result X Reason → Type 0
  AreMixed Of a b = (IsGiven a × IsRefusedFor Of b) ⊎ (IsRefusedFor Of a × IsGiven b)

  -- one of the results is free, or they are the same, or both are past bounds, or both are values that are open, or a value and a refusal are open
  abbrev pub Alike : Freedom → Result X Reason → Result X Reason → Type 0
  Alike Open a b = (IsFree a ⊎ IsFree b) ⊎ ((a ≡ b) ⊎ ((IsPast a × IsPast b) ⊎ ((Open.texts × IsGiven a × IsGiven b) ⊎ AreMixed Open.refusals a b)))

-- a value, or one of these reasons
abbrev pub IsKept : {X : Type 0} → (Reason → Type 0) → Result X Reason → Type 0
IsKept Own (Ok x) = Unit {0}
IsKept Own (Err reason) = Own reason

pub record IsLawful {X : Type 0} (Own : Reason → Type 0) (Open : Freedom) (R : Outcome X) : Type 0 where
  pub kept : (a : Result X Reason) → R a → IsKept Own a
  pub one : (a b : Result X Reason) → R a → R b → Alike Open a b

abbrev given : {X : Type 0} → X → Result X Reason
given x = Ok x

abbrev refused : {X : Type 0} → Reason → Result X Reason
refused r = Err r

same_reason : {X : Type 0} (r s : Reason) → refused {X = X} r ≡ refused s → r ≡ s
same_reason r s e = cc e

same_given : {X : Type 0} (x y : X) → given x ≡ given y → x ≡ y
same_given x y e = cc e

no_given : {X : Type 0} (x : X) (r : Reason) → given x ≡ refused r → ⊥
no_given x r e = cc e

-- results where nothing is open
module _ {Y : Type 0} where
  pub free_first : (r : Reason) (y : Y) → Alike {X = Y} decided (Err r) (Ok y) → IsFreeReason r
  free_first r y (inl (inl f)) = f
  free_first r y (inl (inr f)) = absurd f
  free_first r y (inr (inl e)) = absurd (no_given y r (sym e))
  free_first r y (inr (inr (inl p))) = absurd p.1
  free_first r y (inr (inr (inr (inl o)))) = absurd o.0
  free_first r y (inr (inr (inr (inr (inl m))))) = absurd m.0
  free_first r y (inr (inr (inr (inr (inr m))))) = absurd m.0

  pub free_second : (y : Y) (r : Reason) → Alike {X = Y} decided (Ok y) (Err r) → IsFreeReason r
  free_second y r (inl (inl f)) = absurd f
  free_second y r (inl (inr f)) = f
  free_second y r (inr (inl e)) = absurd (no_given y r e)
  free_second y r (inr (inr (inl p))) = absurd p.0
  free_second y r (inr (inr (inr (inl o)))) = absurd o.0
  free_second y r (inr (inr (inr (inr (inl m))))) = absurd m.1
  free_second y r (inr (inr (inr (inr (inr m))))) = absurd m.0

  pub same_values : (x y : Y) → Alike {X = Y} decided (Ok x) (Ok y) → x ≡ y
  same_values x y (inl (inl f)) = absurd f
  same_values x y (inl (inr f)) = absurd f
  same_values x y (inr (inl e)) = same_given x y e
  same_values x y (inr (inr (inl p))) = absurd p.0
  same_values x y (inr (inr (inr (inl o)))) = absurd o.0
  same_values x y (inr (inr (inr (inr (inl m))))) = absurd m.1
  same_values x y (inr (inr (inr (inr (inr m))))) = absurd m.0

module _ {X : Type 0} (Own : Reason → Type 0) (Open : Freedom) where
  agree_at : (a b x y : Result X Reason) → a ≡ x → b ≡ y → Alike Open x y → Alike Open a b
  agree_at a b x y e f p = subst (λ c. Alike Open c b) (sym e) (subst (λ d. Alike Open x d) (sym f) p)

  refused_kept : (a : Result X Reason) (r : Reason) → Own r → a ≡ Err r → IsKept Own a
  refused_kept a r o e = subst (IsKept Own) (sym e) o

  pub same_lawful : (x : Result X Reason) → IsKept Own x → IsLawful Own Open (λ a. a ≡ x)
  same_lawful x k = record { kept = λ a e. subst (IsKept Own) (sym e) k; one = λ a b e f. inr (inl (e ∙ sym f)) }

  pub gives : (x : X) → IsLawful Own Open (Gives x)
  gives x = same_lawful (Ok x) tt

  pub unless : (C : Type 0) (r : Reason) (R : Outcome X) → Own r → IsLawful Own Open R → IsLawful Own Open (Unless C r R)
  unless C r R o l = record { kept = keeps; one = ones }
    where
      keeps : (a : Result X Reason) → Unless C r R a → IsKept Own a
      keeps a (inl p) = refused_kept a r o p.1
      keeps a (inr p) = l.kept a p.1

      ones : (a b : Result X Reason) → Unless C r R a → Unless C r R b → Alike Open a b
      ones a b (inl p) (inl q) = inr (inl (p.1 ∙ sym q.1))
      ones a b (inl p) (inr q) = absurd (q.0 p.0)
      ones a b (inr p) (inl q) = absurd (p.0 q.0)
      ones a b (inr p) (inr q) = l.one a b p.1 q.1

  pub provided : (test : Bool) (r : Reason) (R : Outcome X) → Own r → IsLawful Own Open R → IsLawful Own Open (Provided test r R)
  provided true r R o l = l
  provided false r R o l = same_lawful (Err r) o

  pub any : {Y : Type 0} (C : Y → Type 0) (r : Y → Reason) (R : Outcome X) → ((y : Y) → C y → Own (r y)) → ((x y : Y) → C x → C y → Alike {X = X} Open (Err (r x)) (Err (r y)))
      → (((y : Y) → ¬ C y) → IsLawful Own Open R) → IsLawful Own Open (UnlessAny C r R)
  any {Y} C r R o alike l = record { kept = keeps; one = ones }
    where
      keeps : (a : Result X Reason) → UnlessAny C r R a → IsKept Own a
      keeps a (inl p) = refused_kept a (r p.0) (o p.0 p.1) p.2
      keeps a (inr p) = (l p.0).kept a p.1

      ones : (a b : Result X Reason) → UnlessAny C r R a → UnlessAny C r R b → Alike Open a b
      ones a b (inl p) (inl q) = agree_at a b (Err (r p.0)) (Err (r q.0)) p.2 q.2 (alike p.0 q.0 p.1 q.1)
      ones a b (inl p) (inr q) = absurd (q.0 p.0 p.1)
      ones a b (inr p) (inl q) = absurd (p.0 q.0 q.1)
      ones a b (inr p) (inr q) = (l p.0).one a b p.1 q.1

  pub with_one : {Y : Type 0} (I : Y → Type 0) (r : Reason) (R : Y → Outcome X) → ((x y : Y) → I x → I y → x ≡ y) → Own r → ((y : Y) → IsLawful Own Open (R y)) → IsLawful Own Open (WithOne I r R)
  with_one {Y} I r R one o l = record { kept = keeps; one = ones }
    where
      keeps : (a : Result X Reason) → WithOne I r R a → IsKept Own a
      keeps a (inl p) = refused_kept a r o p.1
      keeps a (inr p) = (l p.0).kept a p.2

      ones : (a b : Result X Reason) → WithOne I r R a → WithOne I r R b → Alike Open a b
      ones a b (inl p) (inl q) = inr (inl (p.1 ∙ sym q.1))
      ones a b (inl p) (inr q) = absurd (p.0 q.0 q.1)
      ones a b (inr p) (inl q) = absurd (q.0 p.0 p.1)
      ones a b (inr p) (inr q) = (l p.0).one a b p.2 (subst (λ y. R y b) (one q.0 p.0 q.1 p.1) q.2)

  pub with_some : {Y : Type 0} (y : Option Y) (r : Reason) (R : Y → Outcome X) → Own r → ((y : Y) → IsLawful Own Open (R y)) → IsLawful Own Open (WithSome y r R)
  with_some (Some y) r R o l = l y
  with_some None r R o l = same_lawful (Err r) o

  pub for_such : {Y : Type 0} (I : Y → Type 0) (R : Y → Outcome X) → ((x y : Y) → I x → I y → x ≡ y) → ((y : Y) → IsLawful Own Open (R y)) → IsLawful Own Open (ForSuch I R)
  for_such {Y} I R one l = record {
    kept = λ a p. (l p.0).kept a p.2;
    one = λ a b p q. (l p.0).one a b p.2 (subst (λ y. R y b) (one q.0 p.0 q.1 p.1) q.2);
  }

  -- any such value may be given
  pub open_such : {Y : Type 0} (I : Y → Type 0) (f : Y → X) → Open.texts → IsLawful Own Open (ForSuch I (λ y. Gives (f y)))
  open_such {Y} I f o = record {
    kept = λ a p. subst (IsKept Own) (sym p.2) tt;
    one = λ a b p q. agree_at a b (Ok (f p.0)) (Ok (f q.0)) p.2 q.2 (inr (inr (inr (inl (o, tt, tt)))));
  }

  -- a refusal that may come or not, where it is past bounds, and so is each refusal of what comes after
  pub may : (C : Reason → Type 0) (R : Outcome X) → ((r : Reason) → C r → Own r) → ((r : Reason) → C r → IsPastReason r × Open.refusals r) → ((a : Result X Reason) → R a → IsKept IsPastReason a) → IsLawful Own Open R → IsLawful Own Open (MayRefuse C R)
  may C R o f k l = record { kept = keeps; one = ones }
    where
      keeps : (a : Result X Reason) → MayRefuse C R a → IsKept Own a
      keeps a (inl p) = refused_kept a p.0 (o p.0 p.1) p.2
      keeps a (inr p) = l.kept a p

      before : (r : Reason) (b : Result X Reason) → IsPastReason r × Open.refusals r → IsKept IsPastReason b → Alike Open (Err r) b
      before r (Ok x) p q = inr (inr (inr (inr (inr (p.1, tt)))))
      before r (Err s) p q = inr (inr (inl (p.0, q)))

      behind : (a : Result X Reason) (r : Reason) → IsPastReason r × Open.refusals r → IsKept IsPastReason a → Alike Open a (Err r)
      behind (Ok x) r p q = inr (inr (inr (inr (inl (tt, p.1)))))
      behind (Err s) r p q = inr (inr (inl (q, p.0)))

      ones : (a b : Result X Reason) → MayRefuse C R a → MayRefuse C R b → Alike Open a b
      ones a b (inl p) (inl q) = agree_at a b (Err p.0) (Err q.0) p.2 q.2 (inr (inr (inl ((f p.0 p.1).0, (f q.0 q.1).0))))
      ones a b (inl p) (inr q) = subst (λ c. Alike Open c b) (sym p.2) (before p.0 b (f p.0 p.1) (k b q))
      ones a b (inr p) (inl q) = subst (λ c. Alike Open a c) (sym q.2) (behind a q.0 (f q.0 q.1) (k a p))
      ones a b (inr p) (inr q) = l.one a b p q

  pub after : {Y : Type 0} (P : Outcome Y) (R : Y → Outcome X) → IsLawful Own decided P → ((y : Y) → IsLawful Own Open (R y)) → IsLawful Own Open (Then P R)
  after {Y} P R k l = record { kept = keeps; one = ones }
    where
      keeps : (a : Result X Reason) → Then P R a → IsKept Own a
      keeps a (inl p) = refused_kept a p.0 (k.kept (Err p.0) p.1) p.2
      keeps a (inr p) = (l p.0).kept a p.2

      refusals : (r s : Reason) → Alike {X = Y} decided (Err r) (Err s) → Alike {X = X} Open (Err r) (Err s)
      refusals r s (inl f) = inl f
      refusals r s (inr (inl e)) = inr (inl (ap (λ x. Err x) (same_reason r s e)))
      refusals r s (inr (inr (inl p))) = inr (inr (inl p))
      refusals r s (inr (inr (inr (inl o)))) = absurd o.0
      refusals r s (inr (inr (inr (inr (inl m))))) = absurd m.0
      refusals r s (inr (inr (inr (inr (inr m))))) = absurd m.1

      ones : (a b : Result X Reason) → Then P R a → Then P R b → Alike Open a b
      ones a b (inl p) (inl q) = agree_at a b (Err p.0) (Err q.0) p.2 q.2 (refusals p.0 q.0 (k.one (Err p.0) (Err q.0) p.1 q.1))
      ones a b (inl p) (inr q) = inl (inl (subst IsFree (sym p.2) (free_first p.0 q.0 (k.one (Err p.0) (Ok q.0) p.1 q.1))))
      ones a b (inr p) (inl q) = inl (inr (subst IsFree (sym q.2) (free_second p.0 q.0 (k.one (Ok p.0) (Err q.0) p.1 q.1))))
      ones a b (inr p) (inr q) = (l p.0).one a b p.2 (subst (λ y. R y b) (same_values q.0 p.0 (k.one (Ok q.0) (Ok p.0) q.1 p.1)) q.2)
