-- A name has the bytes of one file, or of none.
use Rattle.std.proofs.Common.{◌≡◌, ◌≢◌, ◌≤◌, ◌⊎◌, ℕ, List, [], ◌∷◌, length, Bool, true, false, nat_eq, Result, Ok, Err, refl, sym, subst, ◌∙◌, inl, inr}
use Rattle.std.specs.Global.{Vec}
use lib.Pointwise.{pointwise}
use Rattle.vc_files.specs.Files.{Bytes, Held, Holds, Lacks}
use Rattle.vc_files.specs.Reading.{IsUnfailed, Brings, HasReadCause}
use Rattle.vc_files.specs.declared.files.ReadFault.{ReadFault}
use Rattle.vc_files.specs.declared.files.ReadFault.TheVariants.{Failed, TooLong, Memory}
use Rattle.vc_files.proofs.Names.{names_same, names_differ}

-- a name has the bytes of one file
pub one_file : (files : Held) (name first second : Bytes) → Holds files name first → Holds files name second → first ≡ second
one_file [] name first second p q = absurd p
one_file (f ∷ files) name first second (inl p) (inl q) = sym p.1 ∙ q.1
one_file (f ∷ files) name first second (inl p) (inr q) = absurd (q.0 p.0)
one_file (f ∷ files) name first second (inr p) (inl q) = absurd (p.0 q.0)
one_file (f ∷ files) name first second (inr p) (inr q) = one_file files name first second p.1 q.1

-- two texts are the same or not
same_or_not : (a b : Bytes) → (a ≡ b) ⊎ (a ≢ b)
same_or_not a b = at (pointwise nat_eq a b) refl
  where
    at : (t : Bool) → pointwise nat_eq a b ≡ t → (a ≡ b) ⊎ (a ≢ b)
    at true e = inl (names_same a b e)
    at false e = inr (names_differ a b e)

-- a name is held or not
pub held_or_not : (files : Held) (name : Bytes) → ((bytes : Bytes) × Holds files name bytes) ⊎ Lacks files name
held_or_not [] name = inr (λ b h. h)
held_or_not (f ∷ files) name = at (same_or_not f.0 name) (held_or_not files name)
  where
    none : f.0 ≢ name → Lacks files name → (bytes : Bytes) → Holds (f ∷ files) name bytes → ⊥
    none n l bytes (inl p) = n p.0
    none n l bytes (inr p) = l bytes p.1

    at : (f.0 ≡ name) ⊎ (f.0 ≢ name) → ((bytes : Bytes) × Holds files name bytes) ⊎ Lacks files name → ((bytes : Bytes) × Holds (f ∷ files) name bytes) ⊎ Lacks (f ∷ files) name
    at (inl e) rest = inl (f.1, inl (e, refl))
    at (inr n) (inl h) = inl (h.0, inr (n, h.1))
    at (inr n) (inr l) = inr (none n l)

-- an answer of files in memory with its cause is the one that the bytes of the name bring
pub brings_held : (failing : List ℕ) (number : ℕ) (files : Held) (name : Bytes) (most : ℕ) (r : Result (Vec ℕ) ReadFault) (bytes : Bytes)
    → HasReadCause failing number files name most r → IsUnfailed r → Holds files name bytes → Brings bytes most r
brings_held failing number files name most (Ok got) bytes c u h =
    let e = one_file files name got.items bytes c.1 h in (e, subst (λ b. length b ≤ most) e c.2)
brings_held failing number files name most (Err Failed) bytes c u h = u
brings_held failing number files name most (Err (TooLong taken)) bytes c u h =
    let e = one_file files name c.1 bytes c.2 h in subst (λ b. Brings b most (Err (TooLong taken))) e c.3
brings_held failing number files name most (Err (Memory e)) bytes c u h = tt
