-- A file that was not read is among the faults.
use Rattle.std.proofs.Common.{◌≡◌, ◌<◌, ◌++◌, ◌∷◌, [], List, length, refl, sym, subst, inl, inr, arith}
use Rattle.std.proofs.lemmas.List.{length-append}
use Rattle.vc_files.specs.Files.{Added, Bytes, Grows}
use Rattle.vc_model.specs.Lists.{In}
use Rattle.vc_top.specs.Seen.{HasFailed, Seen}

-- the first of names that were added is the one name that may be
pub has_failed : (s : Seen) (name : Bytes) → Grows (name ∷ []) s.before s.after → Added s.before s.after → HasFailed s name
has_failed s name g a = (g.added, g.at_end, go g.added g.each (subst (λ l. length s.before < length l) g.at_end a))
  where
    only : (other : Bytes) → In other (name ∷ []) → name ≡ other
    only other (inl e) = sym e
    only other (inr i) = absurd i

    go : (added : List Bytes) → ((other : Bytes) → In other added → In other (name ∷ [])) → length s.before < length (s.before ++ added) → In name added
    go [] each h = absurd (omega (arith, h, length-append s.before []))
    go (x ∷ xs) each h = inl (only x (each x (inl refl)))
