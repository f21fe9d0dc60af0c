-- What a command reads that reads two files.
use Rattle.std.proofs.Common.{List, [], ◌∷◌, ◌++◌, Option, Result, Ok, Err, ap, ◌∙◌, inl, inr, append_assoc}
use Rattle.vc_files.specs.Files.{Bytes, Grows, Held}
use Rattle.vc_model.specs.Members.{In-append_left, In-append_right}
use Rattle.vc_top.specs.Inputs.{Input, ReadsBytes, ReadsFile}
use Rattle.vc_top.specs.Outcomes.{Answer, Outcome, OrMemory, Then}
use Rattle.vc_top.specs.Reasons.{Reason}
use Rattle.vc_top.specs.Seen.{HasFailed, seen}
use Rattle.vc_top.proofs.Outcomes.{then_given, then_refused}

-- what is read over a part of a call is read over all of it, where each fault of the part is one of all
module _ (held : Option Held) (before middle old new : List Bytes) (file : Bytes) (fails : HasFailed (seen held old middle) file → HasFailed (seen held before new) file) where
  bytes_over : {r : Result Bytes Reason} → ReadsBytes (seen held old middle) file r → ReadsBytes (seen held before new) file r
  bytes_over (inl p) = inl (p.0, fails p.1)
  bytes_over (inr p) = inr p

  file_over : (r : Result Input Reason) → OrMemory (ReadsFile (seen held old middle) file) r → OrMemory (ReadsFile (seen held before new) file) r
  file_over r (inl e) = inl e
  file_over r (inr (inl p)) = inr (inl (p.0, bytes_over p.1, p.2))
  file_over r (inr (inr p)) = inr (inr (p.0, bytes_over p.1, p.2))

module _ (held : Option Held) (old middle new : List Bytes) (first second : Bytes) (g : Grows (first ∷ []) old middle) (h : Grows (second ∷ []) middle new) where
  failed_first : HasFailed (seen held old middle) first → HasFailed (seen held old new) first
  failed_first (added, e, i) = (added ++ h.added, h.at_end ∙ ap (λ xs. xs ++ h.added) e ∙ append_assoc old added h.added, In-append_left first added h.added i)

  failed_second : HasFailed (seen held middle new) second → HasFailed (seen held old new) second
  failed_second (added, e, i) = (g.added ++ added, e ∙ ap (λ xs. xs ++ added) g.at_end ∙ append_assoc old g.added added, In-append_right second g.added added i)

  module _ (rest : Input → Input → Outcome Bytes) (x : Input) (read : OrMemory (ReadsFile (seen held old middle) first) (Ok x)) where
    abbrev Both : Outcome Bytes
    Both = Then (ReadsFile (seen held old new) first) (λ z. Then (ReadsFile (seen held old new) second) (rest z))

    after_first : (b : Answer) → OrMemory (Then (ReadsFile (seen held old new) second) (rest x)) b → OrMemory Both b
    after_first b p = then_given (ReadsFile (seen held old new) first) (λ z. Then (ReadsFile (seen held old new) second) (rest z)) x b (file_over held old middle old new first failed_first (Ok x) read) p

    -- both files are read
    pub both_read : (y : Input) (b : Answer) → OrMemory (ReadsFile (seen held middle new) second) (Ok y) → OrMemory (rest x y) b → OrMemory Both b
    both_read y b p q = after_first b (then_given (ReadsFile (seen held old new) second) (rest x) y b (file_over held old new middle new second failed_second (Ok y) p) q)

    -- the second is not
    pub second_unread : (r : Reason) → OrMemory (ReadsFile (seen held middle new) second) (Err r) → OrMemory Both (Err r)
    second_unread r p = after_first (Err r) (then_refused (ReadsFile (seen held old new) second) (rest x) r (file_over held old new middle new second failed_second (Err r) p))
