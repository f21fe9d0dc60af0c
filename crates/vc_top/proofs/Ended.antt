-- What the status says of the answer.
use Rattle.std.proofs.Common.{◌≡◌, ◌≢◌, ◌⊎◌, ◌∙◌, ℕ, Bool, List, Option, None, Some, Result, Ok, Err, refl, sym, ap, subst, inl, inr}
use Rattle.std.specs.Io.KnownBytes.{Appends}
use Rattle.vc_aut.specs.Labelled.{Labelled}
use Rattle.vc_command.specs.Requests.{Asked}
use Rattle.vc_command.specs.declared.request.RequestFault.{RequestFault}
use Rattle.vc_command.specs.declared.request.RequestFault.TheVariants as words
use Rattle.vc_lines.specs.Heads.{HeadLine}
use Rattle.vc_files.specs.Files.{Bytes}
use Rattle.vc_files.specs.Sink.{Rose, AppendsFront}
use Rattle.vc_label.specs.declared.tape_set.TapeSet.{TapeSet}
use Rattle.vc_model.specs.Lists.{In}
use Rattle.vc_ring.specs.Texts.{WeightTexts}
use Rattle.vc_ring.specs.declared.faults.Measure.TheVariants as measure
use Rattle.vc_top.specs.Answers.{Allows, HasCause, IsUsage, names_of}
use Rattle.vc_top.specs.Delivery.{Delivers, IsSent, Reports}
use Rattle.vc_top.specs.Inputs.{Input, IsUnfit, ReadsBytes, ReadsFile, ReadsLines, ReadsSound, ReadsText}
use Rattle.vc_top.specs.Messages.{message}
use Rattle.vc_top.specs.Outcomes.{Answer, OrMemory}
use Rattle.vc_top.specs.Plans.{Answers, IsUnbuilt, Plan, files_of, of_file, of_files, of_texts, plan_of, unbuilt}
use Rattle.vc_top.specs.Reasons.{Reason, status_of, usage, unread, unwritten, syntax, no_label, no_star, empty_circuit, overflow, limit, contexts, order, no_memory}
use Rattle.vc_top.specs.Rows.{IsRun}
use Rattle.vc_top.specs.Seen.{HasFailed, Seen}
use Rattle.vc_top.specs.Sets.{absorbs, texts_of}
use Rattle.vc_top.specs.Views.{reason_of_words}
use Rattle.vc_top.specs.declared.refusal.Bound.TheVariants.{Of, Words}
use Rattle.vc_top.specs.declared.status.Status.{Status}
use Rattle.vc_top.specs.declared.status.Status.TheVariants as status
use Rattle.vc_top.proofs.Commands.{IsLawfulPlan, IsTextReason, IsWordReason}
use Rattle.vc_top.proofs.Lawful.{Freedom, IsKept}

-- the reasons of a status, where they matter here
abbrev IsReasonOf : Status → Reason → Type 0
IsReasonOf status.Done r = ⊥
IsReasonOf status.Usage r = r ≡ usage
IsReasonOf status.ReadFault r = (file : Bytes) × (r ≡ unread file)
IsReasonOf status.WriteFault r = r ≡ unwritten
IsReasonOf other r = Unit {0}

own : (r : Reason) → IsReasonOf (status_of r) r
own usage = refl
own (unread file) = (file, refl)
own unwritten = refl
own (syntax spot) = tt
own (no_label spot) = tt
own no_star = tt
own empty_circuit = tt
own overflow = tt
own (limit bound) = tt
own contexts = tt
own order = tt
own no_memory = tt

reason_is : (s : Status) (r : Reason) → s ≡ status_of r → IsReasonOf s r
reason_is s r e = subst (λ x. IsReasonOf x r) (sym e) (own r)

abbrev refused : {X : Type 0} → Reason → Result X Reason
refused reason = Err reason

same_reason : {X : Type 0} (x y : Reason) → refused {X = X} x ≡ refused y → x ≡ y
same_reason x y h = cc h

no_given : {X : Type 0} (x : X) (r : Reason) → refused r ≡ Ok x → ⊥
no_given x r e = cc e

-- for which reasons the lines of a file are refused, and its text
module _ {V : Type 0} (T : WeightTexts V) (file : Bytes) (sets : List TapeSet) (h : HeadLine) where
  unfit_reason : (reason : Reason) → IsUnfit T sets h reason → IsTextReason reason
  unfit_reason reason (inl p) = subst IsTextReason (sym p.0) tt
  unfit_reason reason (inr (inl p)) = subst IsTextReason (sym p.0) tt
  unfit_reason reason (inr (inr p)) = subst IsTextReason (sym p.0) tt

  lines_kept : (r : Result (Labelled V) Reason) → ReadsLines T file sets h r → IsKept IsTextReason r
  lines_kept r (inl p) = subst (IsKept IsTextReason) (sym p.2) tt
  lines_kept r (inr (n, inl p)) = subst (IsKept IsTextReason) (sym p.2) tt
  lines_kept r (inr (n, inr (m, inl p))) = subst (IsKept IsTextReason) (sym p.2) (unfit_reason p.0 p.1)
  lines_kept r (inr (n, inr (m, inr p))) = subst (IsKept IsTextReason) (sym p.1.2) tt

  sound_kept : (is_absorbing : Bool) (r : Result (Labelled V) Reason) → ReadsSound T is_absorbing file sets h r → IsKept IsTextReason r
  sound_kept is_absorbing r (inl p) = subst (IsKept IsTextReason) (sym p.2) (lines_kept (Err p.0) p.1)
  sound_kept is_absorbing r (inr (a, k, inl p)) = subst (IsKept IsTextReason) (sym p.1) tt
  sound_kept is_absorbing r (inr (a, k, inr p)) = subst (IsKept IsTextReason) (sym p.1) tt

text_kept : (file bytes : Bytes) (r : Result Input Reason) → ReadsText file bytes r → IsKept IsTextReason r
text_kept file bytes r (inl p) = subst (IsKept IsTextReason) (sym p.1) tt
text_kept file bytes r (inr (f, h, inl p)) = subst (IsKept IsTextReason) (sym p.2) (sound_kept (texts_of f.weights) file f.sets f.head (absorbs f.weights) (Err p.0) p.1)
text_kept file bytes r (inr (f, h, inr p)) = subst (IsKept IsTextReason) (sym p.2) tt

-- what a reason says of the plan, and of the files
module _ (seen : Seen) where
  text_cause : (plan : Plan) (r : Reason) → IsTextReason r → HasCause plan seen r
  text_cause plan usage t = absurd t
  text_cause plan (unread file) t = absurd t
  text_cause plan unwritten t = absurd t
  text_cause plan (syntax spot) t = tt
  text_cause plan (no_label spot) t = tt
  text_cause plan no_star t = tt
  text_cause plan empty_circuit t = tt
  text_cause plan overflow t = tt
  text_cause plan (limit (Of measure.Bytes)) t = absurd t
  text_cause plan (limit (Of measure.Depth)) t = tt
  text_cause plan (limit (Of measure.States)) t = tt
  text_cause plan (limit (Of measure.Transitions)) t = tt
  text_cause plan (limit (Of measure.Closure)) t = tt
  text_cause plan (limit (Of measure.Cells)) t = tt
  text_cause plan (limit (Of measure.Nodes)) t = tt
  text_cause plan (limit Words) t = tt
  text_cause plan contexts t = tt
  text_cause plan order t = tt
  text_cause plan no_memory t = tt

  -- the same of a command on texts, which may be too long
  texts_cause : (texts : Answer → Type 0) (r : Reason) → IsWordReason r → texts (Err r) → HasCause (of_texts texts) seen r
  texts_cause texts (limit (Of measure.Bytes)) t p = inr p
  texts_cause texts usage t p = absurd t
  texts_cause texts (unread file) t p = absurd t
  texts_cause texts unwritten t p = absurd t
  texts_cause texts (syntax spot) t p = tt
  texts_cause texts (no_label spot) t p = tt
  texts_cause texts no_star t p = tt
  texts_cause texts empty_circuit t p = tt
  texts_cause texts overflow t p = tt
  texts_cause texts (limit (Of measure.Depth)) t p = tt
  texts_cause texts (limit (Of measure.States)) t p = tt
  texts_cause texts (limit (Of measure.Transitions)) t p = tt
  texts_cause texts (limit (Of measure.Closure)) t p = tt
  texts_cause texts (limit (Of measure.Cells)) t p = tt
  texts_cause texts (limit (Of measure.Nodes)) t p = tt
  texts_cause texts (limit Words) t p = tt
  texts_cause texts contexts t p = tt
  texts_cause texts order t p = tt
  texts_cause texts no_memory t p = tt

  bytes_cause : (plan : Plan) (file : Bytes) → In file (files_of plan) → (r : Reason) → ReadsBytes seen file (Err r) → HasCause plan seen r
  bytes_cause plan file i r (inl p) = subst (HasCause plan seen) (sym (same_reason r (unread file) p.0)) (i, p.1)
  bytes_cause plan file i r (inr (bytes, t, inl p)) = subst (HasCause plan seen) (sym (same_reason r (limit (Of measure.Bytes)) p.1)) (inl (file, i, (bytes, t, p.0)))
  bytes_cause plan file i r (inr (bytes, t, inr p)) = absurd (no_given bytes r p.1)

  file_cause : (plan : Plan) (file : Bytes) → In file (files_of plan) → (r : Reason) → ReadsFile seen file (Err r) → HasCause plan seen r
  file_cause plan file i r (inl p) = subst (HasCause plan seen) (sym (same_reason r p.0 p.2)) (bytes_cause plan file i p.0 p.1)
  file_cause plan file i r (inr p) = text_cause plan r (text_kept file p.0 (Err r) p.2)

  module _ (Open : Freedom) where
    answer_cause : (plan : Plan) → IsLawfulPlan Open plan → (r : Reason) → Answers plan seen (Err r) → HasCause plan seen r
    answer_cause unbuilt l r p = subst (HasCause unbuilt seen) (sym (same_reason r usage p)) tt
    answer_cause (of_texts texts) l r p = texts_cause texts r (l.kept (Err r) p) p
    answer_cause (of_file file rest) l r (inl p) = subst (HasCause (of_file file rest) seen) (sym (same_reason r p.0 p.2)) (file_cause (of_file file rest) file (inl refl) p.0 p.1)
    answer_cause (of_file file rest) l r (inr p) = text_cause (of_file file rest) r ((l p.0).kept (Err r) p.2)
    answer_cause (of_files first second rest) l r (inl p) = subst (HasCause (of_files first second rest) seen) (sym (same_reason r p.0 p.2)) (file_cause (of_files first second rest) first (inl refl) p.0 p.1)
    answer_cause (of_files first second rest) l r (inr (x, p, inl q)) = subst (HasCause (of_files first second rest) seen) (sym (same_reason r q.0 q.2)) (file_cause (of_files first second rest) second (inr (inl refl)) q.0 q.1)
    answer_cause (of_files first second rest) l r (inr (x, p, inr q)) = text_cause (of_files first second rest) r ((l x q.0).kept (Err r) q.2)

    ending : (request : Option Asked) → IsLawfulPlan Open (plan_of request) → (r : Reason) → Allows request seen (Err r) → HasCause (plan_of request) seen r
    ending request l r (inl e) = subst (HasCause (plan_of request) seen) (sym (same_reason r no_memory e)) tt
    ending request l r (inr p) = answer_cause (plan_of request) l r p

  -- words that give no request
  pub words_refused : (request : Option Asked) (f : RequestFault) → (f ≡ words.Usage → request ≡ None) → Allows request seen (Err (reason_of_words f))
  words_refused request words.Usage n = subst (λ r. Allows r seen (Err usage)) (sym (n refl)) (inr refl)
  words_refused request (words.Memory e) n = inl refl

  -- an answer to no request
  for_usage : (plan : Plan) (a : Answer) → IsUnbuilt plan → OrMemory (Answers plan seen) a → (a ≡ Err no_memory) ⊎ (a ≡ Err usage)
  for_usage unbuilt a u p = p
  for_usage (of_texts texts) a u p = absurd u
  for_usage (of_file file rest) a u p = absurd u
  for_usage (of_files first second rest) a u p = absurd u

  module _ (Open : Freedom) (request : Option Asked) (lawful : IsLawfulPlan Open (plan_of request)) (ended : Status) (old new told now : Option Bytes) (before after first last : ℕ) where
    ended_printed : (a : Answer) (left : Option Reason) → Allows request seen a → Delivers a left old new before after → Reports left ended told now first last
        → ended ≡ status.Done → (text : Bytes) × Allows request seen (Ok text) × Appends old new text
    ended_printed (Ok text) None p d r e = (text, p, d)
    ended_printed (Ok text) (Some reason) p d r e = absurd (reason_is status.Done reason (sym e ∙ r.0))
    ended_printed (Err x) None p d r e = absurd d
    ended_printed (Err x) (Some reason) p d r e = absurd (reason_is status.Done reason (sym e ∙ r.0))

    ended_front : (a : Answer) (left : Option Reason) → Allows request seen a → Delivers a left old new before after → Reports left ended told now first last
        → ended ≡ status.WriteFault → (text : Bytes) × Allows request seen (Ok text) × AppendsFront old new text × IsSent (message unwritten) told now first last
    ended_front (Ok text) None p d r e = absurd (cc (sym e ∙ r.0))
    ended_front (Ok text) (Some reason) p d r e = front reason (reason_is status.WriteFault reason (sym e ∙ r.0)) d r.1
      where
        front : (x : Reason) → x ≡ unwritten → Delivers (Ok text) (Some x) old new before after → IsSent (message x) told now first last
            → (t : Bytes) × Allows request seen (Ok t) × AppendsFront old new t × IsSent (message unwritten) told now first last
        front unwritten h k s = (text, p, k.0, s)
        front other h k s = absurd k
    ended_front (Err x) None p d r e = absurd d
    ended_front (Err x) (Some reason) p d r e = absurd (ending Open request lawful unwritten (subst (λ y. Allows request seen (Err y)) (sym d.0 ∙ reason_is status.WriteFault reason (sym e ∙ r.0)) p))

    ended_cause : (a : Answer) (left : Option Reason) → Allows request seen a → Delivers a left old new before after → Reports left ended told now first last
        → ended ≢ status.Done → ended ≢ status.WriteFault → (reason : Reason) × (ended ≡ status_of reason) × Allows request seen (Err reason) × HasCause (plan_of request) seen reason × IsSent (message reason) told now first last
    ended_cause (Ok text) None p d r m n = absurd (m r.0)
    ended_cause (Ok text) (Some reason) p d r m n = absurd (fault reason d r.0)
      where
        fault : (x : Reason) → Delivers (Ok text) (Some x) old new before after → ended ≡ status_of x → ⊥
        fault unwritten k h = n h
        fault other k h = k
    ended_cause (Err x) None p d r m n = absurd d
    ended_cause (Err x) (Some reason) p d r m n = let k = subst (λ y. Allows request seen (Err y)) (sym d.0) p in (reason, r.0, k, ending Open request lawful reason k, r.1)

    ended_nothing : (a : Answer) (left : Option Reason) → Delivers a left old new before after → Reports left ended told now first last
        → ended ≢ status.Done → ended ≢ status.WriteFault → new ≡ old
    ended_nothing (Ok text) None d r m n = absurd (m r.0)
    ended_nothing (Ok text) (Some reason) d r m n = absurd (fault reason d r.0)
      where
        fault : (x : Reason) → Delivers (Ok text) (Some x) old new before after → ended ≡ status_of x → ⊥
        fault unwritten k h = n h
        fault other k h = k
    ended_nothing (Err x) None d r m n = absurd d
    ended_nothing (Err x) (Some reason) d r m n = d.1

    ended_silent : (a : Answer) (left : Option Reason) → Delivers a left old new before after → Reports left ended told now first last → ended ≡ status.Done → (now ≡ told) × (last ≡ first)
    ended_silent a None d r e = (r.1, r.2)
    ended_silent a (Some reason) d r e = absurd (reason_is status.Done reason (sym e ∙ r.0))

    ended_usage : (a : Answer) (left : Option Reason) → Allows request seen a → Delivers a left old new before after → Reports left ended told now first last
        → ended ≡ status.Usage → IsUsage request
    ended_usage (Ok text) None p d r e = absurd (cc (sym e ∙ r.0))
    ended_usage (Ok text) (Some reason) p d r e = absurd (fault reason (reason_is status.Usage reason (sym e ∙ r.0)) d)
      where
        fault : (x : Reason) → x ≡ usage → Delivers (Ok text) (Some x) old new before after → ⊥
        fault unwritten h k = cc h
        fault other h k = k
    ended_usage (Err x) None p d r e = absurd d
    ended_usage (Err x) (Some reason) p d r e = ending Open request lawful usage (subst (λ y. Allows request seen (Err y)) (sym d.0 ∙ reason_is status.Usage reason (sym e ∙ r.0)) p)

    ended_asked : (a : Answer) (left : Option Reason) → Allows request seen a → Delivers a left old new before after → Reports left ended told now first last
        → IsUsage request → (ended ≡ status.Usage) ⊎ (ended ≡ status.Memory)
    ended_asked a left p d r u = go a left (for_usage (plan_of request) a u p) d r
      where
        go : (x : Answer) (l : Option Reason) → (x ≡ refused no_memory) ⊎ (x ≡ refused usage) → Delivers x l old new before after → Reports l ended told now first last → (ended ≡ status.Usage) ⊎ (ended ≡ status.Memory)
        go (Ok text) l (inl e) k h = absurd (cc e)
        go (Ok text) l (inr e) k h = absurd (cc e)
        go (Err x) None e k h = absurd k
        go (Err x) (Some reason) (inl e) k h = inr (h.0 ∙ ap status_of (k.0 ∙ same_reason x no_memory e))
        go (Err x) (Some reason) (inr e) k h = inl (h.0 ∙ ap status_of (k.0 ∙ same_reason x usage e))

    ended_unread : (a : Answer) (left : Option Reason) → Allows request seen a → Delivers a left old new before after → Reports left ended told now first last
        → ended ≡ status.ReadFault → (file : Bytes) × In file (names_of request) × HasFailed seen file × IsSent (message (unread file)) told now first last
    ended_unread (Ok text) None p d r e = absurd (cc (sym e ∙ r.0))
    ended_unread (Ok text) (Some reason) p d r e = absurd (fault reason (reason_is status.ReadFault reason (sym e ∙ r.0)) d)
      where
        fault : (x : Reason) → (file : Bytes) × (x ≡ unread file) → Delivers (Ok text) (Some x) old new before after → ⊥
        fault unwritten h k = cc h.1
        fault other h k = k
    ended_unread (Err x) None p d r e = absurd d
    ended_unread (Err x) (Some reason) p d r e =
        let u = reason_is status.ReadFault reason (sym e ∙ r.0) in
        let k = ending Open request lawful (unread u.0) (subst (λ y. Allows request seen (Err y)) (sym d.0 ∙ u.1) p) in
        (u.0, k.0, k.1, subst (λ y. IsSent (message y) told now first last) u.1 r.1)

    ended_rose : (a : Answer) (left : Option Reason) → Allows request seen a → Delivers a left old new before after → Reports left ended told now first last
        → ended ≡ status.WriteFault → Rose before after
    ended_rose (Ok text) None p d r e = absurd (cc (sym e ∙ r.0))
    ended_rose (Ok text) (Some reason) p d r e = rose reason d
      where
        rose : (x : Reason) → Delivers (Ok text) (Some x) old new before after → Rose before after
        rose unwritten k = k.1
        rose other k = absurd k
    ended_rose (Err x) None p d r e = absurd d
    ended_rose (Err x) (Some reason) p d r e = absurd (ending Open request lawful unwritten (subst (λ y. Allows request seen (Err y)) (sym d.0 ∙ reason_is status.WriteFault reason (sym e ∙ r.0)) p))

    pub ends : (a : Answer) (left : Option Reason) → Allows request seen a → Delivers a left old new before after → Reports left ended told now first last
        → IsRun request seen ended (record { old = old; new = new; before = before; after = after }) (record { old = told; new = now; before = first; after = last })
    ends a left p d r = record {
      answer = (a, left, p, d, r);
      printed = ended_printed a left p d r;
      front = ended_front a left p d r;
      cause = ended_cause a left p d r;
      nothing = ended_nothing a left d r;
      silent = ended_silent a left d r;
      usage = ended_usage a left p d r;
      asked = ended_asked a left p d r;
      read_fault = ended_unread a left p d r;
      write_fault = ended_rose a left p d r;
    }
