-- Each answer of the reader has its place in the order of refusals.
use Rattle.std.proofs.Common.{◌≡◌, ◌+◌, ℕ, Bool, true, false, List, [], ◌∷◌, Option, None, Some, Result, Ok, Err, refl, sym, ap, ◌∙◌, inl, inr, subst}
use Rattle.std.specs.Prelude.{length, nat_lt, if◌then◌else◌}
use Rattle.vc_aut.specs.Drafts.{Draft}
use Rattle.vc_aut.specs.Labelled.{Labelled}
use Rattle.vc_aut.specs.Refusals.{weight_refusal}
use Rattle.vc_aut.specs.Sums.{standing}
use Rattle.vc_reader.specs.Additions.{HasManyTriples, IsUnfitAddition}
use Rattle.vc_reader.specs.Answers.{IsPastLimit}
use Rattle.vc_reader.specs.Answers as answer
use Rattle.vc_reader.specs.Building.{IsRefused, given_refusal, with_given}
use Rattle.vc_lines.specs.Heads.{HeadLine}
use Rattle.vc_reader.specs.Meaning.{Given, begins, ends, moves_by}
use Rattle.vc_reader.specs.Readings.{IsSameReading, IsWantOfMemory, IsPastBounds}
use Rattle.vc_reader.specs.Spelling.{bad_line}
use Rattle.vc_reader.specs.declared.fault.DautFault.{DautFault}
use Rattle.vc_reader.specs.declared.fault.DautFault.TheVariants as fault
use Rattle.vc_files.specs.Files.{Bytes}
use Rattle.vc_label.specs.declared.tape_set.TapeSet.{TapeSet}
use Rattle.vc_model.specs.Automata.{Automaton, initial_weight, final_weight}
use Rattle.vc_model.specs.WeightSet.{WeightSet}
use Rattle.vc_ring.specs.Texts.{WeightTexts}
use Rattle.vc_ring.specs.declared.faults.Limit.{Limit as PastLimit}
use Rattle.vc_ring.specs.declared.faults.MakeFault.{MakeFault}
use Rattle.vc_ring.specs.declared.faults.MakeFault.TheVariants as make
use Rattle.vc_ring.specs.declared.faults.Measure.TheVariants.{States, Transitions}
use Rattle.vc_ring.specs.declared.faults.Overflow.TheVariants.{Numeral, Add, Mul, Star}
use Rattle.vc_top.specs.Inputs.{IsBadLine, IsForeignLabel, IsReading, IsUnfit, ReadsLines, SpellsLines}
use Rattle.vc_top.specs.Outcomes.{ForSuch, Gives, OrMemory, UnlessAny}
use Rattle.vc_top.specs.Reasons.{Reason, limit, overflow}
use Rattle.vc_top.specs.Views.{fault_reason}
use Rattle.vc_top.specs.declared.refusal.Bound.TheVariants.{Of}

abbrev over : {V : Type 0} → List TapeSet → Automaton V → Labelled V
over sets a = record { sets = sets; automaton = a }

-- the two limits of a reader
abbrev states_limit : PastLimit
states_limit = record { what = States; most = 1000000 }

abbrev transitions_limit : PastLimit
transitions_limit = record { what = Transitions; most = 4000000 }

abbrev limited : {V : Type 0} → PastLimit → MakeFault V
limited l = make.Limit l

-- the limit that is passed where something is refused
module _ {V : Type 0} (R : WeightSet V) where
  no_sum : (fits : Bool) (v w : V) (l : PastLimit) → (if fits then None else Some (make.Overflow (Add v w))) ≡ Some (make.Limit l) → ⊥
  no_sum true v w l e = cc e
  no_sum false v w l e = cc e

  full : (room : Bool) (l : PastLimit) → (if room then None else Some (limited {V = V} transitions_limit)) ≡ Some (make.Limit l) → l ≡ transitions_limit
  full true l e = absurd (cc e)
  full false l e = cc e

  weight_limit : (n : ℕ) (w : V) (o : Option V) (l : PastLimit) → weight_refusal R n w o ≡ Some (make.Limit l) → l ≡ transitions_limit
  weight_limit n w None l e = full (nat_lt n 4000000) l e
  weight_limit n w (Some v) l e = absurd (no_sum (R.fits_plus v w) v w l e)

  given_limit : (d : Draft V) (g : Given V) (l : PastLimit) → given_refusal R d g ≡ Some (make.Limit l) → l ≡ transitions_limit
  given_limit d (begins p w) l e = absurd (no_sum (R.fits_plus (initial_weight R d.automaton p) w) (initial_weight R d.automaton p) w l e)
  given_limit d (ends p w) l e = absurd (no_sum (R.fits_plus (final_weight R d.automaton p) w) (final_weight R d.automaton p) w l e)
  given_limit d (moves_by t) l e = weight_limit (length d.automaton.transitions) t.weight (standing d.automaton.transitions t) l e

  refused_limit : (d : Draft V) (given : List (Given V)) (l : PastLimit) → IsRefused R d given (make.Limit l) → l ≡ transitions_limit
  refused_limit d [] l r = absurd r
  refused_limit d (g ∷ given) l (inl e) = given_limit d g l e
  refused_limit d (g ∷ given) l (inr p) = refused_limit (with_given R d g) given l p.1

module _ {V : Type 0} (T : WeightTexts V) where
  -- what was read, and its place in the order of refusals
  module _ (file : Bytes) (sets : List TapeSet) (h : HeadLine) where
    abbrev pub Read : Result (Labelled V) (DautFault V) → Type 0
    Read r = IsReading T sets h r

    module _
        (apart : (x y : Result (Labelled V) (DautFault V)) → Read x → Read y → IsSameReading x y)
        (added : (line : ℕ) (v w : V) → answer.IsUnfit T sets h line (make.Overflow (Add v w)) → IsUnfitAddition T sets h line v w)
        (counted : (most : ℕ) → IsPastLimit T sets h (record { what = Transitions; most = most }) → (most ≡ 4000000) × HasManyTriples T sets h)
        (fits : (a : Labelled V) (line : ℕ) (v w : V) → answer.IsBuilt T sets h a → IsUnfitAddition T sets h line v w → ⊥)
        (few : (a : Labelled V) → answer.IsBuilt T sets h a → HasManyTriples T sets h → ⊥) where
      -- an answer that is no want of memory and nothing past bounds excludes each other one
      alone : (x y : Result (Labelled V) (DautFault V)) → ¬ IsWantOfMemory x → ¬ IsWantOfMemory y → ¬ (IsPastBounds x × IsPastBounds y) → ¬ (x ≡ y) → Read x → Read y → ⊥
      alone x y mx my p d rx ry = go (apart x y rx ry)
        where
          go : IsSameReading x y → ⊥
          go (inl (inl m)) = mx m
          go (inl (inr m)) = my m
          go (inr (inl e)) = d e
          go (inr (inr b)) = p b

      -- an automaton, or something past its bounds
      abbrev IsSound : Result (Labelled V) (DautFault V) → Type 0
      IsSound (Ok a) = Unit {0}
      IsSound (Err (fault.Syntax line)) = ⊥
      IsSound (Err (fault.NotALabel line from to)) = ⊥
      IsSound (Err (fault.Overflow line step)) = Unit {0}
      IsSound (Err (fault.Limit l)) = Unit {0}
      IsSound (Err (fault.Memory e)) = ⊥

      sound_lines : (x : Result (Labelled V) (DautFault V)) → IsSound x → Read x → bad_line T.spelled (h.number + 1) h.after ≡ None
      sound_lines (Ok a) s r = r.are_lines
      sound_lines (Err (fault.Syntax line)) s r = absurd s
      sound_lines (Err (fault.NotALabel line from to)) s r = absurd s
      sound_lines (Err (fault.Overflow line (Numeral at))) s r = r.0.0
      sound_lines (Err (fault.Overflow line (Add v w))) s r = r.0.0
      sound_lines (Err (fault.Overflow line (Mul v w))) s r = absurd r
      sound_lines (Err (fault.Overflow line (Star v))) s r = absurd r
      sound_lines (Err (fault.Limit l)) s r = r.0.0
      sound_lines (Err (fault.Memory e)) s r = absurd s

      has_memory : (x : Result (Labelled V) (DautFault V)) → IsSound x → ¬ IsWantOfMemory x
      has_memory (Ok a) s m = m
      has_memory (Err (fault.Syntax line)) s m = m
      has_memory (Err (fault.NotALabel line from to)) s m = m
      has_memory (Err (fault.Overflow line step)) s m = m
      has_memory (Err (fault.Limit l)) s m = m
      has_memory (Err (fault.Memory e)) s m = s

      no_bad : (x : Result (Labelled V) (DautFault V)) → IsSound x → Read x → (line : ℕ) → ¬ IsBadLine T h line
      no_bad x s r line b = none_some (bad_line T.spelled (h.number + 1) h.after) (sound_lines x s r) b
        where
          none_some : (o : Option ℕ) → o ≡ None → o ≡ Some line → ⊥
          none_some o e f = cc (sym e ∙ f)

      no_first : (x : Result (Labelled V) (DautFault V)) → IsSound x → Read x → (p : ℕ × (ℕ × ℕ)) → ¬ IsForeignLabel T sets h p
      no_first x s r p f =
          alone x (Err (fault.NotALabel p.0 p.1.0 p.1.1)) (has_memory x s) (λ m. m) (λ b. b.1) (λ e. subst IsSound e s) r (sound_lines x s r, f)

      -- after the first two refusals
      after : (x : Result (Labelled V) (DautFault V)) → IsSound x → Read x → (a : Result (Labelled V) Reason)
          → UnlessAny (IsUnfit T sets h) (λ reason. reason) (ForSuch (SpellsLines T sets h) (λ A. Gives (over sets A))) a → ReadsLines T file sets h a
      after x s r a q = inr (no_bad x s r, inr (no_first x s r, q))

      -- a refusal of what is in the grammar
      unfit : (x : Result (Labelled V) (DautFault V)) → IsSound x → Read x → (reason : Reason) → IsUnfit T sets h reason → OrMemory (ReadsLines T file sets h) (Err reason)
      unfit x s r reason u = inr (after x s r (Err reason) (inl (reason, u, refl)))

      no_unfit_file : (a : Labelled V) → Read (Ok a) → (reason : Reason) → ¬ IsUnfit T sets h reason
      no_unfit_file a r reason u = go u
        where
          past : (f : DautFault V) → ¬ IsWantOfMemory (Err f) → Read (Err f) → ⊥
          past f m q = alone (Ok a) (Err f) (λ n. n) m (λ p. p.0) (λ d. cc d) r q

          go : IsUnfit T sets h reason → ⊥
          go (inl (e, inl (line, at, n))) = past (fault.Overflow line (Numeral at)) (λ m. m) ((r.are_lines, r.over), n)
          go (inl (e, inr (line, v, w, n))) = fits a line v w r n
          go (inr (inl (e, n))) = past (fault.Limit states_limit) (λ m. m) ((r.are_lines, r.over), inl (refl, n))
          go (inr (inr (e, n))) = few a r n

      pub automaton_read : (x : Labelled V) → Read (Ok x) → SpellsLines T sets h x.automaton → x.sets ≡ sets → ReadsLines T file sets h (Ok x)
      automaton_read x r l e = after (Ok x) tt r (Ok x) (inr (no_unfit_file x r, (x.automaton, l, ap (λ s. Ok (over s x.automaton)) e)))

      limit_read : (l : PastLimit) → Read (Err (fault.Limit l)) → IsPastLimit T sets h l → OrMemory (ReadsLines T file sets h) (Err (limit (Of l.what)))
      limit_read l r (inl p) = subst (λ (m : PastLimit). OrMemory (ReadsLines T file sets h) (Err (limit (Of m.what)))) (sym p.0) (unfit (Err (fault.Limit l)) tt r (limit (Of States)) (inr (inl (refl, p.1))))
      limit_read l r (inr (names, n, q)) = subst (λ (m : PastLimit). OrMemory (ReadsLines T file sets h) (Err (limit (Of m.what)))) (sym e) (unfit (Err (fault.Limit transitions_limit)) tt at (limit (Of Transitions)) (inr (inr (refl, (counted 4000000 at.1).1))))
        where
          e : l ≡ transitions_limit
          e = refused_limit T.set _ _ l q

          at : Read (Err (fault.Limit transitions_limit))
          at = subst (λ m. Read (Err (fault.Limit m))) e r

      pub fault_read : (f : DautFault V) → Read (Err f) → OrMemory (ReadsLines T file sets h) (Err (fault_reason file f))
      fault_read (fault.Syntax line) r = inr (inl (line, r, refl))
      fault_read (fault.NotALabel line from to) r = inr (inr (no_line r.0, inl ((line, (from, to)), r.1, refl)))
        where
          no_line : bad_line T.spelled (h.number + 1) h.after ≡ None → (n : ℕ) → ¬ IsBadLine T h n
          no_line e n b = cc (sym e ∙ b)
      fault_read (fault.Overflow line (Numeral at)) r = unfit (Err (fault.Overflow line (Numeral at))) tt r overflow (inl (refl, inl (line, at, r.1)))
      fault_read (fault.Overflow line (Add v w)) r = unfit (Err (fault.Overflow line (Add v w))) tt r overflow (inl (refl, inr (line, v, w, added line v w r.1)))
      fault_read (fault.Overflow line (Mul v w)) r = absurd r
      fault_read (fault.Overflow line (Star v)) r = absurd r
      fault_read (fault.Limit l) r = limit_read l r r.1
      fault_read (fault.Memory e) r = inl refl
