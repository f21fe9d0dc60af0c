-- A request allows one answer over files that tell.
use Rattle.std.proofs.Common.{◌≡◌, ◌∙◌, ◌+◌, ◌<◌, ℕ, ℤ, List, length, Bool, Option, None, Some, Result, Ok, Err, refl, sym, ap, subst, inl, inr}
use Rattle.std.specs.Cmp.{IsTotalOrder}
use Rattle.vc_aut.specs.Labelled.{Labelled}
use Rattle.vc_basic.specs.ResidueLaws.{residue_laws}
use Rattle.vc_basic.specs.TropicalLaws.{tropical_laws}
use Rattle.vc_basic.specs.TruthLaws.{truth_laws}
use Rattle.vc_basic.specs.WholeLaws.{whole_laws}
use Rattle.vc_basic.specs.declared.tropical.NminValue.{NminValue}
use Rattle.vc_command.specs.Requests.{Asked}
use Rattle.vc_context.specs.Spelling.{SpellsContext}
use Rattle.vc_context.specs.declared.context.Weights.{Weights}
use Rattle.vc_context.specs.declared.context.Weights.TheVariants.{B, F2, Z, Q, Nmin}
use Rattle.vc_reader.specs.Answers.{IsReadAfter}
use Rattle.vc_lines.specs.ContextLines.{IsContextLine}
use Rattle.vc_lines.specs.Contexts.{context_in_line}
use Rattle.vc_lines.specs.Heads.{HeadLine, head_line}
use Rattle.vc_lines.specs.Lines.{lines_of}
use Rattle.vc_reader.specs.Readings.{IsSameReading}
use Rattle.vc_reader.specs.Spelling.{Spells, bad_line}
use Rattle.vc_reader.specs.declared.fault.DautFault.{DautFault}
use Rattle.vc_reader.specs.declared.fault.DautFault.TheVariants as fault
use Rattle.vc_files.specs.Files.{Bytes, Held, Holds}
use Rattle.vc_label.specs.Order.{word_order}
use Rattle.vc_label.specs.declared.tape_set.TapeSet.{TapeSet}
use Rattle.vc_model.specs.Automata.{Automaton}
use Rattle.vc_model.specs.WeightSet.{SemiringLaws}
use Rattle.vc_rat.specs.RationalLaws.{rational_laws}
use Rattle.vc_rat.specs.declared.fraction.Fraction.{Fraction}
use Rattle.vc_ring.specs.declared.faults.Measure.TheVariants.{Bytes as BytesOf}
use Rattle.vc_ring.specs.Texts.{WeightTexts}
use Rattle.vc_top.specs.Answers.{Agree, Allows, AreOfOnePart, IsFree, IsPastReason}
use Rattle.vc_top.specs.Inputs.{HasContext, HasRefusedCircuit, Headed, IsBadLine, IsForeignLabel, IsReading, IsUnfit, SoundOnly, SpellsLines, ReadsBytes, ReadsFile, ReadsLines, ReadsSound, ReadsText, most_bytes}
use Rattle.vc_top.specs.Outcomes.{Answer, Gives, Then, Unless}
use Rattle.vc_top.specs.Plans.{Answers, Plan, of_file, of_files, of_texts, plan_of, unbuilt}
use Rattle.vc_top.specs.Reasons.{Reason, empty_circuit, in_line, limit, no_label, syntax}
use Rattle.vc_top.specs.Seen.{Seen, seen}
use Rattle.vc_top.specs.Sets.{absorbs, texts_of, truth_weights, residue_weights, whole_weights, fraction_weights, tropical_weights}
use Rattle.vc_top.specs.declared.refusal.Bound.TheVariants.{Of}
use Rattle.vc_top.proofs.Commands.{IsLawfulPlan, OneAlphabet, OneAnswer, OneWord, freedom_of, plans_are_lawful, texts_are}
use Rattle.vc_top.proofs.Lawful.{Alike, Freedom, IsKept, IsLawful, after, any, decided, for_such, gives, unless, with_one}
use Rattle.vc_top.proofs.OneProduct.{OneNumbering}
use Rattle.vc_top.proofs.Parts.{AgreeBy, after_part, of_part}

-- any reason
abbrev Every : Reason → Type 0
Every reason = Unit {0}

every_kept : {X : Type 0} (a : Result X Reason) → IsKept Every a
every_kept (Ok x) = tt
every_kept (Err reason) = tt

some_same : {X : Type 0} (o : Option X) (x y : X) → o ≡ Some x → o ≡ Some y → x ≡ y
some_same o x y p q = cc (sym p ∙ q)

-- texts spell at most one automaton over these elements
abbrev pub OneAutomaton : Type 0 → Type 0
OneAutomaton V = (T : WeightTexts V) → SemiringLaws T.set → (sets : List TapeSet) (texts : List Bytes) (A C : Automaton V) → Spells T sets texts A → Spells T sets texts C → A ≡ C

-- the answers of the reader over these elements exclude each other
abbrev pub AreApart : Type 0 → Type 0
AreApart V = (T : WeightTexts V) (sets : List TapeSet) (h : HeadLine) (x y : Result (Labelled V) (DautFault V)) → IsReadAfter T sets h x → IsReadAfter T sets h y → IsSameReading x y

-- the lines of a file
module _ {V : Type 0} (T : WeightTexts V)
    (one : (sets : List TapeSet) (texts : List Bytes) (A C : Automaton V) → Spells T sets texts A → Spells T sets texts C → A ≡ C)
    (apart : (sets : List TapeSet) (h : HeadLine) (x y : Result (Labelled V) (DautFault V)) → IsReading T sets h x → IsReading T sets h y → IsSameReading x y)
    (file : Bytes) (sets : List TapeSet) (h : HeadLine) where
  no_bad_line : (o : Option ℕ) → ((x : ℕ) → ¬ (o ≡ Some x)) → o ≡ None
  no_bad_line None k = refl
  no_bad_line (Some x) k = absurd (k x refl)

  abbrev line_number : Result (Labelled V) (DautFault V) → ℕ
  line_number (Err (fault.NotALabel line from to)) = line
  line_number other = 0

  abbrev no_label_at : ℕ × (ℕ × ℕ) → Result (Labelled V) (DautFault V)
  no_label_at x = Err (fault.NotALabel x.0 x.1.0 x.1.1)

  labels_alike : bad_line T.spelled (h.number + 1) h.after ≡ None → (x y : ℕ × (ℕ × ℕ)) → IsForeignLabel T sets h x → IsForeignLabel T sets h y → Alike {X = Labelled V} decided (Err (no_label (in_line file x.0))) (Err (no_label (in_line file y.0)))
  labels_alike n x y p q = go (apart sets h (no_label_at x) (no_label_at y) (n, p) (n, q))
    where
      go : IsSameReading (no_label_at x) (no_label_at y) → Alike {X = Labelled V} decided (Err (no_label (in_line file x.0))) (Err (no_label (in_line file y.0)))
      go (inl (inl m)) = absurd m
      go (inl (inr m)) = absurd m
      go (inr (inl k)) = inr (inl (ap (λ m. Err (no_label (in_line file m))) (ap line_number k)))
      go (inr (inr m)) = absurd m.0

  unfit_past : (x : Reason) → IsUnfit T sets h x → IsPastReason x
  unfit_past x (inl p) = subst IsPastReason (sym p.0) tt
  unfit_past x (inr (inl p)) = subst IsPastReason (sym p.0) tt
  unfit_past x (inr (inr p)) = subst IsPastReason (sym p.0) tt

  lines : IsLawful Every decided (ReadsLines T file sets h)
  lines =
      any Every decided (IsBadLine T h) (λ line. syntax (in_line file line)) _ (λ x p. tt)
      (λ x y p q. inr (inl (ap (λ n. Err (syntax (in_line file n))) (some_same (bad_line T.spelled (h.number + 1) h.after) x y p q)))) (λ n.
      any Every decided (IsForeignLabel T sets h) (λ p. no_label (in_line file p.0)) _ (λ x p. tt) (labels_alike (no_bad_line (bad_line T.spelled (h.number + 1) h.after) n)) (λ m.
      any Every decided (IsUnfit T sets h) (λ reason. reason) _ (λ x p. tt) (λ x y p q. inr (inr (inl (unfit_past x p, unfit_past y q)))) (λ k.
      for_such Every decided (SpellsLines T sets h) _ (one sets h.after) (λ A. gives Every decided _))))

abbrev headed : HeadLine → List TapeSet → Weights → Headed
headed h sets weights = record { head = h; sets = sets; weights = weights }

module _
    (read : (line text : Bytes) → IsContextLine line text → context_in_line line ≡ Some text)
    (contexts : (text : Bytes) (sets others : List TapeSet) (weights other : Weights) → SpellsContext text sets weights → SpellsContext text others other → (sets ≡ others) × (weights ≡ other))
    (total : IsTotalOrder word_order) (alphabets : OneAlphabet) (numberings : OneNumbering)
    (words : OneWord)
    (truth_texts : OneAnswer Bool) (whole_texts : OneAnswer ℤ) (fraction_texts : OneAnswer Fraction) (cost_texts : OneAnswer NminValue)
    (truths : OneAutomaton Bool) (wholes : OneAutomaton ℤ) (fractions : OneAutomaton Fraction) (costs : OneAutomaton NminValue)
    (truths_apart : AreApart Bool) (wholes_apart : AreApart ℤ) (fractions_apart : AreApart Fraction) (costs_apart : AreApart NminValue) where
  one_head : (bytes : Bytes) (f g : Headed) → HasContext bytes f → HasContext bytes g → f ≡ g
  one_head bytes f g p q =
      let e = some_same (head_line 1 (lines_of bytes)) f.head g.head p.is_head q.is_head in
      let t = some_same (context_in_line g.head.line) p.text q.text (read g.head.line p.text (subst (λ (h : HeadLine). IsContextLine h.line p.text) e p.is_context)) (read g.head.line q.text q.is_context) in
      let k = contexts q.text f.sets g.sets f.weights g.weights (subst (λ x. SpellsContext x f.sets f.weights) t p.spells) q.spells in
      ap (λ h. headed h f.sets f.weights) e ∙ ap (λ s. headed g.head s f.weights) k.0 ∙ ap (λ w. headed g.head g.sets w) k.1

  lines_over : {V : Type 0} (T : WeightTexts V) → SemiringLaws T.set → OneAutomaton V → AreApart V → (file : Bytes) (sets : List TapeSet) (h : HeadLine) → IsLawful Every decided (ReadsLines T file sets h)
  lines_over T L one apart file sets h = lines T (one T L) (apart T) file sets h

  lines_of_set : (w : Weights) (file : Bytes) (sets : List TapeSet) (h : HeadLine) → IsLawful Every decided (ReadsLines (texts_of w) file sets h)
  lines_of_set B = lines_over truth_weights truth_laws truths truths_apart
  lines_of_set F2 = lines_over residue_weights residue_laws truths truths_apart
  lines_of_set Z = lines_over whole_weights whole_laws wholes wholes_apart
  lines_of_set Q = lines_over fraction_weights rational_laws fractions fractions_apart
  lines_of_set Nmin = lines_over tropical_weights tropical_laws costs costs_apart

  sound_of_set : (w : Weights) (file : Bytes) (sets : List TapeSet) (h : HeadLine) → IsLawful Every decided (ReadsSound (texts_of w) (absorbs w) file sets h)
  sound_of_set w file sets h =
      after Every decided (ReadsLines (texts_of w) file sets h) (SoundOnly (absorbs w)) (lines_of_set w file sets h) (λ a.
      unless Every decided (HasRefusedCircuit (absorbs w) a) empty_circuit (Gives a) tt (gives Every decided a))

  text : (file bytes : Bytes) → IsLawful Every decided (ReadsText file bytes)
  text file bytes =
      with_one Every decided (HasContext bytes) _ _ (one_head bytes) tt (λ f.
      after Every decided (ReadsSound (texts_of f.weights) (absorbs f.weights) file f.sets f.head) _ (sound_of_set f.weights file f.sets f.head) (λ a. gives Every decided _))

  module _ (files : (held : Held) (name first second : Bytes) → Holds held name first → Holds held name second → first ≡ second) (h : Held) (before after_call : List Bytes) where
    bytes_agree : (file : Bytes) (a b : Answer) → ReadsBytes (seen (Some h) before after_call) file a → ReadsBytes (seen (Some h) before after_call) file b → Alike decided a b
    bytes_agree file a b (inl p) q = inl (inl (subst IsFree (sym p.0) tt))
    bytes_agree file a b p (inl q) = inl (inr (subst IsFree (sym q.0) tt))
    bytes_agree file a b (inr (x, t, p)) (inr (y, s, q)) =
        (unless Every decided (most_bytes < length x) (limit (Of BytesOf)) (Gives x) tt (gives Every decided x)).one a b p
        (subst (λ z. Unless (most_bytes < length z) (limit (Of BytesOf)) (Gives z) b) (files h file y x s t) q)

    file_read : (file : Bytes) → IsLawful Every decided (ReadsFile (seen (Some h) before after_call) file)
    file_read file =
        after Every decided (ReadsBytes (seen (Some h) before after_call) file) (ReadsText file) (record { kept = λ a p. every_kept a; one = bytes_agree file }) (text file)

    abbrev s : Seen
    s = seen (Some h) before after_call

    answers : (Open : Freedom) (plan : Plan) → IsLawfulPlan Open plan → (a b : Answer) → Answers plan s a → Answers plan s b → AgreeBy (AreOfOnePart plan s) Open a b
    answers Open unbuilt l a b p q = inr (inl (p ∙ sym q))
    answers Open (of_texts texts) l a b p q = of_part (AreOfOnePart (of_texts texts) s) Open texts (λ r t e. e) a b p q (l.one a b p q)
    answers Open (of_file file rest) l a b p q =
        after_part (AreOfOnePart (of_file file rest) s) Open (ReadsFile s file) rest (file_read file) (λ r t e. inl e) (λ x i c d u v.
        of_part (AreOfOnePart (of_file file rest) s) Open (rest x) (λ r t e. inr (x, i, e)) c d u v ((l x).one c d u v)) a b p q
    answers Open (of_files first second rest) l a b p q =
        after_part (AreOfOnePart (of_files first second rest) s) Open (ReadsFile s first) (λ x. Then (ReadsFile s second) (rest x)) (file_read first) (λ r t e. inl e) (λ x i.
        after_part (AreOfOnePart (of_files first second rest) s) Open (ReadsFile s second) (rest x) (file_read second) (λ r t e. inr (x, i, inl e)) (λ y j c d u v.
        of_part (AreOfOnePart (of_files first second rest) s) Open (rest x y) (λ r t e. inr (x, i, inr (y, j, e))) c d u v ((l x y).one c d u v))) a b p q

    pub determined : (request : Option Asked) (a b : Answer) → Allows request s a → Allows request s b → Agree request s a b
    determined request a b (inl m) q = inl (inl (subst IsFree (sym m) tt))
    determined request a b p (inl m) = inl (inr (subst IsFree (sym m) tt))
    determined request a b (inr p) (inr q) = answers (freedom_of request) (plan_of request) (plans_are_lawful (texts_are contexts total alphabets numberings words truth_texts whole_texts fraction_texts cost_texts) request) a b p q
