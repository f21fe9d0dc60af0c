-- What each command answers is lawful: a line for each command.
use Rattle.std.proofs.Common.{◌≡◌, ◌∙◌, ℕ, List, [], ◌∷◌, ◌||◌, Bool, true, false, ℤ, Option, None, Some, Result, Ok, Err, refl, sym, ap, ap₂, subst, inl, inr}
use Rattle.std.specs.Prelude.{nat_lt, if◌then◌else◌}
use Rattle.std.specs.Cmp.{IsTotalOrder}
use Rattle.vc_aut.specs.Labelled.{Labelled}
use Rattle.vc_basic.specs.ResidueLaws.{residue_laws}
use Rattle.vc_basic.specs.TropicalLaws.{tropical_laws}
use Rattle.vc_basic.specs.TruthLaws.{truth_laws}
use Rattle.vc_basic.specs.WholeLaws.{whole_laws}
use Rattle.vc_label.specs.Alphabets.{has_letter}
use Rattle.vc_label.specs.Order.{word_order}
use Rattle.vc_label.specs.declared.alphabet.Alphabet.{Alphabet}
use Rattle.vc_label.specs.declared.tape_set.TapeKind.{TapeKind}
use Rattle.vc_rat.specs.RationalLaws.{rational_laws}
use Rattle.vc_command.specs.Requests.{Asked}
use Rattle.vc_command.specs.Requests as asked
use Rattle.vc_context.specs.Spelling.{SpellsContext}
use Rattle.vc_context.specs.declared.context.Weights.{Weights}
use Rattle.vc_eval.specs.Cells.{refusal_of}
use Rattle.vc_exprio.specs.TextAnswers.{IsRead, TextRefusal, too_long, bad_byte, no_expression, too_deep, no_label as foreign, not_in_context, overflow as unfit, invalid_star}
use Rattle.vc_exprio.specs.Words.{SpellsWord}
use Rattle.vc_files.specs.Files.{Bytes}
use Rattle.vc_label.specs.declared.tape_set.TapeSet.{TapeSet}
use Rattle.vc_basic.specs.declared.tropical.NminValue.{NminValue}
use Rattle.vc_context.specs.declared.context.Weights.TheVariants.{B, F2, Z, Q, Nmin}
use Rattle.vc_model.specs.Automata.{Automaton, coefficient}
use Rattle.vc_model.specs.Series.{Series}
use Rattle.vc_model.specs.WeightSet.{SemiringLaws}
use Rattle.vc_rat.specs.declared.fraction.Fraction.{Fraction}
use Rattle.vc_terms.specs.Terms.{Term}
use Rattle.vc_model.specs.Words.{Word}
use Rattle.vc_ring.specs.Texts.{WeightTexts}
use Rattle.vc_ring.specs.declared.faults.Limit.{Limit as PastLimit}
use Rattle.vc_ring.specs.declared.faults.MakeFault.{MakeFault}
use Rattle.vc_ring.specs.declared.faults.MakeFault.TheVariants as fault
use Rattle.vc_ring.specs.declared.faults.Measure.TheVariants.{Cells, Closure, Depth, Nodes, States, Transitions, Bytes as BytesOf}
use Rattle.vc_top.specs.Answers.{IsPastReason}
use Rattle.vc_top.specs.Automata.{IsTextOf, Prints}
use Rattle.vc_top.specs.Contexts.{AnswersContext, IsContext}
use Rattle.vc_top.specs.Evaluations.{AnswersEval, AnswersValue, ReadsWord, cells_of}
use Rattle.vc_top.specs.Expressions.{AnswersExpr, AnswersExprOver, IsExpressionText, PrintsExpression, ReadsExpression, are_single, text_reason}
use Rattle.vc_top.specs.Inputs.{Input}
use Rattle.vc_top.specs.Operations.{AnswersPrint, IsOfClosing, IsProperOf, IsTrimOf, IsUnclosed, WithProper}
use Rattle.vc_top.specs.Outcomes.{ForSuch, Gives, Outcome, Unless}
use Rattle.vc_top.specs.Plans.{IsLoose, IsOpen, Plan, of_file, of_files, of_texts, plan_of, unbuilt}
use Rattle.vc_top.specs.Products.{AnswersProduct, AreJoint, HasManyPairs, IsProductOf, IsUnjoined, Operands, WithProduct, joint_kind, operands_of}
use Rattle.vc_top.specs.Reasons.{Reason, contexts, empty_circuit, in_context, in_word, limit, no_label, no_memory, no_star, order, overflow, syntax, unread, unwritten, usage}
use Rattle.vc_top.specs.Refused.{UnlessCause, make_reason}
use Rattle.vc_top.specs.Sets.{absorbs, texts_of, value_of}
use Rattle.vc_top.specs.Standards.{AnswersEvalText, AnswersStandard, IsOfConstruction, IsStandard, IsUnmade, WithStandard, most_states}
use Rattle.vc_top.specs.declared.operation.Operation.TheVariants as operation
use Rattle.vc_top.specs.declared.product.Product.{Product}
use Rattle.vc_top.specs.declared.product.Product.TheVariants.{Conjunction, Shuffle}
use Rattle.vc_top.specs.declared.refusal.Bound.TheVariants.{Of, Words}
use Rattle.vc_top.proofs.Lawful.{Alike, Freedom, IsKept, IsLawful, after, any, decided, for_such, gives, may, unless, with_one, with_some}
use Rattle.vc_top.proofs.OneMade.{proper_once, trim_once}
use Rattle.vc_top.proofs.OneProduct.{OneNumbering, product_once}
use Rattle.vc_top.proofs.OneStandard.{standard_once}

-- the reasons of what is read in words, and of operations; a text may have too many bytes
abbrev pub IsWordReason : Reason → Type 0
IsWordReason usage = ⊥
IsWordReason (unread file) = ⊥
IsWordReason unwritten = ⊥
IsWordReason other = Unit {0}

-- the same of what is done with a file that was read
abbrev pub IsTextReason : Reason → Type 0
IsTextReason usage = ⊥
IsTextReason (unread file) = ⊥
IsTextReason unwritten = ⊥
IsTextReason (limit (Of BytesOf)) = ⊥
IsTextReason other = Unit {0}

some_same : {X : Type 0} (o : Option X) (x y : X) → o ≡ Some x → o ≡ Some y → x ≡ y
some_same o x y p q = cc (sym p ∙ q)

abbrev limited : {V : Type 0} → PastLimit → MakeFault V
limited l = fault.Limit l

-- rows have cells
cells_own : {V : Type 0} (Own : Reason → Type 0) → Own (limit (Of Cells)) → (n : ℕ) (f : MakeFault V) → refusal_of n ≡ Some f → Own (make_reason f)
cells_own {V} Own o n f e = go (nat_lt 20000000 n) e
  where
    go : (b : Bool) → (if b then Some (limited {V = V} (record { what = Cells; most = 20000000 })) else None) ≡ Some f → Own (make_reason f)
    go true h = subst (λ x. Own (make_reason x)) (some_same (Some f) (fault.Limit (record { what = Cells; most = 20000000 })) f (sym h) refl) o
    go false h = absurd (cc h)

-- a text spells at most one context
one_context : ((text : Bytes) (sets others : List TapeSet) (weights other : Weights) → SpellsContext text sets weights → SpellsContext text others other → (sets ≡ others) × (weights ≡ other))
    → (text : Bytes) (c d : List TapeSet × Weights) → IsContext text c → IsContext text d → c ≡ d
one_context one text c d p q = pairs c d (one text c.0 d.0 c.1 d.1 p q)
  where
    pairs : (c d : List TapeSet × Weights) → (c.0 ≡ d.0) × (c.1 ≡ d.1) → c ≡ d
    pairs c d e = ap₂ (λ x y. (x, y)) e.0 e.1

-- a text spells at most one word
abbrev pub OneWord : Type 0
OneWord = (text : Bytes) (v w : Word) → SpellsWord text v → SpellsWord text w → v ≡ w

-- a text of an expression has at most one answer over these elements
abbrev pub OneAnswer : Type 0 → Type 0
OneAnswer V = (T : WeightTexts V) (single : Bool) (sets : List TapeSet) (text : Bytes) (a b : Result (Term V) (TextRefusal V)) → IsRead T single sets text a → IsRead T single sets text b → a ≡ b

-- alphabets with the same letters are the same
abbrev pub OneAlphabet : Type 0
OneAlphabet = (s t : Alphabet) → ((x : ℕ) → has_letter s x ≡ has_letter t x) → s ≡ t

-- a text spells at most one context, and at most one word; as an expression it has at most one answer; alphabets and numberings are told by their members
pub record AreTexts : Type 0 where
  pub total : IsTotalOrder word_order
  pub alphabets : OneAlphabet
  pub numberings : OneNumbering
  pub context : (text : Bytes) (c d : List TapeSet × Weights) → IsContext text c → IsContext text d → c ≡ d
  pub word : OneWord
  pub expression : (w : Weights) → OneAnswer (value_of w)

pub texts_are : ((text : Bytes) (sets others : List TapeSet) (weights other : Weights) → SpellsContext text sets weights → SpellsContext text others other → (sets ≡ others) × (weights ≡ other)) → IsTotalOrder word_order → OneAlphabet → OneNumbering → OneWord
    → OneAnswer Bool → OneAnswer ℤ → OneAnswer Fraction → OneAnswer NminValue → AreTexts
texts_are context total alphabets numberings word truths wholes fractions costs = record { total = total; alphabets = alphabets; numberings = numberings; context = one_context context; word = word; expression = expression }
  where
    expression : (w : Weights) → OneAnswer (value_of w)
    expression B = truths
    expression F2 = truths
    expression Z = wholes
    expression Q = fractions
    expression Nmin = costs

module _ (Own : Reason → Type 0) (Open : Freedom) where
  -- an operation that is refused for a cause
  cause : {V Y : Type 0} (c : Option (MakeFault V)) (R : Outcome Y) → ((f : MakeFault V) → c ≡ Some f → Own (make_reason f)) → IsLawful Own Open R → IsLawful Own Open (UnlessCause c R)
  cause {V} c R o l = any Own Open (λ (f : MakeFault V). c ≡ Some f) make_reason R o (λ f g e h. inr (inl (ap (λ x. Err (make_reason x)) (some_same c f g e h)))) (λ n. l)

  word : Own (syntax in_word) → Own (no_label in_word) → OneWord → (sets : List TapeSet) (text : Bytes) → IsLawful Own Open (ReadsWord sets text)
  word s n one sets text = with_one Own Open (SpellsWord text) (syntax in_word) _ (one text) s (λ w. unless Own Open _ (no_label in_word) _ n (gives Own Open w))

  -- the text of an automaton
  prints : {V : Type 0} (T : WeightTexts V) (weights : Weights) (a : Labelled V) → IsLawful Own Open (Prints T weights a)
  prints T weights a = for_such Own Open (IsTextOf T weights a) Gives (λ x y p q. p.canonical ∙ sym q.canonical) (λ text. gives Own Open text)

  -- the value of an automaton
  valued : {V : Type 0} (T : WeightTexts V) → Own (limit (Of Cells)) → Own overflow → (w : Word) (v : V) (a : Labelled V) → IsLawful Own Open (AnswersValue T w v a)
  valued T cells step w v a = cause _ _ (cells_own Own cells (cells_of a.sets a.automaton w)) (unless Own Open _ overflow _ step (gives Own Open _))

module _ (Open : Freedom) where
  context : AreTexts → (text : Bytes) → IsLawful IsWordReason Open (AnswersContext text)
  context one text = with_one IsWordReason Open (IsContext text) (syntax in_context) _ (one.context text) tt (λ c. gives IsWordReason Open _)

abbrev read_term : {V : Type 0} → Term V → Result (Term V) (TextRefusal V)
read_term t = Ok t

abbrev read_refusal : {V : Type 0} → TextRefusal V → Result (Term V) (TextRefusal V)
read_refusal refusal = Err refusal

same_term : {V : Type 0} (t u : Term V) → read_term t ≡ read_term u → t ≡ u
same_term t u e = cc e

same_refusal : {V : Type 0} (r s : TextRefusal V) → read_refusal r ≡ read_refusal s → r ≡ s
same_refusal r s e = cc e

no_term : {V : Type 0} (t : Term V) (r : TextRefusal V) → read_term t ≡ read_refusal r → ⊥
no_term t r e = cc e

-- the expression of a text
module _ {V : Type 0} (T : WeightTexts V) (one : OneAnswer V) (sets : List TapeSet) (text : Bytes) where
  refusal_kept : (refusal : TextRefusal V) → IsWordReason (text_reason refusal)
  refusal_kept too_long = tt
  refusal_kept (bad_byte at) = tt
  refusal_kept (no_expression at) = tt
  refusal_kept too_deep = tt
  refusal_kept (foreign at) = tt
  refusal_kept (not_in_context at) = tt
  refusal_kept (unfit of) = tt
  refusal_kept (invalid_star operand constant) = tt

  expression_kept : (a : Result (Term V) Reason) → ReadsExpression T sets text a → IsKept IsWordReason a
  expression_kept (Ok t) p = tt
  expression_kept (Err reason) p = subst IsWordReason (sym p.2) (refusal_kept p.0)

  expressions_agree : (a b : Result (Term V) Reason) → ReadsExpression T sets text a → ReadsExpression T sets text b → Alike decided a b
  expressions_agree (Ok t) (Ok u) p q = inr (inl (ap Ok (same_term t u (one T (are_single sets) sets text (Ok t) (Ok u) p.0 q.0))))
  expressions_agree (Ok t) (Err r) p q = absurd (no_term t q.0 (one T (are_single sets) sets text (Ok t) (Err q.0) p.0 q.1))
  expressions_agree (Err r) (Ok u) p q = absurd (no_term u p.0 (one T (are_single sets) sets text (Ok u) (Err p.0) q.0 p.1))
  expressions_agree (Err r) (Err s) p q = inr (inl (ap Err (p.2 ∙ ap text_reason (same_refusal p.0 q.0 (one T (are_single sets) sets text (Err p.0) (Err q.0) p.1 q.1)) ∙ sym q.2)))

  expression : IsLawful IsWordReason decided (ReadsExpression T sets text)
  expression = record { kept = expression_kept; one = expressions_agree }

  printed : (Open : Freedom) (t : Term V) → IsLawful IsWordReason Open (PrintsExpression T sets t)
  printed Open t = for_such IsWordReason Open (IsExpressionText T sets t) _ (λ x y p q. p.canonical ∙ sym q.canonical) (λ x. gives IsWordReason Open _)

  expr_over : (Open : Freedom) → IsLawful IsWordReason Open (AnswersExprOver T sets text)
  expr_over Open = after IsWordReason Open (ReadsExpression T sets text) _ expression (printed Open)

expr : (Open : Freedom) → AreTexts → (over text : Bytes) → IsLawful IsWordReason Open (AnswersExpr over text)
expr Open one over text = with_one IsWordReason Open (IsContext over) (syntax in_context) _ (one.context over) tt (λ c. expr_over (texts_of c.1) (one.expression c.1) c.0 text Open)

-- the laws of the set of the name
laws_of : (w : Weights) → SemiringLaws (texts_of w).set
laws_of B = truth_laws
laws_of F2 = residue_laws
laws_of Z = whole_laws
laws_of Q = rational_laws
laws_of Nmin = tropical_laws

-- an expression has one standard automaton over these elements
abbrev OneStandardOver : {V : Type 0} → WeightTexts V → Type 0
OneStandardOver {V} T = (sets : List TapeSet) (t : Term V) (a b : Labelled V) → IsStandard T sets t a → IsStandard T sets t b → a ≡ b

one_standard : IsTotalOrder word_order → (w : Weights) → OneStandardOver (texts_of w)
one_standard total w = standard_once (texts_of w) (laws_of w) total

-- commands over the standard automaton of an expression
module _ (Open : Freedom) (loose : (r : Reason) → IsOfConstruction r → Open.refusals r) where
  module _ {V : Type 0} (T : WeightTexts V) (one : OneStandardOver T) (sets : List TapeSet) where
    unmade_kept : (t : Term V) (r : Reason) → IsUnmade T sets t r → IsWordReason r
    unmade_kept t r (inl p) = subst IsWordReason (sym p.0) tt
    unmade_kept t r (inr p) = subst IsWordReason (sym p.0) tt

    unmade_past : (t : Term V) (r : Reason) → IsUnmade T sets t r → IsPastReason r × Open.refusals r
    unmade_past t r (inl p) = (subst IsPastReason (sym p.0) tt, loose r (subst IsOfConstruction (sym p.0) tt))
    unmade_past t r (inr p) = (subst IsPastReason (sym p.0) tt, loose r (subst IsOfConstruction (sym p.0) tt))

    with_standard : (most : ℕ) (rest : Labelled V → Outcome Bytes) → ((a : Labelled V) → IsLawful IsPastReason Open (rest a)) → ((a : Labelled V) → IsLawful IsWordReason Open (rest a)) → (t : Term V)
        → IsLawful IsWordReason Open (WithStandard T sets most rest t)
    with_standard most rest past l t =
        unless IsWordReason Open _ (limit (Of States)) _ tt (
        may IsWordReason Open (IsUnmade T sets t) _ (unmade_kept t) (unmade_past t) (λ x p. (past p.0).kept x p.2) (for_such IsWordReason Open (IsStandard T sets t) rest (one sets t) l))

  standard : AreTexts → (over text : Bytes) (most : ℕ) → IsLawful IsWordReason Open (AnswersStandard over text most)
  standard texts over text most =
      with_one IsWordReason Open (IsContext over) (syntax in_context) _ (texts.context over) tt (λ c.
      after IsWordReason Open (ReadsExpression (texts_of c.1) c.0 text) _ (expression (texts_of c.1) (texts.expression c.1) c.0 text)
      (with_standard (texts_of c.1) (one_standard texts.total c.1) c.0 most _ (prints IsPastReason Open (texts_of c.1) c.1) (prints IsWordReason Open (texts_of c.1) c.1)))

  eval_text : AreTexts → (over text second : Bytes) → IsLawful IsWordReason Open (AnswersEvalText over text second)
  eval_text texts over text second =
      with_one IsWordReason Open (IsContext over) (syntax in_context) _ (texts.context over) tt (λ c.
      after IsWordReason Open (ReadsExpression (texts_of c.1) c.0 text) _ (expression (texts_of c.1) (texts.expression c.1) c.0 text) (λ t.
      after IsWordReason Open (ReadsWord c.0 second) _ (word IsWordReason decided tt tt texts.word c.0 second) (λ w.
      with_standard (texts_of c.1) (one_standard texts.total c.1) c.0 most_states _ (valued IsPastReason Open (texts_of c.1) tt tt w _) (valued IsWordReason Open (texts_of c.1) tt tt w _) t)))

-- an automaton has one without empty labels over these elements, and one of its useful states
abbrev OneProperOver : {V : Type 0} → WeightTexts V → Type 0
OneProperOver {V} T = (a p q : Labelled V) → IsProperOf T a p → IsProperOf T a q → p ≡ q

one_proper : IsTotalOrder word_order → (w : Weights) → OneProperOver (texts_of w)
one_proper total w = proper_once (texts_of w) (laws_of w) total

-- what is past its bounds is no fault of a text that was read
past_text : (r : Reason) → IsPastReason r → IsTextReason r
past_text overflow h = tt
past_text empty_circuit h = tt
past_text (limit (Of BytesOf)) h = absurd h
past_text (limit (Of Depth)) h = tt
past_text (limit (Of States)) h = tt
past_text (limit (Of Transitions)) h = tt
past_text (limit (Of Closure)) h = tt
past_text (limit (Of Cells)) h = tt
past_text (limit (Of Nodes)) h = tt
past_text (limit Words) h = tt
past_text usage h = absurd h
past_text (unread file) h = absurd h
past_text unwritten h = absurd h
past_text (syntax at) h = absurd h
past_text (no_label at) h = absurd h
past_text no_star h = absurd h
past_text contexts h = absurd h
past_text order h = absurd h
past_text no_memory h = absurd h

abbrev one_set : TapeSet → List TapeSet
one_set s = s ∷ []

abbrev tape_set : TapeKind → Alphabet → TapeSet
tape_set kind alphabet = record { kind = kind; alphabet = alphabet }

-- the label sets of a product are determined
joint_once : OneAlphabet → (ss ts us vs : List TapeSet) → AreJoint ss ts us → AreJoint ss ts vs → us ≡ vs
joint_once one ss ts us vs p q =
    let e = same_one p.first q.first (sym p.is_first ∙ q.is_first) in
    let f = same_one p.second q.second (sym p.is_second ∙ q.is_second) in
    let kind = p.kind ∙ ap₂ (λ (s t : TapeSet). joint_kind s.kind t.kind) e f ∙ sym q.kind in
    let alphabet = one p.joint.alphabet q.joint.alphabet (λ x. p.letters x ∙ ap₂ (λ (s t : TapeSet). has_letter s.alphabet x || has_letter t.alphabet x) e f ∙ sym (q.letters x)) in
    p.is_joint ∙ ap (λ s. s ∷ []) (ap₂ (λ k a. tape_set k a) kind alphabet) ∙ sym q.is_joint
  where
    same_one : (s t : TapeSet) → one_set s ≡ one_set t → s ≡ t
    same_one s t e = cc e

-- commands over the automaton of a file, and over the one without empty labels
module _ (Open : Freedom) (loose : (r : Reason) → IsOfClosing r → Open.refusals r) where
  -- the removal of empty labels is refused for reasons that are past bounds
  module _ {V : Type 0} (T : WeightTexts V) (one : OneProperOver T) (is_absorbing : Bool) (a : Labelled V) (Own : Reason → Type 0) (own : (r : Reason) → IsPastReason r → Own r) where
    unclosed_past : (r : Reason) → IsUnclosed T a r → IsPastReason r × Open.refusals r
    unclosed_past r (inl p) = (subst IsPastReason (sym p.0) tt, loose r (subst IsOfClosing (sym p.0) tt))
    unclosed_past r (inr (inl p)) = (subst IsPastReason (sym p.0) tt, loose r (subst IsOfClosing (sym p.0) tt))
    unclosed_past r (inr (inr p)) = (subst IsPastReason (sym p.0) tt, loose r (subst IsOfClosing (sym p.0) tt))

    with_proper : (rest : Labelled V → Outcome Bytes) → ((p : Labelled V) → IsLawful IsPastReason Open (rest p)) → ((p : Labelled V) → IsLawful Own Open (rest p)) → IsLawful Own Open (WithProper T is_absorbing a rest)
    with_proper rest past l =
        unless Own Open _ empty_circuit _ (own empty_circuit tt) (
        may Own Open (IsUnclosed T a) _ (λ r c. own r (unclosed_past r c).0) unclosed_past (λ x p. (past p.0).kept x p.2) (for_such Own Open (IsProperOf T a) rest (one a) l))

  -- so is a product
  module _ {V : Type 0} (T : WeightTexts V) (one : (product : Product) (most : ℕ) (sets : List TapeSet) (f g : Series V) (a b : Automaton V) (p q : Labelled V) → IsProductOf T product most sets f g a b p → IsProductOf T product most sets f g a b q → p ≡ q)
      (product : Product) (most : ℕ) (sets : List TapeSet) (f g : Series V) (a b : Automaton V) where
    unjoined_past : (r : Reason) → IsUnjoined T product most a b r → IsPastReason r × Open.refusals r
    unjoined_past r (inl p) = (subst IsPastReason (sym p.0) tt, loose r (subst IsOfClosing (sym p.0) tt))
    unjoined_past r (inr p) = (subst IsPastReason (sym p.0) tt, loose r (subst IsOfClosing (sym p.0) tt))

    few : (Own : Reason → Type 0) → Own (limit (Of States)) → (rest : Labelled V → Outcome Bytes) → ((p : Labelled V) → IsLawful Own Open (rest p))
        → IsLawful Own Open (Unless (HasManyPairs T product most a b) (limit (Of States)) (ForSuch (IsProductOf T product most sets f g a b) rest))
    few Own o rest l = unless Own Open _ (limit (Of States)) _ o (for_such Own Open (IsProductOf T product most sets f g a b) rest (one product most sets f g a b) l)

    with_product : (Own : Reason → Type 0) → ((r : Reason) → IsPastReason r → Own r) → (rest : Labelled V → Outcome Bytes) → ((p : Labelled V) → IsLawful IsPastReason Open (rest p)) → ((p : Labelled V) → IsLawful Own Open (rest p))
        → IsLawful Own Open (WithProduct T product most sets f g a b rest)
    with_product Own own rest past l =
        may Own Open (IsUnjoined T product most a b) _ (λ r c. own r (unjoined_past r c).0) unjoined_past (few IsPastReason tt rest past).kept (few Own (own (limit (Of States)) tt) rest l)

  proper : AreTexts → (x : Input) → IsLawful IsTextReason Open (AnswersPrint operation.Proper x)
  proper texts x =
      with_proper (texts_of x.weights) (one_proper texts.total x.weights) (absorbs x.weights) x.of IsTextReason past_text _
      (prints IsPastReason Open (texts_of x.weights) x.weights) (prints IsTextReason Open (texts_of x.weights) x.weights)

  eval : AreTexts → (text : Bytes) (x : Input) → IsLawful IsTextReason Open (AnswersEval text x)
  eval texts text x =
      after IsTextReason Open (ReadsWord x.of.sets text) _ (word IsTextReason decided tt tt texts.word x.of.sets text) (λ w.
      with_proper (texts_of x.weights) (one_proper texts.total x.weights) (absorbs x.weights) x.of IsTextReason past_text _
      (valued IsPastReason Open (texts_of x.weights) tt tt w _) (valued IsTextReason Open (texts_of x.weights) tt tt w _))

  product : AreTexts → (kind : Product) (most : ℕ) (x y : Input) → IsLawful IsTextReason Open (AnswersProduct kind most x y)
  product texts kind most x y =
      with_some IsTextReason Open (operands_of x y) contexts _ tt (λ o.
      with_one IsTextReason Open (AreJoint o.first.sets o.second.sets) contexts _ (joint_once texts.alphabets o.first.sets o.second.sets) tt (λ sets.
      with_proper (texts_of o.weights) (one_proper texts.total o.weights) (absorbs o.weights) o.first IsTextReason past_text _ (second o sets IsPastReason (λ r h. h)) (second o sets IsTextReason past_text)))
    where
      second : (o : Operands) (sets : List TapeSet) (Own : Reason → Type 0) → ((r : Reason) → IsPastReason r → Own r) → (p : Labelled (value_of o.weights)) → IsLawful Own Open (WithProper (texts_of o.weights) (absorbs o.weights) o.second (λ q.
          WithProduct (texts_of o.weights) kind most sets (coefficient (texts_of o.weights).set o.first.automaton) (coefficient (texts_of o.weights).set o.second.automaton) p.automaton q.automaton (Prints (texts_of o.weights) o.weights)))
      second o sets Own own p =
          let T = texts_of o.weights in
          let once = product_once T (laws_of o.weights) texts.total texts.numberings in
          let printed = λ (Of : Reason → Type 0). prints Of Open T o.weights in
          with_proper T (one_proper texts.total o.weights) (absorbs o.weights) o.second Own own _
          (λ q. with_product T once kind most sets _ _ p.automaton q.automaton IsPastReason (λ r h. h) _ (printed IsPastReason) (printed IsPastReason))
          (λ q. with_product T once kind most sets _ _ p.automaton q.automaton Own own _ (printed IsPastReason) (printed Own))

module _ (Open : Freedom) where
  cat : (x : Input) → IsLawful IsTextReason Open (AnswersPrint operation.Itself x)
  cat x = prints IsTextReason Open (texts_of x.weights) x.weights x.of

  trim : (x : Input) → IsLawful IsTextReason Open (AnswersPrint operation.Trim x)
  trim x =
      for_such IsTextReason Open (IsTrimOf (texts_of x.weights) x.of) (Prints (texts_of x.weights) x.weights) (trim_once (texts_of x.weights) x.of)
      (prints IsTextReason Open (texts_of x.weights) x.weights)

-- what a request leaves open
abbrev pub freedom_of : Option Asked → Freedom
freedom_of request = record { texts = IsOpen request; refusals = IsLoose request }

-- what a plan answers once its files are read
abbrev pub IsLawfulPlan : Freedom → Plan → Type 0
IsLawfulPlan Open unbuilt = Unit {0}
IsLawfulPlan Open (of_texts texts) = IsLawful IsWordReason Open texts
IsLawfulPlan Open (of_file file rest) = (x : Input) → IsLawful IsTextReason Open (rest x)
IsLawfulPlan Open (of_files first second rest) = (x y : Input) → IsLawful IsTextReason Open (rest x y)

pub plans_are_lawful : AreTexts → (request : Option Asked) → IsLawfulPlan (freedom_of request) (plan_of request)
plans_are_lawful one (Some (asked.context text)) = context _ one text
plans_are_lawful one (Some (asked.expr over text)) = expr _ one over text
plans_are_lawful one (Some (asked.cat file)) = cat _
plans_are_lawful one (Some (asked.proper file)) = proper _ (λ r o. o) one
plans_are_lawful one (Some (asked.trim file)) = trim _
plans_are_lawful one (Some (asked.eval_file file text)) = eval _ (λ r o. o) one text
plans_are_lawful one (Some (asked.eval_expr over text second)) = eval_text _ (λ r o. o) one over text second
plans_are_lawful one (Some (asked.standard over text most)) = standard _ (λ r o. o) one over text most
plans_are_lawful one (Some (asked.conjunction first second most)) = product _ (λ r o. o) one Conjunction most
plans_are_lawful one (Some (asked.shuffle first second most)) = product _ (λ r o. o) one Shuffle most
plans_are_lawful one other = tt
