-- A text spells at most one automaton.
use Rattle.std.proofs.Common.{◌≡◌, ℕ, Bool, true, false, List, [], ◌∷◌, length, Option, Some, Less, Equal, Greater, refl, sym, ap, ◌∙◌, subst, inl, inr}
use Rattle.std.specs.Cmp.{IsTotalOrder}
use Rattle.std.specs.List.{flat_map, AllByRecursion}
use Rattle.std.specs.Ordering.{is_lt, ordering_reverse}
use Rattle.std.specs.declared.cmp.Ordering.{Ordering}
use Rattle.std.proofs.lemmas.Map.Keys.{sorted_head, sorted_tail}
use Rattle.vc_aut.specs.Order.{triple_order, AreInOrder}
use Rattle.vc_context.specs.Spelling.{SpellsContext}
use Rattle.vc_context.specs.declared.context.Weights.{Weights}
use Rattle.vc_label.specs.Order.{word_order}
use Rattle.vc_label.specs.declared.tape_set.TapeSet.{TapeSet}
use Rattle.vc_model.specs.Automata.{Automaton, Transition, triple}
use Rattle.vc_model.specs.Gathered.{IsAscending}
use Rattle.vc_model.specs.Lists.{In}
use Rattle.vc_model.specs.WeightSet.{WeightSet, SemiringLaws}
use Rattle.vc_model.specs.Words.{Word}
use Rattle.vc_model.specs.GatheredLaws.{gathered_alike}
use Rattle.vc_ring.specs.Texts.{WeightTexts}
use Rattle.vc_lines.specs.ContextLines.{IsContextLine}
use Rattle.vc_lines.specs.Contexts.{context_in_line}
use Rattle.vc_lines.specs.Heads.{HeadLine, head_line}
use Rattle.vc_lines.specs.Lines.{lines_of}
use Rattle.vc_reader.specs.Meaning.{Given, moving, given_by, number_of, IsSumOf}
use Rattle.vc_lines.specs.Names.{AreNames}
use Rattle.vc_reader.specs.Spelling.{lines_in, Spells, SpellsAutomaton}
use Rattle.vc_reader.proofs.TripleOrder.{triples_total}
use Rattle.vc_reader.proofs.LineNames.{lines_once}

module _ {V : Type 0} (R : WeightSet V) (total : IsTotalOrder word_order) where
  -- a transition with the triple
  with_triple : ℕ × Word × ℕ → Transition V
  with_triple d = record { from = d.0; label = d.1; to = d.2; weight = R.zero }

  before : ℕ × Word × ℕ → ℕ × Word × ℕ → Bool
  before a b = is_lt (triple_order (with_triple a) (with_triple b))

  one_way : (a b : ℕ × Word × ℕ) → before a b ≡ true → before b a ≡ false
  unfolding before
  one_way a b h = go (triple_order (with_triple a) (with_triple b)) h (triple_order (with_triple b) (with_triple a)) ((triples_total total).antisymm (with_triple a) (with_triple b))
    where
      go : (o : Ordering) → is_lt o ≡ true → (p : Ordering) → o ≡ ordering_reverse p → is_lt p ≡ false
      go o h Less e = absurd (cc (sym (ap is_lt e) ∙ h))
      go o h Equal e = refl
      go o h Greater e = refl

  after_head : (t : Transition V) (ts : List (Transition V)) → AllByRecursion (λ u. triple_order t u ≡ Less) ts → (u : Transition V) → In u ts → before (triple t) (triple u) ≡ true
  unfolding before with_triple
  after_head t [] a u i = absurd i
  after_head t (x ∷ ts) a u (inl e) = ap is_lt (ap (triple_order t) e ∙ a.0)
  after_head t (x ∷ ts) a u (inr j) = after_head t ts a.1 u j

  ascending : (ts : List (Transition V)) → AreInOrder ts → IsAscending (λ t u. before (triple t) (triple u)) ts
  ascending [] h = tt
  ascending (t ∷ ts) h = (after_head t ts (sorted_head triple_order t ts h), ascending ts (sorted_tail triple_order t ts h))

  same_automaton : (A B : Automaton V) → A.states ≡ B.states → A.initial ≡ B.initial → A.final ≡ B.final → A.transitions ≡ B.transitions → A ≡ B
  same_automaton A B n i f t =
      ap (λ x. record { states = x; initial = A.initial; final = A.final; transitions = A.transitions }) n
      ∙ ap (λ x. record { states = B.states; initial = x; final = A.final; transitions = A.transitions }) i
      ∙ ap (λ x. record { states = B.states; initial = B.initial; final = x; transitions = A.transitions }) f
      ∙ ap (λ x. record { states = B.states; initial = B.initial; final = B.final; transitions = x }) t

  -- what is given has one sum whose transitions are in order
  one_sum : SemiringLaws R → (n : ℕ) (given : List (Given V)) (a b : Automaton V) → IsSumOf R n given a → IsSumOf R n given b → AreInOrder a.transitions → AreInOrder b.transitions → a ≡ b
  one_sum L n given a b s t o p =
      let raw = flat_map (moving R) given in
      same_automaton a b (s.states ∙ sym t.states) (s.initial ∙ sym t.initial) (s.final ∙ sym t.final)
      (gathered_alike L before one_way raw raw a.transitions b.transitions s.transitions t.transitions (λ d. refl) (ascending a.transitions o) (ascending b.transitions p))

module _ {V : Type 0} (T : WeightTexts V) (total : IsTotalOrder word_order) (L : SemiringLaws T.set) (once : (texts names others : List (List ℕ)) → AreNames (lines_in T.spelled texts) names → AreNames (lines_in T.spelled texts) others → names ≡ others) where
  -- the lines after a head spell at most one automaton
  pub one_after : (sets : List TapeSet) (texts : List (List ℕ)) (a b : Automaton V) → Spells T sets texts a → Spells T sets texts b → a ≡ b
  one_after sets texts a b s t =
      let all = lines_in T.spelled texts in
      let l = lines_once T.spelled texts s.lines s.are_lines in
      let m = lines_once T.spelled texts t.lines t.are_lines in
      let n : t.names ≡ s.names = once texts t.names s.names (subst (λ ls. AreNames ls t.names) m t.are_names) (subst (λ ls. AreNames ls s.names) l s.are_names) in
      one_sum T.set total L (length s.names) (flat_map (given_by T.set T.spelled sets (number_of s.names)) all) a b
      (subst (λ ls. IsSumOf T.set (length s.names) (flat_map (given_by T.set T.spelled sets (number_of s.names)) ls) a) l s.sum)
      (subst (λ (ns : List (List ℕ)). IsSumOf T.set (length ns) (flat_map (given_by T.set T.spelled sets (number_of ns)) all) b) n
      (subst (λ ls. IsSumOf T.set (length t.names) (flat_map (given_by T.set T.spelled sets (number_of t.names)) ls) b) m t.sum))
      s.order t.order

  -- a text spells at most one automaton, over one list of sets and with the name of one weight set
  pub one_whole : ((text : List ℕ) (sets others : List TapeSet) (weights other : Weights) → SpellsContext text sets weights → SpellsContext text others other → (sets ≡ others) × (weights ≡ other))
      → ((line text : List ℕ) → IsContextLine line text → context_in_line line ≡ Some text)
      → (text : List ℕ) (sets others : List TapeSet) (weights other : Weights) (a b : Automaton V) → SpellsAutomaton T text sets weights a → SpellsAutomaton T text others other b
      → (sets ≡ others) × (weights ≡ other) × (a ≡ b)
  one_whole one complete text sets others weights other a b s t =
      let h : t.head ≡ s.head = heads t.head s.head (head_line 1 (lines_of text)) t.is_head s.is_head in
      let c : t.context ≡ s.context = texts t.context s.context (context_in_line s.head.line) (complete s.head.line t.context (subst (λ (k : HeadLine). IsContextLine k.line t.context) h t.is_context)) (complete s.head.line s.context s.is_context) in
      let k = one s.context sets others weights other s.spells (subst (λ x. SpellsContext x others other) c t.spells) in (
        k.0,
        k.1,
        one_after sets s.head.after a b s.after
            (subst (λ (x : HeadLine). Spells T sets x.after b) h (subst (λ x. Spells T x t.head.after b) (sym k.0) t.after)),
      )
    where
      heads : (x y : HeadLine) (o : Option HeadLine) → o ≡ Some x → o ≡ Some y → x ≡ y
      heads x y o e f = let g : Some x ≡ Some y = sym e ∙ f in cc

      texts : (x y : List ℕ) (o : Option (List ℕ)) → o ≡ Some x → o ≡ Some y → x ≡ y
      texts x y o e f = let g : Some x ≡ Some y = sym e ∙ f in cc
