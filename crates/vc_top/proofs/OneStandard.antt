-- An expression has one standard automaton.
use Rattle.std.proofs.Common.{◌≡◌, ◌<◌, ℕ, zero, suc, Bool, true, false, List, [], ◌∷◌, length, Less, Equal, Greater, refl, sym, ap, ap₂, ◌∙◌, inl, inr, arith}
use Rattle.std.specs.Prelude.{slice_index_or}
use Rattle.std.specs.Cmp.{IsTotalOrder, then_total, on_total, nat_cmp_total}
use Rattle.std.specs.List.{AllByRecursion}
use Rattle.std.specs.Ordering.{is_lt, ordering_reverse}
use Rattle.std.specs.declared.cmp.Ordering.{Ordering}
use Rattle.std.proofs.lemmas.Map.Keys.{sorted_head, sorted_tail}
use Rattle.vc_aut.specs.Labelled.{Labelled}
use Rattle.vc_aut.specs.Order.{triple_order, AreInOrder}
use Rattle.vc_label.specs.Order.{word_order}
use Rattle.vc_label.specs.declared.tape_set.TapeSet.{TapeSet}
use Rattle.vc_model.specs.Automata.{Automaton, Transition, triple, initial_weight, final_weight}
use Rattle.vc_model.specs.Gathered.{IsAscending}
use Rattle.vc_model.specs.GatheredLaws.{gathered_alike}
use Rattle.vc_model.specs.Lists.{In}
use Rattle.vc_model.specs.WeightSet.{WeightSet, SemiringLaws}
use Rattle.vc_model.specs.Words.{Word}
use Rattle.vc_ring.specs.Texts.{WeightTexts}
use Rattle.vc_standard.specs.Automata.{leaving_all, states_of}
use Rattle.vc_standard.specs.Structures.{standard_of}
use Rattle.vc_terms.specs.Terms.{Term}
use Rattle.vc_top.specs.Standards.{IsStandard}

-- lists of one length with the same members at each place
pub same_list : {X : Type 0} (d : X) (xs ys : List X) → length xs ≡ length ys → ((p : ℕ) → p < length xs → slice_index_or xs p d ≡ slice_index_or ys p d) → xs ≡ ys
same_list d [] [] e h = refl
same_list d [] (y ∷ ys) e h = absurd (omega (arith, e))
same_list d (x ∷ xs) [] e h = absurd (omega (arith, e))
same_list d (x ∷ xs) (y ∷ ys) e h = ap₂ (λ z zs. z ∷ zs) (h 0 (omega arith)) (same_list d xs ys (omega (arith, e)) (λ p l. h (suc p) (omega (arith, l))))

module _ {V : Type 0} (R : WeightSet V) (total : IsTotalOrder word_order) where
  triples_total : IsTotalOrder (triple_order {V = V})
  triples_total =
      then_total (then_total (on_total (λ (t : Transition V). t.from) nat_cmp_total) (on_total (λ (t : Transition V). t.label) total)) (on_total (λ (t : Transition V). t.to) nat_cmp_total)

  -- a transition with the triple
  with_triple : ℕ × Word × ℕ → Transition V
  with_triple d = record { from = d.0; label = d.1; to = d.2; weight = R.zero }

  pub before : ℕ × Word × ℕ → ℕ × Word × ℕ → Bool
  before a b = is_lt (triple_order (with_triple a) (with_triple b))

  pub one_way : (a b : ℕ × Word × ℕ) → before a b ≡ true → before b a ≡ false
  unfolding before
  one_way a b h = go (triple_order (with_triple a) (with_triple b)) h (triple_order (with_triple b) (with_triple a)) (triples_total.antisymm (with_triple a) (with_triple b))
    where
      go : (o : Ordering) → is_lt o ≡ true → (p : Ordering) → o ≡ ordering_reverse p → is_lt p ≡ false
      go o h Less e = absurd (cc (sym (ap is_lt e) ∙ h))
      go o h Equal e = refl
      go o h Greater e = refl

  after_head : (t : Transition V) (ts : List (Transition V)) → AllByRecursion (λ u. triple_order t u ≡ Less) ts → (u : Transition V) → In u ts → before (triple t) (triple u) ≡ true
  unfolding before with_triple
  after_head t [] a u i = absurd i
  after_head t (x ∷ ts) a u (inl e) = ap is_lt (ap (triple_order t) e ∙ a.0)
  after_head t (x ∷ ts) a u (inr j) = after_head t ts a.1 u j

  pub ascending : (ts : List (Transition V)) → AreInOrder ts → IsAscending (λ t u. before (triple t) (triple u)) ts
  ascending [] h = tt
  ascending (t ∷ ts) h = (after_head t ts (sorted_head triple_order t ts h), ascending ts (sorted_tail triple_order t ts h))

pub same_automaton : {V : Type 0} (A B : Automaton V) → A.states ≡ B.states → A.initial ≡ B.initial → A.final ≡ B.final → A.transitions ≡ B.transitions → A ≡ B
same_automaton A B n i f t =
    ap (λ x. record { states = x; initial = A.initial; final = A.final; transitions = A.transitions }) n
    ∙ ap (λ x. record { states = B.states; initial = x; final = A.final; transitions = A.transitions }) i
    ∙ ap (λ x. record { states = B.states; initial = B.initial; final = x; transitions = A.transitions }) f
    ∙ ap (λ x. record { states = B.states; initial = B.initial; final = B.final; transitions = x }) t

abbrev pub labelled : {V : Type 0} → List TapeSet → Automaton V → Labelled V
labelled sets A = record { sets = sets; automaton = A }

module _ {V : Type 0} (T : WeightTexts V) (L : SemiringLaws T.set) (total : IsTotalOrder word_order) (sets : List TapeSet) (t : Term V) (a b : Labelled V) (p : IsStandard T sets t a) (q : IsStandard T sets t b) where
  same_states : a.automaton.states ≡ b.automaton.states
  same_states = p.states ∙ sym q.states

  same_initial : (n : ℕ) → n < a.automaton.states → initial_weight T.set a.automaton n ≡ initial_weight T.set b.automaton n
  same_initial zero l = p.structure.first ∙ sym q.structure.first
  same_initial (suc n) l = p.structure.others (suc n) (omega arith) l ∙ sym (q.structure.others (suc n) (omega arith) (omega (arith, l, same_states)))

  same_final : (n : ℕ) → n < a.automaton.states → final_weight T.set a.automaton n ≡ final_weight T.set b.automaton n
  same_final n l = p.structure.final n l ∙ sym (q.structure.final n (omega (arith, l, same_states)))

  same_moves : a.automaton.transitions ≡ b.automaton.transitions
  same_moves =
      let raw = leaving_all 0 (states_of (standard_of T.set T.same t)) in
      gathered_alike L (before T.set total) (one_way T.set total) raw raw a.automaton.transitions b.automaton.transitions p.structure.transitions q.structure.transitions (λ d. refl)
      (ascending T.set total a.automaton.transitions p.order) (ascending T.set total b.automaton.transitions q.order)

  pub standard_once : a ≡ b
  standard_once =
      let A = a.automaton in
      let B = b.automaton in
      let initial = same_list T.set.zero A.initial B.initial (p.automaton.initial ∙ same_states ∙ sym q.automaton.initial) (λ n l. same_initial n (omega (arith, l, p.automaton.initial))) in
      let final = same_list T.set.zero A.final B.final (p.automaton.final ∙ same_states ∙ sym q.automaton.final) (λ n l. same_final n (omega (arith, l, p.automaton.final))) in
      ap (λ s. labelled s A) (p.labels ∙ sym q.labels) ∙ ap (λ C. labelled b.sets C) (same_automaton A B same_states initial final same_moves)
