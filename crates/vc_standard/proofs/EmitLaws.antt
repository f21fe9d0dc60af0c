-- What the automaton of the structure of a tree is.
use Rattle.std.proofs.Common.{◌≡◌, ℕ, zero, suc, List, [], ◌∷◌, ◌++◌, map, ◌<◌, Bool, false, sym, ap, ap₂, ◌∙◌, subst, arith, refl, inl, inr, replicate, Option, None, Some}
use Rattle.std.proofs.lemmas.Bool.{false≢true}
use Rattle.std.proofs.lemmas.List.{length-replicate}
use Rattle.std.specs.Prelude.{slice_index_or, ◌⊎◌, ◌↔◌}
use Rattle.vc_aut.specs.Additions.{additions, addition_to, IsSumRefusal}
use Rattle.vc_aut.specs.Drafts.{without_zeros}
use Rattle.vc_aut.specs.EmptyLabels.{HasEmptyLabel}
use Rattle.vc_aut.specs.Labelled.{Labelled}
use Rattle.vc_aut.specs.Order.{AreInOrder}
use Rattle.vc_aut.specs.Stored.{automaton_of}
use Rattle.vc_aut.specs.Sums.{insert_all, insert_transition, standing}
use Rattle.vc_label.specs.declared.tape_set.TapeSet.{TapeSet}
use Rattle.vc_model.specs.Automata.{Transition, triple}
use Rattle.vc_model.specs.Gathered.{IsGathered}
use Rattle.vc_model.specs.Lists.{In, NoRepeat}
use Rattle.vc_model.specs.Members.{In-map}
use Rattle.vc_model.specs.WeightSet.{WeightSet}
use Rattle.vc_model.specs.Words.{Word, is_empty}
use Rattle.vc_ring.specs.declared.faults.MakeFault.{MakeFault}
use Rattle.vc_ring.specs.declared.faults.MakeFault.TheVariants.{Overflow as Unfit, Limit as PastLimit, Memory}
use Rattle.vc_terms.specs.Expansions.{AtomsAre, AllAtomsAre}
use Rattle.vc_terms.specs.Forms.{Everywhere, EverywhereIn, IsBuiltRoot}
use Rattle.vc_terms.specs.Terms.{Term, Terms, NoTerms, MoreTerms, Zero, One, Atom, Sum, Product, Star, Weight, Both, Shuffle}
use Rattle.vc_standard.specs.Automata.{IsStandardOf, leaving_all, states_of}
use Rattle.vc_standard.specs.Named.{IsLarge, NamesMore}
use Rattle.vc_standard.specs.Refusals.{IsFault}
use Rattle.vc_standard.specs.Steps.{IsStep}
use Rattle.vc_standard.specs.Structures.{Standard, size_of, standard_of}
use Rattle.vc_standard.proofs.StateLaws.{moves_over, none_behind, inserted-length, length-leaving}
use Rattle.vc_standard.proofs.WithinLaws.{within-standard}

module _ {V : Type 0} (R : WeightSet V) (equal : V → V → Bool) where
  abbrev Full : Word → Type 0
  Full a = is_empty a ≡ false

  mutual
    -- no label of a built tree is empty
    pub built_atoms : (t : Term V) → Everywhere (IsBuiltRoot R equal) t → AtomsAre Full t
    built_atoms Zero h = tt
    built_atoms One h = tt
    built_atoms (Atom a) h = h
    built_atoms (Sum ts) h = built_all ts h.1
    built_atoms (Product ts) h = built_all ts h.1
    built_atoms (Star t) h = built_atoms t h.1
    built_atoms (Weight k t) h = built_atoms t h.1
    built_atoms (Both t u) h = (built_atoms t h.1, built_atoms u h.2)
    built_atoms (Shuffle t u) h = (built_atoms t h.1, built_atoms u h.2)

    built_all : (ts : Terms V) → EverywhereIn (IsBuiltRoot R equal) ts → AllAtomsAre Full ts
    built_all NoTerms h = tt
    built_all (MoreTerms t ts) h = (built_atoms t h.0, built_all ts h.1)

  -- the automaton with these parts
  abbrev pub made : List TapeSet → Standard V → Labelled V
  made sets A = record {
    sets = sets;
    automaton = automaton_of (R.one ∷ replicate (size_of A) R.zero) (map (λ p. p.final) (states_of A)) (without_zeros R equal (insert_all R [] (leaving_all 0 (states_of A))));
  }

  pub made_is : (sets : List TapeSet) (A : Standard V) → IsGathered R (leaving_all 0 (states_of A)) (without_zeros R equal (insert_all R [] (leaving_all 0 (states_of A)))) → IsStandardOf R A (made sets A).automaton
  made_is sets A G = record {
    states = ap suc (length-replicate (size_of A) R.zero);
    first = refl;
    others = λ p h l. later p h;
    final = λ p l. refl;
    transitions = G;
  }
    where
      later : (p : ℕ) → 0 < p → slice_index_or (R.one ∷ replicate (size_of A) R.zero) p R.zero ≡ R.zero
      later zero h = absurd (omega (arith, h))
      later (suc q) h = none_behind (size_of A) R.zero q

  -- no label of the automaton of a built tree is empty
  pub no_empty : (sets : List TapeSet) (t : Term V) → Everywhere (IsBuiltRoot R equal) t
      → ((u : Transition V) → In u (made sets (standard_of R equal t)).automaton.transitions → (r : Transition V) × In r (leaving_all 0 (states_of (standard_of R equal t))) × (triple r ≡ triple u))
      → HasEmptyLabel (made sets (standard_of R equal t)).automaton → ⊥
  no_empty sets t b s h =
      let r = s h.transition h.member in
      let f : is_empty r.0.label ≡ false = (moves_over Full (standard_of R equal t) (within-standard R equal Full t (built_atoms t b)) r.0 r.1).2 in
      let e : r.0.label ≡ h.transition.label = ap (λ (z : ℕ × Word × ℕ). z.1) r.2 in
      absurd (false≢true (sym f ∙ ap is_empty e ∙ h.empty))

  module _ (known : (ts : List (Transition V)) (t : Transition V) (w : V) → AreInOrder ts → (standing ts t ≡ Some w) ↔ In (record t { weight = w }) ts)
      (from : (ts : List (Transition V)) (t : Transition V) (d : ℕ × Word × ℕ) → In d (map triple (insert_transition R ts t)) ↔ ((d ≡ triple t) ⊎ In d (map triple ts)))
      (order : (ts : List (Transition V)) (t : Transition V) → AreInOrder ts → AreInOrder (insert_transition R ts t)) where
    nothing_stands : (ts : List (Transition V)) (t : Transition V) → AreInOrder ts → (In (triple t) (map triple ts) → ⊥) → standing ts t ≡ None
    nothing_stands ts t o h = go (standing ts t) refl
      where
        go : (r : Option V) → standing ts t ≡ r → r ≡ None
        go None e = refl
        go (Some w) e = absurd (h (In-map triple (record t { weight = w }) ts ((known ts t w o).0 e)))

    -- where no triple stands twice, nothing is added
    pub nothing_added : (ts raw : List (Transition V)) → AreInOrder ts → NoRepeat (map triple raw) → ((d : ℕ × Word × ℕ) → In d (map triple ts) → In d (map triple raw) → ⊥) → additions R ts raw ≡ []
    nothing_added ts [] o n apart = refl
    nothing_added ts (t ∷ raw) o n apart =
        ap₂ (λ (v : Option V) rest. addition_to v t.weight ++ rest) (nothing_stands ts t o (λ i. apart (triple t) i (inl refl)))
        (nothing_added (insert_transition R ts t) raw (order ts t o) n.1 (λ d i j. elim ((from ts t d).0 i) [ inl e ↦ n.0 (subst (λ z. In z (map triple raw)) e j) | inr k ↦ apart d k (inr j) ]))

  large_names : (n : ℕ) (t : Term V) → IsLarge n (standard_of R equal t) → NamesMore R equal n t
  large_names n Zero h = absurd (omega (arith, h))
  large_names n One h = absurd (omega (arith, h))
  large_names n (Atom a) h = h
  large_names n (Sum ts) h = inl h
  large_names n (Product ts) h = inl h
  large_names n (Star t) h = inl h
  large_names n (Weight k t) h = inl h
  large_names n (Both t u) h = inl h
  large_names n (Shuffle t u) h = inl h

  -- the refusal of the sum of the transitions is one of the tree
  pub sum_fault : (t : Term V) → additions R [] (leaving_all 0 (states_of (standard_of R equal t))) ≡ [] → (f : MakeFault V) → IsSumRefusal R (leaving_all 0 (states_of (standard_of R equal t))) f
      → IsFault R (IsStep R equal t) (NamesMore R equal 4000000 t) f
  sum_fault t e (Unfit o) h = absurd (subst (In o) e h.0)
  sum_fault t e (PastLimit l) h =
      let raw = leaving_all 0 (states_of (standard_of R equal t)) in
      let a = inserted-length R [] raw in
      let b = length-leaving 0 (states_of (standard_of R equal t)) in
      let c = h.1 in
      (h.0, large_names 4000000 t (omega (arith, a, b, c)))
  sum_fault t e (Memory x) h = tt
