-- Transitions that are refused have one source, label and target too many.
use Rattle.std.proofs.Common.{◌≡◌, ◌≤◌, ◌⊎◌, ℕ, Bool, true, false, List, [], ◌∷◌, length, map, Option, Some, None, refl, ap, sym, ◌∙◌, subst, inl, inr, arith}
use Rattle.std.specs.Prelude.{◌↔◌, if◌then◌else◌, nat_lt}
use Rattle.std.specs.declared.cmp.Ordering.TheVariants.{Equal}
use Rattle.std.specs.List.{flat_map}
use Rattle.std.proofs.lemmas.Bool.{ltb-false}
use Rattle.std.proofs.lemmas.List.{length-map}
use Rattle.vc_aut.specs.Drafts.{empty_draft}
use Rattle.vc_aut.specs.Order.{AreInOrder}
use Rattle.vc_aut.specs.Refusals.{weight_refusal}
use Rattle.vc_aut.specs.Sums.{insert_transition, insert_all, standing}
use Rattle.vc_label.specs.declared.tape_set.TapeSet.{TapeSet}
use Rattle.vc_label.specs.Order.{word_order}
use Rattle.vc_model.specs.Automata.{Transition, triple}
use Rattle.vc_model.specs.Lists.{In}
use Rattle.vc_model.specs.WeightSet.{WeightSet, SemiringLaws}
use Rattle.vc_model.specs.Words.{Word}
use Rattle.vc_model.specs.Members.{In-append_left, In-map, In-map_from, In-flat_map, In-flat_map_from, In-middle}
use Rattle.vc_ring.specs.declared.faults.Limit.{Limit as Bound}
use Rattle.vc_ring.specs.declared.faults.MakeFault.{MakeFault}
use Rattle.vc_ring.specs.declared.faults.MakeFault.TheVariants.{Overflow as Unfit, Limit as PastLimit}
use Rattle.vc_ring.specs.declared.faults.Measure.TheVariants.{States, Transitions}
use Rattle.vc_ring.specs.declared.faults.Overflow.TheVariants.{Add}
use Rattle.vc_reader.specs.Additions.{HasMoreTriples, HasManyTriples}
use Rattle.vc_reader.specs.Answers.{IsPastLimit, given_after}
use Rattle.vc_reader.specs.Building.{given_refusal, sum_refusal, with_all}
use Rattle.vc_lines.specs.Heads.{HeadLine}
use Rattle.vc_reader.specs.Meaning.{Given, begins, ends, moves_by, moving}
use Rattle.vc_reader.specs.Passes.{with_states}
use Rattle.vc_ring.specs.Texts.{WeightTexts}
use Rattle.vc_reader.proofs.TripleOrder.{once_in_order}
use Rattle.vc_reader.proofs.Sums.{all_added, begun}
use Rattle.vc_reader.proofs.RefusedAdditions.{refusal}

abbrev moves_limit : Bound
moves_limit = record { what = Transitions; most = 4000000 }

module _ {V : Type 0} (R : WeightSet V) where
  no_limit : (a b : V) (l : Bound) → sum_refusal R a b ≡ Some (PastLimit l) → ⊥
  no_limit a b l h = go (R.fits_plus a b) h
    where
      go : (t : Bool) → (if t then None else Some (Unfit (Add a b))) ≡ Some (PastLimit l) → ⊥
      go true h = cc
      go false h = cc

  -- so many transitions stand, and none with the triple
  record IsRefusedCount (count : ℕ) (l : Bound) (o : Option V) : Type 0 where
    none : o ≡ None
    limit : l ≡ moves_limit
    many : 4000000 ≤ count

  refused_count : (count : ℕ) (b : V) (l : Bound) (o : Option V) → weight_refusal R count b o ≡ Some (PastLimit l) → IsRefusedCount count l o
  refused_count count b l (Some u) h = absurd (no_limit u b l h)
  refused_count count b l None h = go (nat_lt count 4000000) refl (weight_refusal R count b None) refl h
    where
      go : (t : Bool) → nat_lt count 4000000 ≡ t → (o : Option (MakeFault V)) → o ≡ (if t then None else Some (PastLimit moves_limit)) → o ≡ Some (PastLimit l) → IsRefusedCount count l None
      go true e o f h = absurd (cc)
      go false e o f h = let k : l ≡ moves_limit = cc in record { none = refl; limit = k; many = ltb-false count 4000000 e }

  module _ (L : SemiringLaws R) (equal : (v w : Word) → (word_order v w ≡ Equal) ↔ (v ≡ w))
      (ordered : (added : List (Transition V)) → AreInOrder (insert_all R [] added))
      (stands : (ts : List (Transition V)) (t : Transition V) (w : V) → AreInOrder ts → In (record t { weight = w }) ts → standing ts t ≡ Some w)
      (triples : (ts : List (Transition V)) (t : Transition V) (d : ℕ × Word × ℕ) → In d (map triple (insert_transition R ts t)) ↔ ((d ≡ triple t) ⊎ In d (map triple ts))) where
    -- a triple at which nothing stands
    pub none_stands : (ts : List (Transition V)) (t : Transition V) → AreInOrder ts → standing ts t ≡ None → In (triple t) (map triple ts) → ⊥
    none_stands ts t o e i =
        let r = In-map_from triple (triple t) ts i in
        let f = stands ts t r.0.weight o (subst (λ z. In z ts) (same r.0 t r.2) r.1) in
        cc (sym e ∙ f)
      where
        same : (u t : Transition V) → triple t ≡ triple u → u ≡ record t { weight = u.weight }
        same u t e = ap (λ (z : ℕ × Word × ℕ). record { from = z.0; label = z.1; to = z.2; weight = u.weight }) (sym e)

    -- each triple was added
    added_triple : (ts added : List (Transition V)) (d : ℕ × Word × ℕ) → In d (map triple (insert_all R ts added)) → In d (map triple ts) ⊎ In d (map triple added)
    added_triple ts [] d i = inl i
    added_triple ts (t ∷ added) d i = elim (added_triple (insert_transition R ts t) added d i) [
      | inl j ↦ elim ((triples ts t d).0 j) [ inl e ↦ inr (inl e) | inr k ↦ inl k ]
      | inr j ↦ inr (inr j)
    ]

    given_triple : (front gs : List (Given V)) (d : ℕ × Word × ℕ) → ((g : Given V) → In g front → In g gs) → In d (map triple (flat_map (moving R) front)) → In d (map triple (flat_map (moving R) gs))
    given_triple front gs d f i =
        let r = In-map_from triple d (flat_map (moving R) front) i in
        let k = In-flat_map_from (moving R) r.0 front r.1 in
        subst (λ z. In z (map triple (flat_map (moving R) gs))) (sym r.2) (In-map triple r.0 (flat_map (moving R) gs) (In-flat_map (moving R) r.0 k.0 gs (f k.0 k.1) k.2))

    -- the triples that stand, and one more
    more_triples : (added : List (Transition V)) (front gs : List (Given V)) (t : Transition V) → added ≡ flat_map (moving R) front → ((g : Given V) → In g front → In g gs) → In (moves_by t) gs
        → standing (insert_all R [] added) t ≡ None → 4000000 ≤ length (insert_all R [] added) → HasMoreTriples R 4000000 gs
    more_triples added front gs t e f m n c =
        let ts = insert_all R [] added in
        let l = length-map ts triple in
        record {
          triples = triple t ∷ map triple ts;
          once = ((λ i. none_stands ts t (ordered added) n i), once_in_order equal ts (ordered added));
          named = λ d i. elim i [
            | inl q ↦ subst (λ z. In z (map triple (flat_map (moving R) gs))) (sym q) (In-map triple t (flat_map (moving R) gs) (In-flat_map (moving R) t (moves_by t) gs m (inl refl)))
            | inr j ↦ given_triple front gs d f (subst (λ us. In d (map triple us)) e (old d (added_triple [] added d j)))
          ];
          more = omega (arith, c, l);
        }
      where
        old : (d : ℕ × Word × ℕ) → In d [] ⊎ In d (map triple added) → In d (map triple added)
        old d (inl h) = absurd h
        old d (inr i) = i

    many_triples : (n most : ℕ) (sets : List TapeSet) (front : List (Given V)) (g : Given V) (gs : List (Given V)) (l : Bound) → ((x : Given V) → In x front → In x gs) → In g gs
        → given_refusal R (with_all R (with_states R n (empty_draft most sets)) front) g ≡ Some (PastLimit l) → (l ≡ moves_limit) × HasMoreTriples R 4000000 gs
    many_triples n most sets front (begins p w) gs l f i h = absurd (no_limit _ w l h)
    many_triples n most sets front (ends p w) gs l f i h = absurd (no_limit _ w l h)
    many_triples n most sets front (moves_by t) gs l f i h =
        let a = all_added R L n [] front (with_states R n (empty_draft most sets)) (begun R L most n sets) in
        let ts = (with_all R (with_states R n (empty_draft most sets)) front).automaton.transitions in
        let r = refused_count (length ts) t.weight l (standing ts t) h in
        let raw = flat_map (moving R) front in (
          r.limit,
          more_triples raw front gs t refl f i (subst (λ us. standing us t ≡ None) a.transitions r.none) (subst (λ (us : List (Transition V)). 4000000 ≤ length us) a.transitions r.many),
        )

-- a limit of transitions that is passed
pub past_triples : {V : Type 0} (T : WeightTexts V) → SemiringLaws T.set → ((v w : Word) → (word_order v w ≡ Equal) ↔ (v ≡ w))
    → ((added : List (Transition V)) → AreInOrder (insert_all T.set [] added))
    → ((ts : List (Transition V)) (t : Transition V) (w : V) → AreInOrder ts → In (record t { weight = w }) ts → standing ts t ≡ Some w)
    → ((ts : List (Transition V)) (t : Transition V) (d : ℕ × Word × ℕ) → In d (map triple (insert_transition T.set ts t)) ↔ ((d ≡ triple t) ⊎ In d (map triple ts)))
    → (sets : List TapeSet) (h : HeadLine) (most : ℕ)
    → IsPastLimit T sets h (record { what = Transitions; most = most }) → (most ≡ 4000000) × HasManyTriples T sets h
past_triples T L equal ordered stands triples sets h most (inl (e, k)) = absurd (measures (ap (λ (b : Bound). b.what) e))
  where
    measures : Transitions ≡ States → ⊥
    measures e = cc
past_triples T L equal ordered stands triples sets h most (inr (names, o, r)) =
    let l : Bound = record { what = Transitions; most = most } in
    let gs = given_after T sets h names in
    let k = refusal T.set T.spelled T.numbers_fit (with_states T.set (length names) (empty_draft 1000000 sets)) gs (PastLimit l) r in
    let m = many_triples T.set L equal ordered stands triples (length names) 1000000 sets k.front k.addend gs l (λ x i. subst (In x) (sym k.all) (In-append_left x k.front (k.addend ∷ k.rest) i)) (subst (In k.addend) (sym k.all) (In-middle k.addend k.front k.rest)) k.cause in
    (ap (λ (b : Bound). b.most) m.0, (names, o, m.1))
