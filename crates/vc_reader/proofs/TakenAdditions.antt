-- Where nothing is refused, each addition fits, and there are not too many triples.
use Rattle.std.proofs.Common.{◌≡◌, ◌≤◌, ◌+◌, ◌⊎◌, ◌++◌, ℕ, Bool, true, false, not, ◌&&◌, List, [], ◌∷◌, length, map, Option, Some, None, IsTrue, refl, ap, ap₂, sym, ◌∙◌, subst, inl, inr, arith}
use Rattle.std.specs.Prelude.{◌↔◌, if◌then◌else◌, nat_lt, option_to_list, unwrap_or}
use Rattle.std.specs.declared.cmp.Ordering.TheVariants.{Equal}
use Rattle.std.specs.List.{flat_map}
use Rattle.std.specs.Option.{is_some}
use Rattle.std.proofs.lemmas.Bool.{ltb-true}
use Rattle.std.proofs.lemmas.List.{length-map}
use Rattle.vc_aut.specs.Drafts.{Draft, empty_draft}
use Rattle.vc_aut.specs.Labelled.{Labelled}
use Rattle.vc_aut.specs.Order.{AreInOrder}
use Rattle.vc_aut.specs.Refusals.{weight_refusal}
use Rattle.vc_aut.specs.Sums.{insert_transition, insert_all, standing}
use Rattle.vc_label.specs.declared.tape_set.TapeSet.{TapeSet}
use Rattle.vc_label.specs.Order.{word_order}
use Rattle.vc_model.specs.Automata.{Transition, triple}
use Rattle.vc_model.specs.Gathered.{weight_at}
use Rattle.vc_model.specs.GatheredLaws.{part_or_none}
use Rattle.vc_model.specs.Lists.{In}
use Rattle.vc_model.specs.Members.{In-flat_map, In-flat_map_from, In-map, In-middle}
use Rattle.vc_model.specs.WeightSet.{WeightSet, RangeLaws, SemiringLaws}
use Rattle.vc_model.specs.Words.{Word}
use Rattle.vc_ring.specs.Texts.{TextLaws, WeightTexts}
use Rattle.vc_ring.specs.declared.faults.MakeFault.{MakeFault}
use Rattle.vc_ring.specs.declared.faults.MakeFault.TheVariants.{Overflow as Unfit, Limit as PastLimit}
use Rattle.vc_ring.specs.declared.faults.Measure.TheVariants.{Transitions}
use Rattle.vc_ring.specs.declared.faults.Overflow.TheVariants.{Add}
use Rattle.vc_lex.specs.Marks.{Mark}
use Rattle.vc_text.specs.Escapes.{inside}
use Rattle.vc_lex.specs.Labels.{label_words}
use Rattle.vc_lines.specs.Grammar.{Line, blank, initial_at, final_at, moves, state, entries_of, entry_weight, entry_label, name_of}
use Rattle.vc_lines.specs.Heads.{HeadLine}
use Rattle.vc_lines.specs.Names.{AreNames}
use Rattle.vc_reader.specs.Additions.{HasManyTriples, IsUnfitAddition, given_weight, sum_standing}
use Rattle.vc_reader.specs.Answers.{IsBuilt, given_after, states_alone}
use Rattle.vc_reader.specs.Building.{AreTaken, HaveNumbers, given_refusal, line_weights, sum_refusal, with_all, with_given}
use Rattle.vc_reader.specs.Meaning.{Given, begins, ends, moves_by, moves_with, moving, weight_of, given_by, given_by_entry, number_of, only}
use Rattle.vc_reader.specs.Passes.{with_states}
use Rattle.vc_reader.specs.Spelling.{lines_in}
use Rattle.vc_reader.proofs.ExclusiveReadings.{no_more}
use Rattle.vc_reader.proofs.RefusedAdditions.{IsWithin, final_sum, front_adds, given_within, initial_sum, standing_sum}
use Rattle.vc_reader.proofs.Sums.{all_added, begun}
use Rattle.vc_reader.proofs.TripleLimits.{none_stands}
use Rattle.vc_reader.proofs.TripleOrder.{once_in_order}

module _ {V : Type 0} (R : WeightSet V) (spelled : List ℕ → Option V) (fit : List ℕ → Bool) where
  -- what is taken is taken where it stands
  taken_at : (d : Draft V) (front : List (Given V)) (g : Given V) (rest : List (Given V)) → AreTaken R d (front ++ g ∷ rest) → given_refusal R (with_all R d front) g ≡ None
  taken_at d [] g rest (e, t) = e
  taken_at d (f ∷ front) g rest (e, t) = taken_at (with_given R d f) front g rest t

  taken_sum : (a b : V) → sum_refusal R a b ≡ None → R.fits_plus a b ≡ false → ⊥
  taken_sum a b h f = go (R.fits_plus a b) f h
    where
      go : (t : Bool) → t ≡ false → (if t then None else Some (Unfit (Add a b))) ≡ None → ⊥
      go true f h = cc
      go false f h = cc

  -- ---- weights in range

  module _ (K : RangeLaws R) (canonical : V → List ℕ) (X : TextLaws R spelled fit canonical) where
    weight_in : (o : Option Mark) → HaveNumbers R spelled fit (option_to_list o) → IsTrue (R.in_range (weight_of R spelled o))
    weight_in None h = K.one_in
    weight_in (Some m) h = go (spelled (inside m.text)) refl (h m (inl refl))
      where
        fits : (b : Bool) → not b ≡ false → b ≡ true
        fits true e = refl
        fits false e = absurd (cc)

        go : (s : Option V) → spelled (inside m.text) ≡ s → (is_some s && not (fit (inside m.text))) ≡ false → IsTrue (R.in_range (unwrap_or s R.one))
        go None e h = K.one_in
        go (Some v) e h = X.read_in (inside m.text) v e (fits (fit (inside m.text)) h)

    one_in_range : (g h : Given V) → g ≡ h → IsTrue (R.in_range (given_weight h)) → IsTrue (R.in_range (given_weight g))
    one_in_range g h e i = subst (λ (x : Given V). IsTrue (R.in_range (given_weight x))) (sym e) i

    words_in_range : (from to : ℕ) (w : V) (words : List Word) (g : Given V) → IsTrue (R.in_range w) → In g (map (moves_with from to w) words) → IsTrue (R.in_range (given_weight g))
    words_in_range from to w [] g r i = absurd i
    words_in_range from to w (x ∷ words) g r (inl e) = one_in_range g (moves_with from to w x) e r
    words_in_range from to w (x ∷ words) g r (inr i) = words_in_range from to w words g r i

    line_in_range : (sets : List TapeSet) (number : List ℕ → ℕ) (l : Line) (g : Given V) → HaveNumbers R spelled fit (line_weights l) → In g (given_by R spelled sets number l) → IsTrue (R.in_range (given_weight g))
    line_in_range sets number blank g h i = absurd i
    line_in_range sets number (initial_at s w) g h (inl e) = one_in_range g (begins (number (name_of s)) (weight_of R spelled (only w))) e (weight_in (only w) h)
    line_in_range sets number (initial_at s w) g h (inr i) = absurd i
    line_in_range sets number (final_at s w) g h (inl e) = one_in_range g (ends (number (name_of s)) (weight_of R spelled (only w))) e (weight_in (only w) h)
    line_in_range sets number (final_at s w) g h (inr i) = absurd i
    line_in_range sets number (moves s t es) g h i =
        let p = number (name_of s) in
        let q = number (name_of t) in
        let k = In-flat_map_from (given_by_entry R spelled sets p q) g (entries_of es) i in
        let has : HaveNumbers R spelled fit (option_to_list (entry_weight k.0)) = λ m j. h m (In-flat_map (λ e. option_to_list (entry_weight e)) m k.0 (entries_of es) k.1 j) in
        words_in_range p q (weight_of R spelled (entry_weight k.0)) (label_words sets (entry_label k.0)) g (weight_in (entry_weight k.0) has) k.2
    line_in_range sets number (state s) g h i = absurd i

    -- what lines give has weights in range
    given_in_range : (sets : List TapeSet) (number : List ℕ → ℕ) (ls : List Line) (g : Given V) → HaveNumbers R spelled fit (flat_map line_weights ls) → In g (flat_map (given_by R spelled sets number) ls) → IsTrue (R.in_range (given_weight g))
    given_in_range sets number ls g h i =
        let k = In-flat_map_from (given_by R spelled sets number) g ls i in
        line_in_range sets number k.0 g (λ m j. h m (In-flat_map line_weights m k.0 ls k.1 j)) k.2

  module _ (L : SemiringLaws R) (equal : (v w : Word) → (word_order v w ≡ Equal) ↔ (v ≡ w))
      (weights : (added : List (Transition V)) (d : ℕ × Word × ℕ) → weight_at R (insert_all R [] added) d ≡ weight_at R added d)
      (ordered : (added : List (Transition V)) → AreInOrder (insert_all R [] added))
      (stands : (ts : List (Transition V)) (t : Transition V) (w : V) → AreInOrder ts → (standing ts t ≡ Some w) ↔ In (record t { weight = w }) ts)
      (triples : (ts : List (Transition V)) (t : Transition V) (d : ℕ × Word × ℕ) → In d (map triple (insert_transition R ts t)) ↔ ((d ≡ triple t) ⊎ In d (map triple ts)))
      (order : (ts : List (Transition V)) (t : Transition V) → AreInOrder ts → AreInOrder (insert_transition R ts t)) where
    nothing_stands : (ts : List (Transition V)) (t : Transition V) → AreInOrder ts → standing ts t ≡ None → In (triple t) (map triple ts) → ⊥
    nothing_stands = none_stands R L equal ordered (λ ts t w o. (stands ts t w o).1) triples

    -- ---- sums

    -- where nothing stands, the sum is zero
    zero_stands : (added : List (Transition V)) (t : Transition V) → standing (insert_all R [] added) t ≡ None → weight_at R added (triple t) ≡ R.zero
    zero_stands added t e = sym (weights added (triple t)) ∙ zero (part_or_none L (insert_all R [] added) (triple t))
      where
        zero : ((r : Transition V) × In r (insert_all R [] added) × (triple r ≡ triple t)) ⊎ (weight_at R (insert_all R [] added) (triple t) ≡ R.zero) → weight_at R (insert_all R [] added) (triple t) ≡ R.zero
        zero (inl (r, i, d)) = absurd (nothing_stands (insert_all R [] added) t (ordered added) e (subst (λ z. In z (map triple (insert_all R [] added))) d (In-map triple r (insert_all R [] added) i)))
        zero (inr z) = z

    taken_weight : RangeLaws R → (count : ℕ) (w s : V) (o : Option V) → IsTrue (R.in_range w) → ((u : V) → o ≡ Some u → u ≡ s) → (o ≡ None → s ≡ R.zero) → weight_refusal R count w o ≡ None → R.fits_plus s w ≡ false → ⊥
    taken_weight K count w s (Some u) r some none h f = taken_sum u w h (ap (λ x. R.fits_plus x w) (some u refl) ∙ f)
    taken_weight K count w s None r some none h f =
        let t : R.fits_plus s w ≡ true = ap (λ x. R.fits_plus x w) (none refl) ∙ K.zero_plus_fits w r in
        let c : true ≡ false = sym t ∙ f in cc

    -- an addition that is taken fits
    taken_fits : RangeLaws R → (n most : ℕ) (sets : List TapeSet) (front : List (Given V)) (g : Given V) → IsWithin n g → IsTrue (R.in_range (given_weight g))
        → given_refusal R (with_all R (with_states R n (empty_draft most sets)) front) g ≡ None → R.fits_plus (sum_standing R front g) (given_weight g) ≡ false → ⊥
    taken_fits K n most sets front (begins p x) i r h f =
        taken_sum _ x h (ap (λ s. R.fits_plus s x) (initial_sum R spelled fit L equal weights ordered (λ ts t w o. (stands ts t w o).0) n most sets front p i) ∙ f)
    taken_fits K n most sets front (ends p x) i r h f =
        taken_sum _ x h (ap (λ s. R.fits_plus s x) (final_sum R spelled fit L equal weights ordered (λ ts t w o. (stands ts t w o).0) n most sets front p i) ∙ f)
    taken_fits K n most sets front (moves_by t) i r h f =
        let raw = flat_map (moving R) front in
        let ts = (with_all R (with_states R n (empty_draft most sets)) front).automaton.transitions in
        let e : ts ≡ insert_all R [] raw = (front_adds R spelled fit L equal weights ordered (λ ts t w o. (stands ts t w o).0) n most sets front).transitions in
        taken_weight K (length ts) t.weight (weight_at R raw (triple t)) (standing ts t) r
        (λ u q. standing_sum R spelled fit L equal weights ordered (λ ts t w o. (stands ts t w o).0) raw t u (subst (λ us. standing us t ≡ Some u) e q))
        (λ q. zero_stands raw t (subst (λ us. standing us t ≡ None) e q)) h f

    -- ---- triples

    -- each triple that was added stands
    each_stands : (ts added : List (Transition V)) (d : ℕ × Word × ℕ) → In d (map triple ts) ⊎ In d (map triple added) → In d (map triple (insert_all R ts added))
    each_stands ts [] d (inl i) = i
    each_stands ts [] d (inr i) = absurd i
    each_stands ts (t ∷ added) d (inl i) = each_stands (insert_transition R ts t) added d (inl ((triples ts t d).1 (inr i)))
    each_stands ts (t ∷ added) d (inr (inl e)) = each_stands (insert_transition R ts t) added d (inl ((triples ts t d).1 (inl e)))
    each_stands ts (t ∷ added) d (inr (inr i)) = each_stands (insert_transition R ts t) added d (inr i)

    -- the triples of a transition more are among these
    few_more : (ts : List (Transition V)) (t : Transition V) (ds : List (ℕ × Word × ℕ)) → AreInOrder ts → ((d : ℕ × Word × ℕ) → (d ≡ triple t) ⊎ In d (map triple ts) → In d ds) → length (insert_transition R ts t) ≤ length ds
    few_more ts t ds o f =
        let l = length-map (insert_transition R ts t) triple in
        let k = no_more (map triple (insert_transition R ts t)) ds (once_in_order equal (insert_transition R ts t) (order ts t o)) (λ d i. f d ((triples ts t d).0 i)) in
        omega (arith, l, k)

    abbrev full_limit : Option (MakeFault V)
    full_limit = Some (PastLimit (record { what = Transitions; most = 4000000 }))

    taken_count : (ts : List (Transition V)) (t : Transition V) (o : Option V) → standing ts t ≡ o → AreInOrder ts → length ts ≤ 4000000 → weight_refusal R (length ts) t.weight o ≡ None → length (insert_transition R ts t) ≤ 4000000
    taken_count ts t (Some u) e o few h =
        let i : In (triple t) (map triple ts) = In-map triple (record t { weight = u }) ts ((stands ts t u o).0 e) in
        let l = length-map ts triple in
        let k = few_more ts t (map triple ts) o (λ d c. elim c [ inl q ↦ subst (λ z. In z (map triple ts)) (sym q) i | inr j ↦ j ]) in
        omega (arith, few, l, k)
    taken_count ts t None e o few h = go (nat_lt (length ts) 4000000) refl h
      where
        go : (b : Bool) → nat_lt (length ts) 4000000 ≡ b → (if b then None else full_limit) ≡ None → length (insert_transition R ts t) ≤ 4000000
        go true f h =
            let less = ltb-true (length ts) 4000000 f in
            let l = length-map ts triple in
            let k = few_more ts t (triple t ∷ map triple ts) o (λ d c. c) in
            omega (arith, less, l, k)
        go false f h = absurd (cc)

    -- what is taken makes no more than 4,000,000 transitions
    count_kept : (d : Draft V) (gs : List (Given V)) → AreTaken R d gs → AreInOrder d.automaton.transitions → length d.automaton.transitions ≤ 4000000 → length (with_all R d gs).automaton.transitions ≤ 4000000
    count_kept d [] t o few = few
    count_kept d (begins p w ∷ gs) (e, t) o few = count_kept (with_given R d (begins p w)) gs t o few
    count_kept d (ends p w ∷ gs) (e, t) o few = count_kept (with_given R d (ends p w)) gs t o few
    count_kept d (moves_by u ∷ gs) (e, t) o few =
        count_kept (with_given R d (moves_by u)) gs t (order d.automaton.transitions u o) (taken_count d.automaton.transitions u (standing d.automaton.transitions u) refl o few e)

    few_triples : (n most : ℕ) (sets : List TapeSet) (gs : List (Given V)) → AreTaken R (with_states R n (empty_draft most sets)) gs → length (insert_all R [] (flat_map (moving R) gs)) ≤ 4000000
    few_triples n most sets gs t =
        let d = with_states R n (empty_draft most sets) in
        let b = begun R L most n sets in
        let none : d.automaton.transitions ≡ [] = b.transitions in
        let sorted : AreInOrder d.automaton.transitions = subst AreInOrder (sym none) (ordered []) in
        let few : length d.automaton.transitions ≤ 4000000 = let z = ap length none in omega (arith, z) in
        subst (λ (ts : List (Transition V)). length ts ≤ 4000000) (all_added R L n [] gs d b).transitions (count_kept d gs t sorted few)

module _ {V : Type 0} (T : WeightTexts V) (L : SemiringLaws T.set) (equal : (v w : Word) → (word_order v w ≡ Equal) ↔ (v ≡ w))
    (weights : (added : List (Transition V)) (d : ℕ × Word × ℕ) → weight_at T.set (insert_all T.set [] added) d ≡ weight_at T.set added d)
    (ordered : (added : List (Transition V)) → AreInOrder (insert_all T.set [] added))
    (stands : (ts : List (Transition V)) (t : Transition V) (w : V) → AreInOrder ts → (standing ts t ≡ Some w) ↔ In (record t { weight = w }) ts)
    (triples : (ts : List (Transition V)) (t : Transition V) (d : ℕ × Word × ℕ) → In d (map triple (insert_transition T.set ts t)) ↔ ((d ≡ triple t) ⊎ In d (map triple ts)))
    (order : (ts : List (Transition V)) (t : Transition V) → AreInOrder ts → AreInOrder (insert_transition T.set ts t))
    (once : (texts names others : List (List ℕ)) → AreNames (lines_in T.spelled texts) names → AreNames (lines_in T.spelled texts) others → names ≡ others)
    (sets : List TapeSet) (h : HeadLine) (a : Labelled V) (b : IsBuilt T sets h a) where
  taken_with : (names : List (List ℕ)) → AreNames (lines_in T.spelled h.after) names → AreTaken T.set (states_alone T sets (length names)) (given_after T sets h names)
  taken_with names o = subst (λ (ns : List (List ℕ)). AreTaken T.set (states_alone T sets (length ns)) (given_after T sets h ns)) (once h.after b.names names b.are_names o) b.taken

  -- an automaton that was built has no addition that does not fit
  pub no_unfit_addition : RangeLaws T.set → TextLaws T.set T.spelled T.numbers_fit T.canonical → (line : ℕ) (v w : V) → IsUnfitAddition T sets h line v w → ⊥
  no_unfit_addition K X line v w (names, o, k, unfit) =
      let given = given_by T.set T.spelled sets (number_of names) in
      let ls = lines_in T.spelled h.after in
      let taken : AreTaken T.set (states_alone T sets (length names)) (k.front ++ k.addend ∷ k.rest) = subst (AreTaken T.set (states_alone T sets (length names))) k.all (taken_with names o) in
      let inside = given_within T.set T.spelled T.numbers_fit sets names (h.number + 1) ls line k.front k.addend (λ x i. (o.named x).1 i) k.place in
      let range = given_in_range T.set T.spelled T.numbers_fit K T.canonical X sets (number_of names) ls k.addend b.numbers (subst (In k.addend) (sym k.all) (In-middle k.addend k.front k.rest)) in
      taken_fits T.set T.spelled T.numbers_fit L equal weights ordered stands triples order K (length names) 1000000 sets k.front k.addend inside range
      (taken_at T.set T.spelled T.numbers_fit (states_alone T sets (length names)) k.front k.addend k.rest taken)
      (sym (ap₂ T.set.fits_plus k.left k.right) ∙ unfit)

  -- nor more triples than 4,000,000
  pub no_many_triples : HasManyTriples T sets h → ⊥
  no_many_triples (names, o, m) =
      let gs = given_after T sets h names in
      let raw = flat_map (moving T.set) gs in
      let few = few_triples T.set T.spelled T.numbers_fit L equal weights ordered stands triples order (length names) 1000000 sets gs (taken_with names o) in
      let l = length-map (insert_all T.set [] raw) triple in
      let k = no_more m.triples (map triple (insert_all T.set [] raw)) m.once
      (λ d i. each_stands T.set T.spelled T.numbers_fit L equal weights ordered stands triples order [] raw d (inr (m.named d i))) in
      let more = m.more in
      omega (arith, few, l, k, more)
