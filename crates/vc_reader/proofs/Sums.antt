-- What is given adds up to the automaton that a text spells.
use Rattle.std.proofs.Common.{◌≡◌, ◌≢◌, ◌⊎◌, ◌<◌, ◌+◌, ℕ, zero, suc, Bool, true, false, List, [], ◌∷◌, ◌++◌, length, map, set, get_or, eqb, Option, Some, None, inl, inr, refl, sym, ap, ap₂, ◌∙◌, subst, arith}
use Rattle.std.specs.Prelude.{not, unwrap_or, if◌then◌else◌, replicate}
use Rattle.std.specs.Option.{is_some}
use Rattle.std.specs.List.{flat_map}
use Rattle.std.proofs.lemmas.List.{append-nil, append_assoc}
use Rattle.std.proofs.lemmas.List.Kept.{IsStrictlySortedBy-filter}
use Rattle.std.proofs.lemmas.Bool.{eq-eqb}
use Rattle.std.proofs.lemmas.Bool.Decides.{eqb_tells}
use Rattle.vc_aut.specs.Drafts.{Draft, empty_draft, with_state, finished, without_zeros}
use Rattle.vc_aut.specs.Order.{triple_order, AreInOrder}
use Rattle.vc_aut.specs.Sums.{insert_transition, insert_all}
use Rattle.vc_aut.specs.Labelled.{Labelled}
use Rattle.vc_label.specs.declared.tape_set.TapeSet.{TapeSet}
use Rattle.vc_model.specs.Automata.{Transition}
use Rattle.vc_model.specs.Gathered.{IsGathered}
use Rattle.vc_model.specs.Lists.{below, up_from}
use Rattle.vc_model.specs.Sums.{sum_over}
use Rattle.vc_model.specs.WeightSet.{WeightSet, SemiringLaws}
use Rattle.vc_model.specs.SumLaws.{sum-append}
use Rattle.vc_reader.specs.Answers.{IsBuilt}
use Rattle.vc_reader.specs.Building.{with_given, with_all}
use Rattle.vc_ring.specs.Texts.{WeightTexts}
use Rattle.vc_lines.specs.Grammar.{Line, blank, line_at}
use Rattle.vc_lines.specs.Heads.{HeadLine}
use Rattle.vc_reader.specs.Meaning.{Given, begins, ends, moves_by, beginning, ending, moving, IsSumOf, given_by, number_of}
use Rattle.vc_reader.specs.Passes.{with_states}
use Rattle.vc_reader.specs.Spelling.{AreLines, bad_line, lines_in, Spells}

map_same : {X Y : Type 0} (f g : X → Y) (xs : List X) → ((x : X) → f x ≡ g x) → map f xs ≡ map g xs
map_same f g [] h = refl
map_same f g (x ∷ xs) h = ap₂ (λ y ys. y ∷ ys) (h x) (map_same f g xs h)

module _ {V : Type 0} (R : WeightSet V) (L : SemiringLaws R) where
  adds_none : (f : ℕ → V) (b : Bool) (q : ℕ) (w : V) → b ≡ false → f q ≡ R.plus (f q) (if b then w else R.zero)
  adds_none f b q w e = sym (ap (λ c. R.plus (f q) (if c then w else R.zero)) e ∙ L.plus_zero (f q))

  other : (t q : ℕ) → t ≢ q → eqb t q ≡ false
  other t q n = go (eqb_tells t q)
    where
      go : ((eqb t q ≡ true) × (t ≡ q)) ⊎ ((eqb t q ≡ false) × (t ≢ q)) → eqb t q ≡ false
      go (inl h) = absurd (n h.1)
      go (inr h) = h.0

  -- a weight at a number that does not come
  none_at : (f : ℕ → V) (s n t : ℕ) (w : V) → t < s → map f (up_from s n) ≡ map (λ q. R.plus (f q) (if eqb t q then w else R.zero)) (up_from s n)
  none_at f s zero t w h = refl
  none_at f s (suc n) t w h =
      let ne : t ≢ s = omega arith in
      ap₂ (λ y ys. y ∷ ys) (adds_none f (eqb t s) s w (other t s ne)) (none_at f (suc s) n t w (omega arith))

  -- a weight is added at one number
  added_at : (f : ℕ → V) (s n p : ℕ) (w : V) → set (map f (up_from s n)) p (R.plus (get_or (map f (up_from s n)) p R.zero) w) ≡ map (λ q. R.plus (f q) (if eqb (s + p) q then w else R.zero)) (up_from s n)
  added_at f s zero p w = refl
  added_at f s (suc n) zero w =
      let e : s + 0 ≡ s = omega arith in
      let l : s + 0 < suc s = omega arith in
      ap₂ (λ y ys. y ∷ ys) (sym (ap (λ b. R.plus (f s) (if b then w else R.zero)) (eq-eqb (s + 0) s e))) (none_at f (suc s) n (s + 0) w l)
  added_at f s (suc n) (suc p) w =
      let ne : s + suc p ≢ s = omega arith in
      let e : suc s + p ≡ s + suc p = omega arith in
      ap₂ (λ y ys. y ∷ ys) (adds_none f (eqb (s + suc p) s) s w (other (s + suc p) s ne))
      (added_at f (suc s) n p w ∙ ap (λ k. map (λ q. R.plus (f q) (if eqb k q then w else R.zero)) (up_from (suc s) n)) e)

  sum_more : {X : Type 0} (f : X → V) (xs : List X) (x : X) → sum_over R f (xs ++ x ∷ []) ≡ R.plus (sum_over R f xs) (f x)
  sum_more f xs x = sum-append L f xs (x ∷ []) ∙ ap (R.plus (sum_over R f xs)) (L.plus_zero (f x))

  insert_all-append : (ts xs ys : List (Transition V)) → insert_all R ts (xs ++ ys) ≡ insert_all R (insert_all R ts xs) ys
  insert_all-append ts [] ys = refl
  insert_all-append ts (x ∷ xs) ys = insert_all-append (insert_transition R ts x) xs ys

  pub flat_map-append : {X Y : Type 0} (f : X → List Y) (xs ys : List X) → flat_map f (xs ++ ys) ≡ flat_map f xs ++ flat_map f ys
  flat_map-append f [] ys = refl
  flat_map-append f (x ∷ xs) ys = ap (λ zs. f x ++ zs) (flat_map-append f xs ys) ∙ sym (append_assoc (f x) (flat_map f xs) (flat_map f ys))

  -- what was given in front adds up to the draft
  pub record IsAddedUp (n : ℕ) (front : List (Given V)) (d : Draft V) : Type 0 where
    pub states : d.automaton.states ≡ n
    pub initial : d.automaton.initial ≡ map (λ p. sum_over R (beginning R p) front) (below n)
    pub final : d.automaton.final ≡ map (λ p. sum_over R (ending R p) front) (below n)
    pub transitions : d.automaton.transitions ≡ insert_all R [] (flat_map (moving R) front)

  still : (n : ℕ) (F : ℕ → Given V → V) (front : List (Given V)) (g : Given V) (xs : List V) → ((p : ℕ) → F p g ≡ R.zero) → xs ≡ map (λ p. sum_over R (F p) front) (below n)
      → xs ≡ map (λ p. sum_over R (F p) (front ++ g ∷ [])) (below n)
  still n F front g xs z e = e ∙ map_same _ _ (below n) (λ p. sym (sum_more (F p) front g ∙ ap (R.plus (sum_over R (F p) front)) (z p) ∙ L.plus_zero (sum_over R (F p) front)))

  placed : (n p : ℕ) (w : V) (F : ℕ → Given V → V) (front : List (Given V)) (g : Given V) (xs : List V) → ((q : ℕ) → F q g ≡ (if eqb p q then w else R.zero)) → xs ≡ map (λ q. sum_over R (F q) front) (below n)
      → set xs p (R.plus (get_or xs p R.zero) w) ≡ map (λ q. sum_over R (F q) (front ++ g ∷ [])) (below n)
  placed n p w F front g xs z e =
      let k : 0 + p ≡ p = omega arith in
      ap (λ ys. set ys p (R.plus (get_or ys p R.zero) w)) e
      ∙ added_at (λ q. sum_over R (F q) front) 0 n p w
      ∙ ap (λ j. map (λ q. R.plus (sum_over R (F q) front) (if eqb j q then w else R.zero)) (below n)) k
      ∙ map_same _ _ (below n) (λ q. sym (sum_more (F q) front g ∙ ap (R.plus (sum_over R (F q) front)) (z q)))

  unmoved : (front : List (Given V)) (g : Given V) (ts : List (Transition V)) → moving R g ≡ [] → ts ≡ insert_all R [] (flat_map (moving R) front) → ts ≡ insert_all R [] (flat_map (moving R) (front ++ g ∷ []))
  unmoved front g ts z e = e ∙ ap (insert_all R []) (sym (flat_map-append (moving R) front (g ∷ []) ∙ ap (λ xs. flat_map (moving R) front ++ (xs ++ [])) z ∙ append-nil (flat_map (moving R) front)))

  given_added : (n : ℕ) (front : List (Given V)) (g : Given V) (d : Draft V) → IsAddedUp n front d → IsAddedUp n (front ++ g ∷ []) (with_given R d g)
  given_added n front (begins p w) d a = record {
    states = a.states;
    initial = placed n p w (beginning R) front (begins p w) d.automaton.initial (λ q. refl) a.initial;
    final = still n (ending R) front (begins p w) d.automaton.final (λ q. refl) a.final;
    transitions = unmoved front (begins p w) d.automaton.transitions refl a.transitions;
  }
  given_added n front (ends p w) d a = record {
    states = a.states;
    initial = still n (beginning R) front (ends p w) d.automaton.initial (λ q. refl) a.initial;
    final = placed n p w (ending R) front (ends p w) d.automaton.final (λ q. refl) a.final;
    transitions = unmoved front (ends p w) d.automaton.transitions refl a.transitions;
  }
  given_added n front (moves_by t) d a = record {
    states = a.states;
    initial = still n (beginning R) front (moves_by t) d.automaton.initial (λ q. refl) a.initial;
    final = still n (ending R) front (moves_by t) d.automaton.final (λ q. refl) a.final;
    transitions = ap (λ ts. insert_transition R ts t) a.transitions
        ∙ sym (insert_all-append [] (flat_map (moving R) front) (t ∷ []))
        ∙ ap (insert_all R []) (sym (flat_map-append (moving R) front (moves_by t ∷ [])));
  }

  pub all_added : (n : ℕ) (front rest : List (Given V)) (d : Draft V) → IsAddedUp n front d → IsAddedUp n (front ++ rest) (with_all R d rest)
  all_added n front [] d a = subst (λ xs. IsAddedUp n xs d) (sym (append-nil front)) a
  all_added n front (g ∷ rest) d a =
      subst (λ xs. IsAddedUp n xs (with_all R d (g ∷ rest))) (append_assoc front (g ∷ []) rest)
      (all_added n (front ++ g ∷ []) rest (with_given R d g) (given_added n front g d a))

  -- states that stand alone
  zeros : ℕ → List V
  zeros n = replicate n R.zero

  zeros_more : (n : ℕ) (xs : List V) → (xs ++ R.zero ∷ []) ++ replicate n R.zero ≡ xs ++ replicate (suc n) R.zero
  zeros_more n xs = append_assoc xs (R.zero ∷ []) (replicate n R.zero)

  record HasStates (n : ℕ) (d new : Draft V) : Type 0 where
    states : new.automaton.states ≡ d.automaton.states + n
    initial : new.automaton.initial ≡ d.automaton.initial ++ replicate n R.zero
    final : new.automaton.final ≡ d.automaton.final ++ replicate n R.zero
    transitions : new.automaton.transitions ≡ d.automaton.transitions

  has_states : (n : ℕ) (d : Draft V) → HasStates n d (with_states R n d)
  has_states zero d = record { states = omega arith; initial = sym (append-nil d.automaton.initial); final = sym (append-nil d.automaton.final); transitions = refl }
  has_states (suc n) d =
      let h = has_states n (with_state R d) in
      record {
        states = h.states ∙ one_more d.automaton.states;
        initial = h.initial ∙ zeros_more n d.automaton.initial;
        final = h.final ∙ zeros_more n d.automaton.final;
        transitions = h.transitions;
      }
    where
      one_more : (s : ℕ) → (s + 1) + n ≡ s + suc n
      one_more s = omega arith

  alike : (s n : ℕ) → replicate n R.zero ≡ map (λ p. R.zero) (up_from s n)
  alike s zero = refl
  alike s (suc n) = ap (λ ys. R.zero ∷ ys) (alike (suc s) n)

  pub begun : (most n : ℕ) (sets : List TapeSet) → IsAddedUp n [] (with_states R n (empty_draft most sets))
  begun most n sets =
      let h = has_states n (empty_draft most sets) in
      let z : 0 + n ≡ n = omega arith in
      record { states = h.states ∙ z; initial = h.initial ∙ alike 0 n; final = h.final ∙ alike 0 n; transitions = h.transitions }

  -- the finished draft is the sum of what was given
  sum_finished : (same : V → V → Bool) (n most : ℕ) (sets : List TapeSet) (given : List (Given V)) → ((added : List (Transition V)) → IsGathered R added (without_zeros R same (insert_all R [] added)))
      → IsSumOf R n given (finished R same (with_all R (with_states R n (empty_draft most sets)) given)).automaton
  sum_finished same n most sets given gathered =
      let a = all_added n [] given (with_states R n (empty_draft most sets)) (begun most n sets) in
      record {
        states = a.states;
        initial = a.initial;
        final = a.final;
        transitions = subst (λ ts. IsGathered R (flat_map (moving R) given) (without_zeros R same ts)) (sym a.transitions) (gathered (flat_map (moving R) given));
      }

  -- its transitions are in order
  finished_order : (same : V → V → Bool) (n most : ℕ) (sets : List TapeSet) (given : List (Given V)) → ((added : List (Transition V)) → AreInOrder (insert_all R [] added))
      → AreInOrder (finished R same (with_all R (with_states R n (empty_draft most sets)) given)).automaton.transitions
  finished_order same n most sets given ordered =
      let a = all_added n [] given (with_states R n (empty_draft most sets)) (begun most n sets) in
      subst (λ ts. AreInOrder (without_zeros R same ts)) (sym a.transitions)
      (IsStrictlySortedBy-filter triple_order (λ (t : Transition V). not (same t.weight R.zero)) (insert_all R [] (flat_map (moving R) given)) (ordered (flat_map (moving R) given)))

  lines_are : (spelled : List ℕ → Option V) (n : ℕ) (texts : List (List ℕ)) → bad_line spelled n texts ≡ None → AreLines spelled texts (lines_in spelled texts)
  lines_are spelled n [] e = tt
  lines_are spelled n (t ∷ ts) e = go (line_at spelled t) refl (λ h. lines_are spelled (n + 1) ts h) e
    where
      go : (o : Option Line) → line_at spelled t ≡ o → (bad_line spelled (n + 1) ts ≡ None → AreLines spelled ts (lines_in spelled ts)) → (if is_some o then bad_line spelled (n + 1) ts else Some n) ≡ None → AreLines spelled (t ∷ ts) (lines_in spelled (t ∷ ts))
      go None f r h = absurd (cc)
      go (Some l) f r h = (f ∙ ap (λ o. Some (unwrap_or o blank)) (sym f), r h)

-- what was built is spelled
pub built_spelled : {V : Type 0} (T : WeightTexts V) → SemiringLaws T.set → (sets : List TapeSet) (h : HeadLine) (a : Labelled V)
    → ((added : List (Transition V)) → IsGathered T.set added (without_zeros T.set T.same (insert_all T.set [] added)))
    → ((added : List (Transition V)) → AreInOrder (insert_all T.set [] added))
    → IsBuilt T sets h a → Spells T sets h.after a.automaton
built_spelled {V} T L sets h a gathered ordered b =
    let given = flat_map (given_by T.set T.spelled sets (number_of b.names)) (lines_in T.spelled h.after) in
    record {
      lines = lines_in T.spelled h.after;
      names = b.names;
      are_lines = lines_are T.set L T.spelled (h.number + 1) h.after b.are_lines;
      over = b.over;
      are_names = b.are_names;
      sum = subst (λ (x : Labelled V). IsSumOf T.set (length b.names) given x.automaton) (sym b.built) (sum_finished T.set L T.same (length b.names) 1000000 sets given gathered);
      order = subst (λ (x : Labelled V). AreInOrder x.automaton.transitions) (sym b.built) (finished_order T.set L T.same (length b.names) 1000000 sets given ordered);
    }
