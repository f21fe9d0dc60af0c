-- What is refused is an addition that does not fit, or one triple too many.
use Rattle.std.proofs.Common.{◌≡◌, ◌<◌, ◌+◌, ◌++◌, ℕ, zero, suc, Bool, true, false, List, [], ◌∷◌, length, map, cond, not, get_or, Option, Some, None, refl, ap, ap₂, sym, ◌∙◌, subst, inl, inr, arith}
use Rattle.std.specs.Prelude.{◌↔◌, if◌then◌else◌, nat_lt}
use Rattle.std.specs.List.{flat_map}
use Rattle.std.specs.declared.cmp.Ordering.TheVariants.{Equal}
use Rattle.std.specs.Str.{bytes_eq}
use Rattle.std.proofs.lemmas.List.{append_assoc}
use Rattle.std.proofs.lemmas.Slice.Eq.{bytes_eq-Decides}
use Rattle.vc_aut.specs.Drafts.{Draft, empty_draft}
use Rattle.vc_aut.specs.Order.{AreInOrder}
use Rattle.vc_aut.specs.Refusals.{weight_refusal}
use Rattle.vc_aut.specs.Sums.{insert_all, standing}
use Rattle.vc_label.specs.declared.tape_set.TapeSet.{TapeSet}
use Rattle.vc_label.specs.Order.{word_order}
use Rattle.vc_model.specs.Automata.{Transition, initial_weight, final_weight, triple}
use Rattle.vc_model.specs.Gathered.{weight_at}
use Rattle.vc_model.specs.Lists.{In, up_from}
use Rattle.vc_model.specs.Sums.{sum_over}
use Rattle.vc_model.specs.WeightSet.{WeightSet, SemiringLaws}
use Rattle.vc_model.specs.Words.{Word}
use Rattle.vc_model.specs.GatheredLaws.{member_weight}
use Rattle.vc_model.specs.Members.{In-flat_map, In-flat_map_from, In-middle}
use Rattle.vc_ring.specs.declared.faults.MakeFault.{MakeFault}
use Rattle.vc_ring.specs.declared.faults.MakeFault.TheVariants.{Overflow as Unfit, Limit as PastLimit}
use Rattle.vc_ring.specs.declared.faults.Measure.TheVariants.{Transitions}
use Rattle.vc_ring.specs.declared.faults.Overflow.TheVariants.{Add}
use Rattle.vc_ring.specs.Texts.{WeightTexts}
use Rattle.vc_reader.specs.Additions.{given_weight, IsGivenAt, sum_standing, IsUnfitAddition}
use Rattle.vc_reader.specs.Answers.{IsUnfit}
use Rattle.vc_reader.specs.Building.{IsRefused, given_refusal, sum_refusal, with_given, with_all}
use Rattle.vc_lex.specs.Labels.{label_words}
use Rattle.vc_lines.specs.Grammar.{Line, blank, initial_at, final_at, moves, state, entries_of, entry_weight, entry_label, name_of}
use Rattle.vc_lines.specs.Heads.{HeadLine}
use Rattle.vc_reader.specs.Meaning.{Given, begins, ends, moves_by, moves_with, beginning, ending, moving, weight_of, given_by, given_by_entry, number_of}
use Rattle.vc_lines.specs.Names.{line_names}
use Rattle.vc_reader.specs.Passes.{IsRefusedAt, with_states}
use Rattle.vc_reader.specs.Spelling.{lines_in}
use Rattle.vc_reader.proofs.TripleOrder.{once_in_order}
use Rattle.vc_reader.proofs.Sums.{IsAddedUp, all_added, begun}
use Rattle.vc_reader.proofs.Additions.{with_all-append}

-- the number of a name is below the number of names
number_inside : (a : List ℕ) (names : List (List ℕ)) → In a names → number_of names a < length names
number_inside a [] h = absurd h
number_inside a (b ∷ names) (inl e) = subst (λ t. cond (not t) (1 + number_of names a) 0 < length (b ∷ names)) (sym ((bytes_eq-Decides a b).1 e)) (omega arith)
number_inside a (b ∷ names) (inr h) = go (bytes_eq a b) (number_inside a names h)
  where
    go : (t : Bool) → number_of names a < length names → cond (not t) (1 + number_of names a) 0 < length (b ∷ names)
    go true h = omega arith
    go false h = omega arith

at_place : {X : Type 0} (f : ℕ → X) (s n p : ℕ) (d : X) → p < n → get_or (map f (up_from s n)) p d ≡ f (s + p)
at_place f s zero p d h = absurd (omega arith)
at_place f s (suc n) zero d h = let e : s ≡ s + 0 = omega arith in ap f e
at_place f s (suc n) (suc p) d h = let e : suc s + p ≡ s + suc p = omega arith in at_place f (suc s) n p d (omega arith) ∙ ap f e

module _ {V : Type 0} where
  -- a weight is given to one of n states
  abbrev pub IsWithin : ℕ → Given V → Type 0
  IsWithin n (begins p w) = p < n
  IsWithin n (ends p w) = p < n
  IsWithin n (moves_by t) = Unit {0}

module _ {V : Type 0} (R : WeightSet V) (spelled : List ℕ → Option V) (fit : List ℕ → Bool) where
  moves_within : (n from to : ℕ) (w : V) (words : List Word) (g : Given V) → In g (map (moves_with from to w) words) → IsWithin n g
  moves_within n from to w [] g i = absurd i
  moves_within n from to w (x ∷ words) g (inl e) = subst (IsWithin n) (sym e) tt
  moves_within n from to w (x ∷ words) g (inr i) = moves_within n from to w words g i

  line_within : (sets : List TapeSet) (names : List (List ℕ)) (l : Line) → ((a : List ℕ) → In a (line_names l) → In a names) → (g : Given V) → In g (given_by R spelled sets (number_of names) l) → IsWithin (length names) g
  line_within sets names blank h g i = absurd i
  line_within sets names (initial_at s w) h g (inl e) = subst (IsWithin (length names)) (sym e) (number_inside (name_of s) names (h (name_of s) (inl refl)))
  line_within sets names (initial_at s w) h g (inr i) = absurd i
  line_within sets names (final_at s w) h g (inl e) = subst (IsWithin (length names)) (sym e) (number_inside (name_of s) names (h (name_of s) (inl refl)))
  line_within sets names (final_at s w) h g (inr i) = absurd i
  line_within sets names (moves s t es) h g i =
      let p = number_of names (name_of s) in
      let q = number_of names (name_of t) in
      let k = In-flat_map_from (given_by_entry R spelled sets p q) g (entries_of es) i in
      moves_within (length names) p q (weight_of R spelled (entry_weight k.0)) (label_words sets (entry_label k.0)) g k.2
  line_within sets names (state s) h g i = absurd i

  -- the first that is refused
  pub record Refusal (d : Draft V) (gs : List (Given V)) (f : MakeFault V) : Type 0 where
    pub front : List (Given V)
    pub addend : Given V
    pub rest : List (Given V)
    pub all : gs ≡ front ++ addend ∷ rest
    pub cause : given_refusal R (with_all R d front) addend ≡ Some f

  pub refusal : (d : Draft V) (gs : List (Given V)) (f : MakeFault V) → IsRefused R d gs f → Refusal d gs f
  refusal d [] f h = absurd h
  refusal d (g ∷ gs) f (inl e) = record { front = []; addend = g; rest = gs; all = refl; cause = e }
  refusal d (g ∷ gs) f (inr (k, h)) =
      let r = refusal (with_given R d g) gs f h in
      record { front = g ∷ r.front; addend = r.addend; rest = r.rest; all = ap (λ x. g ∷ x) r.all; cause = r.cause }

  -- the first that is refused, with its line
  record LineRefusal (given : Line → List (Given V)) (n : ℕ) (ls : List Line) (d : Draft V) (line : ℕ) (f : MakeFault V) : Type 0 where
    front : List (Given V)
    addend : Given V
    rest : List (Given V)
    all : flat_map given ls ≡ front ++ addend ∷ rest
    place : IsGivenAt given n ls line front addend
    cause : given_refusal R (with_all R d front) addend ≡ Some f

  refusal_at : (given : Line → List (Given V)) (n : ℕ) (ls : List Line) (d : Draft V) (line : ℕ) (f : MakeFault V) → IsRefusedAt R spelled fit given n ls d line f → LineRefusal given n ls d line f
  refusal_at given n [] d line f h = absurd h
  refusal_at given n (l ∷ ls) d line f (inl (e, h)) =
      let r = refusal d (given l) f h in
      let z : n ≡ n + 0 = omega arith in
      record {
        front = r.front;
        addend = r.addend;
        rest = r.rest ++ flat_map given ls;
        all = ap (λ x. x ++ flat_map given ls) r.all ∙ append_assoc r.front (r.addend ∷ r.rest) (flat_map given ls);
        place = record { before = []; giver = l; after = ls; earlier = r.front; later = r.rest; lines_are = refl; number = e ∙ z; gives = r.all; front_is = refl };
        cause = r.cause;
      }
  refusal_at given n (l ∷ ls) d line f (inr (t, h)) =
      let r = refusal_at given (n + 1) ls (with_all R d (given l)) line f h in
      let p = r.place in
      record {
        front = given l ++ r.front;
        addend = r.addend;
        rest = r.rest;
        all = ap (λ x. given l ++ x) r.all ∙ sym (append_assoc (given l) r.front (r.addend ∷ r.rest));
        place = record {
          before = l ∷ p.before;
          giver = p.giver;
          after = p.after;
          earlier = p.earlier;
          later = p.later;
          lines_are = ap (λ x. l ∷ x) p.lines_are;
          number = p.number ∙ one_more n (length p.before);
          gives = p.gives;
          front_is = ap (λ x. given l ++ x) p.front_is ∙ sym (append_assoc (given l) (flat_map given p.before) p.earlier);
        };
        cause = subst (λ x. given_refusal R x r.addend ≡ Some f) (sym (with_all-append R spelled fit d (given l) r.front)) r.cause;
      }
    where
      one_more : (n k : ℕ) → (n + 1) + k ≡ n + suc k
      one_more n k = omega arith

  -- what is given at a place is given to one of the states
  pub given_within : (sets : List TapeSet) (names : List (List ℕ)) (n : ℕ) (ls : List Line) (line : ℕ) (front : List (Given V)) (g : Given V) → ((a : List ℕ) → In a (flat_map line_names ls) → In a names)
      → IsGivenAt (given_by R spelled sets (number_of names)) n ls line front g → IsWithin (length names) g
  given_within sets names n ls line front g h p =
      line_within sets names p.giver
      (λ a i. h a (subst (λ xs. In a (flat_map line_names xs)) (sym p.lines_are) (In-flat_map line_names a p.giver (p.before ++ p.giver ∷ p.after) (In-middle p.giver p.before p.after) i)))
      g (subst (In g) (sym p.gives) (In-middle g p.earlier p.later))

  -- an addition that does not fit
  record IsRefusedSum (a b v w : V) : Type 0 where
    left : v ≡ a
    right : w ≡ b
    unfit : R.fits_plus v w ≡ false

  refused_sum : (a b v w : V) → sum_refusal R a b ≡ Some (Unfit (Add v w)) → IsRefusedSum a b v w
  refused_sum a b v w h = go (R.fits_plus a b) refl h
    where
      go : (t : Bool) → R.fits_plus a b ≡ t → (if t then None else Some (Unfit (Add a b))) ≡ Some (Unfit (Add v w)) → IsRefusedSum a b v w
      go true e h = absurd (cc)
      go false e h =
          let x : v ≡ a = cc in
          let y : w ≡ b = cc in
          record { left = x; right = y; unfit = ap₂ R.fits_plus x y ∙ e }

  refused_weight : (count : ℕ) (b v w : V) (o : Option V) → weight_refusal R count b o ≡ Some (Unfit (Add v w)) → (u : V) × (o ≡ Some u) × IsRefusedSum u b v w
  refused_weight count b v w (Some u) h = (u, refl, refused_sum u b v w h)
  refused_weight count b v w None h = go (nat_lt count 4000000) h
    where
      go : (t : Bool) → (if t then None else Some (PastLimit (record { what = Transitions; most = 4000000 }))) ≡ Some (Unfit (Add v w)) → (u : V) × (None ≡ Some u) × IsRefusedSum u b v w
      go true h = absurd (cc)
      go false h = absurd (cc)

  module _ (L : SemiringLaws R) (equal : (v w : Word) → (word_order v w ≡ Equal) ↔ (v ≡ w))
      (weights : (added : List (Transition V)) (d : ℕ × Word × ℕ) → weight_at R (insert_all R [] added) d ≡ weight_at R added d)
      (ordered : (added : List (Transition V)) → AreInOrder (insert_all R [] added))
      (stands : (ts : List (Transition V)) (t : Transition V) (w : V) → AreInOrder ts → standing ts t ≡ Some w → In (record t { weight = w }) ts) where
    -- the draft after what is given in front
    pub front_adds : (n most : ℕ) (sets : List TapeSet) (front : List (Given V)) → IsAddedUp R L n front (with_all R (with_states R n (empty_draft most sets)) front)
    front_adds n most sets front = all_added R L n [] front (with_states R n (empty_draft most sets)) (begun R L most n sets)

    -- the weight that stands is the sum of what was given
    pub standing_sum : (added : List (Transition V)) (t : Transition V) (u : V) → standing (insert_all R [] added) t ≡ Some u → u ≡ weight_at R added (triple t)
    standing_sum added t u e =
        let ts = insert_all R [] added in
        sym (member_weight L ts (once_in_order equal ts (ordered added)) (record t { weight = u }) (stands ts t u (ordered added) e)) ∙ weights added (triple t)

    zero_more : (p : ℕ) → 0 + p ≡ p
    zero_more p = omega arith

    -- the weight of a state after what is given in front
    pub initial_sum : (n most : ℕ) (sets : List TapeSet) (front : List (Given V)) (p : ℕ) → p < n
        → initial_weight R (with_all R (with_states R n (empty_draft most sets)) front).automaton p ≡ sum_over R (beginning R p) front
    initial_sum n most sets front p i =
        ap (λ xs. get_or xs p R.zero) (front_adds n most sets front).initial ∙ at_place (λ q. sum_over R (beginning R q) front) 0 n p R.zero i
        ∙ ap (λ q. sum_over R (beginning R q) front) (zero_more p)

    pub final_sum : (n most : ℕ) (sets : List TapeSet) (front : List (Given V)) (p : ℕ) → p < n
        → final_weight R (with_all R (with_states R n (empty_draft most sets)) front).automaton p ≡ sum_over R (ending R p) front
    final_sum n most sets front p i =
        ap (λ xs. get_or xs p R.zero) (front_adds n most sets front).final ∙ at_place (λ q. sum_over R (ending R q) front) 0 n p R.zero i
        ∙ ap (λ q. sum_over R (ending R q) front) (zero_more p)

    addition : (n most : ℕ) (sets : List TapeSet) (front : List (Given V)) (g : Given V) (v w : V) → IsWithin n g
        → given_refusal R (with_all R (with_states R n (empty_draft most sets)) front) g ≡ Some (Unfit (Add v w)) → IsRefusedSum (sum_standing R front g) (given_weight g) v w
    addition n most sets front (begins p x) v w i h = subst (λ s. IsRefusedSum s x v w) (initial_sum n most sets front p i) (refused_sum _ x v w h)
    addition n most sets front (ends p x) v w i h = subst (λ s. IsRefusedSum s x v w) (final_sum n most sets front p i) (refused_sum _ x v w h)
    addition n most sets front (moves_by t) v w i h =
        let a = front_adds n most sets front in
        let ts = (with_all R (with_states R n (empty_draft most sets)) front).automaton.transitions in
        let r = refused_weight (length ts) t.weight v w (standing ts t) h in
        subst (λ s. IsRefusedSum s t.weight v w) (standing_sum (flat_map (moving R) front) t r.0 (subst (λ us. standing us t ≡ Some r.0) a.transitions r.1)) r.2

-- what is refused is an addition that does not fit
pub unfit_addition : {V : Type 0} (T : WeightTexts V) → SemiringLaws T.set → ((v w : Word) → (word_order v w ≡ Equal) ↔ (v ≡ w))
    → ((added : List (Transition V)) (d : ℕ × Word × ℕ) → weight_at T.set (insert_all T.set [] added) d ≡ weight_at T.set added d)
    → ((added : List (Transition V)) → AreInOrder (insert_all T.set [] added))
    → ((ts : List (Transition V)) (t : Transition V) (w : V) → AreInOrder ts → standing ts t ≡ Some w → In (record t { weight = w }) ts)
    → (sets : List TapeSet) (h : HeadLine) (line : ℕ) (v w : V) → IsUnfit T sets h line (Unfit (Add v w)) → IsUnfitAddition T sets h line v w
unfit_addition T L equal weights ordered stands sets h line v w (names, o, r) =
    let given = given_by T.set T.spelled sets (number_of names) in
    let ls = lines_in T.spelled h.after in
    let k = refusal_at T.set T.spelled T.numbers_fit given (h.number + 1) ls (with_states T.set (length names) (empty_draft 1000000 sets)) line (Unfit (Add v w)) r in
    let inside = given_within T.set T.spelled T.numbers_fit sets names (h.number + 1) ls line k.front k.addend (λ a i. (o.named a).1 i) k.place in
    let s = addition T.set T.spelled T.numbers_fit L equal weights ordered stands (length names) 1000000 sets k.front k.addend v w inside k.cause in (
      names,
      o,
      record { front = k.front; addend = k.addend; rest = k.rest; all = k.all; place = k.place; left = s.left; right = s.right },
      s.unfit,
    )
