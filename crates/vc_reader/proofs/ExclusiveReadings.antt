-- The answers of the reader exclude each other.
use Rattle.std.proofs.Common.{◌≡◌, ◌≤◌, ◌+◌, ◌⊎◌, ◌++◌, ℕ, Bool, List, [], ◌∷◌, length, Option, Some, None, Result, Ok, Err, refl, ap, ap₂, sym, ◌∙◌, subst, inl, inr, arith}
use Rattle.std.specs.List.{flat_map}
use Rattle.std.proofs.lemmas.List.{length-append}
use Rattle.vc_aut.specs.Drafts.{Draft, finished}
use Rattle.vc_aut.specs.Labelled.{Labelled}
use Rattle.vc_label.specs.declared.tape_set.TapeSet.{TapeSet}
use Rattle.vc_model.specs.Lists.{In, NoRepeat}
use Rattle.vc_model.specs.WeightSet.{WeightSet}
use Rattle.vc_ring.specs.Texts.{WeightTexts}
use Rattle.vc_model.specs.Members.{place_of, In-middle_cases, In-append_left, In-append_right}
use Rattle.vc_ring.specs.declared.faults.Limit.{Limit as Bound}
use Rattle.vc_ring.specs.declared.faults.MakeFault.{MakeFault}
use Rattle.vc_ring.specs.declared.faults.MakeFault.TheVariants.{Overflow as Unfit, Limit as PastLimit}
use Rattle.vc_ring.specs.declared.faults.Overflow.TheVariants.{Numeral, Add, Mul, Star}
use Rattle.vc_reader.specs.declared.fault.DautFault.{DautFault}
use Rattle.vc_reader.specs.declared.fault.DautFault.TheVariants.{Syntax, NotALabel, Overflow, Limit, Memory}
use Rattle.vc_reader.specs.Answers.{IsReadAfter, IsBuilt, IsUnfit, IsPastLimit, AreInGrammar, states_alone, given_after}
use Rattle.vc_reader.specs.Building.{line_weights, HaveNumbers, IsRefused, AreTaken, with_given, with_all}
use Rattle.vc_lex.specs.Marks.{Mark}
use Rattle.vc_lines.specs.Grammar.{Line, blank, initial_at, final_at, moves, state, entries_of}
use Rattle.vc_lines.specs.Heads.{HeadLine}
use Rattle.vc_reader.specs.Meaning.{Given, given_by, number_of}
use Rattle.vc_lines.specs.Names.{AreNames, AreInOrder, line_names, with_names}
use Rattle.vc_reader.specs.Passes.{IsNumeralAt, IsRefusedAt}
use Rattle.vc_reader.specs.Readings.{IsWantOfMemory, IsPastBounds, IsSameReading}
use Rattle.vc_reader.specs.Spelling.{bad_line, lines_in, AreOver, AreEntriesOver, IsLineOver, IsFirstEntry, IsFirstInLine, IsFirstLabel}
use Rattle.vc_reader.proofs.NameOrder.{with_names_in, with_names_once}

-- members of another list, each once, are no more than those
pub no_more : {X : Type 0} (xs ys : List X) → NoRepeat xs → ((x : X) → In x xs → In x ys) → length xs ≤ length ys
no_more [] ys n f = omega arith
no_more {X} (x ∷ xs) ys n f =
    let p = place_of x ys (f x (inl refl)) in
    let r = no_more xs (p.before ++ p.after) n.1 (λ z i. rest p.before p.after z i (subst (In z) p.is (f z (inr i)))) in
    let e = ap length p.is in
    let l = length-append p.before (x ∷ p.after) in
    let m = length-append p.before p.after in
    omega (arith, r, e, l, m)
  where
    rest : (before after : List X) (z : X) → In z xs → In z (before ++ x ∷ after) → In z (before ++ after)
    rest before after z i j = elim (In-middle_cases z x before after j) [
      | inl e ↦ absurd (n.0 (subst (λ y. In y xs) e i))
      | inr k ↦ k
    ]

-- as many names are in order as were found
pub names_count : (raw names : List (List ℕ)) → AreInOrder raw names → length (with_names [] raw) ≤ length names
names_count raw names o = no_more (with_names [] raw) names (with_names_once [] raw tt) (λ a i. (o.named a).1 (found a ((with_names_in [] raw a).0 i)))
  where
    found : (a : List ℕ) → In a [] ⊎ In a raw → In a raw
    found a (inl h) = absurd h
    found a (inr i) = i

module _ (sets : List TapeSet) where
  over_no_entry : (es : List (List Mark)) (p : ℕ × ℕ) → AreEntriesOver sets es → IsFirstEntry sets es p → ⊥
  over_no_entry [] p o f = f
  over_no_entry (e ∷ es) p (a, o) (inl (n, q)) = n a
  over_no_entry (e ∷ es) p (a, o) (inr (b, f)) = over_no_entry es p o f

  over_no_line : (l : Line) (p : ℕ × ℕ) → IsLineOver sets l → IsFirstInLine sets l p → ⊥
  over_no_line blank p o f = f
  over_no_line (initial_at s w) p o f = f
  over_no_line (final_at s w) p o f = f
  over_no_line (moves s t es) p o f = over_no_entry (entries_of es) p o f
  over_no_line (state s) p o f = f

  -- labels that are all in the sets have no first that is not
  over_no_first : (n : ℕ) (ls : List Line) (line : ℕ) (p : ℕ × ℕ) → AreOver sets ls → IsFirstLabel sets n ls line p → ⊥
  over_no_first n [] line p o f = f
  over_no_first n (l ∷ ls) line p (a, o) (inl (e, f)) = over_no_line l p a f
  over_no_first n (l ∷ ls) line p (a, o) (inr (b, f)) = over_no_first (n + 1) ls line p o f

  entry_once : (es : List (List Mark)) (p q : ℕ × ℕ) → IsFirstEntry sets es p → IsFirstEntry sets es q → p ≡ q
  entry_once [] p q f g = absurd f
  entry_once (e ∷ es) p q (inl (n, f)) (inl (m, g)) = f ∙ sym g
  entry_once (e ∷ es) p q (inl (n, f)) (inr (a, g)) = absurd (n a)
  entry_once (e ∷ es) p q (inr (a, f)) (inl (n, g)) = absurd (n a)
  entry_once (e ∷ es) p q (inr (a, f)) (inr (b, g)) = entry_once es p q f g

  in_line_once : (l : Line) (p q : ℕ × ℕ) → IsFirstInLine sets l p → IsFirstInLine sets l q → p ≡ q
  in_line_once blank p q f g = absurd f
  in_line_once (initial_at s w) p q f g = absurd f
  in_line_once (final_at s w) p q f g = absurd f
  in_line_once (moves s t es) p q f g = entry_once (entries_of es) p q f g
  in_line_once (state s) p q f g = absurd f

  -- at most one label is the first that is not in the sets
  first_once : (n : ℕ) (ls : List Line) (line other : ℕ) (p q : ℕ × ℕ) → IsFirstLabel sets n ls line p → IsFirstLabel sets n ls other q → (line ≡ other) × (p ≡ q)
  first_once n [] line other p q f g = absurd f
  first_once n (l ∷ ls) line other p q (inl (d, f)) (inl (e, g)) = (d ∙ sym e, in_line_once l p q f g)
  first_once n (l ∷ ls) line other p q (inl (d, f)) (inr (a, g)) = absurd (over_no_line l p a f)
  first_once n (l ∷ ls) line other p q (inr (a, f)) (inl (e, g)) = absurd (over_no_line l q a g)
  first_once n (l ∷ ls) line other p q (inr (a, f)) (inr (b, g)) = first_once (n + 1) ls line other p q f g

module _ {V : Type 0} (R : WeightSet V) (spelled : List ℕ → Option V) (fit : List ℕ → Bool) where
  -- numbers that are all in their ranges have none that is past
  no_numeral : (n : ℕ) (ls : List Line) (line at : ℕ) → HaveNumbers R spelled fit (flat_map line_weights ls) → IsNumeralAt R spelled fit n ls line at → ⊥
  no_numeral n [] line at h k = k
  no_numeral n (l ∷ ls) line at h (inl (e, (m, i, q, t))) = let f = h m (In-append_left m (line_weights l) (flat_map line_weights ls) i) in cc (sym t ∙ f)
  no_numeral n (l ∷ ls) line at h (inr k) = no_numeral (n + 1) ls line at (λ m i. h m (In-append_right m (line_weights l) (flat_map line_weights ls) i)) k

  -- of what is taken nothing is refused
  pub taken_not_refused : (d : Draft V) (gs : List (Given V)) (f : MakeFault V) → AreTaken R d gs → IsRefused R d gs f → ⊥
  taken_not_refused d [] f t r = r
  taken_not_refused d (g ∷ gs) f (e, t) (inl r) = cc (sym e ∙ r)
  taken_not_refused d (g ∷ gs) f (e, t) (inr (k, r)) = taken_not_refused (with_given R d g) gs f t r

  taken_parts : (d : Draft V) (gs hs : List (Given V)) → AreTaken R d (gs ++ hs) → AreTaken R d gs × AreTaken R (with_all R d gs) hs
  taken_parts d [] hs t = (tt, t)
  taken_parts d (g ∷ gs) hs (e, t) = let r = taken_parts (with_given R d g) gs hs t in ((e, r.0), r.1)

  taken_not_refused_at : (given : Line → List (Given V)) (n : ℕ) (ls : List Line) (d : Draft V) (line : ℕ) (f : MakeFault V) → AreTaken R d (flat_map given ls) → IsRefusedAt R spelled fit given n ls d line f → ⊥
  taken_not_refused_at given n [] d line f t r = r
  taken_not_refused_at given n (l ∷ ls) d line f t (inl (e, r)) = taken_not_refused d (given l) f (taken_parts d (given l) (flat_map given ls) t).0 r
  taken_not_refused_at given n (l ∷ ls) d line f t (inr (k, r)) = taken_not_refused_at given (n + 1) ls (with_all R d (given l)) line f (taken_parts d (given l) (flat_map given ls) t).1 r

module _ {V : Type 0} (T : WeightTexts V) (sets : List TapeSet) (h : HeadLine)
    (once : (names others : List (List ℕ)) → AreNames (lines_in T.spelled h.after) names → AreNames (lines_in T.spelled h.after) others → names ≡ others) where
  -- what is past its bounds
  abbrev Past : Type 0
  Past =
      ((line at : ℕ) × IsNumeralAt T.set T.spelled T.numbers_fit (h.number + 1) (lines_in T.spelled h.after) line at)
      ⊎ (((line : ℕ) × (fault : MakeFault V) × IsUnfit T sets h line fault)
      ⊎ ((l : Bound) × IsPastLimit T sets h l))

  -- an answer by its kind
  data Kind (x : Result (Labelled V) (DautFault V)) : Type 0 where
    wanting : IsWantOfMemory x → Kind x
    bad : (l : ℕ) → x ≡ Err (Syntax l) → bad_line T.spelled (h.number + 1) h.after ≡ Some l → Kind x
    outside : (line from to : ℕ) → x ≡ Err (NotALabel line from to) → bad_line T.spelled (h.number + 1) h.after ≡ None → IsFirstLabel sets (h.number + 1) (lines_in T.spelled h.after) line (from, to) → Kind x
    past : IsPastBounds x → AreInGrammar T sets h → Past → Kind x
    built : (a : Labelled V) → x ≡ Ok a → IsBuilt T sets h a → Kind x

  kind_of : (x : Result (Labelled V) (DautFault V)) → IsReadAfter T sets h x → Kind x
  kind_of (Ok a) b = built a refl b
  kind_of (Err (Syntax l)) b = bad l refl b
  kind_of (Err (NotALabel line from to)) (n, b) = outside line from to refl n b
  kind_of (Err (Overflow line (Numeral at))) (g, b) = past tt g (inl (line, at, b))
  kind_of (Err (Overflow line (Add v w))) (g, b) = past tt g (inr (inl (line, Unfit (Add v w), b)))
  kind_of (Err (Overflow line (Mul v w))) b = absurd b
  kind_of (Err (Overflow line (Star v))) b = absurd b
  kind_of (Err (Limit l)) (g, b) = past tt g (inr (inr (l, b)))
  kind_of (Err (Memory e)) b = wanting tt

  some_not_none : (o : Option ℕ) (l : ℕ) → o ≡ Some l → o ≡ None → ⊥
  some_not_none o l e f = cc (sym e ∙ f)

  -- nothing in what was built is past its bounds
  within : (a : Labelled V) → IsBuilt T sets h a → Past → ⊥
  within a b (inl (line, at, k)) = no_numeral T.set T.spelled T.numbers_fit (h.number + 1) (lines_in T.spelled h.after) line at b.numbers k
  within a b (inr (inl (line, fault, (names, n, r)))) =
      taken_not_refused_at T.set T.spelled T.numbers_fit (given_by T.set T.spelled sets (number_of b.names)) (h.number + 1) (lines_in T.spelled h.after) (states_alone T sets (length b.names)) line fault b.taken
      (subst (λ (ns : List (List ℕ)). IsRefusedAt T.set T.spelled T.numbers_fit (given_by T.set T.spelled sets (number_of ns)) (h.number + 1) (lines_in T.spelled h.after) (states_alone T sets (length ns)) line fault) (once names b.names n b.are_names) r)
  within a b (inr (inr (l, inl (e, k)))) =
      let c = names_count (flat_map line_names (lines_in T.spelled h.after)) b.names b.are_names in
      let f = b.few in
      omega (arith, c, f, k)
  within a b (inr (inr (l, inr (names, n, r)))) =
      taken_not_refused T.set T.spelled T.numbers_fit (states_alone T sets (length b.names)) (given_after T sets h b.names) (PastLimit l) b.taken
      (subst (λ (ns : List (List ℕ)). IsRefused T.set (states_alone T sets (length ns)) (given_after T sets h ns) (PastLimit l)) (once names b.names n b.are_names) r)

  same_built : (a b : Labelled V) → IsBuilt T sets h a → IsBuilt T sets h b → a ≡ b
  same_built a b f g =
      f.built
      ∙ ap (λ (ns : List (List ℕ)). finished T.set T.same (with_all T.set (states_alone T sets (length ns)) (given_after T sets h ns))) (once f.names g.names f.are_names g.are_names)
      ∙ sym g.built

  exclude_by : (x y : Result (Labelled V) (DautFault V)) → Kind x → Kind y → IsSameReading x y
  exclude_by x y (wanting m) k = inl (inl m)
  exclude_by x y (bad l e b) (wanting m) = inl (inr m)
  exclude_by x y (bad l e b) (bad m f c) = inr (inl (e ∙ ap (λ (o : ℕ). Err (Syntax o)) (one l m (sym b ∙ c)) ∙ sym f))
    where
      one : (l m : ℕ) → Some l ≡ Some m → l ≡ m
      one l m e = cc
  exclude_by x y (bad l e b) (outside line from to f n c) = absurd (some_not_none (bad_line T.spelled (h.number + 1) h.after) l b n)
  exclude_by x y (bad l e b) (past p (n, o) c) = absurd (some_not_none (bad_line T.spelled (h.number + 1) h.after) l b n)
  exclude_by x y (bad l e b) (built a f c) = absurd (some_not_none (bad_line T.spelled (h.number + 1) h.after) l b c.are_lines)
  exclude_by x y (outside line from to e n b) (wanting m) = inl (inr m)
  exclude_by x y (outside line from to e n b) (bad l f c) = absurd (some_not_none (bad_line T.spelled (h.number + 1) h.after) l c n)
  exclude_by x y (outside line from to e n b) (outside other start end f m c) =
      let k = first_once sets (h.number + 1) (lines_in T.spelled h.after) line other (from, to) (start, end) b c in
      inr (inl (e ∙ ap₂ (λ (l : ℕ) (s : ℕ × ℕ). Err (NotALabel l s.0 s.1)) k.0 k.1 ∙ sym f))
  exclude_by x y (outside line from to e n b) (past p (m, o) c) = absurd (over_no_first sets (h.number + 1) (lines_in T.spelled h.after) line (from, to) o b)
  exclude_by x y (outside line from to e n b) (built a f c) = absurd (over_no_first sets (h.number + 1) (lines_in T.spelled h.after) line (from, to) c.over b)
  exclude_by x y (past p g b) (wanting m) = inl (inr m)
  exclude_by x y (past p (n, o) b) (bad l f c) = absurd (some_not_none (bad_line T.spelled (h.number + 1) h.after) l c n)
  exclude_by x y (past p (n, o) b) (outside line from to f m c) = absurd (over_no_first sets (h.number + 1) (lines_in T.spelled h.after) line (from, to) o c)
  exclude_by x y (past p g b) (past q i c) = inr (inr (p, q))
  exclude_by x y (past p g b) (built a f c) = absurd (within a c b)
  exclude_by x y (built a e b) (wanting m) = inl (inr m)
  exclude_by x y (built a e b) (bad l f c) = absurd (some_not_none (bad_line T.spelled (h.number + 1) h.after) l c b.are_lines)
  exclude_by x y (built a e b) (outside line from to f n c) = absurd (over_no_first sets (h.number + 1) (lines_in T.spelled h.after) line (from, to) b.over c)
  exclude_by x y (built a e b) (past p g c) = absurd (within a b c)
  exclude_by x y (built a e b) (built c f d) = inr (inl (e ∙ ap Ok (same_built a c b d) ∙ sym f))

  -- two answers on one text
  pub exclude : (x y : Result (Labelled V) (DautFault V)) → IsReadAfter T sets h x → IsReadAfter T sets h y → IsSameReading x y
  exclude x y a b = exclude_by x y (kind_of x a) (kind_of y b)
