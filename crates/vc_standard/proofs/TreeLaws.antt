-- The structure of a tree from those of its parts.
use Rattle.std.proofs.Common.{◌≡◌, ℕ, List, [], ◌∷◌, map, length, length-append, ◌+◌, ◌<◌, ◌≤◌, Bool, true, cond, sym, ap, ap₂, ◌∙◌, subst, arith, refl, inl, inr, get_or, drop}
use Rattle.std.specs.Prelude.{IsTrue, All}
use Rattle.vc_expr.specs.Names.{Has, tree_of, trees_of}
use Rattle.vc_expr.specs.declared.expr.Expr.{Expr}
use Rattle.vc_model.specs.Lists.{In}
use Rattle.vc_model.specs.Rearranged.{zero_plus, one_times}
use Rattle.vc_model.specs.Series.{star_or_zero}
use Rattle.vc_model.specs.WeightSet.{WeightSet, SemiringLaws}
use Rattle.vc_ring.specs.declared.faults.MakeFault.{MakeFault}
use Rattle.vc_ring.specs.declared.faults.Overflow.{Overflow}
use Rattle.vc_terms.specs.Terms.{Term, Terms, NoTerms, MoreTerms, Zero, One, Atom, Sum, Product, Star, Weight, Both, Shuffle, terms_of, constant_of, sum_constant, product_constant}
use Rattle.vc_standard.specs.Counts.{moves_in}
use Rattle.vc_standard.specs.Named.{IsLarge, NamesMore, OneNamesMore}
use Rattle.vc_standard.specs.Refusals.{IsFault}
use Rattle.vc_standard.specs.Steps.{IsStep, IsStepOfSum, IsStepOfProduct, IsSumStep, IsProductStep, IsMultiple, IsStarStep, IsBothStep, IsShuffleStep}
use Rattle.vc_standard.specs.Structures.{Moves, Standard, Position, size_of, moved, moved_position, bare, beside, copied, followed, chained, looped, conjoined, shuffled, standard_of, beside_all, chained_all}
use Rattle.vc_standard.specs.Work.{work_of, works_of}
use Rattle.vc_standard.proofs.CountLaws.{moves-append}
use Rattle.vc_standard.proofs.Faults.{dropped, passed_on, read_at}

module _ {V : Type 0} (R : WeightSet V) (equal : V → V → Bool) where
  -- a state that others follow has no fewer transitions
  followed-more : (xs : Moves V) (c : V) (p : Position V) → length p.moves ≤ length (followed R equal xs c p).moves
  followed-more xs c p = let e = length-append p.moves (copied R equal p.final xs) in omega (arith, e)

  all_followed-more : (xs : Moves V) (c : V) (ps : List (Position V)) → moves_in ps ≤ moves_in (map (followed R equal xs c) ps)
  all_followed-more xs c [] = omega arith
  all_followed-more xs c (p ∷ ps) = let a = followed-more xs c p in let b = all_followed-more xs c ps in omega (arith, a, b)

  large-beside : (n : ℕ) (A B : Standard V) → IsLarge n A → IsLarge n (beside R A B)
  large-beside n A B h =
      let a = length-append A.start.moves (moved (size_of A) B.start.moves) in
      let b = moves-append A.positions (map (moved_position (size_of A)) B.positions) in
      omega (arith, h, a, b)

  large-chained : (n : ℕ) (A B : Standard V) → IsLarge n A → IsLarge n (chained R equal A B)
  large-chained n A B h =
      let a = followed-more (moved (size_of A) B.start.moves) B.start.final A.start in
      let b = all_followed-more (moved (size_of A) B.start.moves) B.start.final A.positions in
      let c = moves-append (map (followed R equal (moved (size_of A) B.start.moves) B.start.final) A.positions) (map (moved_position (size_of A)) B.positions) in
      omega (arith, h, a, b, c)

  pub large-beside_all : (n : ℕ) (A : Standard V) (ts : Terms V) → IsLarge n A → IsLarge n (beside_all R equal A ts)
  large-beside_all n A NoTerms h = h
  large-beside_all n A (MoreTerms t ts) h = large-beside_all n (beside R A (standard_of R equal t)) ts (large-beside n A (standard_of R equal t) h)

  pub large-chained_all : (n : ℕ) (A : Standard V) (ts : Terms V) → IsLarge n A → IsLarge n (chained_all R equal A ts)
  large-chained_all n A NoTerms h = h
  large-chained_all n A (MoreTerms t ts) h = large-chained_all n (chained R equal A (standard_of R equal t)) ts (large-chained n A (standard_of R equal t) h)

  -- where one of the trees names more, this is said of the list
  pub one_names : (n : ℕ) (ts : List (Term V)) (t : Term V) → In t ts → NamesMore R equal n t → OneNamesMore R equal n (terms_of ts)
  one_names n [] t i h = absurd i
  one_names n (u ∷ ts) t (inl e) h = inl (subst (NamesMore R equal n) e h)
  one_names n (u ∷ ts) t (inr i) h = inr (one_names n ts t i h)

  module _ {X : Type 0} (f : X → Term V) (xs : List X) (i : ℕ) (x : X) (l : i < length xs) (is : x ≡ get_or xs i x) (A : Standard V) where
    abbrev rest : ℕ → Terms V
    rest k = terms_of (map f (drop k xs))

    here : rest i ≡ MoreTerms (f x) (rest (i + 1))
    here = ap terms_of (dropped f xs i x l is)

    pub sum_next : (B all : Standard V) (whole : Standard V) → B ≡ standard_of R equal (f x) → all ≡ beside R A B → beside_all R equal A (rest i) ≡ whole → beside_all R equal all (rest (i + 1)) ≡ whole
    sum_next B all whole b a w = ap (λ k. beside_all R equal k (rest (i + 1))) (a ∙ ap (beside R A) b) ∙ ap (beside_all R equal A) (sym here) ∙ w

    pub sum_step_part : (P : Overflow V → Type 0) → ((o : Overflow V) → IsStepOfSum R equal A (rest i) o → P o) → (o : Overflow V) → IsStep R equal (f x) o → P o
    sum_step_part P h o s = h o (subst (λ ts. IsStepOfSum R equal A ts o) (sym here) (inl s))

    pub sum_step_here : (B : Standard V) → B ≡ standard_of R equal (f x) → (P : Overflow V → Type 0) → ((o : Overflow V) → IsStepOfSum R equal A (rest i) o → P o) → (o : Overflow V) → IsSumStep A B o → P o
    sum_step_here B b P h o s = h o (subst (λ ts. IsStepOfSum R equal A ts o) (sym here) (inr (inl (subst (λ k. IsSumStep A k o) b s))))

    pub sum_step_next : (B all : Standard V) → B ≡ standard_of R equal (f x) → all ≡ beside R A B → (P : Overflow V → Type 0) → ((o : Overflow V) → IsStepOfSum R equal A (rest i) o → P o)
        → (o : Overflow V) → IsStepOfSum R equal all (rest (i + 1)) o → P o
    sum_step_next B all b a P h o s =
        h o (subst (λ ts. IsStepOfSum R equal A ts o) (sym here) (inr (inr (subst (λ k. IsStepOfSum R equal k (rest (i + 1)) o) (a ∙ ap (beside R A) b) s))))

    pub sum_large : (B whole : Standard V) → B ≡ standard_of R equal (f x) → beside_all R equal A (rest i) ≡ whole → (n : ℕ) → IsLarge n (beside R A B) → IsLarge n whole
    sum_large B whole b w n h =
        subst (IsLarge n) (ap (λ k. beside_all R equal (beside R A k) (rest (i + 1))) b ∙ ap (beside_all R equal A) (sym here) ∙ w) (large-beside_all n (beside R A B) (rest (i + 1)) h)

    pub product_next : (B all : Standard V) (whole : Standard V) → B ≡ standard_of R equal (f x) → all ≡ chained R equal A B → chained_all R equal A (rest i) ≡ whole → chained_all R equal all (rest (i + 1)) ≡ whole
    product_next B all whole b a w = ap (λ k. chained_all R equal k (rest (i + 1))) (a ∙ ap (chained R equal A) b) ∙ ap (chained_all R equal A) (sym here) ∙ w

    pub product_step_part : (P : Overflow V → Type 0) → ((o : Overflow V) → IsStepOfProduct R equal A (rest i) o → P o) → (o : Overflow V) → IsStep R equal (f x) o → P o
    product_step_part P h o s = h o (subst (λ ts. IsStepOfProduct R equal A ts o) (sym here) (inl s))

    pub product_step_here : (B : Standard V) → B ≡ standard_of R equal (f x) → (P : Overflow V → Type 0) → ((o : Overflow V) → IsStepOfProduct R equal A (rest i) o → P o) → (o : Overflow V) → IsProductStep A B o → P o
    product_step_here B b P h o s = h o (subst (λ ts. IsStepOfProduct R equal A ts o) (sym here) (inr (inl (subst (λ k. IsProductStep A k o) b s))))

    pub product_step_next : (B all : Standard V) → B ≡ standard_of R equal (f x) → all ≡ chained R equal A B → (P : Overflow V → Type 0) → ((o : Overflow V) → IsStepOfProduct R equal A (rest i) o → P o)
        → (o : Overflow V) → IsStepOfProduct R equal all (rest (i + 1)) o → P o
    product_step_next B all b a P h o s =
        h o (subst (λ ts. IsStepOfProduct R equal A ts o) (sym here) (inr (inr (subst (λ k. IsStepOfProduct R equal k (rest (i + 1)) o) (a ∙ ap (chained R equal A) b) s))))

    pub product_large : (B whole : Standard V) → B ≡ standard_of R equal (f x) → chained_all R equal A (rest i) ≡ whole → (n : ℕ) → IsLarge n (chained R equal A B) → IsLarge n whole
    product_large B whole b w n h =
        subst (IsLarge n) (ap (λ k. chained_all R equal (chained R equal A k) (rest (i + 1))) b ∙ ap (chained_all R equal A) (sym here) ∙ w) (large-chained_all n (chained R equal A B) (rest (i + 1)) h)

-- a part takes less work than the list
pub work_in : {V : Type 0} (ts : List (Term V)) (t : Term V) → In t ts → work_of t ≤ works_of (terms_of ts)
work_in [] t i = absurd i
work_in (u ∷ ts) t (inl e) = let h : work_of t ≡ work_of u = ap work_of e in omega (arith, h)
work_in (u ∷ ts) t (inr i) = let h = work_in ts t i in omega (arith, h)

module _ {V : Type 0} {R : WeightSet V} (L : SemiringLaws R) (equal : V → V → Bool) where
  mutual
    -- the final weight of the start is the constant term
    pub final-standard : (t : Term V) → (standard_of R equal t).start.final ≡ constant_of R t
    final-standard Zero = refl
    final-standard One = refl
    final-standard (Atom a) = refl
    final-standard (Sum ts) = final-beside_all (bare R.zero) ts ∙ zero_plus L _
    final-standard (Product ts) = final-chained_all (bare R.one) ts ∙ one_times L _
    final-standard (Star t) = ap (star_or_zero R) (final-standard t)
    final-standard (Weight k t) = ap (R.times k) (final-standard t)
    final-standard (Both t u) = ap₂ R.times (final-standard t) (final-standard u)
    final-standard (Shuffle t u) = ap₂ R.times (final-standard t) (final-standard u)

    final-beside_all : (A : Standard V) (ts : Terms V) → (beside_all R equal A ts).start.final ≡ R.plus A.start.final (sum_constant R ts)
    final-beside_all A NoTerms = sym (L.plus_zero _)
    final-beside_all A (MoreTerms t ts) =
        final-beside_all (beside R A (standard_of R equal t)) ts
        ∙ ap (λ c. R.plus (R.plus A.start.final c) (sum_constant R ts)) (final-standard t) ∙ L.plus_assoc _ _ _

    final-chained_all : (A : Standard V) (ts : Terms V) → (chained_all R equal A ts).start.final ≡ R.times A.start.final (product_constant R ts)
    final-chained_all A NoTerms = sym (L.times_one _)
    final-chained_all A (MoreTerms t ts) =
        final-chained_all (chained R equal A (standard_of R equal t)) ts
        ∙ ap (λ c. R.times (R.times A.start.final c) (product_constant R ts)) (final-standard t) ∙ L.times_assoc _ _ _

  -- where the constant term has a star, this is what the structure takes
  pub star_taken : (t : Term V) (c : V) → c ≡ (standard_of R equal t).start.final → IsTrue (R.has_star (constant_of R t)) → R.star c ≡ star_or_zero R (standard_of R equal t).start.final
  star_taken t c e h =
      let d : R.has_star (standard_of R equal t).start.final ≡ true = ap R.has_star (final-standard t) ∙ h in
      ap R.star e ∙ sym (ap (λ b. cond b (R.star (standard_of R equal t).start.final) R.zero) d)

  pub has_star : (t : Term V) (c : V) → c ≡ (standard_of R equal t).start.final → IsTrue (R.has_star (constant_of R t)) → IsTrue (R.has_star c)
  has_star t c e h = ap R.has_star (e ∙ final-standard t) ∙ h

  module _ (t : Term V) (A : Standard V) (a : A ≡ standard_of R equal t) (f : MakeFault V) where
    pub star_fault : (h : V) → h ≡ star_or_zero R (standard_of R equal t).start.final → IsFault R (IsStarStep R equal h A) (IsLarge 4000000 (looped R equal h A)) f → IsFault R (IsStep R equal (Star t)) (NamesMore R equal 4000000 (Star t)) f
    star_fault h e g =
        let k = subst (λ B. IsFault R (IsStarStep R equal h B) (IsLarge 4000000 (looped R equal h B)) f) a g in
        let l = subst (λ c. IsFault R (IsStarStep R equal c (standard_of R equal t)) (IsLarge 4000000 (looped R equal c (standard_of R equal t))) f) e k in
        passed_on R _ (IsStep R equal (Star t)) _ (NamesMore R equal 4000000 (Star t)) (λ o s. inr s) (λ m. inl m) f l

    pub weight_fault : (k : V) → IsFault R (IsMultiple k A.start) ⊥ f → IsFault R (IsStep R equal (Weight k t)) (NamesMore R equal 4000000 (Weight k t)) f
    weight_fault k g =
        let l = subst (λ B. IsFault R (IsMultiple k B.start) ⊥ f) a g in
        passed_on R _ (IsStep R equal (Weight k t)) ⊥ (NamesMore R equal 4000000 (Weight k t)) (λ o s. inr s) (λ m. absurd m) f l

    module _ (u : Term V) (B : Standard V) (b : B ≡ standard_of R equal u) where
      pub both_fault : IsFault R (IsBothStep A B) (IsLarge 4000000 (conjoined R A B)) f → IsFault R (IsStep R equal (Both t u)) (NamesMore R equal 4000000 (Both t u)) f
      both_fault g =
          let k = subst (λ C. IsFault R (IsBothStep C B) (IsLarge 4000000 (conjoined R C B)) f) a g in
          let l = subst (λ C. IsFault R (IsBothStep (standard_of R equal t) C) (IsLarge 4000000 (conjoined R (standard_of R equal t) C)) f) b k in
          passed_on R _ (IsStep R equal (Both t u)) _ (NamesMore R equal 4000000 (Both t u)) (λ o s. inr (inr s)) (λ m. inl m) f l

      pub shuffle_fault : IsFault R (IsShuffleStep R A B) (IsLarge 4000000 (shuffled R A B)) f → IsFault R (IsStep R equal (Shuffle t u)) (NamesMore R equal 4000000 (Shuffle t u)) f
      shuffle_fault g =
          let k = subst (λ C. IsFault R (IsShuffleStep R C B) (IsLarge 4000000 (shuffled R C B)) f) a g in
          let l = subst (λ C. IsFault R (IsShuffleStep R (standard_of R equal t) C) (IsLarge 4000000 (shuffled R (standard_of R equal t) C)) f) b k in
          passed_on R _ (IsStep R equal (Shuffle t u)) _ (NamesMore R equal 4000000 (Shuffle t u)) (λ o s. inr (inr s)) (λ m. inl m) f l

-- a part of a list is a name where all are, and takes less work than the list
pub part_here : {V : Type 0} (s : List (Term V)) (es : List Expr) (i : ℕ) (e : Expr) → All (Has s) es → i < length es → e ≡ get_or es i e → Has s e
part_here s es i e h l is = subst (Has s) (sym is) (h i e l)

pub part_smaller : {V : Type 0} (s : List (Term V)) (es : List Expr) (i : ℕ) (e : Expr) → i < length es → e ≡ get_or es i e → work_of (tree_of s e) < 1 + works_of (terms_of (trees_of s es))
part_smaller s es i e l is = let h = work_in (trees_of s es) (tree_of s e) (read_at (tree_of s) es i e l is) in omega (arith, h)
