-- Names on a stack, and what a call puts in place of the last of them.
use Rattle.std.proofs.Common.{◌≡◌, ◌-◌, ℕ, true, Result, Ok, Err, List, [], ◌∷◌, ◌++◌, take, drop, length, refl, ap, ap₂, sym, ◌∙◌, subst, arith, length-append, All}
use Rattle.std.proofs.Math.ListN.{get_or-append}
use Rattle.std.proofs.Math.Seq.{take-append_seam, drop-append_seam}
use Rattle.std.proofs.lemmas.List.{take_all, length-drop, length-map, take-append-drop}
use Rattle.std.proofs.lemmas.List.Elements.{All-cons, All-head, All-tail, All-weaker, All-append, All-nil}
use Rattle.std.specs.Prelude.{◌≤◌, nat_le, if◌then◌else◌}
use Rattle.vc_expr.specs.Answers.{IsMade, IsStarMade}
use Rattle.vc_expr.specs.Names.{Has, tree_of, trees_of, Grows}
use Rattle.vc_expr.specs.declared.expr.Expr.{Expr}
use Rattle.vc_expr.specs.declared.fault.ExprFault.{ExprFault}
use Rattle.vc_expr.specs.declared.fault.ExprFault.TheVariants.{InvalidStar, Overflow, Memory}
use Rattle.vc_ring.specs.declared.faults.Overflow.{Overflow as Step}
use Rattle.vc_ring.specs.declared.faults.StarFault.{StarFault}
use Rattle.vc_terms.specs.Terms.{Term, Zero}
use Rattle.vc_exprio.specs.BuildAnswers.{text_fault, IsRefusedBy, AreMade, IsPut}
use Rattle.vc_exprio.specs.Building.{BuildRefusal, unfit, no_star, unless_unfit, unless_no_star}
use Rattle.vc_exprio.specs.Making.{Progress, made, lacking, put_behind, replaced}
use Rattle.vc_exprio.specs.declared.fault.TextFault.{TextFault}
use Rattle.vc_exprio.specs.declared.fault.TextFault.TheVariants as text

All-front : {X : Type 0} (P : X → Type 0) (xs ys : List X) → All P (xs ++ ys) → All P xs
All-front P [] ys h = All-nil P
All-front P (x ∷ xs) ys h = All-cons P x xs (All-head P x (xs ++ ys) h) (All-front P xs ys (All-tail P x (xs ++ ys) h))

All-back : {X : Type 0} (P : X → Type 0) (xs ys : List X) → All P (xs ++ ys) → All P ys
All-back P [] ys h = h
All-back P (x ∷ xs) ys h = All-back P xs ys (All-tail P x (xs ++ ys) h)

-- a slice of the last of a list, behind those before it
pub record IsLast {X : Type 0} (xs : List X) (count : ℕ) (last : List X) : Type 0 where
  pub cut : xs ≡ take (length xs - count) xs ++ last
  pub many : length last ≡ count

last_is_last : {X : Type 0} (xs : List X) (count : ℕ) → count ≤ length xs → IsLast xs count (take (length xs - (length xs - count)) (drop (length xs - count) xs))
last_is_last xs count h = record {
  cut = sym (take-append-drop (length xs - count) xs)
      ∙ ap (λ ys. take (length xs - count) xs ++ ys) (sym (take_all (length xs - (length xs - count)) (drop (length xs - count) xs) (omega (arith, length-drop (length xs - count) xs))));
  many = ap (λ ys. length ys) (take_all (length xs - (length xs - count)) (drop (length xs - count) xs) (omega (arith, length-drop (length xs - count) xs)))
      ∙ length-drop (length xs - count) xs ∙ omega (arith, h);
}

pub slice_is_last : {X : Type 0} (xs s : List X) (n count : ℕ) → s ≡ xs → n ≡ length xs → count ≤ length xs → IsLast xs count (take (length s - (n - count)) (drop (n - count) s))
slice_is_last xs s n count e f h =
    subst (λ ys. IsLast xs count (take (length ys - (n - count)) (drop (n - count) ys))) (sym e)
    (subst (λ k. IsLast xs count (take (length xs - (k - count)) (drop (k - count) xs))) (sym f) (last_is_last xs count h))

module _ {V : Type 0} where
  grown_has : (old new : List (Term V)) (e : Expr) → Grows old new → Has old e → Has new e
  grown_has old new e G h = subst (λ s. Has s e) (sym G.is) (omega (arith, length-append old G.more, h))

  grown_tree : (old new : List (Term V)) (e : Expr) → Grows old new → Has old e → tree_of new e ≡ tree_of old e
  grown_tree old new e G h = ap (λ s. tree_of s e) G.is ∙ get_or-append old G.more Zero e.at h

  -- names keep their trees
  pub has_kept : (old new : List (Term V)) (es : List Expr) → Grows old new → All (Has old) es → All (Has new) es
  has_kept old new es G h = All-weaker (Has old) (Has new) (λ e k. grown_has old new e G k) es h

  pub has_more : (old new : List (Term V)) (es : List Expr) (e : Expr) → Grows old new → All (Has old) es → Has new e → All (Has new) (es ++ e ∷ [])
  has_more old new es e G h k = All-append (Has new) es (e ∷ []) (has_kept old new es G h) (All-cons (Has new) e [] k (All-nil (Has new)))

  -- the last name
  pub last_has : (s : List (Term V)) (names front : List Expr) (e : Expr) → names ≡ front ++ e ∷ [] → All (Has s) names → Has s e
  last_has s names front e i h = All-head (Has s) e [] (All-back (Has s) front (e ∷ []) (subst (All (Has s)) i h))

  pub trees_kept : (old new : List (Term V)) (es : List Expr) → Grows old new → All (Has old) es → trees_of new es ≡ trees_of old es
  trees_kept old new [] G h = refl
  trees_kept old new (e ∷ es) G h = ap₂ (λ t ts. t ∷ ts) (grown_tree old new e G (All-head (Has old) e es h)) (trees_kept old new es G (All-tail (Has old) e es h))

  pub trees_append : (s : List (Term V)) (ds es : List Expr) → trees_of s (ds ++ es) ≡ trees_of s ds ++ trees_of s es
  trees_append s [] es = refl
  trees_append s (d ∷ ds) es = ap (λ ts. tree_of s d ∷ ts) (trees_append s ds es)

  length-trees : (s : List (Term V)) (es : List Expr) → length (trees_of s es) ≡ length es
  length-trees s es = length-map es (tree_of s)

  -- the last names give way to what the call makes of their trees
  replaced_is : (n : ℕ) (call : List (Term V) → Result (Term V) (BuildRefusal V)) (ts us : List (Term V)) → length us ≡ n → replaced n call (ts ++ us) ≡ put_behind ts (call us)
  replaced_is n call ts us e =
      let enough : nat_le n (length (ts ++ us)) ≡ true = grind (arith, e, length-append ts us) in
      let front : length (ts ++ us) - n ≡ length ts = omega (arith, e, length-append ts us) in
      ap (λ b. if b then put_behind (take (length (ts ++ us) - n) (ts ++ us)) (call (drop (length (ts ++ us) - n) (ts ++ us))) else lacking) enough
      ∙ ap (λ j. put_behind (take j (ts ++ us)) (call (drop j (ts ++ us)))) front
      ∙ ap₂ (λ a b. put_behind a (call b)) (take-append_seam ts us) (drop-append_seam ts us)

  replaced_at : (n : ℕ) (call : List (Term V) → Result (Term V) (BuildRefusal V)) (s : List (Term V)) (front last : List Expr) → length last ≡ n
      → replaced n call (trees_of s (front ++ last)) ≡ put_behind (trees_of s front) (call (trees_of s last))
  replaced_at n call s front last e =
      ap (replaced n call) (trees_append s front last) ∙ replaced_is n call (trees_of s front) (trees_of s last) (length-trees s last ∙ e)

  -- the name of what was made stands behind the front
  made_behind : (old new : List (Term V)) (front : List Expr) (e : Expr) → Grows old new → All (Has old) front → Has new e
      → (p : Progress V) → p ≡ made (trees_of old front ++ tree_of new e ∷ []) → AreMade p new (front ++ e ∷ []) (Ok tt)
  made_behind old new front e G h k p i = (
    has_more old new front e G h k,
    i ∙ ap (λ ts. made (ts ++ tree_of new e ∷ [])) (sym (trees_kept old new front G h)) ∙ ap made (sym (trees_append new front (e ∷ []))),
  )

  -- what a call gave, where this is what it makes or why it refuses; want of memory is free
  abbrev pub IsGiven : Result (Term V) (BuildRefusal V) → List (Term V) → Result Expr (ExprFault V) → Type 0
  IsGiven r s (Ok e) = Has s e × (r ≡ Ok (tree_of s e))
  IsGiven r s (Err (InvalidStar e c)) = Has s e × (r ≡ Err (no_star (tree_of s e) c))
  IsGiven r s (Err (Overflow o)) = r ≡ Err (unfit o)
  IsGiven r s (Err (Memory x)) = Unit {0}

  pub given_made : (answer : Result (Term V) (Step V)) (s : List (Term V)) (given : Result Expr (ExprFault V)) → IsMade s answer given → IsGiven (unless_unfit answer) s given
  given_made answer s (Ok e) m = (m.0, ap unless_unfit m.1)
  given_made answer s (Err (InvalidStar e c)) m = absurd m
  given_made answer s (Err (Overflow o)) m = ap unless_unfit m
  given_made answer s (Err (Memory x)) m = tt

  pub given_star : (answer : Result (Term V) (StarFault V)) (old new : List (Term V)) (e : Expr) (given : Result Expr (ExprFault V)) → Grows old new → Has old e
      → IsStarMade new e answer given → IsGiven (unless_no_star (tree_of old e) answer) new given
  given_star answer old new e (Ok d) G h m = (m.0, ap (unless_no_star (tree_of old e)) m.1)
  given_star answer old new e (Err (InvalidStar d c)) G h m = (
    subst (Has new) (sym m.0) (grown_has old new e G h),
    ap (λ t. unless_no_star t answer) (sym (grown_tree old new e G h) ∙ ap (tree_of new) (sym m.0)) ∙ ap (unless_no_star (tree_of new d)) m.1,
  )
  given_star answer old new e (Err (Overflow o)) G h m = ap (unless_no_star (tree_of old e)) m
  given_star answer old new e (Err (Memory x)) G h m = tt

  -- ---- what a call gave is put behind the names before its operands

  module _ (p : Progress V) (old new : List (Term V)) (front others : List Expr) (r : Result (Term V) (BuildRefusal V)) (i : p ≡ put_behind (trees_of old front) r) where
    handed_on : (fault : ExprFault V) → IsGiven r new (Err fault) → IsRefusedBy p new (text_fault fault)
    handed_on (InvalidStar e c) m = (m.0, i ∙ ap (put_behind (trees_of old front)) m.1)
    handed_on (Overflow o) m = i ∙ ap (put_behind (trees_of old front)) m
    handed_on (Memory x) m = tt

    no_room : (e : Expr) (fault : TextFault V) → IsPut front (Ok e) others (Err fault) → IsRefusedBy p new fault
    no_room e (text.Limit l) o = absurd o
    no_room e (text.BadByte at) o = absurd o
    no_room e (text.NotAnExpression at) o = absurd o
    no_room e (text.NotALabel at) o = absurd o
    no_room e (text.NotInContext at) o = absurd o
    no_room e (text.InvalidStar d c) o = absurd o
    no_room e (text.Overflow s) o = absurd o
    no_room e (text.Memory x) o = tt

    pub names_put : (given : Result Expr (ExprFault V)) (result : Result (Unit {0}) (TextFault V)) → All (Has old) front → Grows old new → IsGiven r new given
        → IsPut front given others result → AreMade p new others result
    names_put (Ok e) (Ok u) h G m o =
        subst (λ es. AreMade p new es (Ok tt)) (sym o) (made_behind old new front e G h m.0 p (i ∙ ap (put_behind (trees_of old front)) m.1))
    names_put (Ok e) (Err fault) h G m o = no_room e fault o
    names_put (Err f) (Ok u) h G m o = absurd o
    names_put (Err f) (Err fault) h G m o = subst (IsRefusedBy p new) (sym o) (handed_on f m)

  -- its operands are the last names
  pub names_replaced : (n : ℕ) (call : List (Term V) → Result (Term V) (BuildRefusal V)) (old new : List (Term V)) (names front last others : List Expr)
      → (given : Result Expr (ExprFault V)) (result : Result (Unit {0}) (TextFault V)) → length last ≡ n → names ≡ front ++ last → All (Has old) names → Grows old new
      → IsGiven (call (trees_of old last)) new given → IsPut front given others result → AreMade (replaced n call (trees_of old names)) new others result
  names_replaced n call old new names front last others given result l s h G =
      names_put (replaced n call (trees_of old names)) old new front others (call (trees_of old last))
      (ap (λ es. replaced n call (trees_of old es)) s ∙ replaced_at n call old front last l) given result
      (All-front (Has old) front last (subst (All (Has old)) s h)) G
