-- What is read of a text, from its tokens and steps.
use Rattle.std.proofs.Common.{◌≡◌, ◌≤◌, ℕ, Bool, true, List, [], ◌∷◌, map, length, Option, None, Result, Ok, Err, ap, sym, ◌∙◌, subst}
use Rattle.std.specs.Prelude.{◌↔◌, IfOk}
use Rattle.vc_expr.specs.Names.{tree_of}
use Rattle.vc_expr.specs.declared.expr.Expr.{Expr}
use Rattle.vc_label.specs.Alphabets.{has_letter, letters_of}
use Rattle.vc_label.specs.declared.alphabet.Alphabet.{Alphabet}
use Rattle.vc_label.specs.declared.tape_set.TapeSet.{TapeSet}
use Rattle.vc_lex.specs.Views.{seen}
use Rattle.vc_lex.specs.declared.token.Token.{Token}
use Rattle.vc_model.specs.Lists.{In}
use Rattle.vc_ring.specs.Texts.{WeightTexts}
use Rattle.vc_terms.specs.Forms.{Everywhere}
use Rattle.vc_terms.specs.Identities.{built_of}
use Rattle.vc_terms.specs.Terms.{Term}
use Rattle.vc_exprio.specs.BuildAnswers.{AreBuildable, IsMadeOne}
use Rattle.vc_exprio.specs.Building.{BuildRefusal, unfit, no_star, building}
use Rattle.vc_exprio.specs.Canonical.{IsRootOver}
use Rattle.vc_exprio.specs.Making.{made, refused, put_behind, made_by, occurrences_in}
use Rattle.vc_exprio.specs.Meaning.{occurrences, term_of}
use Rattle.vc_exprio.specs.Occurring.{AreOccurrencesOver, letters_over}
use Rattle.vc_exprio.specs.Places.{first_place, is_unfit}
use Rattle.vc_exprio.specs.Readings.{HasSteps}
use Rattle.vc_exprio.specs.Spelling.{is_weight_of, weight_of_mark}
use Rattle.vc_exprio.specs.Steps.{steps_of}
use Rattle.vc_exprio.specs.TextAnswers.{IsOperatorOutside, IsSpelled, IsInContext, IsUnfitBy, IsTextAnswer, first_unfit, tree_building}
use Rattle.vc_exprio.specs.Trees.{Tree}
use Rattle.vc_exprio.specs.Views.{step_seen}
use Rattle.vc_exprio.specs.declared.fault.TextFault.{TextFault}
use Rattle.vc_exprio.specs.declared.fault.TextFault.TheVariants.{Limit, BadByte, NotAnExpression, NotALabel, NotInContext, InvalidStar, Overflow, Memory}
use Rattle.vc_exprio.specs.declared.step.Step.{Step}
use Rattle.vc_exprio.proofs.BuildableSteps.{AreClear, buildable}
use Rattle.vc_exprio.proofs.RootsOver.{built_over, shown_over}

module _ {V : Type 0} where
  made_ok : (r : Result (Term V) (BuildRefusal V)) (u : Term V) → put_behind [] r ≡ made (u ∷ []) → r ≡ Ok u
  made_ok (Ok v) u e = let f : v ≡ u = cc in ap (λ t. Ok t) f
  made_ok (Err f) u e = absurd (cc)

  refused_err : (r : Result (Term V) (BuildRefusal V)) (f : BuildRefusal V) → put_behind [] r ≡ refused f → r ≡ Err f
  refused_err (Ok v) f e = absurd (cc)
  refused_err (Err g) f e = let h : g ≡ f = cc in ap (λ x. Err x) h

  module _ (T : WeightTexts V) (single : Bool) (sets : List TapeSet) (text : List ℕ) (tokens : List Token) (steps : List Step)
      (makes : (t : Tree) (ts : List (Term V)) → made_by T.set T.same (weight_of_mark T.set T.spelled) (letters_over sets) ts (steps_of t)
      ≡ put_behind ts (building T.set T.same (weight_of_mark T.set T.spelled) (letters_over sets) t))
      (labels : (t : Tree) → occurrences_in (steps_of t) ≡ occurrences t)
      (h : HasSteps (is_weight_of T.spelled) text tokens steps) where
    occur : occurrences_in (map step_seen steps) ≡ occurrences h.tree
    occur = ap occurrences_in h.makes ∙ labels h.tree

    whole : made_by T.set T.same (weight_of_mark T.set T.spelled) (letters_over sets) [] (map step_seen steps) ≡ put_behind [] (tree_building T single sets h.tree)
    whole = ap (made_by T.set T.same (weight_of_mark T.set T.spelled) (letters_over sets) []) h.makes ∙ makes h.tree []

    -- what building asks
    pub has_whole : (r : Result (Term V) (BuildRefusal V)) × (made_by T.set T.same (weight_of_mark T.set T.spelled) (letters_over sets) [] (map step_seen steps) ≡ put_behind [] r)
    has_whole = (tree_building T single sets h.tree, whole)

    pub are_buildable : IsOperatorOutside single (map seen tokens) None → first_place (is_unfit T.spelled T.numbers_fit) (map seen tokens) ≡ None
        → AreBuildable T.spelled T.numbers_fit single (map step_seen steps)
    are_buildable o n =
        let clear : AreClear T.spelled T.numbers_fit single (map seen tokens) = record { numbers = n; operators = o } in
        subst (AreBuildable T.spelled T.numbers_fit single) (sym h.makes)
        (buildable T.spelled T.numbers_fit single h.tree h.spells.grammar (subst (AreClear T.spelled T.numbers_fit single) (sym h.spells.tokens) clear))

    module _ (short : length text ≤ 65536) where
      spelled : IsSpelled T single sets text h.tree
      spelled = record { short = short; spells = record { marks = map seen tokens; has = h.has; spells = h.spells }; flat = h.shallow }

      module _ (l : AreOccurrencesOver sets (occurrences_in (map step_seen steps))) (o : IsOperatorOutside single (map seen tokens) None) where
        in_context : IsInContext T single sets text h.tree
        in_context = record { spelled = spelled; labels = subst (AreOccurrencesOver sets) occur l; operators = subst (λ ms. IsOperatorOutside single ms None) (sym h.spells.tokens) o }

        unfit_at : (place : Option ℕ) → first_place (is_unfit T.spelled T.numbers_fit) (map seen tokens) ≡ place → first_unfit T single sets h.tree ≡ place
        unfit_at place e = ap (first_place (is_unfit T.spelled T.numbers_fit)) h.spells.tokens ∙ e

        pub built_answer : first_place (is_unfit T.spelled T.numbers_fit) (map seen tokens) ≡ None → (s : List (Term V)) (r : Result Expr (TextFault V))
            → IsMadeOne (made_by T.set T.same (weight_of_mark T.set T.spelled) (letters_over sets) [] (map step_seen steps)) s r → IsTextAnswer T single sets text s r
        built_answer e s (Ok x) k = (k.0, (h.tree, record { context = in_context; numbers = unfit_at None e }, made_ok (tree_building T single sets h.tree) (tree_of s x) (sym whole ∙ k.1)))
        built_answer e s (Err (Limit b)) k = absurd k
        built_answer e s (Err (BadByte at)) k = absurd k
        built_answer e s (Err (NotAnExpression at)) k = absurd k
        built_answer e s (Err (NotALabel at)) k = absurd k
        built_answer e s (Err (NotInContext at)) k = absurd k
        built_answer e s (Err (InvalidStar x c)) k =
            (k.0, (h.tree, record { context = in_context; numbers = unfit_at None e }, refused_err (tree_building T single sets h.tree) (no_star (tree_of s x) c) (sym whole ∙ k.1)))
        built_answer e s (Err (Overflow w)) k =
            (h.tree, subst (IsUnfitBy T single sets text h.tree w) (sym (unfit_at None e)) (in_context, refused_err (tree_building T single sets h.tree) (unfit w) (sym whole ∙ k)))
        built_answer e s (Err (Memory x)) k = tt

    -- the labels of what was built
    module _ (built : (t : Tree) (u : Term V) → building T.set T.same (weight_of_mark T.set T.spelled) (letters_over sets) t ≡ Ok u
        → u ≡ built_of T.set T.same (term_of (weight_of_mark T.set T.spelled) (letters_over sets) t))
        (listed : (a : Alphabet) (y : ℕ) → In y (letters_of a) ↔ (has_letter a y ≡ true)) where
      labels_over : AreOccurrencesOver sets (occurrences_in (map step_seen steps)) → (u : Term V)
          → made_by T.set T.same (weight_of_mark T.set T.spelled) (letters_over sets) [] (map step_seen steps) ≡ made (u ∷ []) → Everywhere (IsRootOver sets) u
      labels_over l u e =
          subst (Everywhere (IsRootOver sets)) (sym (built h.tree u (made_ok (tree_building T single sets h.tree) u (sym whole ∙ e))))
          (built_over V sets T.set T.same (term_of (weight_of_mark T.set T.spelled) (letters_over sets) h.tree)
          (shown_over listed sets (weight_of_mark T.set T.spelled) h.tree (subst (AreOccurrencesOver sets) occur l)))

      pub made_labels : AreOccurrencesOver sets (occurrences_in (map step_seen steps)) → (s : List (Term V)) (r : Result Expr (TextFault V))
          → IsMadeOne (made_by T.set T.same (weight_of_mark T.set T.spelled) (letters_over sets) [] (map step_seen steps)) s r
          → IfOk r (λ e. Everywhere (IsRootOver sets) (tree_of s e))
      made_labels l s (Ok e) k = labels_over l (tree_of s e) k.1
      made_labels l s (Err fault) k = tt
