-- What the reader answers, from what its passes answer.
use Rattle.std.proofs.Common.{◌≡◌, ◌≤◌, ◌+◌, ◌⊎◌, ℕ, List, [], length, Option, Some, None, Result, Ok, Err, sym, ◌∙◌, subst, inl, inr}
use Rattle.vc_aut.specs.Labelled.{Labelled}
use Rattle.vc_label.specs.declared.tape_set.TapeSet.{TapeSet}
use Rattle.vc_model.specs.Lists.{In}
use Rattle.vc_ring.specs.Texts.{WeightTexts}
use Rattle.vc_ring.specs.declared.faults.Overflow.TheVariants.{Numeral, Add, Mul, Star}
use Rattle.vc_reader.specs.declared.fault.DautFault.{DautFault}
use Rattle.vc_reader.specs.declared.fault.DautFault.TheVariants.{Syntax, NotALabel, Overflow, Limit, Memory}
use Rattle.vc_reader.specs.Answers.{IsBuiltBy, IsReadAfter, AreInGrammar}
use Rattle.vc_lines.specs.Heads.{HeadLine}
use Rattle.vc_lines.specs.Names.{AreInOrder, AreNames, with_names}
use Rattle.vc_reader.specs.Passes.{IsChecked}
use Rattle.vc_reader.specs.Spelling.{bad_line, lines_in, AreOver}
use Rattle.vc_reader.proofs.NameOrder.{with_names_in}

-- names in the order of those that were found
pub names_found : (raw found names : List (List ℕ)) → found ≡ with_names [] raw → AreInOrder found names → AreInOrder raw names
names_found raw found names e o =
    record {
      once = o.once;
      order = o.order;
      named = λ a. (
        (λ i. from ((with_names_in [] raw a).0 (subst (In a) e ((o.named a).0 i)))),
        (λ i. (o.named a).1 (subst (In a) (sym e) ((with_names_in [] raw a).1 (inr i)))),
      );
    }
  where
    from : {A : Type 0} → ⊥ ⊎ A → A
    from (inl h) = absurd h
    from (inr x) = x

pub head_is : (h k : HeadLine) (o : Option HeadLine) → o ≡ Some h → o ≡ Some k → h ≡ k
head_is h k o e f = let g : Some h ≡ Some k = sym e ∙ f in cc

module _ {V : Type 0} (T : WeightTexts V) (sets : List TapeSet) (h : HeadLine) where
  pub check_fault : (old new : List (List ℕ)) (f : DautFault V) → IsChecked T.spelled sets (h.number + 1) h.after old new (Err f) → IsReadAfter T sets h (Err f)
  check_fault old new (Syntax line) c = c
  check_fault old new (NotALabel line from to) c = c
  check_fault old new (Overflow line step) c = absurd c
  check_fault old new (Limit l) c = absurd c
  check_fault old new (Memory e) c = tt

  pub build_fault : (names : List (List ℕ)) (f : DautFault V) → AreInGrammar T sets h → AreNames (lines_in T.spelled h.after) names → IsBuiltBy T sets (h.number + 1) (lines_in T.spelled h.after) names (Err f) → IsReadAfter T sets h (Err f)
  build_fault names (Syntax line) m n (new, b) = absurd b
  build_fault names (NotALabel line from to) m n (new, b) = absurd b
  build_fault names (Overflow line (Numeral at)) m n (new, b) = (m, b)
  build_fault names (Overflow line (Add v w)) m n (new, b) = (m, (names, n, b))
  build_fault names (Overflow line (Mul v w)) m n (new, b) = b
  build_fault names (Overflow line (Star v)) m n (new, b) = b
  build_fault names (Limit l) m n (new, b) = (m, inr (names, n, b))
  build_fault names (Memory e) m n (new, b) = tt

  pub build_answer : (names : List (List ℕ)) (r : Result (Labelled V) (DautFault V)) → bad_line T.spelled (h.number + 1) h.after ≡ None → AreOver sets (lines_in T.spelled h.after) → length names ≤ 1000000
      → AreNames (lines_in T.spelled h.after) names → IsBuiltBy T sets (h.number + 1) (lines_in T.spelled h.after) names r → IsReadAfter T sets h r
  build_answer names (Ok a) bad over few n (b, t, k) = record { names = names; are_lines = bad; over = over; are_names = n; few = few; numbers = k; taken = t; built = b }
  build_answer names (Err f) bad over few n b = build_fault names f (bad, over) n b
