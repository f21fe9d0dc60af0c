-- The steps of a tree can be made where its weights are in their ranges and its operators are those of the context.
use Rattle.std.proofs.Common.{◌≡◌, ℕ, Bool, true, false, List, [], ◌∷◌, ◌++◌, map, Option, None, refl, ap, ap₂, sym, ◌∙◌, IsTrue}
use Rattle.std.specs.Option.{is_some}
use Rattle.std.specs.Prelude.{◌&&◌, not, if◌then◌else◌}
use Rattle.vc_lex.specs.Marks.{Mark}
use Rattle.vc_lex.specs.declared.token.TokenKind.{TokenKind}
use Rattle.vc_lex.specs.declared.token.TokenKind.TheVariants.{And, Shuffle, Weight}
use Rattle.vc_text.specs.Escapes.{inside}
use Rattle.vc_exprio.specs.BuildAnswers.{AreBuildable}
use Rattle.vc_exprio.specs.Grammar.{InGrammar, IsWeight}
use Rattle.vc_exprio.specs.Meaning.{is_times, is_plus}
use Rattle.vc_exprio.specs.Places.{first_place, is_operator, is_operator_kind, is_unfit, is_weight_kind}
use Rattle.vc_exprio.specs.Spelling.{is_weight_of}
use Rattle.vc_exprio.specs.Steps.{Op, more_op, open_of, last_of, steps_of}
use Rattle.vc_exprio.specs.Trees.{Tree, Barred, zero_tree, label, class, group, star, weight_behind, weight_before, times, both, shuffle, plus, tokens_of}
use Rattle.vc_exprio.proofs.FirstPlaces.{none_left, none_right, none_at}

-- ---- weights and operators

fit_by : (k : TokenKind) (s f : Bool) → k ≡ Weight → s ≡ true → (is_weight_kind k && (s && not f)) ≡ false → IsTrue f
fit_by k s true e g h = refl
fit_by k s false e g h =
    let h' : (is_weight_kind k && (s && true)) ≡ true = ap₂ (λ j t. is_weight_kind j && (t && true)) e g in
    let c : true ≡ false = sym h' ∙ h in
    absurd (cc)

no_operator : (k j : TokenKind) → k ≡ j → is_operator_kind j ≡ true → is_operator_kind k ≡ false → ⊥
no_operator k j e t f = let g : is_operator_kind k ≡ is_operator_kind j = ap is_operator_kind e in let c : true ≡ false = sym t ∙ sym g ∙ f in cc

module _ {V : Type 0} (spelled : List ℕ → Option V) (fit : List ℕ → Bool) (single : Bool) where
  abbrev Are : List Op → Type 0
  Are ops = AreBuildable spelled fit single ops

  are_append : (a b : List Op) → Are a → Are b → Are (a ++ b)
  are_append [] b h k = k
  are_append (op ∷ a) b h k = (h.0, are_append a b h.1 k)

  side : (is : Bool) (a b : List Op) → Are a → Are b → Are (if is then a else a ++ b)
  side true a b h k = h
  side false a b h k = are_append a b h k

  mores : (bs : List Barred) → Are (map (λ b. more_op b.part) bs)
  mores [] = tt
  mores (b ∷ bs) = (tt, mores bs)

  -- no number in the tokens is past its range, and `&` and `:` stand there over single letters alone
  pub record AreClear (ms : List Mark) : Type 0 where
    pub numbers : first_place (is_unfit spelled fit) ms ≡ None
    pub operators : single ≡ false → first_place is_operator ms ≡ None

  clear_left : (a b : List Mark) → AreClear (a ++ b) → AreClear a
  clear_left a b h = record { numbers = none_left (is_unfit spelled fit) a b h.numbers; operators = λ e. none_left is_operator a b (h.operators e) }

  clear_right : (a b : List Mark) → AreClear (a ++ b) → AreClear b
  clear_right a b h = record { numbers = none_right (is_unfit spelled fit) a b h.numbers; operators = λ e. none_right is_operator a b (h.operators e) }

  clear_rest : (m : Mark) (ms : List Mark) → AreClear (m ∷ ms) → AreClear ms
  clear_rest m ms h = clear_right (m ∷ []) ms h

  weight_fits : (m : Mark) (ms : List Mark) → IsWeight (is_weight_of spelled) m → AreClear (m ∷ ms) → IsTrue (is_some (spelled (inside m.text))) × IsTrue (fit (inside m.text))
  weight_fits m ms w h = (w.1, fit_by m.kind (is_some (spelled (inside m.text))) (fit (inside m.text)) w.0 w.1 (none_at (is_unfit spelled fit) m ms h.numbers))

  -- an operator stands there over single letters
  over_single : (m : Mark) (ms : List Mark) (k : TokenKind) → m.kind ≡ k → is_operator_kind k ≡ true → AreClear (m ∷ ms) → IsTrue single
  over_single m ms k e t h = go single refl
    where
      go : (b : Bool) → single ≡ b → IsTrue single
      go true f = f
      go false f = absurd (no_operator m.kind k e t (none_at is_operator m ms (h.operators f)))

  abbrev Holds : Tree → Type 0
  Holds t = Are (open_of t) × Are (last_of t)

  all_steps : (t : Tree) → Holds t → Are (steps_of t)
  all_steps t h = are_append (open_of t) (last_of t) h.0 h.1

  two_sides : (is : Bool) (t u : Tree) → Holds t → Holds u → Are ((if is then open_of t else steps_of t) ++ steps_of u)
  two_sides is t u h k = are_append (if is then open_of t else steps_of t) (steps_of u) (side is (open_of t) (last_of t) h.0 h.1) (all_steps u k)

  holds : (t : Tree) → InGrammar (is_weight_of spelled) t → AreClear (tokens_of t) → Holds t
  holds (zero_tree m) g h = (tt, (tt, tt))
  holds (label m bs) g h = ((tt, mores bs), tt)
  holds (class m) g h = (tt, (tt, tt))
  holds (group opening t closing) g h = (all_steps t (holds t g.1.1 (clear_left (tokens_of t) (closing ∷ []) (clear_rest opening (tokens_of t ++ closing ∷ []) h))), (tt, tt))
  holds (star t m) g h = (all_steps t (holds t g.0.1 (clear_left (tokens_of t) (m ∷ []) h)), (tt, tt))
  holds (weight_behind t m) g h =
      (all_steps t (holds t g.0.1 (clear_left (tokens_of t) (m ∷ []) h)), (weight_fits m [] g.1 (clear_right (tokens_of t) (m ∷ []) h), tt))
  holds (weight_before m t) g h = (all_steps t (holds t g.1.1 (clear_rest m (tokens_of t) h)), (weight_fits m (tokens_of t) g.0 h, tt))
  holds (times t u) g h =
      (two_sides (is_times t) t u (holds t g.0.1 (clear_left (tokens_of t) (tokens_of u) h)) (holds u g.1.1 (clear_right (tokens_of t) (tokens_of u) h)), (tt, tt))
  holds (both t m u) g h =
      let r : AreClear (m ∷ tokens_of u) = clear_right (tokens_of t) (m ∷ tokens_of u) h in
      (two_sides false t u (holds t g.0.1 (clear_left (tokens_of t) (m ∷ tokens_of u) h)) (holds u g.2.1 (clear_rest m (tokens_of u) r)), (over_single m (tokens_of u) And g.1 refl r, tt))
  holds (shuffle t m u) g h =
      let r : AreClear (m ∷ tokens_of u) = clear_right (tokens_of t) (m ∷ tokens_of u) h in
      (two_sides false t u (holds t g.0.1 (clear_left (tokens_of t) (m ∷ tokens_of u) h)) (holds u g.2.1 (clear_rest m (tokens_of u) r)), (over_single m (tokens_of u) Shuffle g.1 refl r, tt))
  holds (plus t m u) g h =
      let r : AreClear (m ∷ tokens_of u) = clear_right (tokens_of t) (m ∷ tokens_of u) h in
      (two_sides (is_plus t) t u (holds t g.0.1 (clear_left (tokens_of t) (m ∷ tokens_of u) h)) (holds u g.2.1 (clear_rest m (tokens_of u) r)), (tt, tt))

  -- the steps of a tree of the grammar can be made
  pub buildable : (t : Tree) → InGrammar (is_weight_of spelled) t → AreClear (tokens_of t) → AreBuildable spelled fit single (steps_of t)
  buildable t g h = all_steps t (holds t g h)
