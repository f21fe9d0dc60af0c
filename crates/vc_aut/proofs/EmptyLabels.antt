-- What a test of all labels says in the words of the definitions.
use Rattle.std.proofs.Common.{◌≡◌, ◌∙◌, sym, ap, subst, refl, Bool, true, false, ◌||◌, List, [], ◌∷◌, map, inl, inr}
use Rattle.std.specs.Prelude.{◌↔◌}
use Rattle.std.specs.List.{list_any}
use Rattle.vc_aut.specs.EmptyLabels.{HasEmptyLabel}
use Rattle.vc_model.specs.Automata.{Automaton, Transition, IsProper}
use Rattle.vc_model.specs.Lists.{In}
use Rattle.vc_model.specs.Words.{Word, is_empty, size}

module _ {X V : Type 0} (of : X → Transition V) where
  -- one of the transitions that the list stands for has an empty label
  abbrev Found : List X → Type 0
  Found xs = (t : Transition V) × (In t (map of xs) × (is_empty t.label ≡ true))

  found_by : (x : X) (xs : List X) (r b : Bool) → (r ≡ true → Found xs) → is_empty (of x).label ≡ b → (b || r) ≡ true → Found (x ∷ xs)
  found_by x xs r true k q h = (of x, (inl refl, q))
  found_by x xs r false k q h = let f : Found xs = k h in (f.0, (inr f.1.0, f.1.1))

  found : (xs : List X) → list_any (λ x. is_empty (of x).label) xs ≡ true → Found xs
  found [] h = cc
  found (x ∷ xs) h = found_by x xs _ (is_empty (of x).label) (found xs) refl h

  or_true : (b r : Bool) → r ≡ true → (b || r) ≡ true
  or_true true r h = refl
  or_true false r h = h

  finds : (xs : List X) (t : Transition V) → In t (map of xs) → is_empty t.label ≡ true → list_any (λ x. is_empty (of x).label) xs ≡ true
  finds [] t i h = absurd i
  finds (x ∷ xs) t i h =
      elim i [
        | inl e ↦ (let q : is_empty (of x).label ≡ true = ap (λ (u : Transition V). is_empty u.label) (sym e) ∙ h in rw q refl)
        | inr j ↦ or_true (is_empty (of x).label) _ (finds xs t j h)
      ]

  -- the test finds an empty label exactly where the automaton has one
  pub empty_label_found : (A : Automaton V) (xs : List X) → map of xs ≡ A.transitions
      → (list_any (λ x. is_empty (of x).label) xs ≡ true) ↔ HasEmptyLabel A
  empty_label_found A xs stands = (
    (λ h. let f : Found xs = found xs h in record { transition = f.0; member = subst (λ ts. In f.0 ts) stands f.1.0; empty = f.1.1 }),
    (λ h. finds xs h.transition (subst (λ ts. In h.transition ts) (sym stands) h.member) h.empty),
  )

-- an automaton without an empty label is proper
pub proper_without : ((w : Word) → (is_empty w ≡ true) ↔ (size w ≡ 0)) → {V : Type 0} (A : Automaton V) → ¬ HasEmptyLabel A → IsProper A
proper_without empty A none t i z = none (record { transition = t; member = i; empty = (empty t.label).1 z })
