-- The transitions that the lines of the canonical text give are those of the automaton.
use Rattle.std.proofs.Common.{◌≡◌, ◌<◌, ℕ, Bool, List, [], ◌∷◌, length, map, cond, refl, ap, ap₂, sym, ◌∙◌, arith}
use Rattle.std.specs.Prelude.{◌==◌}
use Rattle.std.specs.Fmt.{decimal}
use Rattle.std.specs.List.{flat_map}
use Rattle.std.proofs.lemmas.Bool.{eqb-true}
use Rattle.vc_aut.specs.Labelled.{Labelled}
use Rattle.vc_aut.specs.Validity.{IsLabelled}
use Rattle.vc_model.specs.Automata.{IsAutomaton, Transition, triple}
use Rattle.vc_model.specs.Gathered.{same_triple}
use Rattle.vc_model.specs.Lists.{In, below, IsEqualityTest}
use Rattle.vc_model.specs.Sums.{sum_over}
use Rattle.vc_model.specs.WeightSet.{WeightSet, SemiringLaws}
use Rattle.vc_model.specs.Members.{In-up_from, In-filter_from}
use Rattle.vc_model.specs.Rearranged.{zero_plus}
use Rattle.vc_model.specs.SumLaws.{sum-map, sum-flat_map, sum_same, sum_zero}
use Rattle.vc_daut.specs.Canonical.{moves_line, line_to, to_state, initial_line, final_line, transition_lines, automaton_lines}
use Rattle.vc_reader.specs.Meaning.{Given, moves_by, beginning, ending, moving, number_of, IsSumOf}
use Rattle.vc_daut.proofs.Decimals.{number_of-decimal}
use Rattle.vc_daut.proofs.CanonicalLines.{from_state, initial_only, final_only}
use Rattle.vc_daut.proofs.LineNames.{each_move, between_moves}
use Rattle.vc_daut.proofs.ReadBack.{text_given}
use Rattle.vc_daut.proofs.GivenSums.{listed_at, grouped, line_sum, all_sums, initial_sum, final_sum}

module _ {V : Type 0} {R : WeightSet V} (L : SemiringLaws R) (same : V → V → Bool) (T : IsEqualityTest same) (a : Labelled V) (valid : IsLabelled R a) where
  abbrev states : ℕ
  states = a.automaton.states

  -- the number of a state by its name in the text
  abbrev number : List ℕ → ℕ
  number = number_of (map decimal (below states))

  numbers : (p : ℕ) → p < states → number (decimal p) ≡ p
  numbers p h = number_of-decimal states p (omega (arith, valid.states)) h

  -- what all lines give
  abbrev all_given : List (Given V)
  all_given = flat_map (text_given number) (automaton_lines R same a.automaton)

  module _ (h : Transition V → V) where
    -- what a given thing adds to a sum over transitions
    abbrev step_sum : Given V → V
    step_sum g = sum_over R h (moving R g)

    renamed : (p q : ℕ) (t : Transition V) → number (decimal p) ≡ p → number (decimal q) ≡ q → t.from ≡ p → t.to ≡ q → step_sum (moves_by (record t { from = number (decimal p); to = number (decimal q) })) ≡ h t
    renamed p q t e f i j =
        L.plus_zero _ ∙ ap₂ (λ x y. h (record t { from = x; to = y })) (e ∙ sym i) (f ∙ sym j)

    -- a line for transitions from p to q
    line_moves : (p q : ℕ) (ts : List (Transition V)) → p < states → q < states → ((t : Transition V) → In t ts → (t.from ≡ p) × (t.to ≡ q)) → line_sum R number step_sum (moves_line p q ts) ≡ sum_over R h ts
    line_moves p q ts l m k =
        sum-map L step_sum (λ t. moves_by (record t { from = number (decimal p); to = number (decimal q) })) ts
        ∙ sum_same L _ h ts (λ t i. let e = k t i in renamed p q t (numbers p l) (numbers q m) e.0 e.1)

    some_line : (p q : ℕ) (ts : List (Transition V)) → p < states → q < states → ((t : Transition V) → In t ts → (t.from ≡ p) × (t.to ≡ q)) → sum_over R (line_sum R number step_sum) (line_to p q ts) ≡ sum_over R h ts
    some_line p q [] l m k = refl
    some_line p q (t ∷ ts) l m k = L.plus_zero _ ∙ line_moves p q (t ∷ ts) l m k

    state_moves : (p : ℕ) → p < states → sum_over R (line_sum R number step_sum) (transition_lines R same a.automaton p) ≡ sum_over R h (from_state a.automaton p)
    state_moves p l =
        sum-flat_map L (line_sum R number step_sum) (λ q. line_to p q (to_state q (from_state a.automaton p))) (below states)
        ∙ sum_same L _ (λ q. sum_over R h (to_state q (from_state a.automaton p))) (below states) (λ q i.
        some_line p q (to_state q (from_state a.automaton p)) l (let b = In-up_from q 0 states i in omega (arith, b.1))
        (λ t j. let r = between_moves R same a valid p q t j in (eqb-true t.from p r.1, eqb-true t.to q r.2)))
        ∙ grouped L (λ t. t.to) h (from_state a.automaton p) states (λ t i. (each_move R same a valid t (In-filter_from (λ (u : Transition V). u.from == p) t a.automaton.transitions i).0).to)

    -- a sum over the transitions that are given is a sum over those of the automaton
    given_moves : sum_over R h (flat_map (moving R) all_given) ≡ sum_over R h a.automaton.transitions
    given_moves =
        sum-flat_map L h (moving R) all_given
        ∙ all_sums L same T a.automaton number step_sum
        ∙ ap₂ R.plus
        (sum_zero L _ (below states) (λ p i. sum_zero L _ (initial_line R same a.automaton p) (λ l j. ap (line_sum R number step_sum) (initial_only R same a.automaton p l j) ∙ L.plus_zero R.zero)))
        (sum_same L _ (λ p. sum_over R h (from_state a.automaton p)) (below states) (λ p i.
        ap₂ R.plus (state_moves p (let b = In-up_from p 0 states i in omega (arith, b.1)))
        (sum_zero L _ (final_line R same a.automaton p) (λ l j. ap (line_sum R number step_sum) (final_only R same a.automaton p l j) ∙ L.plus_zero R.zero))
        ∙ L.plus_zero _)
        ∙ grouped L (λ t. t.from) h a.automaton.transitions states (λ t i. (each_move R same a valid t i).from))
        ∙ zero_plus L _

  -- what the lines give adds up to the automaton
  pub text_is_sum : IsAutomaton R (length a.sets) a.automaton → IsSumOf R states all_given a.automaton
  text_is_sum is = record {
    states = refl;
    initial = listed_at (λ p. sum_over R (beginning R p) all_given) a.automaton.initial R.zero states valid.drawn.initial (initial_sum L same T a.automaton number numbers);
    final = listed_at (λ p. sum_over R (ending R p) all_given) a.automaton.final R.zero states valid.drawn.final (final_sum L same T a.automaton number numbers);
    transitions = record {
      triples = is.triples;
      weight = is.weight;
      sums = λ d. sym (given_moves (λ t. cond (same_triple (triple t) d) t.weight R.zero));
    };
  }
