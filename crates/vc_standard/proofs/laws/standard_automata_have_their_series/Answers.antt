use Rattle.std.proofs.Common.{◌≡◌, suc, refl, sym, ap, ◌∙◌, subst, arith, ◌<◌}
use Rattle.vc_model.specs.Automata.{final_weight}
use Rattle.vc_terms.specs.Terms.{coefficient_of}
use Rattle.vc_model.specs.Items.{brought}
use Rattle.vc_model.specs.Words.{is_empty}
use Rattle.std.specs.Prelude.{if◌then◌else◌}
use Rattle.vc_standard.specs.Structures.{standard_of}
use Rattle.vc_standard.specs.Automata.{states_of, leaving_all}
use Rattle.vc_standard.proofs.GivenLaws.{standard-law, with_start}
use Rattle.vc_standard.proofs.AutomatonLaws.{items_at, leaving-sum, states_given, leaving-later}
use Rattle.vc_standard.proofs.laws.standard_automata_have_their_series.Goals as goal

pub returns-clause-series : goal.returns-clause-series
returns-clause-series g c R L equal Q tapes t h j B a b S w l =
    let P = c.places_have_their_laws.ensures R L equal Q in
    let A = standard_of R equal t in
    let F = standard-law L equal P tapes t h j in
    let some : 0 < B.states = let e = S.states in omega (arith, e) in
    c.things_have_their_series.ensures.first R L B some S.first S.others w
    ∙ c.things_have_their_series.ensures.future R L tapes B a b (λ i. i) (λ i. final_weight R B i) (items_at (states_of A))
    (record {
      ends = λ i k. refl;
      steps = λ i f k. c.gathering_keeps_sums.ensures.moves R L (record { states = B.states; initial = B.initial; final = B.final; transitions = leaving_all 0 (states_of A) }) B S.transitions i f
          ∙ leaving-sum L f 0 i i (omega arith) (states_of A);
    })
    (with_start (coefficient_of R t) F.series)
    (λ i k v m. states_given L equal P tapes (coefficient_of R t) F.series A F.start F.each i (subst (λ n. i < n) S.states k) v m
    ∙ ap (λ x. R.plus (if is_empty v then x else R.zero) (brought R (with_start (coefficient_of R t) F.series) v (items_at (states_of A) i))) (sym (S.final i k)))
    0 w some l

pub returns-clause-start : goal.returns-clause-start
returns-clause-start g c R L A B S t i e =
    let r = c.transitions_are_gathered.ensures.sources R L (leaving_all 0 (states_of A)) B.transitions S.transitions t i in
    let q = leaving-later 0 (states_of A) r.0 r.1 in
    let d : t.to ≡ suc q.0 = sym (ap (λ z. z.2) r.2) ∙ q.1 in
    absurd (omega (arith, d, e))
