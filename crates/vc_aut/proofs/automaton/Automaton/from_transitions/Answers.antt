use Rattle.std.proofs.Common.{rules, [], length, map, refl}
use Rattle.vc_aut.specs.Drafts.{Draft}
use Rattle.vc_aut.specs.Stored.{automaton_of, transition_of, AreSummed}
use Rattle.vc_aut.specs.Sums.{insert_all}
use Rattle.vc_aut.proofs.Ascending.{summed_answers, summed_is_itself}
use Rattle.vc_aut.proofs.Drafted.{finished_is_labelled}
use Rattle.vc_aut.proofs.Order.{triple_order_total}
use Rattle.vc_aut.proofs.Summed.{stored_in_range, summed_is_draft}
use Rattle.vc_aut.proofs.automaton.Automaton.from_transitions.Goals as goal

pub gather-requires : goal.gather-requires
gather-requires g c = stored_in_range g.S.Semiring.set g.L.LabelSet.parts _ _ c.args.transitions.items c.requires.moves

pub new-requires : goal.new-requires
new-requires g c =
    let sum : Draft g.row.S-Value.Denot = record {
      most = 1000000;
      sets = g.L.LabelSet.sets c.args.labels;
      automaton = automaton_of c.args.initial_weights.items c.args.final_weights.items (insert_all g.S.Semiring.set [] (map (transition_of g.L.LabelSet.parts) c.args.transitions.items));
    } in
    rw c.in_ok-transitions.ensures.ok
    (finished_is_labelled g.S.Semiring.set g.S.Value.PartialEq.eq g.met.S.Semiring.same sum
    (summed_is_draft g.S.Semiring.set c.words_are_ordered.ensures.total c.words_are_ordered.ensures.equal g.met.S.Semiring.ranges sum.sets c.args.initial_weights.items c.args.final_weights.items (map (transition_of g.L.LabelSet.parts) c.args.transitions.items)
    c.requires.states c.requires.same_length c.requires.initial_in c.requires.final_in c.requires.moves c.in_ok-transitions.ensures.answer.0 c.in_ok-transitions.ensures.answer.1))

pub returns-in-Some-clause-ok : goal.returns-in-Some-clause-ok
returns-in-Some-clause-ok g c =
    let tr = transition_of {L = g.row.L.Denot} {S = g.row.S.Denot} {V = g.row.S-Value.Denot} g.L.LabelSet.parts in
    let summed : AreSummed g.S.Semiring.set (map tr c.args.transitions.items) (length c.args.initial_weights.items) c.in-Some.starts.items = search rules in
    rw (summed_is_itself (triple_order_total c.words_are_ordered.ensures.total c.words_are_ordered.ensures.equal) g.S.Semiring.set g.S.Value.PartialEq.eq g.met.S.Semiring.same
    (length c.args.initial_weights.items) c.in-Some.starts.items (map tr c.args.transitions.items) summed) refl

pub returns-in-Some-clause-answer : goal.returns-in-Some-clause-answer
returns-in-Some-clause-answer g c =
    let tr = transition_of {L = g.row.L.Denot} {S = g.row.S.Denot} {V = g.row.S-Value.Denot} g.L.LabelSet.parts in
    let summed : AreSummed g.S.Semiring.set (map tr c.args.transitions.items) (length c.args.initial_weights.items) c.in-Some.starts.items = search rules in
    summed_answers (triple_order_total c.words_are_ordered.ensures.total c.words_are_ordered.ensures.equal) g.S.Semiring.set (length c.args.initial_weights.items) c.in-Some.starts.items (map tr c.args.transitions.items) summed
