use Rattle.std.proofs.Common.{ap, length, subst, ◌∙◌}
use Rattle.vc_aut.specs.Labelled.{Labelled}
use Rattle.vc_join.specs.Pairs.{pairs_tell, same_states}
use Rattle.vc_model.specs.Automata.{IsAutomaton, coefficient}
use Rattle.vc_ring.specs.Weighed.{weighed}
use Rattle.vc_search.specs.Explored.{next_by}
use Rattle.vc_top.specs.Automata.{Prints}
use Rattle.vc_top.specs.Outcomes.{OrMemory}
use Rattle.vc_top.specs.Products.{IsProductOf, first_of, items}
use Rattle.vc_top.specs.Views.{answer_of}
use Rattle.vc_top.proofs.Joined.{joined_given, one_of_single, same_series}
use Rattle.vc_top.proofs.product.joined_text.Goals as goal

pub returns-in-Ok : goal.returns-in-Ok
returns-in-Ok g c f h s t =
    let T = weighed g.S.Semiring g.S.Value.PartialEq in
    let sets = g.L.LabelSet.sets c.args.labels in
    let a = c.args.first.now.automaton in
    let b = c.args.second.now.automaton in
    let p = c.in-Ok.proper in
    let w = c.args.context.now.weights in
    let r = answer_of c.text_of.result in
    let k = c.in-Ok.ensures.product in
    let one = ap length c.in-Ok.ensures.sets ∙ one_of_single sets (g.met.L.LabelSet.single_sets c.requires.single c.args.labels) in
    let made : IsProductOf T c.args.product c.args.limit sets f h a b p = record {
      labels = c.in-Ok.ensures.sets;
      pairs = k;
      series = λ u. c.in-Ok.ensures.series u ∙ same_series T g.met.S.Semiring.laws c.args.product (coefficient T.set a) (coefficient T.set b) f h s t u;
      automaton = subst (λ n. IsAutomaton T.set n p.automaton) one c.proper_automata_are_proper.ensures.automaton;
      proper = c.proper_automata_are_proper.ensures.proper;
      order = c.proper_automata_are_proper.ensures.labelled.drawn.order;
    } in
    let few = c.members_are_few.ensures.few same_states pairs_tell (next_by (items T c.args.product c.args.limit a b)) (first_of T c.args.product c.args.limit a b) k.members c.args.limit k.numbering k.few in
    let printed : OrMemory (Prints T w p) r = subst (λ (x : Labelled g.row.S-Value.Denot). OrMemory (Prints T w x) r) c.automaton.ensures c.text_of.ensures in
    joined_given T c.args.product c.args.limit sets f h a b (Prints T w) p r few made printed
