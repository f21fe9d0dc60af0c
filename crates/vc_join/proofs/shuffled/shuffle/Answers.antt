use Rattle.std.proofs.Common.{subst, sym, ◌∙◌, ap}
use Rattle.vc_label.specs.Sets.{AreSingleSets}
use Rattle.vc_model.specs.Automata.{IsAutomaton}
use Rattle.vc_join.proofs.Singles.{single_letters, one_set}
use Rattle.vc_join.proofs.shuffled.shuffle.Goals as goal

pub returns-clause-series : goal.returns-clause-series
returns-clause-series g c a =
    let R = g.S.Semiring.set in
    let laws = g.met.S.Semiring.laws in
    let A = c.args.first.now.automaton in
    let B = c.args.second.now.automaton in
    let p = c.in-Ok.product in
    let P = p.automaton in
    let sA : AreSingleSets c.args.first.now.sets = subst AreSingleSets (c.labels.ensures ∙ ap (λ z. z.sets) c.automaton.ensures) (g.met.L.LabelSet.single_sets c.requires.single c.labels.result.now) in
    let sB : AreSingleSets c.args.second.now.sets = subst AreSingleSets (c.labels-2.ensures ∙ ap (λ z. z.sets) c.automaton-2.ensures) (g.met.L.LabelSet.single_sets c.requires.single c.labels-2.result.now) in
    let sP : AreSingleSets p.sets = subst AreSingleSets (sym c.in-Ok.ensures.sets) (g.met.L.LabelSet.single_sets c.requires.single c.args.labels) in
    let fA = c.proper_automata_are_proper.ensures in
    let fB = c.proper_automata_are_proper-2.ensures in
    let fP = c.proper_automata_are_proper-3.ensures in
    let hA : IsAutomaton R 1 A = subst (λ n. IsAutomaton R n A) (one_set c.args.first.now.sets sA) fA.automaton in
    let hB : IsAutomaton R 1 B = subst (λ n. IsAutomaton R n B) (one_set c.args.second.now.sets sB) fB.automaton in
    let hP : IsAutomaton R 1 P = subst (λ n. IsAutomaton R n P) (one_set p.sets sP) fP.automaton in
    let lA = single_letters R A c.args.first.now.sets sA fA.moves fA.proper in
    let lB = single_letters R B c.args.second.now.sets sB fB.moves fB.proper in
    let lP = single_letters R P p.sets sP fP.moves fP.proper in
    let pairs = c.pairs_that_move_alone_are_shuffles.ensures R laws g.S.Value.PartialEq.eq g.met.S.Semiring.same A B P 1 c.args.limit hA hB c.in-Ok.ensures.explored in
    c.shuffles_have_their_series.ensures.coefficient R laws A B P hA hB hP lA lB lP pairs.left pairs.right pairs.shuffle a
