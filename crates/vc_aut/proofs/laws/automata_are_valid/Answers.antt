use Rattle.std.proofs.Common.{subst}
use Rattle.vc_aut.specs.Labelled.{Labelled}
use Rattle.vc_aut.specs.Validity.{IsLabelled, IsMove}
use Rattle.vc_aut.proofs.Valid.{valid, of_member}
use Rattle.vc_aut.proofs.laws.automata_are_valid.Goals as goal

pub returns : goal.returns
returns g c =
    let all : IsLabelled g.S.Semiring.set c.args.aut.now =
    subst (λ (a : Labelled g.row.S-Value.Denot). IsLabelled g.S.Semiring.set a) c.aut.view_is c.aut.invariant.0 in
    record {
      labelled = all;
      automaton = valid c.words_are_ordered.ensures.total c.words_are_ordered.ensures.equal g.S.Semiring.set c.args.aut.now all;
      moves = λ t i. of_member (IsMove g.S.Semiring.set c.args.aut.now.sets c.args.aut.now.automaton.states) t c.args.aut.now.automaton.transitions all.drawn.moves i;
      few = all.few;
      few_transitions = all.few_transitions;
    }
