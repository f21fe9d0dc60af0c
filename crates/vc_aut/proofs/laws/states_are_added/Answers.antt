use Rattle.vc_aut.proofs.States.{weight-added, weight-more}
use Rattle.vc_aut.proofs.laws.states_are_added.Goals as goal

pub returns : goal.returns
returns g c = record {
  initial_weights = λ R d s p w h. weight-added R.plus d.automaton.initial s p w R.zero h;
  final_weights = λ R d s p w h. weight-added R.plus d.automaton.final s p w R.zero h;
  state_initial = λ R d p. weight-more d.automaton.initial p R.zero;
  state_final = λ R d p. weight-more d.automaton.final p R.zero;
}
