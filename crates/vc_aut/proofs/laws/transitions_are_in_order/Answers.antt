use Rattle.vc_aut.proofs.Blocks.{by_state, labels_together, moves_in_order, together}
use Rattle.vc_aut.proofs.laws.transitions_are_in_order.Goals as goal

pub returns : goal.returns
returns g c = record {
  states = λ ts n h k. by_state ts n h k;
  state = λ ts s h. together ts s h;
  moves = λ ts s h. moves_in_order ts s h;
  label = λ ts w h. labels_together c.words_are_ordered.ensures.total c.words_are_ordered.ensures.equal ts w h;
}
