use Rattle.vc_aut.proofs.Drafted.{empty_is_draft}
use Rattle.vc_aut.proofs.builder.Builder.new.Goals as goal

pub invariant_of-result : goal.invariant_of-result
invariant_of-result g c =
    rw (c.new.ensures.items, c.new-2.ensures.items, c.new-3.ensures.empty)
    (empty_is_draft g.S.Semiring.set c.args.most_states (g.L.LabelSet.sets c.args.labels) c.requires)
