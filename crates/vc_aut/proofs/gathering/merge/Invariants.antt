use Rattle.std.proofs.Common.{All, IsTrue, map}
use Rattle.vc_aut.specs.Stored.{transition_of}
use Rattle.vc_aut.proofs.Merging.{IsMerging}
use Rattle.vc_aut.proofs.gathering.merge.Given as goal

-- what is kept and what is left make the whole
abbrev pub invariant-loop-next : goal.invariant-loop-next
invariant-loop-next g l =
    record {
      merging : IsMerging g.S.Semiring.set g.S.Value.PartialEq.eq (map (transition_of g.L.LabelSet.parts) l.merged.items) l.triples (transition_of g.L.LabelSet.parts l.last)
          (map (transition_of g.L.LabelSet.parts) l.next-iterator.rest.items) (map (transition_of g.L.LabelSet.parts) l.fn.sorted.items);
      last : IsTrue (g.S.Semiring.set.in_range l.last.weight);
      rest : All (λ t. IsTrue (g.S.Semiring.set.in_range t.weight)) l.next-iterator.rest.items;
    }
