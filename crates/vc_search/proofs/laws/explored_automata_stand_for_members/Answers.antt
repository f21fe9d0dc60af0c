use Rattle.vc_search.specs.Explored.{next_by}
use Rattle.vc_search.proofs.Standing.{stands}
use Rattle.vc_search.proofs.laws.explored_automata_stand_for_members.Goals as goal

pub returns : goal.returns
returns g c R L same T past first items initial last members A N X =
    stands R same past items initial last members A
    (λ x y i j. c.members_are_numbered.ensures.closed same T (next_by items) first members N x y i j) X
    (λ into s f G. c.machines_stand_for_things.ensures.gathered R L same T last items past members into A s f G)
