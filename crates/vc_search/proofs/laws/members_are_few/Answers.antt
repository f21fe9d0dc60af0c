use Rattle.vc_search.proofs.Numberings.{few_accessible, one_numbering}
use Rattle.vc_search.proofs.laws.members_are_few.Goals as goal

pub returns-clause-few : goal.returns-clause-few
returns-clause-few g c same T next first members n N h m = few_accessible same next first members n (c.members_are_numbered.ensures.accessible same T next first members N) h m

pub returns-clause-one : goal.returns-clause-one
returns-clause-one g c same T next first members others N O = one_numbering same next first (c.members_are_numbered.ensures.whole same T next first) members others N O
