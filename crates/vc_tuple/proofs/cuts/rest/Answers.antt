use Rattle.std.proofs.Common.{length}
use Rattle.vc_tuple.proofs.WordCuts.{rest_is, rest_of_letters}
use Rattle.vc_tuple.proofs.cuts.rest.Goals as goal

pub returns-clause-value : goal.returns-clause-value
returns-clause-value c = rest_is c.args.part.now c.args.tape.now c.strip_prefix.result (c.tapes_are_cut.ensures.rest c.args.part.now c.args.tape.now) c.strip_prefix.ensures.cases

pub returns-clause-letters : goal.returns-clause-letters
returns-clause-letters c =
    let behind = c.tapes_are_cut.ensures.letters (length c.args.part.now) c.args.tape.now c.requires in
    rest_of_letters c.args.part.now c.args.tape.now c.strip_prefix.result behind c.strip_prefix.ensures.cases
