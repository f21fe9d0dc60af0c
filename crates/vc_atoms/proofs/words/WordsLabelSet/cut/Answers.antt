use Rattle.std.proofs.Common.{length}
use Rattle.vc_atoms.proofs.Cuts.{cut_found, cut_not_found}
use Rattle.vc_atoms.proofs.words.WordsLabelSet.cut.Goals as goal

pub one-requires : goal.one-requires
one-requires c =
    let behind = c.tapes_are_cut.ensures.letters (length c.as_slice.result.now) c.tape.result.now c.tape.ensures.letters in
    rw c.in-Some.ensures.cases.1 behind

pub returns-in-Some : goal.returns-in-Some
returns-in-Some c =
    let by_prefix = c.tapes_are_cut.ensures.rest c.as_slice.result.now c.tape.result.now in
    cut_found c.args.label.now.letters.items c.as_slice.result.now c.tape.result.now c.in-Some.rest.now _ _ by_prefix c.requires c.tape.ensures.value c.as_slice.ensures c.in-Some.ensures.cases.0 c.in-Some.ensures.cases.1 c.one.ensures

pub returns-in-None : goal.returns-in-None
returns-in-None c =
    let by_prefix = c.tapes_are_cut.ensures.rest c.as_slice.result.now c.tape.result.now in
    cut_not_found c.args.label.now.letters.items c.as_slice.result.now c.tape.result.now _ by_prefix c.requires c.tape.ensures.value c.as_slice.ensures c.in-None.ensures.cases
