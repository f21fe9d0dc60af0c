use Rattle.vc_ring.specs.Weighed.{weighed}
use Rattle.vc_top.specs.Reasons.{reason_of}
use Rattle.vc_top.specs.Views.{seen_by}
use Rattle.vc_top.proofs.Sounded.{lines_refused, lines_sound}
use Rattle.vc_top.proofs.input.read_sound.Goals as goal

pub returns-in-Ok : goal.returns-in-Ok
returns-in-Ok g c f h e =
    lines_sound (weighed g.S.Semiring g.S.Value.PartialEq) g.S.Semiring.ABSORBS c.args.file.now f.sets f.head c.in-Ok.automaton (seen_by (λ a. a) c.sound.result) (c.in-Ok.ensures f h e) c.sound.ensures

pub returns-in-Err : goal.returns-in-Err
returns-in-Err g c f h e =
    lines_refused (weighed g.S.Semiring g.S.Value.PartialEq) g.S.Semiring.ABSORBS c.args.file.now f.sets f.head (reason_of c.in-Err.refusal) (c.in-Err.ensures f h e)
