use Rattle.std.proofs.Common.{◌∙◌, Err, Ok, inr, subst, sym}
use Rattle.vc_top.specs.Inputs.{IsReading, ReadsLines}
use Rattle.vc_top.specs.Outcomes.{OrMemory}
use Rattle.vc_ring.specs.Weighed.{weighed}
use Rattle.vc_top.proofs.LinesRead.{automaton_read, fault_read}
use Rattle.vc_top.proofs.input.read_over.Goals as goal

pub returns-in-Ok : goal.returns-in-Ok
returns-in-Ok g c f h e =
    let T = weighed g.S.Semiring g.S.Value.PartialEq in
    let L = g.met.S.Semiring.laws in
    let refused = c.refusals_are_additions.ensures in
    let read : IsReading T f.sets f.head (Ok c.in-Ok.automaton) = subst (λ x. IsReading T x f.head (Ok c.in-Ok.automaton)) (sym e) (c.in-Ok.ensures.after f.head h.is_head) in
    inr (automaton_read T c.args.file.now f.sets f.head (c.readings_exclude_each_other.ensures T f.sets f.head)
    (refused.unfit T L f.sets f.head) (refused.limit T L f.sets f.head)
    (refused.no_unfit T L g.met.S.Semiring.ranges g.met.S.Semiring.texts f.sets f.head) (refused.no_limit T L f.sets f.head)
    c.in-Ok.automaton read (c.built_automata_are_spelled.ensures T L g.met.S.Semiring.same f.sets f.head c.in-Ok.automaton read) (c.in-Ok.ensures.sets ∙ sym e))

pub returns-in-Err : goal.returns-in-Err
returns-in-Err g c f h e =
    let T = weighed g.S.Semiring g.S.Value.PartialEq in
    let L = g.met.S.Semiring.laws in
    let refused = c.refusals_are_additions.ensures in
    let read : IsReading T f.sets f.head (Err c.in-Err.fault) = subst (λ x. IsReading T x f.head (Err c.in-Err.fault)) (sym e) (c.in-Err.ensures.after f.head h.is_head) in
    subst (λ r. OrMemory (ReadsLines T c.args.file.now f.sets f.head) (Err r)) (sym c.refusal_of.ensures)
    (fault_read T c.args.file.now f.sets f.head (c.readings_exclude_each_other.ensures T f.sets f.head)
    (refused.unfit T L f.sets f.head) (refused.limit T L f.sets f.head)
    (refused.no_unfit T L g.met.S.Semiring.ranges g.met.S.Semiring.texts f.sets f.head) (refused.no_limit T L f.sets f.head)
    c.in-Err.fault read)
