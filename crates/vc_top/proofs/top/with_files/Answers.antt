use Rattle.std.proofs.Common.{[], ◌∷◌, Err, Ok, subst}
use Rattle.vc_top.specs.Commands.{AnswersFiles}
use Rattle.vc_top.specs.Inputs.{ReadsFile}
use Rattle.vc_top.specs.Outcomes.{OrMemory}
use Rattle.vc_top.specs.Reasons.{reason_of}
use Rattle.vc_top.specs.Seen.{seen}
use Rattle.vc_top.specs.Views.{answer_of, input_of}
use Rattle.vc_top.proofs.TwoFiles.{both_read, second_unread}
use Rattle.vc_top.proofs.top.with_files.Goals as goal

pub returns-in-Err-read_input-clause-faults : goal.returns-in-Err-read_input-clause-faults
returns-in-Err-read_input-clause-faults g c = c.faults_of_calls.ensures.more (c.args.first.now ∷ []) (c.args.second.now ∷ []) _ _ _ c.read_input.ensures.faults c.read_input-2.ensures.faults

pub returns-in-Err-read_input-clause-answer : goal.returns-in-Err-read_input-clause-answer
returns-in-Err-read_input-clause-answer g c =
    let held = g.F.Files.held c.args.files.now in
    let old = g.F.Files.faults c.args.files.now in
    let middle = g.F.Files.faults c.read_input.new.files in
    let new = g.F.Files.faults c.read_input-2.new.files in
    let second = c.args.second.now in
    let reason = reason_of c.in-Err-read_input.refusal in
    second_unread held old middle new c.args.first.now second c.read_input.ensures.faults c.read_input-2.ensures.faults (AnswersFiles c.args.command) (input_of c.in-Ok.input) c.in-Ok.ensures.read reason
    (subst (λ h. OrMemory (ReadsFile (seen h middle new) second) (Err reason)) c.read_input.ensures.held c.in-Err-read_input.ensures.read)

pub returns-clause-faults : goal.returns-clause-faults
returns-clause-faults g c = c.faults_of_calls.ensures.more (c.args.first.now ∷ []) (c.args.second.now ∷ []) _ _ _ c.read_input.ensures.faults c.read_input-2.ensures.faults

pub returns-clause-answer : goal.returns-clause-answer
returns-clause-answer g c =
    let held = g.F.Files.held c.args.files.now in
    let old = g.F.Files.faults c.args.files.now in
    let middle = g.F.Files.faults c.read_input.new.files in
    let new = g.F.Files.faults c.read_input-2.new.files in
    let second = c.args.second.now in
    let y = input_of c.in-Ok-read_input.input in
    both_read held old middle new c.args.first.now second c.read_input.ensures.faults c.read_input-2.ensures.faults (AnswersFiles c.args.command) (input_of c.in-Ok.input) c.in-Ok.ensures.read y (answer_of c.on_files.result)
    (subst (λ h. OrMemory (ReadsFile (seen h middle new) second) (Ok y)) c.read_input.ensures.held c.in-Ok-read_input.ensures.read) c.on_files.ensures
