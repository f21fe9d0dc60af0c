use Rattle.vc_top.specs.Commands.{AnswersFile}
use Rattle.vc_top.specs.Inputs.{ReadsFile}
use Rattle.vc_top.specs.Reasons.{reason_of}
use Rattle.vc_top.specs.Seen.{seen}
use Rattle.vc_top.specs.Views.{answer_of, input_of}
use Rattle.vc_top.proofs.Outcomes.{then_given, then_refused}
use Rattle.vc_top.proofs.Sounded.{file_sound}
use Rattle.vc_top.proofs.top.with_file.Goals as goal

pub returns-in-Ok-clause-answer : goal.returns-in-Ok-clause-answer
returns-in-Ok-clause-answer g c = then_given (ReadsFile (seen _ _ _) c.args.file.now) (AnswersFile c.args.command) (input_of c.in-Ok.input) (answer_of c.on_file.result) c.in-Ok.ensures.read c.on_file.ensures

pub returns-in-Err-clause-answer : goal.returns-in-Err-clause-answer
returns-in-Err-clause-answer g c = then_refused (ReadsFile (seen _ _ _) c.args.file.now) (AnswersFile c.args.command) (reason_of c.in-Err.refusal) c.in-Err.ensures.read

pub on_file-requires : goal.on_file-requires
on_file-requires g c = file_sound (seen _ _ _) c.args.file.now (input_of c.in-Ok.input) c.in-Ok.ensures.read
