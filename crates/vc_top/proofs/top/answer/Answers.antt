use Rattle.std.proofs.Common.{Some}
use Rattle.vc_command.specs.Views.{asked}
use Rattle.vc_top.specs.Plans.{plan_of}
use Rattle.vc_top.specs.Seen.{seen}
use Rattle.vc_top.specs.Views.{answer_of}
use Rattle.vc_top.proofs.Planned.{file_answered, file_grows, files_answered, files_grow, texts_answered}
use Rattle.vc_top.proofs.top.answer.Goals as goal

pub returns-in-File-clause-faults : goal.returns-in-File-clause-faults
returns-in-File-clause-faults g c = file_grows c.in-File.file c.in-File.command (plan_of (Some (asked c.args.request.now))) c.in-File.ensures.plan _ _ c.with_file.ensures.faults

pub returns-in-File-clause-answer : goal.returns-in-File-clause-answer
returns-in-File-clause-answer g c = file_answered c.in-File.file c.in-File.command (seen _ _ _) (plan_of (Some (asked c.args.request.now))) c.in-File.ensures.plan (answer_of c.with_file.result) c.with_file.ensures.answer

pub returns-in-Texts-clause-answer : goal.returns-in-Texts-clause-answer
returns-in-Texts-clause-answer g c = texts_answered (seen _ _ _) (plan_of (Some (asked c.args.request.now))) c.in-Texts.command c.in-Texts.ensures.plan (answer_of c.on_texts.result) c.on_texts.ensures

pub returns-in-Files-clause-faults : goal.returns-in-Files-clause-faults
returns-in-Files-clause-faults g c = files_grow c.in-Files.first c.in-Files.second c.in-Files.command (plan_of (Some (asked c.args.request.now))) c.in-Files.ensures.plan _ _ c.with_files.ensures.faults

pub returns-in-Files-clause-answer : goal.returns-in-Files-clause-answer
returns-in-Files-clause-answer g c = files_answered c.in-Files.first c.in-Files.second c.in-Files.command (seen _ _ _) (plan_of (Some (asked c.args.request.now))) c.in-Files.ensures.plan (answer_of c.with_files.result) c.with_files.ensures.answer
