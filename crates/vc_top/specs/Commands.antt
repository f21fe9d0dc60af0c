-- What the commands of the code answer, and that a plan of the code is the one of a request.
use Rattle.std.specs.Prelude.{◌≡◌, Err, ⊤}
use Rattle.vc_command.specs.Requests.{IsLimit}
use Rattle.vc_files.specs.Files.{Bytes}
use Rattle.vc_top.specs.Contexts.{AnswersContext}
use Rattle.vc_top.specs.Evaluations.{AnswersEval}
use Rattle.vc_top.specs.Expressions.{AnswersExpr}
use Rattle.vc_top.specs.Inputs.{Input}
use Rattle.vc_top.specs.Operations.{AnswersPrint}
use Rattle.vc_top.specs.Outcomes.{Answer, Outcome}
use Rattle.vc_top.specs.Plans.{Plan, of_file, of_files, of_texts, unbuilt}
use Rattle.vc_top.specs.Products.{AnswersProduct}
use Rattle.vc_top.specs.Reasons.{usage}
use Rattle.vc_top.specs.Standards.{AnswersEvalText, AnswersStandard}
use Rattle.vc_top.specs.declared.plan.FileCommand.{FileCommand}
use Rattle.vc_top.specs.declared.plan.FileCommand.TheVariants.{Print, Eval}
use Rattle.vc_top.specs.declared.plan.FilesCommand.{FilesCommand}
use Rattle.vc_top.specs.declared.plan.FilesCommand.TheVariants.{Join}
use Rattle.vc_top.specs.declared.plan.Plan.{Plan as Code}
use Rattle.vc_top.specs.declared.plan.Plan.TheVariants.{Texts, File, Files}
use Rattle.vc_top.specs.declared.plan.TextCommand.{TextCommand}
use Rattle.vc_top.specs.declared.plan.TextCommand.TheVariants.{Unbuilt, Context, Expr, Eval as EvalText, Standard}

-- a command that reads no file; one that is not built is `Usage`
abbrev pub AnswersTexts : TextCommand → Outcome Bytes
AnswersTexts Unbuilt answer = answer ≡ Err usage
AnswersTexts (Context text) answer = AnswersContext text.now answer
AnswersTexts (Expr over text) answer = AnswersExpr over.now text.now answer
AnswersTexts (EvalText over text word) answer = AnswersEvalText over.now text.now word.now answer
AnswersTexts (Standard over text most) answer = AnswersStandard over.now text.now most answer

-- a limit of the command is in its range
abbrev pub IsWithin : TextCommand → Type 0
IsWithin (Standard over text most) = IsLimit most
IsWithin other = ⊤

-- the same of a command that reads two files
abbrev pub AreWithin : FilesCommand → Type 0
AreWithin (Join product most) = IsLimit most

-- the same of the command of a plan
abbrev pub HasLimits : Code → Type 0
HasLimits (Texts command) = IsWithin command
HasLimits (File name command) = ⊤
HasLimits (Files first second command) = AreWithin command

-- a command, to the automaton of its file
abbrev pub AnswersFile : FileCommand → Input → Outcome Bytes
AnswersFile (Print operation) = AnswersPrint operation
AnswersFile (Eval word) = AnswersEval word.now

-- a command, to the automata of its two files
abbrev pub AnswersFiles : FilesCommand → Input → Input → Outcome Bytes
AnswersFiles (Join product most) = AnswersProduct product most

-- the code reads the files of this plan, and each answer of its command is one of the plan
abbrev pub IsPlan : Code → Plan → Type 0
IsPlan (Texts command) unbuilt = (answer : Answer) → AnswersTexts command answer → answer ≡ Err usage
IsPlan (Texts command) (of_texts texts) = (answer : Answer) → AnswersTexts command answer → texts answer
IsPlan (File name command) (of_file file rest) = (file ≡ name.now) × ((x : Input) (answer : Answer) → AnswersFile command x answer → rest x answer)
IsPlan (Files first second command) (of_files a b rest) =
    (a ≡ first.now) × (b ≡ second.now) × ((x y : Input) (answer : Answer) → AnswersFiles command x y answer → rest x y answer)
IsPlan code plan = ⊥
