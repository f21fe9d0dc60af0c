-- What each request wants: a line for each command.
use Rattle.std.specs.Prelude.{◌≡◌, List, [], ◌∷◌, Option, Some, Err, ⊤}
use Rattle.vc_command.specs.Requests.{Asked, context, expr, cat, eval_file, eval_expr, standard, proper, trim, conjunction, shuffle}
use Rattle.vc_files.specs.Files.{Bytes}
use Rattle.vc_top.specs.Contexts.{AnswersContext}
use Rattle.vc_top.specs.Evaluations.{AnswersEval}
use Rattle.vc_top.specs.Expressions.{AnswersExpr}
use Rattle.vc_top.specs.Inputs.{Input, ReadsFile}
use Rattle.vc_top.specs.Operations.{AnswersPrint, IsOfClosing}
use Rattle.vc_top.specs.Outcomes.{Outcome, Then}
use Rattle.vc_top.specs.Products.{AnswersProduct}
use Rattle.vc_top.specs.Reasons.{Reason, usage}
use Rattle.vc_top.specs.Seen.{Seen}
use Rattle.vc_top.specs.Standards.{AnswersEvalText, AnswersStandard, IsOfConstruction}
use Rattle.vc_top.specs.declared.operation.Operation.TheVariants.{Itself, Proper, Trim}
use Rattle.vc_top.specs.declared.product.Product.TheVariants.{Conjunction, Shuffle}

-- which files are read, and what is answered to them
pub data Plan : Type 1 where
  unbuilt : Plan
  of_texts : Outcome Bytes → Plan
  of_file : Bytes → (Input → Outcome Bytes) → Plan
  of_files : Bytes → Bytes → (Input → Input → Outcome Bytes) → Plan

abbrev pub plan_of : Option Asked → Plan
plan_of (Some (context text)) = of_texts (AnswersContext text)
plan_of (Some (expr over text)) = of_texts (AnswersExpr over text)
plan_of (Some (cat file)) = of_file file (AnswersPrint Itself)
plan_of (Some (eval_file file word)) = of_file file (AnswersEval word)
plan_of (Some (eval_expr over text word)) = of_texts (AnswersEvalText over text word)
plan_of (Some (standard over text most)) = of_texts (AnswersStandard over text most)
plan_of (Some (proper file)) = of_file file (AnswersPrint Proper)
plan_of (Some (trim file)) = of_file file (AnswersPrint Trim)
plan_of (Some (conjunction first second most)) = of_files first second (AnswersProduct Conjunction most)
plan_of (Some (shuffle first second most)) = of_files first second (AnswersProduct Shuffle most)
plan_of other = unbuilt

-- requests whose text is not determined, so that any may be printed that is allowed: there is none among the commands that are built
abbrev pub IsOpen : Option Asked → Type 0
IsOpen request = ⊥

-- reasons for which a request may be refused where their cause stands, while its answer may also come
abbrev pub IsLoose : Option Asked → Reason → Type 0
IsLoose (Some (eval_expr over text word)) reason = IsOfConstruction reason
IsLoose (Some (standard over text most)) reason = IsOfConstruction reason
IsLoose (Some (eval_file file word)) reason = IsOfClosing reason
IsLoose (Some (proper file)) reason = IsOfClosing reason
IsLoose (Some (conjunction first second most)) reason = IsOfClosing reason
IsLoose (Some (shuffle first second most)) reason = IsOfClosing reason
IsLoose other reason = ⊥

-- the answers of a plan; a command that is not built is `Usage`
abbrev pub Answers : Plan → Seen → Outcome Bytes
Answers unbuilt seen answer = answer ≡ Err usage
Answers (of_texts texts) seen answer = texts answer
Answers (of_file file rest) seen answer = Then (ReadsFile seen file) rest answer
Answers (of_files first second rest) seen answer = Then (ReadsFile seen first) (λ x. Then (ReadsFile seen second) (rest x)) answer

-- no command is asked for that is built
abbrev pub IsUnbuilt : Plan → Type 0
IsUnbuilt unbuilt = ⊤
IsUnbuilt (of_texts texts) = ⊥
IsUnbuilt (of_file file rest) = ⊥
IsUnbuilt (of_files first second rest) = ⊥

-- the files that are read
abbrev pub files_of : Plan → List Bytes
files_of unbuilt = []
files_of (of_texts texts) = []
files_of (of_file file rest) = file ∷ []
files_of (of_files first second rest) = first ∷ second ∷ []
