-- What the code answers, without where it lies in memory.
use Rattle.std.specs.Prelude.{ℕ, Option, None, Some, Result, Ok, Err, String, string_bytes}
use Rattle.std.specs.Global.{Global}
use Rattle.vc_aut.specs.Labelled.{Labelled}
use Rattle.vc_command.specs.declared.request.RequestFault.{RequestFault}
use Rattle.vc_command.specs.declared.request.RequestFault.TheVariants as words
use Rattle.vc_context.specs.declared.context.Weights.TheVariants as weights
use Rattle.vc_reader.specs.declared.fault.DautFault.{DautFault}
use Rattle.vc_reader.specs.declared.fault.DautFault.TheVariants as fault
use Rattle.vc_lines.specs.declared.fault.HeadFault.{HeadFault}
use Rattle.vc_lines.specs.declared.fault.HeadFault.TheVariants as head
use Rattle.vc_exprio.specs.declared.fault.TextFault.{TextFault}
use Rattle.vc_exprio.specs.declared.fault.TextFault.TheVariants as text
use Rattle.vc_files.specs.Files.{Bytes}
use Rattle.vc_top.specs.Inputs.{Input}
use Rattle.vc_top.specs.Outcomes.{Answer}
use Rattle.vc_top.specs.Reasons.{Reason, contexts, in_expression, in_line, limit, no_label, no_memory, no_star, overflow, reason_of, syntax, usage}
use Rattle.vc_top.specs.declared.input.AnyInput.{AnyInput}
use Rattle.vc_top.specs.declared.input.AnyInput.TheVariants as input
use Rattle.vc_top.specs.declared.input.AnyOf.{AnyOf}
use Rattle.vc_top.specs.declared.input.AnyOf.TheVariants as any
use Rattle.vc_top.specs.declared.refusal.Bound.TheVariants.{Of}
use Rattle.vc_top.specs.declared.refusal.Refusal.{Refusal}

-- a result of the code, whose values are seen like this
abbrev pub seen_by : {X Y : Type 0} → (X → Y) → Result X Refusal → Result Y Reason
seen_by view (Ok x) = Ok (view x)
seen_by view (Err refusal) = Err (reason_of refusal)

-- the text that is to be printed, or the reason
abbrev pub answer_of : Result (String Global) Refusal → Answer
answer_of = seen_by string_bytes

-- an automaton of the code, over any labels
abbrev pub labelled_of : {S V : Type 0} → AnyOf S V → Labelled V
labelled_of (any.Letters a) = a
labelled_of (any.Nullable a) = a
labelled_of (any.Words a) = a
labelled_of (any.Tuple a) = a

-- the automaton of a file
abbrev pub input_of : AnyInput → Input
input_of (input.B a) = record { weights = weights.B; of = labelled_of a }
input_of (input.F2 a) = record { weights = weights.F2; of = labelled_of a }
input_of (input.Z a) = record { weights = weights.Z; of = labelled_of a }
input_of (input.Q a) = record { weights = weights.Q; of = labelled_of a }
input_of (input.Nmin a) = record { weights = weights.Nmin; of = labelled_of a }

-- the reason that a call left
abbrev pub left_of : Result (Unit {0}) Refusal → Option Reason
left_of (Ok u) = None
left_of (Err refusal) = Some (reason_of refusal)

-- the reason for which words are refused
abbrev pub reason_of_words : RequestFault → Reason
reason_of_words words.Usage = usage
reason_of_words (words.Memory e) = no_memory

-- the line of a file that has no context line
abbrev pub fault_line : HeadFault → ℕ
fault_line (head.Syntax line) = line

-- the reason for which a file is refused, whose lines were read
abbrev pub fault_reason : {V : Type 0} → Bytes → DautFault V → Reason
fault_reason file (fault.Syntax line) = syntax (in_line file line)
fault_reason file (fault.NotALabel line from to) = no_label (in_line file line)
fault_reason file (fault.Overflow line step) = overflow
fault_reason file (fault.Limit l) = limit (Of l.what)
fault_reason file (fault.Memory e) = no_memory

-- the reason for which the text of an expression is refused
abbrev pub text_fault_reason : {V : Type 0} → TextFault V → Reason
text_fault_reason (text.Limit l) = limit (Of l.what)
text_fault_reason (text.BadByte at) = syntax (in_expression at)
text_fault_reason (text.NotAnExpression at) = syntax (in_expression at)
text_fault_reason (text.NotALabel at) = no_label (in_expression at)
text_fault_reason (text.NotInContext at) = contexts
text_fault_reason (text.InvalidStar operand constant) = no_star
text_fault_reason (text.Overflow step) = overflow
text_fault_reason (text.Memory e) = no_memory
