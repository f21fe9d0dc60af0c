-- Which answers a request allows, each with its cause, and in what two of them agree.
use Rattle.std.specs.Prelude.{◌≡◌, ◌⊎◌, ◌<◌, Option, Ok, Err, List, length, ⊤}
use Rattle.vc_command.specs.Requests.{Asked}
use Rattle.vc_files.specs.Files.{Bytes}
use Rattle.vc_model.specs.Lists.{In}
use Rattle.vc_ring.specs.declared.faults.Measure.TheVariants.{Bytes as BytesOf}
use Rattle.vc_top.specs.Inputs.{Input, ReadsFile, most_bytes}
use Rattle.vc_top.specs.Outcomes.{Answer, Outcome, OrMemory}
use Rattle.vc_top.specs.Plans.{Answers, IsLoose, IsOpen, IsUnbuilt, Plan, files_of, of_file, of_files, of_texts, plan_of, unbuilt}
use Rattle.vc_top.specs.Reasons.{Reason, empty_circuit, limit, no_memory, overflow, unread, unwritten, usage}
use Rattle.vc_top.specs.Seen.{HasFailed, Reads, Seen}
use Rattle.vc_top.specs.declared.refusal.Bound.TheVariants.{Of}

-- the answers to what words ask for; no request, and one of a command that is not built, is `Usage`
abbrev pub Allows : Option Asked → Seen → Answer → Type 0
Allows request seen = OrMemory (Answers (plan_of request) seen)

-- there is no request, or it is one of a command that is not built
abbrev pub IsUsage : Option Asked → Type 0
IsUsage request = IsUnbuilt (plan_of request)

-- the names of the files that a request reads
abbrev pub names_of : Option Asked → List Bytes
names_of request = files_of (plan_of request)

-- a text among the words has too many bytes, and is refused for that
abbrev pub HasLongText : Plan → Type 0
HasLongText (of_texts texts) = texts (Err (limit (Of BytesOf)))
HasLongText plan = ⊥

-- what stands where a request is refused for this: it is `usage` for a request that is not built, a file is unread whose reading has failed, and
-- the limit of bytes is passed by the bytes of a file, or by a text; this reason is none for which an answer is not written
abbrev pub HasCause : Plan → Seen → Reason → Type 0
HasCause plan seen usage = IsUnbuilt plan
HasCause plan seen (unread file) = In file (files_of plan) × HasFailed seen file
HasCause plan seen unwritten = ⊥
HasCause plan seen (limit (Of BytesOf)) = ((file : Bytes) × In file (files_of plan) × Reads seen file (λ bytes. most_bytes < length bytes)) ⊎ HasLongText plan
HasCause plan seen other = ⊤

-- what the files tell does not determine want of memory, and that a file was not read
abbrev pub IsFreeReason : Reason → Type 0
IsFreeReason no_memory = ⊤
IsFreeReason (unread file) = ⊤
IsFreeReason other = ⊥

-- a number does not fit, a limit is passed, or a circuit has no weight; a file or a text has too many bytes before anything else of it is known
abbrev pub IsPastReason : Reason → Type 0
IsPastReason overflow = ⊤
IsPastReason (limit (Of BytesOf)) = ⊥
IsPastReason (limit bound) = ⊤
IsPastReason empty_circuit = ⊤
IsPastReason other = ⊥

-- both refusals are allowed
abbrev pub AllowsBoth : {X : Type 0} → Outcome X → Reason → Reason → Type 0
AllowsBoth R r q = R (Err r) × R (Err q)

-- both reasons stand in one part of a plan: in the reading of one file, or in what is answered to what was read
abbrev pub AreOfOnePart : Plan → Seen → Reason → Reason → Type 0
AreOfOnePart unbuilt seen r q = ⊥
AreOfOnePart (of_texts texts) seen r q = AllowsBoth texts r q
AreOfOnePart (of_file file rest) seen r q = AllowsBoth (ReadsFile seen file) r q ⊎ ((x : Input) × ReadsFile seen file (Ok x) × AllowsBoth (rest x) r q)
AreOfOnePart (of_files first second rest) seen r q =
    AllowsBoth (ReadsFile seen first) r q
    ⊎ ((x : Input) × ReadsFile seen first (Ok x) × (AllowsBoth (ReadsFile seen second) r q ⊎ ((y : Input) × ReadsFile seen second (Ok y) × AllowsBoth (rest x y) r q)))

-- the answer is free
abbrev pub IsFree : {X : Type 0} → Outcome X
IsFree (Ok x) = ⊥
IsFree (Err reason) = IsFreeReason reason

-- both are refusals, in one part something is past its bounds in two ways, and either may be answered
abbrev pub ArePast : Plan → Seen → Answer → Answer → Type 0
ArePast plan seen a b = (r q : Reason) × (a ≡ Err r) × (b ≡ Err q) × IsPastReason r × IsPastReason q × AreOfOnePart plan seen r q

-- a text is printed that the command leaves open
abbrev pub AreOpen : Option Asked → Answer → Answer → Type 0
AreOpen request a b = (x y : Bytes) × (a ≡ Ok x) × (b ≡ Ok y) × IsOpen request

-- one prints a text, and the other is refused for a reason whose cause stands while the text may come
abbrev pub AreLoose : Option Asked → Answer → Answer → Type 0
AreLoose request a b = (x : Bytes) × (r : Reason) × IsLoose request r × (((a ≡ Ok x) × (b ≡ Err r)) ⊎ ((a ≡ Err r) × (b ≡ Ok x)))

-- one of two answers is free, or they are the same, or both are refusals of one part that are past bounds, or both are texts that are open, or the command may be refused or not
abbrev pub Agree : Option Asked → Seen → Answer → Answer → Type 0
Agree request seen a b = (IsFree a ⊎ IsFree b) ⊎ ((a ≡ b) ⊎ (ArePast (plan_of request) seen a b ⊎ (AreOpen request a b ⊎ AreLoose request a b)))
