-- What a call of the top does, a row each.
use Rattle.std.specs.Prelude.{◌≡◌, ◌≢◌, ◌⊎◌, ℕ, Option, Ok, Err}
use Rattle.std.specs.Io.KnownBytes.{Appends}
use Rattle.vc_command.specs.Requests.{Asked}
use Rattle.vc_files.specs.Files.{Bytes}
use Rattle.vc_files.specs.Sink.{Rose, AppendsFront}
use Rattle.vc_model.specs.Lists.{In}
use Rattle.vc_top.specs.Answers.{Allows, HasCause, IsUsage, names_of}
use Rattle.vc_top.specs.Delivery.{Delivers, IsSent, Reports}
use Rattle.vc_top.specs.Messages.{message}
use Rattle.vc_top.specs.Outcomes.{Answer}
use Rattle.vc_top.specs.Plans.{plan_of}
use Rattle.vc_top.specs.Reasons.{Reason, status_of, unread, unwritten}
use Rattle.vc_top.specs.Seen.{HasFailed, Seen}
use Rattle.vc_top.specs.declared.status.Status.{Status}
use Rattle.vc_top.specs.declared.status.Status.TheVariants as status

-- what a sink had, and its count of faults, before and after a call
pub record Flow : Type 0 where
  pub old : Option Bytes
  pub new : Option Bytes
  pub before : ℕ
  pub after : ℕ

abbrev pub flow : Option Bytes → Option Bytes → ℕ → ℕ → Flow
flow old new before after = record { old = old; new = new; before = before; after = after }

-- the line of a reason is added to a sink, or a front of it at a fault of this sink
abbrev pub IsTold : Reason → Flow → Type 0
IsTold reason err = IsSent (message reason) err.old err.new err.before err.after

pub record IsRun (request : Option Asked) (seen : Seen) (ended : Status) (out err : Flow) : Type 0 where
  -- the answer is one that the request allows over what the files tell; it is printed whole or not at all, and the line of a refusal is that of a reason which stands
  pub answer : (a : Answer) × (left : Option Reason) × Allows request seen a × Delivers a left out.old out.new out.before out.after × Reports left ended err.old err.new err.before err.after
  -- the same, a row each: what is printed, and that a refusal has its cause, prints nothing and says its reason
  pub printed : ended ≡ status.Done → (text : Bytes) × Allows request seen (Ok text) × Appends out.old out.new text
  pub front : ended ≡ status.WriteFault → (text : Bytes) × Allows request seen (Ok text) × AppendsFront out.old out.new text × IsTold unwritten err
  pub cause : ended ≢ status.Done → ended ≢ status.WriteFault → (reason : Reason) × (ended ≡ status_of reason) × Allows request seen (Err reason) × HasCause (plan_of request) seen reason × IsTold reason err
  pub nothing : ended ≢ status.Done → ended ≢ status.WriteFault → out.new ≡ out.old
  pub silent : ended ≡ status.Done → (err.new ≡ err.old) × (err.after ≡ err.before)
  -- over every store and every sink
  pub usage : ended ≡ status.Usage → IsUsage request
  pub asked : IsUsage request → (ended ≡ status.Usage) ⊎ (ended ≡ status.Memory)
  pub read_fault : ended ≡ status.ReadFault → (file : Bytes) × In file (names_of request) × HasFailed seen file × IsTold (unread file) err
  pub write_fault : ended ≡ status.WriteFault → Rose out.before out.after
