-- What a run answers, what it leaves and what it prints: what is asked for is done, or refused.
use Rattle.std.specs.Prelude.{◌≡◌, ◌⊎◌, ℕ, List, Option, Some, None, String, Result}
use Rattle.std.specs.declared.alloc.Global.{Global}
use Rattle.std.specs.declared.result.Result.TheVariants as result
use Rattle.clog_engine.specs.declared.status.Status.{Status}
use Rattle.clog_engine.specs.declared.status.Status.TheVariants.{Ok, Usage, WriteFault, OutOfMemory}
use Rattle.clog_words.specs.declared.built.Built.{Built}
use Rattle.clog_words.specs.declared.built.Built.TheVariants.{Apply, Replay, Scan, Drill, Orders}
use Rattle.clog_engine.specs.Drill.{Drills}
use Rattle.clog_engine.specs.Orders.{RunsOrders}
use Rattle.clog_engine.specs.Replaying.{ReplaysFolder}
use Rattle.clog_engine.specs.Request.{Asks}
use Rattle.clog_engine.specs.Scanning.{Scans}
use Rattle.clog_engine.specs.Faults.{fault_line}
use Rattle.clog_engine.specs.Outside.{Outside, IsLeftAlone, Sinks, Writes, Breaks}
use Rattle.clog_engine.specs.Apply.{Applies}
use Rattle.clog_engine.specs.Quiet.{TellsFaults}

-- nothing was taken from the source
pub record IsUnread (o : Outside) : Type 0 where
  pub left : o.left_now ≡ o.left
  pub faults : o.source_faults_now ≡ o.source_faults

-- What is asked for is done and reported, or is refused; no request at all is refused.
abbrev pub Does : Option Built → Outside → Result (List ℕ) Status → Type 0
Does None o outcome = (outcome ≡ result.Err Usage) × IsLeftAlone o × IsUnread o
Does (Some (Apply options)) o outcome = Applies options o outcome
Does (Some (Replay options)) o outcome =
    ReplaysFolder options.ignore_errors o.files o.disk_faults o.disk_faults_now outcome
    × IsLeftAlone o × IsUnread o
Does (Some (Scan id)) o outcome =
    Scans id o.files o.disk_faults o.disk_faults_now outcome × IsLeftAlone o × IsUnread o
Does (Some (Drill seed count)) o outcome = Drills seed count o outcome × IsUnread o
Does (Some (Orders readers rounds)) o outcome =
    RunsOrders readers rounds outcome × IsLeftAlone o × IsUnread o

-- Memory for the words was refused.
abbrev pub HasNoWords : Outside → Result (List ℕ) Status → Type 0
HasNoWords o outcome = (outcome ≡ result.Err OutOfMemory) × IsLeftAlone o × IsUnread o

-- What the words ask for is done, or refused.
pub record DoesWhatIsAsked (words : List (String Global)) (o : Outside)
    (outcome : Result (List ℕ) Status) : Type 0 where
  pub request : Option Built
  pub asked : Asks words request
  pub done : Does request o outcome

abbrev pub DoesAsked : List (String Global) → Outside → Result (List ℕ) Status → Type 0
DoesAsked words o outcome = DoesWhatIsAsked words o outcome ⊎ HasNoWords o outcome

-- a report goes out whole, or the sink fails
abbrev pub Reports : List ℕ → Status → Sinks → Type 0
Reports report Ok s = Writes s report
Reports report WriteFault s = Breaks s report
Reports report other s = ⊥

-- A refusal is the status, and its line alone goes out, or the sink fails at it.
abbrev pub Prints : Result (List ℕ) Status → Status → Sinks → Type 0
Prints (result.Ok report) status s = Reports report status s
Prints (result.Err refusal) status s =
    (status ≡ refusal) × (Writes s (fault_line refusal) ⊎ Breaks s (fault_line refusal))

-- What the words ask for comes to a report or a refusal, and the status and the sink tell it. Each
-- fault of the disk is told.
pub record Answers (words : List (String Global)) (o : Outside) (s : Sinks) (status : Status)
    : Type 0 where
  pub outcome : Result (List ℕ) Status
  pub done : DoesAsked words o outcome
  pub printed : Prints outcome status s
  pub quiet : TellsFaults status o.disk_faults o.disk_faults_now
