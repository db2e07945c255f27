-- The printed text of a cause: its name, and its number where it has one.
use Rattle.std.specs.Prelude.{ℕ, List, ◌++◌, codes, decimal, Option, Some, None}
use Rattle.clog_base.specs.declared.fault.PayloadFault.{PayloadFault}
use Rattle.clog_base.specs.declared.fault.PayloadFault.TheVariants as faults
use Rattle.clog_entry.specs.declared.cause.Cause.{Cause}
use Rattle.clog_entry.specs.declared.cause.Cause.TheVariants as causes

abbrev pub with_number : List ℕ → Option ℕ → List ℕ
with_number name None = name
with_number name (Some number) = name ++ codes " " ++ decimal number

-- behind the name of the cause stands that of the payload's fault
abbrev pub payload_cause_name : PayloadFault → List ℕ
payload_cause_name (faults.Short at) = codes "Payload Short"
payload_cause_name (faults.BadTag at) = codes "Payload BadTag"
payload_cause_name faults.Count = codes "Payload Count"
payload_cause_name (faults.NotUtf8 at) = codes "Payload NotUtf8"
payload_cause_name (faults.Trailing at) = codes "Payload Trailing"
payload_cause_name (faults.NameLength at) = codes "Payload NameLength"
payload_cause_name (faults.BadTable at) = codes "Payload BadTable"
payload_cause_name faults.OutOfMemory = codes "Payload OutOfMemory"

abbrev pub payload_cause_number : PayloadFault → Option ℕ
payload_cause_number (faults.Short at) = Some at
payload_cause_number (faults.BadTag at) = Some at
payload_cause_number faults.Count = None
payload_cause_number (faults.NotUtf8 at) = Some at
payload_cause_number (faults.Trailing at) = Some at
payload_cause_number (faults.NameLength at) = Some at
payload_cause_number (faults.BadTable at) = Some at
payload_cause_number faults.OutOfMemory = None

abbrev pub cause_name : Cause → List ℕ
cause_name causes.Short = codes "Short"
cause_name causes.SizeUnder10 = codes "SizeUnder10"
cause_name causes.SizeCheck = codes "SizeCheck"
cause_name causes.BodyCheck = codes "BodyCheck"
cause_name causes.PastSection = codes "PastSection"
cause_name (causes.Version version) = codes "Version"
cause_name causes.Parameters = codes "Parameters"
cause_name causes.HeaderCheck = codes "HeaderCheck"
cause_name causes.MarkerCheck = codes "MarkerCheck"
cause_name (causes.MarkerTarget target) = codes "MarkerTarget"
cause_name (causes.HeaderId id) = codes "HeaderId"
cause_name (causes.Payload fault) = payload_cause_name fault

abbrev pub cause_number : Cause → Option ℕ
cause_number causes.Short = None
cause_number causes.SizeUnder10 = None
cause_number causes.SizeCheck = None
cause_number causes.BodyCheck = None
cause_number causes.PastSection = None
cause_number (causes.Version version) = Some version
cause_number causes.Parameters = None
cause_number causes.HeaderCheck = None
cause_number causes.MarkerCheck = None
cause_number (causes.MarkerTarget target) = Some target
cause_number (causes.HeaderId id) = Some id
cause_number (causes.Payload fault) = payload_cause_number fault

unfoldable pub cause_text : Cause → List ℕ
cause_text cause = with_number (cause_name cause) (cause_number cause)
