-- The number of a status, and the line that tells a fault.
use Rattle.std.specs.Prelude.{ℕ, List, [], ◌++◌, codes, decimal}
use Rattle.clog_base.specs.declared.fault.Quantity.{Quantity}
use Rattle.clog_base.specs.declared.fault.Quantity.TheVariants.{FileBytes, Lines, SegmentBytes, Ids}
use Rattle.clog_base.specs.declared.fault.Quantity.TheVariants.{TableFiles}
use Rattle.clog_entry.specs.CauseText.{cause_text}
use Rattle.clog_table.specs.FaultTexts.{fault_text}
use Rattle.clog_text.specs.Refusals.{refusal_text}
use Rattle.clog_engine.specs.declared.status.Status.{Status}
use Rattle.clog_engine.specs.declared.status.Status.TheVariants.{Ok, Usage, BadLine, TooLarge}
use Rattle.clog_engine.specs.declared.status.Status.TheVariants.{ReadFault, WriteFault, DiskFault}
use Rattle.clog_engine.specs.declared.status.Status.TheVariants.{Damaged, BadTable, OutOfMemory}
use Rattle.clog_engine.specs.declared.status.Status.TheVariants.{Limit, Absent}
use Rattle.clog_applied.specs.Printed.{line}

abbrev pub quantity_name : Quantity → List ℕ
quantity_name FileBytes = codes "file-bytes"
quantity_name Lines = codes "lines"
quantity_name SegmentBytes = codes "segment-bytes"
quantity_name Ids = codes "ids"
quantity_name TableFiles = codes "table-files"

-- a limit of this name
abbrev pub limit_line : List ℕ → ℕ → List ℕ
limit_line name number =
    line (codes "error 10: limit " ++ name ++ codes " " ++ decimal number)

abbrev pub fault_line : Status → List ℕ
fault_line Ok = []
fault_line Usage = line (codes "error 1: usage")
fault_line (BadLine number cause) =
    line (codes "error 2: line " ++ decimal number ++ codes ": " ++ refusal_text cause)
fault_line (TooLarge number size most) =
    line (codes "error 3: line " ++ decimal number ++ codes ": size " ++ decimal size
    ++ codes " above " ++ decimal most)
fault_line ReadFault = line (codes "error 4: read fault")
fault_line WriteFault = []
fault_line DiskFault = line (codes "error 6: disk fault")
fault_line (Damaged name at cause) =
    line (codes "error 7: " ++ name ++ codes " at " ++ decimal at ++ codes ": " ++ cause_text cause)
fault_line (BadTable name fault) =
    line (codes "error 8: " ++ name ++ codes ": " ++ fault_text fault)
fault_line OutOfMemory = line (codes "error 9: out of memory")
fault_line (Limit what number) = limit_line (quantity_name what) number
fault_line (Absent name) = line (codes "error 11: no file " ++ name)

abbrev pub number_of : Status → ℕ
number_of Ok = 0
number_of Usage = 1
number_of (BadLine number cause) = 2
number_of (TooLarge number size most) = 3
number_of ReadFault = 4
number_of WriteFault = 5
number_of DiskFault = 6
number_of (Damaged name at cause) = 7
number_of (BadTable name fault) = 8
number_of OutOfMemory = 9
number_of (Limit what number) = 10
number_of (Absent name) = 11
