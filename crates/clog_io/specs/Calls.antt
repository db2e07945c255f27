-- The calls of an object in memory: which are to fail, how many were made, how many have failed.
use Rattle.std.specs.Prelude.{ℕ, ◌+◌, ◌-◌, ◌^◌, min, List, Bool, true, false, nat_eq}
use Rattle.std.specs.List.{list_any}
use Rattle.clog_io.specs.Causes.{risen}

pub record Calls : Type 0 where
  pub failing : List ℕ
  pub made : ℕ
  pub faults : ℕ

-- no call was made yet
abbrev pub first_of : List ℕ → Calls
first_of failing = record { failing = failing; made = 0; faults = 0 }

-- the number of the next call, from 1
abbrev pub next_number : Calls → ℕ
next_number calls = min (calls.made + 1) (2 ^ 64 - 1)

abbrev pub next_fails : Calls → Bool
next_fails calls = list_any (λ number. nat_eq number (next_number calls)) calls.failing

-- one fault more
abbrev pub with_fault : Calls → Calls
with_fault calls = record calls { faults = risen calls.faults }

abbrev pub with_fault_if : Bool → Calls → Calls
with_fault_if true calls = with_fault calls
with_fault_if false calls = calls

-- one call more, which fails where it is to fail
abbrev pub with_call : Calls → Calls
with_call calls = with_fault_if (next_fails calls) (record calls { made = next_number calls })
