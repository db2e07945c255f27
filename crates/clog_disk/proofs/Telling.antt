-- What is told before and after.
use Rattle.std.proofs.Common.{◌≡◌, Option, Some, None, IfSome, refl, sym, subst}
use Rattle.std.specs.Prelude.{Result, Ok, Err, OnOk, OnErr}
use Rattle.std.specs.Prelude.{ℕ, List, [], length, unwrap_or}
use Rattle.std.proofs.Common.{◌∙◌, ap}
use Rattle.clog_disk.specs.Files.{Files, Told, SameTold, IsEnd, IsLength, IsAbsent}

pub told_some : (now : Option Files) (P : Files → Type 0) → Told now P
    → (files : Files) × (now ≡ Some files) × P files
told_some None P told = absurd told
told_some (Some files) P told = (files, refl, told)

pub same_told_self : (now : Option Files) → SameTold now now
same_told_self None = refl
same_told_self (Some files) = tt

pub same_told_then : (old mid new : Option Files) → SameTold old mid → SameTold mid new
    → SameTold old new
same_told_then None mid new first next = subst (λ (o : Option Files). SameTold o new) first next
same_told_then (Some f) None new first next = absurd first
same_told_then (Some f) (Some g) new first next = next

-- what is told before leads to what is told later
pub told_or : (old new : Option Files) (P Q : Files → Type 0) → SameTold old new → IfSome old P
    → ((files : Files) → old ≡ Some files → P files → IfSome new Q) → IfSome new Q
told_or None new P Q same before next =
    subst (λ (now : Option Files). IfSome now Q) (sym same) tt
told_or (Some files) new P Q same before next = next files refl before

-- what holds anyhow holds on each outcome
pub on_ok : {A E P : Type 0} (result : Result A E) → P → OnOk result P
on_ok (Ok x) p = p
on_ok (Err e) p = tt

pub on_err : {A E P : Type 0} (result : Result A E) → P → OnErr result P
on_err (Ok x) p = tt
on_err (Err e) p = p

-- a file ends at its length, and at 0 where it is absent
pub end_at_length : (files : Option Files) (name : List ℕ) (size : ℕ) → IsLength files name size
    → IsEnd files name size
end_at_length None name size is = tt
end_at_length (Some files) name size is =
    is.2 ∙ sym (ap (λ (held : Option (List ℕ)). length (unwrap_or held [])) is.1)

pub end_where_absent : (files : Option Files) (name : List ℕ) → IsAbsent files name
    → IsEnd files name 0
end_where_absent None name absent = absurd absent
end_where_absent (Some files) name absent =
    sym (ap (λ (held : Option (List ℕ)). length (unwrap_or held [])) absent)
