-- Reading updates one after the other, as a loop does.
use Rattle.std.proofs.Common.{◌≡◌, ℕ, suc, ◌-◌, ◌+◌, ◌≤◌, ◌<◌, List, [], ◌∷◌, ◌++◌, Result, Ok, Err}
use Rattle.std.proofs.Common.{refl, sym, ap, ◌∙◌, append_assoc, arith}
use Rattle.std.proofs.lemmas.List.{append-nil}
use Rattle.clog_base.specs.declared.fault.PayloadFault.{PayloadFault}
use Rattle.clog_base.specs.declared.fault.PayloadFault.TheVariants.{Short, BadTag, Count, NotUtf8}
use Rattle.clog_base.specs.declared.fault.PayloadFault.TheVariants.{Trailing, NameLength, BadTable}
use Rattle.clog_base.specs.declared.fault.PayloadFault.TheVariants.{OutOfMemory}
use Rattle.clog_fields.specs.Reading.{seen, paired}
use Rattle.clog_mutation.specs.declared.mutation.Update.{Update}
use Rattle.clog_mutation.specs.Reading.{Fails, in_front, update_at, updates_at}

abbrev Read : Type 0
Read = Result (List Update × List ℕ) PayloadFault

-- what was read before, and what is still read
abbrev pub with_front : List Update → Read → Read
with_front front read = seen (λ others. front ++ others) read

regroup : (front : List Update) (u : Update) (read : Read)
    → with_front front (seen in_front (paired u read)) ≡ with_front (front ++ u ∷ []) read
regroup front u (Ok x) =
    ap (λ (us : List Update). Ok (us, x.1)) (sym (append_assoc front (u ∷ []) x.0))
regroup front u (Err f) = refl

pub goes_on : (end : ℕ) (front : List Update) (count i : ℕ) (bytes : List ℕ) (u : Update)
    (after : List ℕ) (total : Read) → i < count → update_at end bytes ≡ Ok (u, after)
    → with_front front (updates_at end (count - i) bytes) ≡ total
    → with_front (front ++ u ∷ []) (updates_at end (count - (i + 1)) after) ≡ total
unfolding updates_at
goes_on end front count i bytes u after total lt h so_far =
    let k : count - i ≡ suc (count - (i + 1)) = omega arith in
    let one : with_front front (updates_at end (count - i) bytes) ≡ with_front (front ++ u ∷ [])
    (updates_at end (count - (i + 1)) after) =
    rw (k, h) (regroup front u (updates_at end (count - (i + 1)) after)) in
    sym one ∙ so_far

stops : (end : ℕ) (front : List Update) (count i : ℕ) (bytes : List ℕ) (total : Read)
    (f : PayloadFault) → i < count → update_at end bytes ≡ Err f
    → with_front front (updates_at end (count - i) bytes) ≡ total → total ≡ Err f
unfolding updates_at
stops end front count i bytes total f lt h so_far =
    let k : count - i ≡ suc (count - (i + 1)) = omega arith in
    let one : with_front front (updates_at end (count - i) bytes) ≡ Err f = rw (k, h) refl in
    sym so_far ∙ one

pub ends : (e : PayloadFault) (end : ℕ) (front : List Update) (count i : ℕ) (bytes : List ℕ)
    (total : Read) → i < count → Fails e (update_at end bytes)
    → with_front front (updates_at end (count - i) bytes) ≡ total → Fails e total
ends OutOfMemory end front count i bytes total lt h so_far = tt
ends (Short at) end front count i bytes total lt h so_far =
    stops end front count i bytes total (Short at) lt h so_far
ends (BadTag at) end front count i bytes total lt h so_far =
    stops end front count i bytes total (BadTag at) lt h so_far
ends Count end front count i bytes total lt h so_far =
    stops end front count i bytes total Count lt h so_far
ends (NotUtf8 at) end front count i bytes total lt h so_far =
    stops end front count i bytes total (NotUtf8 at) lt h so_far
ends (Trailing at) end front count i bytes total lt h so_far =
    stops end front count i bytes total (Trailing at) lt h so_far
ends (NameLength at) end front count i bytes total lt h so_far =
    stops end front count i bytes total (NameLength at) lt h so_far
ends (BadTable at) end front count i bytes total lt h so_far =
    stops end front count i bytes total (BadTable at) lt h so_far

pub is_done : (end : ℕ) (front : List Update) (count i : ℕ) (bytes : List ℕ) (total : Read)
    → count ≤ i → with_front front (updates_at end (count - i) bytes) ≡ total
    → total ≡ Ok (front, bytes)
unfolding updates_at
is_done end front count i bytes total le so_far =
    let k : count - i ≡ 0 = omega arith in
    let one : with_front front (updates_at end (count - i) bytes) ≡ Ok (front, bytes) =
    rw k (ap (λ (us : List Update). Ok (us, bytes)) (append-nil front)) in
    sym so_far ∙ one
