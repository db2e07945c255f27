-- What a recovered folder has of intervals ends below each id above all that the folder named.
use Rattle.std.proofs.Common.{◌≡◌, ◌<◌, ℕ, inl, inr, List, refl, ap, subst}
use Rattle.std.specs.Prelude.{is_some}
use Rattle.clog_base.specs.declared.cell.Table.{Table}
use Rattle.clog_base.specs.declared.position.Position.{Position}
use Rattle.clog_disk.specs.Files.{Files, bytes_at}
use Rattle.clog_table.specs.declared.table_file.TableFile.{TableFile}
use Rattle.clog_crash.specs.Readings.{Reading, IsTableIn}
use Rattle.clog_crash.specs.Recovery.{AreFiled, IsRecoveryFile, NamesAny}
use Rattle.clog_crash.proofs.changes.BothWays.{logged}

-- the greatest position of the log is in a segment that the folder names
greatest_is_named : (f : Files) (file : TableFile) → IsRecoveryFile (bytes_at f) file
    → NamesAny f file.upper.id
greatest_is_named f file is =
    let last = is.to_end in
    let segment = (logged f last.id last.entry last.logged).segment in
    let name = (logged f last.id last.entry last.logged).name in
    let ids : last.id ≡ file.upper.id = ap (λ (p : Position). p.id) last.is in
    subst (NamesAny f) ids (inl (name, (6, segment.named, ap is_some segment.there)))

pub recovered_is_below : (f : Files) (q : Reading) (done : List Table) (base : ℕ)
    → AreFiled (bytes_at f) q done → ((n : ℕ) → NamesAny f n → n < base) → (file : TableFile)
    → IsTableIn q file → file.upper.id < base
recovered_is_below f q done base filed above file t = elim (filed.no_other file t) [
  | inl before ↦ above file.upper.id (inr (inr (file, before, refl)))
  | inr new ↦ above file.upper.id (greatest_is_named f file new)
]
