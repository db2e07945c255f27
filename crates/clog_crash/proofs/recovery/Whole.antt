-- An interval from the log's very beginning to its greatest position holds each entry's end.
use Rattle.std.proofs.Common.{
  ◌≡◌,
  ◌<◌,
  ℕ,
  zero,
  suc,
  inl,
  inr,
  List,
  [],
  ◌∷◌,
  refl,
  sym,
  subst,
  arith,
}
use Rattle.std.specs.Prelude.{Contains}
use Rattle.clog_spec.specs.Names.{segment_name_of}
use Rattle.clog_base.specs.declared.position.Position.{Position}
use Rattle.clog_base.specs.Positions.{IsBelow}
use Rattle.clog_base.proofs.Members.{first_or_further, nothing_there}
use Rattle.clog_scan.specs.Laws.{AreLaidOut, IsLaid, place_of}
use Rattle.clog_scan.specs.Segment.{Entry}
use Rattle.clog_scan.proofs.Order.{laid}
use Rattle.clog_table.specs.declared.table_file.TableFile.{TableFile}
use Rattle.clog_crash.specs.Readings.{Reading, IsLoggedIn}
use Rattle.clog_crash.specs.Recovery.{HoldsAll, IsBehindAll, IsRecoveryFile}
use Rattle.clog_crash.specs.Restore.{end_position}

held_of : (bytes : List ℕ) (id from : ℕ) (entries : List Entry) (place : ℕ) (entry : Entry)
    → AreLaidOut bytes id from entries place → Contains entries entry → IsLaid bytes id entry
held_of bytes id from [] place entry laid h = absurd (nothing_there entry h)
held_of bytes id from (e ∷ es) place entry laid h = elim (first_or_further e es entry h) [
  | inl same ↦ subst (IsLaid bytes id) same laid.1
  | inr later ↦ held_of bytes id e.end es place entry laid.2 later
]

-- an entry that is logged does not end at the very beginning
pub ends_behind : (r : Reading) (id : ℕ) (entry : Entry) → IsLoggedIn r id entry → 0 < entry.end
ends_behind r id entry l =
    let bytes = r (segment_name_of 6 id) in
    let held = held_of bytes id 0 l.entries (place_of l.end) entry
    (laid bytes id l.entries l.end l.holds) l.listed in
    omega (arith, held.range)

is_above : (id offset : ℕ) → 0 < offset
    → IsBelow (record { id = 0; offset = 0 }) (record { id = id; offset = offset })
is_above zero offset some = inr (refl, some)
is_above (suc id) offset some = inl (omega arith)

pub holds_all : (r : Reading) (file : TableFile) → file.lower ≡ record { id = 0; offset = 0 }
    → IsBehindAll r file.upper → HoldsAll r file
holds_all r file start behind id entry l = record {
  above = subst (λ (p : Position). IsBelow p (end_position id entry)) (sym start)
      (is_above id entry.end (ends_behind r id entry l));
  up_to = behind id entry l;
}

pub recovery_file_holds_all : (r : Reading) (file : TableFile) → IsRecoveryFile r file
    → HoldsAll r file
recovery_file_holds_all r file is = holds_all r file is.from_start is.to_end.behind
