-- Once all seats are idle each write stands in exactly one memtable of each of its tables.
use Rattle.std.proofs.Common.{◌≡◌, ℕ, ◌<◌, None, length, IsTrue, sym, ap, ◌∙◌, arith}
use Rattle.std.specs.List.{Contains}
use Rattle.std.proofs.lemmas.List.{get_or_past}
use mathlib.Core.Logic.{dite}
use native.Mathlib.Decide.{dec_lt}
use Rattle.path_core.specs.declared.note.EntryNote.{EntryNote}
use Rattle.path_core.specs.declared.seat.Seat.{Seat}
use Rattle.path_core.specs.declared.state.PathState.{PathState}
use Rattle.path_core.specs.Lawful.{IsLawfulPath}
use Rattle.path_core.specs.LawfulPlaces.{IsClosed}
use Rattle.path_core.specs.Parts.{fresh_seat, seat_of, touches}
use Rattle.path_core.specs.Promises.{IsPlacedRight}
use Rattle.path_core.proofs.places.HoldsInterval.{placed_right}
use Rattle.path_core.proofs.runs.EveryRun.{core_of}

module _ (x : PathState) (L : IsLawfulPath x)
    (idle : (w : ℕ) → w < length x.seats → (seat_of x w).claim ≡ None) where
  -- nor has a seat claimed anything that there is not
  none_claims : (w : ℕ) → (seat_of x w).claim ≡ None
  none_claims w = dite (dec_lt w (length x.seats)) (idle w)
      (λ beyond. ap (λ (s : Seat). s.claim)
      (get_or_past x.seats w fresh_seat (omega (arith, beyond))))

  all_closed : (n : EntryNote) → IsClosed x n
  all_closed n w r claims ends = absurd (let none = sym (none_claims w) ∙ claims in cc)

  pub placed_once : (n : EntryNote) → Contains x.notes n → (t : ℕ) → IsTrue (touches n.tables t)
      → IsPlacedRight x t n.end.0
  placed_once n there t touched =
      placed_right x (core_of x L) L.places n t there (all_closed n) touched
