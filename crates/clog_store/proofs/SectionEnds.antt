-- Sections that have entries, and that these fill, end where the last entry does.
use Rattle.std.proofs.Common.{
  ◌≡◌,
  ℕ,
  ◌+◌,
  ◌<◌,
  List,
  [],
  ◌∷◌,
  ◌++◌,
  length,
  sym,
  ◌∙◌,
  arith,
  length-append,
}
use Rattle.std.specs.Prelude.{Contains}
use Rattle.std.proofs.lemmas.List.Elements.{Contains-append_left, Contains-append_right}
use Rattle.clog_spec.specs.Segment.{entry_bytes}
use Rattle.clog_spec.specs.Sizes.{frame_size, header_size, marker_size}
use Rattle.clog_spec.proofs.Lengths.{length-entry_bytes}
use Rattle.clog_base.proofs.Members.{further, here}
use Rattle.clog_scan.specs.Cut.{Section, entries_bytes, filled_to, last_until}
use Rattle.clog_scan.specs.Laws.{AreWhole}
use Rattle.clog_scan.specs.Segment.{Entry, entries_from, entries_of, entry_from}
use Rattle.clog_crash.specs.Sections.{segment_bytes}
use Rattle.clog_crash.proofs.rest.Sectioned.{ends_at}

-- an entry that ends at an offset
abbrev pub EndsAt : List Entry → ℕ → Type 0
EndsAt entries at = (e : Entry) × Contains entries e × (e.end ≡ at)

-- entries that stand end to end have a last one
last_from : (at : ℕ) (p : List ℕ) (ps : List (List ℕ))
    → EndsAt (entries_from at (p ∷ ps)) (at + length (entries_bytes (p ∷ ps)))
last_from at p [] =
    let long = length-append (entry_bytes p) [] in
    let size = length-entry_bytes p in (
      entry_from at p,
      here (entry_from at p) [],
      omega (arith, long, size),
    )
last_from at p (q ∷ ps) =
    let more = last_from (at + frame_size + length p) q ps in
    let long = length-append (entry_bytes p) (entries_bytes (q ∷ ps)) in
    let size = length-entry_bytes p in
    let end = more.2 in (
      more.0,
      further (entry_from at p) (entries_from (at + frame_size + length p) (q ∷ ps)) more.0 more.1,
      omega (arith, long, size, end),
    )

last_in : (at : ℕ) (ps : List (List ℕ)) → 0 < length ps
    → EndsAt (entries_from at ps) (at + length (entries_bytes ps))
last_in at [] some = absurd (omega (arith, some))
last_in at (p ∷ ps) some = last_from at p ps

-- and so have sections that have entries, and which these fill
last_entry : (len at : ℕ) (s : Section) (ss : List Section) → AreWhole len at (s ∷ ss)
    → ((t : Section) → Contains (s ∷ ss) t → 0 < length t.payloads)
    → EndsAt (entries_of at (s ∷ ss)) (last_until at (s ∷ ss))
last_entry len at s [] whole filled =
    let e = last_in (at + marker_size) s.payloads (filled s (here s [])) in (
      e.0,
      Contains-append_left (entries_from (at + marker_size) s.payloads) [] e.0 e.1,
      e.2 ∙ whole.1,
    )
last_entry len at s (t ∷ ss) whole filled =
    let e = last_entry len s.until t ss whole.2 (λ u h. filled u (further s (t ∷ ss) u h)) in (
      e.0,
      Contains-append_right (entries_from (at + marker_size) s.payloads)
          (entries_of s.until (t ∷ ss)) e.0 e.1,
      e.2,
    )

pub last_of : (id len : ℕ) (ss : List Section) → 0 < length ss → AreWhole len header_size ss
    → ((t : Section) → Contains ss t → 0 < length t.payloads)
    → EndsAt (entries_of header_size ss) (length (segment_bytes id ss))
last_of id len [] some whole filled = absurd (omega (arith, some))
last_of id len (s ∷ ss) some whole filled =
    let e = last_entry len header_size s ss whole filled in
    (e.0, e.1, e.2 ∙ sym (ends_at id len s ss whole))

-- the last of them is filled too
pub last_filled : (len at : ℕ) (ss : List Section) (x : Section) → AreWhole len at (ss ++ x ∷ [])
    → filled_to (last_until at ss) x ≡ x.until
last_filled len at [] x whole = whole.1
last_filled len at (s ∷ ss) x whole = last_filled len s.until ss x whole.2
