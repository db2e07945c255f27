-- Notes that may be written are entries at their places, which follow one another.
use Rattle.std.proofs.Common.{
  ◌≡◌,
  ℕ,
  ◌+◌,
  ◌-◌,
  ◌<◌,
  ◌≤◌,
  inl,
  inr,
  List,
  [],
  ◌∷◌,
  ◌++◌,
  length,
  take,
  refl,
  sym,
  ◌∙◌,
  ap,
  arith,
}
use Rattle.std.specs.Prelude.{◌⊎◌}
use Rattle.std.specs.Int.{cast_unsigned, to_be_bytes, w16, w32, w64}
use Rattle.std.specs.List.{AllByRecursion, Contains, flat_map}
use Rattle.std.proofs.lemmas.List.{length-append, take-append-le, take_all}
use Rattle.clog_spec.specs.Crc.{crc32_of}
use Rattle.clog_spec.specs.Segment.{entry_bytes, size_bytes}
use Rattle.clog_spec.proofs.Lengths.{length-entry_bytes}
use Rattle.clog_base.specs.Positions.{ordinal_of, offset_of}
use Rattle.clog_base.proofs.Members.{further, here}
use Rattle.clog_mutation.specs.declared.mutation.Update.{Update}
use Rattle.clog_mutation.specs.Payload.{payload_of, short_text, tagged, update_bytes}
use Rattle.clog_crash.specs.Runs.{BeginsAt, FollowOn, IsWhole, Placed, Run, run_from}
use Rattle.clog_crash.proofs.life.Cutting.{cut}
use Rattle.path_core.specs.declared.note.EntryNote.{EntryNote}
use Rattle.path_core.specs.Keeper.{FollowTo, Follows, Holding, IsWritable, MayWrite}
use Rattle.clog_segments.specs.Notes.{MakeRuns, payload_in, place_of, places_of}

-- ---- one note

-- what is read of an entry is its payload
pub payload_is : (payload : List ℕ) → payload_in (entry_bytes payload) ≡ payload
payload_is payload =
    let check = to_be_bytes w32 (crc32_of (size_bytes payload ++ payload)) in
    let long : length (entry_bytes payload) - 12 ≡ length payload =
    omega (arith, length-entry_bytes payload) in
    ap (λ (k : ℕ). take k (payload ++ check)) long
    ∙ take-append-le (length payload) payload check (omega arith)
    ∙ take_all (length payload) payload (omega arith)

-- ---- a payload is as long as a reader wants

-- a table, the length of a column and a timestamp
update_least : (u : Update) → 9 ≤ length (update_bytes u)
update_least u =
    let stamp = to_be_bytes w64 (cast_unsigned w64 u.cell.ts) in
    let named = (u.table.0 ∷ []) ++ short_text u.column in
    omega (
      arith,
      length-append (named ++ stamp) (tagged u.cell.kind u.cell.value),
      length-append named stamp,
    )

payload_least : (key : List ℕ) (us : List Update) → 1 ≤ length us
    → 10 ≤ length (short_text key ++ to_be_bytes w16 (length us) ++ flat_map update_bytes us)
payload_least key [] some = absurd (omega arith)
payload_least key (u ∷ us) some =
    let count = to_be_bytes w16 (length (u ∷ us)) in
    omega (
      arith,
      length-append (short_text key ++ count) (flat_map update_bytes (u ∷ us)),
      length-append (short_text key) count,
      length-append (update_bytes u) (flat_map update_bytes us),
      update_least u,
    )

-- ---- notes that follow one another

module _ (h : Holding) where
  -- what is said of a note's place
  pub record IsPlaced (n : EntryNote) : Type 0 where
    pub entry : n.bytes ≡ entry_bytes (payload_in n.bytes)
    pub end : (place_of h.base n).1.end ≡ offset_of n.start.0 + length n.bytes
    pub whole : IsWhole (place_of h.base n).1
    pub inside : offset_of n.start.0 + length n.bytes ≤ 33554432

  pub is_placed : (n : EntryNote) → IsWritable h n → IsPlaced n
  is_placed n may =
      let m = may.whole.mutation in
      let p : payload_in n.bytes ≡ payload_of m =
      ap payload_in may.whole.bytes ∙ payload_is (payload_of m) in
      let entry : n.bytes ≡ entry_bytes (payload_in n.bytes) =
      may.whole.bytes ∙ ap entry_bytes (sym p) in
      record {
        entry = entry;
        end = omega (arith, ap length entry, length-entry_bytes (payload_in n.bytes));
        whole = record {
          end = refl;
          long = omega (
            arith,
            ap length p,
            payload_least m.key m.updates may.whole.limits.some,
          );
        };
        inside = omega (arith, may.in_segment.inside, h.sizes.within.greatest_capacity);
      }

  abbrev Placing : EntryNote → Placed
  Placing n = place_of h.base n

  follows : (n m : EntryNote) → IsWritable h n → Follows n.end.0 m.start.0
      → (((Placing m).0 ≡ (Placing n).0) × ((Placing m).1.start ≡ (Placing n).1.end))
      ⊎ (((Placing m).0 ≡ (Placing n).0) × ((Placing m).1.start ≡ (Placing n).1.end + 8))
      ⊎ (((Placing n).0 < (Placing m).0) × ((Placing m).1.start ≡ 28))
  follows n m may on =
      let p = is_placed n may in
      let long = may.in_segment.long in
      let inside = p.inside in
      let end = p.end in
      elim on [
        | inl here ↦ inl (omega (arith, here, long, inside), omega (arith, here, long, inside, end))
        | inr more ↦ elim more [
          | inl behind ↦ inr (inl (
            omega (arith, behind, long, inside),
            omega (arith, behind, long, inside, end),
          ))
          | inr next ↦ inr (inr (
            omega (arith, next, long, inside),
            omega (arith, next, long, inside),
          ))
        ]
      ]

  abbrev AllWritable : List EntryNote → Type 0
  AllWritable ns = (n : EntryNote) → Contains ns n → IsWritable h n

  later : (n : EntryNote) (ns : List EntryNote) → AllWritable (n ∷ ns) → AllWritable ns
  later n ns all m among = all m (further n ns m among)

  follow_on : (upto : ℕ) (n : EntryNote) (ns : List EntryNote) → AllWritable (n ∷ ns)
      → FollowTo upto n.end.0 ns
      → FollowOn (Placing n).0 (Placing n).1.end (places_of h.base ns)
  follow_on upto n [] all follow = tt
  follow_on upto n (m ∷ ms) all follow = (
    follows n m (all n (here n (m ∷ ms))) follow.0,
    follow_on upto m ms (later n (m ∷ ms) all) follow.1,
  )

  all_whole : (ns : List EntryNote) → AllWritable ns
      → AllByRecursion (λ (p : Placed). IsWhole p.1) (places_of h.base ns)
  all_whole [] all = tt
  all_whole (n ∷ ns) all =
      ((is_placed n (all n (here n ns))).whole, all_whole ns (later n ns all))

  -- they are runs behind a log
  pub runs_of : (upto id until : ℕ) (n : EntryNote) (ns : List EntryNote)
      → MayWrite h upto (n ∷ ns) → BeginsAt id until (run_from (Placing n))
      → (runs : List Run) × MakeRuns h.base id until (n ∷ ns) runs
  runs_of upto id until n ns may begins =
      let found = cut id until (Placing n) (places_of h.base ns) begins
      (is_placed n (may.each n (here n ns))).whole (follow_on upto n ns may.each may.tiled.1)
      (all_whole ns (later n ns may.each)) in
      (found.0, record { are = found.1; places = found.2 })

  pub tells_its_place : (n : EntryNote) → IsWritable h n
      → (n.bytes ≡ entry_bytes (payload_in n.bytes))
      × ((Placing n).1.end ≡ offset_of n.end.0) × ((Placing n).0 ≡ h.base + ordinal_of n.end.0)
  tells_its_place n may =
      let p = is_placed n may in
      let long = may.in_segment.long in
      let inside = p.inside in
      let end = p.end in (
        p.entry,
        omega (arith, long, inside, end),
        omega (arith, long, inside),
      )
