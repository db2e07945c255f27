-- The log that the appends of the worked row bring.
use Rattle.std.proofs.Common.{
  ◌≡◌,
  ◌+◌,
  ℕ,
  inl,
  inr,
  List,
  [],
  ◌∷◌,
  ◌++◌,
  length,
  refl,
  sym,
  ◌∙◌,
  ap,
  subst,
  arith,
}
use Rattle.std.specs.Prelude.{Contains}
use Rattle.std.specs.List.Sorted.{IsStrictlySortedBy}
use Rattle.std.specs.Ordering.{nat_cmp}
use Rattle.std.proofs.lemmas.List.{append-nil}
use Rattle.clog_spec.specs.Crc.{IsBytes}
use Rattle.clog_spec.specs.Names.{segment_name_of}
use Rattle.clog_spec.specs.Segment.{header_bytes, marker_bytes, section_bytes}
use Rattle.clog_spec.proofs.Bytes.{append-IsBytes}
use Rattle.clog_spec.proofs.StoredBytes.{header-IsBytes, marker-IsBytes, entry-IsBytes}
use Rattle.clog_base.proofs.Members.{here, further, first_or_further, only_one}
use Rattle.clog_mutation.specs.Payload.{payload_of}
use Rattle.clog_scan.specs.declared.answer.End.TheVariants.{Clean}
use Rattle.clog_scan.specs.Cut.{Section}
use Rattle.clog_scan.specs.Segment.{Entry, IsSegment}
use Rattle.clog_scan.proofs.Written.{written}
use Rattle.clog_crash.specs.Grown.{
  Append,
  GrownSegment,
  HasGrown,
  HoldsGrown,
  IsKept,
  grown,
}
use Rattle.clog_crash.specs.Worked.{the_mutation}
use Rattle.clog_crash.specs.WorkedGrown.{entry_at, one_entry, the_appends}
use Rattle.clog_crash.proofs.Payloads.{of_payload}
use Rattle.clog_crash.proofs.worked.Files.{stored}
use Rattle.clog_crash.proofs.changes.Names.{one_id}
use Rattle.clog_crash.proofs.counts.Growing.{grown_here, grown_elsewhere}

abbrev s0 : List ℕ
s0 = segment_name_of 6 1000

abbrev s1 : List ℕ
s1 = segment_name_of 6 1001

abbrev first_bytes : ℕ → List ℕ
first_bytes id = header_bytes id ++ section_bytes id 20 one_entry

abbrev second_bytes : List ℕ
second_bytes = section_bytes 1000 60 one_entry

abbrev last_appends : List Append
last_appends = (s1, first_bytes 1001) ∷ []

apart : s1 ≡ s0 → ⊥
apart same = omega (arith, one_id 1000 1001 (omega arith) (omega arith) same)

first_grown : grown the_appends s0 ≡ first_bytes 1000 ++ second_bytes
first_grown =
    grown_here s0 (first_bytes 1000) ((s0, second_bytes) ∷ last_appends)
    ∙ ap (λ (l : List ℕ). first_bytes 1000 ++ l) (grown_here s0 second_bytes last_appends
    ∙ ap (λ (l : List ℕ). second_bytes ++ l) (grown_elsewhere s1 s0 (first_bytes 1001) [] apart)
    ∙ append-nil second_bytes)

next_grown : grown the_appends s1 ≡ first_bytes 1001
next_grown =
    grown_elsewhere s0 s1 (first_bytes 1000) ((s0, second_bytes) ∷ last_appends)
    (λ same. apart (sym same))
    ∙ grown_elsewhere s0 s1 second_bytes last_appends (λ same. apart (sym same))
    ∙ grown_here s1 (first_bytes 1001) [] ∙ append-nil (first_bytes 1001)

entry_is_bytes : IsBytes one_entry
entry_is_bytes = entry-IsBytes (payload_of the_mutation) (of_payload the_mutation stored)

section_is_bytes : (id at : ℕ) → IsBytes (section_bytes id at one_entry)
section_is_bytes id at =
    append-IsBytes (marker_bytes id at (at + 8 + length one_entry)) one_entry
    (marker-IsBytes id at (at + 8 + length one_entry)) entry_is_bytes

first_is_bytes : (id : ℕ) → IsBytes (first_bytes id)
first_is_bytes id =
    append-IsBytes (header_bytes id) (section_bytes id 20 one_entry) (header-IsBytes id)
    (section_is_bytes id 20)

abbrev the_section : ℕ → Section
the_section until = record { until = until; payloads = payload_of the_mutation ∷ [] }

first_holds : IsSegment (first_bytes 1000 ++ second_bytes) 1000 (entry_at 28 ∷ entry_at 68 ∷ [])
    (Clean 100)
first_holds =
    written (first_bytes 1000 ++ second_bytes) 1000 (the_section 60 ∷ the_section 100 ∷ [])
    (record {
      are_bytes = append-IsBytes (first_bytes 1000) second_bytes (first_is_bytes 1000)
          (section_is_bytes 1000 60);
      short = omega arith;
    }) refl (
      record {
        behind = omega arith;
        within = omega arith;
        fits = omega arith;
        least = (omega arith, tt);
      },
      refl,
      (
        record {
          behind = omega arith;
          within = omega arith;
          fits = omega arith;
          least = (omega arith, tt);
        },
        refl,
        tt,
      ),
    )

next_holds : IsSegment (first_bytes 1001) 1001 (entry_at 28 ∷ []) (Clean 60)
next_holds =
    written (first_bytes 1001) 1001 (the_section 60 ∷ [])
    (record { are_bytes = first_is_bytes 1001; short = omega arith }) refl (
      record {
        behind = omega arith;
        within = omega arith;
        fits = omega arith;
        least = (omega arith, tt);
      },
      refl,
      tt,
    )

abbrev the_segments : List GrownSegment
the_segments = (1000, entry_at 28 ∷ entry_at 68 ∷ []) ∷ (1001, entry_at 28 ∷ []) ∷ []

in_order : IsStrictlySortedBy nat_cmp (1000 ∷ 1001 ∷ [])
unfolding IsStrictlySortedBy
in_order = ((refl, tt), (tt, tt))

has_first : HasGrown the_appends 1000
has_first = record {
  fits = omega arith;
  bytes = first_bytes 1000;
  listed = here (s0, first_bytes 1000) ((s0, second_bytes) ∷ last_appends);
}

has_next : HasGrown the_appends 1001
has_next = record {
  fits = omega arith;
  bytes = first_bytes 1001;
  listed = further (s0, first_bytes 1000) ((s0, second_bytes) ∷ last_appends)
      (s1, first_bytes 1001) (further (s0, second_bytes) last_appends (s1, first_bytes 1001)
      (here (s1, first_bytes 1001) []));
}

abbrev Ends : ℕ → List Entry → List ℕ → Type 0
Ends id entries bytes = IsSegment bytes id entries (Clean (length bytes))

abbrev Kept : GrownSegment → Type 0
Kept s = HasGrown the_appends s.0 × HoldsGrown the_appends s.0 s.1

each : (s : GrownSegment) → Contains the_segments s → Kept s
each s h =
    elim (first_or_further (1000, entry_at 28 ∷ entry_at 68 ∷ [])
    ((1001, entry_at 28 ∷ []) ∷ []) s h) [
      | inl same ↦ subst Kept same (
        has_first,
        subst (Ends 1000 (entry_at 28 ∷ entry_at 68 ∷ [])) (sym first_grown) first_holds,
      )
      | inr more ↦ subst Kept (only_one (1001, entry_at 28 ∷ []) s more) (
        has_next,
        subst (Ends 1001 (entry_at 28 ∷ [])) (sym next_grown) next_holds,
      )
    ]

abbrev IsListed : ℕ → Type 0
IsListed id = (entries : List Entry) × Contains the_segments (id, entries)

first_listed : IsListed 1000
first_listed = (
  entry_at 28 ∷ entry_at 68 ∷ [],
  here (1000, entry_at 28 ∷ entry_at 68 ∷ []) ((1001, entry_at 28 ∷ []) ∷ []),
)

next_listed : IsListed 1001
next_listed = (
  entry_at 28 ∷ [],
  further (1000, entry_at 28 ∷ entry_at 68 ∷ []) ((1001, entry_at 28 ∷ []) ∷ [])
      (1001, entry_at 28 ∷ []) (here (1001, entry_at 28 ∷ []) []),
)

every : (id : ℕ) → HasGrown the_appends id → IsListed id
every id g =
    let name = segment_name_of 6 id in
    let is_first : s0 ≡ name → IsListed id = λ same.
    subst IsListed (one_id id 1000 g.fits (omega arith) same) first_listed in
    elim (first_or_further (s0, first_bytes 1000) ((s0, second_bytes) ∷ last_appends)
    (name, g.bytes) g.listed) [
      | inl same ↦ is_first (ap (λ (a : Append). a.0) same)
      | inr more ↦ elim (first_or_further (s0, second_bytes) last_appends (name, g.bytes) more) [
        | inl same ↦ is_first (ap (λ (a : Append). a.0) same)
        | inr last ↦
            let same = only_one (s1, first_bytes 1001) (name, g.bytes) last in
            subst IsListed (one_id id 1001 g.fits (omega arith)
            (ap (λ (a : Append). a.0) same)) next_listed
      ]
    ]

pub kept : IsKept the_appends the_segments
kept = record { ordered = in_order; each = each; every = every }
