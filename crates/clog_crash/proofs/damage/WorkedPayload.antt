-- A payload with a wrong tag is damage, whatever stands behind it. Past it the next entry counts.
use Rattle.std.proofs.Common.{
  ◌≡◌,
  ◌⊎◌,
  ℕ,
  inl,
  inr,
  List,
  [],
  ◌∷◌,
  ◌++◌,
  refl,
  sym,
  ◌∙◌,
  ap,
  subst,
  arith,
  codes,
  lit<,
}
use Rattle.std.specs.Prelude.{Contains, is_some, pos}
use Rattle.clog_spec.specs.Crc.{IsBytes}
use Rattle.clog_spec.specs.Segment.{header_bytes, marker_bytes, entry_bytes}
use Rattle.clog_spec.proofs.Bytes.{append-IsBytes, front-IsBytes, bytes-cons, bytes-nil}
use Rattle.clog_spec.proofs.StoredBytes.{header-IsBytes, marker-IsBytes, entry-IsBytes}
use Rattle.clog_base.specs.declared.cell.Cell.{Cell}
use Rattle.clog_base.specs.declared.cell.CellKey.{CellKey}
use Rattle.clog_base.specs.declared.cell.Table.{Table}
use Rattle.clog_base.specs.declared.fault.PayloadFault.TheVariants.{BadTag}
use Rattle.clog_base.specs.declared.position.Position.{Position}
use Rattle.clog_base.proofs.Members.{first_or_further, here, further, only_one}
use Rattle.clog_cells.proofs.Merging.{of_itself, of_same}
use Rattle.clog_disk.specs.Files.{no_files}
use Rattle.clog_entry.specs.declared.cause.Cause.TheVariants.{Payload}
use Rattle.clog_mutation.specs.declared.mutation.Mutation.{Mutation}
use Rattle.clog_mutation.specs.declared.mutation.Update.{Update}
use Rattle.clog_mutation.specs.Payload.{payload_of, pair_of}
use Rattle.clog_mutation.specs.Refusals.{IsRefused}
use Rattle.clog_mutation.specs.Stored.{IsPayload}
use Rattle.clog_mutation.proofs.Decoding.{never_both, one_mutation}
use Rattle.clog_scan.specs.declared.answer.End.TheVariants.{Clean}
use Rattle.clog_scan.specs.Laws.{IsFile}
use Rattle.clog_scan.specs.Segment.{Entry, entry_from, IsSegment}
use Rattle.clog_scan.proofs.Theorems.{one_segment}
use Rattle.clog_scan.proofs.Written.{written}
use Rattle.clog_crash.specs.Damage.{IsFirstDamage}
use Rattle.clog_crash.specs.Restore.{
  HoldsSegment,
  IsLogged,
  IsLoggedCell,
  IsRestored,
  IsSkipped,
  Restores,
}
use Rattle.clog_crash.specs.Worked.{logged, the_mutation}
use Rattle.clog_crash.specs.WorkedTorn.{bad_alone, the_bad_payload, the_bad_segment}
use Rattle.clog_disk.proofs.Named.{put_here}
use Rattle.clog_crash.proofs.Payloads.{of_payload}
use Rattle.clog_crash.proofs.damage.OneSegment.{
  this,
  this_named,
  this_is,
  only_this,
  no_read,
  none_first,
}
use Rattle.clog_crash.proofs.worked.Cells.{the_update}
use Rattle.clog_crash.proofs.worked.Files.{ab, cd, one_in_order, stored}

-- ---- the payload

tag_is_refused : IsRefused the_bad_payload (BadTag 19)
tag_is_refused = inl (inr (record {
  read = codes "ab";
  rest = 0 ∷ 1 ∷ 0 ∷ 0 ∷ 2 ∷ 99 ∷ 100 ∷ 0 ∷ 0 ∷ 0 ∷ 0 ∷ 0 ∷ 0 ∷ 0 ∷ 5 ∷ 2 ∷ [];
  is_good = record { size = record { some = omega arith; few = omega arith }; utf8 = ab };
  parts = refl;
  refused = inr (record {
    read = 1;
    rest = 0 ∷ 0 ∷ 2 ∷ 99 ∷ 100 ∷ 0 ∷ 0 ∷ 0 ∷ 0 ∷ 0 ∷ 0 ∷ 0 ∷ 5 ∷ 2 ∷ [];
    is_good = (omega arith, refl);
    parts = refl;
    refused = record {
      read = [];
      rest = 0 ∷ 0 ∷ 2 ∷ 99 ∷ 100 ∷ 0 ∷ 0 ∷ 0 ∷ 0 ∷ 0 ∷ 0 ∷ 0 ∷ 5 ∷ 2 ∷ [];
      more = omega arith;
      are_good = tt;
      parts = refl;
      refused = inr (record {
        read = 0;
        rest = 0 ∷ 2 ∷ 99 ∷ 100 ∷ 0 ∷ 0 ∷ 0 ∷ 0 ∷ 0 ∷ 0 ∷ 0 ∷ 5 ∷ 2 ∷ [];
        is_good = (omega arith, refl);
        parts = refl;
        refused = inr (record {
          read = codes "cd";
          rest = 0 ∷ 0 ∷ 0 ∷ 0 ∷ 0 ∷ 0 ∷ 0 ∷ 5 ∷ 2 ∷ [];
          is_good = record { size = record { some = omega arith; few = omega arith }; utf8 = cd };
          parts = refl;
          refused = inr (record {
            read = pos 5;
            rest = 2 ∷ [];
            is_good = record { sfits = omega arith };
            parts = refl;
            refused = inl (inr (record {
              read = 2;
              behind = [];
              is_good = omega arith;
              parts = refl;
              fails = refl;
              fault_is = refl;
            }));
          });
        });
      });
    };
  });
}))

-- all but its last byte is that of the mutation's payload
bad_is_bytes : IsBytes the_bad_payload
bad_is_bytes =
    let front = 0 ∷ 2 ∷ 97 ∷ 98 ∷ 0 ∷ 1 ∷ 0 ∷ 0 ∷ 2 ∷ 99 ∷ 100 ∷ 0 ∷ 0 ∷ 0 ∷ 0 ∷ 0 ∷ 0 ∷ 0 ∷ 5 ∷ []
    in
    append-IsBytes front (2 ∷ [])
    (front-IsBytes front (0 ∷ []) (of_payload the_mutation stored))
    (bytes-cons 2 [] (lit< tt) bytes-nil)

-- ---- the segment

abbrev the_bad_entry : Entry
the_bad_entry = entry_from 28 the_bad_payload

abbrev the_good_entry : Entry
the_good_entry = entry_from 60 (payload_of the_mutation)

file : IsFile the_bad_segment
file = record {
  are_bytes = append-IsBytes (header_bytes 1000 ++ marker_bytes 1000 20 92)
      (entry_bytes the_bad_payload ++ entry_bytes (payload_of the_mutation))
      (append-IsBytes (header_bytes 1000) (marker_bytes 1000 20 92) (header-IsBytes 1000)
      (marker-IsBytes 1000 20 92))
      (append-IsBytes (entry_bytes the_bad_payload) (entry_bytes (payload_of the_mutation))
      (entry-IsBytes the_bad_payload bad_is_bytes)
      (entry-IsBytes (payload_of the_mutation) (of_payload the_mutation stored)));
  short = omega arith;
}

holds : IsSegment the_bad_segment 1000 (the_bad_entry ∷ the_good_entry ∷ []) (Clean 92)
holds =
    written the_bad_segment 1000
    (record { until = 92; payloads = the_bad_payload ∷ payload_of the_mutation ∷ [] } ∷ []) file
    refl (
      record {
        behind = omega arith;
        within = omega arith;
        fits = omega arith;
        least = (omega arith, (omega arith, tt));
      },
      refl,
      tt,
    )

stands : HoldsSegment bad_alone this 1000 (the_bad_entry ∷ the_good_entry ∷ []) (Clean 92)
stands = record {
  named = this_named;
  bytes = the_bad_segment;
  there = put_here no_files this the_bad_segment;
  holds = holds;
}

pub first_is_the_payload : IsFirstDamage bad_alone this 28 (Payload (BadTag 19))
first_is_the_payload = record {
  version = 6;
  id = 1000;
  named = this_named;
  held = ap is_some (put_here no_files this the_bad_segment);
  torn = inr (
    refl,
    record {
      entries = the_bad_entry ∷ the_good_entry ∷ [];
      end = Clean 92;
      holds = stands;
      tears = inl (BadTag 19, inl (refl, tag_is_refused), refl);
    },
  );
  no_tail = λ soft last. soft;
  first = λ name version id is held before.
      absurd (none_first the_bad_segment name version id is held before);
}

-- ---- what it restores to past the damage

not_skipped : (table : Table) (at : Position) → IsSkipped bad_alone table at → ⊥
not_skipped table at s = no_read the_bad_segment s.read s.there

is_logged : IsLoggedCell bad_alone logged
is_logged = record {
  id = 1000;
  entry = the_good_entry;
  logged = record {
    name = this;
    entries = the_bad_entry ∷ the_good_entry ∷ [];
    end = Clean 92;
    segment = stands;
    listed = further the_bad_entry (the_good_entry ∷ []) the_good_entry (here the_good_entry []);
  };
  mutation = the_mutation;
  said = record { stored = stored; spelled = refl };
  update = the_update;
  listed = here the_update [];
  kept = not_skipped the_update.table (record { id = 1000; offset = 92 });
  is = refl;
}

-- an entry that is logged is one of the two
logged_is : (id : ℕ) (entry : Entry) → IsLogged bad_alone id entry
    → (the_bad_entry ≡ entry) ⊎ (the_good_entry ≡ entry)
logged_is id entry l =
    let s = l.segment in
    let same = only_this the_bad_segment l.name s.bytes s.there in
    let ids = (this_is l.name 6 id s.named same.0).1 in
    let holds_it : IsSegment the_bad_segment 1000 l.entries l.end =
    subst (λ (i : ℕ). IsSegment the_bad_segment i l.entries l.end) ids
    (subst (λ (b : List ℕ). IsSegment b id l.entries l.end) (sym same.1) s.holds) in
    let one = one_segment the_bad_segment 1000 l.entries l.end
    (the_bad_entry ∷ the_good_entry ∷ []) (Clean 92) file (omega arith) holds_it holds in
    elim (first_or_further the_bad_entry (the_good_entry ∷ []) entry
    (subst (λ (es : List Entry). Contains es entry) one.entries_are l.listed)) [
      | inl bad ↦ inl bad
      | inr more ↦ inr (only_one the_good_entry entry more)
    ]

logged_cell_is : (pair : CellKey × Cell) → IsLoggedCell bad_alone pair → logged ≡ pair
logged_cell_is pair c = elim (logged_is c.id c.entry c.logged) [
  | inl bad ↦ absurd (never_both the_bad_payload c.mutation (BadTag 19)
      (subst (λ (e : Entry). IsPayload e.payload c.mutation) (sym bad) c.said) tag_is_refused)
  | inr good ↦
      let same : the_mutation ≡ c.mutation =
      one_mutation the_mutation c.mutation stored c.said.stored
      (ap (λ (e : Entry). e.payload) good ∙ c.said.spelled) in
      let update = only_one the_update c.update
      (subst (λ (m : Mutation). Contains m.updates c.update) (sym same) c.listed) in
      sym (c.is ∙ ap (λ (m : Mutation). pair_of m.key c.update) (sym same)
      ∙ ap (λ (u : Update). pair_of (codes "ab") u) (sym update))
]

pub restored_past_it : IsRestored bad_alone (logged ∷ [])
restored_past_it =
    of_same (Contains (logged ∷ [])) (Restores bad_alone) (logged ∷ []) (λ pair. (
      λ h. inr (subst (λ (p : CellKey × Cell). IsLoggedCell bad_alone p) (only_one logged pair h)
          is_logged),
      λ r. elim r [
        | inl cell ↦ absurd (no_read the_bad_segment cell.read cell.there)
        | inr cell ↦ subst (λ (p : CellKey × Cell). Contains (logged ∷ []) p)
            (logged_cell_is pair cell) (here logged [])
      ],
    )) (of_itself (logged ∷ []) (one_in_order logged))
