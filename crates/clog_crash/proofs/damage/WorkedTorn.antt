-- A segment whose marker's check is wrong is a crash's tail where it is the last one, and damage
-- where another stands behind it.
use Rattle.std.proofs.Common.{
  ◌≡◌,
  ℕ,
  zero,
  suc,
  inl,
  inr,
  List,
  [],
  ◌++◌,
  Some,
  Err,
  refl,
  sym,
  ap,
  subst,
  arith,
  lit<,
}
use Rattle.std.specs.Prelude.{is_some}
use Rattle.std.specs.FinMap as finmap
use Rattle.clog_spec.specs.Crc.{IsBytes, crc32_after, crc32_of, divide, divide_once}
use Rattle.clog_spec.specs.Names.{segment_name_of, IsSegmentName}
use Rattle.clog_spec.specs.Segment.{header_bytes, entry_bytes}
use Rattle.clog_spec.proofs.Bytes.{append-IsBytes}
use Rattle.clog_spec.proofs.StoredBytes.{header-IsBytes, entry-IsBytes}
use Rattle.clog_base.proofs.Members.{nothing_there}
use Rattle.clog_base.proofs.NameLaws.{one_segment as one_name}
use Rattle.clog_disk.specs.Files.{Files, no_files}
use Rattle.clog_entry.specs.declared.cause.Cause.TheVariants.{MarkerCheck, Short}
use Rattle.clog_entry.specs.Reading.{header_read, marker_judged, marker_read}
use Rattle.clog_entry.specs.Spelled.{IsHeaderAt}
use Rattle.clog_mutation.specs.Payload.{payload_of}
use Rattle.clog_scan.specs.declared.answer.End.TheVariants.{Torn}
use Rattle.clog_scan.specs.Laws.{IsFile}
use Rattle.clog_scan.specs.Segment.{IsSegment}
use Rattle.clog_scan.proofs.Theorems.{segment_by_way, segment_without_header}
use Rattle.clog_crash.specs.Damage.{ComesBefore, IsFirstDamage}
use Rattle.clog_crash.specs.Folder.{IsHeld}
use Rattle.clog_crash.specs.Restore.{AreMutations, HoldsSegment, IsLastId, IsUndamaged}
use Rattle.clog_crash.specs.Worked.{the_mutation}
use Rattle.clog_crash.specs.WorkedTorn.{
  the_torn_segment,
  the_wrong_marker,
  torn_alone,
  torn_and_next,
}
use Rattle.clog_disk.proofs.Named.{put_here}
use Rattle.clog_crash.proofs.OneMore.{new_or_old, stays, bytes_of}
use Rattle.clog_crash.proofs.Payloads.{of_payload}
use Rattle.clog_crash.proofs.worked.Files.{stored}
use Rattle.clog_crash.proofs.changes.Names.{is_named}
use Rattle.clog_crash.proofs.damage.OneSegment.{
  this,
  this_named,
  last,
  none_first,
  undamaged_where_good,
}

abbrev next : List ℕ
next = segment_name_of 6 1001

-- ---- the segment

marker_is_bytes : IsBytes the_wrong_marker
marker_is_bytes zero = lit< tt
marker_is_bytes (suc zero) = lit< tt
marker_is_bytes (suc (suc zero)) = lit< tt
marker_is_bytes (suc (suc (suc zero))) = lit< tt
marker_is_bytes (suc (suc (suc (suc zero)))) = lit< tt
marker_is_bytes (suc (suc (suc (suc (suc zero))))) = lit< tt
marker_is_bytes (suc (suc (suc (suc (suc (suc zero)))))) = lit< tt
marker_is_bytes (suc (suc (suc (suc (suc (suc (suc zero))))))) = lit< tt
marker_is_bytes (suc (suc (suc (suc (suc (suc (suc (suc i)))))))) = lit< tt

file : IsFile the_torn_segment
file = record {
  are_bytes = append-IsBytes (header_bytes 1000)
      (the_wrong_marker ++ entry_bytes (payload_of the_mutation)) (header-IsBytes 1000)
      (append-IsBytes the_wrong_marker (entry_bytes (payload_of the_mutation)) marker_is_bytes
      (entry-IsBytes (payload_of the_mutation) (of_payload the_mutation stored)));
  short = omega arith;
}

header : IsHeaderAt the_torn_segment 1000
header = refl

wrong_check : marker_read the_torn_segment 1000 20 ≡ Err MarkerCheck
unfolding marker_read marker_judged crc32_of crc32_after divide divide_once
wrong_check = refl

holds : IsSegment the_torn_segment 1000 [] (Torn 20 MarkerCheck)
holds =
    segment_by_way the_torn_segment 1000 [] 20 20 (Torn 20 MarkerCheck) file header (refl, refl)
    (refl, inl (refl, wrong_check))

no_entries : AreMutations []
no_entries entry h = absurd (nothing_there entry h)

-- ---- alone

stands : (files : Files) → finmap.get files this ≡ Some the_torn_segment
    → HoldsSegment files this 1000 [] (Torn 20 MarkerCheck)
stands files there = record {
  named = this_named;
  bytes = the_torn_segment;
  there = there;
  holds = holds;
}

pub undamaged_alone : IsUndamaged torn_alone
undamaged_alone = undamaged_where_good the_torn_segment (record {
  entries = [];
  end = Torn 20 MarkerCheck;
  holds = stands torn_alone (put_here no_files this the_torn_segment);
  may_end = (tt, last the_torn_segment);
  payloads = no_entries;
})

-- ---- with another behind it

nothing_in_it : IsSegment [] 1001 [] (Torn 0 Short)
unfolding header_read
nothing_in_it = segment_without_header [] 1001 Short (omega arith) refl

next_named : IsSegmentName next 6 1001
next_named = is_named 1001 (omega arith)

apart : this ≡ next → ⊥
apart same =
    let one = one_name this 6 1000 6 1001 (this_named)
    (subst (λ (n : List ℕ). IsSegmentName n 6 1001) (sym same) (next_named)) in
    omega (arith, one.1)

this_there : finmap.get torn_and_next this ≡ Some the_torn_segment
this_there =
    stays torn_alone next [] this the_torn_segment apart
    (put_here no_files this the_torn_segment)

not_last : IsLastId torn_and_next 1000 → ⊥
not_last last =
    omega (
      arith,
      last next 6 1001 (next_named)
          (ap is_some (put_here torn_alone next [])),
    )

none_before : (name : List ℕ) (version id : ℕ) → IsSegmentName name version id
    → IsHeld torn_and_next name → ComesBefore version id 6 1000 → ⊥
none_before name version id is held before =
    let there = bytes_of (finmap.get torn_and_next name) held in
    elim (new_or_old torn_alone next [] name (Some there.0) there.1) [
      | inl new ↦
          let one = one_name next version id 6 1001
          (subst (λ (n : List ℕ). IsSegmentName n version id) new.0 is) next_named in
          elim before [
            | inl less ↦ omega (arith, less, one.1)
            | inr level ↦ omega (arith, level.0, one.1)
          ]
      | inr old ↦ none_first the_torn_segment name version id is (ap is_some old) before
    ]

pub first_with_next : IsFirstDamage torn_and_next this 20 MarkerCheck
first_with_next = record {
  version = 6;
  id = 1000;
  named = this_named;
  held = ap is_some this_there;
  torn = inr (
    refl,
    record {
      entries = [];
      end = Torn 20 MarkerCheck;
      holds = stands torn_and_next this_there;
      tears = inr (no_entries, refl);
    },
  );
  no_tail = λ soft last. not_last last;
  first = λ name version id is held before. absurd (none_before name version id is held before);
}
