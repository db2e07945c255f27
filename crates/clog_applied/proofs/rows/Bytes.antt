-- What the segments of the worked rows hold.
use Rattle.std.proofs.Common.{
  ◌≡◌,
  ℕ,
  ◌+◌,
  List,
  [],
  ◌∷◌,
  ◌++◌,
  length,
  Some,
  refl,
  sym,
  ◌∙◌,
  ap,
  arith,
}
use Rattle.std.proofs.lemmas.List.{append-nil, drop_all}
use Rattle.std.specs.Prelude.{drop}
use Rattle.clog_spec.specs.Crc.{IsBytes}
use Rattle.clog_spec.specs.Segment.{header_bytes, marker_bytes, section_bytes}
use Rattle.clog_spec.proofs.Bytes.{append-IsBytes}
use Rattle.clog_spec.proofs.StoredBytes.{header-IsBytes, marker-IsBytes, entry-IsBytes}
use Rattle.clog_mutation.specs.Payload.{payload_of}
use Rattle.clog_scan.specs.declared.answer.End.TheVariants.{Clean}
use Rattle.clog_scan.specs.Cut.{IsFront, Section}
use Rattle.clog_scan.specs.Laws.{IsFile}
use Rattle.clog_scan.specs.Segment.{IsSegment}
use Rattle.clog_scan.proofs.Written.{written}
use Rattle.clog_crash.specs.Worked.{the_mutation}
use Rattle.clog_crash.specs.WorkedGrown.{entry_at, one_entry}
use Rattle.clog_crash.proofs.Payloads.{of_payload}
use Rattle.clog_crash.proofs.worked.Files.{stored}
use Rattle.clog_applied.specs.Worked.{both_bytes, first_bytes, second_bytes}

pub entry_is_bytes : IsBytes one_entry
entry_is_bytes = entry-IsBytes (payload_of the_mutation) (of_payload the_mutation stored)

section_is_bytes : (at : ℕ) (entries : List ℕ) → IsBytes entries
    → IsBytes (section_bytes 1000 at entries)
section_is_bytes at entries are =
    append-IsBytes (marker_bytes 1000 at (at + 8 + length entries)) entries
    (marker-IsBytes 1000 at (at + 8 + length entries)) are

first_is_bytes : (entries : List ℕ) → IsBytes entries
    → IsBytes (header_bytes 1000 ++ section_bytes 1000 20 entries)
first_is_bytes entries are =
    append-IsBytes (header_bytes 1000) (section_bytes 1000 20 entries) (header-IsBytes 1000)
    (section_is_bytes 20 entries are)

abbrev section_to : ℕ → List (List ℕ) → Section
section_to until payloads = record { until = until; payloads = payloads }

abbrev p : List ℕ
p = payload_of the_mutation

-- ---- both entries in one section

pub both_file : IsFile both_bytes
both_file = record {
  are_bytes = first_is_bytes (one_entry ++ one_entry)
      (append-IsBytes one_entry one_entry entry_is_bytes entry_is_bytes);
  short = omega arith;
}

pub both_held : IsSegment both_bytes 1000 (entry_at 28 ∷ entry_at 60 ∷ [])
    (Clean (length both_bytes))
both_held =
    written both_bytes 1000 (section_to 92 (p ∷ p ∷ []) ∷ []) both_file refl (
      record {
        behind = omega arith;
        within = omega arith;
        fits = omega arith;
        least = (omega arith, (omega arith, tt));
      },
      refl,
      tt,
    )

-- ---- each entry in a section

abbrev pub each_bytes : List ℕ
each_bytes = first_bytes ++ second_bytes

abbrev pub each_sections : List Section
each_sections = section_to 60 (p ∷ []) ∷ section_to 100 (p ∷ []) ∷ []

pub each_file : IsFile each_bytes
each_file = record {
  are_bytes = append-IsBytes first_bytes second_bytes (first_is_bytes one_entry entry_is_bytes)
      (section_is_bytes 60 one_entry entry_is_bytes);
  short = omega arith;
}

pub each_held : IsSegment each_bytes 1000 (entry_at 28 ∷ entry_at 68 ∷ [])
    (Clean (length each_bytes))
each_held =
    written each_bytes 1000 each_sections each_file refl (
      record {
        behind = omega arith;
        within = omega arith;
        fits = omega arith;
        least = (omega arith, tt);
      },
      refl,
      (
        record {
          behind = omega arith;
          within = omega arith;
          fits = omega arith;
          least = (omega arith, tt);
        },
        refl,
        tt,
      ),
    )

pub each_front : IsFront each_bytes 1000 (Some each_sections)
each_front =
    let none : drop (length each_bytes) each_bytes ≡ [] =
    drop_all (length each_bytes) each_bytes (omega arith) in
    record {
      cut = sym (append-nil each_bytes) ∙ ap (λ (l : List ℕ). each_bytes ++ l) (sym none);
      sections = (
        record {
          behind = omega arith;
          within = omega arith;
          fits = omega arith;
          least = (omega arith, tt);
        },
        refl,
        record {
          behind = omega arith;
          within = omega arith;
          fits = omega arith;
          least = (omega arith, tt);
        },
      );
    }
