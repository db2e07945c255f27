-- Reading goes on from where it has come.
use Rattle.std.proofs.Common.{◌≡◌, ℕ, ◌+◌, ◌^◌, ◌<◌, List, [], ◌∷◌, ◌++◌, length, Option, Some}
use Rattle.std.proofs.Common.{None, refl, sym, ◌∙◌, ap, subst, arith}
use Rattle.std.specs.List.{AllByRecursion}
use Rattle.clog_spec.specs.Sizes.{header_size, marker_size, frame_size}
use Rattle.clog_entry.specs.Spelled.{IsHeaderAt, IsMarkerAt, IsEntryAt}
use Rattle.clog_entry.proofs.HeaderLaws.{header_again}
use Rattle.clog_scan.specs.declared.answer.End.{End}
use Rattle.clog_scan.specs.Cut.{Section, IsFront, front_bytes, last_until}
use Rattle.clog_scan.specs.Laws.{IsFile}
use Rattle.clog_scan.specs.Pieces.{IsStuck}
use Rattle.clog_scan.specs.Segment.{Entry, entry_from, front_entries, EndsBy, IsSegment, StopsAt}
use Rattle.clog_scan.specs.Walks.{AreUpTo, HasCome}
use Rattle.clog_scan.proofs.Behind.{held_from-append}
use Rattle.clog_scan.proofs.Sections.{items_of, held_from-items_of}
use Rattle.clog_scan.proofs.Theorems.{come_by_way, front_header, front_way, header_long}
use Rattle.clog_scan.proofs.Theorems.{segment_by_way}
use Rattle.clog_scan.proofs.Trace.{Item, Marked, Held, Trace, held_from, held_from-held}
use Rattle.clog_scan.proofs.Trace.{held_from-marked, held_last, marked_last, one_way}

-- the way to there
record Way (file : List ℕ) (id at until : ℕ) (given : List Entry) : Type 0 where
  items : List Item
  way : Trace file id header_size header_size items at until
  given_are : given ≡ held_from header_size items

way_of : (file : List ℕ) (id at until : ℕ) (given : List Entry) → HasCome file id at until given
    → Way file id at until given
way_of file id at until given come =
    let ss = come.sections in
    let Goes : ℕ → ℕ → Type 0 =
    λ a u. Trace file id header_size header_size (items_of ss) a u in
    record {
      items = items_of ss;
      way = subst (λ a. Goes a until) (sym come.place)
          (subst (Goes (length (front_bytes id (Some ss)))) (sym come.end)
          (front_way file id ss come.front));
      given_are = come.given_are
          ∙ sym (held_from-items_of (length file) header_size ss come.front.sections);
    }

pub come_start : (file : List ℕ) (id : ℕ) → IsHeaderAt file id
    → HasCome file id header_size header_size []
come_start file id header =
    come_by_way file id [] header_size header_size header (refl, refl) (omega arith)
    (header_long file id header)

pub come_section : (file : List ℕ) (id at until next : ℕ) (given : List Entry)
    → HasCome file id at until given → at ≡ until → IsMarkerAt file id at next
    → HasCome file id (at + marker_size) next given
come_section file id at until next given come full marked =
    let w = way_of file id at until given come in
    subst (HasCome file id (at + marker_size) next)
    (held_from-marked file id header_size header_size w.items at until next w.way
    ∙ sym w.given_are)
    (come_by_way file id (w.items ++ Marked next ∷ []) (at + marker_size) next come.header
    (marked_last file id header_size header_size w.items at until next w.way full marked)
    marked.behind marked.within)

pub come_entry : (file : List ℕ) (id at until end : ℕ) (payload : List ℕ) (given : List Entry)
    → HasCome file id at until given → at < until → IsEntryAt file at until payload
    → end ≡ at + frame_size + length payload
    → HasCome file id end until (given ++ entry_from at payload ∷ [])
come_entry file id at until end payload given come room held end_is =
    let w = way_of file id at until given come in
    let next = at + frame_size + length payload in
    subst (λ k. HasCome file id k until (given ++ entry_from at payload ∷ [])) (sym end_is)
    (subst (HasCome file id next until)
    (held_from-held file id header_size header_size w.items at until payload w.way
    ∙ ap (λ es. es ++ entry_from at payload ∷ []) (sym w.given_are))
    (come_by_way file id (w.items ++ Held payload ∷ []) next until come.header
    (held_last file id header_size header_size w.items at until payload w.way room held)
    held.fits come.within))

pub come_stops : (file : List ℕ) (id at until : ℕ) (given : List Entry) (end : End) → IsFile file
    → HasCome file id at until given → StopsAt file id at until end
    → IsSegment file id given end
come_stops file id at until given end is_file come stops =
    let w = way_of file id at until given come in
    subst (λ es. IsSegment file id es end) (sym w.given_are)
    (segment_by_way file id w.items at until end is_file come.header w.way stops)

all_behind : (file : List ℕ) (id at until : ℕ) (items : List Item) (place end fed : ℕ)
    → Trace file id at until items place end → fed < at
    → AllByRecursion (λ (e : Entry). fed < e.end) (held_from at items)
all_behind file id at until [] place end fed way behind = tt
all_behind file id at until (Marked n ∷ items) place end fed way behind =
    all_behind file id (at + marker_size) n items place end fed way.2 (omega (arith, behind))
all_behind file id at until (Held p ∷ items) place end fed way behind = (
  omega (arith, behind),
  all_behind file id (at + frame_size + length p) until items place end fed way.2
      (omega (arith, behind)),
)

stuck_all : (file : List ℕ) (id at until : ℕ) (items : List Item) (place end fed : ℕ)
    → Trace file id at until items place end → IsStuck file at until fed
    → AllByRecursion (λ (e : Entry). fed < e.end) (held_from at items)
stuck_all file id at until [] place end fed way stuck = tt
stuck_all file id at until (Marked n ∷ items) place end fed way stuck =
    all_behind file id (at + marker_size) n items place end fed way.2 (stuck.marker way.0)
stuck_all file id at until (Held p ∷ items) place end fed way stuck = (
  stuck.entry p way.0 way.1,
  all_behind file id (at + frame_size + length p) until items place end fed way.2
      (stuck.entry p way.0 way.1),
)

up_to_front : (file : List ℕ) (id at until fed : ℕ) (given entries : List Entry) (end : End)
    (front : Option (List Section)) → IsFile file → id < 2 ^ 64
    → HasCome file id at until given → IsStuck file at until fed → IsFront file id front
    → entries ≡ front_entries front → EndsBy file id front end → AreUpTo entries given fed
up_to_front file id at until fed given entries end None is_file fits come stuck front are ends =
    let there = header_again file id fits come.header in let torn = ends.1 in absurd cc
up_to_front file id at until fed given entries end (Some ss) is_file fits come stuck front are
    ends =
    let w = way_of file id at until given come in
    let at' = length (front_bytes id (Some ss)) in
    let until' = last_until header_size ss in
    let on = one_way file id header_size header_size (items_of ss) at' until' end w.items at until
    is_file (header_long file id come.header) (front_way file id ss front) ends w.way in
    record {
      more = held_from at on.more;
      are = are ∙ sym (held_from-items_of (length file) header_size ss front.sections)
          ∙ ap (held_from header_size) on.whole
          ∙ held_from-append file id header_size header_size w.items on.more at until w.way
          ∙ ap (λ es. es ++ held_from at on.more) (sym w.given_are);
      behind = stuck_all file id at until on.more at' until' fed on.way stuck;
    }

pub up_to : (file : List ℕ) (id at until fed : ℕ) (given entries : List Entry) (end : End)
    → IsFile file → id < 2 ^ 64 → HasCome file id at until given → IsStuck file at until fed
    → IsSegment file id entries end → AreUpTo entries given fed
up_to file id at until fed given entries end is_file fits come stuck is =
    up_to_front file id at until fed given entries end is.front is_file fits come stuck
    is.is_front is.entries_are is.ends

none_front : (file : List ℕ) (id fed : ℕ) (entries : List Entry) (front : Option (List Section))
    → (IsHeaderAt file id → fed < header_size) → IsFront file id front
    → entries ≡ front_entries front → AreUpTo entries [] fed
none_front file id fed entries None few front are =
    record { more = []; are = are; behind = tt }
none_front file id fed entries (Some ss) few front are =
    let at = length (front_bytes id (Some ss)) in
    let until = last_until header_size ss in
    record {
      more = held_from header_size (items_of ss);
      are = are ∙ sym (held_from-items_of (length file) header_size ss front.sections);
      behind = all_behind file id header_size header_size (items_of ss) at until fed
          (front_way file id ss front) (few (front_header file id ss front));
    }

-- before the header is there nothing is given
pub none_yet : (file : List ℕ) (id fed : ℕ) (entries : List Entry) (end : End)
    → (IsHeaderAt file id → fed < header_size) → IsSegment file id entries end
    → AreUpTo entries [] fed
none_yet file id fed entries end few is =
    none_front file id fed entries is.front few is.is_front is.entries_are
