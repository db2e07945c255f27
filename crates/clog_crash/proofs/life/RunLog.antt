-- What a run adds to the log.
use Rattle.std.proofs.Common.{◌≡◌, ℕ, ◌+◌, List, [], ◌∷◌, ◌++◌, sym, ◌∙◌, ap, append_assoc}
use Rattle.std.specs.List.{flat_map}
use Rattle.std.proofs.lemmas.List.{append-nil}
use Rattle.clog_spec.specs.Sizes.{header_size, marker_size}
use Rattle.clog_scan.specs.Cut.{Section, last_until}
use Rattle.clog_scan.specs.Segment.{Entry, entries_from, entries_of}
use Rattle.clog_scan.proofs.Appended.{entries_of-append}
use Rattle.clog_crash.specs.Log.{Write}
use Rattle.clog_crash.specs.Runs.{Placed, placed, placed_in, placed_log, placed_of}
use Rattle.clog_crash.specs.Sections.{next_section}
use Rattle.clog_crash.proofs.life.Shown.{written}
use Rattle.clog_crash.proofs.life.Runs.{placed-append, past-append}

-- the next section of a segment is the run behind its end
pub log_more : (past : List Write) (id : ℕ) (sections : List Section)
    (payloads : List (List ℕ))
    → placed_log past id (sections ++ next_section sections payloads ∷ [])
    ≡ placed_log past id sections
    ++ placed_in (record {
      id = id;
      start = last_until header_size sections + marker_size;
      payloads = payloads;
    })
log_more past id sections payloads =
    let before = flat_map placed_of past in
    let section = next_section sections payloads in
    let new = entries_from (last_until header_size sections + marker_size) payloads in
    let all : entries_of header_size (sections ++ section ∷ [])
    ≡ entries_of header_size sections ++ new =
    entries_of-append header_size sections (section ∷ [])
    ∙ ap (λ (l : List Entry). entries_of header_size sections ++ l) (append-nil new) in
    ap (λ (l : List Entry). before ++ placed id l) all
    ∙ ap (λ (l : List Placed). before ++ l) (placed-append id (entries_of header_size sections) new)
    ∙ sym (append_assoc before (placed id (entries_of header_size sections)) (placed id new))

-- the log is the same once it goes on in the next segment
pub log_rolled : (past : List Write) (id next : ℕ) (sections : List Section)
    → placed_log (past ++ written id sections ∷ []) next [] ≡ placed_log past id sections
log_rolled past id next sections =
    append-nil (flat_map placed_of (past ++ written id sections ∷ []))
    ∙ past-append past (written id sections ∷ [])
    ∙ ap (λ (l : List Placed). flat_map placed_of past ++ l)
    (append-nil (placed id (entries_of header_size sections)))
