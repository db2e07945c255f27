-- A segment is read piece by piece.
use Rattle.std.proofs.Common.{◌≡◌, ℕ, ◌<◌, ◌≤◌, List, [], ◌∷◌, ◌++◌, length, take, drop, map}
use Rattle.std.proofs.Common.{Option, Some, None, Err, IfSome, IsSome, refl, sym, ap}
use Rattle.std.proofs.Common.{subst, ◌∙◌, inl, inr, arith, append_assoc, length-append}
use Rattle.std.proofs.lemmas.List.{append-nil, length-take, map-append, nil_from_length}
use Rattle.std.proofs.lemmas.List.{take-append-drop}
use Rattle.std.proofs.lemmas.List.Elements.{Contains-append_cases}
use Rattle.std.proofs.Math.Seq.{drop-append_seam}
use Rattle.clog_spec.specs.Crc.{IsBytes}
use Rattle.clog_spec.specs.Sizes.{file_limit}
use Rattle.clog_spec.proofs.Bytes.{append-IsBytes, bytes-nil}
use Rattle.clog_base.proofs.Members.{from_map, nothing_there}
use Rattle.clog_disk.specs.Files.{Files, IsLength, Reads}
use Rattle.clog_io.specs.Causes.{Rose}
use Rattle.clog_disk.specs.Causes.{Finds, HasDiskCause}
use Rattle.clog_disk.specs.declared.disk.DiskFault.{DiskFault}
use Rattle.clog_disk.specs.declared.disk.DiskFault.TheVariants as disk_faults
use Rattle.clog_crash.proofs.OneMore.{some_is}
use Rattle.clog_scan.specs.declared.answer.End.{End}
use Rattle.clog_scan.specs.declared.scanner.Scanner.{Scanner}
use Rattle.clog_scan.specs.declared.whole.Whole.{Whole}
use Rattle.clog_scan.specs.Laws.{IsFile}
use Rattle.clog_scan.specs.Pieces.{entry_of}
use Rattle.clog_scan.specs.Segment.{Entry, IsSegment}
use Rattle.clog_scan.specs.Walks.{Feeds, HasScanned}
use Rattle.clog_folder.specs.Passing.{fault_of}
use Rattle.replay_merge.specs.declared.piped.Batch.{Batch}
use Rattle.replay_merge.specs.Entries.{Entry as Item, all_items, item_of}
use Rattle.replay_merge.specs.Streaming.{HasStreamed, IsReadOf, Streams, StreamsSo, entry_in}
use Rattle.replay_merge.proofs.DoneSo.{one_batch_more}

pub starts_so : (files : Option Files) (name : List ℕ) (len : ℕ) (s : Scanner)
    → IsLength files name len → s.fed ≡ 0
    → ((file : List ℕ) → IsFile file → length file ≡ len → HasScanned file s [])
    → HasStreamed files name len s []
starts_so None name len s is fed none = tt
starts_so (Some files) name len s is fed none = record {
  file = is.0;
  front = [];
  rest = is.0;
  there = is.1;
  size = is.2;
  parts = refl;
  are_bytes = bytes-nil;
  fed = fed;
  scanned = λ is_file. none is.0 is_file (sym is.2);
  ids = λ e there. absurd (nothing_there e there);
}

items_are : (id : ℕ) (wholes : List Whole)
    → map entry_of wholes ≡ map entry_in (map (item_of id) wholes)
items_are id [] = refl
items_are id (w ∷ ws) = ap (λ es. entry_of w ∷ es) (items_are id ws)

-- what a piece is of the rest
piece_is : (files : Files) (name : List ℕ) (len : ℕ) (s : Scanner) (items : List Item)
    (at count : ℕ) (piece : List ℕ) (so : StreamsSo files name len s items)
    → at ≡ length so.front → Reads (Some files) name at count piece
    → piece ≡ take count so.rest
piece_is files name len s items at count piece so at_is read =
    let held : read.0 ≡ so.file = some_is read.0 so.file (sym read.1 ∙ so.there) in
    read.2
    ∙ ap (λ (n : ℕ). take count (drop n read.0)) at_is
    ∙ ap (λ (l : List ℕ). take count (drop (length so.front) l)) (held ∙ so.parts)
    ∙ ap (take count) (drop-append_seam so.front so.rest)

streams_more : (files : Option Files) (name : List ℕ) (len : ℕ) (old new : Scanner)
    (items : List Item) (id at count : ℕ) (piece : List ℕ) (wholes : List Whole)
    → HasStreamed files name len old items → id ≡ old.id → at ≡ old.fed
    → Reads files name at count piece → IsBytes piece → Feeds old new piece wholes
    → HasStreamed files name len new (items ++ map (item_of id) wholes)
streams_more None name len old new items id at count piece wholes so is_id at_is read bytes feeds =
    tt
streams_more (Some files) name len old new items id at count piece wholes so is_id at_is read bytes
    feeds =
    let front : at ≡ length so.front = at_is ∙ so.fed in
    let is = piece_is files name len old items at count piece so front read in
    let rest : so.rest ≡ piece ++ drop count so.rest =
    sym (take-append-drop count so.rest) ∙ ap (λ (l : List ℕ). l ++ drop count so.rest) (sym is) in
    let parts : so.file ≡ (so.front ++ piece) ++ drop count so.rest =
    so.parts ∙ ap (λ (l : List ℕ). so.front ++ l) rest
    ∙ sym (append_assoc so.front piece (drop count so.rest)) in
    let fed : new.fed ≡ length (so.front ++ piece) =
    omega (arith, feeds.fed, so.fed, length-append so.front piece) in
    let before : drop old.fed so.file ≡ so.rest =
    ap (λ n. drop n so.file) so.fed ∙ ap (drop (length so.front)) so.parts
    ∙ drop-append_seam so.front so.rest in
    let after : drop new.fed so.file ≡ drop count so.rest =
    ap (λ n. drop n so.file) fed ∙ ap (drop (length (so.front ++ piece))) parts
    ∙ drop-append_seam (so.front ++ piece) (drop count so.rest) in
    record {
      file = so.file;
      front = so.front ++ piece;
      rest = drop count so.rest;
      there = so.there;
      size = so.size;
      parts = parts;
      are_bytes = append-IsBytes so.front piece so.are_bytes bytes;
      fed = fed;
      scanned = λ is_file.
          let on = feeds.scans so.file (map entry_in items) (so.scanned is_file)
          (before ∙ rest ∙ ap (λ (l : List ℕ). piece ++ l) (sym after)) in
          subst (HasScanned so.file new)
          (ap (λ es. map entry_in items ++ es) (items_are id wholes)
          ∙ sym (map-append entry_in items (map (item_of id) wholes))) on;
      ids = λ e there. elim (Contains-append_cases items (map (item_of id) wholes) e there) [
        | inl older ↦ so.ids e older ∙ sym feeds.same_id
        | inr newer ↦
            let from = from_map (item_of id) wholes e newer in
            sym (ap (λ (x : Item). x.id) from.2) ∙ is_id ∙ sym feeds.same_id
      ];
    }

-- what a piece gives is one batch more
pub batch_streams : (files : Option Files) (name : List ℕ) (len : ℕ) (old new : Scanner)
    (batches : List Batch) (b : Batch) (at count : ℕ) (piece : List ℕ)
    → HasStreamed files name len old (all_items batches) → b.id ≡ old.id → at ≡ old.fed
    → Reads files name at count piece → IsBytes piece → Feeds old new piece b.wholes.items
    → HasStreamed files name len new (all_items (batches ++ b ∷ []))
batch_streams files name len old new batches b at count piece so is_id at_is read bytes feeds =
    subst (HasStreamed files name len new) (one_batch_more batches b)
    (streams_more files name len old new (all_items batches) b.id at count piece b.wholes.items so
    is_id at_is read bytes feeds)

-- the file is not gone while it is read
no_such_file : (files now : Option Files) (name : List ℕ) (len : ℕ) (T : Type 0)
    → IsLength files name len → now ≡ files
    → Finds {T = T} now name (Err disk_faults.NoSuchFile) → ⊥
no_such_file None now name len T is same finds =
    subst (λ (f : Option Files). Finds {T = T} f name (Err disk_faults.NoSuchFile)) same finds
no_such_file (Some files) now name len T is same finds =
    let gone = subst (λ (f : Option Files). Finds {T = T} f name (Err disk_faults.NoSuchFile)) same
    finds in
    let there = is.1 in
    cc

-- why a piece is not read
pub piece_refused : (files now : Option Files) (faults mid new len id : ℕ) (name : List ℕ)
    (items : List Item) (T : Type 0) (fault : DiskFault)
    → HasDiskCause {T = T} mid new (Err fault) → Finds {T = T} now name (Err fault)
    → IsLength files name len → now ≡ files → mid ≡ faults
    → Streams files faults new name id items (Err (fault_of fault))
piece_refused files now faults mid new len id name items T disk_faults.OutOfMemory cause finds is
    same quiet = tt
piece_refused files now faults mid new len id name items T disk_faults.Failed cause finds is same
    quiet = subst (λ k. Rose k new) quiet (cause.failed refl)
piece_refused files now faults mid new len id name items T disk_faults.NoSuchFile cause finds is
    same quiet =
    absurd (no_such_file files now name len T is same finds)

-- a file that is told gives a piece until it ends
pub never_empty : (files : Option Files) (name : List ℕ) (len : ℕ) (s : Scanner)
    (items : List Item) (id at count : ℕ) (piece : List ℕ) (end : End)
    → HasStreamed files name len s items → at ≡ s.fed → Reads files name at count piece
    → piece ≡ [] → at < len → 0 < count
    → IfSome files (λ held. IsReadOf held name id items end)
never_empty None name len s items id at count piece end so at_is read none less some = tt
never_empty (Some files) name len s items id at count piece end so at_is read none less some =
    let is = piece_is files name len s items at count piece so (at_is ∙ so.fed) read in
    let long = ap length is in
    let short = ap length none in
    let size = ap length so.parts in
    let fed = so.fed in
    let whole = so.size in
    absurd (omega (
      arith,
      long,
      short,
      size,
      fed,
      whole,
      at_is,
      less,
      some,
      length-take count so.rest,
      length-append so.front so.rest,
    ))

-- the end that is told
told_end : (end : Option End) (P : End → Type 0) → IsSome end → ((e : End) → end ≡ Some e → P e)
    → (e : End) × P e × (end ≡ Some e)
told_end None P some told = absurd cc
told_end (Some e) P some told = (e, told e refl, refl)

-- at its end
pub ends_so : (files : Option Files) (name : List ℕ) (len id : ℕ) (s : Scanner)
    (items : List Item) (end : End) → HasStreamed files name len s items → len ≤ file_limit
    → s.fed ≡ len → s.len ≡ len → s.id ≡ id → ((e : End) → s.end ≡ Some e → end ≡ e)
    → ((file : List ℕ) (t : Scanner) (given : List Entry) (last : End) → HasScanned file t given
    → t.end ≡ Some last → IsSegment file t.id given last)
    → ((file : List ℕ) (t : Scanner) (given : List Entry) → HasScanned file t given
    → t.fed ≡ t.len → IsSome t.end)
    → IfSome files (λ held. IsReadOf held name id items end)
ends_so None name len id s items end so short fed_is len_is id_is end_is told all = tt
ends_so (Some files) name len id s items end so short fed_is len_is id_is end_is told all =
    let size = ap length so.parts in
    let fed = so.fed in
    let whole = so.size in
    let none : so.rest ≡ [] = nil_from_length so.rest (omega (
      arith,
      size,
      fed,
      whole,
      fed_is,
      length-append so.front so.rest,
    )) in
    let same : so.front ≡ so.file =
    sym (so.parts ∙ ap (λ (l : List ℕ). so.front ++ l) none ∙ append-nil so.front) in
    let is_file : IsFile so.file = record {
      are_bytes = subst IsBytes same so.are_bytes;
      short = omega (arith, whole, short);
    } in
    let scanned = so.scanned is_file in
    let last = told_end s.end (λ e. IsSegment so.file s.id (map entry_in items) e)
    (all so.file s (map entry_in items) scanned (fed_is ∙ sym len_is))
    (λ e is. told so.file s (map entry_in items) e scanned is) in
    record {
      file = so.file;
      there = so.there;
      short = omega (arith, whole, short);
      is_file = is_file;
      segment = subst (λ (e : End). IsSegment so.file id (map entry_in items) e)
          (sym (end_is last.0 last.2))
          (subst (λ i. IsSegment so.file i (map entry_in items) last.0) id_is last.1);
      ids = λ e there. so.ids e there ∙ id_is;
    }
