-- The changes of a store stand in order as those of a run, however far the run has come.
use Rattle.std.proofs.Common.{
  ◌≡◌,
  ℕ,
  ◌^◌,
  ◌<◌,
  ◌≤◌,
  inl,
  inr,
  List,
  [],
  ◌∷◌,
  ◌++◌,
  length,
  map,
  sym,
  ◌∙◌,
  ap,
  subst,
  true,
  arith,
}
use Rattle.std.specs.Prelude.{Contains}
use Rattle.std.proofs.lemmas.List.Elements.{Contains-append_left}
use Rattle.clog_spec.specs.Names.{IsTableName, archive_name_of, segment_name_of}
use Rattle.clog_spec.specs.Sizes.{greatest_capacity}
use Rattle.clog_base.specs.declared.cell.Table.{Table}
use Rattle.clog_base.specs.declared.position.Position.{Position}
use Rattle.clog_base.specs.declared.sizes.Sizes.{Sizes}
use Rattle.clog_base.specs.Positions.{IsUpTo, offset_of, ordinal_of, position_of}
use Rattle.clog_base.proofs.Members.{first_or_further, from_map, further, here, in_map}
use Rattle.clog_disk.specs.declared.change.Change.{Change}
use Rattle.clog_disk.specs.declared.change.Change.TheVariants as change
use Rattle.clog_table.specs.declared.table_file.TableFile.{TableFile}
use Rattle.clog_table.specs.Refusals.{IsFileOf}
use Rattle.clog_table.proofs.Again.{one_table_file}
use Rattle.clog_crash.specs.Droppable.{IsDroppable}
use Rattle.clog_crash.specs.Grown.{appends_of, grown}
use Rattle.clog_crash.specs.Log.{Write}
use Rattle.clog_crash.proofs.changes.Names.{one_id}
use Rattle.clog_crash.proofs.flush.NewFile.{one_place}
use Rattle.path_core.specs.Keeper.{PutFile}
use Rattle.clog_segments.specs.OnDisk.{file_on}
use Rattle.clog_segments.specs.StoreFolder.{Deeds, PlacedFile, StoreLog, name_of}
use Rattle.clog_segments.specs.StoreOrder.{
  ArePutBy,
  ComesBehind,
  GetsArchiveName,
  GoesBehind,
  IsWholeIn,
  publish_of,
  publishes_of,
}
use Rattle.clog_applied.specs.Appended.{appended, entries_in}
use Rattle.clog_applied.specs.Closed.{IsAnyFile}
use Rattle.clog_applied.specs.Early.{
  AreInOrder,
  IsLoggedBehind,
  IsPublishedIn,
  MayGoBehind,
  SaysFile,
}
use Rattle.clog_applied.specs.History.{LoggedLine, logged_at}
use Rattle.clog_layout.proofs.Lines.{is_position}
use Rattle.clog_closing.specs.Stores.{GoesInOrder, files_by, ids_in, segments_in}
use Rattle.clog_closing.proofs.Dropping.{filed_droppable}
use Rattle.clog_closing.proofs.Entries.{an_entry}
use Rattle.clog_closing.proofs.Logs.{of_log}
use Rattle.clog_closing.proofs.Tables.{note_of_line, up_to_key}

-- those that put files are among the changes
published_among : (cs : List Change) (c : Change) → Contains (publishes_of cs) c → Contains cs c
published_among [] c h = h
published_among (change.Append name bytes ∷ cs) c h =
    further (change.Append name bytes) cs c (published_among cs c h)
published_among (change.Publish name bytes ∷ cs) c h =
    elim (first_or_further (change.Publish name bytes) (publishes_of cs) c h) [
      | inl same ↦ subst (λ (x : Change). Contains (change.Publish name bytes ∷ cs) x) same
          (here (change.Publish name bytes) cs)
      | inr more ↦ further (change.Publish name bytes) cs c (published_among cs c more)
    ]
published_among (change.Link old new ∷ cs) c h =
    further (change.Link old new) cs c (published_among cs c h)
published_among (change.Remove name ∷ cs) c h =
    further (change.Remove name) cs c (published_among cs c h)

-- a file that was put has a change that put it in place
published_in : (base : ℕ) (cs : List Change) (files : List PutFile) → ArePutBy base cs files
    → (put : PutFile) → Contains files put → IsPublishedIn cs (file_on base put)
published_in base cs files by put among =
    let found = from_map (λ (p : PlacedFile). p.put) by.placed put
    (subst (λ (l : List PutFile). Contains l put) (sym by.are) among) in
    let p = found.0 in
    let is = by.each p found.1 in
    subst (λ (f : PutFile). IsPublishedIn cs (file_on base f)) found.2 (record {
      name = name_of p;
      bytes = p.bytes;
      listed = published_among cs (publish_of p)
          (subst (λ (l : List Change). Contains l (publish_of p)) (sym by.put)
          (in_map publish_of by.placed p found.1));
      says = record { sequence = p.sequence; named = is.named; spelled = is.spelled };
    })

module _ (sizes : Sizes) (later : List Change) (log : StoreLog) (deeds : Deeds)
    (history : List LoggedLine) (e : GoesInOrder sizes later log deeds history) where
  few : sizes.capacity ≤ greatest_capacity
  few = sizes.within.greatest_capacity

  abbrev ids : List ℕ
  ids = ids_in log

  -- ---- a file that came

  its_file : (front : List Change) (name bytes : List ℕ) (file : TableFile)
      → (c : ComesBehind log deeds front name bytes) → SaysFile name bytes file
      → file ≡ file_on log.base c.file.put
  its_file front name bytes file c says =
      let put = file_on log.base c.file.put in
      let tables : file.table ≡ put.table =
      one_place name file.table put.table says.sequence c.file.sequence says.named
      (subst (λ (n : List ℕ). IsTableName n c.file.put.table c.file.sequence) (sym c.name_is)
      c.is_spelled.named) in
      one_table_file put.table c.file.bytes put file c.is_spelled.spelled
      (subst (λ (b : List ℕ). IsFileOf put.table b file) c.bytes_are
      (subst (λ (t : Table). IsFileOf t bytes file) tables says.spelled))

  published : (front rest : List Change) (name bytes : List ℕ) (file : TableFile)
      → later ≡ front ++ change.Publish name bytes ∷ rest → SaysFile name bytes file
      → IsLoggedBehind history front file
  published front rest name bytes file is says w hw touches up_to =
      let c = e.ordered.each front rest (change.Publish name bytes) is in
      let n = note_of_line log.base log.logged history e.notes w hw in
      let at = is_position log.base sizes.capacity n.note w few (e.in_log.each n.note n.listed)
      n.is in
      let low : n.note.end.0 ≤ c.file.put.upper =
      up_to_key log.base n.note.end.0 c.file.put.upper
      (subst (λ (p : Position). IsUpTo p (position_of log.base c.file.put.upper)) at
      (subst (λ (f : TableFile). IsUpTo (logged_at w) f.upper)
      (its_file front name bytes file c says) up_to)) in
      let there = c.behind n.note n.listed low in
      let end : w.end ≡ offset_of n.note.end.0 = ap (λ (p : Position). p.offset) at in
      subst (λ (k : ℕ). w.end ≤ length (grown (appends_of front) (segment_name_of 6 k)))
      (sym n.is.id) (omega (arith, end, there))

  -- ---- a segment by its name

  its_id : (id : ℕ) → Contains ids id → (segment : Write) → Contains log.past segment
      → segment_name_of 6 id ≡ segment_name_of 6 segment.id → segment.id ≡ id
  its_id id listed segment past same =
      let o = of_log (segments_in log) id listed in
      let among = Contains-append_left log.past
      (record { id = log.id; sections = log.sections } ∷ []) segment past in
      one_id id segment.id
      (subst (λ (k : ℕ). k < 2 ^ 63) o.is (e.stored.stored o.write o.listed).fits)
      (e.stored.stored segment among).fits (sym same)

  -- all bytes of an earlier segment were appended
  is_whole : (front : List Change) (segment : Write) → Contains log.past segment
      → IsWholeIn front segment → appended front segment.id ≡ appended later segment.id
  is_whole front segment past whole =
      whole ∙ sym (e.grown.each segment
      (Contains-append_left log.past (record { id = log.id; sections = log.sections } ∷ [])
      segment past))

  -- ---- a segment that gets its archive name

  archived_whole : (front rest : List Change) (id : ℕ) (name : List ℕ) → Contains ids id
      → later ≡ front ++ change.Link (segment_name_of 6 id) name ∷ rest
      → (name ≡ archive_name_of id) × (appended front id ≡ appended later id)
  archived_whole front rest id name listed is =
      let gets : GetsArchiveName log deeds front (segment_name_of 6 id) name =
      e.ordered.each front rest (change.Link (segment_name_of 6 id) name) is in
      let segment = gets.past.segment in
      let same = its_id id listed segment gets.past.among gets.old_is in (
        gets.new_is ∙ ap archive_name_of same,
        subst (λ (k : ℕ). appended front k ≡ appended later k) same
            (is_whole front segment gets.past.among gets.whole),
      )

  -- ---- a segment that goes

  module _ (front rest : List Change) (id : ℕ) (listed : Contains ids id)
      (is : later ≡ front ++ change.Remove (segment_name_of 6 id) ∷ rest) where
    goes : GoesBehind log deeds front (segment_name_of 6 id)
    goes = e.ordered.each front rest (change.Remove (segment_name_of 6 id)) is

    same : goes.past.segment.id ≡ id
    same = its_id id listed goes.past.segment goes.past.among goes.name_is

    removed_whole : appended front id ≡ appended later id
    removed_whole =
        subst (λ (k : ℕ). appended front k ≡ appended later k) same
        (is_whole front goes.past.segment goes.past.among goes.whole)

    removed_archived : deeds.archives ≡ true
        → Contains front (change.Link (segment_name_of 6 id) (archive_name_of id))
    removed_archived archives =
        subst (λ (k : ℕ). Contains front (change.Link (segment_name_of 6 id) (archive_name_of k)))
        same (goes.archived archives)

    droppable : IsDroppable (map (file_on log.base) goes.put) id (entries_in id history)
    droppable =
        let l = an_entry later log.base log.past log.id log.sections log.logged history e.grown
        e.stored e.places e.notes id listed in
        let n = note_of_line log.base log.logged history e.notes l.0 l.1 in
        let here_at : ordinal_of n.note.start.0 ≡ goes.ordinal =
        omega (arith, n.is.id, l.2, same, goes.past.id_is) in
        subst (λ (k : ℕ). IsDroppable (map (file_on log.base) goes.put) k (entries_in k history))
        (sym goes.past.id_is ∙ same)
        (filed_droppable sizes.capacity log.base log.logged goes.put history few e.in_log e.notes
        goes.ordinal n.note n.listed here_at goes.filed)

    removed_filed : MayGoBehind (files_by log deeds) front id (entries_in id history)
    removed_filed = record {
      put = map (file_on log.base) goes.put;
      each = λ file h.
          let found = from_map (file_on log.base) goes.put file h in
          let all : Contains deeds.files found.0 =
          subst (λ (l : List PutFile). Contains l found.0) (sym goes.files_are)
          (Contains-append_left goes.put goes.later found.0 found.1) in
          subst (λ (f : TableFile). Contains (files_by log deeds) f × IsPublishedIn front f)
          found.2 (
            in_map (file_on log.base) deeds.files found.0 all,
            published_in log.base front goes.put goes.put_by found.0 found.1,
          );
      droppable = droppable;
    }

  pub in_order : AreInOrder IsAnyFile deeds.archives later ids history (files_by log deeds)
  in_order = record {
    published = λ front rest name bytes file is says new.
        published front rest name bytes file is says;
    removed_whole = removed_whole;
    removed_filed = removed_filed;
    removed_archived = λ archives front rest id listed is.
        removed_archived front rest id listed is archives;
    archived_whole = archived_whole;
  }
