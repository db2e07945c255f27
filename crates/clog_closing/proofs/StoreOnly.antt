-- Each change of a store is one of a run: bytes for its segments, its table files, archive names of
-- its segments where it archives, and their removals. Where each table file reaches as far as the
-- log, files and removals come behind all entries.
use Rattle.std.proofs.Common.{
  ◌≡◌,
  ℕ,
  ◌<◌,
  ◌≤◌,
  inl,
  inr,
  Bool,
  true,
  false,
  List,
  [],
  ◌∷◌,
  ◌++◌,
  length,
  refl,
  sym,
  ◌∙◌,
  ap,
  subst,
  arith,
  append_assoc,
  length-append,
}
use Rattle.std.specs.Prelude.{Contains}
use Rattle.std.proofs.lemmas.List.Elements.{Contains-append_left}
use Rattle.clog_spec.specs.Names.{IsTableName, segment_name_of}
use Rattle.clog_spec.specs.Sizes.{greatest_capacity}
use Rattle.clog_base.specs.declared.position.Position.{Position}
use Rattle.clog_base.specs.declared.sizes.Sizes.{Sizes}
use Rattle.clog_base.specs.Positions.{offset_of}
use Rattle.clog_base.proofs.Members.{first_or_further, in_map, nothing_there}
use Rattle.clog_disk.specs.declared.change.Change.{Change}
use Rattle.clog_disk.specs.declared.change.Change.TheVariants as change
use Rattle.clog_scan.specs.Segment.{Entry}
use Rattle.clog_table.specs.declared.table_file.TableFile.{TableFile}
use Rattle.clog_table.specs.Refusals.{IsFileOf}
use Rattle.clog_crash.specs.Droppable.{Touches}
use Rattle.clog_crash.specs.Grown.{Append, appends_of, grown}
use Rattle.clog_crash.specs.Log.{Write}
use Rattle.clog_crash.proofs.counts.Growing.{appends_of-append, grown-append}
use Rattle.path_core.specs.declared.note.EntryNote.{EntryNote}
use Rattle.path_core.specs.Keeper.{PutFile}
use Rattle.clog_segments.specs.OnDisk.{file_on}
use Rattle.clog_segments.specs.StoreFolder.{Deeds, StoreLog}
use Rattle.clog_segments.specs.StoreOrder.{ComesBehind, GetsArchiveName, GoesBehind}
use Rattle.clog_applied.specs.Appended.{appended}
use Rattle.clog_applied.specs.Early.{
  AreRunChanges,
  ComeLast,
  HoldsAll,
  IsPublishedIn,
  IsRunChange,
  SaysFile,
}
use Rattle.clog_applied.specs.History.{LoggedLine}
use Rattle.clog_applied.proofs.Changes.{in_appends}
use Rattle.clog_applied.proofs.Merged.{of_entry}
use Rattle.clog_layout.proofs.Lines.{is_position}
use Rattle.clog_closing.specs.Stores.{GoesInOrder, files_by, ids_in, segments_in}
use Rattle.clog_closing.proofs.Entries.{touches_one}
use Rattle.clog_closing.proofs.Logs.{written}
use Rattle.clog_closing.proofs.StoreOrdered.{in_order}
use Rattle.clog_closing.proofs.Tables.{note_of_line}

-- ---- lists of changes

-- where a list is cut at one of its members
pub cut_at : {A : Type 0} (xs : List A) (x : A) → Contains xs x
    → (front : List A) × (rest : List A) × (xs ≡ front ++ x ∷ rest)
cut_at [] x h = absurd (nothing_there x h)
cut_at (y ∷ xs) x h = elim (first_or_further y xs x h) [
  | inl same ↦ ([], xs, ap (λ (z : _). z ∷ xs) same)
  | inr more ↦
      let cut = cut_at xs x more in
      (y ∷ cut.0, cut.1, ap (λ (l : List _). y ∷ l) cut.2)
]

-- what stood in front stands in front of more
holds_on : (history : List LoggedLine) (front more : List Change) → HoldsAll history front
    → HoldsAll history (front ++ more)
holds_on history front more holds w h =
    let name = segment_name_of 6 w.id in
    let same : appended (front ++ more) w.id
    ≡ appended front w.id ++ grown (appends_of more) name =
    ap (λ (l : List Append). grown l name) (appends_of-append front more)
    ∙ grown-append (appends_of front) (appends_of more) name in
    let long = ap length same in
    let parts = length-append (appended front w.id) (grown (appends_of more) name) in
    let low = holds w h in
    omega (arith, long, parts, low)

module _ (sizes : Sizes) (later : List Change) (log : StoreLog) (deeds : Deeds)
    (history : List LoggedLine) (e : GoesInOrder sizes later log deeds history) where
  abbrev ids : List ℕ
  ids = ids_in log

  abbrev files : List TableFile
  files = files_by log deeds

  past_listed : (w : Write) → Contains log.past w → 0 < length w.sections → Contains ids w.id
  past_listed w among some =
      written (segments_in log) w
      (Contains-append_left log.past (record { id = log.id; sections = log.sections } ∷ []) w
      among) some

  -- ---- each change is one of a run

  says : (front : List Change) (name bytes : List ℕ) (c : ComesBehind log deeds front name bytes)
      → SaysFile name bytes (file_on log.base c.file.put)
  says front name bytes c = record {
    sequence = c.file.sequence;
    named = subst (λ (n : List ℕ). IsTableName n c.file.put.table c.file.sequence)
        (sym c.name_is) c.is_spelled.named;
    spelled = subst (λ (b : List ℕ).
        IsFileOf (file_on log.base c.file.put).table b (file_on log.base c.file.put))
        (sym c.bytes_are) c.is_spelled.spelled;
  }

  module _ (none : deeds.archives ≡ false → deeds.archived ≡ []) where
    archives : (o : ℕ) → Contains deeds.archived o → deeds.archives ≡ true
    archives o listed = by deeds.archives refl
      where
        by : (b : Bool) → deeds.archives ≡ b → b ≡ true
        by true is = refl
        by false is =
            absurd (nothing_there o (subst (λ (l : List ℕ). Contains l o) (none is) listed))

    is_one : (front rest : List Change) (c : Change) → later ≡ front ++ c ∷ rest
        → Contains later c → IsRunChange deeds.archives ids files c
    is_one front rest (change.Append name bytes) is among =
        let o = e.grown.only (name, bytes) (in_appends later name bytes among) in
        record { id = o.0.id; listed = written (segments_in log) o.0 o.1 o.2; named = o.3 }
    is_one front rest (change.Publish name bytes) is among =
        let c : ComesBehind log deeds front name bytes =
        e.ordered.each front rest (change.Publish name bytes) is in (
          file_on log.base c.file.put,
          in_map (file_on log.base) deeds.files c.file.put c.was_put,
          says front name bytes c,
        )
    is_one front rest (change.Link old new) is among =
        let gets : GetsArchiveName log deeds front old new =
        e.ordered.each front rest (change.Link old new) is in
        let w = gets.past.segment in (
          archives gets.ordinal gets.listed,
          record {
            segment = record {
              id = w.id;
              listed = past_listed w gets.past.among gets.past.some;
              named = gets.old_is;
            };
            new_is = gets.new_is;
          },
        )
    is_one front rest (change.Remove name) is among =
        let goes : GoesBehind log deeds front name =
        e.ordered.each front rest (change.Remove name) is in
        let w = goes.past.segment in
        record {
          id = w.id;
          listed = past_listed w goes.past.among goes.past.some;
          named = goes.name_is;
        }

    pub only : AreRunChanges deeds.archives ids files later
    only c among = let cut = cut_at later c among in is_one cut.0 cut.1 c cut.2 among

  -- ---- what comes last

  module _ (wide : (put : PutFile) → Contains deeds.files put → (n : EntryNote)
      → Contains log.logged n → n.end.0 ≤ put.upper) where
    few : sizes.capacity ≤ greatest_capacity
    few = sizes.within.greatest_capacity

    published : (front rest : List Change) (name bytes : List ℕ)
        → later ≡ front ++ change.Publish name bytes ∷ rest → HoldsAll history front
    published front rest name bytes is w h =
        let c : ComesBehind log deeds front name bytes =
        e.ordered.each front rest (change.Publish name bytes) is in
        let n = note_of_line log.base log.logged history e.notes w h in
        let at = is_position log.base sizes.capacity n.note w few (e.in_log.each n.note n.listed)
        n.is in
        let there = c.behind n.note n.listed (wide c.file.put c.was_put n.note n.listed) in
        let end : w.end ≡ offset_of n.note.end.0 = ap (λ (p : Position). p.offset) at in
        subst (λ (k : ℕ). w.end ≤ length (grown (appends_of front) (segment_name_of 6 k)))
        (sym n.is.id) (omega (arith, end, there))

    -- a change that puts a file stands in front
    behind_a_file : (front rest : List Change) (file : TableFile) → later ≡ front ++ rest
        → IsPublishedIn front file → HoldsAll history front
    behind_a_file front rest file is put =
        let p = change.Publish put.name put.bytes in
        let cut = cut_at front p put.listed in
        let whole : later ≡ cut.0 ++ p ∷ (cut.1 ++ rest) =
        is ∙ ap (λ (l : List Change). l ++ rest) cut.2
        ∙ append_assoc cut.0 (p ∷ cut.1) rest in
        subst (HoldsAll history) (sym cut.2)
        (holds_on history cut.0 (p ∷ cut.1)
        (published cut.0 (cut.1 ++ rest) put.name put.bytes whole))

    removed : (front rest : List Change) (name : List ℕ)
        → later ≡ front ++ change.Remove name ∷ rest → HoldsAll history front
    removed front rest name is =
        let goes : GoesBehind log deeds front name =
        e.ordered.each front rest (change.Remove name) is in
        let w = goes.past.segment in
        let listed = past_listed w goes.past.among goes.past.some in
        let named : later ≡ front ++ change.Remove (segment_name_of 6 w.id) ∷ rest =
        is ∙ ap (λ (n : List ℕ). front ++ change.Remove n ∷ rest) goes.name_is in
        let may = (in_order sizes later log deeds history e).removed_filed front rest w.id listed
        named in
        let d = may.droppable in
        let entry = of_entry history w.id d.entry d.has_entry in
        let n = note_of_line log.base log.logged history e.notes entry.line entry.listed in
        let t = touches_one entry.line n.is.stored in
        let touches = subst (λ (x : Entry). Touches x t.0) entry.is t.1 in
        let f = d.filed t.0 d.entry d.entry d.has_entry d.has_entry touches touches d.entry.end
        (omega arith) (omega arith) in
        behind_a_file front (change.Remove name ∷ rest) f.file is (may.each f.file f.listed).1

    pub come_last : ComeLast later history
    come_last = record { published = published; removed = removed }
