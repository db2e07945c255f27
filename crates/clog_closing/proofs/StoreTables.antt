-- The table files of a store whose run has ended: they are there, in the order of their sequences;
-- and just the segments that may go by them were dropped.
use Rattle.std.proofs.Common.{
  ◌≡◌,
  ◌⊎◌,
  ℕ,
  ◌+◌,
  ◌-◌,
  ◌<◌,
  ◌≤◌,
  inl,
  inr,
  List,
  [],
  ◌∷◌,
  length,
  map,
  Option,
  Some,
  get_or,
  refl,
  sym,
  ◌∙◌,
  ap,
  subst,
  arith,
}
use Rattle.std.specs.Prelude.{◌↔◌, ◌==◌, Contains, unwrap_or}
use Rattle.std.specs.FinMap as finmap
use Rattle.std.specs.List.{AllPairs}
use Rattle.std.proofs.lemmas.Bool.{and_parts}
use Rattle.std.proofs.lemmas.Bool.Decides.{nat_tests}
use Rattle.std.proofs.lemmas.List.{get_or_default}
use Rattle.std.proofs.lemmas.List.Kept.{AllPairs-filter}
use Rattle.clog_spec.specs.Names.{IsTableName, table_name_of}
use Rattle.clog_spec.specs.Sizes.{greatest_capacity}
use Rattle.clog_base.specs.declared.cell.Table.{Table}
use Rattle.clog_base.specs.declared.sizes.Sizes.{Sizes}
use Rattle.clog_base.specs.Positions.{offset_of, ordinal_of}
use Rattle.clog_base.proofs.Members.{first_or_further, from_map, in_map, nothing_there}
use Rattle.clog_base.proofs.NameLaws.{archive_is_no_table, one_table}
use Rattle.clog_disk.specs.declared.change.Change.{Change}
use Rattle.clog_disk.specs.Files.{Files, bytes_at}
use Rattle.clog_disk.proofs.Named.{same_or_other}
use Rattle.clog_table.specs.declared.table_file.TableFile.{TableFile}
use Rattle.clog_table.specs.Refusals.{IsFileOf}
use Rattle.clog_table.proofs.Again.{one_table_file}
use Rattle.clog_crash.specs.Droppable.{IsDroppable}
use Rattle.clog_crash.specs.Folder.{IsHeld, IsNameOf, Place}
use Rattle.clog_crash.specs.Readings.{IsTableIn}
use Rattle.clog_crash.proofs.changes.Names.{not_segment}
use Rattle.clog_crash.proofs.changes.Nothing.{reads_as}
use Rattle.clog_crash.proofs.flush.NewFile.{one_place}
use Rattle.path_core.specs.Keeper.{PutFile, upper_from}
use Rattle.path_core.specs.Parts.{touches}
use Rattle.path_core.proofs.lists.Heads.{ahead, behind}
use Rattle.clog_segments.specs.OnDisk.{file_on}
use Rattle.clog_segments.specs.StoreFolder.{Deeds, PlacedFile, StoreLog, name_of}
use Rattle.clog_segments.specs.StoreOrder.{IsFiledWhole}
use Rattle.clog_segments.proofs.FolderReads.{one_or_none}
use Rattle.clog_applied.specs.Appended.{entries_in}
use Rattle.clog_applied.specs.Closed.{IsPut}
use Rattle.clog_applied.specs.Filed.{StandsBefore, files_of, is_of as is_of_table}
use Rattle.clog_applied.specs.History.{LoggedLine}
use Rattle.clog_applied.proofs.Lists.{from_filter}
use Rattle.clog_layout.proofs.Pairs.{pairs_cons, pairs_none}
use Rattle.clog_closing.specs.Stores.{HasEnded, dropped_ids, files_by, ids_in}
use Rattle.clog_closing.proofs.Dropping.{droppable_note, filed_droppable, is_filed_key}
use Rattle.clog_closing.proofs.Entries.{an_entry}
use Rattle.clog_closing.proofs.Following.{EndsBefore, ascend, holds_each}
use Rattle.clog_closing.proofs.StoreLeft.{fits, from_base, of_past}
use Rattle.clog_closing.proofs.Tables.{note_of_line}

-- ---- pairs of a list

-- pairs of what is made of a list
pairs_map : {A B : Type 0} (f : A → B) (R : B → B → Type 0) (xs : List A)
    → AllPairs (λ (a b : A). R (f a) (f b)) xs → AllPairs R (map f xs)
pairs_map f R [] pairs = pairs_none R
pairs_map f R (x ∷ xs) pairs =
    let S = λ (a b : _). R (f a) (f b) in
    pairs_cons R (f x) (map f xs)
    (λ y h.
    let found = from_map f xs y h in
    subst (λ (z : _). R (f x) z) found.2 (ahead S x xs pairs found.0 found.1))
    (pairs_map f R xs (behind S x xs pairs))

from_pairs : {A B : Type 0} (f : A → B) (R : B → B → Type 0) (xs : List A)
    → AllPairs R (map f xs) → AllPairs (λ (a b : A). R (f a) (f b)) xs
from_pairs f R [] pairs = pairs_none (λ (a b : _). R (f a) (f b))
from_pairs f R (x ∷ xs) pairs =
    pairs_cons (λ (a b : _). R (f a) (f b)) x xs
    (λ y h. ahead R (f x) (map f xs) pairs (f y) (in_map f xs y h))
    (from_pairs f R xs (behind R (f x) (map f xs) pairs))

-- of two elements one stands in front of the other, or they are one
either_way : {A : Type 0} (R : A → A → Type 0) (xs : List A) → AllPairs R xs → (a b : A)
    → Contains xs a → Contains xs b → R a b ⊎ ((a ≡ b) ⊎ R b a)
either_way R [] pairs a b ha hb = absurd (nothing_there a ha)
either_way R (x ∷ xs) pairs a b ha hb = elim (first_or_further x xs a ha) [
  | inl first ↦ elim (first_or_further x xs b hb) [
    | inl same ↦ inr (inl (sym first ∙ same))
    | inr further ↦ inl (subst (λ (z : _). R z b) first (ahead R x xs pairs b further))
  ]
  | inr more ↦ elim (first_or_further x xs b hb) [
    | inl same ↦ inr (inr (subst (λ (z : _). R z a) same (ahead R x xs pairs a more)))
    | inr further ↦ either_way R xs (behind R x xs pairs) a b more further
  ]
]

-- pairs of one table
pairs_of : (R : TableFile → TableFile → Type 0) (table : Table) (files : List TableFile)
    → AllPairs (λ (a b : TableFile). a.table ≡ b.table → R a b) files
    → AllPairs R (files_of table files)
pairs_of R table files pairs i j d low high =
    let kept = files_of table files in
    let first : i < length kept = omega (arith, low, high) in
    let table_at : (k : ℕ) → k < length kept → (get_or kept k d).table ≡ table = λ k inside.
    let is = (from_filter (is_of_table table) files (get_or kept k d)
    (k, inside, get_or_default kept k (get_or kept k d) d inside)).1 in
    let number : (get_or kept k d).table.0 ≡ table.0 = grind (arith, nat_tests, is) in
    (λ at. record { 0 = number at }) in
    AllPairs-filter (λ (a b : TableFile). a.table ≡ b.table → R a b) (is_of_table table) files pairs
    i j d low high (table_at i first ∙ sym (table_at j high))

module _ (sizes : Sizes) (opened after : Files) (later : List Change) (log : StoreLog)
    (deeds : Deeds) (history : List LoggedLine)
    (e : HasEnded sizes opened after later log deeds history) where
  abbrev placed : List PlacedFile
  placed = e.folder.placed

  abbrev file_of : PlacedFile → TableFile
  file_of p = file_on log.base p.put

  files_are : map file_of placed ≡ files_by log deeds
  files_are =
      both placed ∙ ap (λ (l : List PutFile). map (file_on log.base) l) e.folder.are_placed.are
    where
      both : (ps : List PlacedFile)
          → map file_of ps ≡ map (file_on log.base) (map (λ (p : PlacedFile). p.put) ps)
      both [] = refl
      both (p ∷ ps) = ap (λ (l : List TableFile). file_of p ∷ l) (both ps)

  was_put : (p : PlacedFile) → Contains placed p → Contains deeds.files p.put
  was_put p among =
      subst (λ (l : List PutFile). Contains l p.put) e.folder.are_placed.are
      (in_map (λ (x : PlacedFile). x.put) placed p among)

  stands : (p : PlacedFile) → Contains placed p → finmap.get after (name_of p) ≡ Some p.bytes
  stands p among =
      e.folder.stands.rows (name_of p) p.bytes (inr (inr (record {
        file = p;
        among = among;
        name_is = refl;
        bytes_are = refl;
      })))

  pub is_put : (file : TableFile) → Contains (files_by log deeds) file
      → IsTableIn (bytes_at after) file
  is_put file h =
      let found = from_map file_of placed file
      (subst (λ (l : List TableFile). Contains l file) (sym files_are) h) in
      let p = found.0 in
      let is = e.folder.are_placed.each p found.1 in
      subst (IsTableIn (bytes_at after)) found.2 (record {
        sequence = p.sequence;
        named = is.named;
        spelled = subst (λ (b : List ℕ). IsFileOf (file_of p).table b (file_of p))
            (sym (reads_as after (name_of p) p.bytes (stands p found.1))) is.spelled;
      })

  -- ---- a table file's name is that of a row of table files alone

  no_other_row : (name : List ℕ) (table sequence : ℕ) → IsTableName name table sequence
      → ((p : PlacedFile) → Contains placed p → name ≡ name_of p → ⊥)
      → finmap.get after name ≡ finmap.get opened name
  no_other_row name table sequence named none =
      e.folder.stands.others name (λ bytes row. elim row [
        | inl segment ↦
            not_segment segment.segment.id name table sequence
            (fits sizes opened after later log deeds history e segment.segment segment.among)
            named segment.name_is
        | inr other ↦ elim other [
          | inl archive ↦ archive_is_no_table name archive.segment.id (record {
            form = archive.name_is;
            id_fits = fits sizes opened after later log deeds history e archive.segment
                (of_past sizes opened after later log deeds history e archive.segment
                archive.among);
          }) table sequence named
          | inr file ↦ none file.file file.among file.name_is
        ]
      ])

  named_or_not : (name : List ℕ)
      → ((p : PlacedFile) × Contains placed p × (name ≡ name_of p))
      ⊎ ((p : PlacedFile) → Contains placed p → name ≡ name_of p → ⊥)
  named_or_not name =
      one_or_none (λ (p : PlacedFile). name ≡ name_of p) (λ p. same_or_other name (name_of p))
      placed

  pub tables : (place : Place) (name : List ℕ) → IsNameOf place name → IsHeld after name
      → (finmap.get after name ≡ finmap.get opened name)
      ⊎ IsPut (files_by log deeds) after place name
  tables place name named held = elim (named_or_not name) [
    | inr none ↦ inl (no_other_row name place.0.0 place.1 named none)
    | inl found ↦
        let p = found.0 in
        let is = e.folder.are_placed.each p found.1 in
        let table : (file_of p).table ≡ place.0 =
        one_place name (file_of p).table place.0 p.sequence place.1
        (subst (λ (n : List ℕ). IsTableName n p.put.table p.sequence) (sym found.2) is.named)
        named in
        inr (record {
          file = file_of p;
          listed = subst (λ (l : List TableFile). Contains l (file_of p)) files_are
              (in_map file_of placed p found.1);
          good = record {
            bytes = p.bytes;
            there = ap (finmap.get after) found.2 ∙ stands p found.1;
            spelled = subst (λ (t : Table). IsFileOf t p.bytes (file_of p)) table is.spelled;
          };
        })
  ]

  -- ---- their sequences

  -- where a file stands, it is the one that was put there
  its_sequence : (p : PlacedFile) → Contains placed p → (sequence : ℕ)
      → IsTableName (table_name_of p.put.table sequence) p.put.table sequence
      → IsFileOf (file_of p).table (bytes_at after (table_name_of p.put.table sequence)) (file_of p)
      → (q : PlacedFile) × Contains placed q × (file_of q ≡ file_of p) × (q.sequence ≡ sequence)
  its_sequence p among sequence named spelled =
      let name = table_name_of p.put.table sequence in
      elim (named_or_not name) [
        | inl found ↦
            let q = found.0 in
            let is = e.folder.are_placed.each q found.1 in
            let its = subst (λ (n : List ℕ). IsTableName n q.put.table q.sequence) (sym found.2)
            is.named in
            let numbers = one_table name q.put.table q.sequence p.put.table sequence its named in
            let bytes : bytes_at after name ≡ q.bytes =
            ap (bytes_at after) found.2 ∙ reads_as after (name_of q) q.bytes (stands q found.1) in
            let table : (file_of p).table ≡ (file_of q).table =
            (λ i. record { 0 = sym numbers.0 i }) in (
              q,
              found.1,
              sym (one_table_file (file_of q).table q.bytes (file_of q) (file_of p) is.spelled
                  (subst (λ (b : List ℕ). IsFileOf (file_of q).table b (file_of p)) bytes
                  (subst (λ (t : Table). IsFileOf t (bytes_at after name) (file_of p)) table
                  spelled))),
              numbers.1,
            )
        | inr none ↦
            let still = no_other_row name p.put.table sequence named none in
            let low = e.folder.begun.tables (file_of p) (record {
              sequence = sequence;
              named = named;
              spelled = subst (λ (b : List ℕ). IsFileOf (file_of p).table b (file_of p))
                  (ap (λ (o : Option (List ℕ)). unwrap_or o []) still) spelled;
            }) in
            absurd (omega (arith, low))
      ]

  -- two of a table: the first has the lower sequence, and ends where the other begins or below
  abbrev Follows : PlacedFile → PlacedFile → Type 0
  Follows a b = a.put.table ≡ b.put.table
      → (a.sequence < b.sequence) × (a.put.upper ≤ b.put.lower)

  all_follow : AllPairs Follows placed
  all_follow i j d low high same =
      let ends = from_pairs (λ (p : PlacedFile). p.put) EndsBefore placed
      (subst (λ (l : List PutFile). AllPairs EndsBefore l) (sym e.folder.are_placed.are)
      (ascend deeds.files e.whole.in_sequence)) in
      (e.folder.are_placed.ascending i j d low high same, ends i j d low high same)

  -- the key at which a file ends is told by its position
  same_upper : (p q : PlacedFile) → file_of p ≡ file_of q → p.put.upper ≡ q.put.upper
  same_upper p q same =
      let id : log.base + ordinal_of p.put.upper ≡ log.base + ordinal_of q.put.upper =
      ap (λ (f : TableFile). f.upper.id) same in
      let offset : offset_of p.put.upper ≡ offset_of q.put.upper =
      ap (λ (f : TableFile). f.upper.offset) same in
      omega (arith, id, offset)

  rises : (p q : PlacedFile) → Contains placed p → Contains placed q → Follows p q
      → (file_of p).table ≡ (file_of q).table → StandsBefore after (file_of p) (file_of q)
  rises p q hp hq follows same first second named_p named_q at_p at_q =
      let tables : p.put.table ≡ q.put.table = ap (λ (t : Table). t.0) same in
      let a = its_sequence p hp first named_p at_p in
      let b = its_sequence q hq second named_q at_q in
      let up_a = same_upper a.0 p a.2 in
      let up_b = same_upper b.0 q b.2 in
      let table_a : a.0.put.table ≡ p.put.table = ap (λ (f : TableFile). f.table.0) a.2 in
      let table_b : b.0.put.table ≡ q.put.table = ap (λ (f : TableFile). f.table.0) b.2 in
      let below = (follows tables).1 in
      let some_q = e.whole.some q.put (was_put q hq) in
      let some_a = e.whole.some a.0.put (was_put a.0 a.1) in
      elim (either_way Follows placed all_follow a.0 b.0 a.1 b.1) [
        | inl first_so ↦
            let so = first_so (table_a ∙ tables ∙ sym table_b) in
            omega (arith, so.0, a.3, b.3)
        | inr other ↦ elim other [
          | inl one ↦
              let up : a.0.put.upper ≡ b.0.put.upper =
              ap (λ (x : PlacedFile). x.put.upper) one in
              absurd (omega (arith, up, up_a, up_b, below, some_q))
          | inr later_so ↦
              let so = later_so (table_b ∙ sym tables ∙ sym table_a) in
              absurd (omega (arith, so.1, some_a, up_a, up_b, below, some_q))
        ]
      ]

  pub rise : (table : Table) → AllPairs (StandsBefore after) (files_of table (files_by log deeds))
  rise table =
      pairs_of (StandsBefore after) table (files_by log deeds)
      (subst (λ (l : List TableFile). AllPairs
      (λ (a b : TableFile). a.table ≡ b.table → StandsBefore after a b) l) files_are
      (pairs_map file_of (λ (a b : TableFile). a.table ≡ b.table → StandsBefore after a b) placed
      (λ i j d low high.
      let first : i < length placed = omega (arith, low, high) in
      rises (get_or placed i d) (get_or placed j d)
      (i, first, get_or_default placed i (get_or placed i d) d first)
      (j, high, get_or_default placed j (get_or placed j d) d high)
      (all_follow i j d low high))))

  -- ---- just those that may go were dropped

  -- table files stand for each table's part of a segment that was dropped
  filed : (o : ℕ) → Contains deeds.dropped o → IsFiledWhole log.logged deeds.files o
  filed o gone t a b ha hb ta tb key low high =
      let parts = and_parts (ordinal_of b.start.0 == o) (touches b.tables t) tb in
      let here : ordinal_of b.start.0 ≡ o = grind (arith, nat_tests, parts.0) in
      let held = e.folder.done.filed b hb
      (subst (λ (k : ℕ). Contains deeds.dropped k) (sym here) gone) t parts.1 in
      let last = subst (λ (k : ℕ). held.file.upper ≤ upper_from k 0 deeds.files) held.of_table
      (e.folder.done.tiled held.file held.among) in
      let placed_a = e.goes.in_log.each a ha in
      holds_each t deeds.files e.whole.in_sequence key
      (omega (arith, placed_a.behind_front, placed_a.long, low))
      (omega (arith, high, held.up_to, last))

  few : sizes.capacity ≤ greatest_capacity
  few = sizes.within.greatest_capacity

  abbrev Droppable : ℕ → Type 0
  Droppable id = IsDroppable (files_by log deeds) id (entries_in id history)

  dropped_may : (id : ℕ) → Contains (ids_in log) id → Contains (dropped_ids log deeds) id
      → Droppable id
  dropped_may id listed gone =
      let found = from_map (λ (o : ℕ). log.base + o) deeds.dropped id gone in
      let l = an_entry later log.base log.past log.id log.sections log.logged history e.goes.grown
      e.goes.stored e.goes.places e.goes.notes id listed in
      let n = note_of_line log.base log.logged history e.goes.notes l.0 l.1 in
      let here : ordinal_of n.note.start.0 ≡ found.0 = omega (arith, n.is.id, l.2, found.2) in
      subst Droppable found.2
      (filed_droppable sizes.capacity log.base log.logged deeds.files history few e.goes.in_log
      e.goes.notes found.0 n.note n.listed here (filed found.0 found.1))

  may_dropped : (id : ℕ) → Contains (ids_in log) id → Droppable id
      → Contains (dropped_ids log deeds) id
  may_dropped id listed drop =
      let o = id - log.base in
      let base = from_base sizes opened after later log deeds history e id listed in
      let is : id ≡ log.base + o = omega (arith, base) in
      let own = subst Droppable is drop in
      let n = droppable_note sizes.capacity log.base log.logged deeds.files history few
      e.goes.in_log e.goes.notes o own in
      subst (λ (k : ℕ). Contains (dropped_ids log deeds) k) (sym is)
      (in_map (λ (k : ℕ). log.base + k) deeds.dropped o (e.whole.exactly o (record {
        note = n.0;
        among = n.1;
        here = n.2;
        filed = is_filed_key sizes.capacity log.base log.logged deeds.files history few
            e.goes.in_log
            e.goes.notes o own;
      })))

  pub exactly : (id : ℕ) → Contains (ids_in log) id
      → Contains (dropped_ids log deeds) id ↔ Droppable id
  exactly id listed = (dropped_may id listed, may_dropped id listed)
