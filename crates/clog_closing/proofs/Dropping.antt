-- A keeper's segment may be dropped exactly where its entries of the history are filed.
use Rattle.std.proofs.Common.{
  ◌≡◌,
  ℕ,
  ◌+◌,
  ◌^◌,
  ◌<◌,
  ◌≤◌,
  List,
  [],
  map,
  Bool,
  true,
  IsTrue,
  sym,
  ◌∙◌,
  ap,
  subst,
  arith,
}
use Rattle.std.specs.Prelude.{Contains, ◌==◌, ◌&&◌}
use Rattle.std.proofs.lemmas.Bool.{and_parts}
use Rattle.std.proofs.lemmas.Bool.Decides.{nat_tests}
use Rattle.clog_spec.specs.Sizes.{greatest_capacity}
use Rattle.clog_base.specs.declared.cell.Table.{Table}
use Rattle.clog_base.specs.declared.position.Position.{Position}
use Rattle.clog_base.specs.Positions.{
  IsBelow,
  IsUpTo,
  key_of,
  offset_of,
  ordinal_of,
  position_of,
}
use Rattle.clog_base.proofs.Members.{from_map, in_map, nothing_there}
use Rattle.clog_scan.specs.Segment.{Entry}
use Rattle.clog_table.specs.declared.table_file.TableFile.{TableFile}
use Rattle.clog_crash.specs.Droppable.{IsDroppable, IsFiled, Touches}
use Rattle.path_core.specs.declared.note.EntryNote.{EntryNote}
use Rattle.path_core.specs.Droppable.{is_of}
use Rattle.path_core.specs.History.{IsHistory}
use Rattle.path_core.specs.Keeper.{Holding, IsFiledIn, MayDrop, PutFile}
use Rattle.path_core.specs.Parts.{touches}
use Rattle.clog_segments.specs.OnDisk.{file_on}
use Rattle.clog_segments.specs.StoreOrder.{IsFiledWhole}
use Rattle.clog_applied.specs.Appended.{entries_in}
use Rattle.clog_applied.specs.History.{LoggedLine, entry_of}
use Rattle.clog_applied.proofs.Merged.{its_entry, of_entry}
use Rattle.clog_layout.specs.Logged.{AreNotesOf, IsNoteOf}
use Rattle.clog_layout.proofs.Lines.{is_position, touches_it}
use Rattle.clog_closing.proofs.Tables.{
  below_from,
  below_key,
  line_of_note,
  note_of_line,
  up_to_from,
  up_to_key,
}

module _ (capacity base : ℕ) (logged : List EntryNote) (put : List PutFile)
    (history : List LoggedLine) (few : capacity ≤ greatest_capacity)
    (is_history : IsHistory capacity logged) (are : AreNotesOf base logged history) (o : ℕ) where
  abbrev files : List TableFile
  files = map (file_on base) put

  abbrev entries : List Entry
  entries = entries_in (base + o) history

  -- a note of the segment, and its line
  record IsHere (n : EntryNote) (w : LoggedLine) : Type 0 where
    pub among : Contains logged n
    pub listed : Contains history w
    pub is : IsNoteOf base n w
    pub ordinal : ordinal_of n.start.0 ≡ o
    pub id : w.id ≡ base + o
    pub end_ordinal : ordinal_of n.end.0 ≡ o
    pub end_offset : offset_of n.end.0 ≡ w.end

  here_so : (n : EntryNote) (w : LoggedLine) → Contains logged n → Contains history w
      → IsNoteOf base n w → w.id ≡ base + o → IsHere n w
  here_so n w among listed is id =
      let at = is_position base capacity n w few (is_history.each n among) is in
      let ends : w.id ≡ base + ordinal_of n.end.0 = ap (λ (p : Position). p.id) at in
      let offset : w.end ≡ offset_of n.end.0 = ap (λ (p : Position). p.offset) at in
      let starts = is.id in
      record {
        among = among;
        listed = listed;
        is = is;
        ordinal = omega (arith, id, starts);
        id = id;
        end_ordinal = omega (arith, id, ends);
        end_offset = sym offset;
      }

  -- from an entry of the segment to its note and line
  record Found (e : Entry) : Type 0 where
    pub note : EntryNote
    pub line : LoggedLine
    pub there : IsHere note line
    pub is : entry_of line ≡ e

  found : (e : Entry) → Contains entries e → Found e
  found e listed =
      let f = of_entry history (base + o) e listed in
      let n = note_of_line base logged history are f.line f.listed in
      record {
        note = n.note;
        line = f.line;
        there = here_so n.note f.line n.listed f.listed n.is f.there;
        is = f.is;
      }

  -- and from a note of the segment to its line
  record Lined (n : EntryNote) : Type 0 where
    pub line : LoggedLine
    pub there : IsHere n line
    pub entry : Contains entries (entry_of line)

  lined : (n : EntryNote) → Contains logged n → ordinal_of n.start.0 ≡ o → Lined n
  lined n among ordinal =
      let l = line_of_note base logged history are n among in
      let id : l.line.id ≡ base + o = l.is.id ∙ ap (λ (k : ℕ). base + k) ordinal in
      record {
        line = l.line;
        there = here_so n l.line among l.listed l.is id;
        entry = subst (λ (i : ℕ). Contains (entries_in i history) (entry_of l.line)) id
            (its_entry history l.line l.listed);
      }

  -- ---- where table files hold a place

  filed_at : (table : Table) (key : ℕ) → ordinal_of key ≡ o → IsFiledIn put table.0 key
      → IsFiled files table (record { id = base + o; offset = offset_of key })
  filed_at table key ordinal filed =
      let f = filed.file in
      let number = filed.of_table in
      let id : base + ordinal_of key ≡ base + o = ap (λ (k : ℕ). base + k) ordinal in
      let at : position_of base key ≡ record { id = base + o; offset = offset_of key } =
      λ i. record { id = id i; offset = offset_of key } in
      record {
        file = file_on base f;
        listed = in_map (file_on base) put f filed.among;
        same_table = λ i. record { 0 = number i };
        inside = record {
          above = subst (IsBelow (position_of base f.lower)) at
              (below_from base f.lower key filed.above);
          up_to = subst (λ (p : Position). IsUpTo p (position_of base f.upper)) at
              (up_to_from base key f.upper filed.up_to);
        };
      }

  filed_key : (table : Table) (key : ℕ) → ordinal_of key ≡ o
      → IsFiled files table (record { id = base + o; offset = offset_of key })
      → IsFiledIn put table.0 key
  filed_key table key ordinal filed =
      let f = from_map (file_on base) put filed.file filed.listed in
      let id : base + o ≡ base + ordinal_of key =
      ap (λ (k : ℕ). base + k) (sym ordinal) in
      let at : record { id = base + o; offset = offset_of key } ≡ position_of base key =
      λ i. record { id = id i; offset = offset_of key } in
      record {
        file = f.0;
        among = f.1;
        of_table = ap (λ (x : TableFile). x.table.0) f.2 ∙ ap (λ (t : Table). t.0)
            filed.same_table;
        above = below_key base f.0.lower key (subst (IsBelow (position_of base f.0.lower)) at
            (subst (λ (x : TableFile). IsBelow x.lower
            (record { id = base + o; offset = offset_of key })) (sym f.2) filed.inside.above));
        up_to = up_to_key base key f.0.upper
            (subst (λ (p : Position). IsUpTo p (position_of base f.0.upper)) at
            (subst (λ (x : TableFile). IsUpTo
            (record { id = base + o; offset = offset_of key }) x.upper) (sym f.2)
            filed.inside.up_to));
      }

  -- ---- tests

  is_here_of : (t : ℕ) (n : EntryNote) → ordinal_of n.start.0 ≡ o → IsTrue (touches n.tables t)
      → IsTrue (is_of o t n)
  is_here_of t n ordinal bit =
      let test : (ordinal_of n.start.0 == o) ≡ true = grind (arith, nat_tests, ordinal) in
      ap (λ (b : Bool). b && touches n.tables t) test ∙ bit

  of_parts : (t : ℕ) (n : EntryNote) → IsTrue (is_of o t n)
      → (ordinal_of n.start.0 ≡ o) × IsTrue (touches n.tables t)
  of_parts t n is =
      let parts = and_parts (ordinal_of n.start.0 == o) (touches n.tables t) is in
      (grind (arith, nat_tests, parts.0), parts.1)

  -- ---- both ways

  is_filed : IsFiledWhole logged put o → (table : Table) (a b : Entry)
      → Contains entries a → Contains entries b → Touches a table → Touches b table
      → (offset : ℕ) → a.end ≤ offset → offset ≤ b.end
      → IsFiled files table (record { id = base + o; offset = offset })
  is_filed whole table a b ha hb ta tb offset low high =
      let x = found a ha in
      let y = found b hb in
      let key = key_of o offset in
      let la = x.there.end_offset in
      let lb = y.there.end_offset in
      let oa = x.there.end_ordinal in
      let ob = y.there.end_ordinal in
      let ea : x.line.end ≡ a.end = ap (λ (e : Entry). e.end) x.is in
      let eb : y.line.end ≡ b.end = ap (λ (e : Entry). e.end) y.is in
      let small : offset < 2 ^ 31 = omega (arith, high, lb, eb) in
      let ordinal : ordinal_of key ≡ o = omega (arith, small) in
      let same : offset_of key ≡ offset = omega (arith, small) in
      let bit_a = (touches_it base x.note x.line x.there.is table).0
      (subst (λ (e : Entry). Touches e table) (sym x.is) ta) in
      let bit_b = (touches_it base y.note y.line y.there.is table).0
      (subst (λ (e : Entry). Touches e table) (sym y.is) tb) in
      let filed = whole table.0 x.note y.note x.there.among y.there.among
      (is_here_of table.0 x.note x.there.ordinal bit_a)
      (is_here_of table.0 y.note y.there.ordinal bit_b) key
      (omega (arith, low, la, ea, oa, small)) (omega (arith, high, lb, eb, ob, small)) in
      subst (λ (k : ℕ). IsFiled files table (record { id = base + o; offset = k })) same
      (filed_at table key ordinal filed)

  pub filed_droppable : (n : EntryNote) → Contains logged n → ordinal_of n.start.0 ≡ o
      → IsFiledWhole logged put o → IsDroppable files (base + o) entries
  filed_droppable n among here whole =
      let l = lined n among here in
      record { entry = entry_of l.line; has_entry = l.entry; filed = is_filed whole }

  pub is_filed_key : IsDroppable files (base + o) entries → IsFiledWhole logged put o
  is_filed_key drop t a b ha hb ia ib key low high =
      let table : Table = record { 0 = t } in
      let pa = of_parts t a ia in
      let pb = of_parts t b ib in
      let x = lined a ha pa.0 in
      let y = lined b hb pb.0 in
      let la = x.there.end_offset in
      let lb = y.there.end_offset in
      let oa = x.there.end_ordinal in
      let ob = y.there.end_ordinal in
      let ordinal : ordinal_of key ≡ o = omega (arith, low, high, oa, ob) in
      let filed = drop.filed table (entry_of x.line) (entry_of y.line) x.entry y.entry
      ((touches_it base a x.line x.there.is table).1 pa.1)
      ((touches_it base b y.line y.there.is table).1 pb.1) (offset_of key)
      (omega (arith, low, la, oa, ordinal)) (omega (arith, high, lb, ob, ordinal)) in
      filed_key table key ordinal filed

  -- a droppable segment has a note
  pub droppable_note : IsDroppable files (base + o) entries
      → (n : EntryNote) × Contains logged n × (ordinal_of n.start.0 ≡ o)
  droppable_note drop =
      let x = found drop.entry drop.has_entry in (x.note, x.there.among, x.there.ordinal)

-- ---- of a keeper

module _ (h : Holding) (history : List LoggedLine)
    (few : h.sizes.capacity ≤ greatest_capacity)
    (is_history : IsHistory h.sizes.capacity h.logged)
    (are : AreNotesOf h.base h.logged history) (o : ℕ) where
  abbrev Droppable : Type 0
  Droppable =
      IsDroppable (map (file_on h.base) h.files) (h.base + o) (entries_in (h.base + o) history)

  pub may_be_droppable : MayDrop h o → Droppable
  may_be_droppable may =
      filed_droppable h.sizes.capacity h.base h.logged h.files history few is_history are o
      may.note may.among may.here may.filed

  pub droppable_may_go : h.kept ≡ [] → Droppable → MayDrop h o
  droppable_may_go none drop =
      let x = droppable_note h.sizes.capacity h.base h.logged h.files history few is_history are o
      drop in
      record {
        note = x.0;
        among = x.1;
        here = x.2;
        none_kept = λ n kept is. nothing_there n
            (subst (λ (l : List EntryNote). Contains l n) none kept);
        filed = is_filed_key h.sizes.capacity h.base h.logged h.files history few is_history are o
            drop;
      }
