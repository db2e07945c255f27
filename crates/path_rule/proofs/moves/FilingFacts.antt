-- What is so where the holder of a Flush turn has seen a memtable whole that is not empty, and the
-- log is lasting up to its bound: it may be retired with a file, and the file of what was seen may
-- be put.
use Rattle.std.proofs.Common.{
  ◌≡◌,
  ◌≢◌,
  ℕ,
  zero,
  suc,
  ◌<◌,
  ◌≤◌,
  Bool,
  true,
  false,
  cond,
  List,
  [],
  ◌∷◌,
  ◌++◌,
  length,
  map,
  Some,
  is_some,
  IsTrue,
  refl,
  sym,
  ap,
  ◌∙◌,
  subst,
  arith,
}
use Rattle.std.specs.List.{Contains, filter}
use Rattle.std.proofs.lemmas.Bool.{and_from, and_parts, le-leb, leb-true, lt-ltb, ltb-true}
use Rattle.std.proofs.lemmas.List.{length-map}
use Rattle.std.proofs.lemmas.List.Elements.{Contains-append_right}
use mathlib.Core.Logic.{inr}
use mathlib.Core.Option.{some}
use lib.ListN.{get_elem?}
use Rattle.atomic_table.specs.Table.{State, Me}
use Rattle.clog_base.specs.declared.cell.Cell.{Cell}
use Rattle.clog_base.specs.declared.cell.CellKey.{CellKey}
use Rattle.clog_base.specs.declared.cell.Table.{Table}
use Rattle.clog_cells.specs.Merge.{IsMergeOf}
use Rattle.clog_cells.proofs.Merging.{of_same}
use Rattle.clog_mutation.specs.Payload.{cells_of, pair_of}
use Rattle.path_core.specs.declared.event.Cursor.TheVariants.{OldestLive}
use Rattle.path_core.specs.declared.event.Event.{Event}
use Rattle.path_core.specs.declared.event.Event.TheVariants.{Put}
use Rattle.path_core.specs.declared.note.EntryNote.{EntryNote}
use Rattle.path_core.specs.declared.seat.Seat.{Seat as SeatOf}
use Rattle.path_core.specs.declared.seat.SyncTurn.{SyncTurn}
use Rattle.path_core.specs.declared.state.Bound.TheVariants.{Final}
use Rattle.path_core.specs.declared.state.PathState.{PathState}
use Rattle.path_core.specs.declared.state.WrittenFile.{WrittenFile}
use Rattle.path_core.specs.Allowed.{IsStep}
use Rattle.path_core.specs.History.{is_touching}
use Rattle.path_core.specs.Keeper.{IsLoggedCell}
use Rattle.path_core.specs.Keys.{after}
use Rattle.path_core.specs.Lawful.{IsLawfulPath}
use Rattle.path_core.specs.LawfulLog.{is_at_most}
use Rattle.path_core.specs.LawfulTables.{FileHoldsItsInterval, IsTouched}
use Rattle.path_core.specs.Next.{next_of}
use Rattle.path_core.specs.Parts.{
  HasPassedBarrier,
  is_empty,
  key_of_bound,
  memtable_of,
  seat_table,
  table_of,
  touches,
}
use Rattle.path_core.specs.Whole.{IsWhole}
use Rattle.path_core.proofs.files.LastFile.{before_below}
use Rattle.path_core.proofs.files.Retires.{next_file as file_next}
use Rattle.path_core.proofs.lists.Inserted.{map_from}
use Rattle.path_core.proofs.lists.Passing.{filter_from, kept_in}
use Rattle.path_core.proofs.places.KeepsPlaces.{same_note}
use Rattle.path_core.proofs.runs.EveryRun.{keeps_lawful, placing_of}
use Rattle.path_rule.specs.declared.lasting.Beside.{Beside}
use Rattle.path_rule.specs.declared.lasting.Lasting.{Lasting}
use Rattle.path_rule.specs.declared.lasting.PutTable.{PutTable}
use Rattle.path_rule.specs.declared.slot.Slot.{Slot}
use Rattle.path_rule.specs.declared.view.FlushRead.{FlushRead}
use Rattle.path_rule.specs.declared.view.PathSize.{PathSize}
use Rattle.path_rule.specs.declared.view.Role.TheVariants.{Steps}
use Rattle.path_rule.specs.declared.view.View.{View}
use Rattle.path_rule.specs.Filing.{IsCellBetween, IsCellIn, MayPut, upper_of}
use Rattle.path_rule.specs.FilingTold.{AreSeen, FoundFinal, SeesAll, next_file}
use Rattle.path_rule.specs.Lasts.{lasting_of, put_file, put_table, shown}
use Rattle.path_rule.specs.Reads.{ReadsAre, placed_at}
use Rattle.path_rule.specs.Rule.{Ruled}
use Rattle.path_rule.proofs.boxes.ReadsStay.{read_live}
use Rattle.path_rule.proofs.boxes.SeenInterval.{all_seen}
use Rattle.path_rule.proofs.log.FilesShown.{few_files, last_is, upper_held}
use Rattle.path_rule.proofs.log.NotesBehind.{ends_below}
use Rattle.path_rule.proofs.moves.HolderFacts.{is_held, hands_now}
use Rattle.path_rule.proofs.moves.LeavesWrites.{not_empty}
use Rattle.path_rule.proofs.moves.Looks.{few_tables, own_part, within}
use Rattle.path_rule.proofs.moves.Moving.{core_lawful, known, part_is, reads_now}
use Rattle.path_rule.proofs.moves.SyncFacts.{turn_exact}

first_of : (l : List EntryNote) → l ≢ [] → (n : EntryNote) × Contains l n
first_of [] filled = absurd (filled refl)
first_of (n ∷ ns) filled = (n, (zero, (let l : 0 < suc (length ns) = omega arith in l), refl))

-- an entry with a cell of a table touches it
touched_by : (n : EntryNote) (whole : IsWhole n) (t : ℕ) (pair : CellKey × Cell)
    → Contains (cells_of whole.mutation) pair → pair.0.table.0 ≡ t → IsTrue (touches n.tables t)
touched_by n whole t pair h at = let u = map_from (pair_of whole.mutation.key)
    whole.mutation.updates pair h in
    (whole.tables t).1 (record {
      update = u.0;
      among = u.1;
      table = ap (λ (p : CellKey × Cell). p.0.table.0) u.2 ∙ at;
    })

module _ {K : Type 0} (shows : K → Lasting) (o : Beside) (size : PathSize) (slots id : ℕ)
    (m : Me (Slot K) View) (w : ℕ) (mine : m.0.role ≡ Steps w) (s : State (Slot K) View)
    (r : Ruled shows o size s) (there : get_elem? s.views id ≡ some m.0) (t : Table) (k bound : ℕ)
    (q : FlushRead) (inside : t.0 < m.0.size.tables) (sees : SeesAll size.seats m.0.hands t.0 k q)
    (some_seen : q.seen ≢ []) (final : FoundFinal t.0 m.0.part k bound) where
  abbrev x : PathState
  x = r.core

  abbrev L : IsLawfulPath x
  L = core_lawful shows o size s r

  abbrev e : Event
  e = Put w (OldestLive t) (suc k)

  reads : ReadsAre size.seats r.core m.0.part q
  reads = reads_now shows o size s r id w m.0 there mine q sees.0

  pub live : (table_of x t.0).oldest_live ≡ k
  live = ap (λ (c : ℕ). (table_of x c).oldest_live) (sym sees.1)
      ∙ (read_live size.seats x m.0.part q reads sees.5 ∙ sees.2)

  pub passed : HasPassedBarrier x t.0 k
  passed = subst (λ (y : ℕ × ℕ). HasPassedBarrier x y.0 y.1) (λ i. (sees.1 i, sees.2 i))
      reads.passed

  pub bound_is : (memtable_of x t.0 k).bound ≡ Final (record { 0 = bound })
  bound_is = ((L.seats_know w).bounds t.0
      (record { memtable = k; bound = Final (record { 0 = bound }) })
      (ap (λ (p : SeatOf). (seat_table p t.0).bound)
      (sym (part_is shows o size s r id w m.0 there mine)) ∙ final)).stays

  -- what was seen was placed there
  placed_here : (n : EntryNote) → Contains q.seen n
      → Contains x.notes n × Contains x.placed (placed_at t.0 k n)
  placed_here n h = let S = reads.sound n h in (
    S.0,
    subst (λ (y : ℕ × ℕ). Contains x.placed (placed_at y.0 y.1 n))
        (λ i. (sees.1 i, sees.2 i)) S.1,
  )

  pub filled : is_empty x t.0 (table_of x t.0).oldest_live ≡ false
  filled = let n = first_of q.seen some_seen in
      by (is_empty x t.0 (table_of x t.0).oldest_live) refl
      (not_empty x t.0 k n.0.end.0 (placed_here n.0 n.1).1)
    where
      by : (b : Bool) → is_empty x t.0 (table_of x t.0).oldest_live ≡ b
          → (is_empty x t.0 k ≡ true → ⊥) → b ≡ false
      by false is never = refl
      by true is never = absurd (never (subst (λ (c : ℕ). is_empty x t.0 c ≡ true) live is))

  module _ (turn : SyncTurn) (sync : m.0.part.sync ≡ Some turn) (runs : turn.stopped ≡ Some 0)
      (lasting : bound ≤ after x.capacity x.synced) where
    pub may : IsStep x e
    may = record {
      seat = within shows o size slots id m w mine s r there;
      is_there = few_tables shows o size slots id m w mine s r there t.0 inside;
      row = (
        ap (λ (p : SeatOf). is_some (seat_table p t.0).flush)
            (sym (part_is shows o size s r id w m.0 there mine))
            ∙ (ap (λ (c : ℕ). is_some (seat_table m.0.part c).flush) (sym sees.1)
            ∙ reads.held),
        ap suc (sym live),
        subst (λ (c : ℕ). HasPassedBarrier x t.0 c) (sym live) passed,
        inr (record {
          holds = own_part shows o size slots id m w mine s r there
              (λ (p : SeatOf). is_some p.sync) true (is_held m.0.part.sync turn sync);
          runs = sym ((turn_exact shows o size slots id m w mine s r there turn sync).stopped 0
              runs);
          bound = bound;
          final = subst (λ (c : ℕ). (memtable_of x t.0 c).bound ≡ Final (record { 0 = bound }))
              (sym live) bound_is;
          lasting = lasting;
        }),
      );
    }

    -- the file that the state has then
    abbrev pub file : WrittenFile
    file = file_next x t.0

    pub files_then : (next_of x e).files ≡ x.files ++ file ∷ []
    files_then = ap (λ (b : Bool). cond b x.files (x.files ++ file ∷ [])) filled

    next_lawful : IsLawfulPath (next_of x e)
    next_lawful = keeps_lawful x L e may tt

    holds_interval : FileHoldsItsInterval (next_of x e) file
    holds_interval = next_lawful.files_are_true file (subst (λ (l : List WrittenFile).
        Contains l file) (sym files_then) (Contains-append_right x.files (file ∷ []) file
        (zero, (let l : 0 < suc (length {A = WrittenFile} []) = omega arith in l), refl)))

    pub upper_is : file.upper ≡ bound
    upper_is = ap key_of_bound (ap (λ (c : ℕ). (memtable_of x t.0 c).bound) live ∙ bound_is)

    -- what was seen is what the notes have in the file's interval
    pub seen_between : (pair : CellKey × Cell)
        → (IsCellIn q.seen t.0 pair → IsCellBetween x.notes t.0 file.lower bound pair)
        × (IsCellBetween x.notes t.0 file.lower bound pair → IsCellIn q.seen t.0 pair)
    seen_between pair = (
      (λ c. let P = placed_here c.note c.among in
          let T = (holds_interval c.note.end.0).0 (subst (λ (j : ℕ). Contains x.placed
          (record { table = t.0; entry = c.note.end.0; memtable = j })) (sym live) P.1) in
          let f = filter_from (is_touching t.0 file.lower file.upper) x.notes T.note T.among in
          let both = and_parts _ _ f.1 in let ends = T.position in let up = upper_is in
          let low = ltb-true file.lower T.note.end.0 (and_parts _ _ both.0).1 in
          let high = leb-true T.note.end.0 file.upper both.1 in
          record {
            note = c.note;
            among = P.0;
            whole = c.whole;
            listed = c.listed;
            of_table = c.of_table;
            above = omega arith;
            up_to = omega arith;
          }),
      (λ c. let up = upper_is in let low = c.above in let high = c.up_to in
          let T : IsTouched (next_of x e) t.0 file.lower file.upper c.note.end.0 = record {
            note = c.note;
            among = kept_in (is_touching t.0 file.lower file.upper) x.notes c.note c.among
                (and_from _ _ (and_from _ _
                (touched_by c.note c.whole t.0 pair c.listed c.of_table)
                (lt-ltb file.lower c.note.end.0 (omega arith)))
                (le-leb c.note.end.0 file.upper (omega arith)));
            position = refl;
          } in
          let placed = (holds_interval c.note.end.0).1 T in
          let n = all_seen shows o size s r id w m.0 q there mine sees.0 sees.5 sees.4
          c.note.end.0
          (subst (λ (y : ℕ × ℕ). Contains x.placed
          (record { table = y.0; entry = c.note.end.0; memtable = y.1 }))
          (λ i. (sym sees.1 i, (live ∙ sym sees.2) i)) placed) in
          let Z = placing_of x L in
          let same = same_note x Z.core Z.places n.0 c.note (reads.sound n.0 n.1).0 c.among n.2 in
          record {
            note = c.note;
            among = subst (λ (a : EntryNote). Contains q.seen a) same n.1;
            whole = c.whole;
            listed = c.listed;
            of_table = c.of_table;
          }),
    )

    pub file_of_seen : (cells : List (CellKey × Cell)) → AreSeen q t.0 cells
        → IsMergeOf (IsCellBetween x.notes t.0 file.lower bound) cells
    file_of_seen cells seen = of_same (IsCellIn q.seen t.0)
        (IsCellBetween x.notes t.0 file.lower bound) cells (λ pair. seen_between pair) seen

    -- where the desk says that the table's files end is where the state has it
    pub lower_is : next_file m.0.hands.lasting t.0 bound [] ≡ next_file
        (shown o size.at_open r.kept_to r.filed r.dropped x) t.0 bound []
    lower_is = ap (λ (l : Lasting). next_file l t.0 bound [])
        ((hands_now shows o size slots id m w mine s r there).desk
        (is_held m.0.part.sync turn sync)).0

    pub ends_at : (next_file m.0.hands.lasting t.0 bound []).lower ≡ file.lower
    ends_at = ap (λ (f : PutTable). f.lower) lower_is ∙ last_is t.0 r.filed.files x.files
        r.filing.ranged

    forward : file.lower ≤ bound
    forward = let F = L.last_file_is_retired.below t.0
        (few_tables shows o size slots id m w mine s r there t.0 inside) in
        let B = before_below x (placing_of x L) t.0 (table_of x t.0).oldest_live
        (record { 0 = bound }) (omega arith)
        (subst (λ (c : ℕ). (memtable_of x t.0 c).bound ≡ Final (record { 0 = bound })) (sym live)
        bound_is) in omega arith

    pub may_be_put : (cells : List (CellKey × Cell)) → AreSeen q t.0 cells
        → MayPut m.0.hands.lasting (next_file m.0.hands.lasting t.0 bound cells)
    may_be_put cells seen h holds = let D = (hands_now shows o size slots id m w mine s r
        there).desk
        (is_held m.0.part.sync turn sync) in
        let E : lasting_of h ≡ shown o size.at_open r.kept_to r.filed r.dropped x = holds ∙ D.0 in
        let files : map put_table h.files ≡ r.filed.files =
        ap (λ (l : Lasting). l.filed.files) E in
        let capacity : h.sizes.capacity ≡ x.capacity = ap (λ (l : Lasting). l.capacity) E in
        let synced : h.synced ≡ x.synced = ap (λ (l : Lasting). l.synced) E in
        let tables : h.sizes.tables ≡ m.0.size.tables =
        ap (λ (l : Lasting). l.beside.tables) E ∙ (r.tabled
        ∙ ap (λ (z : PathSize). z.tables) (sym (known shows o size s r id w m.0 there mine).0)) in
        let logged : h.logged ≡ filter (is_at_most x.synced) x.notes =
        ap (λ (l : Lasting). l.logged) E in
        let f = next_file m.0.hands.lasting t.0 bound cells in record {
          table_is = omega arith;
          lasting = subst (λ (y : ℕ × ℕ). bound ≤ after y.0 y.1)
              (λ i. (sym capacity i, sym synced i)) lasting;
          goes_on = ap (λ (l : List PutTable). upper_of t.0 l)
              (ap (λ (l : Lasting). l.filed.files) (sym holds)) ∙ upper_held t.0 0 h.files;
          forward = (let low = ends_at in let ahead = forward in omega arith);
          merged = of_same (IsCellBetween x.notes t.0 file.lower bound)
              (IsLoggedCell h (put_file f)) cells (λ pair. (
                (λ c. record {
                  note = c.note;
                  among = subst (λ (l : List EntryNote). Contains l c.note) (sym logged)
                      (kept_in (is_at_most x.synced) x.notes c.note c.among
                      (le-leb c.note.end.0 x.synced (ends_below x L c.note c.among
                      (let up = c.up_to in omega arith))));
                  whole = c.whole;
                  listed = c.listed;
                  of_table = c.of_table;
                  above = (let low = ends_at in let a = c.above in omega arith);
                  up_to = c.up_to;
                }),
                (λ c. record {
                  note = c.note;
                  among = (filter_from (is_at_most x.synced) x.notes c.note
                      (subst (λ (l : List EntryNote). Contains l c.note) logged c.among)).0;
                  whole = c.whole;
                  listed = c.listed;
                  of_table = c.of_table;
                  above = (let low = ends_at in let a = c.above in omega arith);
                  up_to = c.up_to;
                }),
              )) (file_of_seen cells seen);
          few = (let long = sym (length-map h.files put_table)
              ∙ ap (λ (l : List PutTable). length l) files in
              let few = few_files x L r.rows size r.filed r.dropped r.filing in omega arith);
        }
