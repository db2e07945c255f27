-- A drain that has begun, or flushes of a run, however far they have come, also where the disk has
-- failed meanwhile: what was appended is lines, and table files and removals stand in order.
use Rattle.std.proofs.Common.{
  ◌≡◌,
  ℕ,
  ◌<◌,
  ◌≤◌,
  inl,
  inr,
  false,
  List,
  [],
  ◌∷◌,
  ◌++◌,
  Option,
  refl,
  sym,
  subst,
  arith,
  append-nil,
}
use Rattle.std.specs.Prelude.{Contains}
use Rattle.std.proofs.lemmas.List.Elements.{
  Contains-append_cases,
  Contains-append_left,
  Contains-append_right,
}
use Rattle.clog_base.specs.declared.cell.Cell.{Cell}
use Rattle.clog_base.specs.declared.cell.CellKey.{CellKey}
use Rattle.clog_base.specs.declared.sizes.Sizes.{Sizes}
use Rattle.clog_base.specs.Positions.{ordinal_of}
use Rattle.clog_base.proofs.Members.{from_map, nothing_there}
use Rattle.clog_cells.proofs.Merging.{of_same}
use Rattle.clog_disk.specs.declared.change.Change.{Change}
use Rattle.clog_disk.specs.Files.{Files}
use Rattle.clog_crash.specs.Grown.{appends_of}
use Rattle.clog_crash.specs.Log.{Write}
use Rattle.clog_crash.specs.Sections.{IsStored}
use Rattle.clog_crash.proofs.rest.Sectioned.{stored_front}
use Rattle.clog_table.specs.declared.table_file.TableFile.{TableFile}
use Rattle.path_core.specs.declared.note.EntryNote.{EntryNote}
use Rattle.path_core.specs.History.{IsHistory}
use Rattle.path_core.specs.Keeper.{Holding, IsLoggedCell, PutFile}
use Rattle.path_core.specs.Keys.{after}
use Rattle.path_core.specs.Whole.{IsWhole}
use Rattle.clog_segments.specs.NoteLog.{EndsThere, HasLog, IsNoteLog}
use Rattle.clog_segments.specs.OnDisk.{file_on}
use Rattle.clog_segments.specs.StoreFolder.{Deeds, IsSound, StoreLog, log_of}
use Rattle.clog_segments.specs.StoreOrder.{AreOrdered, AreSettled}
use Rattle.clog_segments.specs.StoreState.{HasGrown, HasOrdered, StoreState, deeds_by}
use Rattle.clog_due.proofs.OrderGoes.{ordered_appended}
use Rattle.clog_applied.specs.Appended.{IsAppended}
use Rattle.clog_applied.specs.Closed.{IsAnyFile}
use Rattle.clog_applied.specs.Early.{AreInOrder, AreRunChanges, ComeLast}
use Rattle.clog_applied.specs.Filed.{HoldsSome, IsTrueFor}
use Rattle.clog_applied.specs.History.{LoggedLine}
use Rattle.clog_applied.specs.Onward.{EndsNear}
use Rattle.clog_layout.specs.Logged.{AreNotesOf}
use Rattle.clog_layout.proofs.Lines.{lawful}
use Rattle.clog_closing.specs.Beside.{HoldsNote}
use Rattle.clog_closing.specs.Sequence.{AreInSequence}
use Rattle.clog_closing.specs.Stores.{GoesInOrder, files_by, ids_in}
use Rattle.clog_closing.specs.Written.{AllStand, AreInTurn}
use Rattle.clog_closing.proofs.Filing.{holds_some}
use Rattle.clog_closing.proofs.Following.{follow}
use Rattle.clog_closing.proofs.Logs.{is_appended}
use Rattle.clog_closing.proofs.Reaches.{near_put}
use Rattle.clog_closing.proofs.StoreOnly.{come_last, only}
use Rattle.clog_closing.proofs.StoreOrdered.{in_order as runs_in_order}
use Rattle.clog_closing.proofs.Tables.{is_true}
use Rattle.clog_closing.proofs.Taken.{HasTaken, taken}
use Rattle.clog_closing.proofs.Leaving.{in_order}

above_it : (upper key end : ℕ) → upper ≤ key → key < end → upper < end
above_it upper key end low high = omega (arith, low, high)

-- A store, as what a keeper holds tells it besides its log. No entry that is kept lies in a segment
-- that was dropped.
module _ {D : Type 0} (changes : D → Option (List Change)) (b : StoreState D)
    (ordered : HasOrdered changes b) (settled : AreSettled b.notes b.files)
    (notes : IsNoteLog b.notes) (sound : IsSound b.notes.log)
    (apart : (n : EntryNote) → Contains b.notes.kept n
    → Contains b.dropped (ordinal_of n.start.0) → ⊥) (k : Holding) where
  abbrev pub growth : HasGrown changes b.first b.notes.log
  growth = ordered.growth

  abbrev past : List Write
  past = b.notes.log.past

  abbrev id : ℕ
  id = b.notes.log.id

  pub its_taken : HasTaken b.notes notes.stands growth.part
  its_taken = taken b.notes notes.stands growth.part growth.brought

  abbrev run : List EntryNote
  run = its_taken.run

  -- the entries that the disk has taken: those that are logged, and the first that are kept
  abbrev pub entries : List EntryNote
  entries = b.notes.logged ++ run

  -- its log, as far as the disk has taken it
  abbrev pub log_in : StoreLog
  log_in = record (log_of b.notes) { sections = growth.part; logged = entries }

  abbrev deeds : Deeds
  deeds = deeds_by b

  in_kept : (n : EntryNote) → Contains run n → Contains b.notes.kept n
  in_kept n h =
      subst (λ (l : List EntryNote). Contains l n) (sym its_taken.kept_are)
      (Contains-append_left run its_taken.rest n h)

  pub are_whole : (n : EntryNote) → Contains entries n → IsWhole n
  are_whole n h =
      let all : Contains (b.notes.logged ++ b.notes.kept) n =
      elim (Contains-append_cases b.notes.logged run n h) [
        | inl old ↦ Contains-append_left b.notes.logged b.notes.kept n old
        | inr new ↦ Contains-append_right b.notes.logged b.notes.kept n (in_kept n new)
      ] in
      (notes.good n all).whole

  stored : IsStored id growth.part
  stored = elim growth.brought [
    | inl same ↦ subst (IsStored id) same sound.stored
    | inr torn ↦
        stored_front id growth.part (torn.0 ∷ []) (subst (IsStored id) torn.1 sound.stored)
  ]

  -- ---- files end in front of what is kept

  abbrev pub own : Holding
  own = record k {
    base = b.notes.base;
    sizes = b.notes.sizes;
    synced = b.notes.synced;
    logged = b.notes.logged;
    kept = b.notes.kept;
  }

  has : HasLog b.notes own
  has = record {
    base_is = refl;
    sizes_are = refl;
    synced_is = refl;
    logged_are = refl;
    kept_are = refl;
  }

  above : (n : EntryNote) → Contains run n → (put : PutFile) → Contains b.files put
      → put.upper < n.end.0
  above n h put among =
      above_it put.upper (after b.notes.sizes.capacity b.notes.synced) n.end.0
      (settled own has put among).lasting
      (notes.above n (in_kept n h))

  same_order : AreOrdered log_in deeds growth.added
  same_order =
      subst (AreOrdered log_in deeds) (append-nil growth.added)
      (ordered_appended (log_of b.notes) deeds past [] id growth.part entries run
      b.files [] b.dropped b.archived (sym (append-nil past)) refl (sym (append-nil b.files))
      above (λ n h. apart n (in_kept n h)) (λ o h. h) (λ o h. h) growth.added []
      ordered.ordered (λ c h. absurd (nothing_there c h)) refl)

  module _ (sizes : Sizes) (history : List LoggedLine)
      (in_log : IsHistory sizes.capacity entries)
      (are : AreNotesOf b.notes.base entries history) where
    goes : GoesInOrder sizes growth.added log_in deeds history
    goes = record {
      grown = growth.grown;
      ordered = same_order;
      stored = in_order (record b.notes.log { sections = growth.part })
          (appends_of growth.added) growth.grown (record {
            below = sound.below;
            past_stored = sound.past_stored;
            stored = stored;
          });
      places = its_taken.are;
      in_log = in_log;
      notes = are;
    }

    -- what was appended is the history
    brings : IsAppended growth.added (ids_in log_in) history
    brings =
        is_appended growth.added b.notes.base past id growth.part entries history
        goes.grown goes.stored goes.places goes.notes

    -- and the changes stand in order
    stands : AreInOrder IsAnyFile b.archives growth.added (ids_in log_in) history
        (files_by log_in deeds)
    stands = runs_in_order sizes growth.added log_in deeds history goes

    -- which are those of a run
    run_changes : (b.archives ≡ false → b.archived ≡ [])
        → AreRunChanges b.archives (ids_in log_in) (files_by log_in deeds) growth.added
    run_changes none_archived = only sizes growth.added log_in deeds history goes none_archived

    -- where each file reaches as far as the entries, files and removals come behind them
    pub comes_last : ((put : PutFile) → Contains b.files put → (n : EntryNote)
        → Contains entries n → n.end.0 ≤ put.upper) → ComeLast growth.added history
    comes_last reaches = come_last sizes growth.added log_in deeds history goes reaches

    -- ---- the files are true

    abbrev with_run : Holding
    with_run = record k { base = b.notes.base; sizes = sizes; logged = entries }

    forth : (put : PutFile) (pair : CellKey × Cell) → IsLoggedCell own put pair
        → IsLoggedCell with_run put pair
    forth put pair c = record {
      note = c.note;
      among = Contains-append_left b.notes.logged run c.note c.among;
      whole = c.whole;
      listed = c.listed;
      of_table = c.of_table;
      above = c.above;
      up_to = c.up_to;
    }

    back : (put : PutFile) → Contains b.files put → (pair : CellKey × Cell)
        → IsLoggedCell with_run put pair → IsLoggedCell own put pair
    back put there pair c = record {
      note = c.note;
      among = elim (Contains-append_cases b.notes.logged run c.note c.among) [
        | inl old ↦ old
        | inr new ↦ absurd (omega (arith, above c.note new put there, c.up_to))
      ];
      whole = c.whole;
      listed = c.listed;
      of_table = c.of_table;
      above = c.above;
      up_to = c.up_to;
    }

    -- in the words of a keeper that has logged these entries
    are_true : (file : TableFile) → Contains (files_by log_in deeds) file
        → IsTrueFor history file
    are_true file listed =
        let p = from_map (file_on b.notes.base) b.files file listed in
        let put = p.0 in
        subst (IsTrueFor history) p.2
        (is_true with_run history sizes.within.greatest_capacity in_log are are_whole put
        (of_same (IsLoggedCell own put) (IsLoggedCell with_run put) put.cells
        (λ pair. (forth put pair, back put p.1 pair)) (settled own has put p.1).merged))

    -- ---- each stands for an entry

    within : (put : PutFile) → HoldsNote own put → HoldsNote with_run put
    within put holds = record {
      note = holds.note;
      among = Contains-append_left b.notes.logged run holds.note holds.among;
      bit = holds.bit;
      above = holds.above;
      up_to = holds.up_to;
    }

    -- and ends near one
    ended : 0 < b.notes.synced → EndsThere b.notes.synced entries
    ended some =
        let e = notes.ended some in
        (e.0, Contains-append_left b.notes.logged run e.0 e.1, e.2)

    each_file : (P : TableFile → Type 0)
        → ((put : PutFile) → Contains b.files put → P (file_on b.notes.base put))
        → (file : TableFile) → Contains (files_by log_in deeds) file → P file
    each_file P put file listed =
        let p = from_map (file_on b.notes.base) b.files file listed in subst P p.2 (put p.0 p.1)

    -- So the changes stand in their turns, where what was done beside the log is good.
    pub in_turn : (now : Option Files) → AllStand now (files_by log_in deeds)
        → (b.archives ≡ false → b.archived ≡ []) → AreInSequence b.files
        → ((put : PutFile) → Contains b.files put → HoldsNote own put)
        → AreInTurn b.archives b.notes.base now growth.added (ids_in log_in) history
        (files_by log_in deeds)
    in_turn now there none_archived sequence holds = record {
      apart = (lawful b.notes.base sizes.capacity sizes.within.greatest_capacity entries history
          in_log are).apart;
      is_appended = brings;
      order = stands;
      only = run_changes none_archived;
      follow = λ table. follow b.notes.base table b.files sequence;
      are_true = are_true;
      for_some = each_file (HoldsSome history)
          (λ put among. holds_some with_run sizes history in_log are put
          (within put (holds put among)));
      near = each_file (EndsNear history) (λ put among.
          let its = within put (holds put among) in
          near_put b.notes.base sizes entries in_log history are b.notes.sizes.capacity
          b.notes.synced ended put (settled own has put among).lasting its.note its.among);
      stand = there;
    }
