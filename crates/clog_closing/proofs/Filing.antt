-- Table files that a keeper has put, as those of a run: what its path tells of them.
use Rattle.std.proofs.Common.{
  ◌≡◌,
  ℕ,
  ◌<◌,
  ◌≤◌,
  true,
  false,
  List,
  [],
  map,
  refl,
  sym,
  ◌∙◌,
  ap,
  subst,
  arith,
}
use Rattle.std.specs.Prelude.{Bool, Contains}
use Rattle.clog_spec.specs.Sizes.{most_tables}
use Rattle.clog_base.specs.declared.cell.Table.{Table}
use Rattle.clog_base.specs.declared.position.Position.{Position}
use Rattle.clog_base.specs.declared.sizes.Sizes.{Sizes}
use Rattle.clog_base.specs.Positions.{IsBelow, IsUpTo, position_of}
use Rattle.clog_base.proofs.Members.{all_have, from_map, in_map}
use Rattle.clog_mutation.specs.Stored.{IsStoredUpdate}
use Rattle.clog_table.specs.declared.table_file.TableFile.{TableFile}
use Rattle.clog_words.specs.declared.request.ApplyOptions.{ApplyOptions}
use Rattle.clog_crash.specs.Droppable.{IsFiled, Touches}
use Rattle.clog_crash.specs.Restore.{IsInInterval}
use Rattle.path_core.specs.declared.note.EntryNote.{EntryNote}
use Rattle.path_core.specs.History.{IsHistory}
use Rattle.path_core.specs.Keeper.{Holding, PutFile}
use Rattle.path_core.specs.Whole.{IsWhole}
use Rattle.clog_segments.specs.OnDisk.{file_on}
use Rattle.clog_applied.specs.Asked.{flushes}
use Rattle.clog_applied.specs.Filed.{
  FollowFrom,
  HoldsSome,
  IsTrueFor,
  files_of as files_of_table,
  first_of,
}
use Rattle.clog_applied.specs.History.{LoggedLine, entry_of, logged_at}
use Rattle.clog_layout.specs.Logged.{AreNotesOf, IsNoteOf}
use Rattle.clog_layout.proofs.Lines.{is_position, touches_it}
use Rattle.clog_closing.specs.Beside.{AreAllFiled, HasFinished, HoldsNote}
use Rattle.clog_closing.specs.Drained.{HasNoDeeds}
use Rattle.clog_closing.proofs.Following.{follow}
use Rattle.clog_closing.proofs.Good.{merged_on}
use Rattle.clog_closing.proofs.Tables.{
  below_from,
  is_true,
  line_of_note,
  note_of_line,
  up_to_from,
}

-- What a run's table files have to be, by whether it is drained, and whether it flushes at all.
pub record AreFilesFor (base : ℕ) (history : List LoggedLine) (options : ApplyOptions)
    (files : List TableFile) : Type 0 where
  pub follow : (table : Table) → FollowFrom (first_of base) (files_of_table table files)
  pub are_true : (file : TableFile) → Contains files file → IsTrueFor history file
  pub for_some : (file : TableFile) → Contains files file → HoldsSome history file
  pub drained : options.drain ≡ true → (table : Table) (w : LoggedLine) → Contains history w
      → Touches (entry_of w) table → IsFiled files table (logged_at w)
  pub none : flushes options ≡ false → files ≡ []

module _ (h : Holding) (sizes : Sizes) (history : List LoggedLine)
    (in_log : IsHistory sizes.capacity h.logged) (are : AreNotesOf h.base h.logged history) where
  abbrev files : List TableFile
  files = map (file_on h.base) h.files

  -- where the entry of a note ends within a file, the file's interval holds it
  inside_of : (put : PutFile) (n : EntryNote) (w : LoggedLine) → Contains h.logged n
      → IsNoteOf h.base n w → put.lower < n.end.0 → n.end.0 ≤ put.upper
      → IsInInterval (file_on h.base put) (logged_at w)
  inside_of put n w listed is_note above up_to =
      let at : logged_at w ≡ position_of h.base n.end.0 =
      is_position h.base sizes.capacity n w sizes.within.greatest_capacity (in_log.each n listed)
      is_note in
      record {
        above = subst (IsBelow (position_of h.base put.lower)) (sym at)
            (below_from h.base put.lower n.end.0 above);
        up_to = subst (λ (p : Position). IsUpTo p (position_of h.base put.upper)) (sym at)
            (up_to_from h.base n.end.0 put.upper up_to);
      }

  -- each file is of a table that a note within it touches
  pub holds_some : (put : PutFile) → HoldsNote h put → HoldsSome history (file_on h.base put)
  holds_some put holds =
      let w = line_of_note h.base h.logged history are holds.note holds.among in
      record {
        line = w.line;
        listed = w.listed;
        touches = (touches_it h.base holds.note w.line w.is (record { 0 = put.table })).1 holds.bit;
        inside = inside_of put holds.note w.line holds.among w.is holds.above holds.up_to;
      }

  is_filed : AreAllFiled h → (table : Table) (w : LoggedLine) → Contains history w
      → Touches (entry_of w) table → IsFiled files table (logged_at w)
  is_filed all table w listed touches =
      let n = note_of_line h.base h.logged history are w listed in
      let bit = (touches_it h.base n.note w n.is table).0 touches in
      let one = all_have IsStoredUpdate touches.mutation.updates touches.update
      touches.said.stored.updates touches.listed in
      let same : touches.update.table.0 ≡ table.0 =
      ap (λ (t : Table). t.0) touches.same_table in
      let few = one.table in
      let low : table.0 < most_tables = omega (arith, few, same) in
      let f = all n.note n.listed table.0 low bit in
      let number = f.of_table in
      record {
        file = file_on h.base f.file;
        listed = in_map (file_on h.base) h.files f.file f.among;
        same_table = λ i. record { 0 = number i };
        inside = inside_of f.file n.note w n.listed n.is f.above f.up_to;
      }

  module _ (whole : (n : EntryNote) → Contains h.logged n → IsWhole n) (drain : Bool)
      (done : HasFinished drain h) where
    -- they are true for the history, as of a keeper of these sizes
    is_true_one : (put : PutFile) → Contains h.files put → IsTrueFor history (file_on h.base put)
    is_true_one put among =
        let own : Holding = record h { sizes = sizes } in
        is_true own history sizes.within.greatest_capacity in_log are whole put
        (merged_on h own put refl (done.good.merged put among))

    -- what holds of each file that was put holds of each of the run
    each_file : (P : TableFile → Type 0)
        → ((put : PutFile) → Contains h.files put → P (file_on h.base put)) → (file : TableFile)
        → Contains files file → P file
    each_file P put file listed =
        let p = from_map (file_on h.base) h.files file listed in subst P p.2 (put p.0 p.1)

    pub files_for : (options : ApplyOptions) → options.drain ≡ drain
        → (flushes options ≡ false → HasNoDeeds h) → AreFilesFor h.base history options files
    files_for options drain_is none = record {
      follow = λ table. follow h.base table h.files done.good.in_sequence;
      are_true = each_file (IsTrueFor history) is_true_one;
      for_some = each_file (HoldsSome history)
          (λ put among. holds_some put (done.good.for_some put among));
      drained = λ all. is_filed (done.filed (sym drain_is ∙ all));
      none = λ flushless. ap (map (file_on h.base)) (none flushless).no_file;
    }
