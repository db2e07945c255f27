-- What a store has appended and done where writers flush over it, however far they have come, and
-- whatever was answered.
use Rattle.std.proofs.Common.{
  ◌≡◌,
  false,
  List,
  [],
  ◌++◌,
  Option,
  sym,
  ◌∙◌,
  ap,
  subst,
  append_assoc,
}
use Rattle.std.specs.Prelude.{Contains}
use Rattle.clog_base.specs.declared.sizes.Sizes.{Sizes}
use Rattle.clog_base.specs.Positions.{ordinal_of}
use Rattle.clog_disk.specs.declared.change.Change.{Change}
use Rattle.clog_disk.specs.Files.{Files}
use Rattle.clog_mutation.specs.declared.mutation.Mutation.{Mutation}
use Rattle.path_core.specs.declared.note.EntryNote.{EntryNote}
use Rattle.path_core.specs.History.{IsHistory}
use Rattle.path_core.specs.Keeper.{Holding, PutFile}
use Rattle.clog_segments.specs.NoteLog.{IsNoteLog}
use Rattle.clog_segments.specs.StoreFolder.{IsSound, log_of}
use Rattle.clog_segments.specs.StoreOrder.{AreSettled}
use Rattle.clog_segments.specs.StoreState.{HasOrdered, StoreState, deeds_by}
use Rattle.clog_applied.specs.History.{LoggedLine}
use Rattle.clog_layout.specs.Logged.{AreNotesOf}
use Rattle.clog_layout.proofs.Lines.{are_notes, lines_for}
use Rattle.clog_closing.specs.Beside.{HoldsNote}
use Rattle.clog_closing.specs.Sequence.{AreInSequence}
use Rattle.clog_closing.specs.Stores.{files_by, ids_in}
use Rattle.clog_closing.specs.Written.{AllStand, HasComeInOrder}
use Rattle.clog_closing.proofs.Begun.{are_whole, entries, in_turn, its_taken, log_in, own}
use Rattle.clog_closing.proofs.Taken.{first_history}
use Rattle.clog_writers.specs.Logged.{HoldFirsts}
use Rattle.clog_writers.proofs.Crashing.{holds_firsts}
use Rattle.clog_writers.proofs.FirstLogged.{fewer_held}

module _ {D : Type 0} (changes : D → Option (List Change)) (e : StoreState D)
    (ordered : HasOrdered changes e) (settled : AreSettled e.notes e.files)
    (notes : IsNoteLog e.notes) (sound : IsSound e.notes.log)
    (apart : (n : EntryNote) → Contains e.notes.kept n
    → Contains e.dropped (ordinal_of n.start.0) → ⊥) (k : Holding) (sizes : Sizes)
    (ms : List Mutation)
    (held : HoldFirsts sizes.writers ms (e.notes.logged ++ e.notes.kept))
    (in_log : IsHistory sizes.capacity (e.notes.logged ++ e.notes.kept)) where
  -- the entries that its disk has taken
  abbrev taken : List EntryNote
  taken = entries changes e ordered settled notes sound apart k

  abbrev rest : List EntryNote
  rest = (its_taken changes e ordered settled notes sound apart k).rest

  all_are : e.notes.logged ++ e.notes.kept ≡ taken ++ rest
  all_are =
      let t = its_taken changes e ordered settled notes sound apart k in
      ap (λ (l : List EntryNote). e.notes.logged ++ l) t.kept_are
      ∙ sym (append_assoc e.notes.logged t.run t.rest)

  in_order : IsHistory sizes.capacity taken
  in_order = first_history sizes.capacity taken rest
      (subst (IsHistory sizes.capacity) all_are in_log)

  history : List LoggedLine
  history = lines_for taken e.notes.base
      (are_whole changes e ordered settled notes sound apart k)

  lines : AreNotesOf e.notes.base taken history
  unfolding history
  lines = are_notes taken e.notes.base
      (are_whole changes e ordered settled notes sound apart k)

  pub has_come : (now : Option Files)
      → AllStand now (files_by (log_of e.notes) (deeds_by e))
      → (e.archives ≡ false → e.archived ≡ []) → AreInSequence e.files
      → ((put : PutFile) → Contains e.files put
      → HoldsNote (own changes e ordered settled notes sound apart k) put)
      → HasComeInOrder e.archives e.notes.base sizes.writers ms now ordered.growth.added
  has_come now there none_archived sequence holds = record {
    ids = ids_in (log_in changes e ordered settled notes sound apart k);
    history = history;
    files = files_by (log_in changes e ordered settled notes sound apart k) (deeds_by e);
    turns = in_turn changes e ordered settled notes sound apart k sizes history in_order lines now
        there none_archived sequence holds;
    holds = holds_firsts e.notes.base sizes.writers ms taken history lines
        (fewer_held sizes.writers ms taken rest
        (subst (HoldFirsts sizes.writers ms) all_are held));
  }
