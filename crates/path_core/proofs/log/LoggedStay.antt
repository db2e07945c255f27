-- Files and what is logged stay, and each logged position is that of a note: each allowed step
-- keeps it.
use Rattle.std.proofs.Common.{ℕ, map}
use Rattle.std.specs.List.{Contains, filter}
use Rattle.std.proofs.lemmas.List.Elements.{Contains-append_left, Contains-append_cases}
use mathlib.Core.Logic.{inl, inr}
use Rattle.path_core.specs.declared.event.Cursor.TheVariants.{Synced, OldestLive, Stopped}
use Rattle.path_core.specs.declared.event.Event.{Event}
use Rattle.path_core.specs.declared.event.Event.TheVariants.{Put}
use Rattle.path_core.specs.declared.state.PathState.{PathState}
use Rattle.path_core.specs.Next.{next_of, is_between}
use Rattle.path_core.specs.declared.note.EntryNote.{EntryNote}
use Rattle.path_core.specs.LawfulLog.{LoggedAreNotes}
use Rattle.path_core.proofs.lists.Inserted.{map_from}
use Rattle.path_core.proofs.files.Retires.{files_retired}
use Rattle.path_core.specs.declared.state.WrittenFile.{WrittenFile}
use Rattle.path_core.proofs.lists.Passing.{filter_from}
use Rattle.path_core.proofs.log.OwnNotes.{notes_stay}

module _ (x : PathState) where
  -- files and what is logged stay
  pub files_stay : (e : Event) (f : WrittenFile) → Contains x.files f
      → Contains (next_of x e).files f
  files_stay (Put by (OldestLive table) value) f h = files_retired x by table value
      (λ fs. Contains fs f) (λ _. h) (λ _. Contains-append_left x.files _ f h)
  files_stay (Put by Synced value) f h = h
  files_stay (Put by Stopped value) f h = h
  files_stay e f h = h

  pub logged_stays : (e : Event) (p : ℕ) → Contains x.logged p → Contains (next_of x e).logged p
  logged_stays (Put by Synced value) p h = Contains-append_left x.logged _ p h
  logged_stays (Put by (OldestLive table) value) p h = h
  logged_stays (Put by Stopped value) p h = h
  logged_stays e p h = h

  pub keeps_logged : LoggedAreNotes x → (e : Event) → LoggedAreNotes (next_of x e)
  keeps_logged logged (Put by Synced value) p h = elim (Contains-append_cases x.logged
      (map (λ (n : EntryNote). n.end.0) (filter (is_between x.synced value) x.notes)) p h) [
        | inl old ↦ logged p old
        | inr new ↦ let r = map_from (λ (n : EntryNote). n.end.0)
            (filter (is_between x.synced value) x.notes) p new in
            (r.0, (filter_from (is_between x.synced value) x.notes r.0 r.1).0, r.2)
      ]
  keeps_logged logged (Put by (OldestLive table) value) p h = logged p h
  keeps_logged logged (Put by Stopped value) p h = logged p h
  keeps_logged logged e p h = let r = logged p h in
      (r.0, notes_stay x e r.0 r.1, r.2)
