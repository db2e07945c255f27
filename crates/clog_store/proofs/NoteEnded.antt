-- The synced key is the end of a note that is logged.
use Rattle.std.proofs.Common.{ℕ, ◌<◌, List, [], ◌∷◌, ◌++◌, sym, ◌∙◌, arith}
use Rattle.std.proofs.lemmas.List.Elements.{Contains-append_left, Contains-append_right}
use Rattle.clog_base.proofs.Members.{further, here}
use Rattle.path_core.specs.declared.note.EntryNote.{EntryNote}
use Rattle.path_core.specs.Keeper.{FollowTo, Tile}
use Rattle.clog_segments.specs.NoteLog.{EndsThere}

-- notes that follow one another up to a key end there
ends_there : (upto : ℕ) (n : EntryNote) (ns : List EntryNote) → FollowTo upto n.end.0 ns
    → EndsThere upto (n ∷ ns)
ends_there upto n [] follow = (n, here n [], follow)
ends_there upto n (m ∷ ms) follow =
    let e = ends_there upto m ms follow.1 in (e.0, further n (m ∷ ms) e.0 e.1, e.2)

-- so it is once a run is logged too, which goes on behind the synced key
pub ended_tiled : (capacity synced upto : ℕ) (logged run : List EntryNote)
    → Tile capacity synced upto run → (0 < synced → EndsThere synced logged) → 0 < upto
    → EndsThere upto (logged ++ run)
ended_tiled capacity synced upto logged [] tiled before some =
    let e = before (omega (arith, tiled, some)) in
    (e.0, Contains-append_left logged [] e.0 e.1, e.2 ∙ sym tiled)
ended_tiled capacity synced upto logged (n ∷ ns) tiled before some =
    let e = ends_there upto n ns tiled.1 in
    (e.0, Contains-append_right logged (n ∷ ns) e.0 e.1, e.2)
